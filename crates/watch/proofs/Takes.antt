-- What a list of frames grades: the traces of frames that begin alike.
use Rattle.std.proofs.Common.{◌≡◌, ℕ, ◌+◌, ◌*◌, ◌<◌, Bool, true, false, cond, ltb, List, map, get_or, take, sym, refl, ap, ◌∙◌, ⊎_elim}
use mathlib.Core.Path.{fun_ext}
use lib.Arith.{digits_lt}
use lib.ListN.{get_or-map}
use Rattle.std.proofs.lemmas.List.{get_or-take}
use Rattle.std.proofs.lemmas.Bool.{le-ltb, cond-false, cases_lt}
use Rattle.grade.specs.Lattice.{Lattice}
use Rattle.grade.specs.Translations.{Carries}
use Rattle.formula.specs.Known.{Agree}
use Rattle.watch.specs.Marking.{log_trace}

module _ {V : Type 0} (l : Lattice V) (facts : ℕ) where
  -- lists that begin with the same n frames have traces that agree below n
  pub traces_agree : (n : ℕ) (a b : List V) → take (n * facts) a ≡ take (n * facts) b → Agree n (log_trace l facts a) (log_trace l facts b)
  traces_agree n a b same t f early = ⊎_elim
      (λ fact.
      let before : t * facts + f < n * facts = digits_lt early fact in
      ap (λ x. cond (ltb f facts) x l.bottom) (sym (get_or-take (n * facts) a (t * facts + f) l.bottom before) ∙ ap (λ x. get_or x (t * facts + f) l.bottom) same ∙ get_or-take (n * facts) b (t * facts + f) l.bottom before))
      (λ none. cond-false (ltb f facts) (get_or a (t * facts + f) l.bottom) l.bottom (le-ltb f facts none) ∙ sym (cond-false (ltb f facts) (get_or b (t * facts + f) l.bottom) l.bottom (le-ltb f facts none)))
      (cases_lt f facts)

  -- translated frames have the translated trace
  pub trace_carried : {W : Type 0} (m : Lattice W) (h : V → W) → Carries l m h → (a : List V) → log_trace m facts (map h a) ≡ (λ t f. h (log_trace l facts a t f))
  trace_carried m h c a = fun_ext (λ t. fun_ext (λ f.
      ap (λ d. cond (ltb f facts) (get_or (map h a) (t * facts + f) d) d) (sym c.bottom)
      ∙ ap (λ x. cond (ltb f facts) x (h l.bottom)) (get_or-map h a (t * facts + f) l.bottom)
      ∙ cond_under (ltb f facts) (get_or a (t * facts + f) l.bottom) l.bottom))
    where
      cond_under : (b : Bool) (x y : V) → cond b (h x) (h y) ≡ h (cond b x y)
      cond_under true x y = refl
      cond_under false x y = refl
