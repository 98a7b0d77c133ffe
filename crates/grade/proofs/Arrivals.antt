-- A strip that is written over another, grade by grade: what has arrived so far, and in the end.
use Rattle.std.proofs.Common.{◌≡◌, ℕ, ◌+◌, ◌<◌, ◌≤◌, List, [], ◌∷◌, ◌++◌, map, length, get_or, take, set, sym, ap, ◌∙◌, ap₂}
use Rattle.std.proofs.lemmas.List.{take_more_set, take_all, map_more}

module _ {V W : Type 0} (f : V → W) (from : List V) where
  pub one_more : (to : List W) (i : ℕ) (x : V) (y : W) → i < length from → i < length to → x ≡ get_or from i x → y ≡ f x
      → take i to ≡ map f (take i from) → take (i + 1) (set to i y) ≡ map f (take (i + 1) from)
  one_more to i x y within room read made arrived =
      take_more_set to i y room ∙ ap₂ (λ front g. front ++ g ∷ []) arrived (made ∙ ap f read) ∙ sym (map_more f from i x within)

  pub all : (to : List W) (i : ℕ) → length from ≤ i → length to ≤ i → take i to ≡ map f (take i from) → to ≡ map f from
  all to i over over' arrived = sym (take_all i to over') ∙ arrived ∙ ap (map f) (take_all i from over)
