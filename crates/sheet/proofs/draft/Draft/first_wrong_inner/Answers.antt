use Rattle.std.proofs.Common.{◌≡◌, ℕ, Bool, true, false, not, ◌&&◌, get_or, sym, ◌∙◌, rules, tests}
use mathlib.Core.Path.{fun_ext}
use Rattle.std.proofs.lemmas.Bool.{cond-true, cond-false}
use Rattle.std.proofs.lemmas.Iterator.{first_from_Range}
use Rattle.refusal.specs.declared.Refusal.TheVariants.{Inner}
use Rattle.sheet.specs.Rows.{may_be_inner}
use Rattle.sheet.specs.Rules.{row_at, length_of}
use Rattle.sheet.specs.Loading.{is_inner, inner_fault}
use Rattle.sheet.proofs.Searches.{lowest_of}
use Rattle.sheet.proofs.draft.Draft.first_wrong_inner.Goals as goal

pub returns : goal.returns
returns c =
    let d = c.args.self.now in
    let row = row_at d.rows in
    let wrong : ℕ → Bool = λ k. get_or c.inner-inner.result k false && not (may_be_inner (λ i. get_or d.lengths i 0) (row k)) in
    let says : (k : ℕ) → (is_inner row d.count k && not (may_be_inner (length_of row) (row k))) ≡ wrong k =
    λ k i. sym (c.inner-inner.ensures k) i && not (may_be_inner (sym (fun_ext d.measured) i) (row k)) in
    lowest_of (inner_fault d.count row) d.count Inner (λ k. wrong k ≡ true) (λ k. wrong k ≡ false)
    (λ k e. cond-true _ _ _ (says k ∙ e))
    (λ k e. cond-false _ _ _ (says k ∙ e))
    c.find.result (first_from_Range _ _ _ c.find.result (λ k. wrong k ≡ true) (λ k. wrong k ≡ false) c.find.ensures.ran (λ x q e. search (rules, tests)) (λ x q e. search (rules, tests)))
