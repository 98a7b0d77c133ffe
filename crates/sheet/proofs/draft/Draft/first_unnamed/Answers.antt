use Rattle.std.proofs.Common.{◌≡◌, ℕ, ◌-◌, true, false, get_or, sym, ◌∙◌, rules, tests}
use Rattle.std.proofs.lemmas.Bool.{cond-true, cond-false}
use Rattle.std.proofs.lemmas.Iterator.{first_from_Range}
use Rattle.refusal.specs.declared.Refusal.TheVariants.{Unnamed}
use Rattle.sheet.specs.Rules.{row_at}
use Rattle.sheet.specs.Loading.{name_fault}
use Rattle.sheet.proofs.Searches.{lowest_of}
use Rattle.sheet.proofs.draft.Draft.first_unnamed.Goals as goal

pub returns : goal.returns
returns c =
    let d = c.args.self.now in
    let Flag : ℕ → Type 0 = λ k. get_or c.named-named.result k false ≡ true in
    let NoFlag : ℕ → Type 0 = λ k. get_or c.named-named.result k false ≡ false in
    lowest_of (name_fault d.count (row_at d.rows)) (d.count - 1) Unnamed NoFlag Flag
    (λ k no. cond-false _ _ _ (sym (c.named-named.ensures k) ∙ no))
    (λ k yes. cond-true _ _ _ (sym (c.named-named.ensures k) ∙ yes))
    c.find.result (first_from_Range _ _ _ c.find.result NoFlag Flag c.find.ensures.ran (λ x q e. search (rules, tests)) (λ x q e. search (rules, tests)))
