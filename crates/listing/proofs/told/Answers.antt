use Rattle.std.proofs.Common.{IfOk, vec_items, refl, ◌∙◌, subst}
use Rattle.std.proofs.lemmas.Result.{IfOk-weaker}
use Rattle.listing.specs.Words.{Tells}
use Rattle.listing.proofs.Notices.{small_row}
use Rattle.listing.proofs.told.Goals as goal

pub returns-in_ok-text-in-Ok : goal.returns-in_ok-text-in-Ok
returns-in_ok-text-in-Ok c =
    subst (λ v. IfOk c.from_slice.result (λ x. Tells v (vec_items x))) c.in-Ok.ensures.outcome
    (IfOk-weaker c.from_slice.result _ _ (λ v e. (c.sided.result, c.sided.ensures, e ∙ c.as_bytes.ensures.value ∙ c.in_ok-text-in-Ok.ensures)) c.from_slice.ensures.items)

pub returns-in-Err : goal.returns-in-Err
returns-in-Err c =
    let f = c.in-Err.fault in
    let why = c.in-Err.ensures in
    let notice = c.notice_of.ensures.told (small_row c.args.bytes.now f.refusal f.row ((why.refuses f).0 refl)) in
    subst (λ v. IfOk c.from_slice-in-Err.result (λ x. Tells v (vec_items x))) why.outcome
    (IfOk-weaker c.from_slice-in-Err.result _ _ (λ v e. e ∙ notice) c.from_slice-in-Err.ensures.items)
