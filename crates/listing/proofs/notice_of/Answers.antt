use Rattle.std.proofs.Common.{◌≤◌, replicate, sym, refl, ap, ◌∙◌, subst}
use Rattle.report.specs.Texts.{notice_text}
use Rattle.listing.proofs.Notices.{small_number, just_noticed, not_noticed}
use Rattle.listing.proofs.notice_of.Goals as goal

pub returns-clause-told : goal.returns-clause-told
returns-clause-told c = λ lower.
    let f = c.args.fault in
    let number = c.number.ensures.value in
    let low : c.number.result ≤ 99 = subst (λ n. n ≤ 99) (sym number) (small_number f.refusal) in
    just_noticed c.number.result f.row (replicate 14 0) c.notice.new.place c.notice.result refl low lower c.notice.ensures ∙ ap (λ n. notice_text n f.row) number

pub returns-clause-none : goal.returns-clause-none
returns-clause-none c = λ over. not_noticed c.number.result c.args.fault.row (replicate 14 0) c.notice.new.place c.notice.result over c.notice.ensures
