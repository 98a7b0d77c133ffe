use Rattle.std.proofs.Common.{◌≡◌, ◌-◌, take, sym, ap, ◌∙◌, subst, arith}
use Rattle.std.proofs.lemmas.List.{get_or-take, length-take-le}
use Rattle.std.proofs.lemmas.Result.{err_from_is_err_and}
use Rattle.refusal.specs.Numbers.{number_of}
use Rattle.refusal.specs.declared.Refusal.TheVariants.{Unnamed, Inner}
use Rattle.sheet.specs.declared.row.Row.TheVariants.{Always}
use Rattle.sheet.specs.Rules.{RowsRight, RowsShort, RowsNamed, InnerRight, length_of}
use Rattle.sheet.specs.Bytes.{row_in}
use Rattle.sheet.specs.Loading.{name_fault, inner_fault, accepted, refused, rows_from}
use Rattle.sheet.specs.Faults.{Faultless, Lowest}
use Rattle.sheet.specs.Steps.{body_in}
use Rattle.sheet.proofs.Reading.{sizes_say}
use Rattle.sheet.proofs.Judging.{judged_row, judged_name, judged_inner, judged_sheet, said_of_bytes, rows_are, taken_are, right, short, all_named, inner_right, rows_again, lower_rows, row_right}
use Rattle.sheet.proofs.body.Body.sheet.Goals as goal

pub returns-in_err-draft : goal.returns-in_err-draft
returns-in_err-draft c =
    let p = err_from_is_err_and c.from_residual.result c.from_residual.ensures.1 in
    rw (p.1, p.2) (judged_row (body_in c.args.self.now) c.args.self.now.right _ _ c.in_err-draft.ensures)

pub returns-in-Some : goal.returns-in-Some
returns-in-Some c =
    let b = body_in c.args.self.now in
    let a = c.in_ok-draft.ensures in
    ap (λ f. refused (number_of f.refusal) f.row) c.new.ensures
    ∙ judged_name b c.args.self.now.right a.fine Unnamed _ (said_of_bytes b _ a (λ n row. Lowest (name_fault n row) (n - 1) Unnamed c.in-Some.row) c.in-Some.ensures)

pub returns-in-Some-first_wrong_inner : goal.returns-in-Some-first_wrong_inner
returns-in-Some-first_wrong_inner c =
    let b = body_in c.args.self.now in
    let a = c.in_ok-draft.ensures in
    ap (λ f. refused (number_of f.refusal) f.row) c.new-in-Some-first_wrong_inner.ensures
    ∙ judged_inner b c.args.self.now.right a.fine (said_of_bytes b _ a (λ n row. Faultless (name_fault n row) (n - 1)) c.in_default.ensures)
    Inner _ (said_of_bytes b _ a (λ n row. Lowest (inner_fault n row) n Inner c.in-Some-first_wrong_inner.row) c.in-Some-first_wrong_inner.ensures)

pub invariant_of-result : goal.invariant_of-result
invariant_of-result c =
    let b = body_in c.args.self.now in
    let s = sizes_say b c.args.self.now.right in
    let d = c.in_ok-draft.draft in
    let a = c.in_ok-draft.ensures in
    let taken = sym (taken_are b d a) in
    record {
      sized = d.sized;
      spanned = d.spanned;
      some_fact = s.some_fact;
      few_facts = s.few_facts;
      some_row = s.some_row;
      few_rows = s.few_rows;
      right = subst (RowsRight b.facts b.count) taken (right b d a);
      short = subst (RowsShort b.count) taken (short b d a);
      all_named = subst (RowsNamed b.count) taken (all_named _ b.count (said_of_bytes b d a (λ n row. Faultless (name_fault n row) (n - 1)) c.in_default.ensures));
      inner_right = subst (InnerRight b.count) taken (inner_right _ b.count (lower_rows b (λ k h. row_right b k (a.fine k h))) (said_of_bytes b d a (λ n row. Faultless (inner_fault n row) n) c.in_default-first_wrong_inner.ensures));
      measured = λ k h. d.measured k ∙ ap (λ row. length_of row k) (rows_are b d a ∙ taken);
    }

pub returns : goal.returns
returns c =
    let b = body_in c.args.self.now in
    let d = c.in_ok-draft.draft in
    let a = c.in_ok-draft.ensures in
    let all : take b.count d.rows ≡ rows_from (row_in b) 0 b.count =
    sym (rows_again (take b.count d.rows) (row_in b) b.count (length-take-le b.count d.rows (omega (arith, d.sized, d.few, a.count))) (λ j h. get_or-take b.count d.rows j Always h ∙ a.rows j)) in
    ap (λ rows. accepted (record { facts = b.facts; rows = rows })) all
    ∙ judged_sheet b c.args.self.now.right a.fine (said_of_bytes b d a (λ n row. Faultless (name_fault n row) (n - 1)) c.in_default.ensures) (said_of_bytes b d a (λ n row. Faultless (inner_fault n row) n) c.in_default-first_wrong_inner.ensures)
