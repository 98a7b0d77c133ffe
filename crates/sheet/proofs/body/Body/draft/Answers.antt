use Rattle.std.proofs.Common.{◌≡◌, ◌<◌, rules, subst, subst₂, sym, refl, arith}
use Rattle.std.proofs.lemmas.Result.{err_from_is_err_and, MatchResult-at_ok, MatchResult-at_err}
use Rattle.sheet.specs.Steps.{body_in}
use Rattle.sheet.specs.Loading.{row_fault}
use Rattle.sheet.specs.Faults.{Lowest}
use Rattle.sheet.proofs.Reading.{Sofar, sizes_say, range_facts, range_lower, read_none, read_more, through_map_err}
use Rattle.sheet.proofs.Has.{all_under_more}
use Rattle.sheet.proofs.Judging.{rows_read, read_right, lengths_read}
use Rattle.sheet.proofs.body.Body.draft.Goals as goal

pub loop-k-init : goal.loop-k-init
loop-k-init c = read_none _

pub returns-in_err-row : goal.returns-in_err-row
returns-in_err-row c =
    let p = err_from_is_err_and c.from_residual.result c.from_residual.ensures.1 in
    let q = MatchResult-at_err _ _ _ c.in_err-row.was (through_map_err _ _ _ c.row_and_length.result c.map_err.result c.row_and_length.ensures c.map_err.ensures.cases) in
    let here : (c.in_err-row.field-0.0.refusal ≡ q.0) × (c.in_err-row.field-0.0.row ≡ c.loop-k.k-counter) = search rules in
    let b = body_in c.args.self.now in
    rw (p.1, p.2) (subst₂ (Lowest (row_fault b) b.count) (sym here.0) (sym here.1) (record { among = c.loop-k-test.true; here = q.1; before = c.loop-k.invariant.fine }))

pub loop-k-preserved : goal.loop-k-preserved
loop-k-preserved c =
    let read = MatchResult-at_ok _ _ _ c.in_ok-row.was (through_map_err _ _ _ c.row_and_length.result c.map_err.result c.row_and_length.ensures c.map_err.ensures.cases) in
    let few : c.loop-k.k-counter < 32 = omega (arith, sizes_say (body_in c.args.self.now) c.args.self.now.right, c.loop-k-test.true) in
    read_more _ _ few _ _ _ _ c.loop-k.invariant read.0 read.1 read.2

pub invariant_of-result : goal.invariant_of-result
invariant_of-result c =
    let b = body_in c.args.self.now in
    let s = sizes_say b c.args.self.now.right in
    let read = subst (λ k. Sofar b k c.loop-k.rows c.loop-k.lengths) (omega arith) c.loop-k.invariant in
    record {
      sized = read.size;
      spanned = read.lengths.size;
      some = s.some_row;
      few = s.few_rows;
      names_lower = λ k h. range_lower b.facts k _ (read_right b _ _ read k h);
      reads_few = λ k h. all_under_more b.facts 16 _ s.few_facts (range_facts b.facts k _ (read_right b _ _ read k h));
      measured = lengths_read b _ _ read;
    }

pub returns : goal.returns
returns c =
    let b = body_in c.args.self.now in
    let read = subst (λ k. Sofar b k c.loop-k.rows c.loop-k.lengths) (omega arith) c.loop-k.invariant in
    record { fine = read.fine; count = refl; rows = rows_read b _ _ read }
