use Rattle.std.proofs.Common.{◌≡◌, ◌∙◌, rules, arith}
use Rattle.std.proofs.lemmas.Result.{err_from_is_err_and, MatchResult-at_ok, MatchResult-at_err}
use Rattle.refusal.specs.declared.Refusal.TheVariants.{Length}
use Rattle.sheet.specs.Rules.{length_of}
use Rattle.sheet.specs.Bytes.{row_in}
use Rattle.sheet.specs.Steps.{body_in}
use Rattle.sheet.specs.Conditions.{LengthRight}
use Rattle.sheet.proofs.Reading.{length_by_table, cases_of_ok_iff, through_map_err}
use Rattle.sheet.proofs.Outcome.{right_row, fault_length}
use Rattle.sheet.proofs.body.Body.row_and_length.Goals as goal
use Rattle.sheet.proofs.body.Body.row_and_length.Goals.{After-length}

long : (c : After-length) → c.length.result ≡ length_of (row_in (body_in c.args.self.now)) c.args.k
long c = c.length.ensures ∙ length_by_table _ _ _ _ c.requires.measured c.in_ok-placed.ensures.0.is

pub returns : goal.returns
returns c =
    let fits = c.in_ok-placed.ensures.0 in
    let b = body_in c.args.self.now in
    let e = long (goal.at.returns c).After-length in
    let q = MatchResult-at_ok _ _ _ c.in_ok-length.was (through_map_err _ _ _ c.try_from.result c.map_err.result (cases_of_ok_iff _ _ _ c.try_from.ensures) c.map_err.ensures.cases) in
    let short : LengthRight b c.args.k = omega (arith, q) in
    (right_row b c.args.k (record { kind = fits.kind; operands = fits.operands; short = short }), fits.is, omega (arith, q))

pub returns-in_err-length : goal.returns-in_err-length
returns-in_err-length c =
    let fits = c.in_ok-placed.ensures.0 in
    let b = body_in c.args.self.now in
    let e = long (goal.at.returns-in_err-length c).After-length in
    let p = err_from_is_err_and c.from_residual-in_err-length.result c.from_residual-in_err-length.ensures.1 in
    let q = MatchResult-at_err _ _ _ c.in_err-length.was (through_map_err _ _ _ c.try_from.result c.map_err.result (cases_of_ok_iff _ _ _ c.try_from.ensures) c.map_err.ensures.cases) in
    let turned : c.in_err-length.field-0.0 ≡ Length = search rules in
    rw (p.1, p.2, turned) (fault_length b c.args.k fits.kind fits.operands (λ short. q.1 (omega (arith, short))))
