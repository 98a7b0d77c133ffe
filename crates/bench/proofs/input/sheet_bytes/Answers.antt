use Rattle.std.proofs.Common.{◌≡◌, get_or, length, take, subst, ap, ◌∙◌, arith, length-take-le}
use Rattle.std.proofs.lemmas.Result.{IfOk-weaker}
use Rattle.bench.specs.Reading.{ReadsUpTo}
use Rattle.bench.proofs.Taking.{first_or_none, sheet_read}
use Rattle.std.specs.Option.{unwrap_or}
use Rattle.bench.proofs.input.sheet_bytes.Goals as goal

pub returns : goal.returns
returns g c =
    let size : c.from.result ≡ get_or c.in_ok-fill.field-0.now 0 0 = c.from.ensures ∙ c.unwrap_or-size.ensures ∙ ap (λ o. unwrap_or o 0) (c.copied.ensures ∙ c.first.ensures.value) ∙ first_or_none c.in_ok-fill.field-0.now in
    let room : length (take c.from.result c.args.buffer.now) ≡ c.from.result = length-take-le c.from.result c.args.buffer.now (omega arith) in
    IfOk-weaker c.fill-2.result _ _
    (λ bytes r. sheet_read _ _ _ c.in_ok-fill.field-0.now bytes.now c.from.result (omega arith) size c.in_ok-fill.ensures (subst (λ n. ReadsUpTo n (g.R.Read.remaining c.fill.new.input) (g.R.Read.remaining c.fill-2.new.input) bytes.now) room r))
    c.fill-2.ensures
