use Rattle.std.proofs.Common.{◌+◌, ◌*◌, get_or, drop, set, ap, ◌∙◌, mul_comm, arith}
use Rattle.grade.specs.Voices.{word}
use Rattle.bench.proofs.Decoding.{one_more, word_there}
use Rattle.bench.proofs.frames.decode.Goals as goal

pub loop-f-preserved : goal.loop-f-preserved
loop-f-preserved c =
    let low = get_or c.args.bytes.now (2 * c.loop-f.f) 0 in
    let high = get_or c.args.bytes.now (2 * c.loop-f.f + 1) 0 in
    ap (λ frame. set frame c.loop-f.f c.new.result) c.loop-f.invariant
    ∙ one_more c.args.bytes.now c.args.frame.now c.loop-f.f c.new.result c.loop-f-test.true
    (c.new.ensures.whole ∙ ap word c.from_le_bytes.ensures ∙ (λ i. word (low + mul_comm high 256 i)))

pub returns-clause-words : goal.returns-clause-words
returns-clause-words c = λ f d h.
    ap (λ frame. get_or frame f d) c.loop-f.invariant ∙ word_there c.args.bytes.now c.loop-f.f (drop c.loop-f.f c.args.frame.now) f d (omega arith)
