use Rattle.std.proofs.Common.{ap, ◌∙◌, arith}
use Rattle.std.proofs.lemmas.Bool.Decides.{nat_tests}
use Rattle.report.proofs.Forms.{line_made, line_size}
use Rattle.report.proofs.Numerals.{three_digits_are, four_hex_are}
use Rattle.report.proofs.line_bytes.Goals as goal
use Rattle.report.proofs.line_bytes.Goals.{then-low-high, else-low-high}

pub returns : goal.returns
returns c =
    record {
      text = line_made c.args.count c.args.low c.args.high _ _ _ _
          (c.copy_from_slice.ensures.after ∙ c.digits.ensures ∙ three_digits_are c.args.count (omega arith))
          (c.copy_from_slice-2.ensures.after ∙ c.digits-2.ensures ∙ four_hex_are c.args.low (omega arith))
          (c.copy_from_slice-3.ensures.after ∙ c.digits-3.ensures ∙ four_hex_are c.args.high (omega arith))
          (c.copy_from_slice-4.ensures.after ∙ elim c.if-low-high.branch [
            | then-low-high w ↦ ap (λ s. s.now) w.copy_from_slice-is ∙ grind (arith, nat_tests)
            | else-low-high w ↦ ap (λ s. s.now) w.copy_from_slice-is ∙ grind (arith, nat_tests)
          ]);
      size = line_size c.args.count c.args.low c.args.high;
    }
