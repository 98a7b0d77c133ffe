use Rattle.std.proofs.Common.{refl}
use Rattle.report.specs.Texts.{line_text}
use Rattle.report.proofs.Numerals.{same_digits, digits_back, read_back}
use Rattle.report.proofs.Forms.{line_size}
use Rattle.report.proofs.Filled.{one_outcome}
use Rattle.report.proofs.texts_stand.Goals as goal

pub returns : goal.returns
unfolding line_text
returns c =
    record {
      examples = (refl, refl, refl);
      sizes = ((λ number row. refl), line_size);
      same_digits = same_digits;
      digits_read_back = digits_back;
      read_back = read_back;
      one_outcome = one_outcome;
    }
