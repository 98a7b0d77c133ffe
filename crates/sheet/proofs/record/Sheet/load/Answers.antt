use Rattle.std.proofs.Common.{◌≡◌, Ok, Err, refl, ap, ◌∙◌, rules}
use Rattle.std.proofs.lemmas.Result.{err_from_is_err_and}
use Rattle.std.proofs.lemmas.Bool.{false≢true}
use Rattle.sheet.specs.Loading.{judged, load_result}
use Rattle.sheet.specs.Sheets.{verdict_of}
use Rattle.sheet.proofs.Judging.{taken_apart}
use Rattle.sheet.proofs.Loads.{succeeds, same_rows, refuses}
use Rattle.sheet.proofs.record.Sheet.load.Goals as goal

pub returns-in_err-new : goal.returns-in_err-new
returns-in_err-new c =
    let bytes = c.args.bytes.now in
    let s = c.args.self.now in
    let r = c.from_residual.result in
    let e : verdict_of r s ≡ load_result bytes = search rules in
    record { outcome = e; unchanged = λ _. refl; succeeds = succeeds bytes s r e; same_rows = same_rows bytes s r e; refuses = refuses bytes s r e }

pub returns-in_err-self : goal.returns-in_err-self
returns-in_err-self c =
    let bytes = c.args.bytes.now in
    let s = c.args.self.now in
    let r = c.from_residual-in_err-self.result in
    let p = err_from_is_err_and r c.from_residual-in_err-self.ensures.1 in
    let e : verdict_of r s ≡ load_result bytes = ap (λ x. verdict_of x s) (p.1 ∙ ap Err p.2) ∙ c.in_err-self.ensures ∙ ap judged c.in_ok-new.ensures ∙ taken_apart bytes (search rules) in
    record { outcome = e; unchanged = λ _. refl; succeeds = succeeds bytes s r e; same_rows = same_rows bytes s r e; refuses = refuses bytes s r e }

pub returns : goal.returns
returns c =
    let bytes = c.args.bytes.now in
    let s = c.in_ok-self.field-0 in
    let e : verdict_of (Ok tt) s ≡ load_result bytes = c.in_ok-self.ensures ∙ ap judged c.in_ok-new.ensures ∙ taken_apart bytes (search rules) in
    record { outcome = e; unchanged = λ t. absurd (false≢true t); succeeds = succeeds bytes s (Ok tt) e; same_rows = same_rows bytes s (Ok tt) e; refuses = refuses bytes s (Ok tt) e }
