-- What load promises in words follows from what the bytes come to.
use Rattle.std.proofs.Common.{◌≡◌, ℕ, true, ◌↔◌, List, is_ok, Ok, Err, Result, sym, refl, ap, ◌∙◌, subst}
use Rattle.std.proofs.lemmas.Bool.{false≢true}
use Rattle.refusal.specs.declared.Refusal.{Refusal}
use Rattle.refusal.specs.Numbers.{number_of}
use Rattle.refusal.proofs.Apart.{same_number}
use Rattle.sheet.specs.declared.fault.Fault.{Fault}
use Rattle.sheet.specs.declared.record.Sheet.{Sheet}
use Rattle.sheet.specs.Rules.{Written, Keeps}
use Rattle.sheet.specs.Bytes.{bytes_of, SheetBytes}
use Rattle.sheet.specs.Loading.{Verdict, accepted, refused, load_result}
use Rattle.sheet.specs.Conditions.{RefusedFor}
use Rattle.sheet.specs.Sheets.{sheet_of, verdict_of}
use Rattle.sheet.proofs.Outcome.{Outcome, is_sheet, is_refused, outcome_of, refused_when, sheet_loads}

-- what an outcome says of the verdict that it stands for
abbrev Says : List ℕ → Verdict → Type 0
Says bytes (accepted w) = (bytes_of w ≡ bytes) × Keeps w
Says bytes (refused number k) = (r : Refusal) × (number_of r ≡ number) × RefusedFor bytes r k

says : (bytes : List ℕ) (v : Verdict) → Outcome bytes v → Says bytes v
says bytes v (is_sheet w same keeps) = (same, keeps)
says bytes v (is_refused r k why) = (r, refl, why)

never_both : (w : Written) (n k : ℕ) → accepted w ≡ refused n k → ⊥
never_both w n k e = cc

same_fault : (f g : Fault) → refused (number_of f.refusal) f.row ≡ refused (number_of g.refusal) g.row → f ≡ g
same_fault f g e =
    let numbers : number_of f.refusal ≡ number_of g.refusal = cc in
    let rows : f.row ≡ g.row = cc in
    λ i. record { refusal = same_number f.refusal g.refusal numbers i; row = rows i }

module _ (bytes : List ℕ) (s : Sheet) where
  told : (v : Verdict) → v ≡ load_result bytes → Says bytes v
  told v e = says bytes v (subst (Outcome bytes) (sym e) (outcome_of bytes))

  pub succeeds : (r : Result (Unit {0}) Fault) → verdict_of r s ≡ load_result bytes → is_ok r ≡ true ↔ SheetBytes bytes
  succeeds (Ok done) e = (λ _. (sheet_of s, (told (accepted (sheet_of s)) e).0, (told (accepted (sheet_of s)) e).1), λ _. refl)
  succeeds (Err f) e = (λ t. absurd (false≢true t), λ sheet. absurd (never_both _ _ _ (sym (sheet_loads sheet.0 sheet.2) ∙ ap load_result sheet.1 ∙ sym e)))

  pub same_rows : (r : Result (Unit {0}) Fault) → verdict_of r s ≡ load_result bytes → is_ok r ≡ true → bytes_of (sheet_of s) ≡ bytes
  same_rows (Ok done) e t = (told (accepted (sheet_of s)) e).0
  same_rows (Err f) e t = absurd (false≢true t)

  pub refuses : (r : Result (Unit {0}) Fault) → verdict_of r s ≡ load_result bytes → (f : Fault) → (r ≡ Err f) ↔ RefusedFor bytes f.refusal f.row
  refuses (Ok done) e f = (λ p. cc, λ why. absurd (never_both _ _ _ (e ∙ refused_when bytes f.refusal f.row why)))
  refuses (Err g) e f = (
    λ p. let same : g ≡ f = cc in
        let t = told (refused (number_of g.refusal) g.row) e in
        subst (λ h. RefusedFor bytes h.refusal h.row) same (subst (λ r. RefusedFor bytes r g.row) (same_number t.0 g.refusal t.1) t.2),
    λ why. ap Err (same_fault g f (e ∙ refused_when bytes f.refusal f.row why)),
  )
