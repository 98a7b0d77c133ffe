-- What the bytes come to, against the conditions in the subject's own words: each way, both ways round.
use Rattle.std.proofs.Common.{◌≡◌, ℕ, zero, suc, ◌+◌, ◌-◌, ◌*◌, ◌<◌, ◌≤◌, Bool, true, false, cond, not, ◌&&◌, leb, ◌⊎◌, List, [], ◌∷◌, ◌++◌, map, length, get_or, Some, None, Option, sym, refl, ap, ◌∙◌, subst, subst₂, inl, inr, ⊎_elim, arith}
use mathlib.Core.Path.{fun_ext}
use Rattle.std.specs.List.{flat_map}
use Rattle.std.proofs.lemmas.List.{get_or_past}
use Rattle.std.proofs.lemmas.Bool.Decides.{nat_tests}
use Rattle.std.proofs.lemmas.Grind.{common_steps}
use Rattle.std.proofs.lemmas.Bool.{and_from, leb-true, leb-false, cases_Bool, cases_lt, cases_eq, both_ways, cond-true, cond-false, not_from_false}
use Rattle.refusal.specs.declared.Refusal.{Refusal}
use Rattle.refusal.specs.declared.Refusal.TheVariants.{Sizes, Kind, Operand, Length, Unnamed, Inner, ShortLog, BrokenStrip, TakeComplete, ShortChart, UnequalStrips, Place}
use Rattle.refusal.specs.Numbers.{number_of}
use Rattle.sheet.specs.declared.row.Row.{Row}
use Rattle.sheet.specs.declared.row.Row.TheVariants.{Always}
use Rattle.sheet.specs.Rows.{kind_of, operands_of, may_be_inner}
use Rattle.sheet.specs.Rules.{in_range, length_of, named, Written, row_at, RowsRight, RowsShort, RowsNamed, InnerRight, Keeps}
use Rattle.sheet.specs.Bytes.{bytes_of, Body, body_of, sizes_right, kind_in, p_in, q_in, r_in, operands_in, kinds, row_in}
use Rattle.sheet.specs.Loading.{operands_right, row_fault, name_fault, is_inner, inner_fault, Verdict, accepted, refused, rows_from, judged, load_result}
use Rattle.sheet.specs.Faults.{Faultless, Lowest}
use Rattle.sheet.specs.Conditions.{Sized, KindRight, OperandsRight, LengthRight, RowRight, ComeTo, AllRight, InnerFits, RefusedFor}
use Rattle.sheet.proofs.Reading.{sizes_say, row_in_below}
use Rattle.sheet.proofs.Inner.{inner_sound, inner_complete}
use Rattle.sheet.proofs.Judging.{row_right, lower_rows, past_rows, name_fine, inner_fine_says, all_named, inner_right, length_rows, row_from, rows_again, judged_row, judged_name, judged_inner, judged_sheet}
use Rattle.sheet.proofs.Writing.{read_back, kind_below, kind_back, written_kind, written_operand, written_length, written_all, operands_fit, fit_operands}

-- The tests of the definition against the words of the conditions, for row k.

pub sizes_from : (bytes : List ℕ) (b : Body) → Sized bytes b → sizes_right b ≡ true
sizes_from bytes b s = grind (arith, nat_tests, s.some_fact, s.few_facts, s.some_row, s.few_rows, s.all)

some_is : {r x : Refusal} → Some r ≡ Some x → r ≡ x
some_is h = cc

none_some : {r : Refusal} → None ≡ Some r → ⊥
none_some h = cc

module _ (b : Body) (k : ℕ) where
  pub right_row : RowRight b k → row_fault b k ≡ None
  right_row r = grind (arith, nat_tests, r.kind, fit_operands b k r.operands, r.short)

  pub fault_kind : (KindRight b k → ⊥) → row_fault b k ≡ Some Kind
  fault_kind wrong = grind (arith, nat_tests)

  pub fault_operand : KindRight b k → (OperandsRight b k → ⊥) → row_fault b k ≡ Some Operand
  fault_operand kind wrong =
      let unfit : operands_right b.facts k (row_in b k) (operands_in b k) ≡ true → ⊥ = λ t. wrong (operands_fit b k t) in
      grind (arith, nat_tests)

  pub fault_length : KindRight b k → OperandsRight b k → (LengthRight b k → ⊥) → row_fault b k ≡ Some Length
  fault_length kind operands wrong = grind (arith, nat_tests, fit_operands b k operands)

  -- which test failed
  module _ (bytes : List ℕ) (sized : Sized bytes b) (among : k < b.count) (before : (j : ℕ) → j < k → RowRight b j) where
    come : ComeTo bytes k
    come = record { body = b; sized = sized; among = among; before = before }

    pub why_row : (r : Refusal) → row_fault b k ≡ Some r → RefusedFor bytes r k
    unfolding come
    why_row r h = ⊎_elim
        (λ t. subst (λ x. RefusedFor bytes x k) (some_is (sym (cond-true _ _ _ t) ∙ h)) (come, λ kind. omega (arith, leb-true 8 _ t, kind)))
        (λ f. let kind = leb-false 8 (kind_in b k) f in let h₁ = sym (cond-false _ _ _ f) ∙ h in ⊎_elim
        (λ t₂. let h₂ = sym (cond-true _ _ _ t₂) ∙ h₁ in ⊎_elim
        (λ t₃. absurd (none_some (sym (cond-true _ _ _ t₃) ∙ h₂)))
        (λ f₃. subst (λ x. RefusedFor bytes x k) (some_is (sym (cond-false _ _ _ f₃) ∙ h₂)) (come, kind, operands_fit b k t₂, λ short. omega (arith, leb-false _ 255 f₃, short)))
        (cases_Bool (leb (length_of (row_in b) k) 255)))
        (λ f₂. subst (λ x. RefusedFor bytes x k) (some_is (sym (cond-false _ _ _ f₂) ∙ h₁)) (come, kind, λ o. both_ways _ f₂ (fit_operands b k o)))
        (cases_Bool (operands_right b.facts k (row_in b k) (operands_in b k))))
        (cases_Bool (leb 8 (kind_in b k)))

  -- operand i of row k stands at its place
  operand_at : (i : ℕ) → i < 3 → get_or (operands_in b k) i 0 ≡ get_or b.rest (b.count + (3 * k + i)) 0
  operand_at i h = grind (arith, common_steps)

-- The rows together: what each test of them says.

name_missing : (t : Bool) (r : Refusal) → cond t None (Some Unnamed) ≡ Some r → (t ≡ false) × (r ≡ Unnamed)
name_missing t r h = (grind arith, grind arith)

inner_wrong : (t u : Bool) (r : Refusal) → cond (t && not u) (Some Inner) None ≡ Some r → (t ≡ true) × (u ≡ false) × (r ≡ Inner)
inner_wrong t u r h = (grind arith, grind arith, grind arith)

inner_fine : (t u : Bool) → (t ≡ true → u ≡ true) → cond (t && not u) (Some Inner) None ≡ None
inner_fine t u h = grind arith

module _ (bytes : List ℕ) (b : Body) (sized : Sized bytes b) (rows : (j : ℕ) → j < b.count → RowRight b j) where
  all : AllRight bytes
  all = record { body = b; sized = sized; rows = rows }

  pub fine_rows : Faultless (row_fault b) b.count
  fine_rows j h = right_row b j (rows j h)

  pub why_name : (r : Refusal) (k : ℕ) → Lowest (name_fault b.count (row_in b)) (b.count - 1) r k → RefusedFor bytes r k
  unfolding all
  why_name r k l =
      let missing = name_missing (named (row_in b) b.count k) r l.here in
      subst (λ x. RefusedFor bytes x k) (sym missing.1) (all, omega (arith, l.among), both_ways _ missing.0, λ j lt. name_fine _ (l.before j lt))

  inner_fits : (k : ℕ) → k < b.count → inner_fault b.count (row_in b) k ≡ None → InnerFits b k
  inner_fits k h e i = inner_fine_says (is_inner (row_in b) b.count k) (may_be_inner (length_of (row_in b)) (row_in b k)) e (inner_complete (row_in b) b.count (lower_rows b rows) i)

  pub why_inner : RowsNamed b.count (row_in b) → (r : Refusal) (k : ℕ) → Lowest (inner_fault b.count (row_in b)) b.count r k → RefusedFor bytes r k
  unfolding all
  why_inner names r k l =
      let wrong = inner_wrong (is_inner (row_in b) b.count k) (may_be_inner (length_of (row_in b)) (row_in b k)) r l.here in
      subst (λ x. RefusedFor bytes x k) (sym wrong.2)
      (all, names, l.among, (λ fits. both_ways _ wrong.1 (fits (inner_sound (row_in b) b.count k wrong.0))), λ j lt. inner_fits j (omega (arith, l.among)) (l.before j lt))

  pub fault_inner : (k : ℕ) → (InnerFits b k → ⊥) → inner_fault b.count (row_in b) k ≡ Some Inner
  fault_inner k wrong = cond-true _ _ _ (⊎_elim
      (λ inside. ⊎_elim (λ may. absurd (wrong (λ _. may))) (λ may_not. and_from _ _ inside (not_from_false _ may_not)) (cases_Bool (may_be_inner (length_of (row_in b)) (row_in b k))))
      (λ outside. absurd (wrong (λ i. absurd (both_ways _ outside (inner_complete (row_in b) b.count (lower_rows b rows) i)))))
      (cases_Bool (is_inner (row_in b) b.count k)))

  pub none_inner : (k : ℕ) → InnerFits b k → inner_fault b.count (row_in b) k ≡ None
  none_inner k fits = inner_fine (is_inner (row_in b) b.count k) (may_be_inner (length_of (row_in b)) (row_in b k)) (λ t. fits (inner_sound (row_in b) b.count k t))

  -- where nothing is refused, the bytes are a sheet's
  abbrev rows_in : List Row
  rows_in = rows_from (row_in b) 0 b.count

  rows_in_are : row_at rows_in ≡ row_in b
  rows_in_are = fun_ext (λ j. ⊎_elim
      (λ less. row_from (row_in b) 0 b.count j less ∙ ap (row_in b) (omega arith))
      (λ more. get_or_past rows_in j Always (omega (arith, length_rows (row_in b) 0 b.count)) ∙ sym (past_rows b j more))
      (cases_lt j b.count))

  pub written_again : map kind_of rows_in ++ flat_map operands_of rows_in ≡ b.rest
  written_again =
      let n = length_rows (row_in b) 0 b.count in
      written_all rows_in b.rest (sized.all ∙ ap (λ m. 4 * m) (sym n))
      (λ k h. let among : k < b.count = omega arith in
      sym (ap kind_of (ap (λ f. f k) rows_in_are ∙ row_in_below b k among) ∙ kind_back (p_in b k) (q_in b k) (r_in b k) (kind_in b k) (rows k among).kind))
      (λ k i h lt. let among : k < b.count = omega arith in
      ap (λ m. get_or b.rest (m + (3 * k + i)) 0) n ∙ sym (operand_at b k i lt) ∙ ap (λ l. get_or l i 0) (sym (rows k among).operands.0) ∙ ap (λ f. get_or (operands_of (f k)) i 0) (sym rows_in_are))

  pub is_kept : RowsNamed b.count (row_in b) → ((k : ℕ) → k < b.count → InnerFits b k) → Keeps (record { facts = b.facts; rows = rows_in })
  is_kept names fits =
      let n = sym (length_rows (row_in b) 0 b.count) in
      let same = sym rows_in_are in
      record {
        some_fact = sized.some_fact;
        few_facts = sized.few_facts;
        some_row = omega (arith, sized.some_row);
        few_rows = omega (arith, sized.few_rows);
        right = subst₂ (λ m f. RowsRight b.facts m f) n same (λ k h. (rows k h).operands.1);
        short = subst₂ (λ m f. RowsShort m f) n same (λ k h. (rows k h).short);
        all_named = subst₂ (λ m f. RowsNamed m f) n same names;
        inner_right = subst₂ (λ m f. InnerRight m f) n same fits;
      }

-- Each list of bytes comes to what its condition says.

search_fault : (fault : ℕ → Option Refusal) (n : ℕ) → Faultless fault n ⊎ ((r : Refusal) × (k : ℕ) × Lowest fault n r k)
search_fault fault zero = inl (λ j h. absurd (omega arith))
search_fault fault (suc n) =
    ⊎_elim
    (λ none. go none (fault n) refl)
    (λ found. inr (found.0, found.1, record { among = omega (arith, found.2.among); here = found.2.here; before = found.2.before }))
    (search_fault fault n)
  where
    go : Faultless fault n → (o : Option Refusal) → fault n ≡ o → Faultless fault (suc n) ⊎ ((r : Refusal) × (k : ℕ) × Lowest fault (suc n) r k)
    go none None e = inl (λ j h. ⊎_elim (λ same. ap fault same ∙ e) (λ other. none j (omega (arith, other))) (cases_eq j n))
    go none (Some r) e = inr (r, n, record { among = omega arith; here = e; before = none })

pub data Outcome (bytes : List ℕ) : Verdict → Type 0 where
  is_sheet : (w : Written) → bytes_of w ≡ bytes → Keeps w → Outcome bytes (accepted w)
  is_refused : (r : Refusal) (k : ℕ) → RefusedFor bytes r k → Outcome bytes (refused (number_of r) k)

no_sizes : (facts count : ℕ) (rest : List ℕ) → sizes_right (body_of facts count rest) ≡ false → (b : Body) → Sized (facts ∷ count ∷ rest) b → ⊥
no_sizes facts count rest h b s =
    both_ways _ h (subst (λ bytes. sizes_of bytes ≡ true) s.whole (sizes_from (facts ∷ count ∷ rest) b s))
  where
    sizes_of : List ℕ → Bool
    sizes_of [] = false
    sizes_of (f ∷ []) = false
    sizes_of (f ∷ c ∷ r) = sizes_right (body_of f c r)

module _ (facts count : ℕ) (rest : List ℕ) (h : sizes_right (body_of facts count rest) ≡ true) where
  abbrev the_body : Body
  the_body = body_of facts count rest

  abbrev the_bytes : List ℕ
  the_bytes = facts ∷ count ∷ rest

  sized_body : Sized the_bytes the_body
  sized_body = sizes_say the_body h

  outcome_rows : Outcome the_bytes (judged the_body)
  outcome_rows = ⊎_elim
      (λ fine.
      let rows : (j : ℕ) → j < count → RowRight the_body j = λ j lt. row_right the_body j (fine j lt) in
      ⊎_elim
      (λ names.
      let named_rows = all_named (row_in the_body) count names in
      ⊎_elim
      (λ inners. subst (Outcome the_bytes) (judged_sheet the_body h fine names inners)
      (is_sheet _ (λ i. facts ∷ length_rows (row_in the_body) 0 count i ∷ written_again the_bytes the_body sized_body rows i)
      (is_kept the_bytes the_body sized_body rows named_rows (inner_right (row_in the_body) count (lower_rows the_body rows) inners))))
      (λ wrong. subst (Outcome the_bytes) (judged_inner the_body h fine names wrong.0 wrong.1 wrong.2) (is_refused wrong.0 wrong.1 (why_inner the_bytes the_body sized_body rows named_rows wrong.0 wrong.1 wrong.2)))
      (search_fault (inner_fault count (row_in the_body)) count))
      (λ wrong. subst (Outcome the_bytes) (judged_name the_body h fine wrong.0 wrong.1 wrong.2) (is_refused wrong.0 wrong.1 (why_name the_bytes the_body sized_body rows wrong.0 wrong.1 wrong.2)))
      (search_fault (name_fault count (row_in the_body)) (count - 1)))
      (λ wrong. subst (Outcome the_bytes) (judged_row the_body h wrong.0 wrong.1 wrong.2)
      (is_refused wrong.0 wrong.1 (why_row the_body wrong.1 the_bytes sized_body wrong.2.among (λ j lt. row_right the_body j (wrong.2.before j lt)) wrong.0 wrong.2.here)))
      (search_fault (row_fault the_body) count)

pub outcome_of : (bytes : List ℕ) → Outcome bytes (load_result bytes)
outcome_of [] = is_refused Sizes 0 (refl, λ b s. absurd (omega (arith, ap length s.whole)))
outcome_of (facts ∷ []) = is_refused Sizes 0 (refl, λ b s. absurd (omega (arith, ap length s.whole)))
outcome_of (facts ∷ count ∷ rest) =
    ⊎_elim (outcome_rows facts count rest)
    (λ f. subst (Outcome (facts ∷ count ∷ rest)) (sym (cond-false _ _ _ f)) (is_refused Sizes 0 (refl, no_sizes facts count rest f)))
    (cases_Bool (sizes_right (body_of facts count rest)))

-- And each condition is met by no other bytes than those that come to it.

module _ (bytes : List ℕ) (b : Body) (sized : Sized bytes b) where
  at_body : load_result bytes ≡ judged b
  at_body = ap load_result (sym sized.whole)

  right_sizes : sizes_right b ≡ true
  right_sizes = sizes_from bytes b sized

row_refused : (bytes : List ℕ) (k : ℕ) (at : ComeTo bytes k) (r : Refusal) → row_fault at.body k ≡ Some r → load_result bytes ≡ refused (number_of r) k
row_refused bytes k at r h =
    at_body bytes at.body at.sized
    ∙ sym (judged_row at.body (right_sizes bytes at.body at.sized) r k (record { among = at.among; here = h; before = λ j lt. right_row at.body j (at.before j lt) }))

sizes_refused : (bytes : List ℕ) → ((b : Body) → Sized bytes b → ⊥) → load_result bytes ≡ refused (number_of Sizes) 0
sizes_refused [] h = refl
sizes_refused (facts ∷ []) h = refl
sizes_refused (facts ∷ count ∷ rest) h = cond-false _ _ _ (⊎_elim (λ t. absurd (h (body_of facts count rest) (sizes_say (body_of facts count rest) t))) (λ f. f) (cases_Bool (sizes_right (body_of facts count rest))))

pub refused_when : (bytes : List ℕ) (r : Refusal) (k : ℕ) → RefusedFor bytes r k → load_result bytes ≡ refused (number_of r) k
refused_when bytes Sizes k h = sizes_refused bytes h.1 ∙ ap (refused (number_of Sizes)) (sym h.0)
refused_when bytes Kind k (at, wrong) = row_refused bytes k at Kind (fault_kind at.body k wrong)
refused_when bytes Operand k (at, kind, wrong) = row_refused bytes k at Operand (fault_operand at.body k kind wrong)
refused_when bytes Length k (at, kind, operands, wrong) = row_refused bytes k at Length (fault_length at.body k kind operands wrong)
refused_when bytes Unnamed k (all, among, wrong, before) =
    let b = all.body in
    at_body bytes b all.sized
    ∙ sym (judged_name b (right_sizes bytes b all.sized) (fine_rows bytes b all.sized all.rows) Unnamed k (record {
      among = omega arith;
      here = cond-false _ _ _ (⊎_elim (λ t. absurd (wrong t)) (λ f. f) (cases_Bool (named (row_in b) b.count k)));
      before = λ j lt. cond-true _ _ _ (before j lt);
    }))
refused_when bytes Inner k (all, names, among, wrong, before) =
    let b = all.body in
    at_body bytes b all.sized
    ∙ sym (judged_inner b (right_sizes bytes b all.sized) (fine_rows bytes b all.sized all.rows) (λ j lt. cond-true _ _ _ (names j (omega arith))) Inner k (record {
      among = among;
      here = fault_inner bytes b all.sized all.rows k wrong;
      before = λ j lt. none_inner bytes b all.sized all.rows j (before j lt);
    }))
refused_when bytes ShortLog k h = absurd h
refused_when bytes BrokenStrip k h = absurd h
refused_when bytes TakeComplete k h = absurd h
refused_when bytes ShortChart k h = absurd h
refused_when bytes UnequalStrips k h = absurd h
refused_when bytes Place k h = absurd h

-- a row's three operands, one by one
three : (row : Row) → get_or (operands_of row) 0 0 ∷ get_or (operands_of row) 1 0 ∷ get_or (operands_of row) 2 0 ∷ [] ≡ operands_of row
three row = grind arith

-- a sheet that keeps the rules is what its bytes come to
module _ (w : Written) (keeps : Keeps w) where
  abbrev own_body : Body
  own_body = body_of w.facts (length w.rows) (map kind_of w.rows ++ flat_map operands_of w.rows)

  own_sizes : Sized (bytes_of w) own_body
  own_sizes = record {
    whole = refl;
    some_fact = keeps.some_fact;
    few_facts = keeps.few_facts;
    some_row = keeps.some_row;
    few_rows = keeps.few_rows;
    all = written_length w.rows;
  }

  own_operand : (k i : ℕ) → k < length w.rows → i < 3 → get_or own_body.rest (length w.rows + 3 * k + i) 0 ≡ get_or (operands_of (row_at w.rows k)) i 0
  own_operand k i h lt = ap (λ n. get_or own_body.rest n 0) (omega arith) ∙ written_operand w.rows k i h lt

  own_p : (k : ℕ) → k < length w.rows → p_in own_body k ≡ get_or (operands_of (row_at w.rows k)) 0 0
  own_p k h = ap (λ n. get_or own_body.rest n 0) (omega arith) ∙ own_operand k 0 h (omega arith)

  own_operands : (k : ℕ) → k < length w.rows → operands_in own_body k ≡ operands_of (row_at w.rows k)
  own_operands k h = (λ i. own_p k h i ∷ own_operand k 1 h (omega arith) i ∷ own_operand k 2 h (omega arith) i ∷ []) ∙ three (row_at w.rows k)

  own_row : (k : ℕ) → row_in own_body k ≡ row_at w.rows k
  own_row k = ⊎_elim
      (λ h. row_in_below own_body k h
      ∙ (λ i. get_or (kinds (own_p k h i) (own_operand k 1 h (omega arith) i) (own_operand k 2 h (omega arith) i)) (written_kind w.rows k h i) Always)
      ∙ read_back (row_at w.rows k))
      (λ h. past_rows own_body k h ∙ sym (get_or_past w.rows k Always h))
      (cases_lt k (length w.rows))

  own_rows : row_in own_body ≡ row_at w.rows
  own_rows = fun_ext own_row

  own_right : (k : ℕ) → k < length w.rows → RowRight own_body k
  own_right k h = record {
    kind = subst (λ n. n < 8) (sym (written_kind w.rows k h)) (kind_below (row_at w.rows k));
    operands = (ap operands_of (own_row k) ∙ sym (own_operands k h), ap (in_range w.facts k) (own_row k) ∙ keeps.right k h);
    short = subst (λ f. length_of f k ≤ 255) (sym own_rows) (keeps.short k h);
  }

  pub sheet_loads : load_result (bytes_of w) ≡ accepted w
  sheet_loads =
      let names = subst (RowsNamed (length w.rows)) (sym own_rows) keeps.all_named in
      let inners = subst (InnerRight (length w.rows)) (sym own_rows) keeps.inner_right in
      sym (judged_sheet own_body (sizes_from (bytes_of w) own_body own_sizes) (fine_rows (bytes_of w) own_body own_sizes own_right)
      (λ j lt. cond-true _ _ _ (names j (omega arith)))
      (λ j lt. none_inner (bytes_of w) own_body own_sizes own_right j (inners j lt)))
      ∙ ap (λ rows. accepted (record { facts = w.facts; rows = rows })) (rows_again w.rows (row_in own_body) (length w.rows) refl (λ i lt. sym (own_row i)))
