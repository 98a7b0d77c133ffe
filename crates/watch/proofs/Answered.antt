-- Every mark that is not refused can be given: there is a chart that holds what the definition asks, and an answer.
use Rattle.std.proofs.Common.{◌≡◌, ℕ, ◌+◌, ◌*◌, ◌/◌, ◌%◌, ◌<◌, ◌≤◌, Bool, true, cond, ◌&&◌, ltb, leb, List, map, length, get_or, None, Ok, sym, refl, ap, ◌∙◌, subst, ap₂, ⊎_elim, div-add-mod', arith}
use lib.Arith.{digits_lt, digits_div, digits_mod}
use Rattle.std.specs.List.{range_with_len}
use Rattle.std.proofs.lemmas.List.FromFn.{length-map-range_with_len, get_or-map-range_with_len}
use Rattle.std.proofs.lemmas.List.{get_or_past, get_or_default}
use Rattle.std.proofs.lemmas.Bool.{and_from, and_parts, lt-ltb, le-leb, ltb-true, leb-true, cond-true, cond-false, cases_Bool, cases_lt}
use Rattle.grade.specs.Lattice.{Lattice, Lawful}
use Rattle.grade.specs.Spans.{unknown}
use Rattle.grade.specs.declared.span.Span.{Span}
use Rattle.sheet.specs.Rules.{row_at, length_of}
use Rattle.sheet.specs.Sheets.{rule_length}
use Rattle.watch.specs.Feeding.{Progress, take_length}
use Rattle.watch.specs.Marking.{row_span, mark_span, mark_refusal, Cell, Charted, Marked}
use Rattle.watch.specs.Played.{mark_of}

module _ {V : Type 0} (l : Lattice V) (p : Progress) (log : List V) (before : List (Span V)) (wide : length p.sheet.rows * take_length p.sheet ≤ length before) where
  -- place i is a cell
  pub is_cell : ℕ → Bool
  is_cell i = ltb (i / take_length p.sheet) (length p.sheet.rows) && leb (i % take_length p.sheet + length_of (row_at p.sheet.rows) (i / take_length p.sheet)) (rule_length p.sheet)

  pub filled_at : ℕ → Span V
  filled_at i = cond (is_cell i) (row_span l p log (i / take_length p.sheet) (i % take_length p.sheet)) (get_or before i (unknown l))

  abbrev pub after : List (Span V)
  after = map filled_at (range_with_len 0 (length before))

  at : (i : ℕ) (d : Span V) → i < length before → get_or after i d ≡ filled_at i
  at i d h = get_or-map-range_with_len filled_at 0 (length before) i i d h (omega arith)

  early : {k s i : ℕ} → Cell p k s i → s < take_length p.sheet
  early c = omega (arith, c.ends)

  inside : {k s i : ℕ} → Cell p k s i → i < length before
  inside {k} {s} {i} c =
      let less : k * take_length p.sheet + s < length p.sheet.rows * take_length p.sheet = digits_lt c.row (early c) in
      omega (arith, less, c.place, wide)

  of_cell : {k s i : ℕ} → Cell p k s i → (i / take_length p.sheet ≡ k) × (i % take_length p.sheet ≡ s)
  of_cell {k} {s} {i} c = (ap (λ n. n / take_length p.sheet) (sym c.place) ∙ digits_div k (early c), ap (λ n. n % take_length p.sheet) (sym c.place) ∙ digits_mod k (early c))

  cell_holds : (k s i : ℕ) (d : Span V) → Cell p k s i → get_or after i d ≡ row_span l p log k s
  unfolding filled_at is_cell
  cell_holds k s i d c =
      let (row, start) = of_cell c in
      at i d (inside c)
      ∙ cond-true (is_cell i) _ _ (and_from _ _ (lt-ltb _ _ (subst (λ n. n < length p.sheet.rows) (sym row) c.row))
      (le-leb _ _ (subst (λ n. n ≤ rule_length p.sheet) (sym (ap₂ (λ a b. a + length_of (row_at p.sheet.rows) b) start row)) c.ends)))
      ∙ ap₂ (row_span l p log) row start

  other_stays : (i : ℕ) (d : Span V) → ((k s : ℕ) → Cell p k s i → ⊥) → get_or after i d ≡ get_or before i d
  unfolding filled_at is_cell
  other_stays i d none = ⊎_elim
      (λ less.
      at i d less ∙ ⊎_elim
      (λ t. let both = and_parts (ltb (i / take_length p.sheet) (length p.sheet.rows)) _ t in
      absurd (none (i / take_length p.sheet) (i % take_length p.sheet) (record { row = ltb-true _ _ both.0; ends = leb-true _ _ both.1; place = div-add-mod' i (take_length p.sheet) })))
      (λ f. cond-false (is_cell i) _ _ f ∙ get_or_default before i (unknown l) d less)
      (cases_Bool (is_cell i)))
      (λ past. get_or_past after i d (omega (arith, length-map-range_with_len filled_at 0 (length before))) ∙ sym (get_or_past before i d past))
      (cases_lt i (length before))

  pub charted : Charted l p log before after
  charted = record { size = length-map-range_with_len filled_at 0 (length before); cells = cell_holds; others = other_stays }

  -- and the answer
  pub answered : Lawful l → mark_refusal p (length log) (length before) ≡ None → Marked l p log before after (Ok (mark_of l p log))
  answered law fine =
      let span = mark_span l p log in (
        fine,
        refl,
        (
          (λ t. let both = and_parts (l.le span.low span.high) (l.le span.high span.low) t in law.antisymmetric span.low span.high both.0 both.1),
          (λ same. and_from _ _ (subst (λ x. l.le span.low x ≡ true) same (law.reflexive span.low)) (subst (λ x. l.le x span.low ≡ true) same (law.reflexive span.low))),
        ),
        charted,
      )
