-- A row's grades from the facts or from the cells of the rows below it.
use Rattle.std.proofs.Common.{◌≡◌, ℕ, ◌+◌, ◌-◌, ◌*◌, ◌<◌, ◌≤◌, true, List, ◌++◌, length, get_or, drop, sym, refl, ap, ap₂, ◌∙◌, ⊎_elim, subst, mul-le-mul_right, add-mul, one-mul, arith}
use lib.Arith.{digits_lt}
use Rattle.std.proofs.lemmas.List.{length-append, length-drop, get_or_append_left, get_or-append-add, get_or-append_right, get_or-drop}
use mathlib.Core.Path.{fun_ext}
use Rattle.std.proofs.lemmas.Bool.{cases_lt}
use Rattle.grade.specs.Lattice.{Lattice}
use Rattle.grade.specs.Spans.{spans}
use Rattle.grade.specs.declared.span.Span.{Span}
use Rattle.formula.specs.Formula.{horizon}
use Rattle.formula.specs.Grades.{grade}
use Rattle.sheet.specs.Rows.{named_by, row_length}
use Rattle.sheet.specs.Rules.{has, in_range, row_at}
use Rattle.sheet.specs.Sheets.{rule_length}
use Rattle.sheet.specs.declared.row.Row.{Row}
use Rattle.sheet.proofs.Has.{has_lower}
use Rattle.sheet.proofs.Reading.{range_lower}
use Rattle.rule.specs.Meaning.{formula_at}
use Rattle.rule.specs.Trees.{tree_of}
use Rattle.rule.proofs.Rules.{rows_are_formulas}
use Rattle.rule.proofs.Trees.{horizon_by_named}
use Rattle.watch.specs.Feeding.{Progress, take_length}
use Rattle.watch.specs.Marking.{seen, row_span}
use Rattle.watch.specs.Windows.{Holds}
use Rattle.watch.specs.Cells.{long, Ready, RowCharted}

module _ {V : Type 0} {l : Lattice V} {p : Progress} {log : List V} {k : ℕ} {chart : List (Span V)} (ready : Ready l p log k chart) where
  step : (r : Row) → r ≡ row_at p.sheet.rows k → formula_at p.sheet k ≡ tree_of (formula_at p.sheet) r
  step r e = rows_are_formulas.made p.sheet ready.keeps k ready.among ∙ ap (tree_of (formula_at p.sheet)) (sym e)

  -- the grade of row k, which is r
  pub span_is : (r : Row) → r ≡ row_at p.sheet.rows k → (s : ℕ) → grade (spans l) (seen l p log) (tree_of (formula_at p.sheet) r) s ≡ row_span l p log k s
  span_is r e s = ap (λ φ. grade (spans l) (seen l p log) φ s) (sym (step r e))

  -- and its length
  pub long_is : (r : Row) → r ≡ row_at p.sheet.rows k → long p k ≡ row_length (long p) r
  long_is r e =
      sym (rows_are_formulas.long p.sheet k) ∙ ap horizon (step r e) ∙ horizon_by_named (formula_at p.sheet) r
      ∙ ap (λ len. row_length len r) (fun_ext (rows_are_formulas.long p.sheet))

  right_row : (r : Row) → r ≡ row_at p.sheet.rows k → in_range p.sheet.facts k r ≡ true
  right_row r e = subst (λ x. in_range p.sheet.facts k x ≡ true) (sym e) (ready.keeps.right k ready.among)

  pub named_lower : (r : Row) → r ≡ row_at p.sheet.rows k → (i : ℕ) → has (named_by r) i ≡ true → i < k
  named_lower r e i h = has_lower k (named_by r) i (range_lower p.sheet.facts k r (right_row r e)) h

  -- The places of a lower row stand before those of row k.
  pub lower_room : (j n : ℕ) → j < k → n ≡ take_length p.sheet → j * n + n ≤ length chart
  lower_room j n less n-is =
      let room : k * n ≤ length chart = subst (λ m. k * m ≤ length chart) (sym n-is) ready.rows_room in
      omega (arith, add-mul j 1 n, one-mul n, mul-le-mul_right n less)

  -- The rows below row k, in the front of a chart that is cut before its cells.
  pub ready_front : (front back : List (Span V)) → chart ≡ front ++ back → length front ≡ k * take_length p.sheet → Ready l p log k front
  ready_front front back cut size =
      record {
        keeps = ready.keeps;
        log_room = ready.log_room;
        among = ready.among;
        rows_room = omega (arith, size);
        cells = λ j s d less h.
            let inside : j * take_length p.sheet + s < length front = omega (arith, digits_lt less (late s j h), size) in
            sym (get_or_append_left front back d (j * take_length p.sheet + s) inside) ∙ ap (λ c. get_or c (j * take_length p.sheet + s) d) (sym cut) ∙ ready.cells j s d less h;
      }
    where
      late : (s j : ℕ) → s + long p j ≤ rule_length p.sheet → s < take_length p.sheet
      late s j h = omega arith

  -- Behind the cut there is room for a row.
  pub back_room : (place : ℕ) (back : List (Span V)) → length p.sheet.rows * take_length p.sheet ≤ length chart → length back + place ≡ length chart → place ≡ k * take_length p.sheet → take_length p.sheet ≤ length back
  back_room place back room size there =
      let n = take_length p.sheet in
      omega (arith, add-mul k 1 n, one-mul n, mul-le-mul_right n ready.among)

  -- Row k is charted once its cells are written there.
  pub row_charted : (count : ℕ) (front back own after : List (Span V)) → chart ≡ front ++ back → length front ≡ k * take_length p.sheet → length own ≡ count → count + long p k ≡ take_length p.sheet → count ≤ length back
      → after ≡ front ++ (own ++ drop count back) → Holds (row_span l p log k) own → RowCharted l p log k chart after
  row_charted count front back own after cut size own_size sum room now holds =
      let past = own ++ drop count back in
      let place = k * take_length p.sheet in
      let same : length past ≡ length back = length-append own (drop count back) ∙ omega (arith, length-drop count back) in
      record {
        size = ap length now ∙ length-append front past ∙ ap (λ n. length front + n) same ∙ sym (length-append front back) ∙ ap length (sym cut);
        cells = λ s d h.
            let inside : s < length own = omega arith in
            let there : place + s ≡ length front + s = omega arith in
            ap₂ (λ xs i. get_or xs i d) now there ∙ get_or-append-add front past s d ∙ get_or_append_left own _ d s inside ∙ holds s d inside;
        others = λ i d apart.
            ap (λ xs. get_or xs i d) now
            ∙ ⊎_elim
            (λ before. get_or_append_left front past d i before ∙ sym (get_or_append_left front back d i before))
            (λ after.
            let j = i - length front in
            let more : count ≤ j = ⊎_elim (λ less. absurd (apart j (omega arith) (omega arith))) (λ h. h) (cases_lt j count) in
            let up : count + (j - count) ≡ j = omega arith in
            get_or-append_right front past (length front) i d refl after
            ∙ get_or-append_right own (drop count back) count j d own_size more ∙ get_or-drop count back (j - count) d ∙ ap (λ m. get_or back m d) up
            ∙ sym (get_or-append_right front back (length front) i d refl after))
            (cases_lt i (length front))
            ∙ ap (λ xs. get_or xs i d) (sym cut);
      }
