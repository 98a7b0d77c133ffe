-- A chart whose rows are written one after the other.
use Rattle.std.proofs.Common.{◌≡◌, ℕ, ◌+◌, ◌-◌, ◌*◌, ◌<◌, ◌≤◌, List, length, get_or, None, sym, ap, ◌∙◌, subst, ap₂, ⊎_elim, mul-le-mul_right, arith}
use lib.Arith.{digits_lt}
use Rattle.std.proofs.lemmas.Bool.{cases_eq, cond-false, le-ltb}
use Rattle.grade.specs.Lattice.{Lattice}
use Rattle.grade.specs.declared.span.Span.{Span}
use Rattle.sheet.specs.Rules.{Keeps}
use Rattle.sheet.specs.Sheets.{rule_length}
use Rattle.watch.specs.Feeding.{Progress, take_length}
use Rattle.watch.specs.Marking.{row_span, mark_refusal, Charted}
use Rattle.watch.specs.Cells.{long, Ready, RowCharted}

-- the rows below k are written
pub record Sofar {V : Type 0} (l : Lattice V) (p : Progress) (log : List V) (k : ℕ) (before now : List (Span V)) : Type 0 where
  pub size : length now ≡ length before
  pub cells : (j s : ℕ) (d : Span V) → j < k → s + long p j ≤ rule_length p.sheet → get_or now (j * take_length p.sheet + s) d ≡ row_span l p log j s
  pub others : (i : ℕ) (d : Span V) → ((j s : ℕ) → j < k → s + long p j ≤ rule_length p.sheet → j * take_length p.sheet + s ≡ i → ⊥) → get_or now i d ≡ get_or before i d

module _ {V : Type 0} (l : Lattice V) (p : Progress) (log : List V) where
  -- a cell of a lower row is none of row k
  apart : (j k s t : ℕ) → j < k → s + long p j ≤ rule_length p.sheet → k * take_length p.sheet + t ≡ j * take_length p.sheet + s → ⊥
  apart j k s t less h e =
      let early : s < take_length p.sheet = omega (arith, h) in
      omega (arith, digits_lt less early, e)

  pub sofar_more : (k : ℕ) (before now after : List (Span V)) → Sofar l p log k before now → RowCharted l p log k now after → Sofar l p log (k + 1) before after
  sofar_more k before now after so row =
      record {
        size = row.size ∙ so.size;
        cells = λ j s d less h.
            ⊎_elim
            (λ same. ap (λ i. get_or after (i * take_length p.sheet + s) d) same ∙ row.cells s d (subst (λ i. s + long p i ≤ rule_length p.sheet) same h) ∙ ap (λ i. row_span l p log i s) (sym same))
            (λ other. row.others (j * take_length p.sheet + s) d (λ t ends e. apart j k s t (omega (arith, other)) h e) ∙ so.cells j s d (omega (arith, other)) h)
            (cases_eq j k);
        others = λ i d h. row.others i d (λ t ends e. h k t (omega arith) ends e) ∙ so.others i d (λ j s less ends e. h j s (omega arith) ends e);
      }

  pub ready_from : (k : ℕ) (before now : List (Span V)) → Keeps p.sheet → p.sheet.facts * take_length p.sheet ≤ length log → length p.sheet.rows * take_length p.sheet ≤ length before
      → k < length p.sheet.rows → Sofar l p log k before now → Ready l p log k now
  ready_from k before now keeps log_room chart_room among so =
      record { keeps = keeps; log_room = log_room; rows_room = omega (arith, so.size, chart_room, mul-le-mul_right (take_length p.sheet) among); among = among; cells = so.cells }

  pub all_charted : (before after : List (Span V)) → Sofar l p log (length p.sheet.rows) before after → Charted l p log before after
  all_charted before after so =
      record {
        size = so.size;
        cells = λ k s i d cell. ap (λ n. get_or after n d) (sym cell.place) ∙ so.cells k s d cell.row cell.ends;
        others = λ i d h. so.others i d (λ j s less ends e. h j s (record { row = less; ends = ends; place = e }));
      }

  -- the first cell of the last row is the mark
  pub last_cell : (rows n : ℕ) (before after : List (Span V)) (d : Span V) → 1 ≤ length p.sheet.rows → rows ≡ length p.sheet.rows → n ≡ take_length p.sheet → Sofar l p log (length p.sheet.rows) before after
      → get_or after ((rows - 1) * n + 0) d ≡ row_span l p log (length p.sheet.rows - 1) 0
  last_cell rows n before after d some rows_is n-is so =
      let first : (rows - 1) * n + 0 ≡ (length p.sheet.rows - 1) * take_length p.sheet + 0 = ap₂ (λ r m. (r - 1) * m + 0) rows_is n-is in
      ap (λ i. get_or after i d) first ∙ so.cells (length p.sheet.rows - 1) 0 d (omega arith) (omega arith)

-- and it stands in the chart
pub last_inside : (p : Progress) (rows n chart : ℕ) → 1 ≤ length p.sheet.rows → rows ≡ length p.sheet.rows → n ≡ take_length p.sheet → rows * n ≤ chart → (rows - 1) * n < chart
last_inside p rows n chart some rows_is n-is room =
    let back : rows ≡ rows - 1 + 1 = omega arith in
    omega (arith, ap (λ r. r * n) back)

pub no_refusal : (p : Progress) (log chart : ℕ) → p.sheet.facts * take_length p.sheet ≤ log → length p.sheet.rows * take_length p.sheet ≤ chart → mark_refusal p log chart ≡ None
no_refusal p log chart a b = cond-false _ _ _ (le-ltb log _ a) ∙ cond-false _ _ _ (le-ltb chart _ b)
