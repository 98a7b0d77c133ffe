-- A sheet record keeps the rules, since its type says so.
use Rattle.std.proofs.Common.{take, sym, subst, arith}
use Rattle.std.proofs.lemmas.List.{length-take-le}
use Rattle.sheet.specs.Rules.{Keeps, row_at, RowsRight, RowsShort, RowsNamed, InnerRight}
use Rattle.sheet.specs.Sheets.{sheet_of}
use Rattle.sheet.specs.declared.record.Sheet.{Sheet}

pub sheet_keeps : (s : Sheet) → Keeps (sheet_of s)
sheet_keeps s =
    let count = length-take-le s.count s.rows (omega arith) in
    let row = row_at (take s.count s.rows) in
    record {
      some_fact = s.some_fact;
      few_facts = s.few_facts;
      some_row = omega arith;
      few_rows = omega arith;
      right = subst (λ n. RowsRight s.facts n row) (sym count) s.right;
      short = subst (λ n. RowsShort n row) (sym count) s.short;
      all_named = subst (λ n. RowsNamed n row) (sym count) s.all_named;
      inner_right = subst (λ n. InnerRight n row) (sym count) s.inner_right;
    }
