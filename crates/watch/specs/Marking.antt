-- What a mark answers, and what it leaves in the chart.
use Rattle.std.specs.Prelude.{◌≡◌, ℕ, ◌+◌, ◌*◌, ◌<◌, ◌≤◌, cond, List, length, Some, None, Ok, Err, Decides, Option, Result, nat_lt, slice_index_or}
use Rattle.refusal.specs.declared.Refusal.{Refusal}
use Rattle.refusal.specs.declared.Refusal.TheVariants.{ShortLog, ShortChart}
use Rattle.grade.specs.Lattice.{Lattice}
use Rattle.grade.specs.Spans.{spans}
use Rattle.grade.specs.declared.span.Span.{Span}
use Rattle.formula.specs.Grades.{Trace, grade}
use Rattle.formula.specs.Known.{known}
use Rattle.sheet.specs.Rules.{row_at, length_of}
use Rattle.sheet.specs.Sheets.{rule_length}
use Rattle.rule.specs.Trees.{tree_at, rule_of}
use Rattle.watch.specs.declared.outcome.Mark.{Mark}
use Rattle.watch.specs.Feeding.{Progress, take_length}

-- The grades that a log holds: frame t from place t × facts on, one for each fact. (There is no fact from `facts` on.)
abbrev pub log_trace : {V : Type 0} → Lattice V → ℕ → List V → Trace V
log_trace l facts log t f = cond (nat_lt f facts) (slice_index_or log (t * facts + f) l.bottom) l.bottom

-- An accepted frame counts with its grades in the log, any other one as if it could be anything.
abbrev pub seen : {V : Type 0} → Lattice V → Progress → List V → Trace (Span V)
seen l p log = known l p.count (log_trace l p.sheet.facts log)

-- the grade of row k at start s, in spans
abbrev pub row_span : {V : Type 0} → Lattice V → Progress → List V → ℕ → ℕ → Span V
row_span l p log k s = grade (spans l) (seen l p log) (tree_at (row_at p.sheet.rows) k) s

-- that of the rule, which is the mark
abbrev pub mark_span : {V : Type 0} → Lattice V → Progress → List V → Span V
mark_span l p log = grade (spans l) (seen l p log) (rule_of p.sheet) 0

-- why there is no mark, by the sizes of the log and the chart
abbrev pub mark_refusal : Progress → (log chart : ℕ) → Option Refusal
mark_refusal p log chart =
    cond (nat_lt log (p.sheet.facts * take_length p.sheet)) (Some ShortLog)
    (cond (nat_lt chart (length p.sheet.rows * take_length p.sheet)) (Some ShortChart) None)

-- Row k has a cell for each start from which it ends within the take: place i is the cell of start s.
pub record Cell (p : Progress) (k s i : ℕ) : Type 0 where
  pub row : k < length p.sheet.rows
  pub ends : s + length_of (row_at p.sheet.rows) k ≤ rule_length p.sheet
  pub place : k * take_length p.sheet + s ≡ i

-- Every cell holds its row's grade; every other place is as before.
pub record Charted {V : Type 0} (l : Lattice V) (p : Progress) (log : List V) (before after : List (Span V)) : Type 0 where
  pub size : length after ≡ length before
  pub cells : (k s i : ℕ) (d : Span V) → Cell p k s i → slice_index_or after i d ≡ row_span l p log k s
  pub others : (i : ℕ) (d : Span V) → ((k s : ℕ) → Cell p k s i → ⊥) → slice_index_or after i d ≡ slice_index_or before i d

-- A mark is given, with the chart filled, or refused, with nothing changed.
abbrev pub Marked : {V : Type 0} → Lattice V → Progress → List V → List (Span V) → List (Span V) → Result (Mark V) Refusal → Type 0
Marked l p log before after (Ok m) =
    (mark_refusal p (length log) (length before) ≡ None) × (m.span ≡ mark_span l p log) × Decides m.settled (m.span.low ≡ m.span.high) × Charted l p log before after
Marked l p log before after (Err r) = (mark_refusal p (length log) (length before) ≡ Some r) × (after ≡ before)
