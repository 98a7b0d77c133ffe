-- A trace laid out as a take, frame by frame: the rule has the same grade on both.
use Rattle.std.proofs.Common.{◌≡◌, ℕ, ◌+◌, ◌*◌, ◌/◌, ◌%◌, ◌<◌, ◌≤◌, Bool, true, false, ltb, List, map, length, get_or, take, sym, ap, ◌∙◌, subst, ap₂, mul-le-mul_right, mod-lt, mul_comm, div-lt_iff_lt-mul, div-add-mod', arith}
use lib.Arith.{digits_lt, digits_div, digits_mod}
use Rattle.std.specs.List.{range_with_len}
use Rattle.std.proofs.lemmas.List.FromFn.{length-map-range_with_len, get_or-map-range_with_len}
use Rattle.std.proofs.lemmas.List.{ext_get_or, get_or-take, length-take-le}
use Rattle.std.proofs.lemmas.Bool.{lt-ltb, cond-true}
use Rattle.grade.specs.Lattice.{Lattice}
use Rattle.formula.specs.Grades.{Trace}
use Rattle.formula.specs.Known.{Agree}
use Rattle.formula.specs.Formula.{horizon}
use Rattle.formula.specs.Sides.{reaches}
use Rattle.formula.proofs.Carried.{equal_kept}
use Rattle.formula.proofs.Related.{related}
use Rattle.sheet.specs.Rules.{Written, row_at, Keeps}
use Rattle.sheet.proofs.Reading.{range_facts}
use Rattle.sheet.proofs.Sides.{fact_under}
use Rattle.rule.specs.Trees.{rule_of}
use Rattle.rule.specs.Meaning.{rule_row, rule_grade}
use Rattle.rule.proofs.Sides.{sheet_reaches}
use Rattle.rule.proofs.Trees.{rule_horizon, kept_lower}
use Rattle.watch.specs.Feeding.{take_length}
use Rattle.watch.specs.Marking.{log_trace}
use Rattle.watch.specs.Life.{take_size, Begins, rule_on}

module _ (w : Written) (keeps : Keeps w) where
  -- a fact that the rule reaches is one that there is
  fact_there : (fact : ℕ) (side : Bool) → reaches side (rule_of w) fact ≡ true → fact < w.facts
  fact_there fact side h =
      fact_under (row_at w.rows) (rule_row w) (length w.rows) (kept_lower w keeps) (omega (arith, keeps.some_row)) w.facts
      (λ k among. range_facts w.facts k (row_at w.rows k) (keeps.right k among)) ((sheet_reaches w keeps fact side).1 h)

  module _ {V : Type 0} (l : Lattice V) (trace : Trace V) where
    abbrev pub laid : List V
    laid = map (λ i. trace (i / w.facts) (i % w.facts)) (range_with_len 0 (take_size w))

    laid_at : (i : ℕ) (d : V) → i < take_size w → get_or laid i d ≡ trace (i / w.facts) (i % w.facts)
    laid_at i d h = get_or-map-range_with_len (λ j. trace (j / w.facts) (j % w.facts)) 0 (take_size w) i i d h (omega arith)

    -- fact f of frame t stands where it is looked for
    laid_trace : (t f : ℕ) → t < take_length w → f < w.facts → log_trace l w.facts laid t f ≡ trace t f
    laid_trace t f early fact =
        cond-true (ltb f w.facts) _ l.bottom (lt-ltb f w.facts fact)
        ∙ laid_at (t * w.facts + f) l.bottom (subst (λ n. t * w.facts + f < n) (mul_comm (take_length w) w.facts) (digits_lt early fact))
        ∙ ap₂ trace (digits_div t fact) (digits_mod t fact)

    pub rule_laid : rule_on l w laid ≡ rule_grade l trace w
    rule_laid =
        let at : (side : Bool) (t f : ℕ) → reaches side (rule_of w) f ≡ true → t ≤ 0 + horizon (rule_of w) → log_trace l w.facts laid t f ≡ trace t f =
        λ side t f r late. laid_trace t f (omega (arith, rule_horizon w)) (fact_there f side r) in
        related l l ◌≡◌ ◌≡◌ (equal_kept l) (equal_kept l) (log_trace l w.facts laid) trace (rule_of w) 0
        (record { plain = λ t f r early late. at false t f r late; turned = λ t f r early late. at true t f r late })

    pub laid_begins : (n : ℕ) (frames : List V) → n * w.facts ≡ length frames → n ≤ take_length w → Agree n (log_trace l w.facts frames) trace → Begins w frames laid
    laid_begins n frames count few agree =
        let all : length laid ≡ take_size w = length-map-range_with_len (λ i. trace (i / w.facts) (i % w.facts)) 0 (take_size w) in
        let within : length frames ≤ take_size w = omega (arith, count, mul-le-mul_right w.facts few, mul_comm (take_length w) w.facts) in
        let some = keeps.some_fact in
        record {
          size = all;
          front = ext_get_or l.bottom (take (length frames) laid) frames (length-take-le (length frames) laid (omega arith)) (λ i lt.
              let less : i < length frames = omega (arith, length-take-le (length frames) laid (omega arith)) in
              let frame : i / w.facts < n = (div-lt_iff_lt-mul some).1 (omega (arith, count)) in
              let fact : i % w.facts < w.facts = mod-lt i some in
              get_or-take (length frames) laid i l.bottom less ∙ laid_at i l.bottom (omega arith)
              ∙ sym (agree (i / w.facts) (i % w.facts) frame)
              ∙ cond-true (ltb (i % w.facts) w.facts) _ l.bottom (lt-ltb (i % w.facts) w.facts fact)
              ∙ ap (λ j. get_or frames j l.bottom) (div-add-mod' i w.facts));
        }
