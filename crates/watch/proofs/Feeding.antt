-- What a feed's answer says of the sizes, and what a refused one leaves.
use Rattle.std.proofs.Common.{◌≡◌, ℕ, ◌+◌, ◌-◌, ◌*◌, ◌/◌, ◌%◌, ◌≤◌, min, Bool, true, false, cond, ◌&&◌, eqb, ltb, leb, List, ◌++◌, take, drop, Ok, Err, sym, refl, ap, ◌∙◌, add-zero, mul-le-mul_right, mul_comm, add-mul, zero-mul, div-mul-le_self, arith, take-append-drop}
use Rattle.std.proofs.lemmas.Bool.{ltb-false}
use Rattle.refusal.specs.declared.Refusal.TheVariants.{ShortLog, BrokenStrip, TakeComplete}
use Rattle.watch.specs.Feeding.{Progress, take_length, feed_answer, advanced, logged}

pub advanced_none : (p : Progress) → advanced p 0 ≡ p
advanced_none p = λ i. record { sheet = p.sheet; count = add-zero p.count i }

pub logged_none : {V : Type 0} (p : Progress) (strip log : List V) → logged p 0 strip log ≡ log
logged_none p strip log =
    ap (λ n. take (p.count * p.sheet.facts) log ++ (take n strip ++ drop ((p.count + 0) * p.sheet.facts) log)) (zero-mul p.sheet.facts)
    ∙ ap (λ n. take (p.count * p.sheet.facts) log ++ drop (n * p.sheet.facts) log) (add-zero p.count)
    ∙ take-append-drop (p.count * p.sheet.facts) log

-- what the three tests of a granted feed said
pub choice : (x y z : Bool) (m n : ℕ) → Ok n ≡ cond x (Err ShortLog) (cond y (cond z (Err TakeComplete) (Ok m)) (Err BrokenStrip)) → (x ≡ false) × (y ≡ true) × (n ≡ m)
choice true y z m n h = absurd (let e : ◌≡◌ {A = ℕ} 0 1 = cc in omega arith)
choice false true true m n h = absurd (let e : ◌≡◌ {A = ℕ} 0 1 = cc in omega arith)
choice false true false m n h = (refl, refl, cc)
choice false false z m n h = absurd (let e : ◌≡◌ {A = ℕ} 0 1 = cc in omega arith)

-- the accepted frames fit the take, the log and the strip
pub record Fits (p : Progress) (log strip n : ℕ) : Type 0 where
  pub whole : p.count + n ≤ take_length p.sheet
  pub room : p.count * p.sheet.facts + n * p.sheet.facts ≤ log
  pub there : n * p.sheet.facts ≤ strip

pub granted_fits : (p : Progress) (log strip n : ℕ) → p.count ≤ take_length p.sheet → feed_answer p log strip ≡ Ok n → Fits p log strip n
granted_fits p log strip n within h =
    let facts = p.sheet.facts in
    let said = choice (ltb log (facts * take_length p.sheet)) (eqb (strip % facts) 0) (leb (take_length p.sheet) p.count && ltb 0 strip) (min (strip / facts) (take_length p.sheet - p.count)) n (sym h) in
    let long = ltb-false log (facts * take_length p.sheet) said.0 in
    let whole : p.count + n ≤ take_length p.sheet = omega (arith, said.2) in
    let less : n ≤ strip / facts = omega (arith, said.2) in
    record {
      whole = whole;
      room = omega (arith, add-mul p.count n facts, mul-le-mul_right facts whole, mul_comm (take_length p.sheet) facts, long);
      there = omega (arith, mul-le-mul_right facts less, div-mul-le_self strip facts);
    }
