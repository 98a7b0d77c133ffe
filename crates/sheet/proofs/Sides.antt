-- The sweep raises exactly the flags of the facts that chains of naming reach.
use Rattle.std.proofs.Common.{◌≡◌, ℕ, suc, ◌-◌, ◌<◌, ◌≤◌, Bool, true, false, cond, not, ◌&&◌, ◌||◌, ◌⊎◌, List, length, get_or, take, set, replicate, Decides, sym, ap, ◌∙◌, subst, inl, inr, ⊎_elim, arith}
use Rattle.std.proofs.lemmas.List.{get_or-take, length-take-le, get_or-set_same, get_or-set_other}
use Rattle.std.proofs.lemmas.Bool.Decides.{nat_tests}
use Rattle.std.proofs.lemmas.Bool.{or_cases, or_left, and_parts, and_from, cases_eq, cases_Bool, both_ways, cond-true, cond-false}
use Rattle.sheet.specs.declared.row.Row.{Row}
use Rattle.sheet.specs.declared.row.Row.TheVariants.{Always, Hold, HoldOff, Both, Either, Not, Then, Within}
use Rattle.sheet.specs.declared.record.Sheet.{Sheet}
use Rattle.sheet.specs.declared.record.sides.Side.{Side}
use Rattle.sheet.specs.Rows.{facts_of, named_by}
use Rattle.sheet.specs.Rules.{has, all_under, row_at}
use Rattle.sheet.specs.Sheets.{sheet_of}
use Rattle.sheet.specs.Sides.{Chain, start, turn, along, Reaches, by_hold, by_hold_off}
use Rattle.sheet.specs.SideSteps.{turns, HandedOn, FactsReached}
use Rattle.sheet.proofs.Has.{has_one, only, has_under, has_lower, all_under_more}
use Rattle.sheet.proofs.Reading.{getD_same, range_facts, range_lower}

-- a side, turned or not
abbrev pub turned_by : Bool → Bool → Bool
turned_by t side = cond t (not side) side

-- the side on which a row has what it names and reads, if it is itself on side `turned`
abbrev pub after : Row → Bool → Bool
after row turned = turned_by (turns row) turned

-- whether what is handed on from side p, turned or not, comes to side t
abbrev on : (p t turned : Bool) → Bool
on p t turned = cond (cond p t (not t)) (not turned) turned

on_says : (p t turned : Bool) → on p t turned ≡ true → turned_by turned p ≡ t
on_says p t turned h = grind arith

on_after : (p turned : Bool) → on p (turned_by turned p) turned ≡ true
on_after p turned = grind arith

-- a row that turns and names a row is a not of it
pub turning_names : (r : Row) (k : ℕ) → turns r ≡ true → has (named_by r) k ≡ true → r ≡ Not k
turning_names r k t h = grind (arith, nat_tests)

-- so a row that names another and is no not of it does not turn
pub straight : (r : Row) (k : ℕ) → has (named_by r) k ≡ true → (r ≡ Not k → ⊥) → turns r ≡ false
straight r k h other = grind (arith, nat_tests)

reading : (r : Row) (f : ℕ) → has (facts_of r) f ≡ true → ((d : ℕ) × (r ≡ Hold d f)) ⊎ ((d : ℕ) × (r ≡ HoldOff d f))
reading Always f h = cc
reading (Hold duration fact) f h = inl (duration, ap (Hold duration) (only fact f h))
reading (HoldOff duration fact) f h = inr (duration, ap (HoldOff duration) (only fact f h))
reading (Both left right) f h = cc
reading (Either left right) f h = cc
reading (Not row) f h = cc
reading (Then left right) f h = cc
reading (Within from to row) f h = cc

-- a row of a chain goes on to each row that it names, and reaches each fact that it reads
module _ (row : ℕ → Row) (last : ℕ) where
  pub chain_on : (j k : ℕ) (t : Bool) → Chain row last j t → has (named_by (row j)) k ≡ true → Chain row last k (after (row j) t)
  chain_on j k t c h =
      ⊎_elim
      (λ e. subst (Chain row last k) (sym (cond-true (turns (row j)) (not t) t e)) (turn c (turning_names (row j) k e h)))
      (λ e. subst (Chain row last k) (sym (cond-false (turns (row j)) (not t) t e)) (along c h (λ n. both_ways (turns (row j)) e (ap turns n))))
      (cases_Bool (turns (row j)))

  pub reach_on : (j f : ℕ) (t : Bool) → Chain row last j t → has (facts_of (row j)) f ≡ true → Reaches row last f (after (row j) t)
  reach_on j f t c h =
      ⊎_elim
      (λ p. subst (Reaches row last f) (sym (cond-false (turns (row j)) (not t) t (ap turns p.1))) (by_hold c p.1))
      (λ p. subst (Reaches row last f) (sym (cond-true (turns (row j)) (not t) t (ap turns p.1))) (by_hold_off c p.1))
      (reading (row j) f h)

-- The flags of rows and of facts by side, raised by the rows and sides that are done.
module _ (row : ℕ → Row) (last : ℕ) where
  pub record Sweep (Done : ℕ → Bool → Type 0) (rows facts : Bool → ℕ → Bool) : Type 0 where
    pub first : rows false last ≡ true
    pub row_sound : (t : Bool) (k : ℕ) → rows t k ≡ true → Chain row last k t
    pub fact_sound : (t : Bool) (f : ℕ) → facts t f ≡ true → Reaches row last f t
    pub row_on : (j : ℕ) (t : Bool) → Done j t → rows t j ≡ true → (k : ℕ) → has (named_by (row j)) k ≡ true → rows (after (row j) t) k ≡ true
    pub fact_on : (j : ℕ) (t : Bool) → Done j t → rows t j ≡ true → (f : ℕ) → has (facts_of (row j)) f ≡ true → facts (after (row j) t) f ≡ true

  pub weaken : (Done Less : ℕ → Bool → Type 0) (rows facts : Bool → ℕ → Bool) → ((j : ℕ) (t : Bool) → Less j t → Done j t) → Sweep Done rows facts → Sweep Less rows facts
  weaken Done Less rows facts h s = record {
    first = s.first;
    row_sound = s.row_sound;
    fact_sound = s.fact_sound;
    row_on = λ j t d. s.row_on j t (h j t d);
    fact_on = λ j t d. s.fact_on j t (h j t d);
  }

-- the flags of side p and of the other are raised by a row, if it is itself on side p
abbrev pub Raises : (before after : Bool → ℕ → Bool) (p reached turned : Bool) (names : List ℕ) → Type 0
Raises before after p reached turned names =
    ((k : ℕ) → after p k ≡ (before p k || ((reached && not turned) && has names k)))
    × ((k : ℕ) → after (not p) k ≡ (before (not p) k || ((reached && turned) && has names k)))

raised : (before after : Bool → ℕ → Bool) (p reached turned : Bool) (names : List ℕ) → Raises before after p reached turned names → (t : Bool) (k : ℕ) → after t k ≡ (before t k || ((reached && on p t turned) && has names k))
raised before after false reached turned names h false k = h.0 k
raised before after false reached turned names h true k = h.1 k
raised before after true reached turned names h true k = h.0 k
raised before after true reached turned names h false k = h.1 k

-- One row more, on one side.
module _ (row : ℕ → Row) (last : ℕ) (Done : ℕ → Bool → Type 0) (i : ℕ) (p : Bool) (rows rows' facts facts' : Bool → ℕ → Bool) where
  abbrev pub Here : ℕ → Bool → Type 0
  Here j t = Done j t ⊎ ((j ≡ i) × (t ≡ p))

  module _ (s : Sweep row last Done rows facts) (lower : all_under i (named_by (row i)) ≡ true) (above : (j : ℕ) (t : Bool) → Done j t → i ≤ j)
      (rows-raised : Raises rows rows' p (rows p i) (turns (row i)) (named_by (row i))) (facts-raised : Raises facts facts' p (rows p i) (turns (row i)) (facts_of (row i))) where
    -- whether the row hands anything on to side t
    abbrev sent : Bool → Bool
    sent t = rows p i && on p t (turns (row i))

    sent_says : (t : Bool) → sent t ≡ true → (rows p i ≡ true) × (after (row i) p ≡ t)
    sent_says t e = let both = and_parts (rows p i) (on p t (turns (row i))) e in (both.0, on_says p t (turns (row i)) both.1)

    sent_after : rows p i ≡ true → sent (after (row i) p) ≡ true
    sent_after e = and_from (rows p i) (on p (after (row i) p) (turns (row i))) e (on_after p (turns (row i)))

    row_is : (t : Bool) (k : ℕ) → rows' t k ≡ (rows t k || (sent t && has (named_by (row i)) k))
    row_is = raised rows rows' p (rows p i) (turns (row i)) (named_by (row i)) rows-raised

    fact_is : (t : Bool) (f : ℕ) → facts' t f ≡ (facts t f || (sent t && has (facts_of (row i)) f))
    fact_is = raised facts facts' p (rows p i) (turns (row i)) (facts_of (row i)) facts-raised

    -- the row names no row that is done, nor itself
    same : (j : ℕ) (t : Bool) → i ≤ j → rows' t j ≡ true → rows t j ≡ true
    same j t le e = let other = has_under i j (named_by (row i)) lower le in let is = row_is t j in grind arith

    row_here : (k : ℕ) → rows' p i ≡ true → has (named_by (row i)) k ≡ true → rows' (after (row i) p) k ≡ true
    row_here k e h = let sends = sent_after (same i p (omega arith) e) in let is = row_is (after (row i) p) k in grind arith

    fact_here : (f : ℕ) → rows' p i ≡ true → has (facts_of (row i)) f ≡ true → facts' (after (row i) p) f ≡ true
    fact_here f e h = let sends = sent_after (same i p (omega arith) e) in let is = fact_is (after (row i) p) f in grind arith

    at_here : (P : ℕ → Bool → Type 0) {j : ℕ} {t : Bool} → P i p → (j ≡ i) × (t ≡ p) → P j t
    at_here P {j} {t} h e = subst (λ x. P x t) (sym e.0) (subst (P i) (sym e.1) h)

    pub visited : Sweep row last Here rows' facts'
    visited = record {
      first = row_is false last ∙ or_left (rows false last) _ s.first;
      row_sound = λ t k e.
          ⊎_elim (s.row_sound t k)
          (λ h.
          let both = and_parts (sent t) (has (named_by (row i)) k) h in
          let q = sent_says t both.0 in
          subst (Chain row last k) q.1 (chain_on row last i k p (s.row_sound p i q.0) both.1))
          (or_cases (rows t k) (sent t && has (named_by (row i)) k) (sym (row_is t k) ∙ e));
      fact_sound = λ t f e.
          ⊎_elim (s.fact_sound t f)
          (λ h.
          let both = and_parts (sent t) (has (facts_of (row i)) f) h in
          let q = sent_says t both.0 in
          subst (Reaches row last f) q.1 (reach_on row last i f p (s.row_sound p i q.0) both.1))
          (or_cases (facts t f) (sent t && has (facts_of (row i)) f) (sym (fact_is t f) ∙ e));
      row_on = λ j t d e k h.
          ⊎_elim
          (λ done. row_is (after (row j) t) k ∙ or_left (rows (after (row j) t) k) _ (s.row_on j t done (same j t (above j t done) e) k h))
          (λ at. at_here (λ x y. rows' y x ≡ true → has (named_by (row x)) k ≡ true → rows' (after (row x) y) k ≡ true) (row_here k) at e h)
          d;
      fact_on = λ j t d e f h.
          ⊎_elim
          (λ done. fact_is (after (row j) t) f ∙ or_left (facts (after (row j) t) f) _ (s.fact_on j t done (same j t (above j t done) e) f h))
          (λ at. at_here (λ x y. rows' y x ≡ true → has (facts_of (row x)) f ≡ true → facts' (after (row x) y) f ≡ true) (fact_here f) at e h)
          d;
    }

module _ (row : ℕ → Row) (last count : ℕ) (lower : (k : ℕ) → k < count → all_under k (named_by (row k)) ≡ true) (among : last < count) where
  -- a chain leads to rows that there are
  pub chain_under : {k : ℕ} {t : Bool} → Chain row last k t → k < count
  chain_under start = among
  chain_under (turn {j} {k} c e) = let h = chain_under c in let less = has_lower j (named_by (row j)) k (lower j h) (ap (λ r. has (named_by r) k) e ∙ has_one k) in omega arith
  chain_under (along {j} {k} c e other) = let h = chain_under c in let less = has_lower j (named_by (row j)) k (lower j h) e in omega arith

  -- a fact that is reached is one that some row reads
  pub fact_under : (most : ℕ) → ((k : ℕ) → k < count → all_under most (facts_of (row k)) ≡ true) → {f : ℕ} {t : Bool} → Reaches row last f t → f < most
  fact_under most few {f} (by_hold {k} c e) = has_lower most (facts_of (row k)) f (few k (chain_under c)) (ap (λ r. has (facts_of r) f) e ∙ has_one f)
  fact_under most few {f} (by_hold_off {k} c e) = has_lower most (facts_of (row k)) f (few k (chain_under c)) (ap (λ r. has (facts_of r) f) e ∙ has_one f)

  -- where all rows are done, all that chains reach is raised
  module _ (rows facts : Bool → ℕ → Bool) (s : Sweep row last (λ j _. j < count) rows facts) where
    chain_raised : {j : ℕ} {t : Bool} → Chain row last j t → rows t j ≡ true
    chain_raised start = s.first
    chain_raised (turn {j} {k} {turned} c e) =
        let names : has (named_by (row j)) k ≡ true = ap (λ r. has (named_by r) k) e ∙ has_one k in
        ap (λ x. rows x k) (sym (cond-true (turns (row j)) (not turned) turned (ap turns e))) ∙ s.row_on j turned (chain_under c) (chain_raised c) k names
    chain_raised (along {j} {k} {turned} c names other) =
        ap (λ x. rows x k) (sym (cond-false (turns (row j)) (not turned) turned (straight (row j) k names other))) ∙ s.row_on j turned (chain_under c) (chain_raised c) k names

    fact_raised : {f : ℕ} {t : Bool} → Reaches row last f t → facts t f ≡ true
    fact_raised {f} (by_hold {k} {turned} c e) =
        ap (λ x. facts x f) (sym (cond-false (turns (row k)) (not turned) turned (ap turns e))) ∙ s.fact_on k turned (chain_under c) (chain_raised c) f (ap (λ r. has (facts_of r) f) e ∙ has_one f)
    fact_raised {f} (by_hold_off {k} {turned} c e) =
        ap (λ x. facts x f) (sym (cond-true (turns (row k)) (not turned) turned (ap turns e))) ∙ s.fact_on k turned (chain_under c) (chain_raised c) f (ap (λ r. has (facts_of r) f) e ∙ has_one f)

    pub fact_decided : (t : Bool) (f : ℕ) → Decides (facts t f) (Reaches row last f t)
    fact_decided t f = (s.fact_sound t f, fact_raised)

-- The sweep over the rows of a sheet.
abbrev pub flags : List Bool → List Bool → Bool → ℕ → Bool
flags plain turned t k = get_or (cond t turned plain) k false

module _ (s : Sheet) where
  abbrev pub rows_of : ℕ → Row
  rows_of = row_at (sheet_of s).rows

  abbrev pub last_of : ℕ
  last_of = length (sheet_of s).rows - 1

  -- the rows from k on are passed
  abbrev pub Swept : ℕ → Side → Side → Type 0
  Swept k plain turned = Sweep rows_of last_of (λ j _. (k ≤ j) × (j < s.count)) (flags plain.rows turned.rows) (flags plain.facts turned.facts)

  size : length (take s.count s.rows) ≡ s.count
  size = length-take-le s.count s.rows (omega (arith, s.sized, s.few_rows))

  pub row_is_read : (k : ℕ) → k < s.count → rows_of k ≡ get_or s.rows k Always
  row_is_read k h = get_or-take s.count s.rows k Always h

  pub names_lower : (k : ℕ) → k < s.count → all_under k (named_by (rows_of k)) ≡ true
  names_lower k h = range_lower s.facts k (rows_of k) (s.right k h)

  pub reads_few : (k : ℕ) → k < s.count → all_under 16 (facts_of (rows_of k)) ≡ true
  reads_few k h = all_under_more s.facts 16 (facts_of (rows_of k)) s.few_facts (range_facts s.facts k (rows_of k) (s.right k h))

  pub swept_start : Swept s.count (record { rows = set (replicate 32 false) (s.count - 1) true; facts = replicate 16 false }) (record { rows = replicate 32 false; facts = replicate 16 false })
  swept_start = record {
    first = ap (λ k. get_or (set (replicate 32 false) (s.count - 1) true) k false) last_is ∙ get_or-set_same (replicate 32 false) (s.count - 1) true false (omega (arith, s.some_row, s.few_rows));
    row_sound = start_row;
    fact_sound = start_fact;
    row_on = λ j t d. absurd (omega (arith, d.0, d.1));
    fact_on = λ j t d. absurd (omega (arith, d.0, d.1));
  }
    where
      last_is : last_of ≡ s.count - 1
      last_is = ap (λ n. n - 1) size

      start_row : (t : Bool) (k : ℕ) → flags (set (replicate 32 false) (s.count - 1) true) (replicate 32 false) t k ≡ true → Chain rows_of last_of k t
      start_row true k e = absurd (both_ways _ (getD_same 32 k false) e)
      start_row false k e =
          ⊎_elim
          (λ same. subst (λ x. Chain rows_of last_of x false) (last_is ∙ sym same) start)
          (λ other. absurd (both_ways _ (get_or-set_other (replicate 32 false) (s.count - 1) k true false other ∙ getD_same 32 k false) e))
          (cases_eq k (s.count - 1))

      start_fact : (t : Bool) (f : ℕ) → flags (replicate 16 false) (replicate 16 false) t f ≡ true → Reaches rows_of last_of f t
      start_fact true f e = absurd (both_ways _ (getD_same 16 f false) e)
      start_fact false f e = absurd (both_ways _ (getD_same 16 f false) e)

  module _ (i : ℕ) (within : i < s.count) (a b a' b' a'' b'' : Side) where
    pub swept_more : Swept (suc i) a b → HandedOn (rows_of i) (get_or a.rows i false) a b a' b' → HandedOn (rows_of i) (get_or b'.rows i false) b' a' b'' a'' → Swept i a'' b''
    swept_more before plain turned =
        let Done : ℕ → Bool → Type 0 = λ j _. (suc i ≤ j) × (j < s.count) in
        let lower = names_lower i within in
        let mid = visited rows_of last_of Done i false (flags a.rows b.rows) (flags a'.rows b'.rows) (flags a.facts b.facts) (flags a'.facts b'.facts)
        before lower (λ j t d. omega (arith, d.0)) (plain.same_rows, plain.other_rows) (plain.same_facts, plain.other_facts) in
        let Mid : ℕ → Bool → Type 0 = λ j t. Done j t ⊎ ((j ≡ i) × (t ≡ false)) in
        let end = visited rows_of last_of Mid i true (flags a'.rows b'.rows) (flags a''.rows b''.rows) (flags a'.facts b'.facts) (flags a''.facts b''.facts)
        mid lower (λ j t d. ⊎_elim (λ e. omega (arith, e.0)) (λ e. omega (arith, e.0)) d) (turned.same_rows, turned.other_rows) (turned.same_facts, turned.other_facts) in
        weaken rows_of last_of (λ j t. Mid j t ⊎ ((j ≡ i) × (t ≡ true))) (λ j _. (i ≤ j) × (j < s.count)) _ _
        (λ j t d. ⊎_elim (λ same. ⊎_elim (λ e. inr (same, e)) (λ e. inl (inr (same, e))) (cases_Bool t)) (λ other. inl (inl (omega (arith, other, d.0), d.1))) (cases_eq j i))
        end

  pub swept_done : (k : ℕ) (plain turned : Side) → k ≤ 0 → Swept k plain turned → FactsReached (sheet_of s) plain.facts turned.facts
  swept_done k plain turned none w =
      let done = weaken rows_of last_of (λ j _. (k ≤ j) × (j < s.count)) (λ j _. j < s.count) _ _ (λ j t d. (omega arith, d)) w in
      let among : last_of < s.count = omega (arith, size, s.some_row) in
      record {
        is_plain = fact_decided rows_of last_of s.count names_lower among _ _ done false;
        is_turned = fact_decided rows_of last_of s.count names_lower among _ _ done true;
        few = λ f t r. fact_under rows_of last_of s.count names_lower among 16 reads_few r;
      }
