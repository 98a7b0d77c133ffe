-- How one row is read: what its fault is, and what its length is.
use Rattle.std.proofs.Common.{◌≡◌, ℕ, zero, suc, ◌+◌, ◌<◌, true, cond, ltb, List, [], ◌∷◌, ◌++◌, length, get_or, set, replicate, None, Ok, Err, Result, MatchResult, sym, refl, ap, ◌∙◌, subst, ⊎_elim, add-one, arith, below_more}
use Rattle.std.proofs.lemmas.List.{length_push, length-set, get_or_push, get_or-set_same, get_or-set_other}
use Rattle.std.proofs.lemmas.Bool.{le-ltb, cond-false, cases_eq}
use Rattle.std.proofs.lemmas.Bool.Decides.{nat_tests}
use Rattle.std.proofs.lemmas.Grind.{common_steps}
use Rattle.std.specs.Result.{IsErrAnd, OkIff}
use Rattle.std.proofs.lemmas.Result.{OkIff-at_ok, OkIff-at_err}
use Rattle.sheet.specs.declared.row.Row.{Row}
use Rattle.sheet.specs.declared.row.Row.TheVariants.{Always}
use Rattle.sheet.specs.Rows.{row_length, named_by, facts_of}
use Rattle.sheet.specs.Rules.{lengths_of, length_of, all_under, in_range}
use Rattle.sheet.specs.Bytes.{Body, sizes_right, kind_in, p_in, q_in, r_in, kinds, row_in}
use Rattle.sheet.specs.Loading.{row_fault}
use Rattle.sheet.specs.Faults.{Faultless}
use Rattle.sheet.specs.Conditions.{Sized}
use Rattle.sheet.specs.Steps.{Measures}

pub length_lengths : (row : ℕ → Row) (n : ℕ) → length (lengths_of row n) ≡ n
length_lengths row zero = refl
length_lengths row (suc n) = length_push (lengths_of row n) _ ∙ omega (arith, length_lengths row n)

-- a row's length, from those of the rows below it
pub length_of_is : (row : ℕ → Row) (k : ℕ) → length_of row k ≡ row_length (λ i. get_or (lengths_of row k) i 0) (row k)
length_of_is row k = get_or_push (lengths_of row k) _ 0 k (length_lengths row k)

pub row_in_below : (b : Body) (k : ℕ) → k < b.count → row_in b k ≡ get_or (kinds (p_in b k) (q_in b k) (r_in b k)) (kind_in b k) Always
row_in_below b k h = grind (arith, nat_tests)

-- a row in range reads facts that there are, and names only lower rows
pub range_facts : (facts k : ℕ) (row : Row) → in_range facts k row ≡ true → all_under facts (facts_of row) ≡ true
range_facts facts k row h = grind arith

pub range_lower : (facts k : ℕ) (row : Row) → in_range facts k row ≡ true → all_under k (named_by row) ≡ true
range_lower facts k row h = grind arith

-- the length by a table that has those of the lower rows
pub length_by_table : (b : Body) (k : ℕ) (lens : List ℕ) (row : Row) → Measures b k lens → row ≡ row_in b k → row_length (λ i. get_or lens i 0) row ≡ length_of (row_in b) k
length_by_table b k lens row m e = (λ i. row_length (λ j. m.entry j i) (e i)) ∙ sym (length_of_is (row_in b) k)

-- what right sizes say
pub sizes_say : (b : Body) → sizes_right b ≡ true → Sized (b.facts ∷ b.count ∷ b.rest) b
sizes_say b h = record {
  whole = refl;
  some_fact = grind (arith, nat_tests);
  few_facts = grind (arith, nat_tests);
  some_row = grind (arith, nat_tests);
  few_rows = grind (arith, nat_tests);
  all = grind (arith, nat_tests);
}

-- what a result says, after its error was turned into another
pub through_map_err : {T E D : Type 0} (P : T → Type 0) (Q : E → Type 0) (G : E → D → Type 0) (r : Result T E) (m : Result T D) →
    MatchResult r P Q → MatchResult r (λ x. m ≡ Ok x) (λ e. IsErrAnd m (G e)) → MatchResult m P (λ d. (e : E) × Q e × G e d)
through_map_err {E} P Q G (Ok x) m says turned = subst (λ o. MatchResult o P (λ d. (e : E) × Q e × G e d)) (sym turned) says
through_map_err P Q G (Err e) (Ok x) says turned = absurd turned
through_map_err P Q G (Err e) (Err d) says turned = (e, says, turned)

pub cases_of_ok_iff : {T E : Type 0} (r : Result T E) (P : Type 0) (v : T) → OkIff r P v → MatchResult r (λ x. P × (x ≡ v)) (λ _. P → ⊥)
cases_of_ok_iff {E} (Ok x) P v h = OkIff-at_ok {E = E} (Ok x) P v x h refl
cases_of_ok_iff (Err e) P v h = OkIff-at_err (Err e) P v e h refl

-- the first k rows are read into the tables
pub record Sofar (b : Body) (k : ℕ) (rows : List Row) (lens : List ℕ) : Type 0 where
  pub fine : Faultless (row_fault b) k
  pub size : length rows ≡ 32
  pub row : (j : ℕ) → get_or rows j Always ≡ cond (ltb j k) (row_in b j) Always
  pub lengths : Measures b k lens

pub getD_same : {X : Type 0} (n j : ℕ) (x : X) → get_or (replicate n x) j x ≡ x
getD_same n j x = grind (arith, common_steps)

pub read_none : (b : Body) → Sofar b 0 (replicate 32 Always) (replicate 32 0)
read_none b = record {
  fine = λ j h. absurd (omega arith);
  size = refl;
  row = λ j. getD_same 32 j Always ∙ sym (cond-false (ltb j 0) (row_in b j) Always (le-ltb j 0 (omega arith)));
  lengths = record { size = refl; entry = λ j. getD_same 32 j 0 };
}

-- one row more in the table of rows
rows_step : (row : ℕ → Row) (k : ℕ) (rows : List Row) (r : Row) → k < 32 → length rows ≡ 32 → ((j : ℕ) → get_or rows j Always ≡ cond (ltb j k) (row j) Always) → r ≡ row k → (j : ℕ) → get_or (set rows k r) j Always ≡ cond (ltb j (k + 1)) (row j) Always
rows_step row k rows r few size old e j =
    let before = old j in
    ⊎_elim
    (λ here. grind (arith, nat_tests, common_steps))
    (λ other. grind (arith, nat_tests, common_steps, get_or-set_other rows k j r Always other))
    (cases_eq j k)

module _ (b : Body) (k : ℕ) (few : k < 32) where
  push_other : (lower : List ℕ) (v j : ℕ) → length lower ≡ k → (j ≡ k → ⊥) → get_or lower j 0 ≡ get_or (lower ++ v ∷ []) j 0
  push_other lower v j size other = grind (arith, common_steps)

  lengths_step : (lens : List ℕ) (v : ℕ) → Measures b k lens → v ≡ length_of (row_in b) k → Measures b (k + 1) (set lens k v)
  lengths_step lens v m e =
      let lower = lengths_of (row_in b) k in
      let next = row_length (λ i. get_or lower i 0) (row_in b k) in
      let entry : (j : ℕ) → get_or (set lens k v) j 0 ≡ get_or (lengths_of (row_in b) (suc k)) j 0 =
      λ j. ⊎_elim
      (λ same. ap (λ i. get_or (set lens k v) i 0) same ∙ get_or-set_same lens k v 0 (omega (arith, m.size)) ∙ e ∙ ap (λ i. get_or (lengths_of (row_in b) (suc k)) i 0) (sym same))
      (λ other. get_or-set_other lens k j v 0 other ∙ m.entry j ∙ push_other lower next j (length_lengths (row_in b) k) other)
      (cases_eq j k) in
      record {
        size = length-set lens k v ∙ m.size;
        entry = λ j. entry j ∙ ap (λ n. get_or (lengths_of (row_in b) n) j 0) (sym (add-one k));
      }

  pub read_more : (rows : List Row) (lens : List ℕ) (row : Row) (v : ℕ) → Sofar b k rows lens → row_fault b k ≡ None → row ≡ row_in b k → v ≡ length_of (row_in b) k → Sofar b (k + 1) (set rows k row) (set lens k v)
  read_more rows lens row v s none is long = record {
    fine = below_more _ _ s.fine none;
    size = length-set rows k row ∙ s.size;
    row = rows_step (row_in b) k rows row few s.size s.row is;
    lengths = lengths_step lens v s.lengths long;
  }
