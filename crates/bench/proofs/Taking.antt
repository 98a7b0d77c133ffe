-- Reads of the input, one after another.
use Rattle.std.proofs.Common.{◌≡◌, ℕ, ◌+◌, ◌≤◌, List, [], ◌∷◌, ◌++◌, length, take, drop, Some, None, Option, refl, sym, ap, ◌∙◌, subst, append-nil, ⊎_elim, arith, length-take-le, drop_at, take_all, get_or, slice_get}
use Rattle.std.specs.Option.{unwrap_or}
use Rattle.std.proofs.lemmas.List.{take-append-le, drop_all}
use Rattle.std.proofs.Math.Seq.{take-append-add, take-append_seam}
use Rattle.std.proofs.lemmas.Bool.{cases_lt}
use Rattle.std.proofs.KnownBytes.{Consumes-trans}
use Rattle.std.specs.Io.KnownBytes.{Consumes}
use borrow.Rule.Slice.PartMut.{put_mid, post_of}
use Rattle.bench.specs.Reading.{ReadsUpTo, ReadsSheet, sheet_in, after_sheet}

-- what is read behind the bytes that a buffer has got stands after them
pub grown : (a b c : Option (List ℕ)) (got more room : ℕ) (xs ys : List ℕ) → got ≤ length xs → more ≤ length ys → Consumes a b (take got xs) → Consumes b c (take more ys) → Consumes a c (take (got + more) (put_mid got room xs ys))
grown a b c got more room xs ys inside fits before next =
    let whole =
    ap (λ n. take (n + more) (put_mid got room xs ys)) (sym (length-take-le got xs inside))
    ∙ take-append-add (take got xs) (ys ++ post_of got room xs) more
    ∙ ap (λ l. take got xs ++ l) (take-append-le more ys (post_of got room xs) fits) in
    subst (Consumes a c) (sym whole) (Consumes-trans a b c _ _ before next)

-- where the input is known, so is what is read of it and what is left
pub read_known : (most : ℕ) (xs : List ℕ) (after : Option (List ℕ)) (bytes : List ℕ) → ReadsUpTo most (Some xs) after bytes → (bytes ≡ take most xs) × (after ≡ Some (drop most xs))
read_known most xs None bytes r = absurd r.taken
read_known most xs (Some ys) bytes r =
    ⊎_elim
    (λ short.
    let none = r.ended short in
    let all : xs ≡ bytes = r.taken ∙ ap (λ l. bytes ++ l) none ∙ append-nil bytes in
    let few : length xs ≤ most = omega (arith, ap length all) in
    (sym all ∙ sym (take_all most xs few), ap Some (none ∙ sym (drop_all most xs few))))
    (λ full.
    let long : length bytes ≡ most = omega (arith, r.bound) in
    (sym (ap (λ l. take most l) r.taken ∙ ap (λ n. take n (bytes ++ ys)) (sym long) ∙ take-append_seam bytes ys), ap Some (sym (ap (λ l. drop most l) r.taken ∙ drop_at bytes ys most long))))
    (cases_lt (length bytes) most)

-- the first of some bytes, or none
pub first_or_none : (bytes : List ℕ) → unwrap_or (slice_get bytes 0) 0 ≡ get_or bytes 0 0
first_or_none [] = refl
first_or_none (b ∷ bytes) = refl

-- a read of one byte, and of as many as it says
pub sheet_read : (before mid after : Option (List ℕ)) (first bytes : List ℕ) (size : ℕ) → size ≤ 255 → size ≡ get_or first 0 0 → ReadsUpTo 1 before mid first → ReadsUpTo size mid after bytes → ReadsSheet before after bytes
sheet_read None mid after first bytes size small said one rest = record { bound = omega (arith, rest.bound); sheet = tt }
sheet_read (Some xs) None after first bytes size small said one rest = absurd one.taken
sheet_read (Some xs) (Some ys) after [] bytes size small said one rest =
    let empty : ys ≡ [] = one.ended (omega arith) in
    let none : xs ≡ [] = one.taken ∙ empty in
    let known = read_known size ys after bytes rest in
    record {
      bound = omega (arith, rest.bound);
      sheet = (known.0 ∙ (λ i. take (said i) (empty i)) ∙ ap sheet_in (sym none), known.1 ∙ (λ i. Some (drop (said i) (empty i))) ∙ ap (λ l. Some (after_sheet l)) (sym none));
    }
sheet_read (Some xs) (Some ys) after (b ∷ []) bytes size small said one rest =
    let known = read_known size ys after bytes rest in
    record {
      bound = omega (arith, rest.bound);
      sheet = (known.0 ∙ ap (λ n. take n ys) said ∙ ap sheet_in (sym one.taken), known.1 ∙ ap (λ n. Some (drop n ys)) said ∙ ap (λ l. Some (after_sheet l)) (sym one.taken));
    }
sheet_read (Some xs) (Some ys) after (b ∷ c ∷ more) bytes size small said one rest = absurd (omega (arith, one.bound))
