-- Voices are a lattice with a flip, since each voice alone is a translation into one.
use Rattle.std.specs.Prelude.{◌≡◌, ℕ, ◌<◌, Bool, true, false, ◌&&◌, refl}
use Rattle.std.proofs.Common.{sym, ap, ap₂, ◌∙◌, mod-eq_of_lt, arith}
use Rattle.std.proofs.lemmas.Nat.{and_comm, and_mask}
use Rattle.std.proofs.lemmas.Bool.{eqb-true, eq-eqb}
use Rattle.std.proofs.lemmas.Bool.Decides.{same_from_decides, Decides-like}
use Rattle.grade.specs.Lattice.{Lawful}
use Rattle.grade.specs.Voices.{voices, heard, Among, OrderByVoices}
use Rattle.grade.specs.declared.voices.Voices.{Voices as Word}
use Rattle.grade.specs.HeardLaws.{heard_carries, meet_bits}
use Rattle.grade.specs.Same.{same_word}
use Rattle.grade.specs.VoiceBits.{same_voices}

same_heard : (x y : Word) → ((i : ℕ) → i < 16 → heard i x ≡ heard i y) → x ≡ y
same_heard x y h = same_word x y (same_voices 16 x.bits y.bits x.fits y.fits h)

and_absorbs : (p q : Bool) → (p ≡ true → q ≡ true) → (p && q) ≡ p
and_absorbs true q h = h refl
and_absorbs false q h = refl

from_voices : (x y : Word) → Among x y → voices.le x y ≡ true
from_voices x y h =
    let met = same_heard (voices.meet x y) x (λ i k. (heard_carries i k).meet x y ∙ and_absorbs _ _ (h i k)) in
    eq-eqb _ _ (sym (meet_bits x y) ∙ ap (λ w. w.bits) met)

to_voices : (x y : Word) → voices.le x y ≡ true → Among x y
to_voices x y e i k v =
    let met : voices.meet x y ≡ x = same_word (voices.meet x y) x (meet_bits x y ∙ eqb-true _ _ e) in
    let both = sym ((heard_carries i k).meet x y) ∙ ap (heard i) met in
    grind arith

pub order_by_voices : OrderByVoices
order_by_voices x y = (to_voices x y, from_voices x y)

turned : (x y : Word) → Among x y → Among (voices.flip y) (voices.flip x)
turned x y h i k v =
    let h_i = h i k in
    let p = (heard_carries i k).flip x in
    let q = (heard_carries i k).flip y in
    grind arith

turned_back : (x y : Word) → Among (voices.flip y) (voices.flip x) → Among x y
turned_back x y h i k v =
    let h_i = h i k in
    let p = (heard_carries i k).flip x in
    let q = (heard_carries i k).flip y in
    grind arith

pub voices_lawful : Lawful voices
voices_lawful = record {
  reflexive = λ x. from_voices x x (λ i k v. v);
  antisymmetric = λ x y p q. same_word x y (sym (eqb-true _ _ p) ∙ and_comm x.bits y.bits ∙ eqb-true _ _ q);
  transitive = λ x y z p q. from_voices x z (λ i k v. to_voices y z q i k (to_voices x y p i k v));
  least = λ x. refl;
  greatest = λ x. eq-eqb _ _ (and_mask x.bits 16 ∙ mod-eq_of_lt x.fits);
  meet_left = λ x y. from_voices (voices.meet x y) x (λ i k v. let e = (heard_carries i k).meet x y in grind arith);
  meet_right = λ x y. from_voices (voices.meet x y) y (λ i k v. let e = (heard_carries i k).meet x y in grind arith);
  meet_above = λ x y z p q. from_voices z (voices.meet x y) (λ i k v.
      (heard_carries i k).meet x y ∙ ap₂ ◌&&◌ (to_voices z x p i k v) (to_voices z y q i k v));
  join_left = λ x y. from_voices x (voices.join x y) (λ i k v. let e = (heard_carries i k).join x y in grind arith);
  join_right = λ x y. from_voices y (voices.join x y) (λ i k v. let e = (heard_carries i k).join x y in grind arith);
  join_below = λ x y z p q. from_voices (voices.join x y) z (λ i k v.
      let e = (heard_carries i k).join x y in
      let x_in = to_voices x z p i k in
      let y_in = to_voices y z q i k in
      grind arith);
  flip_twice = λ x. same_word (voices.flip (voices.flip x)) x (omega arith);
  flip_order = λ x y.
      same_from_decides _ _ (order_by_voices x y)
      (Decides-like _ (turned_back x y) (turned x y) (order_by_voices (voices.flip y) (voices.flip x)));
}
