-- Lists that are filled place by place, or part by part.
use Rattle.std.proofs.Common.{◌≡◌, ℕ, ◌-◌, ◌<◌, ◌≤◌, ◌≢◌, List, length, get_or, set, take, ◌∙◌, ⊎_elim, arith, get_or-set_other, get_or-set_same}
use Rattle.std.proofs.lemmas.List.{length-take-le, get_or-take, get_or_append_left, get_or-append_right}
use Rattle.std.proofs.lemmas.Bool.{cases_eq}
use borrow.Rule.Slice.PartMut.{put_mid}

-- A place holds what it should after a write of what place n should hold, if it did before or is place n.
pub filled : {V : Type 0} (at : ℕ → V → V) (xs : List V) (n : ℕ) (v : V) → n < length xs → ((d : V) → v ≡ at n d) → (i : ℕ) (d : V) → (i ≢ n → get_or xs i d ≡ at i d) → get_or (set xs n v) i d ≡ at i d
filled at xs n v inside is i d others =
    ⊎_elim
    (λ here. rw here (get_or-set_same xs n v d inside ∙ is d))
    (λ apart. get_or-set_other xs n i v d apart ∙ others apart)
    (cases_eq i n)

module _ {V : Type 0} (a k : ℕ) (xs ys : List V) (i : ℕ) (d : V) (room : a ≤ length xs) where
  -- what stands before a part that was written
  pub part_before : i < a → get_or (put_mid a k xs ys) i d ≡ get_or xs i d
  part_before less =
      let size : i < length (take a xs) = omega (arith, length-take-le a xs room) in
      get_or_append_left (take a xs) _ d i size ∙ get_or-take a xs i d less

  -- and in it
  pub part_here : a ≤ i → i - a < length ys → get_or (put_mid a k xs ys) i d ≡ get_or ys (i - a) d
  part_here more less =
      get_or-append_right (take a xs) _ a i d (length-take-le a xs room) more ∙ get_or_append_left ys _ d (i - a) less
