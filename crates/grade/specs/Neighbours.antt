-- Two definitions that come near ours and are wrong, each refuted by values that compute.
use Rattle.std.specs.Prelude.{◌≡◌, Bool, true, false, not, pos, negsuc, neg_ℤ, ◌≢◌, int_le}
use Rattle.grade.specs.Margins.{margin, margins, met}
use Rattle.grade.specs.Translations.{Carries}
use Rattle.grade.specs.YesNo.{yes_no}
use Rattle.grade.specs.declared.margin.Margin.{Margin}

-- flipping a margin by its sign, m to -m
pub record NoFlipBySign : Type 0 where
  -- the least margin has no partner
  pub no_partner : (m : Margin) → m.value ≢ neg_ℤ margins.bottom.value
  -- 0 would be its own flip, and met both times, where the flip of a yes is a no
  pub own_flip : neg_ℤ (margin (pos 0)).value ≡ (margin (pos 0)).value
  pub not_carried : met (margin (neg_ℤ (pos 0))) ≡ not (met (margin (pos 0))) → ⊥

-- yes from 1 upward
abbrev pub from_one : Margin → Bool
from_one m = int_le (pos 1) m.value

-- calling that a translation
pub record NoCutAtOne : Type 0 where
  -- 0 and -1 are flips of one another, and both would be no
  pub flips : (margins.flip (margin (pos 0))).value ≡ negsuc 0
  pub one_yes : from_one (margin (pos 1)) ≡ true
  pub zero_no : from_one (margin (pos 0)) ≡ false
  pub flip_no : from_one (margins.flip (margin (pos 0))) ≡ false
  pub no_translation : Carries margins yes_no from_one → ⊥
