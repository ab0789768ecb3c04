-- Ranks as sets. Only the contracts of inner functions cite it.
use Rattle.std.specs.Prelude.{List, ◌⊎◌, ◌≡◌, ℕ, ◌<◌, get_or}
use Rattle.text.specs.Limits.{pair_place}
use Rattle.sets.specs.Inner.Sets.{Member}
use Rattle.ranking.specs.Inner.LowerRanks.{RankIn}

-- Set p has the states whose rank beside p is r, for each p below `to`; the other sets are empty.
pub record AtRank (n : ℕ) (table : List ℕ) (r to : ℕ) (sets : List ℕ) : Type 0 where
  pub at : (p q : ℕ) → p < to → q < n → get_or table (pair_place p q) 0 ≡ r → Member sets p q
  pub only : (p q : ℕ) → Member sets p q → (p < to) × (q < n) × (get_or table (pair_place p q) 0 ≡ r)

-- Set p has the states whose rank beside p is above 0 and below r.
pub record LowerSets (n : ℕ) (table : List ℕ) (r : ℕ) (sets : List ℕ) : Type 0 where
  pub lower : (p q : ℕ) → p < n → q < n → RankIn table r p q → Member sets p q
  pub only : (p q : ℕ) → Member sets p q → (p < n) × (q < n) × RankIn table r p q

-- Each set below `to` has got the members of the same set of the others, and no set has got any more.
pub record JoinedBelow (to : ℕ) (others entry exit : List ℕ) : Type 0 where
  pub joined : (p x : ℕ) → p < to → Member others p x → Member exit p x
  pub kept : (p x : ℕ) → Member entry p x → Member exit p x
  pub only : (p x : ℕ) → Member exit p x → Member entry p x ⊎ Member others p x
