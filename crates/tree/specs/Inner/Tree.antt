-- The splitting tree of a partition (Lee and Yannakakis): each class but class 0 was divided off another one, its
-- origin, in a round, its `when`. Only the contracts of inner functions cite it.
use Rattle.std.specs.Prelude.{List, ◌≡◌, ℕ, zero, suc, ◌≤◌, ◌<◌, min, get_or}
use Rattle.sets.specs.Inner.Sets.{Member}

-- Class c is class e, or was divided off e, or off one that is under e.
pub data Under (origin : List ℕ) (e : ℕ) : ℕ → Type 0 where
  same : {c : ℕ} → c ≡ e → Under origin e c
  off : {c : ℕ} → 0 < c → Under origin e (get_or origin c 0) → Under origin e c

-- Origins come before the classes that were divided off them, and rounds do not fall.
pub record Tree (classes : ℕ) (origin when : List ℕ) : Type 0 where
  pub origin_lt : (c : ℕ) → 0 < c → c < classes → get_or origin c 0 < c
  pub when_pos : (c : ℕ) → 0 < c → c < classes → 0 < get_or when c 0
  pub when_le : (c d : ℕ) → 0 < c → c ≤ d → d < classes → get_or when c 0 ≤ get_or when d 0

-- `apart` gives the round that separated two classes: a class was separated from its origin when it was divided off,
-- and from each other class that was there before it when its origin was.
pub record Apart (classes : ℕ) (origin when : List ℕ) (apart : ℕ → ℕ → ℕ) : Type 0 where
  pub same : (c : ℕ) → c < classes → apart c c ≡ 0
  pub both_ways : (c d : ℕ) → c < classes → d < classes → apart c d ≡ apart d c
  pub off : (c : ℕ) → 0 < c → c < classes → apart c (get_or origin c 0) ≡ get_or when c 0
  pub with_origin : (c d : ℕ) → c < d → d < classes → ¬ (c ≡ get_or origin d 0)
      → apart c d ≡ apart c (get_or origin d 0)

-- The meet of two rounds is the earlier one. 0 stands for never.
abbrev pub meet : ℕ → ℕ → ℕ
meet zero w = w
meet (suc o) w = min (suc o) w

-- Set c has just the states of class c.
pub record MemberSets (n classes : ℕ) (class members : List ℕ) : Type 0 where
  pub class_lt : (p : ℕ) → p < n → get_or class p 0 < classes
  pub all : (p : ℕ) → p < n → Member members (get_or class p 0) p
  pub only : (c p : ℕ) → c < classes → Member members c p → (p < n) × (get_or class p 0 ≡ c)

-- Set c has just the states whose class is under class c, for each c below `to` but 0.
pub record UnderSets (n to : ℕ) (class origin under : List ℕ) : Type 0 where
  pub all : (c p : ℕ) → 0 < c → c < to → p < n → Under origin c (get_or class p 0) → Member under c p
  pub only : (c p : ℕ) → 0 < c → c < to → Member under c p → (p < n) × Under origin c (get_or class p 0)
