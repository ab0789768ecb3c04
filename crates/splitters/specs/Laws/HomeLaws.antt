-- The class that a class was a part of when the round began: an old one is its own, and a new one has noted it.
-- Assumes nothing.
use Rattle.std.specs.Prelude.{◌≡◌, List, ℕ, ◌≤◌, ◌<◌, get_or}
use Rattle.std.proofs.Common.{sym, ap, ◌∙◌, arith, lt-ltb, le-ltb}
use Rattle.sets.specs.declared.set.Set.{Set}
use Rattle.held.specs.Held.{chosen}
use Rattle.splitters.specs.Inner.Partition.{Partition, home, HomesKept}
use Rattle.splitters.specs.Laws.PartitionLaws.{state_of_class}

pub home_lt : {old c : ℕ} (origin : List ℕ) → c < old → home old origin c ≡ c
home_lt {old} {c} origin l = ap (λ b. chosen b c (get_or origin c 0)) (lt-ltb c old l)

pub home_le : {old c : ℕ} (origin : List ℕ) → old ≤ c → home old origin c ≡ get_or origin c 0
home_le {old} {c} origin l = ap (λ b. chosen b c (get_or origin c 0)) (le-ltb c old l)

-- ---- over a whole round

module _ {n old : ℕ} {class origin next origin' : List ℕ} (class_lt : (p : ℕ) → p < n → get_or class p 0 < old)
    (H : HomesKept n old origin class origin' next) where
  -- The home of a state's class is the class that it was in.
  pub home_before : (p : ℕ) → p < n → home old origin' (get_or next p 0) ≡ get_or class p 0
  home_before p lp = H.same p lp ∙ home_lt origin (class_lt p lp)

  pub origin_lt : {members : List ℕ} {classes : ℕ} {together : Set} → Partition n next members classes together
      → (j : ℕ) → old ≤ j → j < classes → get_or origin' j 0 < old
  origin_lt Q j l k =
      let x = state_of_class Q j k in
      let e : get_or origin' j 0 ≡ get_or class x.0 0 = sym (home_le origin' l)
      ∙ ap (home old origin') (sym x.2) ∙ home_before x.0 x.1 in
      omega (arith, e, class_lt x.0 x.1)
