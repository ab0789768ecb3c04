-- What is so of m states is so of n, where these are as many. Assumes nothing.
use Rattle.std.specs.Prelude.{List, ◌≡◌, ℕ}
use Rattle.std.proofs.Common.{subst}
use Rattle.sets.specs.declared.set.Set.{Set}
use Rattle.held.specs.Held.{HeldList}
use Rattle.splitters.specs.Inner.Partition.{Partition, Split, SplitTwice}
use Rattle.splitters.specs.Inner.MoveSplits.{UsedSplit}

module _ {m n : ℕ} (e : m ≡ n) where
  pub held_list_at : {labels : List ℕ} {count : ℕ} {slots pool : List ℕ} → HeldList m labels count slots pool
      → HeldList n labels count slots pool
  held_list_at {labels} {count} {slots} {pool} = subst (λ (k : ℕ). HeldList k labels count slots pool) e

  pub partition_at : {classes : ℕ} {class members : List ℕ} {together : Set}
      → Partition m class members classes together → Partition n class members classes together
  partition_at {classes} {class} {members} {together} =
      subst (λ (k : ℕ). Partition k class members classes together) e

  module _ {old : ℕ} {c o c' o' : List ℕ} where
    pub split_at : {P : ℕ → Type 0} → Split m old P c o c' o' → Split n old P c o c' o'
    split_at {P} = subst (λ (k : ℕ). Split k old P c o c' o') e

    pub split_twice_at : {P Q : ℕ → Type 0} → SplitTwice m old P Q c o c' o' → SplitTwice n old P Q c o c' o'
    split_twice_at {P} {Q} = subst (λ (k : ℕ). SplitTwice k old P Q c o c' o') e

    pub used_split_at : {slots pool : List ℕ} {Used : ℕ → ℕ → Type 0} {fresh rest : List ℕ}
        → UsedSplit m old slots pool Used fresh rest c o c' o' → UsedSplit n old slots pool Used fresh rest c o c' o'
    used_split_at {slots} {pool} {Used} {fresh} {rest} =
        subst (λ (k : ℕ). UsedSplit k old slots pool Used fresh rest c o c' o') e
