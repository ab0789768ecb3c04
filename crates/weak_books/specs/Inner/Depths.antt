-- A book tested depth by depth. Only the contracts of inner functions cite it.
use Rattle.std.specs.Prelude.{List, ◌⊎◌, ◌≡◌, ℕ, ◌+◌, ◌≤◌, ◌<◌, get_or}
use Rattle.lts.specs.Alike.{Relation}
use Rattle.lts.specs.Book.{Present, LowerEntry}
use Rattle.text.specs.Limits.{state_limit, pair_place}
use Rattle.books.specs.Books.{entry_number, book_of}
use Rattle.sets.specs.Inner.Sets.{Member}
use Rattle.held.specs.Held.{LabelIn}
use Rattle.weak_books.specs.Inner.Bounds.{byte_values}

-- Entry k is on the chain that begins at `from`: a chain has the number of an entry and 1, and 0 ends it.
pub data OnChain (link : List ℕ) (k : ℕ) : ℕ → Type 0 where
  first : {from : ℕ} → from ≡ k + 1 → OnChain link k from
  later : {from : ℕ} (j : ℕ) → from ≡ j + 1 → OnChain link k (get_or link j 0) → OnChain link k from

-- Entry k is there, and has this depth.
pub record AtDepth (book : List ℕ) (d k : ℕ) : Type 0 where
  pub present : Present (entry_number book k)
  pub depth_is : (entry_number book k).depth ≡ d

-- The entries below `to` are chained by their depth. A chain falls.
pub record Chained (book head link : List ℕ) (to : ℕ) : Type 0 where
  pub on : (d k : ℕ) → d < byte_values → k < to → AtDepth book d k → OnChain link k (get_or head d 0)
  pub only : (d k : ℕ) → d < byte_values → OnChain link k (get_or head d 0) → (k < to) × AtDepth book d k
  pub head_le : (d : ℕ) → d < byte_values → get_or head d 0 ≤ to
  pub falls : (k : ℕ) → get_or link k 0 ≤ k

-- Set t of a list has just the u that R holds of beside t.
pub record Pairs (R : Relation) (sets : List ℕ) : Type 0 where
  pub all : (t u : ℕ) → t < state_limit → u < state_limit → R t u → Member sets t u
  pub only : (t u : ℕ) → t < state_limit → Member sets t u → R t u

-- Set t of `there` has the u whose entry with t as the first is there and of lower depth, set t of `back` those whose
-- entry with t as the second is.
pub record LowerBy (book : List ℕ) (depth : ℕ) (there back : List ℕ) : Type 0 where
  pub firsts : Pairs (LowerEntry (book_of book) depth) there
  pub seconds : Pairs (λ t u. LowerEntry (book_of book) depth u t) back

-- Both lists have got the pair of entry k if P holds of it, and no other member.
pub record LowerAdded (P : ℕ → Type 0) (there back there' back' : List ℕ) : Type 0 where
  pub firsts : Pairs (λ t u. P (pair_place t u) ⊎ Member there t u) there'
  pub seconds : Pairs (λ t u. P (pair_place u t) ⊎ Member back t u) back'

-- The flags say which labels are listed.
pub record Flagged (labels : List ℕ) (count : ℕ) (flags : List ℕ) : Type 0 where
  pub flagged : (i : ℕ) → i < count → get_or flags (get_or labels i 0) 0 ≡ 1
  pub only : (a : ℕ) → ¬ (get_or flags a 0 ≡ 0) → LabelIn labels count a
