-- Books of plays, over any moves: for two states a move of one of them, to which each answer of the other leads to two
-- states that the book has an entry of lower depth for. Document 02, (v). Assumes nothing.
use Rattle.std.specs.Prelude.{◌⊎◌, ◌≡◌, ℕ, ◌≤◌, ◌<◌}
use Rattle.lts.specs.Alike.{Moves, Relation, Rank}

-- "four belong to each ordered pair of states: side (0 none, 1 first, 2 second), action, target, depth"
pub record Entry : Type 0 where
  pub side : ℕ
  pub action : ℕ
  pub target : ℕ
  pub depth : ℕ

-- The entry of each ordered pair.
abbrev pub Book : Type 0
Book = ℕ → ℕ → Entry

-- "An entry of side 0 counts as absent."
abbrev pub Present : Entry → Type 0
Present e = ¬ (e.side ≡ 0)

-- "the opening [..] is in the model, and every answer of the other side leads to a pair, opening's target on the
-- opener's side", that Leads holds of.
pub record Opens (Move : Moves) (Leads : Relation) (opener other a t : ℕ) : Type 0 where
  pub opening : Move opener a t
  pub answers : (u : ℕ) → Move other a u → Leads t u

-- The same of the side with this number: "the side is 1 or 2", p is the first and q the second.
pub data Plays (Move : Moves) (Leads : Relation) (p q side a t : ℕ) : Type 0 where
  first_opens : side ≡ 1 → Opens Move Leads p q a t → Plays Move Leads p q side a t
  second_opens : side ≡ 2 → Opens Move (λ x y. Leads y x) q p a t → Plays Move Leads p q side a t

-- ---- sound books

-- "a pair [..] that has an entry of lower depth"
pub record LowerEntry (book : Book) (depth p q : ℕ) : Type 0 where
  pub present : Present (book p q)
  pub depth_lt : (book p q).depth < depth

-- What a sound book has for p and q: no entry, or one whose opening is so.
abbrev pub SoundAt : Moves → Book → ℕ → ℕ → Type 0
SoundAt Move book p q =
    Present (book p q) → Plays Move (LowerEntry book (book p q).depth) p q (book p q).side (book p q).action
    (book p q).target

-- "A book is sound if in each other entry the side is 1 or 2, the opening (a low step of that side) is in the model,
-- and every answer of the other side leads to a pair, opening's target on the opener's side, that has an entry of lower
-- depth." Its entries are those of the numbers below the limit, states or not.
abbrev pub Sound : Moves → ℕ → Book → Type 0
Sound Move limit book = (p q : ℕ) → p < limit → q < limit → SoundAt Move book p q

-- ---- our own book

-- p and q have a rank above 0 and below the depth.
pub record LowerRank (Move : Moves) (depth p q : ℕ) : Type 0 where
  pub rank : ℕ
  pub rank_is : Rank Move p q rank
  pub rank_pos : 0 < rank
  pub rank_lt : rank < depth

-- "Of the openings that allow this it takes the first side, then the lowest action, then the lowest target".
pub record FirstPlay (Move : Moves) (Leads : Relation) (p q side a t : ℕ) : Type 0 where
  pub plays : Plays Move Leads p q side a t
  pub first_side : (s b u : ℕ) → Plays Move Leads p q s b u → side ≤ s
  pub lowest_action : (b u : ℕ) → Plays Move Leads p q side b u → a ≤ b
  pub lowest_target : (u : ℕ) → Plays Move Leads p q side a u → t ≤ u

-- The entry of two states of a rank above 0: "its depths are the ranks". An opening allows this if each answer leads to
-- a pair that has an entry of lower depth, which is its rank.
pub record OwnEntry (Move : Moves) (p q rank : ℕ) (e : Entry) : Type 0 where
  pub depth_is : e.depth ≡ rank
  pub opening : FirstPlay Move (LowerRank Move rank) p q e.side e.action e.target

abbrev pub no_entry : Entry
no_entry = record { side = 0; action = 0; target = 0; depth = 0 }

-- "Our own book [..] has entries for just the pairs of nonzero rank [..]; its other bytes are 0." There are n states,
-- and entries for the numbers below the limit.
pub record OwnBook (Move : Moves) (n limit : ℕ) (book : Book) : Type 0 where
  pub apart : (p q r : ℕ) → p < n → q < n → Rank Move p q r → 0 < r → OwnEntry Move p q r (book p q)
  pub together : (p q : ℕ) → p < n → q < n → Rank Move p q 0 → book p q ≡ no_entry
  pub outside : (p q : ℕ) → p < limit → q < limit → (n ≤ p) ⊎ (n ≤ q) → book p q ≡ no_entry
