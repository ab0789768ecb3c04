-- Whether an entry is sound, by what was read of it.
-- Document 02, (v). Assumes nothing.
use Rattle.std.specs.Prelude.{Bool, List, ◌≡◌, ℕ, ◌/◌, ◌%◌, ◌<◌}
use Rattle.std.proofs.Common.{sym, ap, ◌∙◌, subst, arith}
use Rattle.lts.specs.Alike.{Moves}
use Rattle.lts.proofs.BookLaws.{opens_of_first, opens_of_second, no_other_side}
use Rattle.lts.specs.Book.{Entry, Book, Present, Opens, Plays, first_opens, second_opens, LowerEntry, SoundAt}
use Rattle.text.specs.Decides.{Decides}
use Rattle.text.specs.Limits.{state_limit, action_limit, pair_place}
use Rattle.text.specs.Laws.DecidesLaws.{decides_iff}
use Rattle.books.specs.Books.{entry_number, book_of}
use Rattle.books.specs.declared.entry.Side.{Side}
use Rattle.books.specs.declared.entry.Side.TheVariants.{First, Second}
use Rattle.books.specs.Inner.Sides.{BySide, NoSide, Turn, first_turn, second_turn}

-- The entry of p and q, from its number, with its action and target as they were read.
pub book_of_number : (book : List ℕ) (p q : ℕ) {k a t : ℕ} → k ≡ pair_place p q → a ≡ (entry_number book k).action
    → t ≡ (entry_number book k).target → book_of book p q ≡ record {
      side = (entry_number book k).side;
      action = a;
      target = t;
      depth = (entry_number book k).depth;
    }
book_of_number book p q {k} {a} {t} number_is a-is t-is =
    ap (entry_number book) (sym number_is) ∙ ap with_action (sym a-is) ∙ ap with_target (sym t-is)
  where
    with_action : ℕ → Entry
    with_action x = record {
      side = (entry_number book k).side;
      action = x;
      target = (entry_number book k).target;
      depth = (entry_number book k).depth;
    }

    with_target : ℕ → Entry
    with_target x = record {
      side = (entry_number book k).side;
      action = a;
      target = x;
      depth = (entry_number book k).depth;
    }

-- Both are states if both of the entry are.
pub turn_lt : {number p q : ℕ} {side : Side} {x y : ℕ} → p < state_limit → q < state_limit
    → Turn number p q side x y → (x < state_limit) × (y < state_limit)
turn_lt lp lq (first_turn _) = (lp, lq)
turn_lt lp lq (second_turn _) = (lq, lp)

-- Entry k is that of k / 128 and k % 128.
pub book_of_at : (book : List ℕ) (k : ℕ) {e : Entry} → e ≡ entry_number book k
    → book_of book (k / state_limit) (k % state_limit) ≡ e
book_of_at book k e-is = ap (entry_number book) (omega arith) ∙ sym e-is

-- ---- an entry that was read

module _ (Move : Moves) (book : Book) (p q : ℕ) (e : Entry) (entry_is : book p q ≡ e) where
  -- What a sound book says of the entry.
  abbrev SoundEntry : Entry → Type 0
  SoundEntry x = Present x → Plays Move (LowerEntry book x.depth) p q x.side x.action x.target

  pub sound_absent : e.side ≡ 0 → SoundAt Move book p q
  sound_absent s = subst SoundEntry (sym entry_is) (λ h. absurd (h s))

  pub bad_side : ¬ (e.side ≡ 0) → ¬ (e.side ≡ 1) → ¬ (e.side ≡ 2) → ¬ (SoundAt Move book p q)
  bad_side z f s h = no_other_side f s (subst SoundEntry entry_is h z)

  pub sound_first : e.side ≡ 1 → (r : Bool)
      → Decides r (Opens Move (BySide First (LowerEntry book e.depth)) p q e.action e.target)
      → Decides r (SoundAt Move book p q)
  sound_first s r d = subst (λ (x : Entry). Decides r (SoundEntry x)) (sym entry_is)
      (decides_iff r (λ o _. first_opens s o) (λ h. opens_of_first s (h (λ z. absurd (omega (arith, s, z))))) d)

  pub sound_second : e.side ≡ 2 → (r : Bool)
      → Decides r (Opens Move (BySide Second (LowerEntry book e.depth)) q p e.action e.target)
      → Decides r (SoundAt Move book p q)
  sound_second s r d = subst (λ (x : Entry). Decides r (SoundEntry x)) (sym entry_is)
      (decides_iff r (λ o _. second_opens s o) (λ h. opens_of_second s (h (λ z. absurd (omega (arith, s, z))))) d)

  -- The side that opens, whichever it is.
  pub sound_opener : {side : Side} {x y : ℕ} → Turn e.side p q side x y → (r : Bool)
      → Decides r (Opens Move (BySide side (LowerEntry book e.depth)) x y e.action e.target)
      → Decides r (SoundAt Move book p q)
  sound_opener (first_turn s) = sound_first s
  sound_opener (second_turn s) = sound_second s

  pub bad_without_side : ¬ (e.side ≡ 0) → NoSide e.side → ¬ (SoundAt Move book p q)
  bad_without_side z none = bad_side z none.not_first none.not_second

  -- The entry is not of a depth below its own.
  pub not_lower_than_itself : {side : Side} {x y : ℕ} → Turn e.side p q side x y
      → ¬ (BySide side (LowerEntry book e.depth) x y)
  not_lower_than_itself (first_turn _) l = omega (arith, l.depth_lt, ap (λ (x : Entry). x.depth) entry_is)
  not_lower_than_itself (second_turn _) l = omega (arith, l.depth_lt, ap (λ (x : Entry). x.depth) entry_is)

  -- Moves have only actions below the limit.
  pub sound_action_lt : ((x a y : ℕ) → Move x a y → a < action_limit) → SoundAt Move book p q → ¬ (e.side ≡ 0)
      → e.action < action_limit
  sound_action_lt action_lt h z = go (subst SoundEntry entry_is h z)
    where
      go : Plays Move (LowerEntry book e.depth) p q e.side e.action e.target → e.action < action_limit
      go (first_opens _ o) = action_lt _ _ _ o.opening
      go (second_opens _ o) = action_lt _ _ _ o.opening
