-- The entries are tested one by one, by their numbers: the first bad one is found, or all are sound.
-- Document 02, (v). Assumes nothing.
use Rattle.std.specs.Prelude.{List, ◌⊎◌, ◌≡◌, ℕ, ◌+◌, ◌/◌, ◌%◌, ◌<◌}
use Rattle.std.proofs.Common.{inl, inr, arith}
use Rattle.lts.proofs.TestsLaws.{eq_or_not}
use Rattle.lts.specs.Alike.{Moves}
use Rattle.lts.specs.Book.{SoundAt}
use Rattle.text.specs.Limits.{state_limit, table_length, pair_place}
use Rattle.books.specs.Books.{book_of}
use Rattle.books.specs.Inner.Sides.{SoundTo}
use Rattle.books.specs.Laws.ChecksLaws.{at_number}

-- The entries before entry k are sound.
abbrev pub SoundBefore : Moves → List ℕ → ℕ → Type 0
SoundBefore Move book k =
    (p q : ℕ) → p < state_limit → q < state_limit → pair_place p q < k → SoundAt Move (book_of book) p q

module _ (Move : Moves) (book : List ℕ) where
  pub sound_before_zero : SoundBefore Move book 0
  sound_before_zero p q lp lq l = absurd (omega arith)

  pub sound_before_add_one : {k : ℕ} → SoundAt Move (book_of book) (k / state_limit) (k % state_limit)
      → SoundBefore Move book k → SoundBefore Move book (k + 1)
  sound_before_add_one {k} h s p q lp lq l = go (eq_or_not (pair_place p q) k)
    where
      go : (pair_place p q ≡ k) ⊎ ¬ (pair_place p q ≡ k) → SoundAt Move (book_of book) p q
      go (inl e) = at_number (SoundAt Move (book_of book)) h p q lq e
      go (inr d) = s p q lp lq (omega (arith, d, l))

  pub sound_to_of_bad : {k : ℕ} → k < table_length → ¬ (SoundAt Move (book_of book) (k / state_limit) (k % state_limit))
      → SoundBefore Move book k → SoundTo Move book k
  sound_to_of_bad {k} l h s = record {
    number_le = omega arith;
    sound = λ p q lp lq _. s p q lp lq;
    bad = λ p q lp lq e _. at_number (λ x y. ¬ (SoundAt Move (book_of book) x y)) h p q lq e;
  }

  pub sound_to_of_all : {k : ℕ} → k ≡ table_length → SoundBefore Move book k → SoundTo Move book k
  sound_to_of_all {k} e s = record {
    number_le = omega arith;
    sound = λ p q lp lq _. s p q lp lq;
    bad = λ p q lp lq d l. absurd (omega (arith, e, l));
  }
