-- A book is filled entry by entry, until it is our own. Document 02, (v). Assumes nothing.
use Rattle.std.specs.Prelude.{List, ◌⊎◌, ◌≡◌, refl, ℕ, ◌+◌, ◌*◌, ◌≤◌, ◌<◌, length, get_or, set}
use Rattle.std.proofs.Common.{inl, inr, ⊎_elim, sym, ap, ◌∙◌, subst, arith, length-set, get_or-set_same}
use Rattle.std.proofs.Common.{get_or-set_other}
use Rattle.lts.specs.Alike.{Moves, Rank}
use Rattle.lts.proofs.AlikeLaws.{rank_unique}
use Rattle.lts.specs.Book.{LowerRank, FirstPlay, OwnEntry, no_entry}
use Rattle.lts.proofs.OwnBookLaws.{entry_ext}
use Rattle.lts.proofs.TestsLaws.{lt_or_le}
use Rattle.text.specs.Limits.{table_length, pair_place, entry_size, book_length}
use Rattle.text.specs.Lists.{Past}
use Rattle.text.specs.Laws.ListsLaws.{past_refl, past_trans, past-set}
use Rattle.books.specs.Books.{entry_number}
use Rattle.books.specs.Inner.Filling.{EntryWritten, PairFilled}

-- ---- one entry

module _ (book : List ℕ) {k : ℕ} (at s a t d : ℕ) (long : book_length ≤ length book) (lk : k < table_length)
    (at-is : at ≡ entry_size * k) where
  -- the four bytes, one after the other
  abbrev one : List ℕ
  one = set book at s

  abbrev two : List ℕ
  two = set one (at + 1) a

  abbrev three : List ℕ
  three = set two (at + 2) t

  abbrev four : List ℕ
  four = set three (at + 3) d

  kept_place : (i : ℕ) → (i < at) ⊎ (at + 3 < i) → get_or four i 0 ≡ get_or book i 0
  kept_place i h =
      get_or-set_other three (at + 3) i d 0 (λ e. ⊎_elim (λ l. omega arith) (λ l. omega arith) h)
      ∙ get_or-set_other two (at + 2) i t 0 (λ e. ⊎_elim (λ l. omega arith) (λ l. omega arith) h)
      ∙ get_or-set_other one (at + 1) i a 0 (λ e. ⊎_elim (λ l. omega arith) (λ l. omega arith) h)
      ∙ get_or-set_other book at i s 0 (λ e. ⊎_elim (λ l. omega arith) (λ l. omega arith) h)

  in_book : at + 3 < length book
  in_book = omega (arith, at-is)

  side_at : get_or four at 0 ≡ s
  side_at =
      get_or-set_other three (at + 3) at d 0 (λ e. omega arith) ∙ get_or-set_other two (at + 2) at t 0
      (λ e. omega arith)
      ∙ get_or-set_other one (at + 1) at a 0 (λ e. omega arith) ∙ get_or-set_same book at s 0 (omega (arith, in_book))

  action_at_lem : get_or four (at + 1) 0 ≡ a
  action_at_lem =
      get_or-set_other three (at + 3) (at + 1) d 0 (λ e. omega arith)
      ∙ get_or-set_other two (at + 2) (at + 1) t 0 (λ e. omega arith)
      ∙ get_or-set_same one (at + 1) a 0 (omega (arith, in_book, length-set book at s))

  target_at : get_or four (at + 2) 0 ≡ t
  target_at =
      get_or-set_other three (at + 3) (at + 2) d 0 (λ e. omega arith)
      ∙ get_or-set_same two (at + 2) t 0 (omega (arith, in_book, length-set one (at + 1) a, length-set book at s))

  depth_at : get_or four (at + 3) 0 ≡ d
  depth_at = get_or-set_same three (at + 3) d 0
      (omega (arith, in_book, length-set two (at + 2) t, length-set one (at + 1) a, length-set book at s))

  four_past : Past book_length book four
  four_past =
      past_trans (past-set book at s (omega (arith, at-is)))
      (past_trans (past-set one (at + 1) a (omega (arith, at-is)))
      (past_trans (past-set two (at + 2) t (omega (arith, at-is)))
      (past-set three (at + 3) d (omega (arith, at-is)))))

  entry_kept : (j : ℕ) → ¬ (j ≡ k) → entry_number four j ≡ entry_number book j
  entry_kept j h =
      entry_ext (entry_number four j) (entry_number book j)
      (kept_place (entry_size * j) (apart (entry_size * j) (omega arith) (omega arith)))
      (kept_place (entry_size * j + 1) (apart (entry_size * j + 1) (omega arith) (omega arith)))
      (kept_place (entry_size * j + 2) (apart (entry_size * j + 2) (omega arith) (omega arith)))
      (kept_place (entry_size * j + 3) (apart (entry_size * j + 3) (omega arith) (omega arith)))
    where
      apart : (i : ℕ) → entry_size * j ≤ i → i < entry_size * j + 4 → (i < at) ⊎ (at + 3 < i)
      apart i l g = ⊎_elim (λ x. inl (omega (arith, at-is))) (λ x. inr (omega (arith, at-is, x, le_cases x)))
          (lt_or_le j k)
        where
          le_cases : k ≤ j → k < j
          le_cases x = ⊎_elim (λ y. y) (λ y. absurd (h (omega arith))) (lt_or_le k j)

  pub entry_written : EntryWritten k (record { side = s; action = a; target = t; depth = d }) book four
  entry_written = record {
    written =
        entry_ext (entry_number four k) (record { side = s; action = a; target = t; depth = d })
        (ap (λ (i : ℕ). get_or four i 0) (sym at-is) ∙ side_at)
        (ap (λ (i : ℕ). get_or four (i + 1) 0) (sym at-is) ∙ action_at_lem)
        (ap (λ (i : ℕ). get_or four (i + 2) 0) (sym at-is) ∙ target_at)
        (ap (λ (i : ℕ). get_or four (i + 3) 0) (sym at-is) ∙ depth_at);
    kept = entry_kept;
    past = four_past;
  }

-- ---- the entry of two states

module _ {Move : Moves} {p q d : ℕ} (rank : Rank Move p q d) where
  -- Two states of rank 0 have none.
  pub pair_filled_none : {book : List ℕ} → d ≡ 0 → entry_number book (pair_place p q) ≡ no_entry
      → PairFilled Move p q book book
  pair_filled_none {book} e empty = record {
    own = record {
      apart = λ r x l. absurd (omega (arith, l, e, rank_unique Move p q r d x rank));
      together = λ x. empty;
    };
    kept = λ k h. refl;
    past = past_refl book;
  }

  pub pair_filled_entry : {side a t : ℕ} {book book' : List ℕ} → 0 < d
      → FirstPlay Move (LowerRank Move d) p q side a t
      → EntryWritten (pair_place p q) (record { side = side; action = a; target = t; depth = d }) book book'
      → PairFilled Move p q book book'
  pair_filled_entry {side} {a} {t} {book} {book'} pos play w = record {
    own = record {
      apart = λ r x l.
          subst (λ (y : ℕ). OwnEntry Move p q y (entry_number book' (pair_place p q))) (rank_unique Move p q d r rank x)
          (subst (OwnEntry Move p q d) (sym w.written) (record { depth_is = refl; opening = play }));
      together = λ x. absurd (omega (arith, pos, rank_unique Move p q 0 d x rank));
    };
    kept = w.kept;
    past = w.past;
  }
