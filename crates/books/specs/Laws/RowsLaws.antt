-- A book that was cleared is filled entry by entry and row by row, until it is our own. Document 02, (v). Assumes
-- nothing.
use Rattle.std.specs.Prelude.{List, ◌≡◌, refl, ℕ, ◌+◌, ◌*◌, ◌≤◌, ◌<◌}
use Rattle.std.proofs.Common.{⊎_elim, sym, ◌∙◌, subst, arith, below_more}
use Rattle.lts.specs.Alike.{Moves}
use Rattle.lts.specs.Book.{no_entry, OwnBook}
use Rattle.lts.proofs.OwnBookLaws.{entry_ext}
use Rattle.text.specs.Limits.{state_limit, pair_place, entry_size, book_length}
use Rattle.text.specs.Inner.Clearing.{Cleared}
use Rattle.text.specs.Laws.ListsLaws.{past_refl, past_trans}
use Rattle.ranking.specs.Table.{Below, Greatest}
use Rattle.books.specs.Books.{entry_number, book_of, BookFilled}
use Rattle.books.specs.Inner.Filling.{PairOwn, PairFilled, RowFilled, EntriesFilled, RowEmpty, BookEmpty}

pub empty_of_cleared : {book book' : List ℕ} → Cleared 0 book_length book book' → BookEmpty book'
empty_of_cleared {book' = book'} c k l =
    entry_ext (entry_number book' k) no_entry (c.given (entry_size * k) (omega arith))
    (c.given (entry_size * k + 1) (omega arith)) (c.given (entry_size * k + 2) (omega arith))
    (c.given (entry_size * k + 3) (omega arith))

module _ {Move : Moves} where
  -- ---- a row

  pub row_filled_zero : {p : ℕ} (book : List ℕ) → RowFilled Move p 0 book book
  row_filled_zero book = record {
    own = λ q l. absurd (omega arith);
    kept = λ k h. refl;
    past = past_refl book;
  }

  pub row_filled_suc : {p q : ℕ} {book book' book'' : List ℕ} → RowFilled Move p q book book'
      → PairFilled Move p q book' book'' → RowFilled Move p (q + 1) book book''
  row_filled_suc {p} {q} {book'' = book''} x y = record {
    own =
        below_more (λ r. PairOwn Move p r (entry_number book'' (pair_place p r))) q
        (λ r l. subst (PairOwn Move p r) (sym (y.kept (pair_place p r) (λ e. omega arith))) (x.own r l)) y.own;
    kept = λ k h. y.kept k (h q (omega arith)) ∙ x.kept k (λ r l. h r (omega arith));
    past = past_trans x.past y.past;
  }

  pub row_filled_at : {p q n : ℕ} {book book' : List ℕ} → q ≡ n → RowFilled Move p q book book'
      → RowFilled Move p n book book'
  row_filled_at {p} {book = book} {book'} e = subst (λ (r : ℕ). RowFilled Move p r book book') e

  -- What is still to be written is empty.
  pub row_empty : {p q n : ℕ} {book book' : List ℕ} → RowEmpty p n book → q < n → RowFilled Move p q book book'
      → entry_number book' (pair_place p q) ≡ no_entry
  row_empty {p} {q} empty l x = x.kept (pair_place p q) (λ r k e. omega arith) ∙ empty q l

  -- ---- all rows

  pub entries_filled_zero : {n : ℕ} (book : List ℕ) → EntriesFilled Move n 0 book book
  entries_filled_zero book = record {
    own = λ p q l. absurd (omega arith);
    kept = λ k h. refl;
    past = past_refl book;
  }

  pub entries_filled_at : {n p m : ℕ} {book book' : List ℕ} → p ≡ m → EntriesFilled Move n p book book'
      → EntriesFilled Move n m book book'
  entries_filled_at {n} {book = book} {book'} e = subst (λ (r : ℕ). EntriesFilled Move n r book book') e

  module _ {n : ℕ} (states_le : n ≤ state_limit) where
    pub entries_filled_suc : {p : ℕ} {book book' book'' : List ℕ} → EntriesFilled Move n p book book'
        → RowFilled Move p n book' book'' → EntriesFilled Move n (p + 1) book book''
    entries_filled_suc {p} {book'' = book''} x y = record {
      own = λ r q l k.
          below_more (λ z. PairOwn Move z q (entry_number book'' (pair_place z q))) p
          (λ z j.
          subst (PairOwn Move z q) (sym (y.kept (pair_place z q) (λ u h e. omega (arith, k, j)))) (x.own z q j k))
          (y.own q k) r l;
      kept = λ k h. y.kept k (λ q l. h p q (omega arith) l) ∙ x.kept k (λ r q l. h r q (omega arith));
      past = past_trans x.past y.past;
    }

    pub rows_empty : {p : ℕ} {book book' : List ℕ} → BookEmpty book → p < n → EntriesFilled Move n p book book'
        → RowEmpty p n book'
    rows_empty {p} empty l x q k =
        x.kept (pair_place p q) (λ r u j h e. omega (arith, j, h, k)) ∙ empty (pair_place p q) (omega arith)

    pub own_of_rows : {book book' : List ℕ} → BookEmpty book → EntriesFilled Move n n book book'
        → OwnBook Move n state_limit (book_of book')
    own_of_rows empty x = record {
      apart = λ p q r lp lq. (x.own p q lp lq).apart r;
      together = λ p q lp lq. (x.own p q lp lq).together;
      outside = λ p q lp lq h.
          x.kept (pair_place p q) (λ r u j k e. ⊎_elim (λ l. omega (arith, l)) (λ l. omega (arith, l)) h)
          ∙ empty (pair_place p q) (omega arith);
    }

    -- The book that is filled after it was cleared.
    pub book_filled : {book book' book'' : List ℕ} → Cleared 0 book_length book book' → EntriesFilled Move n n book'
        book''
        → BookFilled Move n book book''
    book_filled c x = record { own = own_of_rows (empty_of_cleared c) x; past = past_trans c.past x.past }

    -- Where no rank is above 0, the book that is cleared is our own.
    pub book_filled_of_alike : {top : ℕ} {book book' : List ℕ} → Greatest Move (Below n) top → top ≡ 0
        → Cleared 0 book_length book book' → BookFilled Move n book book'
    book_filled_of_alike greatest e c = record {
      own = record {
        apart = λ p q r lp lq rank pos. absurd (omega (arith, greatest.bound p q r lp lq rank, e, pos));
        together = λ p q lp lq rank. empty_of_cleared c (pair_place p q) (omega arith);
        outside = λ p q lp lq h. empty_of_cleared c (pair_place p q) (omega arith);
      };
      past = c.past;
    }
