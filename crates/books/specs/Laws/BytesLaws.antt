-- Our own book is pinned: each of its bytes, and so the list of them; and it stands in its own bytes alone.
-- Document 02, (v). Assumes nothing.
use Rattle.std.specs.Prelude.{Bool, List, ◌≡◌, ℕ, zero, suc, ◌+◌, ◌*◌, ◌/◌, ◌%◌, ◌≤◌, ◌<◌, length, get_or, take}
use Rattle.std.proofs.Common.{⊎_elim, sym, ap, ◌∙◌, subst, arith, ext_get_or, get_or-take}
use Rattle.lts.specs.Alike.{Moves}
use Rattle.lts.proofs.TestsLaws.{lt_or_le}
use Rattle.lts.specs.Game.{Game}
use Rattle.lts.specs.Book.{Entry, OwnEntry, OwnBook}
use Rattle.lts.proofs.OwnBookLaws.{entry_ext, own_unique}
use Rattle.text.specs.Limits.{state_limit, table_length, pair_place, entry_size, book_length}
use Rattle.text.specs.Lists.{Past}
use Rattle.text.specs.Laws.ListsLaws.{past_get_or}
use Rattle.books.specs.Books.{entry_number, book_of}

-- The byte of an entry: its number, and its place in the entry.
data ByteOf (i k : ℕ) : Type 0 where
  side_byte : i ≡ entry_size * k → ByteOf i k
  action_byte : i ≡ entry_size * k + 1 → ByteOf i k
  target_byte : i ≡ entry_size * k + 2 → ByteOf i k
  depth_byte : i ≡ entry_size * k + 3 → ByteOf i k

byte_of_exists : (i : ℕ) → ByteOf i (i / entry_size)
byte_of_exists i = go (i % entry_size) (omega arith) (omega arith)
  where
    go : (r : ℕ) → r < entry_size → i ≡ entry_size * (i / entry_size) + r → ByteOf i (i / entry_size)
    go zero l e = side_byte (omega arith)
    go (suc zero) l e = action_byte e
    go (suc (suc zero)) l e = target_byte e
    go (suc (suc (suc zero))) l e = depth_byte e
    go (suc (suc (suc (suc r)))) l e = absurd (omega arith)

-- Equal entries have equal bytes.
byte_of_entry : (b b' : List ℕ) (i k : ℕ) → ByteOf i k → entry_number b k ≡ entry_number b' k → get_or b i 0 ≡ get_or
    b' i 0
byte_of_entry b b' i k x e = go x
  where
    at : {j : ℕ} → i ≡ j → get_or b j 0 ≡ get_or b' j 0 → get_or b i 0 ≡ get_or b' i 0
    at f = subst (λ (j : ℕ). get_or b j 0 ≡ get_or b' j 0) (sym f)

    go : ByteOf i k → get_or b i 0 ≡ get_or b' i 0
    go (side_byte f) = at f (ap (λ (x : Entry). x.side) e)
    go (action_byte f) = at f (ap (λ (x : Entry). x.action) e)
    go (target_byte f) = at f (ap (λ (x : Entry). x.target) e)
    go (depth_byte f) = at f (ap (λ (x : Entry). x.depth) e)

module _ (Move : Moves) (n : ℕ) (round : (ℕ → ℕ → Bool) → ℕ → ℕ → Bool) (G : Game Move n round) (b b' : List ℕ)
    (x : OwnBook Move n state_limit (book_of b)) (y : OwnBook Move n state_limit (book_of b')) where
  -- Each byte of the book.
  pub own_book_bytes : (i : ℕ) → i < book_length → get_or b i 0 ≡ get_or b' i 0
  own_book_bytes i l =
      let k = i / entry_size in
      let p = k / state_limit in
      let q = k % state_limit in
      let e : pair_place p q ≡ k = omega arith in
      let same = own_unique Move n round G x y p q (omega arith) (omega arith) in
      byte_of_entry b b' i k (byte_of_exists i) (subst (λ (j : ℕ). entry_number b j ≡ entry_number b' j) e same)

  -- A list of no further bytes.
  pub own_book_unique : length b ≡ length b' → length b ≤ book_length → b ≡ b'
  own_book_unique e le = ext_get_or 0 b b' e (λ i l. own_book_bytes i (omega (arith, l, le)))

  -- The whole list after Book.
  pub book_filled_unique : (entry : List ℕ) → Past book_length entry b → Past book_length entry b' → b ≡ b'
  book_filled_unique entry u v =
      ext_get_or 0 b b' (u.same_length ∙ sym v.same_length) (λ i l.
      ⊎_elim (λ k. own_book_bytes i k) (λ k. past_get_or u i k ∙ sym (past_get_or v i k)) (lt_or_le i book_length))

-- ---- a book in a longer list

entry-take : (b : List ℕ) (k : ℕ) → k < table_length → entry_number (take book_length b) k ≡ entry_number b k
entry-take b k l =
    entry_ext (entry_number (take book_length b) k) (entry_number b k)
    (get_or-take book_length b (entry_size * k) 0 (omega arith))
    (get_or-take book_length b (entry_size * k + 1) 0 (omega arith))
    (get_or-take book_length b (entry_size * k + 2) 0 (omega arith))
    (get_or-take book_length b (entry_size * k + 3) 0 (omega arith))

-- What stands past the book's bytes does not count.
pub own_book-take : {Move : Moves} {n : ℕ} (b : List ℕ) → n ≤ state_limit → OwnBook Move n state_limit (book_of b)
    → OwnBook Move n state_limit (book_of (take book_length b))
own_book-take {Move} {n} b le o = record {
  apart = λ p q r lp lq x l.
      subst (OwnEntry Move p q r) (sym (same p q (omega arith) (omega arith))) (o.apart p q r lp lq x l);
  together = λ p q lp lq x. same p q (omega arith) (omega arith) ∙ o.together p q lp lq x;
  outside = λ p q lp lq h. same p q lp lq ∙ o.outside p q lp lq h;
}
  where
    same : (p q : ℕ) → p < state_limit → q < state_limit
        → entry_number (take book_length b) (pair_place p q) ≡ entry_number b (pair_place p q)
    same p q lp lq = entry-take b (pair_place p q) (omega arith)
