-- The entries are tested one by one: the first bad one is told, or all are sound.
-- Document 02, (v). Assumes nothing.
use Rattle.std.specs.Prelude.{List, ◌≡◌, refl, ℕ, ◌+◌, ◌/◌, ◌%◌, ◌≤◌, ◌<◌, Ok, Err}
use Rattle.std.proofs.Common.{⊎_elim, sym, ap, ◌∙◌, subst, arith, below_more}
use Rattle.lts.proofs.TestsLaws.{lt_or_le, eq_of_not_lt}
use Rattle.lts.specs.Alike.{Moves}
use Rattle.lts.specs.Book.{SoundAt}
use Rattle.lts.proofs.BookLaws.{sound_at_same}
use Rattle.text.specs.Faults.{Outcome, refuses}
use Rattle.text.specs.Limits.{state_limit, table_length, pair_place}
use Rattle.books.specs.Books.{book_of}
use Rattle.books.specs.Checks.{checked_outcome, FirstBad, CheckDone, accepted, refused}
use Rattle.books.specs.Inner.Sides.{RowSoundTo, RowsSound, SoundTo, BadTold}

-- Entry k is that of k / 128 and k % 128, and of no others.
pub at_number : (P : ℕ → ℕ → Type 0) {k : ℕ} → P (k / state_limit) (k % state_limit) → (p q : ℕ) → q < state_limit
    → pair_place p q ≡ k → P p q
at_number P {k} h p q lq e =
    let ep : k / state_limit ≡ p = omega arith in
    let eq : k % state_limit ≡ q = omega arith in
    subst (P p) eq (subst (λ (x : ℕ). P x (k % state_limit)) ep h)

module _ (Move : Moves) (book : List ℕ) where
  pub rows_sound_zero : RowsSound Move book 0
  rows_sound_zero x y l = absurd (omega arith)

  pub rows_sound_add_one : {p q : ℕ} → RowSoundTo Move book p q → state_limit ≤ q → RowsSound Move book p
      → RowsSound Move book (p + 1)
  rows_sound_add_one {p} row whole s x y lx ly =
      below_more (λ z. SoundAt Move (book_of book) z y) p (λ z l. s z y l ly) (row.sound y (omega (arith, whole, ly))) x
      lx

  pub sound_to_bad : {p q k : ℕ} → k ≡ pair_place p q → p < state_limit → q < state_limit → RowSoundTo Move book p q
      → RowsSound Move book p → SoundTo Move book k
  sound_to_bad {p} {q} {k} e lp lq row s = record {
    number_le = omega arith;
    sound = λ x y lx ly _ l. ⊎_elim (λ h. s x y h ly)
        (λ h. in_row x y (omega (arith, l, h, e, lq)) (omega (arith, l, h, e, lq))) (lt_or_le x p);
    bad = λ x y lx ly l _. at_place x y (omega (arith, l, e, lq, ly)) (omega (arith, l, e, lq, ly));
  }
    where
      in_row : (x y : ℕ) → p ≡ x → y < q → SoundAt Move (book_of book) x y
      in_row x y i l = subst (λ (z : ℕ). SoundAt Move (book_of book) z y) i (row.sound y l)

      at_place : (x y : ℕ) → p ≡ x → q ≡ y → ¬ (SoundAt Move (book_of book) x y)
      at_place x y i j = subst (λ (z : ℕ). ¬ (SoundAt Move (book_of book) z y)) i
          (subst (λ (z : ℕ). ¬ (SoundAt Move (book_of book) p z)) j (row.bad lq))

  pub sound_to_all : {p : ℕ} → state_limit ≤ p → RowsSound Move book p → SoundTo Move book table_length
  sound_to_all {p} l s = record {
    number_le = omega arith;
    sound = λ x y lx ly _ _. s x y (omega (arith, l, lx)) ly;
    bad = λ x y lx ly e h. absurd (omega (arith, h));
  }

-- ---- what is told

pub bad_told_bad : {k : ℕ} → k < table_length → BadTold k (checked_outcome (Err (record { 0 = k })))
unfolding checked_outcome
bad_told_bad l = record { bad = λ _. refl; sound = λ m. absurd (omega (arith, l, m)) }

pub bad_told_sound : {k : ℕ} → table_length ≤ k → BadTold k (checked_outcome (Ok tt))
unfolding checked_outcome
bad_told_sound l = record { bad = λ m. absurd (omega (arith, l, m)); sound = λ _. refl }

pub check_done_of_told : {Move : Moves} {book : List ℕ} {k : ℕ} {outcome : Outcome} → SoundTo Move book k
    → BadTold k outcome → CheckDone Move book outcome
check_done_of_told {Move} {book} {k} s told = ⊎_elim
    (λ l.
    let p = k / state_limit in
    let q = k % state_limit in
    let e : pair_place p q ≡ k = omega arith in
    let first-bad : FirstBad Move book p q = record {
      first_lt = omega (arith, l);
      second_lt = omega arith;
      bad = s.bad p q (omega (arith, l)) (omega arith) e l;
      sound_before = λ x y lx ly b. s.sound x y lx ly (omega (arith, lx, ly)) (omega (arith, b, e));
    } in
    refused p q first-bad (told.bad l ∙ ap (refuses 34) (sym e)))
    (λ l.
    accepted (λ p q lp lq. s.sound p q lp lq (omega (arith, lp, lq)) (omega (arith, lp, lq, l))) (told.sound l))
    (lt_or_le k table_length)

-- N are the moves that M are, said in another way.
pub check_done_same : {M N : Moves} → ((p a q : ℕ) → M p a q → N p a q) → ((p a q : ℕ) → N p a q → M p a q)
    → {book : List ℕ} {outcome : Outcome} → CheckDone M book outcome → CheckDone N book outcome
check_done_same forth back {book} (accepted s o) =
    accepted (λ p q lp lq. sound_at_same forth back (book_of book) p q (s p q lp lq)) o
check_done_same forth back {book} (refused p q b o) = refused p q
    (record {
      first_lt = b.first_lt;
      second_lt = b.second_lt;
      bad = λ s. b.bad (sound_at_same back forth (book_of book) p q s);
      sound_before = λ y z ly lz k. sound_at_same forth back (book_of book) y z (b.sound_before y z ly lz k);
    })
    o

-- ---- one answer

first_bad_le : {Move : Moves} {book : List ℕ} {p q x y : ℕ} → FirstBad Move book p q → FirstBad Move book x y
    → ¬ (pair_place p q < pair_place x y)
first_bad_le {p = p} {q} f g l = f.bad (g.sound_before p q f.first_lt f.second_lt l)

pub check_done_unique : {Move : Moves} {book : List ℕ} {outcome outcome' : Outcome} → CheckDone Move book outcome
    → CheckDone Move book outcome' → outcome ≡ outcome'
check_done_unique (accepted s e) (accepted t f) = e ∙ sym f
check_done_unique (accepted s e) (refused p q b f) = absurd (b.bad (s p q b.first_lt b.second_lt))
check_done_unique (refused p q b e) (accepted t f) = absurd (b.bad (t p q b.first_lt b.second_lt))
check_done_unique (refused p q b e) (refused x y c f) =
    let same = eq_of_not_lt (pair_place p q) (pair_place x y) (first_bad_le b c) (first_bad_le c b) in
    e ∙ ap (refuses 34) same ∙ sym f
