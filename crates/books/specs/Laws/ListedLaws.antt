-- Lists that have just the moves of a relation have its book, and the same books are sound. Document 02, (v) and (vii).
-- Assumes nothing.
use Rattle.std.specs.Prelude.{List, ◌≡◌, ℕ}
use Rattle.std.proofs.Common.{sym, subst}
use Rattle.lts.specs.Alike.{Moves, Relation}
use Rattle.lts.proofs.OwnBookLaws.{own_book_same}
use Rattle.lts.specs.Weak.{Weak}
use Rattle.lts.proofs.WeakLaws.{weak-map}
use Rattle.text.specs.Faults.{Outcome}
use Rattle.text.specs.Limits.{state_limit}
use Rattle.by_state.specs.MoveList.{Listed, Lists, Ordered}
use Rattle.books.specs.Books.{book_of, BookFilled}
use Rattle.books.specs.Checks.{CheckDone, StillMove}
use Rattle.books.specs.Laws.ChecksLaws.{check_done_same}

module _ {Move : Moves} {n : ℕ} {first actions targets : List ℕ} (l : Lists Move n first actions targets) {x : ℕ}
    (e : x ≡ n) where
  pub ordered_of_lists : Ordered n first actions targets → Ordered x first actions targets
  ordered_of_lists = subst (λ (y : ℕ). Ordered y first actions targets) (sym e)

  pub book_filled_of_listed : {entry exit : List ℕ} → BookFilled (Listed x first actions targets) x entry exit
      → BookFilled Move n entry exit
  book_filled_of_listed {entry} {exit} h =
      let f = subst (λ (y : ℕ). BookFilled (Listed y first actions targets) y entry exit) e h in
      record { own = own_book_same l.sound l.complete n state_limit (book_of exit) f.own; past = f.past }

  -- Where the low steps are those of the relation and no step is silent.
  pub check_done_of_listed : {Tick : Relation} → ((p q : ℕ) → ¬ (Tick p q)) → {book : List ℕ} {outcome : Outcome}
      → CheckDone (StillMove x first actions targets) book outcome → CheckDone (Weak Move Tick n) book outcome
  check_done_of_listed {Tick} still {book} {outcome} h =
      check_done_same {M = StillMove n first actions targets} {N = Weak Move Tick n}
      (λ p a q m. weak-map l.sound (λ y z t. absurd t) m) (λ p a q m. weak-map l.complete still m)
      (subst (λ (y : ℕ). CheckDone (StillMove y first actions targets) book outcome) e h)
