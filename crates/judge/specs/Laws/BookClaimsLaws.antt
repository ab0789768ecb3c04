-- The claims on books hold of whatever keeps the promises of Book and Check.
-- Document 02, (v). Assumes nothing.
use Rattle.std.specs.Prelude.{List, [], ◌≡◌, ℕ, zero, suc, ◌<◌, length}
use Rattle.std.proofs.Common.{ap, arith}
use Rattle.std.proofs.Math.Option.{none}
use Rattle.lts.specs.Weak.{WeakMove}
use Rattle.lts.proofs.WeakLaws.{weak_target_lt}
use Rattle.lts.specs.Book.{Entry, Sound}
use Rattle.lts.proofs.BookLaws.{sound_not_paired, sound_rank_zero}
use Rattle.lts.proofs.OwnBookLaws.{own_present, own_sound}
use Rattle.text.specs.Faults.{Outcome, answers}
use Rattle.text.specs.Limits.{state_limit}
use Rattle.text.specs.Model.{Model}
use Rattle.text.specs.Laws.FirstShortLaws.{long_of_none, none_short_two}
use Rattle.text.specs.Laws.OutcomeLaws.{answers_not_refuses}
use Rattle.model.specs.Store.{Good}
use Rattle.model.specs.System.{view, IsState}
use Rattle.model.proofs.Laws.OnStoreLaws.{on_store_answered}
use Rattle.model.proofs.Laws.System.GoodStoredLaws.{good_stored}
use Rattle.model.proofs.Laws.System.RankBoundLaws.{weak_move_game}
use Rattle.books.specs.Books.{book_of}
use Rattle.books.specs.Checks.{CheckDone, accepted, refused}
use Rattle.judge.specs.BookPromise.{book_lists}
use Rattle.judge.specs.CheckPromise.{check_lists}
use Rattle.judge.specs.BookClaims.{Accepts, AcceptsExactly, AcceptedNotPaired, RankZeroAbsent, OwnEntries}
use Rattle.judge.specs.BookClaims.{OwnAccepted}

module _ {store : List ℕ} (g : Good store) where
  abbrev m : Model
  m = g.model

  -- A move leads to a state, and there are at most as many as numbers of a pair.
  stays : (p a q : ℕ) → p < state_limit → WeakMove (view m) p a q → q < state_limit
  stays p a q l x =
      let st = good_stored store g in
      omega (arith, weak_target_lt x, st.states_le)

  state_lt : {p : ℕ} → IsState m p → p < state_limit
  state_lt l = omega (arith, l, (good_stored store g).states_le)

-- ---- the sound books

-- What is accepted is sound, whichever text the store is good by: it shows one model.
sound_of_accepted : {store book : List ℕ} → Accepts store book → (g : Good store)
    → Sound (WeakMove (view g.model)) state_limit (book_of book)
sound_of_accepted {store} {book} x g = go (x.good (on_store_answered x).0 g)
  where
    go : CheckDone (WeakMove (view g.model)) book (answers [])
        → Sound (WeakMove (view g.model)) state_limit (book_of book)
    go (accepted s e) = s
    go (refused p q b e) = absurd (answers_not_refuses e)

pub accepts_exactly : AcceptsExactly
accepts_exactly = record {
  only_sound = λ store book x. let g = (on_store_answered x).1.0 in (g, sound_of_accepted x g);
  each_sound = λ store book outcome long g s x. go store book g s (x.good long g);
}
  where
    go : (store book : List ℕ) {outcome : Outcome} (g : Good store)
        → Sound (WeakMove (view g.model)) state_limit (book_of book)
        → CheckDone (WeakMove (view g.model)) book outcome → outcome ≡ answers []
    go store book g s (accepted t e) = e
    go store book g s (refused p q b e) = absurd (b.bad (s p q b.first_lt b.second_lt))

pub accepted_not_paired : AcceptedNotPaired
accepted_not_paired store book x g R b p q lp lq =
    sound_not_paired (WeakMove (view g.model)) state_limit (stays g) (book_of book) (sound_of_accepted x g) R b p q
    (state_lt g lp) (state_lt g lq)

pub rank-zero_absent : RankZeroAbsent
rank-zero_absent store book x g p q lp lq =
    sound_rank_zero (WeakMove (view g.model)) state_limit (stays g) (book_of book) (sound_of_accepted x g) p q
    (state_lt g lp) (state_lt g lq)

-- ---- our own book

-- Where no list of Book is short, none of Check is.
check_lists_lem : (store table book book' : List ℕ) → book_lists store table book ≡ none → length book' ≡ length book
    → check_lists store book' ≡ none
check_lists_lem store table book book' e same =
    let store_long = long_of_none 1 _ _ e in
    let table_long = long_of_none 2 _ _ store_long.1 in
    let book-long = long_of_none 3 _ _ table_long.1 in
    none_short_two store_long.0 (omega (arith, same, book-long.0))

pub own_entries : OwnEntries
own_entries store table book table' book' x g p q zero lp lq y =
    let filled = (x.good (on_store_answered x).0 g).1.book_filled in
    let e = filled.own.together p q lp lq y in (
      (λ h. absurd (h (ap (λ (z : Entry). z.side) e)), λ l. absurd (omega arith)),
      ap (λ (z : Entry). z.depth) e,
    )
own_entries store table book table' book' x g p q (suc r) lp lq y =
    let filled = (x.good (on_store_answered x).0 g).1.book_filled in
    let move = WeakMove (view g.model) in
    let l : 0 < suc r = omega arith in
    let game = weak_move_game (good_stored store g) in (
      (λ h. l, λ k. own_present move g.model.head.states _ game filled.own p q (suc r) lp lq y l),
      (filled.own.apart p q (suc r) lp lq y l).depth_is,
    )

pub own_accepted : OwnAccepted
own_accepted store table book table' book' outcome x y =
    let answered = on_store_answered x in
    let g = answered.1.0 in
    let filled = answered.1.1.1.book_filled in
    let long = check_lists_lem store table book book' answered.0 filled.past.same_length in
    let game = weak_move_game (good_stored store g) in
    accepts_exactly.each_sound store book' outcome long g
    (own_sound (WeakMove (view g.model)) g.model.head.states _ game filled.own) y
