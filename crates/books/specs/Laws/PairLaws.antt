-- The entry that is written for two states of a rank above 0 is our own book's: the first side opens if it can, and
-- else the second side can. Document 02, (v). Assumes nothing.
use Rattle.std.specs.Prelude.{List, ◌≡◌, ℕ, ◌+◌, ◌<◌, get_or}
use Rattle.std.proofs.Common.{sym, subst, arith}
use Rattle.lts.specs.Alike.{Rank}
use Rattle.lts.specs.Book.{no_entry}
use Rattle.text.specs.Limits.{pair_place}
use Rattle.by_state.specs.MoveList.{Listed, MoveList, Ordered}
use Rattle.by_state.specs.Laws.MoveListLaws.{place_lt_last}
use Rattle.ranking.specs.Table.{Ranks}
use Rattle.books.specs.Books.{entry_number}
use Rattle.books.specs.Inner.Openings.{FirstOpening}
use Rattle.books.specs.Inner.Filling.{EntryWritten, PairFilled}
use Rattle.books.specs.Laws.FillingLaws.{pair_filled_none, pair_filled_entry}
use Rattle.books.specs.Laws.OpeningsLaws.{first_play, second_found, second_play}

module _ {n : ℕ} {first actions targets table : List ℕ} (L : MoveList n first actions targets)
    (O : Ordered n first actions targets) (R : Ranks (Listed n first actions targets) n table) {p q d : ℕ} (lp : p < n)
    (lq : q < n) (known : d ≡ get_or table (pair_place p q) 0) where
  rank : Rank (Listed n first actions targets) p q d
  rank = subst (Rank (Listed n first actions targets) p q) (sym known) (R.ranks p q lp lq)

  pub pair_none : {book : List ℕ} → d ≡ 0 → entry_number book (pair_place p q) ≡ no_entry
      → PairFilled (Listed n first actions targets) p q book book
  pair_none = pair_filled_none rank

  module _ (apart : ¬ (d ≡ 0)) {at : ℕ}
      (F : FirstOpening (Listed n first actions targets) actions targets table d q (get_or first p 0)
      (get_or first (p + 1) 0) at) where
    pos : 0 < d
    pos = omega (arith, apart)

    pub pair_first : {book book' : List ℕ} → at < get_or first (p + 1) 0
        → EntryWritten (pair_place p q)
        (record { side = 1; action = get_or actions at 0; target = get_or targets at 0; depth = d }) book book'
        → PairFilled (Listed n first actions targets) p q book book'
    pair_first l = pair_filled_entry rank pos (first_play L O R lp lq rank pos F l)

    module _ {back : ℕ} (left : ¬ (at < get_or first (p + 1) 0))
        (G : FirstOpening (Listed n first actions targets) actions targets table d p (get_or first q 0)
        (get_or first (q + 1) 0) back) where
      pub second_place_lt : back < get_or first n 0
      second_place_lt = place_lt_last L lq (second_found L O R lp lq rank pos F left G)

      pub second_place_lt_end : back < get_or first (q + 1) 0
      second_place_lt_end = second_found L O R lp lq rank pos F left G

      pub pair_second : {book book' : List ℕ}
          → EntryWritten (pair_place p q)
          (record { side = 2; action = get_or actions back 0; target = get_or targets back 0; depth = d }) book book'
          → PairFilled (Listed n first actions targets) p q book book'
      pair_second = pair_filled_entry rank pos (second_play L O R lp lq rank pos F left G)
