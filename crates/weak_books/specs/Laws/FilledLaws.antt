-- The book whose first sides have opened where they can, and then the second ones, is our own.
-- Document 02, (v) and (vii). Assumes nothing.
use Rattle.std.specs.Prelude.{Bool, List, refl, ℕ, ◌+◌, ◌≤◌, ◌<◌, get_or}
use Rattle.std.proofs.Common.{inl, ⊎_elim, sym, ap, ◌∙◌, subst, arith}
use Rattle.lts.specs.Alike.{Moves, Rank}
use Rattle.lts.proofs.AlikeLaws.{rank_unique, rank_sym}
use Rattle.lts.specs.Game.{Game}
use Rattle.lts.specs.Book.{Entry, LowerRank, OwnEntry}
use Rattle.lts.proofs.BookLaws.{first_play_of_first, opens_by_second, first_play_of_second}
use Rattle.lts.proofs.OwnBookLaws.{lower_rank_sym, play_exists}
use Rattle.text.specs.Limits.{state_limit, pair_place, book_length}
use Rattle.text.specs.Lists.{Past}
use Rattle.text.specs.Laws.ListsLaws.{past_trans}
use Rattle.ranking.specs.Table.{Ranks}
use Rattle.books.specs.Books.{entry_number, BookFilled}
use Rattle.books.specs.Inner.Filling.{PairOwn}
use Rattle.silent.specs.Labelled.{LabelList, LabelMove}
use Rattle.silent.specs.Laws.LabelledLaws.{label_move_label}
use Rattle.held.specs.HeldTests.{label_limit}
use Rattle.weak_books.specs.Inner.Opened.{OpenedBelow, none, first, OpenedBefore}
use Rattle.weak_books.specs.Inner.Turned.{EntryTurned, AllTurned}
use Rattle.weak_books.specs.Laws.BoundsLaws.{label_lt}

pub label_move_label_lt : {n : ℕ} {from sources targets : List ℕ} → LabelList n from sources targets → (p a q : ℕ)
    → LabelMove n from sources targets p a q → a < label_limit
label_move_label_lt L p a q m = label_lt (label_move_label L m)

module _ {Move : Moves} {n : ℕ} {round : (ℕ → ℕ → Bool) → ℕ → ℕ → Bool} (G : Game Move n round)
    (label_lt : (p a q : ℕ) → Move p a q → a < label_limit) where
  -- ---- the entry of two states

  module _ {p q r : ℕ} (lp : p < n) (lq : q < n) (rank : Rank Move p q r) (pos : 0 < r) where
    pub own_of_opened : {e o e' : Entry} → OpenedBelow Move (LowerRank Move r) r p q label_limit e
        → OpenedBelow Move (LowerRank Move r) r q p label_limit o → EntryTurned r e o e' → OwnEntry Move p q r e'
    own_of_opened (first a t z o m) _ w =
        let f = w.stays (λ s. omega (arith, s, ap (λ (x : Entry). x.side) z)) ∙ z in
        subst (OwnEntry Move p q r) (sym f) (record { depth_is = refl; opening = first_play_of_first o m })
    own_of_opened (none z h) (none _ g) w =
        let x = play_exists Move n _ G p q r lp lq rank pos in
        let o = (opens_by_second (λ y z. lower_rank_sym) (λ b u k. h b u (label_lt p b u k.opening) k) x.3).1 in
        absurd (g x.1 x.2 (label_lt q x.1 x.2 o.opening) o)
    own_of_opened (none z h) (first a t y o m) w =
        let f =
        w.turned (λ e. omega (arith, e, pos)) (ap (λ (x : Entry). x.side) z)
        (λ s. omega (arith, s, ap (λ (x : Entry). x.side) y))
        ∙ ap (λ (x : Entry). record { side = 2; action = x.action; target = x.target; depth = r }) y in
        subst (OwnEntry Move p q r) (sym f) (record {
          depth_is = refl;
          opening = first_play_of_second (λ y z. lower_rank_sym) (λ b u k. h b u (label_lt p b u k.opening) k) o m;
        })

  -- ---- the book

  module _ {table : List ℕ} (states_le : n ≤ state_limit) (R : Ranks Move n table) {top : ℕ}
      (top-is : (p q : ℕ) → p < n → q < n → get_or table (pair_place p q) 0 ≤ top) {book book' : List ℕ}
      (O : OpenedBefore Move n table (top + 1) book) (W : AllTurned n table 0 (pair_place n 0) book book') where
    module _ (p q : ℕ) (lp : p < n) (lq : q < n) where
      abbrev r : ℕ
      r = get_or table (pair_place p q) 0

      rank : Rank Move p q r
      rank = R.ranks p q lp lq

      here : EntryTurned r (entry_number book (pair_place p q)) (entry_number book (pair_place q p))
          (entry_number book' (pair_place p q))
      here = W.turned p q lp lq (omega arith) (omega (arith, lp, lq, states_le))

      -- Their rank the other way round is the same.
      back : 0 < r → OpenedBelow Move (LowerRank Move r) r q p label_limit (entry_number book (pair_place q p))
      back pos =
          let e = rank_unique Move q p _ r (R.ranks q p lq lp) (rank_sym Move p q r rank) in
          subst (λ (k : ℕ). OpenedBelow Move (LowerRank Move k) k q p label_limit
          (entry_number book (pair_place q p))) e
          (O.opened q p lq lp (omega (arith, e, pos)) (omega (arith, top-is q p lq lp)))

      pair_own : PairOwn Move p q (entry_number book' (pair_place p q))
      pair_own = record {
        apart = λ s x l.
            let e = rank_unique Move p q s r x rank in
            let pos : 0 < r = omega (arith, e, l) in
            subst (λ (k : ℕ). OwnEntry Move p q k (entry_number book' (pair_place p q))) (sym e)
            (own_of_opened lp lq rank pos (O.opened p q lp lq pos (omega (arith, top-is p q lp lq))) (back pos) here);
        together = λ x. let e = rank_unique Move p q r 0 rank x in here.together e ∙ O.empty p q lp lq (inl e);
      }

    pub book_filled_of_turned : {start : List ℕ} → Past book_length start book → BookFilled Move n start book'
    book_filled_of_turned past = record {
      own = record {
        apart = λ p q s lp lq. (pair_own p q lp lq).apart s;
        together = λ p q lp lq. (pair_own p q lp lq).together;
        outside = λ p q lp lq h.
            W.kept (pair_place p q) (λ u v lu lv _ _ e.
            ⊎_elim
            (λ l. omega (arith, l, e, lu, lv, lq, states_le))
            (λ l. omega (arith, l, e, lu, lv, lq, states_le))
            h)
            ∙ O.outside p q lp lq h;
      };
      past = past_trans past W.past;
    }
