-- Book's promise pins its answer, each byte of the table and each byte of the book.
-- Document 02, (v). Assumes nothing.
use Rattle.std.specs.Prelude.{List, ◌≡◌, ℕ}
use Rattle.std.proofs.Common.{sym, ◌∙◌}
use Rattle.text.specs.Faults.{Outcome}
use Rattle.model.specs.System.{view}
use Rattle.model.proofs.Laws.OnStoreLaws.{on_store_unique}
use Rattle.model.proofs.Laws.System.GoodStoredLaws.{good_stored}
use Rattle.model.proofs.Laws.System.RankBoundLaws.{weak_move_game}
use Rattle.lts.specs.Weak.{WeakMove}
use Rattle.ranking.specs.Laws.RankedLaws.{ranks_unique}
use Rattle.books.specs.Laws.BytesLaws.{book_filled_unique}
use Rattle.judge.specs.BookPromise.{BookPromise}

pub book_promise_unique : (store table book : List ℕ) (outcome outcome' : Outcome) (t b t' b' : List ℕ)
    → BookPromise store table book outcome t b → BookPromise store table book outcome' t' b'
    → (outcome ≡ outcome') × ((t ≡ t') × (b ≡ b'))
book_promise_unique store table book outcome outcome' t b t' b' =
    on_store_unique (λ x y. (x.0 ∙ sym y.0, x.1 ∙ sym y.1)) (λ g x y.
    let m = g.model in
    let u = x.1 in
    let v = y.1 in (
      x.0 ∙ sym y.0,
      (
        ranks_unique (WeakMove (view m)) m.head.states table t t' u.ranks u.table_past v.ranks
            v.table_past,
        book_filled_unique (WeakMove (view m)) m.head.states _ (weak_move_game (good_stored store g)) b b'
            u.book_filled.own v.book_filled.own book u.book_filled.past v.book_filled.past,
      ),
    ))
