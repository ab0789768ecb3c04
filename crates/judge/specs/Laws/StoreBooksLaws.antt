-- Books of a model's steps, listed by state or by label, are books of the moves that are played, and ranks of the steps
-- by label are ranks of these.
-- Document 02, (v) and (vii). Assumes nothing.
use Rattle.std.specs.Prelude.{List, ◌≡◌, ℕ}
use Rattle.std.proofs.Common.{sym, subst}
use Rattle.lts.specs.Alike.{Moves}
use Rattle.lts.proofs.AgreeLaws.{rank_same}
use Rattle.lts.proofs.AgreeBookLaws.{own_book_agree}
use Rattle.lts.proofs.OwnBookLaws.{own_book_same}
use Rattle.lts.specs.View.{View}
use Rattle.lts.specs.Weak.{silent_label, LowStep, Tick, WeakMove}
use Rattle.text.specs.Faults.{Outcome}
use Rattle.text.specs.Limits.{state_limit}
use Rattle.text.specs.Model.{Model}
use Rattle.model.specs.System.{view}
use Rattle.model.specs.Inner.Stored.{Stored}
use Rattle.model.proofs.Laws.System.RankBoundLaws.{low_step_game, weak_move_game}
use Rattle.silent.specs.Labelled.{LabelMove}
use Rattle.by_state.specs.MoveList.{Listed, Lists}
use Rattle.ranking.specs.Table.{Ranks}
use Rattle.moves.specs.Labels.{LabelsOf}
use Rattle.moves.specs.Laws.LabelsLaws.{weak_move_of_labels, labels_of_weak_move, low_weak_agree}
use Rattle.books.specs.Books.{book_of, BookFilled}
use Rattle.books.specs.Checks.{CheckDone}
use Rattle.books.specs.Laws.ChecksLaws.{check_done_same}

-- Lists that have just some moves have their ranks, for a number that is that of the states.
pub ranks_of_lists : {Move : Moves} {n x : ℕ} {first actions targets : List ℕ} → Lists Move n first actions targets
    → x ≡ n → {table : List ℕ} → Ranks Move n table → Ranks (Listed x first actions targets) x table
ranks_of_lists {first = first} {actions} {targets} l e {table} r =
    subst (λ (y : ℕ). Ranks (Listed y first actions targets) y table) (sym e) record {
      ranks = λ p q lp lq. rank_same l.complete l.sound p q (r.ranks p q lp lq);
      outside = r.outside;
    }

module _ {v : View} {from sources targets : List ℕ} (x : LabelsOf v from sources targets) {n : ℕ}
    (e : n ≡ v.states) where
  pub ranks_of_labels : {table : List ℕ} → Ranks (LabelMove n from sources targets) n table
      → Ranks (WeakMove v) v.states table
  ranks_of_labels {table} h =
      let r = subst (λ (y : ℕ). Ranks (LabelMove y from sources targets) y table) e h in
      record {
        ranks = λ p q lp lq. rank_same (weak_move_of_labels x) (labels_of_weak_move x) p q (r.ranks p q lp lq);
        outside = r.outside;
      }

  pub book_filled_of_labels : {entry exit : List ℕ} → BookFilled (LabelMove n from sources targets) n entry exit
      → BookFilled (WeakMove v) v.states entry exit
  book_filled_of_labels {entry} {exit} h =
      let f = subst (λ (y : ℕ). BookFilled (LabelMove y from sources targets) y entry exit) e h in
      record {
        own = own_book_same (weak_move_of_labels x) (labels_of_weak_move x) v.states state_limit (book_of exit) f.own;
        past = f.past;
      }

  pub check_done_of_labels : {book : List ℕ} {outcome : Outcome}
      → CheckDone (LabelMove n from sources targets) book outcome → CheckDone (WeakMove v) book outcome
  check_done_of_labels {book} {outcome} h =
      check_done_same {M = LabelMove v.states from sources targets} {N = WeakMove v}
      (weak_move_of_labels x) (labels_of_weak_move x)
      (subst (λ (y : ℕ). CheckDone (LabelMove y from sources targets) book outcome) e h)

-- Where there is no silent step.
pub book_filled_of_steps : {s : List ℕ} {m : Model} → Stored s m → ((p q : ℕ) → ¬ (Tick (view m) p q))
    → {entry exit : List ℕ} → BookFilled (LowStep (view m)) m.head.states entry exit
    → BookFilled (WeakMove (view m)) m.head.states entry exit
book_filled_of_steps {m = m} st still {entry} {exit} h = record {
  own = own_book_agree (λ a. a ≡ silent_label) (LowStep (view m)) (WeakMove (view m)) m.head.states
      (low_weak_agree st still) _ _ (low_step_game st) (weak_move_game st) state_limit (book_of exit) h.own;
  past = h.past;
}
