-- Check's promise pins its answer.
-- Document 02, (v). Assumes nothing.
use Rattle.std.specs.Prelude.{List, ◌≡◌, ℕ}
use Rattle.text.specs.Faults.{Outcome}
use Rattle.model.proofs.Laws.OnStoreLaws.{on_store_unique}
use Rattle.books.specs.Laws.ChecksLaws.{check_done_unique}
use Rattle.judge.specs.CheckPromise.{CheckPromise}

pub check_promise_unique : (store book : List ℕ) (outcome outcome' : Outcome) → CheckPromise store book outcome
    → CheckPromise store book outcome' → outcome ≡ outcome'
check_promise_unique store book outcome outcome' x y =
    (on_store_unique (λ a b. tt {0}) (λ g a b. (check_done_unique a b, tt {0})) x y).0
