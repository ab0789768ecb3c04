-- Rank's promise pins its answer and each byte of the table.
-- Document 01, operation 3. Assumes nothing.
use Rattle.std.specs.Prelude.{List, [], ◌∷◌, ◌≡◌, ℕ}
use Rattle.std.proofs.Common.{sym, ap, ◌∙◌}
use Rattle.text.specs.Faults.{Outcome, answers}
use Rattle.model.proofs.Laws.OnStoreLaws.{on_store_unique}
use Rattle.judge.specs.RankPromise.{RankPromise}
use Rattle.ranking.specs.Laws.RankedLaws.{ranked_unique}
use Rattle.model.specs.System.{view}
use Rattle.lts.specs.Weak.{WeakMove}

pub rank_promise_unique : (store table : List ℕ) (outcome outcome' : Outcome) (exit exit' : List ℕ)
    → RankPromise store table outcome exit → RankPromise store table outcome' exit'
    → (outcome ≡ outcome') × (exit ≡ exit')
rank_promise_unique store table outcome outcome' exit exit' =
    on_store_unique (λ a b. a ∙ sym b) (λ g a b.
    let e = ranked_unique (WeakMove (view g.model)) g.model.head.states table exit exit' a.0 b.0 a.2
    b.2 in
    (a.1 ∙ ap (λ (k : ℕ). answers (k ∷ [])) e.0 ∙ sym b.1, e.1))
