-- Moves that are held as sets have the ranks of the moves that they are held for. Document 02, (vii). Assumes nothing.
use Rattle.std.specs.Prelude.{List, ℕ}
use Rattle.lts.specs.Alike.{Moves}
use Rattle.lts.proofs.AgreeLaws.{rank_same, separated_same}
use Rattle.held.specs.Held.{HeldMove, HeldAs}
use Rattle.ranking.specs.Table.{Ranked}
use Rattle.ranking.specs.Laws.RankedLaws.{ranked-map}

pub ranked_of_held : {Move : Moves} {labels slots pool : List ℕ} {count : ℕ} → HeldAs Move labels count slots pool
    → {n : ℕ} {entry exit : List ℕ} {last : ℕ} → Ranked (HeldMove labels count slots pool) n entry exit last
    → Ranked Move n entry exit last
ranked_of_held h = ranked-map
    (λ p q k _ _. (rank_same h.sound h.complete p q, rank_same h.complete h.sound p q))
    (λ p q k _ _. separated_same h.sound h.complete p q k)
