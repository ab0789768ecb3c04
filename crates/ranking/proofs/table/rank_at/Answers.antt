-- The place is the pair's, so the entry read is the pair's.
use mathlib.Core.Path.{ap}
use Prim.Native.Nat.{ℕ}
use lib.ListN.{get_or}
use Rattle.ranking.proofs.table.rank_at.Goals as goal

pub returns : goal.returns
returns c =
    let table = c.args.table.now in
    ap (λ (i : ℕ). get_or table i 0) c.pair_place-at.ensures
