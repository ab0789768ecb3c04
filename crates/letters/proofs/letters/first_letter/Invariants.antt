-- No step of p before j has an answer, and some step has: steps rise by action, so the first has the lowest action.
use Rattle.std.proofs.Common.{◌≡◌, ℕ, ◌≤◌, ◌<◌, get_or, ◌+◌}
use Rattle.model.specs.StoredModel.{model_at}
use Rattle.letters.specs.Inner.Letters.{HasAnswer}
use Rattle.letters.proofs.letters.first_letter.Given as goal

abbrev pub invariant-loop-j : goal.invariant-loop-j
invariant-loop-j l =
    (l.j-iterator.end ≡ get_or l.begins (l.fn.p.0 + 1) 0) × (get_or l.begins l.fn.p.0 0 ≤ l.j-iterator.start)
    × ((i : ℕ) → i < l.j-iterator.start → ¬ (HasAnswer (model_at l.store) l.fn.p.0 l.q.0 l.k i))
