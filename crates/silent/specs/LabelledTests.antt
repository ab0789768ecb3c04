-- The tests of steps by label, and one round of the game with the moves made of them. Document 02, (vii). Assumes
-- nothing.
use Rattle.std.specs.Prelude.{Bool, ◌&&◌, List, ℕ, ◌+◌, leb, ltb, eqb, get_or}
use Rattle.lts.specs.Tests.{any}
use Rattle.lts.specs.Decided.{answers?}
use Rattle.lts.specs.WeakTests.{weak?}
use Rattle.text.specs.Limits.{action_limit}

-- The step at place i is one with the label a from p to q.
abbrev pub step_at? : List ℕ → List ℕ → List ℕ → ℕ → ℕ → ℕ → ℕ → Bool
step_at? from sources targets a p q i = leb (get_or from a 0) i &&
    (eqb (get_or sources i 0) p && eqb (get_or targets i 0) q)

-- The test of `LabelStep`.
abbrev pub label_step? : List ℕ → List ℕ → List ℕ → ℕ → ℕ → ℕ → Bool
label_step? from sources targets a p q = any (get_or from (a + 1) 0) (step_at? from sources targets a p q)

-- The tests of `LowLabel` and `TickLabel`.
abbrev pub low_label? : List ℕ → List ℕ → List ℕ → ℕ → ℕ → ℕ → Bool
low_label? from sources targets p a q = ltb a action_limit && label_step? from sources targets a p q

abbrev pub tick_label? : List ℕ → List ℕ → List ℕ → ℕ → ℕ → Bool
tick_label? from sources targets = label_step? from sources targets action_limit

-- One round of the game with the moves that are played: labels are bytes.
abbrev pub label_round : ℕ → List ℕ → List ℕ → List ℕ → (ℕ → ℕ → Bool) → ℕ → ℕ → Bool
label_round n from sources targets =
    answers? n 256 (weak? n (low_label? from sources targets) (tick_label? from sources targets))
