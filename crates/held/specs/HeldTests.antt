-- The tests of held moves, and one round of the game with them. Document 02, (vii). Assumes nothing.
use Rattle.std.specs.Prelude.{Bool, ◌&&◌, List, ℕ, ◌+◌, ◌*◌, ◌/◌, ◌%◌, ◌^◌, ltb, eqb, get_or}
use Rattle.lts.specs.Tests.{any}
use Rattle.lts.specs.Decided.{answers?}
use Rattle.lts.specs.Weak.{silent_label}
use Rattle.text.specs.Limits.{state_limit}
use Rattle.sets.specs.Inner.Sets.{word_bits}
use Rattle.held.specs.Held.{slot_place, target_row}

-- The test of `Member`.
abbrev pub member? : List ℕ → ℕ → ℕ → Bool
member? sets k x = ltb x state_limit && eqb (get_or sets (2 * k + x / word_bits) 0 / 2 ^ (x % word_bits) % 2) 1

-- The label a is one of the list.
abbrev pub label_in? : List ℕ → ℕ → ℕ → Bool
label_in? labels count a = any count (λ i. eqb (get_or labels i 0) a)

-- The test of `HeldMove`.
abbrev pub held_move? : List ℕ → ℕ → List ℕ → List ℕ → ℕ → ℕ → ℕ → Bool
held_move? labels count slots pool p a q =
    ltb p state_limit && (label_in? labels count a && member? pool (get_or slots (slot_place (target_row a) p) 0) q)

-- All labels are below it: the silent one is the greatest.
abbrev pub label_limit : ℕ
label_limit = silent_label + 1

-- One round of the game with the held moves.
abbrev pub held_round : ℕ → List ℕ → ℕ → List ℕ → List ℕ → (ℕ → ℕ → Bool) → ℕ → ℕ → Bool
held_round n labels count slots pool = answers? n label_limit (held_move? labels count slots pool)
