-- Labels are small. Assumes nothing.
use Rattle.std.specs.Prelude.{◌⊎◌, ◌≡◌, ℕ, ◌<◌}
use Rattle.std.proofs.Common.{inl, inr, arith}
use Rattle.lts.specs.Weak.{silent_label}
use Rattle.text.specs.Limits.{action_limit}
use Rattle.held.specs.HeldTests.{label_limit}

pub label_lt : {a : ℕ} → (a < action_limit) ⊎ (a ≡ silent_label) → a < label_limit
label_lt (inl l) = omega (arith, l)
label_lt (inr e) = omega (arith, e)
