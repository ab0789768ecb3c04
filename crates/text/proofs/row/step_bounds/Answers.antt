-- `step_bounds` gives element i of `step_bounds`: number 1, or one of the two others, which have the same bounds.
use Rattle.std.proofs.Common.{◌≡◌, refl, ◌∙◌, ℕ, zero, suc, ◌<◌, arith, get_or}
use Rattle.text.specs.declared.Head.{Head}
use Rattle.text.specs.Numbers.{below}
use Rattle.text.specs.Lines.{step_bounds}
use Rattle.text.proofs.row.step_bounds.Goals as goal
use Rattle.text.proofs.row.step_bounds.Goals.{then-i-eq1, else-i-eq1}

state_bounds : (h : Head) (i : ℕ) → i < 3 → (i ≡ 1 → ⊥) → below h.states ≡ get_or (step_bounds h) i (below 0)
unfolding step_bounds
state_bounds h zero l ne = refl
state_bounds h (suc zero) l ne = absurd (ne refl)
state_bounds h (suc (suc zero)) l ne = refl
state_bounds h (suc (suc (suc i))) l ne = absurd (omega arith)

pub returns : goal.returns
unfolding step_bounds
returns c = c.below.ensures ∙ elim c.if-i-eq1.branch [
  | then-i-eq1 w ↦ rw (w.below-is, w.if-i-eq1.true)
  | else-i-eq1 w ↦ rw w.below-is (state_bounds c.args.head c.args.i c.requires w.if-i-eq1.false)
]
