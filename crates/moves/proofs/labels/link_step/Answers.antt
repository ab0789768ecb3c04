-- The label of the step is that of its action, and by it the step comes before the later ones.
use Rattle.std.proofs.Common.{ℕ, arith, subst}
use Rattle.model.specs.Inner.ModelOf.{model_of}
use Rattle.moves.specs.Inner.Labelling.{ActionLabel, OnlyLabel}
use Rattle.moves.specs.Laws.LinkedLaws.{linked_step, linked_skip}
use Rattle.moves.proofs.labels.link_step.Goals as goal

pub returns-in-Some : goal.returns-in-Some
returns-in-Some c =
    let m = model_of c.args.store.store in
    let F = c.args.store.store.stored in
    let label = c.in-Some.label in
    let j = c.requires.j_in_bounds.0 in
    let one = c.in-Some.ensures in
    let e = c.from-of.ensures in
    rw (c.from-of.ensures, c.from.ensures)
    (linked_step j (subst (λ (a : ℕ). OnlyLabel (λ l. ActionLabel m l a) label) c.action-a.ensures one.1)
    (omega (arith, one.0)) (omega (arith, F.steps_le)) c.requires.j_in_bounds.1)

pub returns-in_default : goal.returns-in_default
returns-in_default c =
    let m = model_of c.args.store.store in
    let none = c.in_default.ensures in
    linked_skip (λ l. subst (λ (a : ℕ). ¬ (ActionLabel m l a)) c.action-a.ensures (none l)) c.requires.j_in_bounds.1
