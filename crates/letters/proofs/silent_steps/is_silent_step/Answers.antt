-- The role of its action says whether step j is silent, and the distance of its source whether it can be reached.
use Rattle.std.proofs.Common.{sym, ap, ◌∙◌, arith}
use Rattle.text.specs.declared.State.{State}
use Rattle.text.specs.declared.Action.{Action}
use Rattle.model.specs.Laws.System.StoredLaws.{stored_source, stored_action}
use Rattle.distances.specs.Laws.DistancesLaws.{list_reachable, list_unreachable}
use Rattle.letters.specs.Laws.FirstSilentLaws.{reachable_at, silent_step_of}
use Rattle.letters.specs.Laws.LettersLaws.{decides_not}
use Rattle.letters.proofs.silent_steps.is_silent_step.Goals as goal

pub returns-then-is_silent : goal.returns-then-is_silent
returns-then-is_silent c =
    let st = c.requires.stored in
    let l = c.requires.j_in_bounds in
    let list = c.requires.distances_length_in_bounds.1 in
    let e = ap (λ (y : Action). y.0) c.action.ensures ∙ stored_action st _ l in
    let f = ap (λ (y : State). y.0) c.source.ensures ∙ stored_source st _ l in
    decides_not _
    (λ r. silent_step_of st c.requires.roles_of.roles_are e l c.if-is_silent.ensures f
    (list_reachable st list (omega (arith, f, st.source_lt _ l)) r))
    (λ u x. list_unreachable st list u (reachable_at (sym f) x.reachable)) c.is_unreachable.ensures
