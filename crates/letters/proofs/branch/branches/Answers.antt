-- Each number that is read of the two steps says its part of what it is to branch.
use Rattle.std.proofs.Common.{◌≡◌, refl, ap, sym, ◌∙◌, arith}
use Rattle.std.proofs.lemmas.Bool.{eqb-true}
use Rattle.text.specs.declared.Action.{Action}
use Rattle.text.specs.declared.State.{State}
use Rattle.model.specs.Laws.System.StoredLaws.{stored_source, stored_action}
use Rattle.distances.specs.Laws.DistancesLaws.{list_reachable, list_unreachable}
use Rattle.letters.specs.Laws.LettersLaws.{decides_not}
use Rattle.letters.specs.Laws.WordsLaws.{branches_reachable, branches_of}
use Rattle.letters.proofs.branch.branches.Goals as goal
use Rattle.letters.proofs.branch.branches.Goals.{then-eq, else-eq}

pub returns-then-eq-2 : goal.returns-then-eq-2
returns-then-eq-2 c =
    let j = c.requires.j_nonzero in
    let st = c.requires.stored in
    let e = ap (λ (y : State). y.0) c.source.ensures ∙ stored_source st _ (omega (arith, j.0, j.1)) in
    let f = ap (λ (y : State). y.0) c.source-q.ensures ∙ stored_source st _ j.1 in
    let list = c.requires.distances_length_in_bounds.1 in
    elim c.if-eq.branch [
      | then-eq w ↦
          let d = ap (λ (y : Action). y.0) w.action.ensures ∙ stored_action st _ (omega (arith, j.0, j.1)) in
          let h = ap (λ (y : Action). y.0) w.action-then-eq.ensures ∙ stored_action st _ j.1 in
          let p : c.source.result.0 ≡ c.source-q.result.0 = eqb-true _ _ (sym c.eq.ensures ∙ w.if-eq.true) in
          let a : w.action.result.0 ≡ w.action-then-eq.result.0 =
          eqb-true _ _ (sym w.eq-then-eq.ensures ∙ sym w.value-is ∙ c.if-eq-2.true) in
          decides_not _
          (λ r. branches_of refl e f j.0 j.1 p d h a (list_reachable st list (omega (arith, f, st.source_lt _ j.1)) r))
          (λ u x. list_unreachable st list u (branches_reachable refl e f x)) c.is_unreachable.ensures
      | else-eq w ↦ absurd cc
    ]
