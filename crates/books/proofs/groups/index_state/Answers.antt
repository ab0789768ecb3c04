-- The groups up to those of the moves before place i are there; those places are the moves of p.
use Rattle.std.proofs.Common.{◌≡◌, refl, sym, ◌∙◌, subst, arith}
use Rattle.books.specs.Inner.Groups.{IndexedTo}
use Rattle.books.specs.Laws.GroupsLaws.{place_of_between, place_of_action_lt, indexed_to_add_one}
use Rattle.books.proofs.groups.index_state.Goals as goal

pub loop-i-init : goal.loop-i-init
loop-i-init c = (subst (IndexedTo _ _ _ _ _) (sym c.moves_from-i.ensures) c.requires.indexed_to, refl)

pub group_place-group-requires : goal.group_place-group-requires
group_place-group-requires c =
    let L = c.args.listed.now.listed in
    let lp = c.requires.p_lt_n.0 in (
      omega (arith, L.states_le, lp),
      place_of_action_lt L (place_of_between lp c.moves_from-i.ensures c.moves_to-i-end.ensures c.loop-i.auto.i
          c.loop-i-test.true),
    )

pub give-k-requires : goal.give-k-requires
give-k-requires c =
    omega (arith, c.group_place-group.ensures.1, c.requires.p_lt_n.1, c.loop-i.invariant.1)

pub loop-i-preserved : goal.loop-i-preserved
loop-i-preserved c =
    let moves = c.args.listed.now in
    let place = place_of_between c.requires.p_lt_n.0 c.moves_from-i.ensures c.moves_to-i-end.ensures c.loop-i.auto.i
    c.loop-i-test.true in (
      indexed_to_add_one moves.listed moves.ordered place c.group_place-group.ensures.0 c.loop-i.invariant.0
          c.give-k.ensures,
      c.give-k.auto.groups ∙ c.loop-i.invariant.1,
    )

pub returns : goal.returns
returns c =
    let rise = c.args.listed.now.listed.rising c.args.p.0 c.requires.p_lt_n.0 in
    let e : c.loop-i.i ≡ c.moves_to-i-end.result = omega arith in
    subst (IndexedTo _ _ _ _ _) (e ∙ c.moves_to-i-end.ensures) c.loop-i.invariant.0
