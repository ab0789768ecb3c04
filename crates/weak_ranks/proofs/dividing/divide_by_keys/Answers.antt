-- The classes of the states below p are divided.
use Rattle.std.proofs.Common.{◌≡◌, subst, ℕ, ◌<◌, arith, rules, length}
use Rattle.text.specs.Limits.{state_limit}
use Rattle.text.specs.Laws.ListLaws.{get_or-zeros}
use Rattle.weak_ranks.specs.Inner.Dividing.{DividedUpTo, AtState}
use Rattle.weak_ranks.specs.Laws.DividingLaws.{divided-zero, divided_by}
use Rattle.weak_ranks.specs.Laws.LeadLaws.{divided_own, at_state}
use Rattle.weak_ranks.proofs.dividing.divide_by_keys.Goals as goal
use Rattle.weak_ranks.proofs.dividing.divide_by_keys.Goals.{then-ne, else-ne}
use Rattle.weak_ranks.proofs.dividing.divide_by_keys.Goals.{After-class_at-c}

-- p does not lead its class.
here : (c : After-class_at-c) → ¬ (c.class_at-c.result.0 ≡ c.loop-p.p)
    → AtState c.args.keys.now c.args.class.now c.loop-p.class
    c.loop-p.link c.loop-p.p c.class_at-c.result.0
here c d =
    at_state c.requires.1 c.loop-p-test.true c.loop-p.invariant
    c.class_at-c.ensures d

pub loop-p-init : goal.loop-p-init
loop-p-init c = divided-zero (get_or-zeros state_limit)

pub loop-p-preserved : goal.loop-p-preserved
loop-p-preserved c =
    let inv = c.loop-p.invariant in
    elim c.if-ne.branch [
      | then-ne w ↦
          let fits : c.loop-p.p < length c.loop-p.class = omega arith in
          let found = w.find_lead-lead.ensures.found c.args.class.now c.loop-p.class
          (here (goal.at.loop-p-preserved c).After-class_at-c (search rules)) fits in
          rw (w.class-is, w.link-is) found
      | else-ne w ↦ rw (w.class-is, w.link-is)
          (divided_own c.requires.1 c.loop-p-test.true inv
          c.class_at-c.ensures (search rules))
    ]

pub returns-clause-divided_by : goal.returns-clause-divided_by
returns-clause-divided_by c =
    let a = c.args in
    let e : c.loop-p.p ≡ a.n = omega arith in
    let D : DividedUpTo a.keys.now a.class.now c.loop-p.class c.loop-p.link a.n =
    subst (λ (x : ℕ). DividedUpTo a.keys.now a.class.now c.loop-p.class c.loop-p.link x) e
    c.loop-p.invariant in
    divided_by D
