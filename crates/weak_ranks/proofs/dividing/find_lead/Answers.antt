-- The leads below r, of the class of p, have other keys.
use Rattle.std.proofs.Common.{List, sym, subst, ◌≡◌, ℕ, ◌<◌, arith, set}
use Rattle.sets.specs.Inner.Sets.{SameSet}
use Rattle.std.proofs.lemmas.Bool.Decides.{nat_tests}
use Rattle.sets.specs.Laws.SetValuesLaws.{same_set_of_values, values_of_same_set}
use Rattle.sets.specs.Laws.SetValuesLaws.{set_of_refl, set_of_same-words, word_of_set_of}
use Rattle.weak_ranks.specs.Inner.Dividing.{Dividing, LeadFound}
use Rattle.weak_ranks.specs.Laws.LeadLaws.{sought_next, sought_lt, sought_gt}
use Rattle.weak_ranks.specs.Laws.LeadLaws.{lead_found_follows, lead_found_after}
use Rattle.weak_ranks.proofs.dividing.find_lead.Goals as goal
use Rattle.weak_ranks.proofs.dividing.find_lead.Goals.{At-loop-p, Else-eq}

-- The links are as they were.
dividing : (c : At-loop-p)
    → Dividing c.args.keys.now c.loop-p.link c.args.p.0 c.args.from.0
dividing c =
    let a = c.args in
    subst (λ (l : List ℕ). Dividing a.keys.now l a.p.0 a.from.0) (sym c.loop-p.invariant.0) c.requires.1

below : (c : At-loop-p) → c.loop-p.r < c.args.p.0
below c = sought_lt c.loop-p.invariant.1 (dividing c)

-- r has another key.
other : (c : Else-eq)
    → ¬ (SameSet c.args.keys.now c.loop-p.r
    c.args.p.0)
other c =
    let a = c.set_at.result in
    let b = c.set_at-key.result in
    λ s.
    let v = values_of_same_set c.set_at.ensures c.set_at-key.ensures s in
    let low : a.0 ≡ b.0 = word_of_set_of 0 (omega arith) (omega arith) (omega arith) v in
    let high : a.1 ≡ b.1 = word_of_set_of 1 (omega arith) (omega arith) (omega arith) v in
    grind (arith, nat_tests, low, high)

pub returns-then-eq : goal.returns-then-eq
returns-then-eq c =
    let a = c.args in
    let low : c.set_at.result.0 ≡ c.set_at-key.result.0 = grind (arith, nat_tests) in
    let high : c.set_at.result.1 ≡ c.set_at-key.result.1 = grind (arith, nat_tests) in
    let same = same_set_of_values c.set_at.ensures c.set_at-key.ensures
    (set_of_same-words low high set_of_refl) in
    subst (λ (l : List ℕ). LeadFound a.keys.now l c.loop-p.link a.p.0 a.from.0 c.loop-p.r)
    c.loop-p.invariant.0 (lead_found_follows c.loop-p.invariant.1 same)

pub returns-then-s-eq0 : goal.returns-then-s-eq0
returns-then-s-eq0 c =
    let a = c.args in
    let r = c.loop-p.r in
    let link = c.loop-p.link in
    subst (λ (l : List ℕ). LeadFound a.keys.now l (set link r a.p.0) a.p.0 a.from.0 a.p.0)
    c.loop-p.invariant.0
    (lead_found_after c.loop-p.invariant.1 (other (goal.at.returns-then-s-eq0 c).Else-eq) c.if-s-eq0.true
    (omega (arith, below (goal.at.returns-then-s-eq0 c).At-loop-p, c.requires.0)))

pub loop-p-smaller : goal.loop-p-smaller
loop-p-smaller c =
    omega (
      arith,
      below (goal.at.loop-p-smaller c).At-loop-p,
      sought_gt c.loop-p.invariant.1
          (dividing (goal.at.loop-p-smaller c).At-loop-p) (omega arith),
    )

pub loop-p-preserved : goal.loop-p-preserved
loop-p-preserved c = (
  c.loop-p.invariant.0,
  sought_next c.loop-p.invariant.1 (other (goal.at.loop-p-preserved c).Else-eq)
      (omega arith),
)
