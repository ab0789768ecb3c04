-- Openings with one label, over the targets that each state has under it. Only the contracts of inner functions cite
-- it.
use Rattle.std.specs.Prelude.{ℕ, ◌≤◌, ◌<◌, Option, Some, None}
use Rattle.lts.specs.Alike.{Relation}
use Rattle.text.specs.Limits.{state_limit}
use Rattle.text.specs.declared.State.{State}
use Rattle.sets.specs.Inner.SetValues.{In}
use Rattle.sets.specs.declared.set.Set.{Set}

-- No number is in the relation to itself.
abbrev pub Irreflexive : Relation → Type 0
Irreflexive Leads = (t : ℕ) → ¬ (Leads t t)

-- p opens against q to its target t: each target of q leads, beside t, to what Leads holds of.
pub record OpensTo (Target Leads : Relation) (p q t : ℕ) : Type 0 where
  pub opening : Target p t
  pub answers : (u : ℕ) → Target q u → Leads t u

-- The lowest such target is t; t is 128 if there is none.
pub record LowestTo (Target Leads : Relation) (p q t : ℕ) : Type 0 where
  pub lowest_le : t ≤ state_limit
  pub none_before : (u : ℕ) → u < t → ¬ (OpensTo Target Leads p q u)
  pub opens : t < state_limit → OpensTo Target Leads p q t

-- The same of a target, if there is one.
abbrev pub LowestOf : Relation → Relation → ℕ → ℕ → Option State → Type 0
LowestOf Target Leads p q None = LowestTo Target Leads p q state_limit
LowestOf Target Leads p q (Some t) = (t.0 < state_limit) × LowestTo Target Leads p q t.0

-- Of the targets `all`, those that are not left have an answer beside which Leads does not hold.
pub record Tried (Leads : Relation) (answers all left : Set) : Type 0 where
  pub left_in : (t : ℕ) → In left t → In all t
  pub gone : (t : ℕ) → In all t → ¬ (In left t) → ¬ ((u : ℕ) → In answers u → Leads t u)
