-- Where all low steps are held, they are just the moves that are held. Document 02, (vii). Assumes nothing.
use Rattle.std.specs.Prelude.{List, ◌≡◌, ℕ, ◌<◌, length, get_or}
use Rattle.std.proofs.Common.{inl, sym, subst, arith}
use Rattle.lts.specs.Alike.{Moves}
use Rattle.lts.specs.Weak.{LowStep}
use Rattle.text.specs.Limits.{action_limit}
use Rattle.text.specs.Model.{Model}
use Rattle.model.specs.System.{view}
use Rattle.model.specs.Inner.Stored.{Stored}
use Rattle.ranking.specs.Table.{Ranked}
use Rattle.held.specs.Held.{HeldList, HeldAs}
use Rattle.held.specs.Inner.Slots.{Separate}
use Rattle.moves.specs.Inner.Holding.{LowLabels, LowBefore, LowHeld}

-- ---- all steps are held

module _ {m : Model} {a p q : ℕ} where
  low_step_of_before : LowBefore m (length m.steps) a p q → LowStep (view m) p a q
  low_step_of_before x = (
    x.holds.low_as.is_low,
    record {
      number = x.number;
      number_lt = x.to_lt;
      source_is = x.holds.source_is;
      action_is = x.holds.low_as.action_is;
      target_is = x.holds.low_as.target_is;
    },
  )

  before_of_low_step : LowStep (view m) p a q → LowBefore m (length m.steps) a p q
  before_of_low_step (t, x) = record {
    number = x.number;
    from_le = omega arith;
    to_lt = x.number_lt;
    holds = record {
      low_as = record { is_low = t; action_is = x.action_is; target_is = x.target_is };
      source_is = x.source_is;
    };
  }

module _ {s : List ℕ} {m : Model} (st : Stored s m) {labels slots pool : List ℕ} {count to : ℕ}
    (L : LowLabels m m.head.actions labels count) (H : LowHeld m to slots pool) (e : to ≡ length m.steps) where
  all : LowHeld m (length m.steps) slots pool
  all = subst (λ (k : ℕ). LowHeld m k slots pool) e H

  label_lt : (i : ℕ) → i < count → get_or labels i 0 < action_limit
  label_lt i l = omega (arith, L.label_lt i l, st.actions_le)

  pub held_list_of_low : {used : ℕ} → Separate used slots pool → HeldList m.head.states labels count slots pool
  held_list_of_low S = record {
    some_state = st.states_pos;
    states_le = st.states_le;
    count_le = omega (arith, L.count_le, st.actions_le);
    label = λ i l. inl (label_lt i l);
    rising = L.rising;
    slot_lt = λ i. omega (arith, S.pooled.slot_lt i, S.pooled.used_le);
    none = S.pooled.none;
    occupied = S.pooled.occupied;
    state_lt = λ i p q l lp h.
        let x = all.target_only _ p q (label_lt i l) lp h in (
          omega (arith, x.holds.source_is, st.source_lt x.number x.to_lt),
          omega (arith, x.holds.low_as.target_is, st.target_lt x.number x.to_lt),
        );
    turned = λ i l. record {
      there = λ p q lp h. all.source _ p q (all.target_only _ p q (label_lt i l) lp h);
      again = λ p q lq h. all.target _ p q (all.source_only _ p q (label_lt i l) lq h);
    };
  }

  pub held_as_of_low : HeldAs (LowStep (view m)) labels count slots pool
  held_as_of_low = record {
    sound = λ p a q x.
        let l : a < action_limit = omega (arith, x.label_is, label_lt x.number x.number_lt) in
        low_step_of_before (all.target_only a p q l x.source_lt x.held);
    complete = λ p a q x.
        let y = before_of_low_step x in
        let l : a < m.head.actions =
        omega (arith, y.holds.low_as.action_is, st.action_lt y.number y.to_lt) in
        let z = L.listed a l y.holds.low_as.is_low in
        record {
          source_lt = omega (arith, y.holds.source_is, st.source_lt y.number y.to_lt, st.states_le);
          number = z.0;
          number_lt = z.1;
          label_is = z.2;
          held = all.target a p q y;
        };
  }

-- ---- for a number that is that of the states

pub held_list_at : {n x : ℕ} {labels slots pool : List ℕ} {count : ℕ} → x ≡ n → HeldList n labels count slots pool
    → HeldList x labels count slots pool
held_list_at {labels = labels} {slots} {pool} {count} e =
    subst (λ (y : ℕ). HeldList y labels count slots pool) (sym e)

pub ranked_at : {Move : Moves} {n x : ℕ} → x ≡ n → {entry exit : List ℕ} {last : ℕ} → Ranked Move x entry exit last
    → Ranked Move n entry exit last
ranked_at {Move} e {entry} {exit} {last} = subst (λ (y : ℕ). Ranked Move y entry exit last) e
