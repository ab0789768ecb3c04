-- The places from `from` up to `to`, where those are the bounds of a group, are the moves of its state and action.
-- Assumes nothing.
use Rattle.std.specs.Prelude.{List, ◌≡◌, ℕ, ◌+◌, ◌≤◌, ◌<◌, get_or}
use Rattle.std.proofs.Common.{subst, arith}
use Rattle.text.specs.Limits.{state_limit, action_limit, step_limit, group_place}
use Rattle.books.specs.Inner.Groups.{Indexed, Groups}

module _ (groups targets : List ℕ) {p a to : ℕ} (lp : p < state_limit) (la : a < action_limit)
    (to_is : to ≡ get_or groups (group_place p a + 1) 0) where
  pub in_group_to_le : Groups groups targets → to ≤ step_limit
  in_group_to_le R = omega (arith, R.place_le (group_place p a + 1) (omega arith))

  pub in_group_target_lt : Groups groups targets → (i : ℕ) → i < to → get_or targets i 0 < state_limit
  in_group_target_lt R i l = R.target_lt (group_place p a + 1) i (omega arith) (omega arith)

  module _ {from : ℕ} (from_is : from ≡ get_or groups (group_place p a) 0) where
    pub indexed_at : {i q : ℕ} → from ≤ i → i < to → get_or targets i 0 ≡ q → Indexed groups targets p a q
    indexed_at {i} {q} lf lt e = record {
      place = i;
      in_group = record { state_lt = lp; action_lt = la; from_le = omega arith; to_lt = omega arith };
      target_is = e;
    }

    -- What holds of the target at each place holds of the target of each move.
    pub indexed_each : (P : ℕ → Type 0) → ((i : ℕ) → i < to → from ≤ i → P (get_or targets i 0)) → (q : ℕ)
        → Indexed groups targets p a q → P q
    indexed_each P h q m =
        let r = m.in_group in
        subst P m.target_is (h m.place (omega (arith, r.to_lt)) (omega (arith, r.from_le)))

pub indexed-target_lt : {groups targets : List ℕ} {p a q : ℕ} → Groups groups targets → Indexed groups targets p a q
    → q < state_limit
indexed-target_lt {groups} {targets} {p} {a} {q} R m =
    let r = m.in_group in
    subst (λ (x : ℕ). x < state_limit) m.target_is
    (R.target_lt (group_place p a + 1) m.place (omega (arith, r.state_lt, r.action_lt)) r.to_lt)
