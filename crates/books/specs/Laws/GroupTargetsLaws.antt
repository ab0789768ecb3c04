-- The part of the targets between the bounds of a group are those of the moves of its state and action. What holds of
-- each of them holds of the target of each such move. Assumes nothing.
use Rattle.std.specs.Prelude.{List, ◌≡◌, ℕ, ◌+◌, ◌-◌, ◌≤◌, ◌<◌, length, get_or, take, drop}
use Rattle.std.proofs.Common.{sym, ap, ◌∙◌, subst, arith}
use Rattle.std.proofs.lemmas.List.{get_or-take, get_or-drop, length-take-le, length-drop}
use Rattle.text.specs.Limits.{state_limit, action_limit, step_limit, group_place}
use Rattle.books.specs.Inner.Groups.{Indexed, Groups, GroupTargets}

-- Where a group ends before it begins, no move is in it.
pub group_targets_nil : {groups targets xs : List ℕ} {p a from to : ℕ} → from ≡ get_or groups (group_place p a) 0
    → to ≡ get_or groups (group_place p a + 1) 0 → to < from → length xs ≡ 0 → GroupTargets groups targets p a xs
group_targets_nil from_is to_is l e = record {
  sound = λ i k. absurd (omega arith);
  complete = λ q m. absurd (omega (arith, from_is, to_is, m.in_group.from_le, m.in_group.to_lt));
  target_lt = λ i k. absurd (omega arith);
}

module _ {targets groups : List ℕ} (R : Groups groups targets) {p a from to : ℕ} (lp : p < state_limit)
    (la : a < action_limit) (from_is : from ≡ get_or groups (group_place p a) 0)
    (to_is : to ≡ get_or groups (group_place p a + 1) 0) where
  pub to_le : to ≤ step_limit
  to_le = omega (arith, to_is, R.place_le (group_place p a + 1) (omega arith))

  module _ (bounds_le : from ≤ to) (long : step_limit ≤ length targets) where
    abbrev part : List ℕ
    part = take (to - from) (drop from targets)

    part_length : length part ≡ to - from
    part_length = length-take-le (to - from) (drop from targets)
        (omega (arith, bounds_le, to_le, long, length-drop from targets))

    part_at : (i : ℕ) → i < to - from → get_or part i 0 ≡ get_or targets (from + i) 0
    part_at i l = get_or-take (to - from) (drop from targets) i 0 l ∙ get_or-drop from targets i 0

    pub group_targets_of_part : GroupTargets groups targets p a part
    group_targets_of_part = record {
      sound = λ i l. record {
        place = from + i;
        in_group = record {
          state_lt = lp;
          action_lt = la;
          from_le = omega (arith, from_is);
          to_lt = omega (arith, to_is, l, part_length);
        };
        target_is = sym (part_at i (omega (arith, l, part_length)));
      };
      complete = λ q m.
          let g = m.in_group in
          let i = m.place - from in
          let lf : from ≤ m.place = omega (arith, from_is, g.from_le) in
          let li : i < to - from = omega (arith, to_is, g.to_lt, lf) in
          let back : from + i ≡ m.place = omega (arith, lf) in (
            i,
            omega (arith, li, part_length),
            part_at i li ∙ ap (λ (x : ℕ). get_or targets x 0) back ∙ m.target_is,
          );
      target_lt = λ i l.
          subst (λ (x : ℕ). x < state_limit) (sym (part_at i (omega (arith, l, part_length))))
          (R.target_lt (group_place p a + 1) (from + i) (omega arith)
          (omega (arith, to_is, l, part_length)));
    }

-- What holds of each target in the list holds of the target of each move.
pub group_targets_each : {groups targets xs : List ℕ} {p a : ℕ} (P : ℕ → Type 0) → GroupTargets groups targets p a xs
    → ((i : ℕ) → i < length xs → P (get_or xs i 0)) → (q : ℕ) → Indexed groups targets p a q → P q
group_targets_each P g h q m = let c = g.complete q m in subst P c.2 (h c.0 c.1)
