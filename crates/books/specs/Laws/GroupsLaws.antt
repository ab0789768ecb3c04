-- The number of a move's group does not fall from place to place, so place by place the groups are parted, and at the
-- end they are those of the listed moves. Assumes nothing.
use Rattle.std.specs.Prelude.{List, ◌⊎◌, ◌≡◌, refl, ℕ, zero, suc, ◌+◌, ◌≤◌, ◌<◌, length, get_or, set}
use Rattle.std.proofs.Common.{inl, inr, ⊎_elim, sym, ap, ◌∙◌, subst, add-one, arith, get_or-set_same, get_or-set_other}
use Rattle.lts.proofs.TestsLaws.{lt_or_le, eq_or_not, le_of_not_lt}
use Rattle.text.specs.Limits.{state_limit, action_limit, group_place, groups_length}
use Rattle.by_state.specs.MoveList.{Listed, MoveList, Ordered}
use Rattle.by_state.specs.Laws.MoveListLaws.{rising_le, place_lt_last, listed_decided}
use Rattle.books.specs.Inner.Groups.{Indexed, Groups, IndexOf, PlaceOf, GroupAt, GroupsAt, IndexedTo, Given}

-- ---- giving places a value

pub given-nil : {from value : ℕ} (t : List ℕ) → Given from from value from t t
given-nil t = record {
  from_le = omega arith;
  to_le = omega arith;
  no_further = λ i l k. k;
  value_is = λ i l k. absurd (omega arith);
  kept = λ i l. refl;
}

pub given_add_one : {from value k : ℕ} {t u : List ℕ} → k < length u → Given from k value k t u
    → Given from (k + 1) value (k + 1) t (set u k value)
given_add_one {from} {value} {k} {t} {u} l x = record {
  from_le = omega (arith, x.from_le);
  to_le = omega arith;
  no_further = λ i h m. m;
  value_is = λ i h m. value_is i h m (eq_or_not i k);
  kept = λ i h. get_or-set_other u k i value 0 (λ e. omega (arith, x.from_le)) ∙ x.kept i h;
}
  where
    value_is : (i : ℕ) → from ≤ i → i < k + 1 → (i ≡ k) ⊎ ¬ (i ≡ k) → get_or (set u k value) i 0 ≡ value
    value_is i h m (inl e) = ap (λ (j : ℕ). get_or (set u k value) j 0) e ∙ get_or-set_same u k value 0 l
    value_is i h m (inr d) = get_or-set_other u k i value 0 d ∙ x.value_is i h (omega arith)

-- They went just up to place `to`, or began behind it.
pub given_to : {from to value k : ℕ} {t u : List ℕ} → to ≤ k → ((i : ℕ) → from ≤ i → i < k → i < to)
    → Given from k value k t u → Given from to value k t u
given_to l f x = record {
  from_le = x.from_le;
  to_le = l;
  no_further = f;
  value_is = x.value_is;
  kept = x.kept;
}

-- ---- the places of the lists

pub place_of_between : {n : ℕ} {first : List ℕ} {p from to i : ℕ} → p < n → from ≡ get_or first p 0
    → to ≡ get_or first (p + 1) 0 → from ≤ i → i < to → PlaceOf n first p i
place_of_between lp f t l h = record { source_lt = lp; first_le = omega arith; place_lt = omega arith }

module _ {n : ℕ} {first actions targets : List ℕ} (L : MoveList n first actions targets) where
  place_of_lt_last : {p i : ℕ} → PlaceOf n first p i → i < get_or first n 0
  place_of_lt_last x = place_lt_last L x.source_lt x.place_lt

  pub place_of_action_lt : {p i : ℕ} → PlaceOf n first p i → get_or actions i 0 < action_limit
  place_of_action_lt {i = i} x = L.action_lt i (place_of_lt_last x)

  place_of_first_le : {p i : ℕ} → PlaceOf n first p i → get_or first 0 0 ≤ i
  place_of_first_le {p} x =
      let l = x.source_lt in
      omega (arith, rising_le L p (omega arith) 0 (omega arith), x.first_le)

  -- Each place is one of some state.
  place_of_exists : {i : ℕ} → get_or first 0 0 ≤ i → i < get_or first n 0 → (p : ℕ) × PlaceOf n first p i
  place_of_exists {i} l = below n (omega arith)
    where
      below : (m : ℕ) → m ≤ n → i < get_or first m 0 → (p : ℕ) × PlaceOf n first p i
      below zero lm k = absurd (omega arith)
      below (suc m) lm k = ⊎_elim
          (λ h. below m (omega arith) h)
          (λ h. (
            m,
            record {
              source_lt = omega arith;
              first_le = h;
              place_lt = subst (λ (x : ℕ). i < get_or first x 0) (sym (add-one m)) k;
            },
          ))
          (lt_or_le i (get_or first m 0))

  -- ---- move by move

  module _ (O : Ordered n first actions targets) where
    -- The number of a move's group does not fall.
    group_place_le : {p q i j : ℕ} → PlaceOf n first p i → PlaceOf n first q j → i ≤ j
        → group_place p (get_or actions i 0) ≤ group_place q (get_or actions j 0)
    group_place_le {p} {q} {i} {j} x y l = ⊎_elim
        (λ h. omega (arith, place_of_action_lt x))
        (λ h. ⊎_elim same (λ d. absurd (omega (arith, later (omega arith)))) (eq_or_not p q))
        (lt_or_le p q)
      where
        later : q < p → j < i
        later h =
            let lp = x.source_lt in
            omega (arith, rising_le L p (omega arith) (q + 1) (omega arith), x.first_le, y.place_lt)

        rising : p ≡ q → i < j → get_or actions i 0 ≤ get_or actions j 0
        rising e k = (O.each p x.source_lt).action_le i j x.first_le k
            (subst (λ (z : ℕ). j < get_or first (z + 1) 0) (sym e) y.place_lt)

        same_place : j ≤ i → i ≡ j
        same_place k = omega arith

        same : p ≡ q → group_place p (get_or actions i 0) ≤ group_place q (get_or actions j 0)
        same e = ⊎_elim
            (λ k. omega (arith, rising e k))
            (λ k. omega (arith, ap (λ (z : ℕ). get_or actions z 0) (same_place k)))
            (lt_or_le i j)

    -- Run j begins at a move's place, if the moves before it come before group j and it does not itself.
    group_at_place : {p i j k : ℕ} → PlaceOf n first p i
        → ((q h : ℕ) → PlaceOf n first q h → h < i → group_place q (get_or actions h 0) < k) → k ≤ j
        → j ≤ group_place p (get_or actions i 0) → GroupAt n first actions j i
    group_at_place x f l m = record {
      first_le = place_of_first_le x;
      at_le = omega (arith, place_of_lt_last x);
      below = λ q h y k. omega (arith, f q h y k);
      above = λ q h y k. omega (arith, group_place_le x y k);
    }

    -- The groups up to that of the next move are given its place.
    pub indexed_to_add_one : {p i group k next : ℕ} {groups groups' : List ℕ} → PlaceOf n first p i
        → group ≡ group_place p (get_or actions i 0) → IndexedTo n first actions groups k i
        → Given k (group + 1) i next groups groups' → IndexedTo n first actions groups' next (i + 1)
    indexed_to_add_one {p} {i} {group} {k} {next} {groups} {groups'} x e t g = record {
      group_at = λ j l. ⊎_elim
          (λ h. subst (GroupAt n first actions j) (sym (g.kept j h)) (t.group_at j h))
          (λ h. subst (GroupAt n first actions j) (sym (g.value_is j h l))
          (group_at_place x t.before h (omega (arith, g.no_further j h l))))
          (lt_or_le j k);
      before = λ q j y l. ⊎_elim
          (λ h. omega (arith, t.before q j y h, g.from_le))
          (λ h. omega (arith, group_place_le y x (omega arith), g.to_le))
          (lt_or_le j i);
    }

  pub indexed_to_zero : {groups : List ℕ} → IndexedTo n first actions groups 0 (get_or first 0 0)
  indexed_to_zero = record {
    group_at = λ j l. absurd (omega arith);
    before = λ p j x l. absurd (omega (arith, place_of_first_le x));
  }

  -- All groups behind the last move begin where the moves end.
  group_at_last : {j k last : ℕ} {groups : List ℕ} → last ≡ get_or first n 0
      → IndexedTo n first actions groups k (get_or first n 0) → k ≤ j → GroupAt n first actions j last
  group_at_last e t l = record {
    first_le = omega (arith, rising_le L n (omega arith) 0 (omega arith));
    at_le = omega arith;
    below = λ p i x h. omega (arith, t.before p i x (omega arith));
    above = λ p i x h. absurd (omega (arith, place_of_lt_last x));
  }

  -- ---- all groups

  module _ {groups : List ℕ} (at : (j : ℕ) → j < groups_length → GroupAt n first actions j (get_or groups j 0)) where
    groups_are : Groups groups targets
    groups_are = record {
      place_le = λ k l. omega (arith, (at k l).at_le, L.last_le n (omega arith));
      target_lt = λ k i l h. omega (arith, L.target_lt i (omega (arith, (at k l).at_le)), L.states_le);
    }

    indexed_of_listed : (p a q : ℕ) → Listed n first actions targets p a q → Indexed groups targets p a q
    indexed_of_listed p a q m = record {
      place = m.place;
      in_group = record {
        state_lt = lp;
        action_lt = la;
        from_le = le_of_not_lt _ _ (λ h. omega (arith, from.below p m.place place h, m.action_is));
        to_lt = ⊎_elim
            (λ h. h)
            (λ h. absurd (omega (arith, to.above p m.place place h, m.action_is)))
            (lt_or_le m.place (get_or groups (group_place p a + 1) 0));
      };
      target_is = m.target_is;
    }
      where
        lp : p < state_limit
        lp = omega (arith, m.source_lt, L.states_le)

        la : a < action_limit
        la = (listed_decided L).label_lt p a q m

        from : GroupAt n first actions (group_place p a) (get_or groups (group_place p a) 0)
        from = at (group_place p a) (omega (arith, lp, la))

        to : GroupAt n first actions (group_place p a + 1) (get_or groups (group_place p a + 1) 0)
        to = at (group_place p a + 1) (omega (arith, lp, la))

        place : PlaceOf n first p m.place
        place = record { source_lt = m.source_lt; first_le = m.first_le; place_lt = m.place_lt }

    listed_of_indexed : (p a q : ℕ) → Indexed groups targets p a q → Listed n first actions targets p a q
    listed_of_indexed p a q x =
        let i = x.place in
        let r = x.in_group in
        let lp = r.state_lt in
        let la = r.action_lt in
        let from = at (group_place p a) (omega arith) in
        let to = at (group_place p a + 1) (omega arith) in
        let l : i < get_or first n 0 = omega (arith, to.at_le, r.to_lt) in
        let s = place_of_exists {i = i} (omega (arith, from.first_le, r.from_le)) l in
        let lo = from.above s.0 i s.1 r.from_le in
        let hi = to.below s.0 i s.1 r.to_lt in
        let li = place_of_action_lt s.1 in
        let e : s.0 ≡ p = omega arith in
        let place : PlaceOf n first p i = subst (λ (z : ℕ). PlaceOf n first z i) e s.1 in
        record {
          place = i;
          source_lt = place.source_lt;
          first_le = place.first_le;
          place_lt = place.place_lt;
          action_is = omega arith;
          target_is = x.target_is;
        }

    index_of_of_group_at : IndexOf n first actions targets groups
    index_of_of_group_at = record { groups_are = groups_are; forth = indexed_of_listed; back = listed_of_indexed }

  -- Groups that are all there are those of the listed moves.
  pub index_of_of_groups_at : {groups : List ℕ} → GroupsAt n first actions groups
      → IndexOf n first actions targets groups
  index_of_of_groups_at g = index_of_of_group_at g.group_at

  -- With those the groups are all there.
  pub groups_at_of_indexed_to : {k last next : ℕ} {groups groups' : List ℕ} → last ≡ get_or first n 0
      → IndexedTo n first actions groups k (get_or first n 0) → Given k groups_length last next groups groups'
      → GroupsAt n first actions groups'
  groups_at_of_indexed_to {k} e t g = record {
    group_at = λ j l. ⊎_elim
        (λ h. subst (GroupAt n first actions j) (sym (g.kept j h)) (t.group_at j h))
        (λ h. subst (GroupAt n first actions j) (sym (g.value_is j h (omega (arith, g.to_le)))) (group_at_last e t h))
        (lt_or_le j k);
  }

  pub index_of_of_indexed_to : {k last next : ℕ} {groups groups' : List ℕ} → last ≡ get_or first n 0
      → IndexedTo n first actions groups k (get_or first n 0) → Given k groups_length last next groups groups'
      → IndexOf n first actions targets groups'
  index_of_of_indexed_to e t g = index_of_of_groups_at (groups_at_of_indexed_to e t g)
