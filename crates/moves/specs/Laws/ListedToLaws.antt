-- The lists grow by one state, or one label, after the other, until they have just the low steps.
-- Document 01, "Alike": "Release and high steps are never played." Assumes nothing.
use Rattle.std.specs.Prelude.{List, ◌≡◌, refl, ℕ, ◌+◌, ◌≤◌, ◌<◌, length, get_or, set}
use Rattle.std.proofs.Common.{⊎_elim, sym, ap, ◌∙◌, subst, arith, get_or-set_same, get_or-set_other, below_more}
use Rattle.lts.proofs.TestsLaws.{lt_or_le}
use Rattle.text.specs.Limits.{step_limit}
use Rattle.text.specs.Model.{Model}
use Rattle.model.specs.Inner.Stored.{Stored}
use Rattle.by_state.specs.MoveList.{Listed, Lists, Rising, Ordered}
use Rattle.moves.specs.Laws.RisingLaws.{rising_kept}
use Rattle.moves.specs.Inner.Listing.{Appended, ListedTo}
use Rattle.model.specs.System.{view}
use Rattle.lts.specs.Weak.{LowStep}

-- ---- one number more

pub listed_to-zero : {Out : ℕ → ℕ → ℕ → Type 0} (first : List ℕ) {left right : List ℕ} → 0 < length first
    → ListedTo Out 0 0 (set first 0 0) left right
listed_to-zero first l = record {
  end_is = at;
  first_le = λ p k. let e : p ≡ 0 = omega arith in omega (arith, ap (λ (x : ℕ). get_or (set first 0 0) x 0) e, at);
  rising = λ p k. absurd (omega arith);
  each = λ i k. absurd (omega arith);
  sound = λ p a q x. absurd (omega (arith, x.source_lt));
  complete = λ p a q k. absurd (omega arith);
}
  where
    at : get_or (set first 0 0) 0 0 ≡ 0
    at = get_or-set_same first 0 0 0 l

pub ordered-zero : {first left right : List ℕ} → Ordered 0 first left right
ordered-zero = record { each = λ p k. absurd (omega arith) }

module _ {Out : ℕ → ℕ → ℕ → Type 0} {n from to : ℕ} {first left right left' right' : List ℕ}
    (long : n + 1 < length first) (x : ListedTo Out n from first left right)
    (y : Appended (Out n) from to left right left' right') where
  abbrev next : List ℕ
  next = set first (n + 1) to

  last_is : get_or next (n + 1) 0 ≡ to
  last_is = get_or-set_same first (n + 1) to 0 long

  before_is : (p : ℕ) → p ≤ n → get_or next p 0 ≡ get_or first p 0
  before_is p l = get_or-set_other first (n + 1) p to 0 (λ e. omega arith)

  -- a listed move of a state below n stood in the lists before
  listed_before : (p a q : ℕ) → p < n → Listed (n + 1) next left' right' p a q
      → Listed n first left right p a q
  listed_before p a q l z =
      let k : z.place < from =
      omega (arith, z.place_lt, before_is (p + 1) (omega arith), x.first_le (p + 1) (omega arith)) in
      record {
        place = z.place;
        source_lt = l;
        first_le = omega (arith, z.first_le, before_is p (omega arith));
        place_lt = omega (arith, z.place_lt, before_is (p + 1) (omega arith));
        action_is = sym (y.left_kept _ k) ∙ z.action_is;
        target_is = sym (y.right_kept _ k) ∙ z.target_is;
      }

  listed_after : (p a q : ℕ) → Listed n first left right p a q → Listed (n + 1) next left' right' p a q
  listed_after p a q z =
      let l = z.source_lt in
      let k : z.place < from = omega (arith, z.place_lt, x.first_le (p + 1) (omega arith)) in
      record {
        place = z.place;
        source_lt = omega arith;
        first_le = omega (arith, z.first_le, before_is p (omega arith));
        place_lt = omega (arith, z.place_lt, before_is (p + 1) (omega arith));
        action_is = y.left_kept _ k ∙ z.action_is;
        target_is = y.right_kept _ k ∙ z.target_is;
      }

  listed_new : (a q : ℕ) → Out n a q → Listed (n + 1) next left' right' n a q
  listed_new a q o =
      let c = y.complete a q o in
      record {
        place = c.0;
        source_lt = omega arith;
        first_le = omega (arith, before_is n (omega arith), x.end_is, c.1);
        place_lt = omega (arith, last_is, c.2);
        action_is = c.3;
        target_is = c.4;
      }

  new_sound : (a q : ℕ) → Listed (n + 1) next left' right' n a q → Out n a q
  new_sound a q z =
      let from_le : from ≤ z.place = omega (arith, before_is n (omega arith), x.end_is, z.first_le) in
      let m = y.sound z.place from_le (omega (arith, last_is, z.place_lt)) in
      subst (λ (b : ℕ). Out n b q) z.action_is (subst (Out n _) z.target_is m)

  pub listed_to_suc : ListedTo Out (n + 1) to next left' right'
  listed_to_suc = record {
    end_is = last_is;
    first_le = λ p l.
        below_more (λ r. get_or next r 0 ≤ to) (n + 1)
        (λ r k. omega (arith, before_is r (omega arith), x.first_le r (omega arith), y.from_le))
        (omega (arith, last_is)) p (omega arith);
    rising =
        below_more (λ p. get_or next p 0 ≤ get_or next (p + 1) 0) n
        (λ p k. omega (arith, before_is p (omega arith), before_is (p + 1) (omega arith), x.rising p k))
        (omega (arith, before_is n (omega arith), x.end_is, last_is, y.from_le));
    each = λ i l. ⊎_elim
        (λ k.
        let s = x.each i k in (
          s.0,
          subst (λ (a : ℕ). Out s.0 a (get_or right' i 0)) (sym (y.left_kept i k))
              (subst (Out s.0 _) (sym (y.right_kept i k)) s.1),
        ))
        (λ k. (n, y.sound i k l))
        (lt_or_le i from);
    sound = λ p a q z.
        below_more (λ r. Listed (n + 1) next left' right' r a q → Out r a q) n
        (λ r k w. x.sound r a q (listed_before r a q k w)) (new_sound a q) p z.source_lt z;
    complete = λ p a q l.
        below_more (λ r. Out r a q → Listed (n + 1) next left' right' r a q) n
        (λ r k o. listed_after r a q (x.complete r a q k o)) (listed_new a q) p l;
  }

  -- the moves of a state below n rise as before, and those of n as they were appended
  ordered_before : Ordered n first left right → (p : ℕ) → p < n
      → Rising (get_or next p 0) (get_or next (p + 1) 0) left' right'
  ordered_before o p l =
      rising_kept (before_is p (omega arith)) (before_is (p + 1) (omega arith))
      (λ i k. y.left_kept i (omega (arith, k, x.first_le (p + 1) (omega arith))))
      (λ i k. y.right_kept i (omega (arith, k, x.first_le (p + 1) (omega arith)))) (o.each p l)

  ordered_last : Rising from to left' right' → Rising (get_or next n 0) (get_or next (n + 1) 0) left' right'
  ordered_last rise = rising_kept (before_is n (omega arith) ∙ x.end_is) last_is (λ i k. refl) (λ i k. refl) rise

  pub ordered_suc : Ordered n first left right → Rising from to left' right' → Ordered (n + 1) next left' right'
  ordered_suc o rise = record {
    each =
        below_more (λ p. Rising (get_or next p 0) (get_or next (p + 1) 0) left' right') n (ordered_before o)
        (ordered_last rise);
  }

-- ---- all states

pub lists_of_listed_to : {s : List ℕ} {m : Model} {n to : ℕ} {first actions targets : List ℕ} → Stored s m
    → n ≡ m.head.states → to ≤ step_limit → ListedTo (LowStep (view m)) n to first actions targets
    → Ordered n first actions targets
    → Lists (LowStep (view m)) m.head.states first actions targets × Ordered m.head.states first actions targets
lists_of_listed_to {m = m} {to = to} {first} {actions} {targets} st e l listed o =
    let x = subst (λ (n : ℕ). ListedTo (LowStep (view m)) n to first actions targets) e listed in (
      record {
        moves = record {
          some_state = st.states_pos;
          states_le = st.states_le;
          rising = x.rising;
          last_le = λ p k. omega (arith, x.first_le p k);
          action_lt = λ i k.
              let s = (x.each i (omega (arith, x.end_is))).1.1 in
              omega (arith, s.action_is, st.action_lt s.number s.number_lt, st.actions_le);
          target_lt = λ i k.
              let s = (x.each i (omega (arith, x.end_is))).1.1 in
              omega (arith, s.target_is, st.target_lt s.number s.number_lt);
        };
        sound = x.sound;
        complete = λ p a q o.
            let s = o.1 in
            x.complete p a q (omega (arith, s.source_is, st.source_lt s.number s.number_lt)) o;
      },
      subst (λ (n : ℕ). Ordered n first actions targets) e o,
    )
