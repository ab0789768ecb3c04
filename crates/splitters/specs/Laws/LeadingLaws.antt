-- Sets of states that are gone through from the least state on: what is found so far, and what is left.
-- Assumes nothing.
use Rattle.std.specs.Prelude.{List, ◌⊎◌, ◌≡◌, ℕ, ◌≤◌, ◌<◌}
use Rattle.std.proofs.Common.{inl, inr, sym, subst, arith}
use Rattle.lts.proofs.TestsLaws.{eq_or_not}
use Rattle.text.specs.Limits.{state_limit}
use Rattle.sets.specs.Inner.Sets.{Member}
use Rattle.sets.specs.Inner.SetValues.{In, SetOf, GreatestOf}
use Rattle.sets.specs.Laws.SetValuesLaws.{set_of-map, in_or_not}
use Rattle.sets.specs.declared.set.Set.{Set}
use Rattle.held.specs.Held.{row_set, HeldAt, Turned, Occupied}
use Rattle.held.specs.Laws.OccupiedLaws.{occupied_held}
use Rattle.splitters.specs.Laws.SplittingLaws.{left_without}
use Rattle.splitters.specs.Inner.Splitters.{LeadsInto, LedFrom}

-- ---- all that members of a set have

module _ {slots pool : List ℕ} {set : Set} (O : Occupied slots pool) (none : (x : ℕ) → ¬ (Member pool 0 x)) where
  -- Only members with a set of their own have something.
  pub led_from_both : (row : ℕ) {own common found : Set} → SetOf (Member pool (row_set row)) own
      → SetOf (λ x. In set x × In own x) common → SetOf (LedFrom slots pool row common) found
      → SetOf (LedFrom slots pool row set) found
  led_from_both row o b = set_of-map
      (λ x m. record { member = m.member; in_set = (b.only m.member m.in_set).0; related = m.related })
      (λ x m.
      let own = o.all m.member (occupied_held row m.member x O none m.in_set.member_lt m.related) in
      record { member = m.member; in_set = b.all m.member (m.in_set, own); related = m.related })

  -- All of these are members: what they have are the states with a set of their own in the row turned round.
  pub led_from_all : {row back : ℕ} {own more found : Set} → Turned slots pool back row
      → SetOf (Member pool (row_set row)) own → SetOf (λ x. In own x × ¬ (In set x)) more
      → ((x : ℕ) → ¬ (In more x)) → SetOf (Member pool (row_set back)) found → SetOf (LedFrom slots pool row set) found
  led_from_all {row} {back} {own} turned o w empty f = record {
    all = λ p m. f.all p (occupied_held back p m.member O none m.related.member_lt
        (turned.again p m.member m.in_set.member_lt m.related));
    only = λ p i.
        let (t, h) = O.some back p (f.only p i) in
        let led = turned.there p t i.member_lt h in
        let k = o.all t (occupied_held row t p O none h.member_lt led) in
        record { member = t; in_set = inside t k (in_or_not set t); related = led };
  }
    where
      inside : (t : ℕ) → In own t → In set t ⊎ ¬ (In set t) → In set t
      inside t k (inl i) = i
      inside t k (inr d) = absurd (empty t (w.all t (k, d)))

-- ---- those that lead into a goal

-- Of the set, those that lead into the goal are found or left.
pub record LeadingTo (slots pool : List ℕ) (row : ℕ) (set goal left found : Set) : Type 0 where
  pub all : (x : ℕ) → In set x → LeadsInto slots pool row goal x → In found x ⊎ In left x
  pub only : (x : ℕ) → In found x → LeadsInto slots pool row goal x

-- What p tells of is left no more, p itself among it, and those of it that lead into the goal are found.
pub record LeadingTurn (slots pool : List ℕ) (row : ℕ) (goal : Set) (p : ℕ) (found left found' left' : Set) : Type 0
  where
    pub less : (x : ℕ) → In left' x → In left x × ¬ (x ≡ p)
    pub kept : (x : ℕ) → In found x → In found' x
    pub all : (x : ℕ) → In left x → LeadsInto slots pool row goal x → In found' x ⊎ In left' x
    pub only : (x : ℕ) → In found' x → In found x ⊎ LeadsInto slots pool row goal x

module _ {slots pool : List ℕ} {row : ℕ} {goal : Set} where
  -- No target of p is in the goal: p tells of itself alone.
  pub leading_turn_none : {p t : ℕ} {own common found left left' : Set} → SetOf (HeldAt slots pool row p) own
      → SetOf (λ x. In own x × In goal x) common → GreatestOf common t → state_limit ≤ t
      → SetOf (λ x. In left x × ¬ (x ≡ p)) left' → LeadingTurn slots pool row goal p found left found left'
  leading_turn_none {p} {t} {own} {common} {found} {left} {left'} o b g h s = record {
    less = s.only;
    kept = λ x i. i;
    all = λ x i l. all x i l (eq_or_not x p);
    only = λ x i. inl i;
  }
    where
      none : (y : ℕ) → HeldAt slots pool row p y → In goal y → ⊥
      none y m i = omega (arith, h, g.none_after y (b.all y (o.all y m, i)))

      all : (x : ℕ) → In left x → LeadsInto slots pool row goal x → (x ≡ p) ⊎ ¬ (x ≡ p) → In found x ⊎ In left' x
      all x i l (inl e) =
          absurd (none l.target (subst (λ (y : ℕ). HeldAt slots pool row y l.target) e l.held) l.in_set)
      all x i l (inr d) = inr (s.all x (i, d))

  -- A target t of p is: all that lead to t are told, p among them.
  pub leading_turn_some : {p t back : ℕ} {own common told found left found' left' : Set} → Turned slots pool row back
      → p < state_limit → SetOf (HeldAt slots pool row p) own → SetOf (λ x. In own x × In goal x) common
      → GreatestOf common t → t < state_limit → SetOf (HeldAt slots pool back t) told
      → SetOf (λ x. In found x ⊎ In told x) found' → SetOf (λ x. In left x × ¬ (In told x)) left'
      → LeadingTurn slots pool row goal p found left found' left'
  leading_turn_some {p} {t} {told = told} {found} {left} {found'} {left'} turned k o b g h s u w = record {
    less = λ x i. ((w.only x i).0, λ e. (w.only x i).1 (subst (In told) (sym e) p_told));
    kept = λ x i. u.all x (inl i);
    all = λ x i l. all x i (in_or_not told x);
    only = λ x i. only x (u.only x i);
  }
    where
      p_told : In told p
      p_told = s.all p (turned.there p t k (o.only t (b.only t (g.member h)).0))

      all : (x : ℕ) → In left x → In told x ⊎ ¬ (In told x) → In found' x ⊎ In left' x
      all x i (inl m) = inl (u.all x (inr m))
      all x i (inr d) = inr (w.all x (i, d))

      only : (x : ℕ) → In found x ⊎ In told x → In found x ⊎ LeadsInto slots pool row goal x
      only x (inl i) = inl i
      only x (inr i) = inr (record {
        target = t;
        held = turned.again x t h (s.only x i);
        in_set = (b.only t (g.member h)).1;
      })

  -- p itself is taken out before those that are told.
  pub leading_turn_told : {p t back : ℕ} {own common told found left others found' left' : Set}
      → Turned slots pool row back → p < state_limit → SetOf (HeldAt slots pool row p) own
      → SetOf (λ x. In own x × In goal x) common → GreatestOf common t → t < state_limit
      → SetOf (HeldAt slots pool back t) told → SetOf (λ x. In left x × ¬ (x ≡ p)) others
      → SetOf (λ x. In found x ⊎ In told x) found' → SetOf (λ x. In others x × ¬ (In told x)) left'
      → LeadingTurn slots pool row goal p found left found' left'
  leading_turn_told {p} {t} turned k o b g h s v u w =
      let p_told = s.all p (turned.there p t k (o.only t (b.only t (g.member h)).0)) in
      leading_turn_some turned k o b g h s u (left_without p_told v w)

  -- The same of equal sets.
  pub leading_turn_eq : {p : ℕ} {found left found' left' found'' left'' : Set} → found'' ≡ found' → left'' ≡ left'
      → LeadingTurn slots pool row goal p found left found' left'
      → LeadingTurn slots pool row goal p found left found'' left''
  leading_turn_eq e d t = rw (e, d) t

  module _ {set : Set} where
    pub leading_to_start : {found : Set} → SetOf (λ x. ⊥) found → LeadingTo slots pool row set goal set found
    leading_to_start none = record {
      all = λ x i l. inr i;
      only = λ x i. absurd (none.only x i);
    }

    pub leading_to_next : {left left' found found' : Set} {p : ℕ} → LeadingTo slots pool row set goal left found
        → LeadingTurn slots pool row goal p found left found' left' → LeadingTo slots pool row set goal left' found'
    leading_to_next {left} {left'} {found} {found'} a t = record {
      all = λ x i l. all x l (a.all x i l);
      only = λ x i. only x (t.only x i);
    }
      where
        all : (x : ℕ) → LeadsInto slots pool row goal x → In found x ⊎ In left x → In found' x ⊎ In left' x
        all x l (inl i) = inl (t.kept x i)
        all x l (inr i) = t.all x i l

        only : (x : ℕ) → In found x ⊎ LeadsInto slots pool row goal x → LeadsInto slots pool row goal x
        only x (inl i) = a.only x i
        only x (inr l) = l

    pub leading_to_end : {left found r : Set} → LeadingTo slots pool row set goal left found
        → ((x : ℕ) → ¬ (In left x)) → SetOf (λ x. In found x × In set x) r
        → SetOf (λ x. In set x × LeadsInto slots pool row goal x) r
    leading_to_end {left} {found} a none b = record {
      all = λ x m. b.all x (found_in x (a.all x m.0 m.1), m.0);
      only = λ x m. ((b.only x m).1, a.only x (b.only x m).0);
    }
      where
        found_in : (x : ℕ) → In found x ⊎ In left x → In found x
        found_in x (inl i) = i
        found_in x (inr i) = absurd (none x i)
