-- A round's splits one after another: by moves with one label to one new class, with all labels, to all new classes.
-- Assumes nothing.
use Rattle.std.specs.Prelude.{List, ◌⊎◌, ◌≡◌, refl, ℕ, ◌+◌, ◌≤◌, ◌<◌, get_or}
use Rattle.text.specs.Limits.{state_limit}
use Rattle.std.proofs.Common.{inl, inr, sym, ap, ◌∙◌, subst, arith}
use Rattle.lts.proofs.TestsLaws.{eq_or_not, lt_or_le}
use Rattle.by_state.specs.Inner.Numbered.{Same}
use Rattle.sets.specs.Inner.Sets.{Member}
use Rattle.sets.specs.Inner.SetValues.{In, SetOf, InSome}
use Rattle.sets.specs.declared.set.Set.{Set}
use Rattle.held.specs.Held.{slot_place, target_row, source_row, HeldAt, Turned, HeldList}
use Rattle.splitters.specs.Inner.Partition.{Partition, SplitTwice}
use Rattle.splitters.specs.Inner.Splitters.{LeadsInto, Into}
use Rattle.splitters.specs.Inner.MoveSplits.{IntoSet, SameMoves, SplitUnder, UsedClass, UsedLabels, UsedSplit}
use Rattle.splitters.specs.Laws.SplitLaws.{homes_kept_refl, homes_kept_trans}

-- ---- splits under the labels and new classes that have been used

module _ {n old : ℕ} {slots pool fresh rest : List ℕ} where
  -- States of one class have the moves together: nothing is to be split.
  pub used_split_refl : {Used : ℕ → ℕ → Type 0} {c o : List ℕ}
      → ((j a p q : ℕ) → Used j a → p < n → q < n → Same c p q → IntoSet slots pool (target_row a) fresh j p
      → IntoSet slots pool (target_row a) fresh j q
      × (IntoSet slots pool (target_row a) rest j p → IntoSet slots pool (target_row a) rest j q))
      → UsedSplit n old slots pool Used fresh rest c o c o
  used_split_refl f = record {
    under = record {
      same_before = λ p q lp lq e. e;
      one = λ j a p q u lp lq e h. (f j a p q u lp lq e h).0;
      other = λ j a p q u lp lq e h. (f j a p q u lp lq e h).1;
      stay = λ p q lp lq e a b. e;
    };
    homes = homes_kept_refl;
  }

  -- No state has such a move into a new class.
  pub used_split_none : {Used : ℕ → ℕ → Type 0} {c o : List ℕ}
      → ((j a p : ℕ) → Used j a → p < n → ¬ (IntoSet slots pool (target_row a) fresh j p))
      → UsedSplit n old slots pool Used fresh rest c o c o
  used_split_none f = used_split_refl (λ j a p q u lp lq e h. absurd (f j a p u lp h))

  -- No class has two states.
  pub used_split_alone : {Used : ℕ → ℕ → Type 0} {c o members : List ℕ} {classes : ℕ} {together : Set}
      → Partition n c members classes together → ((x : ℕ) → ¬ (In together x))
      → UsedSplit n old slots pool Used fresh rest c o c o
  used_split_alone {Used} {c} {o} {members} {classes} {together} part none =
      used_split_refl (λ j a p q u lp lq e h.
      let d = eq p q lp lq e (eq_or_not p q) in (
        subst (IntoSet slots pool (target_row a) fresh j) d h,
        subst (IntoSet slots pool (target_row a) rest j) d,
      ))
    where
      eq : (p q : ℕ) → p < n → q < n → Same c p q → (p ≡ q) ⊎ ¬ (p ≡ q) → p ≡ q
      eq p q lp lq e (inl d) = d
      eq p q lp lq e (inr d) = absurd (none p (part.together_all p q lp lq e d))

  -- Splits under the one and then under the other are splits under both.
  pub used_split_trans : {Used More All : ℕ → ℕ → Type 0} {c o c' o' c'' o'' : List ℕ}
      → ((j a : ℕ) → Used j a → All j a) → ((j a : ℕ) → More j a → All j a)
      → ((j a : ℕ) → All j a → Used j a ⊎ More j a) → UsedSplit n old slots pool Used fresh rest c o c' o'
      → UsedSplit n old slots pool More fresh rest c' o' c'' o'' → UsedSplit n old slots pool All fresh rest c o c'' o''
  used_split_trans {Used} {More} {All} {c} {o} {c'} {o'} {c''} i m cases f g = record {
    under = record {
      same_before = λ p q lp lq e. one.same_before p q lp lq (two.same_before p q lp lq e);
      one = λ j a p q u lp lq e. to_fresh j a p q lp lq e (cases j a u);
      other = λ j a p q u lp lq e. to_rest j a p q lp lq e (cases j a u);
      stay = λ p q lp lq e a b. two.stay p q lp lq (one.stay p q lp lq e (fewer i a) (fewer i b)) (fewer m a)
          (fewer m b);
    };
    homes = homes_kept_trans f.homes g.homes;
  }
    where
      one : SplitUnder n slots pool Used fresh rest c c'
      one = f.under

      two : SplitUnder n slots pool More fresh rest c' c''
      two = g.under

      fewer : {Part : ℕ → ℕ → Type 0} {p q : ℕ} → ((j a : ℕ) → Part j a → All j a)
          → SameMoves slots pool All fresh rest p q → SameMoves slots pool Part fresh rest p q
      fewer h s = record {
        to_fresh = λ j a u. s.to_fresh j a (h j a u);
        to_rest = λ j a u. s.to_rest j a (h j a u);
      }

      to_fresh : (j a p q : ℕ) → p < n → q < n → Same c'' p q → Used j a ⊎ More j a
          → IntoSet slots pool (target_row a) fresh j p → IntoSet slots pool (target_row a) fresh j q
      to_fresh j a p q lp lq e (inl u) = one.one j a p q u lp lq (two.same_before p q lp lq e)
      to_fresh j a p q lp lq e (inr u) = two.one j a p q u lp lq e

      to_rest : (j a p q : ℕ) → p < n → q < n → Same c'' p q → Used j a ⊎ More j a
          → IntoSet slots pool (target_row a) fresh j p → IntoSet slots pool (target_row a) rest j p
          → IntoSet slots pool (target_row a) rest j q
      to_rest j a p q lp lq e (inl u) = one.other j a p q u lp lq (two.same_before p q lp lq e)
      to_rest j a p q lp lq e (inr u) = two.other j a p q u lp lq e

  -- The same with another account of what is used.
  pub used_split_same : {Used All : ℕ → ℕ → Type 0} {c o c' o' : List ℕ} → ((j a : ℕ) → Used j a → All j a)
      → ((j a : ℕ) → All j a → Used j a) → UsedSplit n old slots pool Used fresh rest c o c' o'
      → UsedSplit n old slots pool All fresh rest c o c' o'
  used_split_same to from f = used_split_trans {More = λ j a. ⊥} to (λ j a x. absurd x) (λ j a u. inl (from j a u)) f
      (used_split_none (λ j a p x. absurd x))

-- A move into a set of the list is one into the set as a value.
leads_of_into : {slots pool sets : List ℕ} {row j a k b : ℕ} {s : Set} {p : ℕ} → row ≡ target_row a → (k ≡ j) × (b ≡ a)
    → SetOf (Member sets j) s → IntoSet slots pool (target_row b) sets k p → LeadsInto slots pool row s p
leads_of_into {slots} {pool} {sets} {row} {j} {a} {k} {b} {s} {p} r u m (t, h, i) = record {
  target = t;
  held = subst (λ (x : ℕ). HeldAt slots pool x p t) (ap target_row u.1 ∙ sym r) h;
  in_set = m.all t (subst (λ (x : ℕ). Member sets x t) u.0 i);
}

into_of-leads : {slots pool sets : List ℕ} {row j a k b : ℕ} {s : Set} {p : ℕ} → row ≡ target_row a → (k ≡ j) × (b ≡ a)
    → SetOf (Member sets j) s → LeadsInto slots pool row s p → IntoSet slots pool (target_row b) sets k p
into_of-leads {slots} {pool} {sets} {row} {j} {a} {k} {b} {s} {p} r u m l = (
  l.target,
  subst (λ (x : ℕ). HeldAt slots pool x p l.target) (r ∙ ap target_row (sym u.1)) l.held,
  subst (λ (x : ℕ). Member sets x l.target) (sym u.0) (m.only l.target l.in_set),
)

-- A split by the moves with one label to one new class.
used_split_one : {n old : ℕ} {slots pool fresh rest : List ℕ} {row j : ℕ} (a : ℕ) {new from : Set}
    {c o c' o' : List ℕ} → row ≡ target_row a → SetOf (Member fresh j) new → SetOf (Member rest j) from
    → SplitTwice n old (LeadsInto slots pool row new) (LeadsInto slots pool row from) c o c' o'
    → UsedSplit n old slots pool (λ k b. (k ≡ j) × (b ≡ a)) fresh rest c o c' o'
used_split_one {slots = slots} {pool = pool} {row = row} {j = j} a r m v f = record {
  under = record {
    same_before = f.same_before;
    one = λ k b p q u lp lq e h. into_of-leads r u m (f.one p q lp lq e (leads_of_into r u m h));
    other = λ k b p q u lp lq e h i.
        into_of-leads r u v (f.other p q lp lq e (leads_of_into r u m h) (leads_of_into r u v i));
    stay = λ p q lp lq e s s'. f.stay p q lp lq e (same m (s.to_fresh j a own)) (same m (s'.to_fresh j a own))
        (same v (s.to_rest j a own)) (same v (s'.to_rest j a own));
  };
  homes = f.homes;
}
  where
    own : (j ≡ j) × (a ≡ a)
    own = (refl, refl)

    same : {sets : List ℕ} {s : Set} {p q : ℕ} → SetOf (Member sets j) s
        → (IntoSet slots pool (target_row a) sets j p → IntoSet slots pool (target_row a) sets j q)
        → LeadsInto slots pool row s p → LeadsInto slots pool row s q
    same x g l = leads_of_into r own x (g (into_of-leads r own x l))

-- The row behind that of a label has its sources.
pub turned-row : {n : ℕ} {labels : List ℕ} {count : ℕ} {slots pool : List ℕ} {row i : ℕ}
    → HeldList n labels count slots pool → i < count → row ≡ target_row (get_or labels i 0)
    → Turned slots pool row (row + 1)
turned-row {slots = slots} {pool = pool} {i = i} L l r =
    subst (λ (x : ℕ). Turned slots pool x (x + 1)) (sym r) (L.turned i l)

-- ---- one new class, and one after another

-- New class j has been used with each label of the list whose number is not left.
abbrev pub UsedBut : ℕ → List ℕ → ℕ → Set → ℕ → ℕ → Type 0
UsedBut j labels count left k b = (k ≡ j) × ((l : ℕ) × (l < count) × ¬ (In left l) × (get_or labels l 0 ≡ b))

module _ (labels : List ℕ) {n count : ℕ} {slots pool : List ℕ} {old : ℕ} {fresh rest c o : List ℕ} where
  -- Labels that do not lead into the new class need not be used.
  pub used_but_start : {m : ℕ} {into : List ℕ} {j : ℕ} {new all : Set} → n ≤ state_limit
      → HeldList m labels count slots pool → Into labels count slots into → SetOf (Member fresh j) new
      → SetOf (InSome into new) all
      → UsedSplit n old slots pool (UsedBut j labels count all) fresh rest c o c o
  used_but_start {into = into} {j = j} {new = new} {all = all} le L I own u =
      used_split_none (λ k b p d lp h. none b p d lp h.0 h.1 (subst (λ (x : ℕ). Member fresh x h.0) d.0 h.2))
    where
      none : {k : ℕ} (b p : ℕ) → UsedBut j labels count all k b → p < n → (q : ℕ)
          → HeldAt slots pool (target_row b) p q → Member fresh j q → ⊥
      none b p (e, (l, h, d, a)) lp q i f =
          let back = (L.turned l h).there p q (omega (arith, lp, le))
          (subst (λ (x : ℕ). HeldAt slots pool (target_row x) p q) (sym a) i) in
          let held : ¬ (get_or slots (slot_place (source_row (get_or labels l 0)) q) 0 ≡ 0) =
          λ z. L.none p (subst (λ (x : ℕ). Member pool x p) z back) in
          d (u.all l (record {
            member = q;
            in_set = own.all q f;
            related = I.noted l q h f.member_lt held;
          }))

  module _ {c' o' : List ℕ} where
    -- One more label is used.
    pub used_but_next : {c'' o'' : List ℕ} {row i j : ℕ} {new from left left' : Set} → i < count
        → row ≡ target_row (get_or labels i 0) → SetOf (Member fresh j) new → SetOf (Member rest j) from
        → SetOf (λ x. In left x × ¬ (x ≡ i)) left'
        → UsedSplit n old slots pool (UsedBut j labels count left) fresh rest c o c' o'
        → SplitTwice n old (LeadsInto slots pool row new) (LeadsInto slots pool row from) c' o' c'' o''
        → UsedSplit n old slots pool (UsedBut j labels count left') fresh rest c o c'' o''
    used_but_next {i = i} {j = j} {left = left} {left' = left'} l r m v w f g =
        used_split_trans (λ k b u. (u.0, (u.1.0, u.1.1, λ x. u.1.2 (w.only u.1.0 x).0, u.1.3)))
        (λ k b u. (u.0, (i, l, λ x. (w.only i x).1 refl, sym u.1)))
        (λ k b u. cases k b u (eq_or_not u.1.0 i)) f (used_split_one (get_or labels i 0) r m v g)
      where
        cases : (k b : ℕ) (u : UsedBut j labels count left' k b) → (u.1.0 ≡ i) ⊎ ¬ (u.1.0 ≡ i)
            → UsedBut j labels count left k b ⊎ ((k ≡ j) × (b ≡ get_or labels i 0))
        cases k b (e, (x, h, d, a)) (inl y) = inr (e, sym a ∙ ap (λ (z : ℕ). get_or labels z 0) y)
        cases k b (e, (x, h, d, a)) (inr y) = inl (e, (x, h, λ z. d (w.all x (z, y)), a))

    -- All are used.
    pub used_but_end : {j : ℕ} {left : Set} → ((i : ℕ) → i < count → ¬ (In left i))
        → UsedSplit n old slots pool (UsedBut j labels count left) fresh rest c o c' o'
        → UsedSplit n old slots pool (UsedClass j labels count) fresh rest c o c' o'
    used_but_end none = used_split_same (λ k b u. (u.0, (u.1.0, u.1.1, u.1.3)))
        (λ k b u. (u.0, (u.1.0, u.1.1, none u.1.0 u.1.1, u.1.2)))

    -- One more new class is used.
    pub used_labels_next : {c'' o'' : List ℕ} {first j : ℕ} → first ≤ j
        → UsedSplit n old slots pool (UsedLabels first j labels count) fresh rest c o c' o'
        → UsedSplit n old slots pool (UsedClass j labels count) fresh rest c' o' c'' o''
        → UsedSplit n old slots pool (UsedLabels first (j + 1) labels count) fresh rest c o c'' o''
    used_labels_next {first = first} {j = j} l = used_split_trans (λ k b u. (u.0, omega (arith, u.1), u.2))
        (λ k b u. (omega (arith, l, u.0), omega (arith, u.0), u.1)) (λ k b u. cases k b u (lt_or_le k j))
      where
        cases : (k b : ℕ) → UsedLabels first (j + 1) labels count k b → (k < j) ⊎ (j ≤ k)
            → UsedLabels first j labels count k b ⊎ UsedClass j labels count k b
        cases k b u (inl m) = inl (u.0, m, u.2)
        cases k b u (inr m) = inr (omega (arith, m, u.1), u.2)

    -- All are used.
    pub used_labels_end : {first j : ℕ} → j ≡ old
        → UsedSplit n old slots pool (UsedLabels first j labels count) fresh rest c o c' o'
        → UsedSplit n old slots pool (UsedLabels first old labels count) fresh rest c o c' o'
    used_labels_end e = used_split_same (λ k b u. (u.0, omega (arith, e, u.1), u.2))
        (λ k b u. (u.0, omega (arith, e, u.1), u.2))

    -- No class has two states: the other new classes divide nothing.
    pub used_labels_alone : {first j classes : ℕ} {members : List ℕ} {together : Set} → j ≤ old
        → UsedSplit n old slots pool (UsedLabels first j labels count) fresh rest c o c' o'
        → Partition n c' members classes together → ((x : ℕ) → ¬ (In together x))
        → UsedSplit n old slots pool (UsedLabels first old labels count) fresh rest c o c' o'
    used_labels_alone {first} l s part none =
        used_split_trans {More = UsedLabels first old labels count} (λ k b u. (u.0, omega (arith, l, u.1), u.2))
        (λ k b u. u) (λ k b u. inr u) s (used_split_alone part none)

  -- None is used.
  pub used_labels_none : {first : ℕ}
      → UsedSplit n old slots pool (UsedLabels first first labels count) fresh rest c o c o
  used_labels_none = used_split_none (λ k b p u. absurd (omega (arith, u.0, u.1)))
