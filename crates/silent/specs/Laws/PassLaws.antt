-- A pass over the silent steps adds to the set of each source that of its target. Where no set has grown after it was
-- read, the sets are closed under one step at its end. Assumes nothing.
use Rattle.std.specs.Prelude.{◌≡◌, refl, ◌⊎◌, Bool, true, false, List, ℕ, ◌+◌, ◌-◌, ◌≤◌, ◌<◌, length, get_or, set}
use Rattle.std.proofs.Common.{sym, ap, subst, ◌∙◌, inl, inr, arith, length-set, get_or-set_same, get_or-set_other}
use Rattle.lts.proofs.TestsLaws.{eq_or_not}
use Rattle.lts.specs.Weak.{Silent, tick}
use Rattle.text.specs.Limits.{state_limit, action_limit}
use Rattle.sets.specs.Inner.Sets.{Member, Joined}
use Rattle.silent.specs.Labelled.{LabelStep, LabelList, TickLabel}
use Rattle.silent.specs.Inner.Keys.{turn_place, OfStates, SpreadOnce, ClosedUnder}
use Rattle.silent.specs.Laws.LoopsLaws.{along_silent_refl}
use Rattle.silent.specs.Inner.Loops.{SpreadTo, ClosedTo}

-- ---- the turns of a pass

-- Each place has its turn,
pub turn_exists : (b : Bool) (begin end t : ℕ) → begin ≤ t → t < end
    → (j : ℕ) × (begin ≤ j) × (j < end) × (turn_place b begin end j ≡ t)
turn_exists true begin end t l u = (begin + (end - 1 - t), omega arith, omega arith, omega arith)
turn_exists false begin end t l u = (t, l, u, refl)

-- and so each silent step.
turn_of_step : {from sources targets : List ℕ} (b : Bool) {begin end p q : ℕ} → begin ≡ get_or from action_limit 0
    → end ≡ get_or from (action_limit + 1) 0 → TickLabel from sources targets p q
    → (j : ℕ) × (begin ≤ j) × (j < end) × (get_or sources (turn_place b begin end j) 0 ≡ p)
    × (get_or targets (turn_place b begin end j) 0 ≡ q)
turn_of_step {from} {sources} {targets} b {begin} {end} d e s =
    let r = turn_exists b begin end s.place (omega (arith, d, s.from_le)) (omega (arith, e, s.place_lt)) in (
      r.0,
      r.1,
      r.2,
      ap (λ (y : ℕ). get_or sources y 0) r.3 ∙ s.source_is,
      ap (λ (y : ℕ). get_or targets y 0) r.3 ∙ s.target_is,
    )

-- Its source and its target are states.
pub turn_states_lt : {n end at : ℕ} {from sources targets : List ℕ} → LabelList n from sources targets
    → end ≡ get_or from (action_limit + 1) 0 → at < end
    → (get_or sources at 0 < state_limit) × (get_or targets at 0 < state_limit)
turn_states_lt {at = at} L e l =
    let s = L.source_lt at (omega (arith, e, l)) in
    let t = L.target_lt at (omega (arith, e, l)) in
    (omega (arith, s, L.states_le), omega (arith, t, L.states_le))

module _ {n : ℕ} {from sources targets : List ℕ} {b : Bool} where
  pub spread_to_none : {sets : List ℕ} (begin end : ℕ) → OfStates n sets
      → SpreadTo from sources targets n b begin end begin sets sets
  spread_to_none begin end o = record {
    kept = λ p x m. m;
    along = λ j x l u m. absurd (omega arith);
    silent = along_silent_refl o;
  }

  pub spread_to_suc : {begin end i at : ℕ} {entry sets exit : List ℕ} → LabelList n from sources targets
      → begin ≡ get_or from action_limit 0 → end ≡ get_or from (action_limit + 1) 0
      → (at ≡ turn_place b begin end i) × (begin ≤ at) × (at < end)
      → Joined (get_or sources at 0) (Member sets (get_or targets at 0)) sets exit
      → SpreadTo from sources targets n b begin end i entry sets
      → SpreadTo from sources targets n b begin end (i + 1) entry exit
  spread_to_suc {begin} {end} {i} {at} {entry} {sets} {exit} L d e (at-is, lo, hi) J h = record {
    kept = λ p x m. J.kept p x (h.kept p x m);
    along = λ k x l u m. along k x l u m (eq_or_not k i);
    silent = record { only = λ p x l m. only p x l (J.only p x m) };
  }
    where
      along : (k x : ℕ) → begin ≤ k → k < i + 1 → Member entry (get_or targets (turn_place b begin end k) 0) x
          → (k ≡ i) ⊎ ¬ (k ≡ i) → Member exit (get_or sources (turn_place b begin end k) 0) x
      along k x l u m (inl f) =
          let g : turn_place b begin end k ≡ at = ap (turn_place b begin end) f ∙ sym at-is in
          subst (λ (y : ℕ). Member exit (get_or sources y 0) x) (sym g)
          (J.joined x (h.kept (get_or targets at 0) x
          (subst (λ (y : ℕ). Member entry (get_or targets y 0) x) g m)))
      along k x l u m (inr f) =
          J.kept (get_or sources (turn_place b begin end k) 0) x (h.along k x l (omega arith) m)

      only : (p x : ℕ) → p < state_limit
          → Member sets p x ⊎ ((p ≡ get_or sources at 0) × Member sets (get_or targets at 0) x)
          → (q : ℕ) × Silent (TickLabel from sources targets) n p q × Member entry q x
      only p x l (inl m) = h.silent.only p x l m
      only p x l (inr (f, m)) =
          let k = L.target_lt at (omega (arith, hi, e)) in
          let r = h.silent.only (get_or targets at 0) x (omega (arith, k, L.states_le)) m in
          let s : LabelStep from sources targets action_limit p (get_or targets at 0) = record {
            place = at;
            from_le = omega (arith, lo, d);
            place_lt = omega (arith, hi, e);
            source_is = sym f;
            target_is = refl;
          } in
          (r.0, tick s r.1, r.2)

  pub passed_to→SpreadOnce : {begin end i : ℕ} {entry sets : List ℕ} → begin ≡ get_or from action_limit 0
      → end ≡ get_or from (action_limit + 1) 0 → end ≤ i → SpreadTo from sources targets n b begin end i entry sets
      → SpreadOnce (TickLabel from sources targets) n entry sets
  passed_to→SpreadOnce {begin} {end} {i} {entry} {sets} d e l h = record {
    kept = h.kept;
    along = λ p q x s m.
        let r = turn_of_step b d e s in
        subst (λ (y : ℕ). Member sets y x) r.3 (h.along r.0 x r.1 (omega (arith, r.2, l))
        (subst (λ (y : ℕ). Member entry y x) (sym r.4) m));
    only = h.silent.only;
  }

-- ---- the flag of a pass

module _ {sources targets : List ℕ} {b : Bool} where
  pub closed_to_none : {again : Bool} {marks sets : List ℕ} (begin end : ℕ) → length marks ≡ state_limit
      → ClosedTo sources targets b begin end begin again marks sets
  closed_to_none begin end e = record {
    marks_length = e;
    marked = λ j l u. absurd (omega arith);
    along = λ e j x l u m. absurd (omega arith);
  }

  -- No turn before misses a member that the set of this one's source has got: it was not read, or has not grown.
  pub closed_to_suc : {begin end i at : ℕ} {again after : Bool} {marks sets exit : List ℕ} → at ≡ turn_place b begin
      end i
      → get_or targets at 0 < state_limit → Joined (get_or sources at 0) (Member sets (get_or targets at 0)) sets exit
      → (after ≡ false → (again ≡ false) × (get_or marks (get_or sources at 0) 0 ≡ 1 → exit ≡ sets))
      → ClosedTo sources targets b begin end i again marks sets
      → ClosedTo sources targets b begin end (i + 1) after (set marks (get_or targets at 0) 1) exit
  closed_to_suc {begin} {end} {i} {at} {again} {after} {marks} {sets} {exit} at-is fits w told h = record {
    marks_length = length-set marks q 1 ∙ h.marks_length;
    marked = λ j l u. marked j l u (eq_or_not (target j) q);
    along = λ e j x l u m. along (told e).0 (told e).1 j x l u m (eq_or_not j i);
  }
    where
      source : ℕ → ℕ
      source j = get_or sources (turn_place b begin end j) 0

      target : ℕ → ℕ
      target j = get_or targets (turn_place b begin end j) 0

      p : ℕ
      p = get_or sources at 0

      q : ℕ
      q = get_or targets at 0

      here : {j : ℕ} → j ≡ i → at ≡ turn_place b begin end j
      here f = at-is ∙ ap (turn_place b begin end) (sym f)

      earlier : (j : ℕ) → j < i + 1 → ¬ (target j ≡ q) → j < i
      earlier j u d = go (eq_or_not j i)
        where
          go : (j ≡ i) ⊎ ¬ (j ≡ i) → j < i
          go (inl f) = absurd (d (ap (λ (y : ℕ). get_or targets y 0) (sym (here f))))
          go (inr f) = omega (arith, u, f)

      marked : (j : ℕ) → begin ≤ j → j < i + 1 → (target j ≡ q) ⊎ ¬ (target j ≡ q)
          → get_or (set marks q 1) (target j) 0 ≡ 1
      marked j l u (inl f) =
          ap (λ (y : ℕ). get_or (set marks q 1) y 0) f
          ∙ get_or-set_same marks q 1 0 (omega (arith, fits, h.marks_length))
      marked j l u (inr f) = get_or-set_other marks q (target j) 1 0 f ∙ h.marked j l (earlier j u f)

      -- the set of an earlier turn's target
      before : again ≡ false → (get_or marks p 0 ≡ 1 → exit ≡ sets) → (j x : ℕ) → begin ≤ j → j < i
          → Member exit (target j) x → Member sets (target j) x ⊎ ((target j ≡ p) × Member sets q x)
          → Member exit (source j) x
      before g same j x l u m (inl o) = w.kept (source j) x (h.along g j x l u o)
      before g same j x l u m (inr (f, o)) =
          let e : exit ≡ sets = same (ap (λ (y : ℕ). get_or marks y 0) (sym f) ∙ h.marked j l u) in
          subst (λ (s : List ℕ). Member s (source j) x) (sym e)
          (h.along g j x l u (subst (λ (s : List ℕ). Member s (target j) x) e m))

      -- that of this one's
      last : (x : ℕ) → Member sets q x ⊎ ((q ≡ p) × Member sets q x) → Member exit p x
      last x (inl o) = w.joined x o
      last x (inr (f, o)) = w.joined x o

      along : again ≡ false → (get_or marks p 0 ≡ 1 → exit ≡ sets) → (j x : ℕ) → begin ≤ j → j < i + 1
          → Member exit (target j) x → (j ≡ i) ⊎ ¬ (j ≡ i) → Member exit (source j) x
      along g same j x l u m (inl f) =
          subst (λ (y : ℕ). Member exit (get_or targets y 0) x → Member exit (get_or sources y 0) x) (here f)
          (λ v. last x (w.only q x v)) m
      along g same j x l u m (inr f) = before g same j x l (omega (arith, u, f)) m (w.only (target j) x m)

  pub closed_to→ClosedUnder : {from : List ℕ} {begin end i : ℕ} {again : Bool} {marks sets : List ℕ}
      → begin ≡ get_or from action_limit 0 → end ≡ get_or from (action_limit + 1) 0 → end ≤ i
      → ClosedTo sources targets b begin end i again marks sets → again ≡ false
      → ClosedUnder (TickLabel from sources targets) sets
  closed_to→ClosedUnder {sets = sets} d e l h g = record {
    along = λ p q x s m.
        let r = turn_of_step b d e s in
        subst (λ (y : ℕ). Member sets y x) r.3 (h.along g r.0 x r.1 (omega (arith, r.2, l))
        (subst (λ (y : ℕ). Member sets y x) (sym r.4) m));
  }
