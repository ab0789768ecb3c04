-- The computed verdict is the verdict, so every model of a good store has one.
-- Document 01, operations 3 and 4. Assumes nothing.
use Rattle.std.specs.Prelude.{not, cond, List, ◌⊎◌, ◌≡◌, refl, T, eqb, ltb, length}
use Rattle.std.proofs.Common.{inl, inr, ⊎_elim, sym, ap, ◌∙◌, add-one, arith, T_not, eqb→eq, lt-ltb, le-ltb}
use Rattle.std.proofs.Math.Path.{subst}
use Prim.Native.Nat.{ℕ, zero, suc, ◌+◌, ◌-◌, ◌≤◌, ◌<◌}
use Rattle.lts.specs.Alike.{Rank}
use Rattle.lts.proofs.AlikeLaws.{rank_unique}
use Rattle.lts.proofs.TestsLaws.{T_cases, T→true, and_intro, and_left, and_right, not-T→false, lt-suc_cases, lt_or_le}
use Rattle.lts.proofs.CheckedLaws.{weak_rank→Rank}
use Rattle.lts.proofs.DistanceLaws.{Reachable→within?, within?→Reachable}
use Rattle.text.specs.Model.{high, Model}
use Rattle.model.specs.System.{source, action, target, level, ReachableIn, IsState, view}
use Rattle.model.specs.Inner.Stored.{Stored}
use Rattle.lts.proofs.TestsLaws.{T-eqb}
use Rattle.model.specs.Inner.StepTest.{tests}
use Rattle.model.proofs.Laws.System.RankBoundLaws.{actions_le_silent_label}
use Rattle.model.specs.Laws.System.StepTestLaws.{decided_view}
use Rattle.ranking.specs.Table.{Greatest}
use Rattle.verdicts.specs.Verdicts.{Leak, Judged}
use Rattle.verdicts.proofs.Laws.VerdictsLaws.{passed_of_no_leak}
use Rattle.verdicts.specs.Inner.LeakSearch.{DepthAt, FoundBelow}
use Rattle.verdicts.specs.Laws.LeakSearchLaws.{found_zero, found_skip, found_keep, found_new}
use Rattle.verdicts.specs.Laws.LeakSearchLaws.{refused_of_found, no_leak_of_found}
use Rattle.verdicts.specs.Inner.VerdictTest.{rank_in, reachable?, greatest_below, greatest_rank, high_step?}
use Rattle.verdicts.specs.Inner.VerdictTest.{depth_at, LeastDepth}
use Rattle.verdicts.specs.Inner.VerdictTest.{look_at, least_below, verdict_from, verdict_of}
use Rattle.lts.specs.Weak.{WeakMove}

not_eqb : (i j : ℕ) → T (not (eqb i j)) → ¬ (i ≡ j)
not_eqb i j t e = T_not (eqb i j) t (T-eqb e)

-- ---- the greatest number

greatest_step : (g x : ℕ) → (g ≤ cond (ltb g x) x g) × (x ≤ cond (ltb g x) x g)
    × ((cond (ltb g x) x g ≡ x) ⊎ (cond (ltb g x) x g ≡ g))
greatest_step g x = ⊎_elim
    (λ l. rw (lt-ltb g x l) (omega arith, omega arith, inl refl))
    (λ l. rw (le-ltb g x l) (omega arith, omega arith, inr refl))
    (lt_or_le g x)

pub greatest_below_le : (n : ℕ) (f : ℕ → ℕ) (i : ℕ) → i < n → f i ≤ greatest_below n f
unfolding greatest_below
greatest_below_le zero f i l = absurd (omega arith)
greatest_below_le (suc n) f i l =
    let s = greatest_step (greatest_below n f) (f n) in
    let ih = greatest_below_le n f i in
    ⊎_elim (λ e. omega (arith, ap f e, s.1)) (λ k. omega (arith, ih k, s.0)) (lt-suc_cases l)

pub greatest_below-attained : (n : ℕ) (f : ℕ → ℕ) → (i : ℕ) × (i < suc n) × (f i ≡ greatest_below (suc n) f)
unfolding greatest_below
greatest_below-attained zero f =
    let s = greatest_step 0 (f 0) in
    let e : f 0 ≡ cond (ltb 0 (f 0)) (f 0) 0 = ⊎_elim sym (λ z. omega (arith, s.1, z)) s.2 in
    (0, omega arith, e)
greatest_below-attained (suc n) f =
    go (greatest_below-attained n f) (greatest_step (greatest_below (suc n) f) (f (suc n))).2
  where
    g : ℕ
    g = cond (ltb (greatest_below (suc n) f) (f (suc n))) (f (suc n)) (greatest_below (suc n) f)

    go : ((i : ℕ) × (i < suc n) × (f i ≡ greatest_below (suc n) f)) → (g ≡ f (suc n)) ⊎ (g ≡ greatest_below (suc n) f)
        → (i : ℕ) × (i < suc (suc n)) × (f i ≡ g)
    go x (inl e) = (suc n, omega arith, sym e)
    go x (inr e) = (x.0, omega (arith, x.1), x.2 ∙ sym e)

attained : (n : ℕ) (f : ℕ → ℕ) → 0 < n → (i : ℕ) × (i < n) × (f i ≡ greatest_below n f)
attained zero f l = absurd (omega arith)
attained (suc n) f l = greatest_below-attained n f

module _ {s : List ℕ} {m : Model} (st : Stored s m) where
  pub rank_in→Rank : (p q : ℕ) → p < m.head.states → q < m.head.states → Rank (WeakMove (view m)) p q (rank_in m p q)
  rank_in→Rank = weak_rank→Rank (view m) (tests m) (decided_view st) (actions_le_silent_label st)

  pub greatest_rank_greatest : Greatest (WeakMove (view m)) (IsState m) (greatest_rank m)
  greatest_rank_greatest =
      let n = m.head.states in
      let x = attained n (λ p. greatest_below n (rank_in m p)) st.states_pos in
      let y = attained n (rank_in m x.0) st.states_pos in
      record {
        attained = record {
          one = x.0;
          other = y.0;
          one_among = x.1;
          other_among = y.1;
          holds = subst (Rank (WeakMove (view m)) x.0 y.0) (y.2 ∙ x.2)
              (rank_in→Rank x.0 y.0 x.1 y.1);
        };
        bound = λ p q k lp lq r.
            let e = rank_unique (WeakMove (view m)) p q k (rank_in m p q) r (rank_in→Rank p q lp lq) in
            omega (
              arith,
              e,
              greatest_below_le n (rank_in m p) q lq,
              greatest_below_le n (λ p. greatest_below n (rank_in m p)) p lp,
            );
      }

  -- ---- the depth of a step

  pub reachable?→Reachable : (p : ℕ) → T (reachable? m p) → ReachableIn m p
  reachable?→Reachable p t = within?→Reachable (view m) (tests m) (decided_view st) (m.head.states - 1) p t

  pub Reachable→reachable? : (p : ℕ) → ReachableIn m p → T (reachable? m p)
  Reachable→reachable? p r = Reachable→within? (view m) (tests m) (decided_view st) p r

  leak_high : (j d : ℕ) → Leak m j d → T (high_step? m j)
  leak_high j d x = and_intro (eqb (level m (action m j)) high) (reachable? m (source m j))
      (T-eqb x.high_step.is_high) (Reachable→reachable? (source m j) x.high_step.reachable)

  depth_at_is : (j : ℕ) → j < length m.steps → DepthAt m j (depth_at m j)
  depth_at_is j l = go (T_cases (high_step? m j))
    where
      r : ℕ
      r = rank_in m (source m j) (target m j)

      rank : Rank (WeakMove (view m)) (source m j) (target m j) r
      rank = rank_in→Rank (source m j) (target m j) (st.source_lt j l) (st.target_lt j l)

      at_high : T (high_step? m j) → DepthAt m j r
      at_high t = record {
        none = λ z d x.
            let e = rank_unique (WeakMove (view m)) (source m j) (target m j) r d rank x.rank in
            omega (arith, x.above_zero);
        some = λ z. record {
          high_step = record {
            number_lt = l;
            is_high = eqb→eq (level m (action m j)) high
                (and_left (eqb (level m (action m j)) high) (reachable? m (source m j)) t);
            reachable = reachable?→Reachable (source m j)
                (and_right (eqb (level m (action m j)) high) (reachable? m (source m j)) t);
          };
          rank = rank;
          above_zero = omega arith;
        };
      }

      go : T (high_step? m j) ⊎ T (not (high_step? m j)) → DepthAt m j (cond (high_step? m j) r 0)
      go (inl t) = rw (T→true (high_step? m j) t) (at_high t)
      go (inr t) = rw (not-T→false (high_step? m j) t)
          (record { none = λ _ d x. T_not (high_step? m j) t (leak_high j d x); some = λ z. absurd (z refl) })

  -- ---- the search

  look_found : (n e : ℕ) (found : LeastDepth) → FoundBelow m n found.step found.depth → DepthAt m n e
      → FoundBelow m (n + 1) (look_at n e found).step (look_at n e found).depth
  look_found n e found f d = by_depth (T_cases (eqb e 0)) (T_cases (eqb found.depth 0)) (lt_or_le e found.depth)
    where
      New : LeastDepth → Type 0
      New x = FoundBelow m (n + 1) x.step x.depth

      by_depth : T (eqb e 0) ⊎ T (not (eqb e 0)) → T (eqb found.depth 0) ⊎ T (not (eqb found.depth 0))
          → (e < found.depth) ⊎ (found.depth ≤ e) → New (look_at n e found)
      by_depth (inl t) y z = rw (T→true (eqb e 0) t) (found_skip f (d.none (eqb→eq e 0 t)))
      by_depth (inr t) (inl u) z =
          rw (not-T→false (eqb e 0) t, T→true (eqb found.depth 0) u)
          (found_new f (d.some (not_eqb e 0 t)) (inl (eqb→eq found.depth 0 u)))
      by_depth (inr t) (inr u) (inl z) =
          rw (not-T→false (eqb e 0) t, not-T→false (eqb found.depth 0) u, lt-ltb e found.depth z)
          (found_new f (d.some (not_eqb e 0 t)) (inr z))
      by_depth (inr t) (inr u) (inr z) =
          rw (not-T→false (eqb e 0) t, not-T→false (eqb found.depth 0) u, le-ltb e found.depth z)
          (found_keep f (d.some (not_eqb e 0 t)) (not_eqb found.depth 0 u) z)

  least_below_found : (n : ℕ) → n ≤ length m.steps → FoundBelow m n (least_below m n).step (least_below m n).depth
  unfolding least_below
  least_below_found zero l = found_zero 0
  least_below_found (suc n) l =
      subst (λ (k : ℕ). FoundBelow m k (least_below m (suc n)).step (least_below m (suc n)).depth) (add-one n)
      (look_found n (depth_at m n) (least_below m n) (least_below_found n (omega arith)) (depth_at_is n (omega arith)))

  -- ---- the verdict

  pub verdict_of_judged : Judged m (verdict_of m)
  verdict_of_judged = go (least_below m (length m.steps)) (least_below_found (length m.steps) (omega arith))
    where
      go : (found : LeastDepth) → FoundBelow m (length m.steps) found.step found.depth
          → Judged m (verdict_from (greatest_rank m) found)
      go found f = by_depth (T_cases (eqb found.depth 0))
        where
          by_depth : T (eqb found.depth 0) ⊎ T (not (eqb found.depth 0))
              → Judged m (verdict_from (greatest_rank m) found)
          by_depth (inl t) = rw (T→true (eqb found.depth 0) t) (passed_of_no_leak m st
              (no_leak_of_found (omega arith) f (eqb→eq found.depth 0 t)) greatest_rank_greatest)
          by_depth (inr t) = rw (not-T→false (eqb found.depth 0) t)
              (refused_of_found (omega arith) f (not_eqb found.depth 0 t))
