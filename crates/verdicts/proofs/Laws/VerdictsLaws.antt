-- The verdict is pinned: a model has one. It is passed exactly when BNID holds.
-- Document 01, operation 4; definition 22 of source 000. Assumes nothing.
use Rattle.std.specs.Prelude.{List, ◌↔◌, ◌≡◌, ℕ, ◌<◌}
use Rattle.std.proofs.Common.{⊎_elim, sym, ap, subst, ◌∙◌, arith, eqb→eq}
use Rattle.lts.specs.Alike.{Rank, bisimilar, Bisimilar}
use Rattle.lts.proofs.AlikeLaws.{rank_unique, bisimilar_of_rank}
use Rattle.lts.proofs.TestsLaws.{lt_or_le}
use Rattle.lts.specs.Noninterference.{BNID}
use Rattle.lts.specs.Checked.{weak_rank}
use Rattle.lts.proofs.CheckedLaws.{weak_rank→Rank}
use Rattle.text.specs.Model.{high, Model}
use Rattle.model.specs.System.{source, action, target, level, HighStep, ReachableIn, IsState, view}
use Rattle.model.specs.Laws.Store.SystemLaws.{own_step}
use Rattle.verdicts.specs.declared.judging.Verdict.{Verdict}
use Rattle.verdicts.specs.declared.judging.Verdict.TheVariants.{Passed, Refused}
use Rattle.model.specs.Inner.Stored.{Stored}
use Rattle.lts.proofs.TestsLaws.{T-eqb}
use Rattle.model.proofs.Laws.System.RankBoundLaws.{actions_le_silent_label, stored_rank_lt}
use Rattle.model.specs.Laws.System.StepTestLaws.{decided_view}
use Rattle.ranking.specs.Table.{Greatest}
use Rattle.ranking.specs.Laws.RankedLaws.{greatest_unique}
use Rattle.verdicts.specs.Verdicts.{Leak, PassedWith, RefusedAt, Judged}
use Rattle.model.specs.Inner.StepTest.{tests}
use Rattle.lts.specs.Weak.{WeakMove}

-- the verdict is passed, or refused, with whatever numbers
abbrev pub IsPassed : Verdict → Type 0
IsPassed (Passed top) = Unit {0}
IsPassed (Refused j d) = ⊥

abbrev pub IsRefused : Verdict → Type 0
IsRefused (Passed top) = ⊥
IsRefused (Refused j d) = Unit {0}

-- ---- leaks and BNID

module _ (m : Model) where
  pub no_leak_of_bnid : BNID (view m) → (j d : ℕ) → ¬ (Leak m j d)
  no_leak_of_bnid b j d x =
      let pair = b (source m j) (action m j) (target m j) x.high_step.reachable (T-eqb x.high_step.is_high)
      (own_step m j x.high_step.number_lt) in
      let e : d ≡ 0 = rank_unique (WeakMove (view m)) (source m j) (target m j) d 0 x.rank (bisimilar pair) in
      omega (arith, x.above_zero)

  module _ {s : List ℕ} (st : Stored s m) where
    -- two states have a rank
    pub rank_of_states : (p q : ℕ) → p < m.head.states → q < m.head.states
        → (r : ℕ) × Rank (WeakMove (view m)) p q r
    rank_of_states p q lp lq = (
      weak_rank (view m) (tests m) p q,
      weak_rank→Rank (view m) (tests m) (decided_view st) (actions_le_silent_label st) p q lp lq,
    )

    pub bnid_of_no_leak : ((j d : ℕ) → ¬ (Leak m j d)) → BNID (view m)
    bnid_of_no_leak h p a q r t x =
        subst (λ (y : ℕ). Bisimilar (WeakMove (view m)) y q) x.source_is
        (subst (λ (y : ℕ). Bisimilar (WeakMove (view m)) (source m j) y) x.target_is
        (pair
        (rank_of_states (source m j) (target m j) (st.source_lt j x.number_lt) (st.target_lt j x.number_lt))))
      where
        j : ℕ
        j = x.number

        high_step : HighStep m j
        high_step = record {
          number_lt = x.number_lt;
          is_high = ap (level m) x.action_is ∙ eqb→eq (level m a) high t;
          reachable = subst (ReachableIn m) (sym x.source_is) r;
        }

        pair : ((k : ℕ) × Rank (WeakMove (view m)) (source m j) (target m j) k)
            → Bisimilar (WeakMove (view m)) (source m j) (target m j)
        pair (k, w) = ⊎_elim
            (λ l. absurd (h j k (record { high_step = high_step; rank = w; above_zero = l })))
            (λ l. bisimilar_of_rank (WeakMove (view m)) (source m j) (target m j) k (omega arith) w)
            (lt_or_le 0 k)

    pub passed_of_no_leak : {top : ℕ} → ((j d : ℕ) → ¬ (Leak m j d)) → Greatest (WeakMove (view m)) (IsState m) top
        → PassedWith m top
    passed_of_no_leak h g = record { bnid = bnid_of_no_leak h; greatest = g }

  -- ---- one verdict

  pub passed_not_refused : (top j d : ℕ) → PassedWith m top → ¬ (RefusedAt m j d)
  passed_not_refused top j d p r = no_leak_of_bnid p.bnid j d r.leak

  pub refused_at_unique : (i j d e : ℕ) → RefusedAt m i d → RefusedAt m j e → (i ≡ j) × (d ≡ e)
  refused_at_unique i j d e x y =
      let a = x.least j e y.leak in
      let b = y.least i d x.leak in
      let c : d ≡ e = omega arith in
      let f = x.lowest j (subst (Leak m j) (sym c) y.leak) in
      let g = y.lowest i (subst (Leak m i) c x.leak) in
      (omega arith, c)

  pub judged_unique : (v w : Verdict) → Judged m v → Judged m w → v ≡ w
  judged_unique (Passed top) (Passed top') x y =
      ap Passed (greatest_unique (WeakMove (view m)) (IsState m) top top' x.greatest y.greatest)
  judged_unique (Passed top) (Refused j d) x y = absurd (passed_not_refused top j.0 d x y)
  judged_unique (Refused j d) (Passed top) x y = absurd (passed_not_refused top j.0 d y x)
  judged_unique (Refused i d) (Refused j e) x y =
      let u = refused_at_unique i.0 j.0 d e x y in
      ap (λ (k : ℕ). Refused (record { 0 = k }) d) u.0 ∙ ap (Refused j) u.1

  -- ---- passed exactly when BNID

  pub passed↔BNID : (v : Verdict) → Judged m v → IsPassed v ↔ BNID (view m)
  passed↔BNID (Passed top) x = (λ _. x.bnid, λ _. tt)
  passed↔BNID (Refused j d) x = (λ n. absurd n, λ b. no_leak_of_bnid b j.0 d x.leak)

  pub refused↔¬BNID : (v : Verdict) → Judged m v → IsRefused v ↔ (¬ (BNID (view m)))
  refused↔¬BNID (Passed top) x = (λ n. absurd n, λ n. n x.bnid)
  refused↔¬BNID (Refused j d) x = (λ _ b. no_leak_of_bnid b j.0 d x.leak, λ _. tt)

-- ---- the depth

-- It is a rank, so it is below the number of states.
pub depth_lt : {s : List ℕ} {m : Model} → Stored s m → {j depth : ℕ} → RefusedAt m j depth → depth < m.head.states
depth_lt st {j} refused =
    let l = refused.leak.high_step.number_lt in
    stored_rank_lt st (st.source_lt j l) (st.target_lt j l) refused.leak.rank
