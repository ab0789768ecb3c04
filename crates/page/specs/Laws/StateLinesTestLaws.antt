-- The computed `C` lines are the `C` lines.
-- Document 01, "The page". Assumes nothing.
use Rattle.std.specs.Prelude.{Bool, not, cond, List, ◌⊎◌, T, ltb}
use Rattle.std.proofs.Common.{inl, inr, ⊎_elim, sym, subst, arith, T_not, eqb→eq, lt-ltb, le-ltb}
use Rattle.std.proofs.Math.Option.{none, some}
use Prim.Native.Nat.{ℕ, zero, suc, ◌-◌, ◌≤◌, ◌<◌}
use Rattle.lts.specs.Alike.{Rank, bisimilar}
use Rattle.lts.proofs.AlikeLaws.{rank_unique, bisimilar_refl}
use Rattle.lts.proofs.DistanceLaws.{distance_of_least}
use Rattle.lts.specs.Tests.{Each, Least}
use Rattle.lts.proofs.TestsLaws.{T_cases, T-eqb, T→true, not-T→false, lt-suc_cases}
use Rattle.text.specs.Model.{Model}
use Rattle.model.specs.Inner.Stored.{Stored}
use Rattle.model.specs.Inner.StepTest.{tests}
use Rattle.model.specs.Laws.System.StepTestLaws.{decided_view}
use Rattle.verdicts.specs.Inner.VerdictTest.{rank_in}
use Rattle.verdicts.proofs.Laws.VerdictTestLaws.{rank_in→Rank, Reachable→reachable?}
use Rattle.lines.specs.Page.{DistanceField, unreached, reached, ClassOf, StateLines, no_state, next_state}
use Rattle.page.specs.Inner.StateLinesTest.{least_passing, near?, rank_zero?, state_lines_of}
use Rattle.model.specs.System.{view}
use Rattle.lts.specs.Weak.{WeakMove}

-- ---- the least number that passes

-- The number is the least below n that passes f, or it is n and none does.
data LeastUpTo (n : ℕ) (f : ℕ → Bool) : ℕ → Type 0 where
  found : {i : ℕ} → i < n → Least f i → LeastUpTo n f i
  nowhere : Each n (λ i. not (f i)) → LeastUpTo n f n

least_up_to-suc : (n : ℕ) (f : ℕ → Bool) {i : ℕ} → LeastUpTo n f i
    → LeastUpTo (suc n) f (cond (ltb i n) i (cond (f n) n (suc n)))
least_up_to-suc n f (found {i = i} l x) = rw (lt-ltb i n l) (found {i = i} (omega arith) x)
least_up_to-suc n f (nowhere x) = rw (le-ltb n n (omega arith)) (go (T_cases (f n)))
  where
    go : T (f n) ⊎ T (not (f n)) → LeastUpTo (suc n) f (cond (f n) n (suc n))
    go (inl t) = rw (T→true (f n) t) (found {i = n} (omega arith) (record { passes = t; none_below = x }))
    go (inr t) = rw (not-T→false (f n) t) (nowhere (λ i l.
        ⊎_elim (λ e. subst (λ (j : ℕ). T (not (f j))) (sym e) t) (x i) (lt-suc_cases l)))

least_passing_least : (n : ℕ) (f : ℕ → Bool) → LeastUpTo n f (least_passing n f)
unfolding least_passing
least_passing_least zero f = nowhere (λ i l. absurd (omega arith))
least_passing_least (suc n) f = least_up_to-suc n f (least_passing_least n f)

-- ---- the fields of a line

module _ {s : List ℕ} {m : Model} (st : Stored s m) where
  distance_field_of_least : (p d : ℕ) → LeastUpTo m.head.states (near? m p) d
      → DistanceField m p (cond (ltb d m.head.states) (some d) none)
  distance_field_of_least p d (found l x) = rw (lt-ltb d m.head.states l)
      (reached (distance_of_least (view m) (tests m) (decided_view st) p d x))
  distance_field_of_least p _ (nowhere x) = rw (le-ltb m.head.states m.head.states (omega arith))
      (unreached (λ r. T_not (near? m p (m.head.states - 1)) (x (m.head.states - 1) (omega (arith, st.states_pos)))
      (Reachable→reachable? st p r)))

  not_rank_zero?→not_Rank : (p q : ℕ) → p < m.head.states → q < m.head.states → T (not (rank_zero? m p q))
      → ¬ (Rank (WeakMove (view m)) p q 0)
  not_rank_zero?→not_Rank p q lp lq t r = T_not (rank_zero? m p q) t
      (T-eqb (rank_unique (WeakMove (view m)) p q (rank_in m p q) 0 (rank_in→Rank st p q lp lq) r))

  class_of_of_least : (p c : ℕ) → p < m.head.states → LeastUpTo p (rank_zero? m p) c → ClassOf m p c
  class_of_of_least p c lp (found l x) = record {
    class_among = omega arith;
    rank_zero = subst (Rank (WeakMove (view m)) p c) (eqb→eq (rank_in m p c) 0 x.passes)
        (rank_in→Rank st p c lp (omega arith));
    lowest = λ q k _. not_rank_zero?→not_Rank p q lp (omega arith) (x.none_below q k);
  }
  class_of_of_least p _ lp (nowhere x) = record {
    class_among = lp;
    rank_zero = bisimilar (bisimilar_refl (WeakMove (view m)) p);
    lowest = λ q k _. not_rank_zero?→not_Rank p q lp (omega arith) (x q k);
  }

  -- ---- the lines

  pub state_lines_of_lines : (n : ℕ) → n ≤ m.head.states → StateLines m n (state_lines_of m n)
  unfolding state_lines_of
  state_lines_of_lines zero l = no_state
  state_lines_of_lines (suc n) l = next_state (state_lines_of_lines n (omega arith))
      (distance_field_of_least n _ (least_passing_least m.head.states (near? m n)))
      (class_of_of_least n _ (omega arith) (least_passing_least n (rank_zero? m n)))
