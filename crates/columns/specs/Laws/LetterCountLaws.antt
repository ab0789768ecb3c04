-- The letters are as many as the depth says where no silent step can be reached, and none where one can.
-- Document 02, (vii). Assumes nothing.
use Rattle.std.specs.Prelude.{Bool, true, false, not, List, ◌⊎◌, ◌≡◌, ℕ, ◌-◌, ◌≤◌, length}
use Rattle.std.proofs.Math.Bool.{cond}
use Rattle.std.proofs.Common.{inl, inr, arith}
use Rattle.std.proofs.Math.Path.{ap}
use Rattle.std.proofs.Math.Dec.{T, eqb, eqb→eq}
use Rattle.lts.proofs.DistanceLaws.{Reachable→within?, within?→Reachable}
use Rattle.lts.specs.Tests.{any}
use Rattle.lts.proofs.TestsLaws.{T_cases, T→true, not-T→false, T-eqb, and_intro, and_left, and_right}
use Rattle.lts.proofs.TestsLaws.{any→Some, Some→any}
use Rattle.text.specs.Model.{Model, silent}
use Rattle.model.specs.Inner.StepTest.{tests}
use Rattle.model.specs.Inner.Stored.{Stored}
use Rattle.model.specs.Laws.System.StepTestLaws.{decided_view}
use Rattle.model.specs.System.{source, action, level, SilentStep, NoSilentStep, view}
use Rattle.verdicts.specs.Inner.VerdictTest.{reachable?}
use Rattle.columns.specs.Inner.LineCount.{silent_step?, letter_count}

pub letter_count_le : (m : Model) (depth : ℕ) → letter_count m depth ≤ depth
unfolding letter_count
letter_count_le m depth = go (any (length m.steps) (silent_step? m))
  where
    go : (b : Bool) → cond b 0 depth ≤ depth
    go true = omega arith
    go false = omega arith

module _ {s : List ℕ} {m : Model} (st : Stored s m) where
  pub letter_count_silent : (j : ℕ) → SilentStep m j → (depth : ℕ) → letter_count m depth ≡ 0
  unfolding letter_count
  letter_count_silent j x depth =
      let t = and_intro (eqb (level m (action m j)) silent) (reachable? m (source m j)) (T-eqb x.is_silent)
      (Reachable→within? (view m) (tests m) (decided_view st) (source m j) x.reachable) in
      ap (λ (b : Bool). cond b 0 depth)
      (T→true (any (length m.steps) (silent_step? m))
      (Some→any (length m.steps) (silent_step? m) j x.number_lt t))

  pub letter_count_still : NoSilentStep m → (depth : ℕ) → letter_count m depth ≡ depth
  unfolding letter_count
  letter_count_still none depth = go (T_cases (any (length m.steps) (silent_step? m)))
    where
      go : T (any (length m.steps) (silent_step? m)) ⊎ T (not (any (length m.steps) (silent_step? m)))
          → cond (any (length m.steps) (silent_step? m)) 0 depth ≡ depth
      go (inl t) =
          let x = any→Some (length m.steps) (silent_step? m) t in
          let j = x.0 in
          let a = eqb (level m (action m j)) silent in
          let b = reachable? m (source m j) in
          absurd (none j (record {
            number_lt = x.1;
            is_silent = eqb→eq (level m (action m j)) silent (and_left a b x.2);
            reachable = within?→Reachable (view m) (tests m) (decided_view st) (m.head.states - 1) (source m j)
                (and_right a b x.2);
          }))
      go (inr t) = ap (λ (b : Bool). cond b 0 depth) (not-T→false (any (length m.steps) (silent_step? m)) t)
