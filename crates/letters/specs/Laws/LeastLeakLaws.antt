-- A model in a store without a reachable silent step: if it is deterministic, BNID is INI (theorem 4 of source 000);
-- and no low sequence possible from just one end of a reachable high step is shorter than the depth at which the model
-- is refused. Document 01, "The meaning" and operation 4; document 02, (vii). Assumes nothing.
use Rattle.std.specs.Prelude.{List, ◌↔◌, ◌≡◌, ℕ, ◌≤◌, ◌<◌, length}
use Rattle.std.proofs.Common.{⊎_elim, arith}
use Rattle.lts.proofs.TestsLaws.{lt_or_le}
use Rattle.lts.specs.Alike.{Rank}
use Rattle.lts.proofs.AlikeLaws.{bisimilar_of_rank, separated_of_rank}
use Rattle.lts.specs.Noninterference.{Low, BNID, INI}
use Rattle.lts.proofs.NoninterferenceLaws as theorem
use Rattle.lts.proofs.LowLaws.{weakly_bisimilar→SameLow}
use Rattle.lts.specs.Run.{onward}
use Rattle.lts.specs.Weak.{WeakMove, NoTick}
use Rattle.lts.proofs.WeakLaws.{weak_separated}
use Rattle.lts.specs.Word.{JustOne}
use Rattle.lts.proofs.WordLaws.{just_one_not_both, separated-length_le}
use Rattle.text.specs.Model.{Model}
use Rattle.model.specs.System.{source, target, HighStep, ReachableIn, NoSilentStep, DeterministicModel, view}
use Rattle.model.specs.Laws.Store.SystemLaws.{own_step, deterministic_model→Deterministic}
use Rattle.verdicts.specs.Verdicts.{RefusedAt}
use Rattle.model.specs.Inner.Stored.{Stored}
use Rattle.model.specs.Laws.System.StepTestLaws.{bounded_view}
use Rattle.model.proofs.Laws.System.SilentStepLaws.{no_tick_of_no_silent_step, levelled_of_no_tick}
use Rattle.model.proofs.Laws.System.RankBoundLaws.{no_silent_label_view, weak_move_game}
use Rattle.verdicts.proofs.Laws.VerdictsLaws.{rank_of_states}

module _ {s : List ℕ} {m : Model} (st : Stored s m) (none : NoSilentStep m) where
  still : NoTick (view m)
  still = (no_tick_of_no_silent_step m).0 none

  pub bnid↔INI : DeterministicModel m → BNID (view m) ↔ INI (view m)
  bnid↔INI d = theorem.bnid↔INI (view m) (bounded_view st) (levelled_of_no_tick st still) still
      (no_silent_label_view st)
      (deterministic_model→Deterministic m d) _ (weak_move_game st)

  -- Ends of rank 0 allow the same low sequences; ends of a rank above 0 are a leak, and allow the same shorter than
  -- their rank.
  pub depth_le : {j depth : ℕ} → RefusedAt m j depth → (i : ℕ) → HighStep m i → (v : List ℕ) → Low (view m).levels v
      → JustOne (view m).Step (source m i) (target m i) v → depth ≤ length v
  depth_le {j} {depth} refused i h v l one =
      go (rank_of_states m st p q (st.source_lt i h.number_lt) (st.target_lt i h.number_lt))
    where
      p : ℕ
      p = source m i

      q : ℕ
      q = target m i

      to_reachable : ReachableIn m q
      to_reachable = onward h.reachable (own_step m i h.number_lt)

      same : (r : ℕ) → Rank (WeakMove (view m)) p q r → r ≡ 0 → ⊥
      same r x e = just_one_not_both (view m).Step p q v one
          (weakly_bisimilar→SameLow (view m) (bounded_view st) still (no_silent_label_view st) p q h.reachable
          to_reachable (bisimilar_of_rank (WeakMove (view m)) p q r e x) v l)

      leak : (r : ℕ) → Rank (WeakMove (view m)) p q r → 0 < r → depth ≤ length v
      leak r x pos =
          let least = refused.least i r (record { high_step = h; rank = x; above_zero = pos }) in
          let apart = (weak_separated (view m) still (bounded_view st) (no_silent_label_view st) p q r h.reachable
          to_reachable).1 (separated_of_rank (WeakMove (view m)) p q r pos x) in
          let long = separated-length_le (view m) p q r apart v l one in
          omega arith

      go : ((r : ℕ) × Rank (WeakMove (view m)) p q r) → depth ≤ length v
      go (r, x) = ⊎_elim (leak r x) (λ z. absurd (same r x (omega arith))) (lt_or_le 0 r)
