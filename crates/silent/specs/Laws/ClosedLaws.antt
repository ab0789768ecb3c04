-- Passes close sets along silent moves: where one leaves them closed under one step, and after as many passes as there
-- are states.
-- Assumes nothing.
use Rattle.std.specs.Prelude.{◌≡◌, refl, ◌⊎◌, Bool, List, ℕ, suc, ◌+◌, ◌≤◌}
use Rattle.std.proofs.Common.{sym, subst, inl, inr, arith}
use Rattle.lts.specs.Alike.{Relation}
use Rattle.lts.specs.Run.{Within}
use Rattle.lts.proofs.WithinLaws.{within_le, within_start, within_zero, within_suc_cases}
use Rattle.lts.specs.Weak.{Silent, stay, tick}
use Rattle.lts.specs.WeakTests.{DecidedTick}
use Rattle.text.specs.Limits.{state_limit}
use Rattle.sets.specs.Inner.Sets.{Member}
use Rattle.silent.specs.Inner.Keys.{OfStates, SpreadOnce, ClosedUnder, Closed}
use Rattle.silent.specs.Inner.Loops.{toward, ClosedWithin}
use Rattle.silent.specs.Laws.LoopsLaws.{along_silent_refl, along_silent_trans}
use Rattle.silent.specs.Laws.TowardLaws.{silent→Within}

module _ {Tick : Relation} {n : ℕ} where
  pub closed_within_zero : {sets : List ℕ} → OfStates n sets → ClosedWithin Tick n 0 sets sets
  closed_within_zero {sets} o = record {
    near = λ p q x w m. subst (λ (y : ℕ). Member sets y x) (sym (within_zero w).0) m;
    silent = along_silent_refl o;
  }

  pub closed_within_suc : {k : ℕ} {entry sets exit : List ℕ} → n ≤ state_limit → ClosedWithin Tick n k entry sets
      → SpreadOnce Tick n sets exit → ClosedWithin Tick n (k + 1) entry exit
  closed_within_suc {k} {entry} {sets} {exit} l h P = record {
    near = λ p q x w m. go p q x m (within_suc_cases (within_le {k = suc k} (omega arith) w));
    silent = along_silent_trans l h.silent (record { only = P.only });
  }
    where
      go : (p q x : ℕ) → Member entry q x
          → Within (toward Tick n q) k p ⊎ ((r a : ℕ) × Within (toward Tick n q) k r × ((a ≡ 0) × Tick p r))
          → Member exit p x
      go p q x m (inl w) = P.kept p x (h.near p q x w m)
      go p q x m (inr (r, a, w, t)) = P.along p r x t.1 (h.near r q x w m)

  -- After a pass the sets are closed under one step.
  closed_along : {k : ℕ} {entry sets exit : List ℕ} → ClosedWithin Tick n k entry sets → SpreadOnce Tick n sets exit
      → ClosedUnder Tick exit → {p q : ℕ} (x : ℕ) → Silent Tick n p q → Member entry q x → Member exit p x
  closed_along h P U {p} {q} x (stay l) m =
      P.kept p x (h.near p q x (within_le (omega arith) (within_start (refl, l))) m)
  closed_along h P U x (tick {p = p} {q = r} t s) m = U.along p r x t (closed_along h P U x s m)

  pub closed_of_closed_under : {k : ℕ} {entry sets exit : List ℕ} → n ≤ state_limit → ClosedWithin Tick n k entry sets
      → SpreadOnce Tick n sets exit → ClosedUnder Tick exit → Closed Tick n entry exit
  closed_of_closed_under l h P U = record {
    reached = λ p q x s m. closed_along h P U x s m;
    only = (along_silent_trans l h.silent (record { only = P.only })).only;
  }

  -- There have been as many passes as there are states.
  pub closed_within→Closed : {tick? : ℕ → ℕ → Bool} {k : ℕ} {entry sets : List ℕ} → DecidedTick Tick n tick? → n ≤ k
      → ClosedWithin Tick n k entry sets → Closed Tick n entry sets
  closed_within→Closed D l h = record {
    reached = λ p q x s m.
        let w = silent→Within D s in
        h.near p q x (within_le (omega (arith, w.1, l)) w.2) m;
    only = h.silent.only;
  }
