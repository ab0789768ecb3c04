-- Silent moves compose; and where no silent step is met, the moves that are played are the low steps, but each state
-- may stay where it is, which tells no two states apart. Document 02, (vii). Assumes nothing.
use Rattle.std.specs.Prelude.{◌≡◌, refl, ◌⊎◌, ◌↔◌, Bool, ℕ, ◌<◌}
use Rattle.std.proofs.Common.{sym, subst, inl, inr, arith}
use Rattle.lts.specs.Alike.{Moves, Relation, Bisimilar, BisimilarBy, Separated, Rank}
use Rattle.lts.specs.Game.{Game}
use Rattle.lts.specs.View.{View}
use Rattle.lts.specs.Run.{Reachable, onward, Bounded}
use Rattle.lts.proofs.RunLaws.{reachable_lt}
use Rattle.lts.specs.Agree.{Agree}
use Rattle.lts.proofs.AgreeLaws.{bisimilar_by_agree, bisimilar_agree, rank_agree, separated_agree}
use Rattle.lts.specs.Weak.{Silent, stay, tick, LowMove, silent_label, Weak, low, silent}
use Rattle.lts.specs.Weak.{LowStep, Tick, WeakMove, NoTick, NoSilentLabel}

-- ---- silent moves

module _ {Tick : Relation} {n : ℕ} where
  pub silent_lt : {p q : ℕ} → Silent Tick n p q → q < n
  silent_lt (stay l) = l
  silent_lt (tick t s) = silent_lt s

  pub silent_source_lt : ((p q : ℕ) → Tick p q → p < n) → {p q : ℕ} → Silent Tick n p q → p < n
  silent_source_lt f (stay l) = l
  silent_source_lt f (tick t s) = f _ _ t

  pub silent_trans : {p q r : ℕ} → Silent Tick n p q → Silent Tick n q r → Silent Tick n p r
  silent_trans (stay l) u = u
  silent_trans (tick t s) u = tick t (silent_trans s u)

  -- A silent step is a silent move.
  pub silent_one : {p q : ℕ} → Tick p q → q < n → Silent Tick n p q
  silent_one t l = tick t (stay l)

pub silent-map : {Tick Tick' : Relation} {n : ℕ} → ((p q : ℕ) → Tick p q → Tick' p q) → {p q : ℕ} → Silent Tick n p q
    → Silent Tick' n p q
silent-map f (stay l) = stay l
silent-map f (tick t s) = tick (f _ _ t) (silent-map f s)

-- ---- the moves that are played

module _ {Low : Moves} {Tick : Relation} {n : ℕ} where
  -- A low step is a low move.
  pub low_move_one : {p a q : ℕ} → p < n → q < n → Low p a q → LowMove Low Tick n p a q
  low_move_one {p} {a} {q} lp lq m =
      record { from = p; to = q; before = stay lp; step = m; after = stay lq }

  pub weak_target_lt : {p a q : ℕ} → Weak Low Tick n p a q → q < n
  weak_target_lt (low m) = silent_lt m.after
  weak_target_lt (silent e s) = silent_lt s

pub weak-map : {Low Low' : Moves} {Tick Tick' : Relation} {n : ℕ} → ((p a q : ℕ) → Low p a q → Low' p a q)
    → ((p q : ℕ) → Tick p q → Tick' p q) → {p a q : ℕ} → Weak Low Tick n p a q → Weak Low' Tick' n p a q
weak-map f g (low m) = low (record {
  from = m.from;
  to = m.to;
  before = silent-map g m.before;
  step = f _ _ _ m.step;
  after = silent-map g m.after;
})
weak-map f g (silent e s) = silent e (silent-map g s)

-- ---- where no silent step is met

module _ (C : ℕ → Type 0) (Low : Moves) (Tick : Relation) (n : ℕ) (lt : (p : ℕ) → C p → p < n)
    (still : (p q : ℕ) → C p → ¬ (Tick p q)) (closed : (p a q : ℕ) → C p → Low p a q → C q)
    (labels : (p a q : ℕ) → C p → Low p a q → ¬ (a ≡ silent_label)) where
  -- A silent move stays where it is.
  still_silent : {p q : ℕ} → C p → Silent Tick n p q → p ≡ q
  still_silent c (stay l) = refl
  still_silent c (tick {p = p} {q = x} t s) = absurd (still p x c t)

  still_low_move : (p a q : ℕ) → C p → LowMove Low Tick n p a q → Low p a q
  still_low_move p a q c m =
      let s : Low p a m.to = subst (λ (x : ℕ). Low x a m.to) (sym (still_silent c m.before)) m.step in
      subst (λ (x : ℕ). Low p a x) (still_silent (closed p a m.to c s) m.after) s

  -- On a set of states that the low steps do not leave and that no silent step leads out of, low steps and moves agree.
  pub still_agree : Agree C (λ a. a ≡ silent_label) Low (Weak Low Tick n)
  still_agree = record {
    closed = closed;
    forth = λ p a q c m. low (low_move_one (lt p c) (lt q (closed p a q c m)) m);
    back = back;
    idle = λ p a c e. silent e (stay (lt p c));
    not_idle = labels;
  }
    where
      back : (p a q : ℕ) → C p → Weak Low Tick n p a q → Low p a q ⊎ ((a ≡ silent_label) × (p ≡ q))
      back p a q c (low m) = inl (still_low_move p a q c m)
      back p a q c (silent e s) = inr (e, still_silent c s)

-- Where there is no silent step, they agree on all n states.
pub weak_agree_all : (Low : Moves) (Tick : Relation) (n : ℕ) → ((p q : ℕ) → ¬ (Tick p q))
    → ((p a q : ℕ) → Low p a q → q < n) → ((p a q : ℕ) → Low p a q → a < silent_label)
    → Agree (λ p. p < n) (λ a. a ≡ silent_label) Low (Weak Low Tick n)
weak_agree_all Low Tick n still target label =
    still_agree (λ p. p < n) Low Tick n (λ p l. l) (λ p q l. still p q) (λ p a q l m. target p a q m)
    (λ p a q l m e. omega (arith, label p a q m, e))

module _ (v : View) (still : NoTick v) (B : Bounded v) (labels : NoSilentLabel v) where
  -- Where no silent step can be reached, they agree on the reachable states.
  pub weak_agree : Agree (Reachable v) (λ a. a ≡ silent_label) (LowStep v) (WeakMove v)
  weak_agree = still_agree (Reachable v) (LowStep v) (Tick v) v.states (reachable_lt v B)
      (λ p q r. still p q r) (λ p a q r m. onward r m.1) labels

  pub weak_separated : (p q k : ℕ) → Reachable v p → Reachable v q
      → Separated (LowStep v) p q k ↔ Separated (WeakMove v) p q k
  weak_separated = separated_agree (Reachable v) (λ a. a ≡ silent_label) (LowStep v) (WeakMove v) weak_agree

  pub weak_bisimilar_by : (p q : ℕ) → Reachable v p → Reachable v q
      → BisimilarBy (LowStep v) p q ↔ BisimilarBy (WeakMove v) p q
  weak_bisimilar_by = bisimilar_by_agree (Reachable v) (λ a. a ≡ silent_label) (LowStep v) (WeakMove v) weak_agree

  module _ (round weak_round : (ℕ → ℕ → Bool) → ℕ → ℕ → Bool) (G : Game (LowStep v) v.states round)
      (W : Game (WeakMove v) v.states weak_round) where
    pub weak_bisimilar : (p q : ℕ) → Reachable v p → Reachable v q
        → Bisimilar (LowStep v) p q ↔ Bisimilar (WeakMove v) p q
    weak_bisimilar p q rp rq = bisimilar_agree (Reachable v) (λ a. a ≡ silent_label) (LowStep v) (WeakMove v) weak_agree
        v.states round weak_round G W p q (reachable_lt v B p rp) (reachable_lt v B q rq) rp rq

    pub weak_rank : (p q r : ℕ) → Reachable v p → Reachable v q → Rank (LowStep v) p q r ↔ Rank (WeakMove v) p q r
    weak_rank p q r rp rq = rank_agree (Reachable v) (λ a. a ≡ silent_label) (LowStep v) (WeakMove v) weak_agree
        v.states round weak_round G W p q r (reachable_lt v B p rp) (reachable_lt v B q rq) rp rq
