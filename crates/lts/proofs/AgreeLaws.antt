-- Moves that agree on a closed set of states give the same k-alike, the same bisimilar states and the same ranks there.
-- Document 01, "Alike" and "Rank". Assumes nothing.
use Rattle.std.specs.Prelude.{◌≡◌, ◌⊎◌, ◌↔◌, Bool}
use Rattle.std.proofs.Common.{subst, inl, inr}
use Prim.Native.Nat.{ℕ, zero, suc, ◌<◌}
use Rattle.lts.specs.Alike.{Moves, Relation, Answered, Answers, Alike, Bisimilar, BisimilarBy, Separated, Rank}
use Rattle.lts.specs.Alike.{bisimilar, separated}
use Rattle.lts.proofs.AlikeLaws.{alike_suc}
use Rattle.lts.specs.Game.{Game}
use Rattle.lts.proofs.RankLaws.{bisimilar↔Bisimilar_by}
use Rattle.lts.specs.Agree.{Agree}

module _ (C Idle : ℕ → Type 0) (M N : Moves) (A : Agree C Idle M N) where
  -- ---- one round

  answered_forth : (R S : Relation) (p q : ℕ) → C p → C q → ((x y : ℕ) → C x → C y → R x y → S x y) → S p q
      → Answered M R p q → Answered N S p q
  answered_forth R S p q cp cq f s h a p' m = go (A.back p a p' cp m)
    where
      go : M p a p' ⊎ (Idle a × (p ≡ p')) → (q' : ℕ) × N q a q' × S p' q'
      go (inl o) =
          let r = h a p' o in
          let q' = r.0 in
          (q', A.forth q a q' cq r.1, f p' q' (A.closed p a p' cp o) (A.closed q a q' cq r.1) r.2)
      go (inr (i, e)) = (q, A.idle q a cq i, subst (λ (x : ℕ). S x q) e s)

  answered_back : (R S : Relation) (p q : ℕ) → C p → C q → ((x y : ℕ) → C x → C y → R x y → S x y) → Answered N R p q
      → Answered M S p q
  answered_back R S p q cp cq f h a p' m =
      let r = h a p' (A.forth p a p' cp m) in
      go r.0 r.2 (A.back q a r.0 cq r.1)
    where
      go : (q' : ℕ) → R p' q' → M q a q' ⊎ (Idle a × (q ≡ q')) → (q' : ℕ) × M q a q' × S p' q'
      go q' r (inl o) = (q', o, f p' q' (A.closed p a p' cp m) (A.closed q a q' cq o) r)
      go q' r (inr (i, e)) = absurd (A.not_idle p a p' cp m i)

  answers_forth : (R S : Relation) (p q : ℕ) → C p → C q → ((x y : ℕ) → C x → C y → R x y → S x y) → S p q
      → Answers M R p q → Answers N S p q
  answers_forth R S p q cp cq f s h = record {
    there = answered_forth R S p q cp cq f s h.there;
    back = answered_forth (λ x y. R y x) (λ x y. S y x) q p cq cp (λ x y cx cy. f y x cy cx) s h.back;
  }

  answers_back : (R S : Relation) (p q : ℕ) → C p → C q → ((x y : ℕ) → C x → C y → R x y → S x y) → Answers N R p q
      → Answers M S p q
  answers_back R S p q cp cq f h = record {
    there = answered_back R S p q cp cq f h.there;
    back = answered_back (λ x y. R y x) (λ x y. S y x) q p cq cp (λ x y cx cy. f y x cy cx) h.back;
  }

  -- ---- alike

  alike_forth : (k p q : ℕ) → C p → C q → Alike M k p q → Alike N k p q
  unfolding Alike
  alike_forth zero p q cp cq h = tt
  alike_forth (suc k) p q cp cq h =
      answers_forth (Alike M k) (Alike N k) p q cp cq (λ x y. alike_forth k x y)
      (alike_forth k p q cp cq (alike_suc M k p q h)) h

  alike_back : (k p q : ℕ) → C p → C q → Alike N k p q → Alike M k p q
  unfolding Alike
  alike_back zero p q cp cq h = tt
  alike_back (suc k) p q cp cq h = answers_back (Alike N k) (Alike M k) p q cp cq (λ x y. alike_back k x y) h

  pub alike_agree : (k p q : ℕ) → C p → C q → Alike M k p q ↔ Alike N k p q
  alike_agree k p q cp cq = (alike_forth k p q cp cq, alike_back k p q cp cq)

  pub separated_agree : (p q k : ℕ) → C p → C q → Separated M p q k ↔ Separated N p q k
  separated_agree p q k cp cq = (
    λ x. record {
      not_alike = λ h. x.not_alike (alike_back k p q cp cq h);
      alike_before = λ j l. alike_forth j p q cp cq (x.alike_before j l);
    },
    λ x. record {
      not_alike = λ h. x.not_alike (alike_forth k p q cp cq h);
      alike_before = λ j l. alike_back j p q cp cq (x.alike_before j l);
    },
  )

  -- ---- bisimilar

  -- A bisimulation cut down to C.
  abbrev CutDown : Relation → Relation
  CutDown R x y = C x × C y × R x y

  bisimilar_by_forth : (p q : ℕ) → C p → C q → BisimilarBy M p q → BisimilarBy N p q
  bisimilar_by_forth p q cp cq b = record {
    rel = CutDown b.rel;
    bisimulation = λ x y (cx, cy, r).
        answers_forth b.rel (CutDown b.rel) x y cx cy (λ u v cu cv s. (cu, cv, s)) (cx, cy, r)
        (b.bisimulation x y r);
    pairs = (cp, cq, b.pairs);
  }

  bisimilar_by_back : (p q : ℕ) → C p → C q → BisimilarBy N p q → BisimilarBy M p q
  bisimilar_by_back p q cp cq b = record {
    rel = CutDown b.rel;
    bisimulation = λ x y (cx, cy, r).
        answers_back b.rel (CutDown b.rel) x y cx cy (λ u v cu cv s. (cu, cv, s)) (b.bisimulation x y r);
    pairs = (cp, cq, b.pairs);
  }

  pub bisimilar_by_agree : (p q : ℕ) → C p → C q → BisimilarBy M p q ↔ BisimilarBy N p q
  bisimilar_by_agree p q cp cq = (bisimilar_by_forth p q cp cq, bisimilar_by_back p q cp cq)

  module _ (n : ℕ) (roundM roundN : (ℕ → ℕ → Bool) → ℕ → ℕ → Bool) (GM : Game M n roundM) (GN : Game N n roundN) where
    pub bisimilar_agree : (p q : ℕ) → p < n → q < n → C p → C q → Bisimilar M p q ↔ Bisimilar N p q
    bisimilar_agree p q lp lq cp cq =
        let m = bisimilar↔Bisimilar_by M n roundM GM p q lp lq in
        let o = bisimilar↔Bisimilar_by N n roundN GN p q lp lq in
        (λ b. o.1 (bisimilar_by_forth p q cp cq (m.0 b)), λ b. m.1 (bisimilar_by_back p q cp cq (o.0 b)))

    -- Of moves that agree on a set alone, and but for idle ones: more than `rank_same` can take.
    pub rank_agree : (p q r : ℕ) → p < n → q < n → C p → C q → Rank M p q r ↔ Rank N p q r
    rank_agree p q r lp lq cp cq = (forth, back)
      where
        forth : {r : ℕ} → Rank M p q r → Rank N p q r
        forth (bisimilar b) = bisimilar ((bisimilar_agree p q lp lq cp cq).0 b)
        forth {r} (separated d x) =
            separated (λ b. d ((bisimilar_agree p q lp lq cp cq).1 b)) ((separated_agree p q r cp cq).0 x)

        back : {r : ℕ} → Rank N p q r → Rank M p q r
        back (bisimilar b) = bisimilar ((bisimilar_agree p q lp lq cp cq).1 b)
        back {r} (separated d x) =
            separated (λ b. d ((bisimilar_agree p q lp lq cp cq).0 b)) ((separated_agree p q r cp cq).1 x)

-- ---- the same moves

module _ {M N : Moves} (forth : (p a q : ℕ) → M p a q → N p a q) (back : (p a q : ℕ) → N p a q → M p a q) where
  same_agree : Agree (λ _. Unit {0}) (λ _. ⊥) M N
  same_agree = record {
    closed = λ p a q c m. tt;
    forth = λ p a q c m. forth p a q m;
    back = λ p a q c m. inl (back p a q m);
    idle = λ p a c i. absurd i;
    not_idle = λ p a q c m i. i;
  }

  pub separated_same : (p q k : ℕ) → Separated M p q k ↔ Separated N p q k
  separated_same p q k = separated_agree (λ _. Unit {0}) (λ _. ⊥) M N same_agree p q k tt tt

  answered_same : (R : Relation) (p q : ℕ) → Answered M R p q → Answered N R p q
  answered_same R p q h a p' m =
      let x = h a p' (back p a p' m) in
      (x.0, forth q a x.0 x.1, x.2)

  pub bisimilar_same : (p q : ℕ) → Bisimilar M p q → Bisimilar N p q
  bisimilar_same p q b = record {
    rel = b.rel;
    bisimulation = λ x y r.
        let s = b.bisimulation x y r in
        record { there = answered_same _ x y s.there; back = answered_same _ y x s.back };
    pairs = b.pairs;
  }

module _ {M N : Moves} (forth : (p a q : ℕ) → M p a q → N p a q) (back : (p a q : ℕ) → N p a q → M p a q) where
  -- Of the same moves, for all numbers: `rank_agree` would ask for tests of the rounds, and for states below n.
  pub rank_same : (p q : ℕ) {k : ℕ} → Rank M p q k → Rank N p q k
  rank_same p q (bisimilar b) = bisimilar (bisimilar_same forth back p q b)
  rank_same p q {k} (separated d x) =
      separated (λ b. d (bisimilar_same back forth p q b)) ((separated_same forth back p q k).0 x)
