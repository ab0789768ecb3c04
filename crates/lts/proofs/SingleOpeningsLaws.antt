-- It is one whether openings are single steps or whole moves: a weak bisimulation answers a move step by step, and a
-- step is a move. So the rank of two states is 0 exactly where a weak bisimulation of source 002 pairs them.
-- Definition 1 of source 002; document 02, (vii). Assumes nothing.
use Rattle.std.specs.Prelude.{refl, ◌↔◌, Bool, ◌&&◌, ℕ, ◌<◌, T, ltb}
use Rattle.std.proofs.Common.{arith, ltb→lt, lt→ltb}
use Rattle.lts.proofs.TestsLaws.{and_intro, and_left, and_right}
use Rattle.lts.specs.Alike.{Moves, Relation, Answered, Answers, Bisimilar, BisimilarBy, Rank, bisimilar}
use Rattle.lts.proofs.AlikeLaws.{bisimilar_of_rank}
use Rattle.lts.specs.Game.{Game}
use Rattle.lts.proofs.RankLaws.{bisimilar↔Bisimilar_by}
use Rattle.lts.specs.Weak.{Silent, stay, tick, LowMove, silent_label, Weak, low, silent}
use Rattle.lts.proofs.WeakLaws.{silent_lt, silent_trans, silent_one, low_move_one, weak_target_lt}
use Rattle.lts.specs.SingleOpenings.{StepsAnswered, AnswersSteps, WeakBisimilarBy, WeakBisimilar}

module _ (Low : Moves) (Tick : Relation) (n : ℕ) where
  -- ---- a weak bisimulation answers whole moves

  module _ (R : Relation) (answer : (p q : ℕ) → R p q → StepsAnswered Low Tick n R p q) where
    -- Step by step.
    silent_answered : {p p' : ℕ} → Silent Tick n p p' → (q : ℕ) → q < n → R p q
        → (q' : ℕ) × Silent Tick n q q' × R p' q'
    silent_answered (stay l) q lq r = (q, stay lq, r)
    silent_answered (tick {p = p} {q = x} t s) q lq r =
        let u = (answer p q r).silent_steps x t in
        let w = silent_answered s u.0 (silent_lt u.1) u.2 in
        (w.0, silent_trans u.1 w.1, w.2)

    low_move_answered : {p a p' : ℕ} → LowMove Low Tick n p a p' → (q : ℕ) → q < n → R p q
        → (q' : ℕ) × LowMove Low Tick n q a q' × R p' q'
    low_move_answered {a = a} m q lq r =
        let u = silent_answered m.before q lq r in
        let w = (answer m.from u.0 u.2).low_steps a m.to m.step in
        let z = silent_answered m.after w.0 (silent_lt w.1.after) w.2 in (
          z.0,
          record {
            from = w.1.from;
            to = w.1.to;
            before = silent_trans u.1 w.1.before;
            step = w.1.step;
            after = silent_trans w.1.after z.1;
          },
          z.2,
        )

    move_answered : (p q : ℕ) → q < n → R p q → (a p' : ℕ) → Weak Low Tick n p a p'
        → (q' : ℕ) × Weak Low Tick n q a q' × R p' q'
    move_answered p q lq r a p' (low m) = let u = low_move_answered m q lq r in (u.0, low u.1, u.2)
    move_answered p q lq r a p' (silent e s) = let u = silent_answered s q lq r in (u.0, silent e u.1, u.2)

  -- R cut down to the states.
  abbrev Below : Relation → Relation
  Below R x y = (x < n) × (y < n) × R x y

  pub weak_bisimilar_by→BisimilarBy : (p q : ℕ) → p < n → q < n → WeakBisimilarBy Low Tick n p q
      → BisimilarBy (Weak Low Tick n) p q
  weak_bisimilar_by→BisimilarBy p q lp lq b = record {
    rel = Below b.rel;
    bisimulation = λ x y (lx, ly, r). record {
      there = λ a x' m.
          let u = move_answered b.rel (λ p q s. (b.bisimulation p q s).there) x y ly r a x' m in
          (u.0, u.1, (weak_target_lt m, weak_target_lt u.1, u.2));
      back = λ a y' m.
          let u = move_answered (λ x y. b.rel y x) (λ p q s. (b.bisimulation q p s).back) y x lx r a y' m in
          (u.0, u.1, (weak_target_lt u.1, weak_target_lt m, u.2));
    };
    pairs = (lp, lq, b.pairs);
  }

  -- ---- a step is a move

  module _ (label_lt : (p a q : ℕ) → Low p a q → a < silent_label) where
    -- A move is told by its label.
    low_move_of_label : (q a q' : ℕ) → a < silent_label → Weak Low Tick n q a q' → LowMove Low Tick n q a q'
    low_move_of_label q a q' l (low m) = m
    low_move_of_label q a q' l (silent e s) = absurd (omega (arith, l, e))

    silent_of_label : (q q' : ℕ) → Weak Low Tick n q silent_label q' → Silent Tick n q q'
    silent_of_label q q' (low m) = absurd (omega (arith, label_lt m.from silent_label m.to m.step))
    silent_of_label q q' (silent e s) = s

    module _ (low_lt : (p a q : ℕ) → Low p a q → q < n) (tick-lt : (p q : ℕ) → Tick p q → q < n) where
      steps_of_moves : (R S : Relation) (p q : ℕ) → p < n → ((x y : ℕ) → x < n → y < n → R x y → S x y)
          → Answered (Weak Low Tick n) R p q → StepsAnswered Low Tick n S p q
      steps_of_moves R S p q lp f h = record {
        low_steps = λ a p' m.
            let lt = low_lt p a p' m in
            let u = h a p' (low (low_move_one lp lt m)) in
            let w = low_move_of_label q a u.0 (label_lt p a p' m) u.1 in
            (u.0, w, f p' u.0 lt (weak_target_lt u.1) u.2);
        silent_steps = λ p' t.
            let lt = tick-lt p p' t in
            let u = h silent_label p' (silent refl (silent_one t lt)) in
            (u.0, silent_of_label q u.0 u.1, f p' u.0 lt (weak_target_lt u.1) u.2);
      }

      answers_steps : (R S : Relation) (p q : ℕ) → p < n → q < n → ((x y : ℕ) → x < n → y < n → R x y → S x y)
          → Answers (Weak Low Tick n) R p q → AnswersSteps Low Tick n S p q
      answers_steps R S p q lp lq f h = record {
        there = steps_of_moves R S p q lp f h.there;
        back = steps_of_moves (λ x y. R y x) (λ x y. S y x) q p lq (λ x y lx ly. f y x ly lx) h.back;
      }

      bisimilar_by→WeakBisimilarBy : (p q : ℕ) → p < n → q < n → BisimilarBy (Weak Low Tick n) p q
          → WeakBisimilarBy Low Tick n p q
      bisimilar_by→WeakBisimilarBy p q lp lq b = record {
        rel = Below b.rel;
        bisimulation = λ x y (lx, ly, r). answers_steps b.rel (Below b.rel) x y lx ly (λ u v lu lv s. (lu, lv, s))
            (b.bisimulation x y r);
        pairs = (lp, lq, b.pairs);
      }

      -- "as in the weak bisimulation of source document 002"
      pub weak_bisimilar_by↔Bisimilar_by : (p q : ℕ) → p < n → q < n
          → WeakBisimilarBy Low Tick n p q ↔ BisimilarBy (Weak Low Tick n) p q
      weak_bisimilar_by↔Bisimilar_by p q lp lq =
          (weak_bisimilar_by→BisimilarBy p q lp lq, bisimilar_by→WeakBisimilarBy p q lp lq)

      -- ---- by tests

      module _ (R : ℕ → ℕ → Bool) where
        abbrev below? : ℕ → ℕ → Bool
        below? x y = ltb x n && (ltb y n && R x y)

        below?→Below : (x y : ℕ) → T (below? x y) → Below (λ x y. T (R x y)) x y
        below?→Below x y t =
            let u = and_right (ltb x n) (ltb y n && R x y) t in (
              ltb→lt x n (and_left (ltb x n) (ltb y n && R x y) t),
              ltb→lt y n (and_left (ltb y n) (R x y) u),
              and_right (ltb y n) (R x y) u,
            )

        Below→below? : (x y : ℕ) → x < n → y < n → T (R x y) → T (below? x y)
        Below→below? x y lx ly r = and_intro (ltb x n) (ltb y n && R x y) (lt→ltb x n lx)
            (and_intro (ltb y n) (R x y) (lt→ltb y n ly) r)

      bisimilar→WeakBisimilar : (p q : ℕ) → p < n → q < n → Bisimilar (Weak Low Tick n) p q
          → WeakBisimilar Low Tick n p q
      bisimilar→WeakBisimilar p q lp lq b = record {
        rel = below? b.rel;
        bisimulation = λ x y t.
            let u = below?→Below b.rel x y t in
            answers_steps (λ x y. T (b.rel x y)) (λ x y. T (below? b.rel x y)) x y u.0 u.1
            (Below→below? b.rel) (b.bisimulation x y u.2);
        pairs = Below→below? b.rel p q lp lq b.pairs;
      }

      weak_bisimilar→WeakBisimilarBy : (p q : ℕ) → WeakBisimilar Low Tick n p q → WeakBisimilarBy Low Tick n p q
      weak_bisimilar→WeakBisimilarBy p q b =
          record { rel = λ x y. T (b.rel x y); bisimulation = b.bisimulation; pairs = b.pairs }

      module _ (round : (ℕ → ℕ → Bool) → ℕ → ℕ → Bool) (G : Game (Weak Low Tick n) n round) where
        bisimilar_of_weak : (p q : ℕ) → p < n → q < n → WeakBisimilarBy Low Tick n p q → Bisimilar (Weak Low Tick n) p q
        bisimilar_of_weak p q lp lq b =
            (bisimilar↔Bisimilar_by (Weak Low Tick n) n round G p q lp lq).1 (weak_bisimilar_by→BisimilarBy p q lp lq b)

        -- Nothing is lost by Bool-valued relations.
        pub weak_bisimilar↔Weak_bisimilar_by : (p q : ℕ) → p < n → q < n
            → WeakBisimilar Low Tick n p q ↔ WeakBisimilarBy Low Tick n p q
        weak_bisimilar↔Weak_bisimilar_by p q lp lq = (
          weak_bisimilar→WeakBisimilarBy p q,
          λ b. bisimilar→WeakBisimilar p q lp lq (bisimilar_of_weak p q lp lq b),
        )

        -- The rank of two states is 0 exactly where a weak bisimulation of source 002 pairs them.
        pub rank_zero↔Weak_bisimilar : (p q : ℕ) → p < n → q < n
            → Rank (Weak Low Tick n) p q 0 ↔ WeakBisimilar Low Tick n p q
        rank_zero↔Weak_bisimilar p q lp lq = (
          λ x. bisimilar→WeakBisimilar p q lp lq (bisimilar_of_rank (Weak Low Tick n) p q 0 refl x),
          λ b. bisimilar (bisimilar_of_weak p q lp lq (weak_bisimilar→WeakBisimilarBy p q b)),
        )
