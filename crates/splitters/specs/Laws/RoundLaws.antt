-- A round finds all that it needs: the first one all states in one class, which is new, each later one what the round
-- before it left. It separates two states exactly if there is a further class. After the last one the table is filled.
-- Document 01, operation 3. Assumes nothing.
use Rattle.std.specs.Prelude.{◌≡◌, refl, Bool, true, false, List, ℕ, suc, ◌+◌, ◌-◌, ◌≤◌, ◌<◌, get_or}
use Rattle.std.proofs.Common.{sym, ◌∙◌, subst, inl, ⊎_elim, arith, below_more}
use Rattle.lts.specs.Alike.{Moves}
use Rattle.lts.specs.Game.{Separates}
use Rattle.lts.proofs.TestsLaws.{lt_or_le}
use Rattle.sets.specs.Inner.Sets.{Member}
use Rattle.sets.specs.Inner.SetValues.{SetOf, SetPut}
use Rattle.sets.specs.declared.set.Set.{Set}
use Rattle.held.specs.Held.{HeldList, HeldMove}
use Rattle.held.specs.Laws.HeldLaws.{held_move_target_lt}
use Rattle.ranking.specs.Inner.ClassList.{Classes, RoundSeparates}
use Rattle.ranking.specs.Inner.TableWrites.{entry_of, Outside, Finished}
use Rattle.ranking.specs.Laws.ClassListLaws.{classes-zero, classes_suc, separates_of_separated_by, settled_of_unchanged}
use Rattle.ranking.specs.Laws.RoundsLaws.{ranks_up_to-zero, ranks_up_to_same, round_classes, round_ranks}
use Rattle.tree.specs.Inner.Rows.{RoundNoted}
use Rattle.tree.specs.Inner.Tree.{Tree, Apart, MemberSets}
use Rattle.splitters.specs.Inner.Partition.{Partition, home, HomesKept}
use Rattle.splitters.specs.Inner.Splitters.{Fresh, SetsKept, Grown, Ready, Rounded, Rounds, LastRounded, Counted}
use Rattle.splitters.specs.Inner.MoveSplits.{UsedLabels, UsedSplit}
use Rattle.splitters.specs.Laws.ApartLaws.{apart_after, apart_after_is, tree_after, apart_after_holds}
use Rattle.splitters.specs.Laws.ApartLaws.{round_written_after}
use Rattle.splitters.specs.Laws.PartitionLaws.{state_of_class}
use Rattle.splitters.specs.Laws.HomeLaws.{home_lt, home_before, origin_lt}
use Rattle.splitters.specs.Laws.StableLaws.{refined_of_split_under, stable_of_refined}
use Rattle.splitters.specs.Laws.UnderLaws.{under_sets_noted, under_sets_divided}

-- ---- what a round separates

module _ {Move : Moves} {n k : ℕ} {class next : List ℕ} (C : Classes Move n k class) (D : Classes Move n (suc k) next)
  where
    -- A new class was divided off one that still has a state.
    pub round_separates_of_classes : {classes classes' : ℕ} {members members' origin origin' : List ℕ}
        {together together' : Set} → Partition n class members classes together
        → Partition n next members' classes' together' → HomesKept n classes origin class origin' next
        → RoundSeparates Move n k (classes' - classes)
    round_separates_of_classes {classes} {classes'} {origin' = origin'} P Q H = record {
      settled = λ e. settled_of_unchanged C D (λ p lp. stays p lp (omega (arith, e, Q.class_lt p lp)));
      separates = λ l. apart (omega (arith, l));
    }
      where
        stays : (p : ℕ) → p < n → get_or next p 0 < classes → get_or class p 0 ≡ get_or next p 0
        stays p lp l = sym (home_before P.class_lt H p lp) ∙ home_lt origin' l

        apart : classes < classes' → Separates Move n k
        apart l =
            let x = state_of_class Q classes l in
            let c = get_or class x.0 0 in
            let lc : c < classes = P.class_lt x.0 x.1 in
            let y = state_of_class Q c (omega (arith, l, lc)) in
            let e : get_or class y.0 0 ≡ c = stays y.0 y.1 (omega (arith, y.2, lc)) ∙ y.2 in
            separates_of_separated_by C D x.1 y.1 (record {
              same_before = sym e;
              not_same_after = λ same. omega (arith, same, x.2, y.2, lc);
            })

-- ---- what it finds, and leaves

pub partition_one : {n : ℕ} {class members members' : List ℕ} {all : Set} → 0 < n → SetOf (λ x. x < n) all
    → SetPut 0 all members members' → ((p : ℕ) → get_or class p 0 ≡ 0) → Partition n class members' 1 all
partition_one {n} {class} {members' = members'} some A M z = record {
  classes_le = some;
  class_lt = λ p lp. omega (arith, z p);
  member = λ p lp. subst (λ (c : ℕ). Member members' c p) (sym (z p)) (M.put.only p (A.all p lp));
  member_only = λ c p l m.
      let e : c ≡ 0 = omega (arith, l) in
      (A.only p (M.put.all p (subst (λ (d : ℕ). Member members' d p) e m)), z p ∙ sym e);
  some = λ c l. let e : c ≡ 0 = omega (arith, l) in (0, some, z 0 ∙ sym e);
  together_all = λ p q lp lq e d. A.all p lp;
  together_lt = λ p i. A.only p i;
}

-- One class has no tree above it.
grown-zero : {n classes : ℕ} {class origin under when : List ℕ} → classes ≡ 1
    → Grown n 0 0 classes class origin under when
grown-zero e = record {
  tree = record {
    origin_lt = λ c p l. absurd (omega (arith, e, p, l));
    when_pos = λ c p l. absurd (omega (arith, e, p, l));
    when_le = λ c d p b l. absurd (omega (arith, e, p, b, l));
  };
  origin_old = λ c p l. absurd (omega (arith, e, p, l));
  when_le = λ c p l. absurd (omega (arith, e, p, l));
  under = record { all = λ c p pos l. absurd (omega (arith, l)); only = λ c p pos l. absurd (omega (arith, l)) };
  apart = λ c d. 0;
  apart_is = record {
    same = λ c l. refl;
    both_ways = λ c d l k. refl;
    off = λ c p l. absurd (omega (arith, e, p, l));
    with_origin = λ c d b l. absurd (omega (arith, e, b, l));
  };
}

ready-zero : {Move : Moves} {n : ℕ} {class members origin under when : List ℕ} {classes : ℕ} {together : Set}
    → classes ≡ 1 → ((p : ℕ) → get_or class p 0 ≡ 0) → ((j : ℕ) → get_or origin j 0 ≡ 0)
    → Partition n class members classes together
    → Ready Move n 0 0 class members origin under when classes together
unfolding grown-zero
ready-zero {Move} e z o P = record {
  are_classes = classes-zero z;
  partition = P;
  stable = record { together = λ p q a t lp lq s m l. absurd (omega (arith, l)) };
  origin_lt = λ j l k. omega (arith, e, o j);
  first_le = omega arith;
  grown = grown-zero e;
  ranks = ranks_up_to-zero Move (λ p q lp lq. refl);
}

module _ {n : ℕ} {labels : List ℕ} {count : ℕ} {slots pool : List ℕ} (L : HeldList n labels count slots pool)
    {k first classes : ℕ} {class members origin under when under' rest : List ℕ} {together : Set}
    (Y : Ready (HeldMove labels count slots pool) n k first class members origin under when classes together)
    (F : Fresh first classes members origin under' rest) (K : SetsKept first under under') where
  abbrev Move : Moves
  Move = HeldMove labels count slots pool

  target_lt : (p a q : ℕ) → p < n → Move p a q → q < n
  target_lt p a q _ m = held_move_target_lt L m

  module _ {classes' : ℕ} {next members' origin' when' : List ℕ} {together' : Set}
      (Q : Partition n next members' classes' together') (le : classes ≤ classes')
      (S : UsedSplit n classes slots pool (UsedLabels first classes labels count) under' rest class origin next origin')
      (N : RoundNoted classes classes' (k + 1) when when') where
    abbrev G : Grown n k first classes class origin under when
    G = Y.grown

    new_lt : (c : ℕ) → classes ≤ c → c < classes' → get_or origin' c 0 < classes
    new_lt = origin_lt Y.partition.class_lt S.homes Q

    before : (p : ℕ) → p < n → home classes origin' (get_or next p 0) ≡ get_or class p 0
    before = home_before Y.partition.class_lt S.homes

    grown_suc : Grown n (k + 1) classes classes' next origin' under' when'
    grown_suc =
        let kept = S.homes.origin_kept in
        let origin_old : (c : ℕ) → 0 < c → c < classes' → get_or origin' c 0 < classes = λ c p l.
        ⊎_elim (λ m. omega (arith, kept c m, G.tree.origin_lt c p m, m)) (λ m. new_lt c m l) (lt_or_le c classes) in
        record {
          tree = tree_after G kept new_lt N;
          origin_old = origin_old;
          when_le = λ c p l.
              ⊎_elim
              (λ m. omega (arith, N.kept c (inl m), G.when_le c p m))
              (λ m. omega (arith, N.noted c m l))
              (lt_or_le c classes);
          under = under_sets_divided le kept origin_old Q.class_lt before
              (under_sets_noted G Y.first_le Y.partition F K);
          apart = apart_after classes origin' (k + 1) G.apart;
          apart_is = apart_after_holds (apart_after_is classes origin' (k + 1) G.apart) G.tree G.apart_is kept
              new_lt N;
        }

    pub rounded_of_used_split : Rounded (HeldMove labels count slots pool) n k class next members' origin' under' when'
        classes classes' together'
    unfolding grown_suc
    rounded_of_used_split =
        let class_lt = Y.partition.class_lt in
        let R = refined_of_split_under L Y.partition Y.stable Y.origin_lt F S.under in
        record {
          refined = R;
          separates = round_separates_of_classes Y.are_classes (classes_suc target_lt Y.are_classes R)
              Y.partition Q S.homes;
          ready = record {
            are_classes = round_classes target_lt Y.are_classes R;
            partition = Q;
            stable = stable_of_refined target_lt class_lt S.homes R;
            origin_lt = λ j m i. omega (arith, le, new_lt j m i);
            first_le = le;
            grown = grown_suc;
            ranks = round_ranks target_lt Y.are_classes R
                (round_written_after (apart_after_is classes origin' (k + 1) G.apart) G.apart_is class_lt before)
                Y.ranks;
          };
        }

-- ---- one round after another

pub rounds-zero : {Move : Moves} {n k first : ℕ} {class members origin under when : List ℕ} {classes : ℕ}
    {together : Set} → (k ≡ 0) × (first ≡ 0) × (classes ≡ 1)
    → ((j : ℕ) → (get_or class j 0 ≡ 0) × (get_or origin j 0 ≡ 0)) → Partition n class members classes together
    → Rounds Move n k first class members origin under when classes together
rounds-zero e z P = rw (e.0, e.1) (record {
  ready = ready-zero e.2 (λ p. (z p).0) (λ j. (z j).1) P;
  rounds_lt = omega (arith, e.2);
  separates = λ j l. absurd (omega (arith, l));
})

pub rounds-suc : {Move : Moves} {n k first : ℕ} {class members origin under when : List ℕ} {classes : ℕ}
    {together : Set} → Rounds Move n k first class members origin under when classes together
    → {next members' origin' under' when' : List ℕ} {classes' : ℕ} {together' : Set}
    → Rounded Move n k class next members' origin' under' when' classes classes' together' → classes < classes'
    → Rounds Move n (k + 1) classes next members' origin' under' when' classes' together'
rounds-suc {k = k} Z R l = record {
  ready = R.ready;
  rounds_lt = omega (arith, l, Z.rounds_lt);
  separates = below_more _ k Z.separates (R.separates.separates (omega (arith, l)));
}

-- The last round makes no further class.
pub last_rounded_of_rounds : {Move : Moves} {n k first : ℕ} {class members origin under when : List ℕ} {classes : ℕ}
    {together : Set} → Rounds Move n k first class members origin under when classes together
    → {next members' origin' under' when' : List ℕ} {classes' : ℕ} {together' : Set}
    → Rounded Move n k class next members' origin' under' when' classes classes' together' → classes' ≡ classes
    → LastRounded Move n k next members' origin' under' when' classes
last_rounded_of_rounds {Move} {n} {k} {class = class} {classes = classes} Z {next} {members'} {origin'} {under'} {when'}
    {together' = together'} R e = record {
      before = class;
      together = together';
      rounded = subst (λ (c : ℕ). Rounded Move n k class next members' origin' under' when' classes c together') e R;
      separates = Z.separates;
    }

-- Where a round is counted, a further one finds what it needs, and where it is not, it was the last.
module _ {Move : Moves} {n k first : ℕ} {class members origin under when : List ℕ} {classes : ℕ} {together : Set}
    (Z : Rounds Move n k first class members origin under when classes together)
    {next members' origin' under' when' : List ℕ} {classes' : ℕ} {together' : Set}
    (R : Rounded Move n k class next members' origin' under' when' classes classes' together') {told : Bool}
    {k' first' : ℕ} (C : Counted told k classes k' first' classes') where
  pub rounds_counted : told ≡ true → Rounds Move n k' first' next members' origin' under' when' classes' together'
  rounds_counted e = let m = C.more e in rw (m.1, m.2) (rounds-suc Z R m.0)

  pub last_rounded_counted : told ≡ false → LastRounded Move n k' next members' origin' under' when' classes'
  unfolding last_rounded_of_rounds
  last_rounded_counted e =
      let m = C.none e in
      rw m.1 (subst (λ (c : ℕ). LastRounded Move n k next members' origin' under' when' c) (sym m.0)
      (last_rounded_of_rounds Z R m.0))

-- ---- after the last round

-- The table is filled from what a round leaves that makes no further class.
module _ {Move : Moves} {n k : ℕ} {class next members origin under when : List ℕ} {classes classes' : ℕ}
    {together : Set} (R : Rounded Move n k class next members origin under when classes classes' together)
    (e : classes' ≡ classes) where
  pub tree_of_last : Tree classes origin when
  tree_of_last = subst (λ (c : ℕ). Tree c origin when) e R.ready.grown.tree

  pub member_sets_of_last : MemberSets n classes next members
  member_sets_of_last =
      let P = R.ready.partition in
      record {
        class_lt = λ p lp. omega (arith, e, P.class_lt p lp);
        all = P.member;
        only = λ c p l. P.member_only c p (omega (arith, e, l));
      }

  pub finished_of_last : {t u : List ℕ} → ((j : ℕ) → j < k → Separates Move n j)
      → ((apart : ℕ → ℕ → ℕ) → Apart classes origin when apart → (p q : ℕ) → p < n → q < n
      → entry_of u p q ≡ apart (get_or next p 0) (get_or next q 0)) → Outside n t u → Finished Move n k t u
  finished_of_last separates filled O =
      let G = R.ready.grown in
      record {
        ranks = ranks_up_to_same
            (filled G.apart (subst (λ (c : ℕ). Apart c origin when G.apart) e G.apart_is))
            R.ready.ranks;
        separates = separates;
        settled = R.separates.settled (omega (arith, e));
        outside = O;
      }
