-- A class divided: the lists of classes and of sets are a partition again, and the new class has noted where it comes
-- from. Assumes nothing.
use Rattle.std.specs.Prelude.{List, ◌⊎◌, ◌≡◌, refl, ℕ, ◌+◌, ◌≤◌, ◌<◌, ltb, length, get_or, set}
use Rattle.std.proofs.Common.{inl, inr, sym, ap, ◌∙◌, subst, arith, get_or-set_same, get_or-set_other}
use Rattle.lts.proofs.TestsLaws.{eq_or_not}
use Rattle.by_state.specs.Inner.Numbered.{Same}
use Rattle.sets.specs.Inner.Sets.{Member}
use Rattle.sets.specs.Inner.SetValues.{In, SetOf, SetPut}
use Rattle.sets.specs.Laws.SetValuesLaws.{in_or_not}
use Rattle.sets.specs.declared.set.Set.{Set}
use Rattle.held.specs.Held.{chosen}
use Rattle.splitters.specs.Inner.Partition.{Partition, home, HomesKept, Moved, TwoParts}
use Rattle.splitters.specs.Laws.HomeLaws.{home_le}
use Rattle.splitters.specs.Laws.PartitionLaws.{numbers_le, moved_in, kept_in, kept_of_class, some_next}
use Rattle.splitters.specs.Laws.PartitionLaws.{moved_of_new, split_by_moved}

-- What is taken out of `together` is alone in s.
abbrev pub AloneOut : Set → Set → Set → Type 0
AloneOut s together fewer = ((x : ℕ) → In fewer x → In together x)
    × ((x : ℕ) → In together x → ¬ (In fewer x) → In s x × ((y : ℕ) → In s y → y ≡ x))

-- ---- states that move

pub moved_none : {a : Set} {c : ℕ} {t : List ℕ} → ((y : ℕ) → ¬ (In a y)) → Moved a c t t
moved_none f = record { moved = λ y m. absurd (f y m); kept = λ y _. refl }

pub moved_other : {p c : ℕ} {a b : Set} {t u w : List ℕ} → p < length t → u ≡ set t p c → In a p
    → SetOf (λ y. In a y × ¬ (y ≡ p)) b → Moved b c u w → Moved a c t w
moved_other {p} {c} {a} {b} {t} {u} {w} l put m s g = record {
  moved = λ y i. moved y i (eq_or_not y p);
  kept = λ y d.
      g.kept y (λ i. d (s.only y i).0) ∙ ap (λ (v : List ℕ). get_or v y 0) put
      ∙ get_or-set_other t p y c 0 (λ e. d (subst (In a) (sym e) m));
}
  where
    moved : (y : ℕ) → In a y → (y ≡ p) ⊎ ¬ (y ≡ p) → get_or w y 0 ≡ c
    moved y i (inl e) =
        ap (λ (x : ℕ). get_or w x 0) e ∙ g.kept p (λ j. (s.only p j).1 refl) ∙ ap (λ (v : List ℕ). get_or v p 0) put
        ∙ get_or-set_same t p c 0 l
    moved y i (inr d) = g.moved y (s.all y (i, d))

-- ---- homes

module _ {n c classes : ℕ} {class members : List ℕ} {together moved kept : Set}
    (P : Partition n class members classes together) (l : c < classes) (T : TwoParts members c moved kept)
    {next : List ℕ} (M : Moved moved classes class next) where
  pub homes_kept_put : {old from : ℕ} {origin origin' : List ℕ} → old ≤ classes → classes < length origin
      → from ≡ home old origin c → origin' ≡ set origin classes from → HomesKept n old origin class origin' next
  homes_kept_put {old} {from} {origin} {origin'} lo lc h put = record {
    same = λ p lp. go p lp (in_or_not moved p);
    origin_kept = λ j lj. noted j (λ e. omega (arith, e, lj, lo));
  }
    where
      -- Other classes come from where they did.
      noted : (i : ℕ) → ¬ (i ≡ classes) → get_or origin' i 0 ≡ get_or origin i 0
      noted i d = ap (λ (o : List ℕ). get_or o i 0) put ∙ get_or-set_other origin classes i from 0 d

      go : (p : ℕ) → p < n → In moved p ⊎ ¬ (In moved p)
          → home old origin' (get_or next p 0) ≡ home old origin (get_or class p 0)
      go p lp (inl m) =
          ap (home old origin') (M.moved p m) ∙ home_le origin' lo
          ∙ ap (λ (o : List ℕ). get_or o classes 0) put ∙ get_or-set_same origin classes from 0 lc ∙ h
          ∙ ap (home old origin) (sym (moved_in P l T p m).1)
      go p lp (inr d) =
          let i = get_or class p 0 in
          ap (home old origin') (M.kept p d)
          ∙ ap (chosen (ltb i old) i) (noted i (λ e. omega (arith, e, P.class_lt p lp)))

  -- ---- the partition

  next_kept : (p : ℕ) → In kept p → get_or next p 0 ≡ c
  next_kept p i = M.kept p (λ m. T.apart p m i) ∙ (kept_in P l T p i).1

  module _ {middle members' : List ℕ} (S : SetPut classes moved members middle)
      (R : SetPut c kept middle members') where
    member_next : (p : ℕ) → p < n → Member members' (get_or next p 0) p
    member_next p lp = go (in_or_not moved p) (eq_or_not (get_or class p 0) c)
      where
        at : {i : ℕ} → get_or next p 0 ≡ i → Member members' i p → Member members' (get_or next p 0) p
        at e m = subst (λ (i : ℕ). Member members' i p) (sym e) m

        go : In moved p ⊎ ¬ (In moved p) → (get_or class p 0 ≡ c) ⊎ ¬ (get_or class p 0 ≡ c)
            → Member members' (get_or next p 0) p
        go (inl i) _ = at (M.moved p i) (R.kept classes p (λ e. omega (arith, e, l)) (S.put.only p i))
        go (inr i) (inl e) = at (M.kept p i ∙ e) (R.put.only p (kept_of_class P l T p lp e i))
        go (inr i) (inr d) =
            at (M.kept p i) (R.kept (get_or class p 0) p d
            (S.kept (get_or class p 0) p (λ e. omega (arith, e, P.class_lt p lp)) (P.member p lp)))

    member_only_next : (i p : ℕ) → i < classes + 1 → Member members' i p → (p < n) × (get_or next p 0 ≡ i)
    member_only_next i p k m = go (eq_or_not i c) (eq_or_not i classes)
      where
        go : (i ≡ c) ⊎ ¬ (i ≡ c) → (i ≡ classes) ⊎ ¬ (i ≡ classes) → (p < n) × (get_or next p 0 ≡ i)
        go (inl e) _ =
            let j = R.put.all p (subst (λ (i : ℕ). Member members' i p) e m) in
            ((kept_in P l T p j).0, next_kept p j ∙ sym e)
        go (inr d) (inl e) =
            let j = S.put.all p (subst (λ (i : ℕ). Member middle i p) e (R.only i p d m)) in
            ((moved_in P l T p j).0, M.moved p j ∙ sym e)
        go (inr d) (inr f) =
            let h = P.member_only i p (omega (arith, k, f)) (S.only i p f (R.only i p d m)) in
            (h.0, M.kept p (λ j. d (sym h.1 ∙ (moved_in P l T p j).1)) ∙ h.1)

    module _ {fewer together' : Set} (a : AloneOut moved together fewer) (b : AloneOut kept fewer together') where
      together_next : (p q : ℕ) → p < n → q < n → Same next p q → ¬ (p ≡ q) → In together' p
      together_next p q lp lq e d = second (in_or_not together' p)
        where
          h : Same class p q
          h = (split_by_moved P l T M).same_before p q lp lq e

          first : In fewer p ⊎ ¬ (In fewer p) → In fewer p
          first (inl i) = i
          first (inr f) =
              let s = a.1 p (P.together_all p q lp lq h d) f in
              absurd (d (sym (s.1 q (moved_of_new P l T M q lq (sym e ∙ M.moved p s.0)))))

          second : In together' p ⊎ ¬ (In together' p) → In together' p
          second (inl i) = i
          second (inr f) =
              let s = b.1 p (first (in_or_not fewer p)) f in
              let r : ¬ (In moved q) = λ m. omega (arith, M.moved q m, e, next_kept p s.0) in
              absurd (d (sym (s.1 q (kept_of_class P l T q lq (sym h ∙ (kept_in P l T p s.0).1) r))))

      pub partition_next : Partition n next members' (classes + 1) together'
      partition_next =
          let some = some_next P l T (λ (p : ℕ). get_or next p 0) M.moved M.kept in
          record {
            classes_le = numbers_le (classes + 1) n (λ (p : ℕ). get_or next p 0) some;
            class_lt = λ p lp. below p lp (in_or_not moved p);
            member = member_next;
            member_only = member_only_next;
            some = some;
            together_all = together_next;
            together_lt = λ p i. P.together_lt p (a.0 p (b.0 p i));
          }
        where
          below : (p : ℕ) → p < n → In moved p ⊎ ¬ (In moved p) → get_or next p 0 < classes + 1
          below p lp (inl i) = omega (arith, M.moved p i)
          below p lp (inr i) = omega (arith, M.kept p i, P.class_lt p lp)
