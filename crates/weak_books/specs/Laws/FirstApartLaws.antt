-- The lowest target that opens in a row, and the first opening of all. Where an answer is of the class of a target, no
-- target of that class opens. Assumes nothing.
use Rattle.std.specs.Prelude.{List, ◌⊎◌, ◌≡◌, refl, ℕ, ◌+◌, ◌≤◌, ◌<◌, get_or, Some, None}
use Rattle.std.proofs.Common.{inl, inr, ⊎_elim, sym, ◌∙◌, subst, arith}
use Rattle.lts.specs.Alike.{Relation}
use Rattle.lts.specs.Book.{Opens}
use Rattle.lts.proofs.TestsLaws.{lt_or_le}
use Rattle.text.specs.Limits.{state_limit}
use Rattle.sets.specs.Inner.Sets.{Member}
use Rattle.sets.specs.Inner.SetValues.{In, SetOf, LeastOf}
use Rattle.sets.specs.Laws.SetValuesLaws.{in_or_not}
use Rattle.sets.specs.declared.set.Set.{Set}
use Rattle.held.specs.Held.{slot_place, target_row, HeldAt, HeldList, HeldMove}
use Rattle.splitters.specs.Inner.Partition.{ClassSets}
use Rattle.sets.specs.Laws.WalkLaws.{least_rises}
use Rattle.weak_books.specs.declared.opening.Opening.{Opening}
use Rattle.weak_books.specs.Inner.Entering.{OtherClass, NoneOpens, FirstApart}
use Rattle.weak_books.specs.Inner.OpensTo.{Irreflexive, OpensTo, LowestTo, Tried}
use Rattle.weak_books.specs.Laws.OpensToLaws.{lowest_to_within, lowest_to_of_tried}

-- ---- one row

-- No state is of another class than itself.
pub other_class_irreflexive : (class : List ℕ) → Irreflexive (OtherClass class)
other_class_irreflexive class t d = d refl

-- With the same slot, each target of p is one of q.
pub lowest_to_same_slot : (slots pool class : List ℕ) (row p q : ℕ)
    → get_or slots (slot_place row p) 0 ≡ get_or slots (slot_place row q) 0
    → LowestTo (HeldAt slots pool row) (OtherClass class) p q state_limit
lowest_to_same_slot slots pool class row p q e =
    lowest_to_within (other_class_irreflexive class) (λ t m. subst (λ (j : ℕ). Member pool j t) e m)

-- Without the class of t, the least that is left is greater.
pub least_past : {n : ℕ} {class members : List ℕ} {t t' : ℕ} {alike left left' : Set} → ClassSets n class members
    → t < n → SetOf (Member members (get_or class t 0)) alike → LeastOf left t
    → SetOf (λ x. In left x × ¬ (In alike x)) left' → LeastOf left' t' → t < t'
least_past {t = t} C lt A least = least_rises least (A.all t (C.alike t t lt lt refl))

-- The class of t as a set, and the answers in it.
module _ {n : ℕ} {class members : List ℕ} {t : ℕ} {answers alike joint : Set} (C : ClassSets n class members)
    (lt : t < n) (A : SetOf (Member members (get_or class t 0)) alike)
    (J : SetOf (λ x. In alike x × In answers x) joint) where
  -- There is an answer, so that no target of that class opens.
  pub tried_next : {all left left' : Set} → Tried (OtherClass class) answers all left → ¬ ((u : ℕ) → ¬ (In joint u))
      → SetOf (λ x. In left x × ¬ (In alike x)) left' → Tried (OtherClass class) answers all left'
  tried_next {all} {left} {left'} T some L = record {
    left_in = λ x i. T.left_in x (L.only x i).0;
    gone = λ x i d f. go x i d f (in_or_not left x) (in_or_not alike x);
  }
    where
      go : (x : ℕ) → In all x → ¬ (In left' x) → ((u : ℕ) → In answers u → OtherClass class x u)
          → In left x ⊎ ¬ (In left x) → In alike x ⊎ ¬ (In alike x) → ⊥
      go x i d f (inr h) _ = T.gone x i h f
      go x i d f (inl h) (inr g) = d (L.all x (h, g))
      go x i d f (inl h) (inl g) = some (λ u j.
          let b = J.only u j in
          let e = (C.only t x lt (A.only x g)).1 in
          f u b.1 (sym e ∙ (C.only t u lt (A.only u b.0)).1))

module _ {Target : Relation} {p q : ℕ} {targets answers all : Set} (P : SetOf (Target p) targets)
    (Q : SetOf (Target q) answers) (L : SetOf (λ x. In targets x × ¬ (In answers x)) all) {class : List ℕ} {left : Set}
    {t : ℕ} (T : Tried (OtherClass class) answers all left) (least : LeastOf left t) where
  -- No answer is of the class of t.
  pub lowest_to_here : {n : ℕ} {members : List ℕ} {alike joint : Set} → ClassSets n class members → t < n
      → SetOf (Member members (get_or class t 0)) alike → SetOf (λ x. In alike x × In answers x) joint
      → ((u : ℕ) → Target q u → u < n) → ((u : ℕ) → ¬ (In joint u)) → LowestTo Target (OtherClass class) p q t
  lowest_to_here C lt A J small none = lowest_to_of_tried P Q L T least (other_class_irreflexive class)
      (λ _ u i e. none u (J.all u (A.all u (C.alike t u lt (small u (Q.only u i)) e), i)))

pub lowest_to-row : (Row : ℕ → Relation) {Leads : Relation} {r s p q t : ℕ} → r ≡ s → LowestTo (Row r) Leads p q t
    → LowestTo (Row s) Leads p q t
lowest_to-row Row {Leads} {p = p} {q} {t} e = subst (λ (x : ℕ). LowestTo (Row x) Leads p q t) e

-- ---- all labels

-- What is known of label i of the list, whose row was read.
module _ {n : ℕ} {labels : List ℕ} {count : ℕ} {slots pool : List ℕ} (H : HeldList n labels count slots pool) {i : ℕ}
    (l : i < count) where
  pub row_target_lt : {r : ℕ} → r ≡ target_row (get_or labels i 0) → (x y : ℕ) → x < state_limit → HeldAt slots pool r
      x y
      → y < n
  row_target_lt e x y lx h = (H.state_lt i x y l lx (subst (λ (r : ℕ). HeldAt slots pool r x y) e h)).1

pub none_opens-zero : {labels slots pool class : List ℕ} {p q : ℕ} → NoneOpens labels 0 slots pool class p q
none_opens-zero = record { none = λ j t l. absurd (omega (arith, l)) }

pub none_opens_at : {labels slots pool class : List ℕ} {p q i j : ℕ} → i ≡ j → NoneOpens labels i slots pool class p q
    → NoneOpens labels j slots pool class p q
none_opens_at {labels} {slots} {pool} {class} {p} {q} e = subst (λ (i : ℕ). NoneOpens labels i slots pool class p q) e

pub none_opens-suc : {labels slots pool class : List ℕ} {p q i t : ℕ} → NoneOpens labels i slots pool class p q
    → LowestTo (HeldAt slots pool (target_row (get_or labels i 0))) (OtherClass class) p q t → ¬ (t < state_limit)
    → NoneOpens labels (i + 1) slots pool class p q
none_opens-suc {labels} {slots} {pool} {class} {p} {q} {i} N low d = record {
  none = λ j u l o. ⊎_elim
      (λ k. N.none j u k o)
      (λ k.
      let e : j ≡ i = omega (arith, k, l) in
      low.none_before u (omega (arith, d, o.opening.member_lt))
      (subst (λ (x : ℕ). OpensTo (HeldAt slots pool (target_row (get_or labels x 0))) (OtherClass class) p q u) e o))
      (lt_or_le j i);
}

module _ {n : ℕ} {labels : List ℕ} {count : ℕ} {slots pool : List ℕ} {p q : ℕ}
    (H : HeldList n labels count slots pool) (lp : p < state_limit) (lq : q < state_limit) where
  -- An opening with a label of the list, by its row, and back.
  opens_of_row : {Leads : Relation} {i t : ℕ} → i < count
      → OpensTo (HeldAt slots pool (target_row (get_or labels i 0))) Leads p q t
      → Opens (HeldMove labels count slots pool) Leads p q (get_or labels i 0) t
  opens_of_row {i = i} l o = record {
    opening = record { source_lt = lp; number = i; number_lt = l; label_is = refl; held = o.opening };
    answers = λ u m. o.answers u m.held;
  }

  row_of_opens : {Leads : Relation} {b t : ℕ} → (o : Opens (HeldMove labels count slots pool) Leads p q b t)
      → OpensTo (HeldAt slots pool (target_row (get_or labels o.opening.number 0))) Leads p q t
  row_of_opens {Leads} {b} {t} o =
      let m = o.opening in
      subst (λ (a : ℕ). OpensTo (HeldAt slots pool (target_row a)) Leads p q t) (sym m.label_is) (record {
        opening = m.held;
        answers = λ u h. o.answers u (record {
          source_lt = lq;
          number = m.number;
          number_lt = m.number_lt;
          label_is = m.label_is;
          held = h;
        });
      })

  pub first_apart_none : {class : List ℕ} → NoneOpens labels count slots pool class p q
      → FirstApart (HeldMove labels count slots pool) class p q None
  first_apart_none N b u x = N.none x.opening.number u x.opening.number_lt (row_of_opens x)

  pub first_apart_of_lowest : {class : List ℕ} {i : ℕ} {o : Opening} → i < count
      → NoneOpens labels i slots pool class p q → o.label.0 ≡ get_or labels i 0
      → LowestTo (HeldAt slots pool (target_row (get_or labels i 0))) (OtherClass class) p q o.target.0
      → FirstApart (HeldMove labels count slots pool) class p q (Some o)
  first_apart_of_lowest {class} {i} {o} l N e low = record {
    opens =
        subst (λ (a : ℕ). Opens (HeldMove labels count slots pool) (OtherClass class) p q a o.target.0) (sym e)
        (opens_of_row l (low.opens o.target_lt));
    first = λ b u x. go b u x (lt_or_le x.opening.number i) (lt_or_le i x.opening.number);
  }
    where
      go : (b u : ℕ) (x : Opens (HeldMove labels count slots pool) (OtherClass class) p q b u)
          → (x.opening.number < i) ⊎ (i ≤ x.opening.number) → (i < x.opening.number) ⊎ (x.opening.number ≤ i)
          → (o.label.0 < b) ⊎ ((o.label.0 ≡ b) × (o.target.0 ≤ u))
      go b u x (inl k) _ = absurd (N.none x.opening.number u k (row_of_opens x))
      go b u x (inr k) (inl j) =
          let m = x.opening in
          inl (omega (arith, e, m.label_is, H.rising i m.number j m.number_lt))
      go b u x (inr k) (inr j) =
          let m = x.opening in
          let same : m.number ≡ i = omega (arith, k, j) in
          let f : get_or labels i 0 ≡ b = subst (λ (y : ℕ). get_or labels y 0 ≡ b) same m.label_is in
          let r = subst (λ (y : ℕ). OpensTo (HeldAt slots pool (target_row (get_or labels y 0))) (OtherClass class) p
          q u)
          same (row_of_opens x) in
          inr (e ∙ f, ⊎_elim (λ h. absurd (low.none_before u h r)) (λ h. h) (lt_or_le u o.target.0))
