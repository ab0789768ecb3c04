-- Label by label the first sides open where they can, and their entries are the first of all openings. Assumes nothing.
use Rattle.std.specs.Prelude.{List, ◌⊎◌, ◌≡◌, refl, ℕ, ◌+◌, ◌≤◌, ◌<◌}
use Rattle.std.proofs.Common.{inl, inr, ⊎_elim, sym, ap, ◌∙◌, subst, arith}
use Rattle.lts.specs.Alike.{Moves, Relation}
use Rattle.lts.specs.Book.{Entry, Opens}
use Rattle.lts.proofs.TestsLaws.{lt_or_le}
use Rattle.text.specs.Limits.{state_limit, pair_place}
use Rattle.text.specs.Laws.ListsLaws.{past_refl, past_trans}
use Rattle.sets.specs.Inner.Sets.{Member}
use Rattle.silent.specs.Inner.Targets.{Targets}
use Rattle.weak_books.specs.Inner.OpensTo.{OpensTo}
use Rattle.weak_books.specs.Inner.Opened.{EntryOpened, stays, opens_not, opens_with, LabelOpened}
use Rattle.weak_books.specs.Inner.Opened.{OpenedBelow, none, first, OpenedTo, OnlyAt}

-- ---- one entry

module _ {Move : Moves} {d p q : ℕ} where
  -- Labels that no move has may be passed over.
  pub opened_below_skip : {Leads : Relation} {i j : ℕ} {e : Entry}
      → ((b t : ℕ) → i ≤ b → b < j → ¬ (Move p b t)) → OpenedBelow Move Leads d p q i e
      → OpenedBelow Move Leads d p q j e
  opened_below_skip {i = i} f (none z h) =
      none z (λ b t l o. ⊎_elim (λ k. h b t k o) (λ k. f b t k l o.opening) (lt_or_le b i))
  opened_below_skip f (first a t z o m) = first a t z o m

  -- The same openings, told in another way.
  pub opened_below_same : {Leads Leads' : Relation} {to : ℕ} {e : Entry}
      → ((a t : ℕ) → Opens Move Leads p q a t → Opens Move Leads' p q a t)
      → ((a t : ℕ) → Opens Move Leads' p q a t → Opens Move Leads p q a t) → OpenedBelow Move Leads d p q to e
      → OpenedBelow Move Leads' d p q to e
  opened_below_same f g (none z h) = none z (λ a t l o. h a t l (g a t o))
  opened_below_same f g (first a t z o m) = first a t z (f a t o) (λ b u x. m b u (g b u x))

module _ {Move : Moves} {a p q : ℕ} {targets lower : List ℕ} (K : Targets Move a targets) (lp : p < state_limit)
    (lq : q < state_limit) where
  opens_of_to : {t : ℕ} → OpensTo (Member targets) (Member lower) p q t → Opens Move (Member lower) p q a t
  opens_of_to {t} o = record {
    opening = K.only p t lp o.opening;
    answers = λ u m. o.answers u (K.reached q u m);
  }

  to_of_opens : {b t : ℕ} → b ≡ a → Opens Move (Member lower) p q b t → OpensTo (Member targets) (Member lower) p q t
  to_of_opens {b} {t} e o = record {
    opening = K.reached p t (subst (λ (x : ℕ). Move p x t) e o.opening);
    answers = λ u m. o.answers u (subst (λ (x : ℕ). Move q x u) (sym e) (K.only q u lq m));
  }

  pub opened_below_suc : {d : ℕ} {e e' : Entry} → OpenedBelow Move (Member lower) d p q a e
      → EntryOpened targets lower d a p q e e' → OpenedBelow Move (Member lower) d p q (a + 1) e'
  opened_below_suc (none z h) (stays present f) = absurd (present (ap (λ (x : Entry). x.side) z))
  opened_below_suc (none z h) (opens_not f g) =
      none (f ∙ z) (λ b t l o.
      ⊎_elim (λ k. h b t k o) (λ k. g t (to_of_opens (omega (arith, k, l)) o)) (lt_or_le b a))
  opened_below_suc (none z h) (opens_with t s f l n) =
      first a t f (opens_of_to (n.opens l)) (λ b u o. lowest b u o (lt_or_le b a) (lt_or_le a b) (lt_or_le u t))
    where
      lowest : (b u : ℕ) → Opens Move (Member lower) p q b u → (b < a) ⊎ (a ≤ b) → (a < b) ⊎ (b ≤ a)
          → (u < t) ⊎ (t ≤ u) → (a < b) ⊎ ((a ≡ b) × (t ≤ u))
      lowest b u o (inl k) _ _ = absurd (h b u k o)
      lowest b u o (inr k) (inl j) _ = inl j
      lowest b u o (inr k) (inr j) (inl i) = absurd (n.none_before u i (to_of_opens (omega (arith, k, j)) o))
      lowest b u o (inr k) (inr j) (inr i) = inr (omega (arith, k, j), i)
  opened_below_suc (first b t z o m) (stays present f) = first b t (f ∙ z) o m
  opened_below_suc (first b t z o m) (opens_not f g) = first b t (f ∙ z) o m
  opened_below_suc (first b t z o m) (opens_with u s f l n) =
      absurd (omega (arith, s, ap (λ (x : Entry). x.side) z))

-- ---- the entries of many

module _ {n : ℕ} {at : List ℕ} where
  pub only_at_refl : (book : List ℕ) → OnlyAt n at book book
  only_at_refl book = record { kept = λ k h. refl; past = past_refl book }

  pub only_at_trans : {book book' book'' : List ℕ} → OnlyAt n at book book' → OnlyAt n at book' book''
      → OnlyAt n at book book''
  only_at_trans x y = record { kept = λ k h. y.kept k h ∙ x.kept k h; past = past_trans x.past y.past }

  pub only_at_of_label : {targets lower : List ℕ} {d a : ℕ} {book book' : List ℕ}
      → LabelOpened targets lower at d a 0 (pair_place n 0) book book' → OnlyAt n at book book'
  only_at_of_label x = record {
    kept = λ k h. x.kept k (λ p q m _ l e. h p q (omega (arith, l, e)) m e);
    past = x.past;
  }

module _ {Move : Moves} {n : ℕ} {lower at : List ℕ} {d : ℕ} where
  pub opened_to_skip : {i j : ℕ} {book : List ℕ} → ((p b t : ℕ) → i ≤ b → b < j → ¬ (Move p b t))
      → OpenedTo Move n lower at d i book → OpenedTo Move n lower at d j book
  opened_to_skip f x = record { opened = λ p q l m. opened_below_skip (f p) (x.opened p q l m) }

  pub opened_to_none : {a : ℕ} {book : List ℕ} → ((p t : ℕ) → ¬ (Move p a t)) → OpenedTo Move n lower at d a book
      → OpenedTo Move n lower at d (a + 1) book
  opened_to_none {a} f = opened_to_skip (λ p b t l k m. f p t (subst (λ (x : ℕ). Move p x t) (omega (arith, l, k)) m))

  pub opened_to_at : {i j : ℕ} {book : List ℕ} → i ≡ j → OpenedTo Move n lower at d i book
      → OpenedTo Move n lower at d j book
  opened_to_at {book = book} e = subst (λ (x : ℕ). OpenedTo Move n lower at d x book) e

  pub opened_to_suc : {a : ℕ} {targets book book' : List ℕ} → n ≤ state_limit → Targets Move a targets
      → OpenedTo Move n lower at d a book → LabelOpened targets lower at d a 0 (pair_place n 0) book book'
      → OpenedTo Move n lower at d (a + 1) book'
  opened_to_suc states_le K x y = record {
    opened = λ p q l m.
        opened_below_suc K (omega (arith, l, states_le)) m.member_lt (x.opened p q l m)
        (y.opened p q m (omega arith) (omega (arith, l, m.member_lt)));
  }
