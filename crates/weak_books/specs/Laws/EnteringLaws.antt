-- Entries of many pairs, one after another: of a state and the members of a set, and of all pairs that a round has
-- separated. Assumes nothing.
use Rattle.std.specs.Prelude.{List, ◌⊎◌, ◌≡◌, refl, ℕ, ◌≤◌, ◌<◌, get_or}
use Rattle.std.proofs.Common.{inl, inr, ⊎_elim, sym, ◌∙◌, subst, arith}
use Rattle.lts.specs.Alike.{Moves}
use Rattle.lts.proofs.TestsLaws.{lt_or_le, eq_or_not, both_or_not}
use Rattle.text.specs.Limits.{state_limit, pair_place}
use Rattle.text.specs.Laws.ListsLaws.{past_refl, past_trans}
use Rattle.sets.specs.Inner.Sets.{Member}
use Rattle.sets.specs.Inner.SetValues.{In, SetOf, LeastOf}
use Rattle.sets.specs.Laws.SetValuesLaws.{in_or_not}
use Rattle.sets.specs.declared.set.Set.{Set}
use Rattle.ranking.specs.Inner.TableWrites.{SeparatedBy}
use Rattle.splitters.specs.Inner.Partition.{ClassSets}
use Rattle.lts.specs.Book.{Entry}
use Rattle.books.specs.Books.{entry_number}
use Rattle.books.specs.Inner.Filling.{EntryWritten}
use Rattle.weak_books.specs.Inner.Entering.{EntryApart, PairEntered, Entered, Beside, SeparatedBelow, Done}

-- The same entry, said in another way.
pub entry_written_as : {k : ℕ} {e f : Entry} {book book' : List ℕ} → e ≡ f → EntryWritten k e book book'
    → EntryWritten k f book book'
entry_written_as {k} {book = book} {book'} z = subst (λ (x : Entry). EntryWritten k x book book') z

-- ---- one after another

module _ {Move : Moves} {class : List ℕ} {depth : ℕ} where
  pub entered_pair : {p q : ℕ} {book book' : List ℕ} → p < state_limit → q < state_limit
      → PairEntered Move class depth p q book book'
      → Entered Move class depth (λ x y. (x ≡ p) × (y ≡ q)) book book'
  entered_pair {p} {q} {book} {book'} lp lq w = record {
    entered = λ x y lx ly. go x y;
    kept = λ x y lx ly f g.
        w.kept (pair_place x y) (λ e. f (omega (arith, e, lx, ly, lp, lq), omega (arith, e, lx, ly, lp, lq)))
        (λ e. g (omega (arith, e, lx, ly, lp, lq), omega (arith, e, lx, ly, lp, lq)));
    past = w.past;
  }
    where
      Is : ℕ → ℕ → Type 0
      Is x y = EntryApart Move class depth x y (entry_number book' (pair_place x y))

      go : (x y : ℕ) → ((x ≡ p) × (y ≡ q)) ⊎ ((y ≡ p) × (x ≡ q)) → Is x y
      go x y (inl (e, f)) = subst (λ (u : ℕ). Is u y) (sym e) (subst (λ (v : ℕ). Is p v) (sym f) w.there)
      go x y (inr (e, f)) = subst (λ (u : ℕ). Is u y) (sym f) (subst (λ (v : ℕ). Is q v) (sym e) w.back)

  pub entered_none : {P : ℕ → ℕ → Type 0} (book : List ℕ) → ((x y : ℕ) → ¬ (P x y))
      → Entered Move class depth P book book
  entered_none book none = record {
    entered = λ x y lx ly h. absurd (⊎_elim (none x y) (none y x) h);
    kept = λ x y lx ly f g. refl;
    past = past_refl book;
  }

  pub entered_same : {P Q : ℕ → ℕ → Type 0} {book book' : List ℕ} → ((x y : ℕ) → P x y → Q x y)
      → ((x y : ℕ) → Q x y → P x y) → Entered Move class depth P book book' → Entered Move class depth Q book book'
  entered_same f g w = record {
    entered = λ x y lx ly h. w.entered x y lx ly (⊎_elim (λ z. inl (g x y z)) (λ z. inr (g y x z)) h);
    kept = λ x y lx ly a b. w.kept x y lx ly (λ z. a (f x y z)) (λ z. b (f y x z));
    past = w.past;
  }

  pub entered_then : {P Q : ℕ → ℕ → Type 0} {book book' book'' : List ℕ} → ((x y : ℕ) → Q x y ⊎ ¬ (Q x y))
      → Entered Move class depth P book book' → Entered Move class depth Q book' book''
      → Entered Move class depth (λ x y. P x y ⊎ Q x y) book book''
  entered_then {P} {Q} {book' = book'} {book''} decide v w = record {
    entered = λ x y lx ly h. go x y lx ly h (decide x y) (decide y x);
    kept = λ x y lx ly f g.
        w.kept x y lx ly (λ z. f (inr z)) (λ z. g (inr z)) ∙ v.kept x y lx ly (λ z. f (inl z)) (λ z. g (inl z));
    past = past_trans v.past w.past;
  }
    where
      first : (x y : ℕ) → (P x y ⊎ Q x y) ⊎ (P y x ⊎ Q y x) → ¬ (Q x y) → ¬ (Q y x) → P x y ⊎ P y x
      first x y (inl (inl h)) f g = inl h
      first x y (inl (inr h)) f g = absurd (f h)
      first x y (inr (inl h)) f g = inr h
      first x y (inr (inr h)) f g = absurd (g h)

      go : (x y : ℕ) → x < state_limit → y < state_limit → (P x y ⊎ Q x y) ⊎ (P y x ⊎ Q y x)
          → Q x y ⊎ ¬ (Q x y) → Q y x ⊎ ¬ (Q y x)
          → EntryApart Move class depth x y (entry_number book'' (pair_place x y))
      go x y lx ly h (inl q) _ = w.entered x y lx ly (inl q)
      go x y lx ly h (inr f) (inl q) = w.entered x y lx ly (inr q)
      go x y lx ly h (inr f) (inr g) = subst (EntryApart Move class depth x y) (sym (w.kept x y lx ly f g))
          (v.entered x y lx ly (first x y h f g))

  -- ---- a walk over a set

  module _ {P : ℕ → ℕ → Type 0} {pick : ℕ → ℕ → ℕ} where
    pub done_start : {all : Set} (book : List ℕ) → ((x y : ℕ) → P x y → In all (pick x y))
        → Entered Move class depth (Done P pick all) book book
    done_start book f = entered_none book (λ x y d. d.visited (f x y d.holds))

    -- The pairs that go by v are done, and v is taken out.
    pub done_next : {Q : ℕ → ℕ → Type 0} {v : ℕ} {left left' : Set} {book book' book'' : List ℕ}
        → ((x y : ℕ) → Q x y ⊎ ¬ (Q x y)) → ((x y : ℕ) → Q x y → P x y × (pick x y ≡ v))
        → ((x y : ℕ) → P x y → pick x y ≡ v → Q x y)
        → SetOf (λ z. In left z × ¬ (z ≡ v)) left' → Entered Move class depth (Done P pick left) book book'
        → Entered Move class depth Q book' book'' → Entered Move class depth (Done P pick left') book book''
    done_next {Q} {v} {left} {left'} decide to of L a b = entered_same there back (entered_then decide a b)
      where
        there : (x y : ℕ) → Done P pick left x y ⊎ Q x y → Done P pick left' x y
        there x y (inl d) = record {
          holds = d.holds;
          visited = λ i. d.visited (L.only (pick x y) i).0;
        }
        there x y (inr q) = record {
          holds = (to x y q).0;
          visited = λ i. (L.only (pick x y) i).1 (to x y q).1;
        }

        back : (x y : ℕ) → Done P pick left' x y → Done P pick left x y ⊎ Q x y
        back x y d = go (in_or_not left (pick x y)) (eq_or_not (pick x y) v)
          where
            go : In left (pick x y) ⊎ ¬ (In left (pick x y)) → (pick x y ≡ v) ⊎ ¬ (pick x y ≡ v)
                → Done P pick left x y ⊎ Q x y
            go (inr f) _ = inl (record { holds = d.holds; visited = f })
            go (inl i) (inl e) = inr (of x y d.holds e)
            go (inl i) (inr f) = absurd (d.visited (L.all (pick x y) (i, f)))

    -- All are done where the least that is left is past them.
    pub done_end : {v : ℕ} {left : Set} {book book' : List ℕ} → LeastOf left v → ((x y : ℕ) → P x y → pick x y < v)
        → Entered Move class depth (Done P pick left) book book' → Entered Move class depth P book book'
    done_end least f w = entered_same (λ x y d. d.holds)
        (λ x y h. record { holds = h; visited = least.none_before (pick x y) (f x y h) }) w

-- ---- what a round has separated

pub separated_below-set : {n : ℕ} {class members next members' : List ℕ} {p : ℕ} {a b r : Set}
    → ClassSets n class members → ClassSets n next members' → p < n → SetOf (Member members (get_or class p 0)) a
    → SetOf (Member members' (get_or next p 0)) b → SetOf (λ q. In a q × ¬ (In b q)) r
    → SetOf (λ q. (q < n) × SeparatedBy class next p q) r
separated_below-set {p = p} C D lp A B R = record {
  all = λ q h. R.all q (
    A.all q (C.alike p q lp h.0 h.1.same_before),
    λ i. h.1.not_same_after (D.only p q lp (B.only q i)).1,
  );
  only = λ q i.
      let h = R.only q i in
      let s = C.only p q lp (A.only q h.0) in (
        s.0,
        record {
          same_before = s.1;
          not_same_after = λ e. h.1 (B.all q (D.alike p q lp s.0 e));
        },
      );
}

pub beside_or_not : (p : ℕ) (others : Set) (x y : ℕ) → Beside p others x y ⊎ ¬ (Beside p others x y)
beside_or_not p others x y = go (both_or_not (eq_or_not x p) (in_or_not others y)) (lt_or_le y p)
  where
    go : ((x ≡ p) × In others y) ⊎ ¬ ((x ≡ p) × In others y) → (y < p) ⊎ (p ≤ y)
        → Beside p others x y ⊎ ¬ (Beside p others x y)
    go (inl h) (inl l) = inl (record { first_is = h.0; lower = l; other = h.1 })
    go (inl h) (inr l) = inr (λ b. absurd (omega (arith, l, b.lower)))
    go (inr f) l = inr (λ b. f (b.first_is, b.other))

pub pair_beside : {p q : ℕ} {others : Set} → Beside p others p q → (x y : ℕ) → (x ≡ p) × (y ≡ q)
    → Beside p others x y × (y ≡ q)
pair_beside {p} {q} {others} b x y (e, f) = (
  record { first_is = e; lower = omega (arith, f, b.lower); other = subst (In others) (sym f) b.other },
  f,
)

module _ {n : ℕ} {class next : List ℕ} {p : ℕ} {others : Set} (lp : p < n)
    (S : SetOf (λ q. (q < n) × SeparatedBy class next p q) others) where
  pub separated_below_of_beside : (x y : ℕ) → Beside p others x y → SeparatedBelow n class next x y × (x ≡ p)
  separated_below_of_beside x y h = (
    subst (λ (z : ℕ). SeparatedBelow n class next z y) (sym h.first_is) (record {
      first_lt = lp;
      lower = h.lower;
      separated = (S.only y h.other).1;
    }),
    h.first_is,
  )

  pub beside_of_separated_below : (x y : ℕ) → SeparatedBelow n class next x y → x ≡ p → Beside p others x y
  beside_of_separated_below x y h e =
      let g = subst (λ (z : ℕ). SeparatedBelow n class next z y) e h in
      record {
        first_is = e;
        lower = g.lower;
        other = S.all y (omega (arith, g.lower, lp), g.separated);
      }
