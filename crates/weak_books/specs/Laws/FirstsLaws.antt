-- The openings of the first side with one label are written entry by entry. Assumes nothing.
use Rattle.std.specs.Prelude.{List, ◌≡◌, refl, ℕ, ◌+◌, ◌≤◌, ◌<◌}
use Rattle.std.proofs.Common.{⊎_elim, sym, ◌∙◌, subst, arith}
use Rattle.lts.specs.Book.{Entry, Present}
use Rattle.lts.proofs.TestsLaws.{lt_or_le}
use Rattle.text.specs.Limits.{state_limit, pair_place}
use Rattle.text.specs.Laws.ListsLaws.{past_refl, past_trans}
use Rattle.sets.specs.declared.set.Set.{Set}
use Rattle.sets.specs.Inner.Sets.{Member}
use Rattle.sets.specs.Inner.SetValues.{In, SetOf, LeastOf}
use Rattle.sets.specs.Laws.WalkLaws.{least_after}
use Rattle.books.specs.Books.{entry_number}
use Rattle.books.specs.Inner.Filling.{EntryWritten}
use Rattle.weak_books.specs.Inner.OpensTo.{LowestTo}
use Rattle.weak_books.specs.Inner.Opened.{EntryOpened, stays, opens_not, opens_with}
use Rattle.weak_books.specs.Inner.Opened.{PairOpened, LabelOpened, MembersLeft}

-- ---- one entry

module _ {targets lower : List ℕ} {d a p q : ℕ} where
  pub pair_opened_stays : {book : List ℕ} → Present (entry_number book (pair_place p q))
      → PairOpened targets lower d a p q book book
  pair_opened_stays {book} present = record {
    opened = stays present refl;
    kept = λ k h. refl;
    past = past_refl book;
  }

  pub pair_opened_none : {t : ℕ} {book : List ℕ} → ¬ (t < state_limit) → LowestTo (Member targets) (Member lower) p q t
      → PairOpened targets lower d a p q book book
  pair_opened_none {t} {book} l n = record {
    opened = opens_not refl (λ u o. n.none_before u (omega (arith, l, o.opening.member_lt)) o);
    kept = λ k h. refl;
    past = past_refl book;
  }

  pub pair_opened_entry : {t : ℕ} {book book' : List ℕ} → (entry_number book (pair_place p q)).side ≡ 0 → t <
      state_limit
      → LowestTo (Member targets) (Member lower) p q t
      → EntryWritten (pair_place p q) (record { side = 1; action = a; target = t; depth = d }) book book'
      → PairOpened targets lower d a p q book book'
  pair_opened_entry {t} e l n w = record {
    opened = opens_with t e w.written l n;
    kept = w.kept;
    past = w.past;
  }

-- ---- many entries

-- Where no member is left, the least is that of none.
pub least_of_none : {s : Set} → ((x : ℕ) → ¬ (In s x)) → LeastOf s state_limit
least_of_none none = record {
  least_le = omega arith;
  none_before = λ x _. none x;
  member = λ l. absurd (omega (arith, l));
}

-- The walk over set p is at q.
module _ {at : List ℕ} {p q : ℕ} {left : Set} where
  pub members_left_start : SetOf (Member at p) left → MembersLeft at p q left
  members_left_start S = record { left_in = S.only; later = λ x m l. S.all x m }

  pub none_at_start : SetOf (Member at p) left → LeastOf left q → (x : ℕ) → 0 ≤ x → x < q → ¬ (Member at p x)
  none_at_start S least x _ l m = least.none_before x l (S.all x m)

  module _ {r : ℕ} {left' : Set} (M : MembersLeft at p q left) (least : LeastOf left q) (l : q < state_limit)
      (L : SetOf (λ x. In left x × ¬ (x ≡ q)) left') (next : LeastOf left' r) where
    pub member_after : q < r
    member_after = least_after least l L.only next

    pub members_left_next : MembersLeft at p r left'
    members_left_next = record {
      left_in = λ x i. M.left_in x (L.only x i).0;
      later = λ x m k.
          L.all x (M.later x m (omega (arith, member_after, k)), λ e. omega (arith, e, member_after, k));
    }

    pub none_after_member : (x : ℕ) → q + 1 ≤ x → x < r → ¬ (Member at p x)
    none_after_member x k h m =
        next.none_before x h (L.all x (M.later x m (omega (arith, k)), λ e. omega (arith, e, k)))

-- Between two members of a row there is none.
pub no_member_between : {at : List ℕ} {p i j : ℕ} → j ≤ state_limit → ((x : ℕ) → i ≤ x → x < j → ¬ (Member at p x))
    → (u v : ℕ) → Member at u v → pair_place p i ≤ pair_place u v → pair_place u v < pair_place p j → ⊥
no_member_between {at} {p} {i} {j} le none u v m l h =
    let e : u ≡ p = omega (arith, le, m.member_lt, l, h) in
    none v (omega (arith, le, m.member_lt, l, h)) (omega (arith, e, h))
    (subst (λ (y : ℕ). Member at y v) e m)

module _ {targets lower at : List ℕ} {d a : ℕ} where
  -- Where no two states are, nothing is written.
  pub label_opened_none : {i j : ℕ} (book : List ℕ)
      → ((p q : ℕ) → Member at p q → i ≤ pair_place p q → pair_place p q < j → ⊥)
      → LabelOpened targets lower at d a i j book book
  label_opened_none book none = record {
    opened = λ p q m l k. absurd (none p q m l k);
    kept = λ k h. refl;
    past = past_refl book;
  }

  pub label_opened_to : {i j k : ℕ} {book book' : List ℕ} → j ≡ k → LabelOpened targets lower at d a i j book book'
      → LabelOpened targets lower at d a i k book book'
  label_opened_to {i} {book = book} {book'} e = subst (λ (x : ℕ). LabelOpened targets lower at d a i x book book') e

  pub label_opened_then : {i j k : ℕ} {book book' book'' : List ℕ} → i ≤ j → j ≤ k
      → LabelOpened targets lower at d a i j book book' → LabelOpened targets lower at d a j k book' book''
      → LabelOpened targets lower at d a i k book book''
  label_opened_then {i} {j} {k} {book} {book'} {book''} li lk x y = record {
    opened = λ p q m l h. ⊎_elim
        (λ g.
        subst (EntryOpened targets lower d a p q (entry_number book (pair_place p q)))
        (sym (y.kept (pair_place p q) (λ u v n f _ _. omega (arith, f, g)))) (x.opened p q m l g))
        (λ g.
        subst (λ (e : Entry). EntryOpened targets lower d a p q e (entry_number book'' (pair_place p q)))
        (x.kept (pair_place p q) (λ u v n _ f _. omega (arith, f, g))) (y.opened p q m g h))
        (lt_or_le (pair_place p q) j);
    kept = λ z h.
        y.kept z (λ p q m l g. h p q m (omega (arith, li, l)) g)
        ∙ x.kept z (λ p q m l g. h p q m l (omega (arith, lk, g)));
    past = past_trans x.past y.past;
  }

  pub label_opened_pair : {p q : ℕ} {book book' : List ℕ} → Member at p q → PairOpened targets lower d a p q book book'
      → LabelOpened targets lower at d a (pair_place p q) (pair_place p (q + 1)) book book'
  label_opened_pair {p} {q} {book} {book'} m x = record {
    opened = λ u v n l h.
        let e : u ≡ p = omega (arith, m.member_lt, n.member_lt, l, h) in
        let f : v ≡ q = omega (arith, m.member_lt, n.member_lt, l, h) in
        subst (λ (y : ℕ). EntryOpened targets lower d a y v (entry_number book (pair_place y v))
        (entry_number book' (pair_place y v))) (sym e)
        (subst (λ (y : ℕ). EntryOpened targets lower d a p y (entry_number book (pair_place p y))
        (entry_number book' (pair_place p y))) (sym f) x.opened);
    kept = λ k h. x.kept k (λ e. h p q m (omega (arith, e)) (omega (arith, e)) e);
    past = x.past;
  }

  -- A member of a row, and then up to the next one.
  pub label_opened_next : {p q r : ℕ} {book book' book'' : List ℕ} → Member at p q
      → LabelOpened targets lower at d a (pair_place p 0) (pair_place p q) book book'
      → PairOpened targets lower d a p q book' book'' → q < r → r ≤ state_limit
      → ((x : ℕ) → q + 1 ≤ x → x < r → ¬ (Member at p x))
      → LabelOpened targets lower at d a (pair_place p 0) (pair_place p r) book book''
  label_opened_next {p} {q} {r} {book'' = book''} m x y l le none =
      label_opened_then (omega arith) (omega (arith, l))
      (label_opened_then (omega arith) (omega arith) x (label_opened_pair m y))
      (label_opened_none book'' (no_member_between le none))
