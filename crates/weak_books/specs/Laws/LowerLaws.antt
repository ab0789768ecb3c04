-- The pairs of a chain's entries are added to sets, so that these have the entries of lower depth.
-- Document 02, (v). Assumes nothing.
use Rattle.std.specs.Prelude.{List, ◌⊎◌, ◌≡◌, ℕ, ◌+◌, ◌/◌, ◌%◌, ◌<◌, get_or}
use Rattle.std.proofs.Common.{inl, inr, sym, subst, arith}
use Rattle.lts.proofs.TestsLaws.{eq_or_not}
use Rattle.lts.specs.Alike.{Relation}
use Rattle.lts.specs.Book.{LowerEntry}
use Rattle.text.specs.Limits.{state_limit, table_length, pair_place}
use Rattle.books.specs.Books.{book_of}
use Rattle.sets.specs.Inner.Sets.{Member, Empty, Joined}
use Rattle.weak_books.specs.Inner.Bounds.{byte_values}
use Rattle.weak_books.specs.Inner.Depths.{OnChain, Chained, Pairs, LowerBy, LowerAdded}
use Rattle.weak_books.specs.Laws.ChainsLaws.{on_chain-nil, on_chain-cons, on_chain_cases}

-- ---- pairs of entries

pub pairs-map : {R S : Relation} {sets : List ℕ} → ((t u : ℕ) → t < state_limit → u < state_limit → R t u → S t u)
    → ((t u : ℕ) → t < state_limit → u < state_limit → S t u → R t u) → Pairs R sets → Pairs S sets
pairs-map f g x = record {
  all = λ t u lt lu s. x.all t u lt lu (g t u lt lu s);
  only = λ t u lt m. f t u lt m.member_lt (x.only t u lt m);
}

-- What was added to the pairs of R.
pub pairs_then : {R S : Relation} {sets sets' : List ℕ} → Pairs R sets → Pairs (λ t u. S t u ⊎ Member sets t u) sets'
    → Pairs (λ t u. S t u ⊎ R t u) sets'
pairs_then {R} {S} {sets} x = pairs-map to back
  where
    to : (t u : ℕ) → t < state_limit → u < state_limit → S t u ⊎ Member sets t u → S t u ⊎ R t u
    to t u lt lu (inl s) = inl s
    to t u lt lu (inr m) = inr (x.only t u lt m)

    back : (t u : ℕ) → t < state_limit → u < state_limit → S t u ⊎ R t u → S t u ⊎ Member sets t u
    back t u lt lu (inl s) = inl s
    back t u lt lu (inr r) = inr (x.all t u lt lu r)

-- q was added to set p, and R holds of just these.
pairs_add : {R : Relation} {p q : ℕ} {sets sets' : List ℕ}
    → ((t u : ℕ) → t < state_limit → u < state_limit → R t u → (t ≡ p) × (u ≡ q))
    → ((t u : ℕ) → t ≡ p → u ≡ q → R t u) → Joined p (λ y. y ≡ q) sets sets'
    → Pairs (λ t u. R t u ⊎ Member sets t u) sets'
pairs_add {R} {p} {q} {sets} {sets'} f g j = record {
  all = λ t u lt lu h. all t u lt lu h;
  only = λ t u lt m. only t u (j.only t u m);
}
  where
    all : (t u : ℕ) → t < state_limit → u < state_limit → R t u ⊎ Member sets t u → Member sets' t u
    all t u lt lu (inl r) =
        let h = f t u lt lu r in
        subst (λ (x : ℕ). Member sets' x u) (sym h.0) (j.joined u h.1)
    all t u lt lu (inr m) = j.kept t u m

    only : (t u : ℕ) → Member sets t u ⊎ ((t ≡ p) × (u ≡ q)) → R t u ⊎ Member sets t u
    only t u (inl m) = inr m
    only t u (inr h) = inl (g t u h.0 h.1)

-- ---- along a chain

pub lower_added_at : {link there back there' back' : List ℕ} {from to : ℕ} → from ≡ to
    → LowerAdded (λ x. OnChain link x from) there back there' back'
    → LowerAdded (λ x. OnChain link x to) there back there' back'
lower_added_at {link} {there} {back} {there'} {back'} e =
    subst (λ (z : ℕ). LowerAdded (λ x. OnChain link x z) there back there' back') e

-- Nothing is added of an empty chain.
pub lower_added-nil : {link there back : List ℕ} {from : ℕ} → from ≡ 0
    → LowerAdded (λ x. OnChain link x from) there back there back
lower_added-nil {link} {from = from} z = record {
  firsts = record { all = λ t u lt lu. held; only = λ t u lt m. inr m };
  seconds = record { all = λ t u lt lu. held; only = λ t u lt m. inr m };
}
  where
    held : {M : Type 0} {x : ℕ} → OnChain link x from ⊎ M → M
    held (inl c) = absurd (on_chain-nil z c)
    held (inr m) = m

-- The pair of entry k.
pub lower_added_one : {k p q : ℕ} {there back there' back' : List ℕ} → p ≡ k / state_limit → q ≡ k % state_limit
    → Joined p (λ y. y ≡ q) there there' → Joined q (λ y. y ≡ p) back back'
    → LowerAdded (λ x. x ≡ k) there back there' back'
lower_added_one {k} {p} {q} ep eq i j = record {
  firsts = pairs_add {R = λ t u. pair_place t u ≡ k} (λ t u lt lu e. (omega arith, omega arith))
      (λ t u d e. omega arith) i;
  seconds = pairs_add {R = λ t u. pair_place u t ≡ k} (λ t u lt lu e. (omega arith, omega arith))
      (λ t u d e. omega arith) j;
}

-- The first entry of a chain, then the chain behind it.
pub lower_added-cons : {link there back there' back' there'' back'' : List ℕ} {from next : ℕ} (k : ℕ) → from ≡ k + 1
    → next ≡ get_or link k 0 → LowerAdded (λ x. x ≡ k) there back there' back'
    → LowerAdded (λ x. OnChain link x next) there' back' there'' back''
    → LowerAdded (λ x. OnChain link x from) there back there'' back''
lower_added-cons {link} {from = from} k e n a b = record {
  firsts = pairs-map (λ t u _ _. to) (λ t u _ _. back) (pairs_then a.firsts (lower_added_at n b).firsts);
  seconds = pairs-map (λ t u _ _. to) (λ t u _ _. back) (pairs_then a.seconds (lower_added_at n b).seconds);
}
  where
    to : {M : Type 0} {x : ℕ} → OnChain link x (get_or link k 0) ⊎ ((x ≡ k) ⊎ M) → OnChain link x from ⊎ M
    to (inl c) = inl (on_chain-cons k e (inr c))
    to (inr (inl d)) = inl (on_chain-cons k e (inl d))
    to (inr (inr m)) = inr m

    back : {M : Type 0} {x : ℕ} → OnChain link x from ⊎ M → OnChain link x (get_or link k 0) ⊎ ((x ≡ k) ⊎ M)
    back (inl c) = split (on_chain_cases k e c)
      where
        split : {M : Type 0} {x : ℕ} → (x ≡ k) ⊎ OnChain link x (get_or link k 0)
            → OnChain link x (get_or link k 0) ⊎ ((x ≡ k) ⊎ M)
        split (inl d) = inr (inl d)
        split (inr c) = inl c
    back (inr m) = inr (inr m)

-- ---- the entries of lower depth

pub lower_by-zero : {book there back : List ℕ} → Empty there → Empty back → LowerBy book 0 there back
lower_by-zero x y = record {
  firsts = record {
    all = λ t u lt lu l. absurd (omega (arith, l.depth_lt));
    only = λ t u lt m. absurd (x.none t u m);
  };
  seconds = record {
    all = λ t u lt lu l. absurd (omega (arith, l.depth_lt));
    only = λ t u lt m. absurd (y.none t u m);
  };
}

-- The chain of depth d has the entries of this depth.
pub lower_by_next : {book head link there back there' back' : List ℕ} {d : ℕ} → d < byte_values
    → Chained book head link table_length → LowerBy book d there back
    → LowerAdded (λ k. OnChain link k (get_or head d 0)) there back there' back' → LowerBy book (d + 1) there' back'
lower_by_next {book} {head} {link} {d = d} ld C L A = record {
  firsts = pairs-map (λ t u _ _. to) (λ t u lt lu. back (omega (arith, lt, lu))) (pairs_then L.firsts A.firsts);
  seconds = pairs-map (λ t u _ _. to) (λ t u lt lu. back (omega (arith, lt, lu)))
      (pairs_then L.seconds A.seconds);
}
  where
    to : {t u : ℕ} → OnChain link (pair_place t u) (get_or head d 0) ⊎ LowerEntry (book_of book) d t u
        → LowerEntry (book_of book) (d + 1) t u
    to (inl c) =
        let h = (C.only d _ ld c).1 in
        record { present = h.present; depth_lt = omega (arith, h.depth_is) }
    to (inr l) = record { present = l.present; depth_lt = omega (arith, l.depth_lt) }

    back : {t u : ℕ} → pair_place t u < table_length → LowerEntry (book_of book) (d + 1) t u
        → OnChain link (pair_place t u) (get_or head d 0) ⊎ LowerEntry (book_of book) d t u
    back {t} {u} l h = go (eq_or_not (book_of book t u).depth d)
      where
        go : ((book_of book t u).depth ≡ d) ⊎ ¬ ((book_of book t u).depth ≡ d)
            → OnChain link (pair_place t u) (get_or head d 0) ⊎ LowerEntry (book_of book) d t u
        go (inl e) = inl (C.on d _ ld l (record { present = h.present; depth_is = e }))
        go (inr n) = inr (record { present = h.present; depth_lt = omega (arith, h.depth_lt, n) })
