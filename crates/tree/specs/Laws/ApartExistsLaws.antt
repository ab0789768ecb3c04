-- A splitting tree gives the round that separated each two of its classes: they are found class by class, for a class
-- was separated from the others when its origin was. So what the table's entries are promised to be, there is.
-- Assumes nothing.
use Rattle.std.specs.Prelude.{List, ◌⊎◌, ◌≡◌, refl, ℕ, zero, suc, ◌<◌, get_or}
use Rattle.std.proofs.Common.{inl, inr, sym, ap, ◌∙◌, arith}
use Rattle.lts.proofs.TestsLaws.{eq_or_not}
use Rattle.tree.specs.Inner.Tree.{Tree, Apart}

-- The rounds of the classes before m, and those of m: it was separated from o in round w, and from others when o was.
module _ (m o w : ℕ) (apart : ℕ → ℕ → ℕ) where
  abbrev round_off : (d : ℕ) → (d ≡ o) ⊎ ¬ (d ≡ o) → ℕ
  round_off d (inl e) = w
  round_off d (inr f) = apart o d

  abbrev round_with : (c d : ℕ) → (c ≡ m) ⊎ ¬ (c ≡ m) → (d ≡ m) ⊎ ¬ (d ≡ m) → ℕ
  round_with c d (inl e) (inl f) = 0
  round_with c d (inl e) (inr f) = round_off d (eq_or_not d o)
  round_with c d (inr e) (inl f) = round_off c (eq_or_not c o)
  round_with c d (inr e) (inr f) = apart c d

module _ {m : ℕ} {origin when : List ℕ} {apart : ℕ → ℕ → ℕ} (T : Tree (suc m) origin when)
    (A : Apart m origin when apart) where
  abbrev new_off : (d : ℕ) → (d ≡ get_or origin m 0) ⊎ ¬ (d ≡ get_or origin m 0) → ℕ
  new_off = round_off m (get_or origin m 0) (get_or when m 0) apart

  abbrev new_with : (c d : ℕ) → (c ≡ m) ⊎ ¬ (c ≡ m) → (d ≡ m) ⊎ ¬ (d ≡ m) → ℕ
  new_with = round_with m (get_or origin m 0) (get_or when m 0) apart

  apart_suc : Apart (suc m) origin when (λ c d. new_with c d (eq_or_not c m) (eq_or_not d m))
  apart_suc = record {
    same = λ c l. itself c l (eq_or_not c m);
    both_ways = λ c d l k. turned c d l k (eq_or_not c m) (eq_or_not d m);
    off = λ c p l. divided c p l (eq_or_not c m) (eq_or_not (get_or origin c 0) m);
    with_origin = λ c d b l g. others c d b l g (eq_or_not c m) (eq_or_not d m) (eq_or_not (get_or origin d 0) m);
  }
    where
      itself : (c : ℕ) → c < suc m → (x : (c ≡ m) ⊎ ¬ (c ≡ m)) → new_with c c x x ≡ 0
      itself c l (inl e) = refl
      itself c l (inr f) = A.same c (omega arith)

      turned : (c d : ℕ) → c < suc m → d < suc m → (x : (c ≡ m) ⊎ ¬ (c ≡ m)) → (y : (d ≡ m) ⊎ ¬ (d ≡ m))
          → new_with c d x y ≡ new_with d c y x
      turned c d l k (inl e) (inl f) = refl
      turned c d l k (inl e) (inr f) = refl
      turned c d l k (inr e) (inl f) = refl
      turned c d l k (inr e) (inr f) = A.both_ways c d (omega arith) (omega arith)

      divided : (c : ℕ) → 0 < c → c < suc m → (x : (c ≡ m) ⊎ ¬ (c ≡ m))
          → (y : (get_or origin c 0 ≡ m) ⊎ ¬ (get_or origin c 0 ≡ m)) → new_with c (get_or origin c 0) x y ≡ get_or
          when c 0
      divided c p l x (inl f) = absurd (omega (arith, f, T.origin_lt c p l, l))
      divided c p l (inl e) (inr f) = go (eq_or_not (get_or origin c 0) (get_or origin m 0))
        where
          go : (z : (get_or origin c 0 ≡ get_or origin m 0) ⊎ ¬ (get_or origin c 0 ≡ get_or origin m 0))
              → new_off (get_or origin c 0) z ≡ get_or when c 0
          go (inl _) = ap (λ (x : ℕ). get_or when x 0) (sym e)
          go (inr g) = absurd (g (ap (λ (x : ℕ). get_or origin x 0) e))
      divided c p l (inr e) (inr f) = A.off c p (omega arith)

      others : (c d : ℕ) → c < d → d < suc m → ¬ (c ≡ get_or origin d 0) → (x : (c ≡ m) ⊎ ¬ (c ≡ m))
          → (y : (d ≡ m) ⊎ ¬ (d ≡ m)) → (z : (get_or origin d 0 ≡ m) ⊎ ¬ (get_or origin d 0 ≡ m))
          → new_with c d x y ≡ new_with c (get_or origin d 0) x z
      others c d b l g (inl e) y z = absurd (omega (arith, e, b, l))
      others c d b l g (inr e) y (inl h) = absurd (omega (arith, h, T.origin_lt d (omega arith) l, l))
      others c d b l g (inr e) (inl f) (inr h) = go (eq_or_not c (get_or origin m 0))
        where
          same_origin : get_or origin m 0 ≡ get_or origin d 0
          same_origin = ap (λ (x : ℕ). get_or origin x 0) (sym f)

          go : (k : (c ≡ get_or origin m 0) ⊎ ¬ (c ≡ get_or origin m 0)) → new_off c k ≡ apart c (get_or origin d 0)
          go (inl k) = absurd (g (k ∙ same_origin))
          go (inr k) =
              A.both_ways (get_or origin m 0) c (omega (arith, f, T.origin_lt d (omega arith) l, same_origin))
              (omega (arith, b, f)) ∙ ap (apart c) same_origin
      others c d b l g (inr e) (inr f) (inr h) = A.with_origin c d b (omega arith) g

pub apart_exists : (classes : ℕ) {origin when : List ℕ} → Tree classes origin when
    → (apart : ℕ → ℕ → ℕ) × Apart classes origin when apart
apart_exists zero T = (
  λ c d. 0,
  record {
    same = λ c l. refl;
    both_ways = λ c d l k. refl;
    off = λ c p l. absurd (omega arith);
    with_origin = λ c d b l. absurd (omega arith);
  },
)
apart_exists (suc m) T =
    let before = apart_exists m (record {
      origin_lt = λ c p l. T.origin_lt c p (omega arith);
      when_pos = λ c p l. T.when_pos c p (omega arith);
      when_le = λ c d p b l. T.when_le c d p b (omega arith);
    }) in
    (_, apart_suc T before.1)
