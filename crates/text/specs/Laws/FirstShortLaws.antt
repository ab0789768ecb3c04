-- The first list below its least length, list by list.
-- Document 01, "Refused because of the state", 21. Assumes nothing.
use Rattle.std.specs.Prelude.{List, [], ◌∷◌, ◌≡◌, ℕ, suc, ◌≤◌, ◌<◌}
use Rattle.std.proofs.Common.{⊎_elim, sym, ap, ◌∙◌, arith, lt-ltb, le-ltb}
use Rattle.std.proofs.Math.Option.{none, some}
use Rattle.std.proofs.Math.Path.{refl}
use Rattle.lts.proofs.TestsLaws.{lt_or_le}
use Rattle.text.specs.Faults.{first_short}

some_same : {a b : ℕ} → some a ≡ some b → a ≡ b
some_same e = cc

module _ (k : ℕ) where
  pub first_short_nil : first_short k [] [] ≡ none
  unfolding first_short
  first_short_nil = refl

  module _ (ns leasts : List ℕ) {n least : ℕ} where
    -- list k is too short
    pub first_short_lt : n < least → first_short k (n ∷ ns) (least ∷ leasts) ≡ some k
    unfolding first_short
    first_short_lt h = rw (lt-ltb n least h)

    -- list k is long enough
    pub first_short_le : least ≤ n → first_short k (n ∷ ns) (least ∷ leasts) ≡ first_short (suc k) ns leasts
    unfolding first_short
    first_short_le h = rw (le-ltb n least h)

    -- where no list is too short, list k is not, nor one behind it
    pub long_of_none : first_short k (n ∷ ns) (least ∷ leasts) ≡ none
        → (least ≤ n) × (first_short (suc k) ns leasts ≡ none)
    long_of_none e = ⊎_elim
        (λ l.
        let z : some k ≡ none = sym (first_short_lt l) ∙ e in
        let y : ◌≡◌ {A = ℕ} 0 1 = cc in
        absurd (omega arith))
        (λ l. (l, sym (first_short_le l) ∙ e))
        (lt_or_le n least)

-- counted from one more
pub first_short-suc : (k : ℕ) (ns leasts : List ℕ) {r : ℕ} → first_short k ns leasts ≡ some r
    → first_short (suc k) ns leasts ≡ some (suc r)
unfolding first_short
first_short-suc k [] leasts e = let z : ◌≡◌ {A = ℕ} 0 1 = cc in absurd (omega arith)
first_short-suc k (n ∷ ns) [] e = let z : ◌≡◌ {A = ℕ} 0 1 = cc in absurd (omega arith)
first_short-suc k (n ∷ ns) (least ∷ leasts) {r} e = ⊎_elim
    (λ l.
    let same : k ≡ r = some_same (sym (first_short_lt k ns leasts l) ∙ e) in
    first_short_lt (suc k) ns leasts l ∙ ap (λ (i : ℕ). some (suc i)) same)
    (λ l.
    first_short_le (suc k) ns leasts l
    ∙ first_short-suc (suc k) ns leasts (sym (first_short_le k ns leasts l) ∙ e))
    (lt_or_le n least)

-- ---- the first short list, in the order in which they are tested

module _ (ns leasts : List ℕ) {a least-a : ℕ} where
  pub first_short_is : a < least-a → first_short 1 (a ∷ ns) (least-a ∷ leasts) ≡ some 1
  first_short_is = first_short_lt 1 ns leasts

  module _ {b least-b : ℕ} (long-a : least-a ≤ a) where
    pub second_short : b < least-b → first_short 1 (a ∷ b ∷ ns) (least-a ∷ least-b ∷ leasts) ≡ some 2
    second_short h = first_short_le 1 _ _ long-a ∙ first_short_lt 2 ns leasts h

    module _ {c least-c : ℕ} (long-b : least-b ≤ b) where
      pub third_short : c < least-c
          → first_short 1 (a ∷ b ∷ c ∷ ns) (least-a ∷ least-b ∷ least-c ∷ leasts) ≡ some 3
      third_short h = first_short_le 1 _ _ long-a ∙ first_short_le 2 _ _ long-b ∙ first_short_lt 3 ns leasts h

      module _ {d least-d : ℕ} (long-c : least-c ≤ c) where
        pub fourth_short : d < least-d
            → first_short 1 (a ∷ b ∷ c ∷ d ∷ ns) (least-a ∷ least-b ∷ least-c ∷ least-d ∷ leasts) ≡ some 4
        fourth_short h =
            first_short_le 1 _ _ long-a ∙ first_short_le 2 _ _ long-b ∙ first_short_le 3 _ _ long-c
            ∙ first_short_lt 4 ns leasts h

        module _ {e least-e : ℕ} (long-d : least-d ≤ d) where
          pub fifth_short : e < least-e
              → first_short 1 (a ∷ b ∷ c ∷ d ∷ e ∷ ns) (least-a ∷ least-b ∷ least-c ∷ least-d ∷ least-e ∷ leasts)
              ≡ some 5
          fifth_short h =
              first_short_le 1 _ _ long-a ∙ first_short_le 2 _ _ long-b ∙ first_short_le 3 _ _ long-c
              ∙ first_short_le 4 _ _ long-d ∙ first_short_lt 5 ns leasts h

          pub sixth_short : {f least-f : ℕ} → least-e ≤ e → f < least-f
              → first_short 1 (a ∷ b ∷ c ∷ d ∷ e ∷ f ∷ ns)
              (least-a ∷ least-b ∷ least-c ∷ least-d ∷ least-e ∷ least-f ∷ leasts) ≡ some 6
          sixth_short long-e h =
              first_short_le 1 _ _ long-a ∙ first_short_le 2 _ _ long-b ∙ first_short_le 3 _ _ long-c
              ∙ first_short_le 4 _ _ long-d ∙ first_short_le 5 _ _ long-e ∙ first_short_lt 6 ns leasts h

-- ---- no list is short

module _ {a b least-a least-b : ℕ} (long-a : least-a ≤ a) (long-b : least-b ≤ b) where
  pub none_short_two : first_short 1 (a ∷ b ∷ []) (least-a ∷ least-b ∷ []) ≡ none
  none_short_two = first_short_le 1 _ _ long-a ∙ first_short_le 2 _ _ long-b ∙ first_short_nil 3

  module _ {c least-c : ℕ} (long-c : least-c ≤ c) where
    pub none_short_three : first_short 1 (a ∷ b ∷ c ∷ []) (least-a ∷ least-b ∷ least-c ∷ []) ≡ none
    none_short_three =
        first_short_le 1 _ _ long-a ∙ first_short_le 2 _ _ long-b ∙ first_short_le 3 _ _ long-c ∙ first_short_nil 4

    module _ {d least-d : ℕ} (long-d : least-d ≤ d) where
      pub none_short_four : first_short 1 (a ∷ b ∷ c ∷ d ∷ []) (least-a ∷ least-b ∷ least-c ∷ least-d ∷ []) ≡ none
      none_short_four =
          first_short_le 1 _ _ long-a ∙ first_short_le 2 _ _ long-b ∙ first_short_le 3 _ _ long-c
          ∙ first_short_le 4 _ _ long-d ∙ first_short_nil 5

      module _ {e f least-e least-f : ℕ} (long-e : least-e ≤ e) (long-f : least-f ≤ f) where
        pub none_short_six : first_short 1 (a ∷ b ∷ c ∷ d ∷ e ∷ f ∷ [])
            (least-a ∷ least-b ∷ least-c ∷ least-d ∷ least-e ∷ least-f ∷ []) ≡ none
        none_short_six =
            first_short_le 1 _ _ long-a ∙ first_short_le 2 _ _ long-b ∙ first_short_le 3 _ _ long-c
            ∙ first_short_le 4 _ _ long-d ∙ first_short_le 5 _ _ long-e ∙ first_short_le 6 _ _ long-f ∙
            first_short_nil 7

        pub none_short_seven : {g least-g : ℕ} → least-g ≤ g
            → first_short 1 (a ∷ b ∷ c ∷ d ∷ e ∷ f ∷ g ∷ [])
            (least-a ∷ least-b ∷ least-c ∷ least-d ∷ least-e ∷ least-f ∷ least-g ∷ []) ≡ none
        none_short_seven long-g =
            first_short_le 1 _ _ long-a ∙ first_short_le 2 _ _ long-b ∙ first_short_le 3 _ _ long-c
            ∙ first_short_le 4 _ _ long-d ∙ first_short_le 5 _ _ long-e ∙ first_short_le 6 _ _ long-f
            ∙ first_short_le 7 _ _ long-g ∙ first_short_nil 8
