-- A book is tested depth by depth: the first bad entry is found chain by chain, each before the one found so far.
-- Document 02, (v). Assumes nothing.
use Rattle.std.specs.Prelude.{List, ◌⊎◌, ◌≡◌, refl, ℕ, ◌+◌, ◌*◌, ◌/◌, ◌%◌, ◌<◌, get_or}
use Rattle.std.proofs.Common.{inl, inr, ◌∙◌, subst, arith}
use Rattle.lts.proofs.TestsLaws.{eq_or_not}
use Rattle.lts.specs.Alike.{Moves}
use Rattle.lts.specs.Book.{SoundAt}
use Rattle.text.specs.Limits.{state_limit, table_length, entry_size, pair_place}
use Rattle.books.specs.Books.{entry_number, book_of}
use Rattle.books.specs.Inner.Sides.{LowerNumber, FirstOf}
use Rattle.books.specs.Laws.ChecksLaws.{at_number}
use Rattle.weak_books.specs.Inner.Bounds.{byte_values}
use Rattle.weak_books.specs.Inner.Depths.{OnChain, Chained}
use Rattle.weak_books.specs.Laws.ChainsLaws.{on_chain-nil, on_chain_cases}

-- ---- some entries

module _ {Move : Moves} {book : List ℕ} where
  -- No entry before the limit that P holds of is bad.
  pub first_of_none : {P : ℕ → Type 0} {limit r : ℕ}
      → ((p q : ℕ) → q < state_limit → P (pair_place p q) → pair_place p q < limit → SoundAt Move (book_of book) p q)
      → r ≡ limit → FirstOf Move P book limit r
  first_of_none f i = record {
    number_le = omega (arith, i);
    sound = λ p q lp lq h l. f p q lq h (omega (arith, i, l));
    bad = λ p q lp lq e l. absurd (omega (arith, i, l));
  }

  -- Entry k alone, which is bad, or sound, or past the limit.
  pub first_of_bad : {limit k r : ℕ} → k < limit → ¬ (SoundAt Move (book_of book) (k / state_limit) (k % state_limit))
      → r ≡ k → FirstOf Move (λ x. x ≡ k) book limit r
  first_of_bad {limit} {k} {r} l b i = record {
    number_le = omega (arith, l, i);
    sound = λ p q lp lq e m. absurd (omega (arith, e, i, m));
    bad = λ p q lp lq e _. at_number (λ x y. ¬ (SoundAt Move (book_of book) x y)) b p q lq (e ∙ i);
  }

  pub first_of_sound : {limit k r : ℕ} → SoundAt Move (book_of book) (k / state_limit) (k % state_limit) → r ≡ limit
      → FirstOf Move (λ x. x ≡ k) book limit r
  first_of_sound s = first_of_none (λ p q lq e _. at_number (SoundAt Move (book_of book)) s p q lq e)

  pub first_of_past : {limit k r : ℕ} → ¬ (k < limit) → r ≡ limit → FirstOf Move (λ x. x ≡ k) book limit r
  first_of_past n = first_of_none (λ p q lq e l. absurd (n (omega (arith, e, l))))

  -- Those of P first, then those of Q up to the bad entry found, if any.
  pub first_of_then : {P Q R : ℕ → Type 0} {limit k j : ℕ} → ((x : ℕ) → x < table_length → R x → P x ⊎ Q x)
      → FirstOf Move P book limit k → FirstOf Move Q book k j → FirstOf Move R book limit j
  first_of_then {P} {Q} {R} {limit} {k} {j} f x y = record {
    number_le = omega (arith, x.number_le, y.number_le);
    sound = λ p q lp lq h l. sound p q lp lq l (f (pair_place p q) (omega (arith, lp, lq)) h);
    bad = λ p q lp lq e l. bad p q lp lq e l (eq_or_not j k);
  }
    where
      sound : (p q : ℕ) → p < state_limit → q < state_limit → pair_place p q < j → P (pair_place p q) ⊎ Q
          (pair_place p q)
          → SoundAt Move (book_of book) p q
      sound p q lp lq l (inl h) = x.sound p q lp lq h (omega (arith, l, y.number_le))
      sound p q lp lq l (inr h) = y.sound p q lp lq h l

      bad : (p q : ℕ) → p < state_limit → q < state_limit → pair_place p q ≡ j → j < limit → (j ≡ k) ⊎ ¬ (j ≡ k)
          → ¬ (SoundAt Move (book_of book) p q)
      bad p q lp lq e l (inl i) = x.bad p q lp lq (omega (arith, e, i)) (omega (arith, l, i))
      bad p q lp lq e l (inr n) = y.bad p q lp lq e (omega (arith, n, y.number_le))

  -- ---- along a chain

  pub first_of_at : {link : List ℕ} {from to limit r : ℕ} → from ≡ to
      → FirstOf Move (λ x. OnChain link x from) book limit r → FirstOf Move (λ x. OnChain link x to) book limit r
  first_of_at {link} {limit = limit} {r} =
      subst (λ (z : ℕ). FirstOf Move (λ x. OnChain link x z) book limit r)

  pub first_of_nil : {link : List ℕ} {from limit : ℕ} → from ≡ 0
      → FirstOf Move (λ x. OnChain link x from) book limit limit
  first_of_nil z = first_of_none (λ p q lq c. absurd (on_chain-nil z c)) refl

  pub first_of_cons : {link : List ℕ} {from next limit bad r : ℕ} (k : ℕ) → from ≡ k + 1 → next ≡ get_or link k 0
      → FirstOf Move (λ x. x ≡ k) book limit bad → FirstOf Move (λ x. OnChain link x next) book bad r
      → FirstOf Move (λ x. OnChain link x from) book limit r
  first_of_cons k e n a b = first_of_then (λ x _. on_chain_cases k e) a (first_of_at n b)

  -- ---- depth by depth

  pub first_lower_zero : {limit : ℕ} → FirstOf Move (LowerNumber book 0) book limit limit
  first_lower_zero = first_of_none (λ p q lq h. absurd (omega (arith, h.depth_lt))) refl

  pub first_lower_next : {head link : List ℕ} {d limit k j : ℕ} → d < byte_values → Chained book head link table_length
      → FirstOf Move (LowerNumber book d) book limit k
      → FirstOf Move (λ x. OnChain link x (get_or head d 0)) book k j
      → FirstOf Move (LowerNumber book (d + 1)) book limit j
  first_lower_next {head} {link} {d} ld C = first_of_then (λ x l h. go x l h (eq_or_not (entry_number book x).depth d))
    where
      go : (x : ℕ) → x < table_length → LowerNumber book (d + 1) x
          → ((entry_number book x).depth ≡ d) ⊎ ¬ ((entry_number book x).depth ≡ d)
          → LowerNumber book d x ⊎ OnChain link x (get_or head d 0)
      go x l h (inl e) = inr (C.on d x ld l (record { present = h.present; depth_is = e }))
      go x l h (inr n) = inl (record { present = h.present; depth_lt = omega (arith, h.depth_lt, n) })

  -- Each depth is a byte, so in the end all entries that are there were tested.
  pub first_lower_all : {d limit r : ℕ} → d ≡ byte_values → ((i : ℕ) → get_or book i 0 < byte_values)
      → FirstOf Move (LowerNumber book d) book limit r → FirstOf Move (λ k. k < table_length) book limit r
  first_lower_all {d} e byte f = record {
    number_le = f.number_le;
    sound = λ p q lp lq _ l present. f.sound p q lp lq
        (record { present = present; depth_lt = omega (arith, byte (entry_size * pair_place p q + 3), e) }) l present;
    bad = f.bad;
  }
