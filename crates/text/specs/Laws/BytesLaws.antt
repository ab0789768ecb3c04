-- Which bytes are of which kind, and that a comma and a line end are one byte each.
-- Document 01, "The text". Assumes nothing.
use Rattle.std.specs.Prelude.{Bool, true, false, cond, not, [], ◌∷◌, ◌⊎◌, ◌≡◌, ℕ, suc, ◌≤◌, T, leb, eqb, get_or}
use Rattle.std.proofs.Common.{inl, inr, sym, subst, arith, leb→le, le→leb}
use borrow.Author.Tests.{eqb-true, le-leb, ne_eqb}
use Rattle.lts.proofs.TestsLaws.{and_left, and_right, and_intro, T_cases, not-T→false}
use Rattle.text.specs.Bytes.{byte_zero, byte_nine, byte_small_a, byte_small_z, byte_a, byte_z, byte_comma}
use Rattle.text.specs.Bytes.{byte_line_end}
use Rattle.text.specs.Bytes.{between?, kind_of, other, digit, small_letter, capital, comma, line_end}

pub between?→le : (least most x : ℕ) → T (between? least most x) → (least ≤ x) × (x ≤ most)
between?→le least most x t =
    (leb→le least x (and_left (leb least x) (leb x most) t), leb→le x most (and_right (leb least x) (leb x most) t))

pub le→between? : (least most x : ℕ) → least ≤ x → x ≤ most → T (between? least most x)
le→between? least most x h l = and_intro (leb least x) (leb x most) (le→leb least x h) (le→leb x most l)

-- ---- the kind of a byte, by the first of five tests that it passes

tests : Bool → Bool → Bool → Bool → Bool → ℕ
tests d s c m e = cond d 1 (cond s 2 (cond c 3 (cond m 4 (cond e 5 0))))

-- the test of the kind that came out was passed
tests_passed : (d s c m e : Bool) (k : ℕ) → tests d s c m e ≡ suc k → get_or (d ∷ s ∷ c ∷ m ∷ e ∷ []) k false ≡ true
unfolding tests
tests_passed true s c m e k h = let z : k ≡ 0 = omega arith in rw z
tests_passed false true c m e k h = let z : k ≡ 1 = omega arith in rw z
tests_passed false false true m e k h = let z : k ≡ 2 = omega arith in rw z
tests_passed false false false true e k h = let z : k ≡ 3 = omega arith in rw z
tests_passed false false false false true k h = let z : k ≡ 4 = omega arith in rw z
tests_passed false false false false false k h = absurd (omega arith)

module _ (b : ℕ) where
  passed : (k : ℕ) → kind_of b ≡ suc k → get_or (
      between? byte_zero byte_nine b
      ∷ between? byte_small_a byte_small_z b
      ∷ between? byte_a byte_z b
      ∷ eqb b byte_comma
      ∷ eqb b byte_line_end
      ∷ []
      ) k false ≡ true
  unfolding kind_of tests
  passed k h =
      tests_passed (between? byte_zero byte_nine b) (between? byte_small_a byte_small_z b) (between? byte_a byte_z b)
      (eqb b byte_comma) (eqb b byte_line_end) k h

  within : (least most : ℕ) → between? least most b ≡ true → (least ≤ b) × (b ≤ most)
  within least most e = between?→le least most b (subst T (sym e) tt)

  pub digit_within : kind_of b ≡ digit → (byte_zero ≤ b) × (b ≤ byte_nine)
  digit_within h = within byte_zero byte_nine (passed 0 h)

  pub small_letter_within : kind_of b ≡ small_letter → (byte_small_a ≤ b) × (b ≤ byte_small_z)
  small_letter_within h = within byte_small_a byte_small_z (passed 1 h)

  pub capital_within : kind_of b ≡ capital → (byte_a ≤ b) × (b ≤ byte_z)
  capital_within h = within byte_a byte_z (passed 2 h)

  -- one byte is the comma, and one the line end
  pub comma_only : kind_of b ≡ comma → b ≡ byte_comma
  comma_only h = eqb-true b byte_comma (passed 3 h)

  pub line_end_only : kind_of b ≡ line_end → b ≡ byte_line_end
  line_end_only h = eqb-true b byte_line_end (passed 4 h)

  outside : (least most : ℕ) → (least ≤ b → b ≤ most → ⊥) → between? least most b ≡ false
  outside least most not_in = go (T_cases (between? least most b))
    where
      go : T (between? least most b) ⊎ T (not (between? least most b)) → between? least most b ≡ false
      go (inl t) = let w = between?→le least most b t in absurd (not_in w.0 w.1)
      go (inr f) = not-T→false (between? least most b) f

  pub digit_kind : byte_zero ≤ b → b ≤ byte_nine → kind_of b ≡ digit
  unfolding kind_of
  digit_kind h l = rw (le-leb byte_zero b h, le-leb b byte_nine l)

  pub small_letter_kind : byte_small_a ≤ b → b ≤ byte_small_z → kind_of b ≡ small_letter
  unfolding kind_of
  small_letter_kind h l =
      rw (outside byte_zero byte_nine (λ m n. omega arith), le-leb byte_small_a b h, le-leb b byte_small_z l)

  pub capital_kind : byte_a ≤ b → b ≤ byte_z → kind_of b ≡ capital
  unfolding kind_of
  capital_kind h l =
      rw (
        outside byte_zero byte_nine (λ m n. omega arith),
        outside byte_small_a byte_small_z (λ m n. omega arith),
        le-leb byte_a b h,
        le-leb b byte_z l,
      )

  -- a byte that passes none of the five tests
  pub other_kind : (byte_zero ≤ b → b ≤ byte_nine → ⊥) → (byte_small_a ≤ b → b ≤ byte_small_z → ⊥)
      → (byte_a ≤ b → b ≤ byte_z → ⊥) → (b ≡ byte_comma → ⊥) → (b ≡ byte_line_end → ⊥) → kind_of b ≡ other
  unfolding kind_of
  other_kind d s c m e =
      rw (
        outside byte_zero byte_nine d,
        outside byte_small_a byte_small_z s,
        outside byte_a byte_z c,
        ne_eqb b byte_comma m,
        ne_eqb b byte_line_end e,
      )
