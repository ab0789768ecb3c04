-- The digits of n are those of n / 10 and one more: a call for the first, a byte for the last. The measure is n.
use Rattle.std.proofs.Common.{[], ◌∷◌, ◌++◌, ℕ, ◌+◌, ◌/◌, ◌%◌, ◌≤◌, ◌<◌, arith, ◌≡◌, refl, ap, ◌∙◌, lit<, length}
use Rattle.std.proofs.Common.{length-append, rules}
use Rattle.writer.specs.Laws.WroteLaws.{wrote-append}
use Rattle.text.specs.Bytes.{byte_zero}
use Rattle.text.specs.Numbers.{digits}
use Rattle.text.specs.Laws.DigitsLaws.{digits_up_to_lt, digits_up_to_le, digits-digits_up_to}
use Rattle.writer.proofs.position.Position.+number.Goals as goal

-- ---- digits, the last one apart

digits_lt : (n : ℕ) → n < 10 → digits n ≡ (byte_zero + n) ∷ []
unfolding digits
digits_lt n h = digits_up_to_lt 4 n h

digits_le : (n : ℕ) → 10 ≤ n → n < 100000 → digits n ≡ digits (n / 10) ++ ((byte_zero + n % 10) ∷ [])
digits_le n h b =
    digits-digits_up_to 0 5 n b (lit< tt) refl
    ∙ digits_up_to_le 4 n h
    ∙ rw (digits-digits_up_to 1 4 (n / 10) (omega arith) (lit< tt) refl)

digits_le-length : (n : ℕ) → 10 ≤ n → n < 100000 → length (digits n) ≡ length (digits (n / 10)) + 1
digits_le-length n h b = ap length (digits_le n h b) ∙ length-append (digits (n / 10)) ((byte_zero + n % 10) ∷ [])

pub byte-requires : goal.byte-requires
byte-requires t c = omega (arith, ap length (digits_lt c.args.n (search rules)))

pub returns-then-n-lt10 : goal.returns-then-n-lt10
returns-then-n-lt10 t c = rw (digits_lt c.args.n (search rules)) c.byte.ensures

pub number-requires : goal.number-requires
number-requires t c =
    let l = digits_le-length c.args.n (search rules) (omega arith) in
    (omega arith, omega arith)

pub byte-requires-2 : goal.byte-requires-2
byte-requires-2 t c = omega (arith, digits_le-length c.args.n (search rules) (omega arith))

pub returns : goal.returns
returns t c =
    rw (digits_le c.args.n (search rules) (omega arith))
    (wrote-append c.number.ensures c.byte-2.ensures)
