-- The digits are those of n / 10 and one more, down to a number below ten. Assumes nothing.
-- ---- the number of digits, one by one
use Rattle.std.proofs.Common.{[], ◌∷◌, ◌≡◌, ap, ◌∙◌, ℕ, suc, ◌+◌, ◌/◌, ◌%◌, ◌≤◌, ◌<◌, arith, length, length-append}
use Rattle.std.proofs.Common.{rules}
use Rattle.text.specs.Bytes.{byte_zero}
use Rattle.text.specs.Numbers.{digits, digits_up_to}
use Rattle.text.specs.Laws.DigitsLaws.{digits_up_to_lt, digits_up_to_le}
use Rattle.columns.proofs.line.digit_count.Goals as goal

length_lt : (k n : ℕ) → n < 10 → length (digits_up_to (suc k) n) ≡ 1
length_lt k n l = ap length (digits_up_to_lt k n l)

length_le : (k n d : ℕ) → 10 ≤ n → length (digits_up_to k (n / 10)) ≡ d → length (digits_up_to (suc k) n) ≡ d + 1
length_le k n d l e =
    ap length (digits_up_to_le k n l)
    ∙ length-append (digits_up_to k (n / 10)) ((byte_zero + n % 10) ∷ [])
    ∙ ap (λ (x : ℕ). x + 1) e

pub returns-in-0-to-9 : goal.returns-in-0-to-9
unfolding digits
returns-in-0-to-9 c =
    let e = length_lt 4 c.args.n (search rules) in
    omega (arith, e)

pub returns-in-10-to-99 : goal.returns-in-10-to-99
unfolding digits
returns-in-10-to-99 c =
    let n = c.args.n in
    let e = length_le 4 n 1 (search rules) (length_lt 3 (n / 10) (omega arith)) in
    omega (arith, e)

pub returns-in_default : goal.returns-in_default
unfolding digits
returns-in_default c =
    let n = c.args.n in
    let two = length_le 3 (n / 10) 1 (omega arith) (length_lt 2 (n / 10 / 10) (omega arith)) in
    let e = length_le 4 n 2 (omega arith) two in
    omega (arith, e)
