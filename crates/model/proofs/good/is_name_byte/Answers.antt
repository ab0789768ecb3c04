-- The kind of the byte decides; digits and small letters stand below 256, so a larger number is none.
use Rattle.std.proofs.Common.{◌≡◌, ℕ, T, eqb, arith, ◌∙◌, sym, eq-eqb, ne_eqb}
use Rattle.text.specs.Bytes.{kind_of, digit, small_letter}
use Rattle.text.specs.Laws.BytesLaws.{digit_within, small_letter_within}
use Rattle.text.specs.Laws.DecidesLaws.{decides_test}
use Rattle.text.specs.Lines.{name_byte?}
use Rattle.model.proofs.good.is_name_byte.Goals as goal

no_other-name : (x : ℕ) → (kind_of x ≡ digit → ⊥) → (kind_of x ≡ small_letter → ⊥) → T (name_byte? x) → ⊥
unfolding name_byte?
no_other-name x d l t = rw (ne_eqb (kind_of x) digit d, ne_eqb (kind_of x) small_letter l) at t

pub returns-then-x-gt255 : goal.returns-then-x-gt255
returns-then-x-gt255 c =
    let x = c.args.x in
    no_other-name x (λ e. let w = digit_within x e in omega arith) (λ e. let w = small_letter_within x e in omega arith)

digit-name : (x : ℕ) → kind_of x ≡ digit → T (name_byte? x)
unfolding name_byte?
digit-name x e = rw (eq-eqb (kind_of x) digit e) tt

second-name : (x k : ℕ) → k ≡ kind_of x → (k ≡ digit → ⊥) → eqb k small_letter ≡ name_byte? x
unfolding name_byte?
second-name x k e d = rw (← e, ne_eqb k digit d)

pub returns-then-k-eq-DIGIT : goal.returns-then-k-eq-DIGIT
returns-then-k-eq-DIGIT c =
    rw (eq-eqb _ digit c.if-k-eq-DIGIT.true) (digit-name _ (sym c.kind-k.ensures ∙ c.if-k-eq-DIGIT.true))

pub returns-else-k-eq-DIGIT : goal.returns-else-k-eq-DIGIT
returns-else-k-eq-DIGIT c =
    decides_test _ _ (second-name _ _ c.kind-k.ensures c.if-k-eq-DIGIT.false)
