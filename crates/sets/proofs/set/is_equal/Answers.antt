-- Two words with the same bits are equal.
use native.Mathlib.Omega.{arith}
use Rattle.text.specs.Laws.DecidesLaws.{decides_eqb}
use Rattle.sets.specs.Laws.SetValuesLaws.{set_of_refl, set_of_same-words, word_of_set_of}
use Rattle.sets.proofs.set.is_equal.Goals as goal

pub returns-then-a-b : goal.returns-then-a-b
returns-then-a-b c = λ s. c.if-a-b.true (word_of_set_of 0 (omega arith) (omega arith) (omega arith) s)

pub returns : goal.returns
returns c =
    decides_eqb c.args.a.1 c.args.b.1
    (λ e. set_of_same-words c.if-a-b.false e set_of_refl)
    (λ s. word_of_set_of 1 (omega arith) (omega arith) (omega arith) s)
