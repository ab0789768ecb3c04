-- The words of set k take the bits of set j, unless they have them all: then one of them changes.
use mathlib.Core.Logic.{⊎_elim}
use mathlib.Core.Path.{refl}
use Prim.Native.Nat.{◌+◌, ◌<◌}
use native.Mathlib.Omega.{arith}
use lib.ListN.{length, length-set}
use Rattle.sets.specs.Laws.WordsLaws.{joined_words, joined_same-words, words_of_stored}
use Rattle.sets.proofs.spread.Goals as goal

pub returns-then-high-old_high : goal.returns-then-high-old_high
returns-then-high-old_high c =
    let at = c.word_place-at in
    let of = c.word_place-of in
    record {
      joined = joined_same-words at.ensures of.ensures c.if-low-old_low.true c.if-high-old_high.true;
      decides = refl;
    }

pub bounds-sets-at-4 : goal.bounds-sets-at-4
bounds-sets-at-4 c = simp length-set (omega arith)

pub returns : goal.returns
returns c =
    let at = c.word_place-at in
    let of = c.word_place-of in
    let l : at.result + 1 < length c.args.sets.now = omega arith in record {
      joined = joined_words at.ensures of.ensures l refl;
      decides = λ e.
          let same = words_of_stored at.result l e in
          ⊎_elim (λ w. w.if-high-old_high.false same.1) (λ w. w.if-low-old_low.false same.0)
          c.if-low-old_low.branch-raw;
    }
