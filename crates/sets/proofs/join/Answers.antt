-- Each word takes the bits of the other set's word.
use mathlib.Core.Path.{◌≡◌}
use Prim.Native.Nat.{◌+◌, ◌<◌}
use native.Mathlib.Omega.{arith}
use lib.ListN.{length, length-set}
use lib.Seq.{get_or-set_other}
use Rattle.sets.specs.Laws.WordsLaws.{joined_words}
use Rattle.sets.proofs.join.Goals as goal

pub bounds-sets-at-3 : goal.bounds-sets-at-3
bounds-sets-at-3 c = simp length-set (omega arith)

pub bounds-sets-at-4 : goal.bounds-sets-at-4
bounds-sets-at-4 c = simp length-set (omega arith)

pub returns : goal.returns
returns c =
    let at = c.word_place-at in
    let of = c.word_place-of in
    let l : at.result + 1 < length c.args.sets.now = omega arith in
    let next : ¬ (at.result + 1 ≡ at.result) = λ e. omega (arith, e) in
    joined_words at.ensures of.ensures l
    (get_or-set_other c.args.sets.now at.result (at.result + 1) _ 0 next)
