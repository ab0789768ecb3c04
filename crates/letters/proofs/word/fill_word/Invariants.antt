-- What is written goes on with whatever word the two states reached have, which round `left` separates.
use mathlib.Core.Path.{◌≡◌}
use Prim.Native.Nat.{◌+◌, ◌<◌}
use lib.ListN.{length}
use Rattle.model.specs.StoredModel.{model_at}
use Rattle.letters.specs.Inner.Letters.{SeparatedPair}
use Rattle.letters.specs.Inner.WordHead.{WordHead}
use Rattle.letters.proofs.word.fill_word.Given as goal

abbrev pub invariant-loop-left : goal.invariant-loop-left
invariant-loop-left l =
    (0 < l.left) × (l.at + l.left ≡ l.depth) × (length l.word ≡ length l.initial.word)
    × SeparatedPair (model_at l.store) l.from.0 l.to.0 l.left
    × WordHead (model_at l.store) l.initial.from.0 l.initial.to.0 l.at l.from.0 l.to.0 l.initial.word l.word

abbrev pub decreases-loop-left : goal.decreases-loop-left
decreases-loop-left l = l.left
