-- The entries before entry k are sound.
use Rattle.held.specs.Moves.{held_moves}
use Rattle.std.proofs.Common.{arith}
use Rattle.books.specs.Laws.ChecksLaws.{bad_told_bad, bad_told_sound, check_done_of_told}
use Rattle.books.specs.Laws.EntriesLaws.{sound_before_zero, sound_before_add_one}
use Rattle.books.specs.Laws.EntriesLaws.{sound_to_of_bad, sound_to_of_all}
use Rattle.weak_books.proofs.entries.test_in_order.Goals as goal

pub loop-k-init : goal.loop-k-init
loop-k-init c = sound_before_zero _ _

pub returns-then-not-is_sound : goal.returns-then-not-is_sound
returns-then-not-is_sound c =
    check_done_of_told (sound_to_of_bad _ _ c.loop-k-test.true c.if-not-is_sound.ensures c.loop-k.invariant)
    (bad_told_bad c.loop-k-test.true)

pub loop-k-preserved : goal.loop-k-preserved
loop-k-preserved c =
    let a = c.args in
    sound_before_add_one (held_moves a.moves) a.book.now c.if-not-is_sound.ensures
    c.loop-k.invariant

pub returns : goal.returns
returns c =
    check_done_of_told (sound_to_of_all _ _ (omega arith) c.loop-k.invariant) (bad_told_sound (omega arith))
