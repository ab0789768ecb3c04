-- The entries before entry k are sound.
use Rattle.std.proofs.Common.{arith}
use Rattle.books.specs.Laws.ChecksLaws.{bad_told_bad, bad_told_sound, check_done_of_told}
use Rattle.books.specs.Laws.EntriesLaws.{sound_to_of_bad, sound_to_of_all}
use Rattle.books.proofs.check.check_entries.Goals as goal

pub returns-then-not-is_sound : goal.returns-then-not-is_sound
returns-then-not-is_sound c =
    check_done_of_told (sound_to_of_bad _ _ c.loop-k-test.true c.if-not-is_sound.ensures c.loop-k.invariant)
    (bad_told_bad c.loop-k-test.true)

pub returns : goal.returns
returns c =
    check_done_of_told (sound_to_of_all _ _ (omega arith) c.loop-k.invariant) (bad_told_sound (omega arith))
