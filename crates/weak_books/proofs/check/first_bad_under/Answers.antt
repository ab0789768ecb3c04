-- The entries before entry k with this action are sound.
use Rattle.std.proofs.Common.{◌≡◌, ℕ, arith}
use Rattle.weak_books.specs.Inner.Tested.{SetMove}
use Rattle.weak_books.specs.Laws.TestedLaws.{sound_under_zero, sound_under_add_one}
use Rattle.weak_books.specs.Laws.TestedLaws.{first_under_bad, first_under_none}
use Rattle.weak_books.proofs.check.first_bad_under.Goals as goal

pub loop-k-init : goal.loop-k-init
loop-k-init c =
    let a = c.args in
    (omega arith, sound_under_zero (SetMove a.sets.now) (λ (b : ℕ). b ≡ a.a.0) a.book.now)

pub returns-then-not-sound_if_under : goal.returns-then-not-sound_if_under
returns-then-not-sound_if_under c =
    let a = c.args in
    first_under_bad (SetMove a.sets.now) (λ (b : ℕ). b ≡ a.a.0) a.book.now c.loop-k-test.true
    c.if-not-sound_if_under.ensures
    c.loop-k.invariant.1

pub loop-k-preserved : goal.loop-k-preserved
loop-k-preserved c =
    let a = c.args in
    let here = c.if-not-sound_if_under.ensures in
    let more = sound_under_add_one (SetMove a.sets.now) (λ (b : ℕ). b ≡ a.a.0) a.book.now here
    c.loop-k.invariant.1 in
    (omega arith, more)

pub returns : goal.returns
returns c =
    let a = c.args in
    let e : c.loop-k.k ≡ a.limit = omega arith in
    first_under_none (SetMove a.sets.now) (λ (b : ℕ). b ≡ a.a.0) a.book.now e c.loop-k.invariant.1
