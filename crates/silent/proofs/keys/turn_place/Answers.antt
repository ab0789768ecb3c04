-- Each way of going has its own return.
use mathlib.Core.Bool.{Bool}
use mathlib.Core.Path.{sym, ap}
use native.Mathlib.Omega.{arith}
use Rattle.silent.specs.Inner.Keys.{turn_place}
use Rattle.silent.proofs.keys.turn_place.Goals as goal

pub returns-then-backward : goal.returns-then-backward
returns-then-backward c =
    let a = c.args in
    (ap (λ (b : Bool). turn_place b a.begin a.end a.i) (sym c.if-backward.true), omega arith, omega arith)

pub returns : goal.returns
returns c =
    let a = c.args in
    (ap (λ (b : Bool). turn_place b a.begin a.end a.i) (sym c.if-backward.false), omega arith, omega arith)
