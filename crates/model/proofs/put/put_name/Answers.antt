-- After i bytes the list is a copy of the name's first i bytes over it; a whole copy is the name stored.
use Rattle.std.proofs.Common.{◌≡◌, ◌+◌, ◌<◌, arith, length, sym, ◌∙◌, add-one}
use Rattle.std.proofs.Math.Seq.{paste-suc, sets-eq, take-length}
use Rattle.model.proofs.put.put_name.Goals as goal

pub loop-i-preserved : goal.loop-i-preserved
loop-i-preserved c =
    let a = c.args in
    let i = c.loop-i.i in
    let d : a.at + i < length a.out.now = omega arith in
    let h : i < length a.name.now = omega arith in
    rw (c.loop-i.invariant, c.from.ensures) (paste-suc a.out.now a.at a.name.now i 0 d h ∙ rw (add-one i))

pub returns : goal.returns
returns c =
    let a = c.args in
    let e : c.loop-i.i ≡ length a.name.now = omega arith in
    c.loop-i.invariant ∙ rw (e, take-length a.name.now) (sym (sets-eq a.name.now a.out.now a.at c.requires))
