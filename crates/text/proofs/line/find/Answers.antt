-- `find` passes bytes of other kinds: the first of the kind among those left is the first of all.
use Rattle.std.proofs.Common.{◌≡◌, sym, ◌∙◌, suc, ◌+◌, arith, drop, drop_of_length-le}
use Rattle.text.specs.Split.{index_of}
use Rattle.text.specs.Laws.SplitLaws.{index_of-nil, index_of-end, index_of-cons}
use Rattle.text.specs.Laws.ListLaws.{drop_next}
use Rattle.text.proofs.line.find.Goals as goal

pub returns-then-kind-k : goal.returns-then-kind-k
returns-then-kind-k c =
    let a = c.args in
    let e : index_of a.k (drop c.loop-i.i a.s.now) ≡ 0 =
    rw (drop_next _ _ c.loop-i-test.true) (index_of-end _ _ _ (sym c.kind.ensures ∙ c.if-kind-k.true)) in
    omega arith

pub loop-i-preserved : goal.loop-i-preserved
loop-i-preserved c =
    let a = c.args in
    let e : index_of a.k (drop c.loop-i.i a.s.now) ≡ suc (index_of a.k (drop (c.loop-i.i + 1) a.s.now)) =
    rw (drop_next _ _ c.loop-i-test.true) (index_of-cons _ _ _ (λ z. c.if-kind-k.false (c.kind.ensures ∙ z))) in
    omega arith

pub returns : goal.returns
returns c =
    let a = c.args in
    let e : index_of a.k (drop c.loop-i.i a.s.now) ≡ 0 =
    rw (drop_of_length-le a.s.now {i = c.loop-i.i} (omega arith)) (index_of-nil _) in
    omega arith
