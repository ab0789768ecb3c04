-- The stored length is the name's, or no action has it; and the places behind it hold the name or another.
use Rattle.std.proofs.Common.{◌∙◌, sym, arith, rules, ◌+◌, ◌-◌, length, take, drop, tests, ne_eqb}
use Rattle.std.proofs.lemmas.Iterator.{same_from_all, YieldsList-from_zip, YieldsList-from_slice}
use Rattle.std.proofs.Math.ListN.{length-take, length-drop}
use Rattle.model.proofs.Laws.Store.NamesLaws.{named_length, named_part}
use Rattle.model.proofs.names.named.Goals as goal

pub returns-then-from-name : goal.returns-then-from-name
returns-then-from-name c line s =
    let at = c.name_place-at.result in
    let name = c.args.name.now in
    let n = at + length name - at in
    let part = take n (drop at c.args.store.now) in
    named_part _ _ line s _ (sym c.name_length.ensures ∙ sym c.from.ensures ∙ c.if-from-name.true) at n _
    c.name_place-at.ensures (omega arith)
    (same_from_all c.all.new.self _ c.all.result part name c.all.ensures.ran
    (YieldsList-from_zip (YieldsList-from_slice part cc) (YieldsList-from_slice name cc))
    (simp (length-take, length-drop) (omega arith))
    (λ x q k. search (rules, tests)) (λ x q k. search (rules, tests)))

pub returns-else-from-name : goal.returns-else-from-name
returns-else-from-name c line s =
    ne_eqb _ _ c.if-from-name.false
    ∙ named_length _ _ line s _ (λ e. c.if-from-name.false (c.from.ensures ∙ c.name_length.ensures ∙ e))
