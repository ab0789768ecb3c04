-- The slots are those of p and q.
use mathlib.Core.Path.{sym, ap, ◌∙◌}
use Prim.Native.Nat.{ℕ}
use lib.ListN.{get_or}
use Rattle.text.specs.Laws.DecidesLaws.{decides_eqb}
use Rattle.held.proofs.slots.same_slot.Goals as goal

pub returns : goal.returns
returns c =
    let slots = c.args.slots.now in
    let e = ap (λ (i : ℕ). get_or slots i 0) c.slot_place.ensures in
    let f = ap (λ (i : ℕ). get_or slots i 0) c.slot_place-2.ensures in
    decides_eqb (get_or slots c.slot_place.result 0) (get_or slots c.slot_place-2.result 0)
    (λ d. sym e ∙ d ∙ f) (λ d. e ∙ d ∙ sym f)
