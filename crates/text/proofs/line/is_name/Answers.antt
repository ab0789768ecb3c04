-- `is_name` tests the length, then each byte.
use Rattle.std.proofs.Common.{List, ℕ, false, refl, ◌≡◌, ◌∙◌, ◌⊎◌, inl, inr, ◌≤◌, ◌<◌, sym, arith, length, rules}
use Rattle.lts.proofs.TestsLaws.{lt_or_le}
use Rattle.std.proofs.lemmas.Bool.Decides.{nat_tests}
use Rattle.std.proofs.lemmas.Iterator.{YieldsList-from_slice}
use Rattle.std.proofs.lemmas.Iterator.Search.{all_from_yields_List}
use Rattle.text.specs.Limits.{name_limit}
use Rattle.text.specs.Lines.{name_byte?, name?}
use Rattle.text.specs.Laws.ActionLaws.{name_short, name_long, name_all, all_of_list}
use Rattle.text.proofs.line.is_name.Goals as goal

pub returns-then-contains : goal.returns-then-contains
returns-then-contains c =
    let f = c.args.f.now in
    let n = c.new.ensures in
    let within = rw (n.start, n.end, n.exhausted, c.if-contains.true) at c.contains.ensures.value in
    let least : 1 ≤ length f = grind (arith, nat_tests) in
    let most : length f ≤ name_limit = grind (arith, nat_tests) in
    all_from_yields_List name_byte? _ _ _ c.all.ensures.ran (YieldsList-from_slice f cc) (λ x b q k. search rules)
    ∙ sym (name_all f least most ∙ all_of_list name_byte? f)

pub returns-else-contains : goal.returns-else-contains
returns-else-contains c =
    c.if-contains.false ∙ sym (go c.args.f.now refl (lt_or_le _ 1) (lt_or_le name_limit _))
  where
    go : (f : List ℕ) → c.args.f.now ≡ f → (length f < 1) ⊎ (1 ≤ length f)
        → (name_limit < length f) ⊎ (length f ≤ name_limit) → name? f ≡ false
    go f e (inl l) m = name_short f l
    go f e (inr l) (inl m) = name_long f m
    go f e (inr l) (inr m) =
        let n = c.new.ensures in
        let within = rw (n.start, n.end, n.exhausted, c.if-contains.false, e) at c.contains.ensures.value in
        absurd (grind (arith, nat_tests))
