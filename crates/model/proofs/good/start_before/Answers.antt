-- The start before an extra start, by whether it is the first.
use Rattle.std.proofs.Common.{List, ◌≡◌, refl, ap, ◌∙◌, ℕ, zero, suc, ◌-◌, arith}
use Rattle.text.specs.declared.Head.{Head}
use Rattle.model.specs.StoredModel.{extra_start_at}
use Rattle.model.specs.Inner.GoodPlaces.{start_before}
use Rattle.model.proofs.good.start_before.Goals as goal

before_first : (h : Head) (s : List ℕ) (i : ℕ) → i ≡ 0 → h.start.0 ≡ start_before h s i
unfolding start_before
before_first h s zero e = refl
before_first h s (suc i) e = absurd (omega arith)

before-later : (h : Head) (s : List ℕ) (i : ℕ) → (i ≡ 0 → ⊥) → extra_start_at s (i - 1) ≡ start_before h s i
unfolding start_before
before-later h s zero n = absurd (n refl)
before-later h s (suc i) n = let e : suc i - 1 ≡ i = omega arith in ap (extra_start_at s) e

pub returns-then-i-eq0 : goal.returns-then-i-eq0
returns-then-i-eq0 c = before_first _ _ _ c.if-i-eq0.true

pub returns-else-i-eq0 : goal.returns-else-i-eq0
returns-else-i-eq0 c = c.extra_start.ensures ∙ before-later _ _ _ c.if-i-eq0.false
