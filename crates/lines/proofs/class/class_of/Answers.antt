-- The first place of the row with 0, or place p, which has it.
use Rattle.std.proofs.Common.{rules, arith, ◌≡◌, ◌<◌, get_or, ℕ, List, Option, Some, None, MatchOption, tests}
use Rattle.std.specs.Option.{unwrap_or}
use Rattle.text.specs.First.{First}
use Rattle.text.specs.Limits.{pair_place}
use Rattle.model.proofs.Laws.Store.EachAllLaws.{first_below}
use Rattle.lines.specs.Inner.Entries.{LowestZero}
use Rattle.lines.proofs.class.class_of.Goals as goal

abbrev Zero : List ℕ → ℕ → ℕ → Type 0
Zero t p i = get_or t (pair_place p i) 0 ≡ 0

lowest : (t : List ℕ) (p : ℕ) → Zero t p p → (r : Option ℕ)
    → MatchOption r ((k : ℕ) → k < p → ¬ (Zero t p k)) (λ i. (i < p) × First (Zero t p) i)
    → LowestZero t p (unwrap_or r p)
lowest t p z None h = record { le = omega arith; zero = z; lowest = h }
lowest t p z (Some i) h =
    record {
      le = omega (arith, h.0);
      zero = h.1.holds;
      lowest = λ k l e. absurd (omega (arith, l, h.1.first k e));
    }

pub returns : goal.returns
returns c =
    let t = c.args.table.now in
    let p = c.args.p.0 in
    rw c.unwrap_or.ensures (lowest t p c.requires.p_value c.find-zero.result
    (first_below (Zero t p) p _ _ c.find-zero.result c.find-zero.ensures.ran (λ x q k. search (rules, tests))
    (λ x q k. search (rules, tests))))
