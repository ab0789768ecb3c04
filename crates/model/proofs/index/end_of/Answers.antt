-- The steps of q end at the first step from `from` on that leaves another state.
use Rattle.std.proofs.Common.{rules, arith, ◌≡◌, ◌≢◌, ◌≤◌, ◌<◌, ◌+◌, ℕ, length, List, Option, Some, None, MatchOption}
use Rattle.std.proofs.Common.{tests}
use Rattle.std.proofs.lemmas.Iterator.{first_from_Range}
use Rattle.std.specs.Option.{unwrap_or}
use Rattle.text.specs.Model.{Model}
use Rattle.model.specs.StoredModel.{model_at}
use Rattle.model.specs.System.{source}
use Rattle.model.specs.Inner.Stored.{Stored}
use Rattle.model.specs.Inner.Index.{Begins}
use Rattle.model.specs.Laws.System.IndexLaws.{begins-suc}
use Rattle.model.proofs.index.end_of.Goals as goal

ends_at : {s : List ℕ} {m : Model} → Stored s m → (q from n : ℕ) → Begins m q from → n ≡ length m.steps → (r : Option ℕ)
    → MatchOption r ((k : ℕ) → from ≤ k → k < n → source m k ≡ q)
    (λ i. (from ≤ i) × (i < n) × (source m i ≢ q) × ((k : ℕ) → from ≤ k → k < i → source m k ≡ q))
    → Begins m (q + 1) (unwrap_or r n)
ends_at st q from n b e None h =
    begins-suc st q from n b (omega arith) (λ j l k. h j k l) (λ l. absurd (omega arith))
ends_at st q from n b e (Some i) h =
    begins-suc st q from i b (omega arith) (λ j l k. h.3 j k l) (λ l. omega (arith, b.above i h.0 l, h.2))

pub returns : goal.returns
returns c =
    let m = model_at c.args.store.places.now in
    rw c.unwrap_or.ensures (ends_at c.args.store.stored _ _ _ c.requires c.steps-n.ensures c.find.result
    (first_from_Range _ _ _ c.find.result (λ j. source m j ≢ c.args.q.0) (λ j. source m j ≡ c.args.q.0)
    c.find.ensures.ran (λ x q k. search (rules, tests)) (λ x q k. search (rules, tests))))
