-- q is added if its rank is the one sought.
use Rattle.std.proofs.Common.{◌≡◌, sym, ◌∙◌, subst, ℕ, get_or}
use Rattle.text.specs.Limits.{pair_place}
use Rattle.sets.specs.Laws.SetsLaws.{joined-map}
use Rattle.weak_books.specs.Laws.RankedLaws.{joined_none}
use Rattle.weak_books.proofs.ranked.add_at_rank.Goals as goal

pub returns-then-rank_at-r : goal.returns-then-rank_at-r
returns-then-rank_at-r c =
    let a = c.args in
    joined_none _ (λ x h.
    c.if-rank_at-r.true
    (c.rank_at.ensures
    ∙ subst (λ (y : ℕ). get_or a.table.now (pair_place a.p.0 y) 0 ≡ a.r) h.0 h.1))

pub returns : goal.returns
returns c =
    let a = c.args in
    let e : get_or a.table.now (pair_place a.p.0 a.q.0) 0 ≡ a.r =
    sym c.rank_at.ensures ∙ c.if-rank_at-r.false in
    joined-map
    (λ x f. (f, subst (λ (y : ℕ). get_or a.table.now (pair_place a.p.0 y) 0 ≡ a.r) (sym f) e))
    (λ x h. h.0)
    c.add_member.ensures
