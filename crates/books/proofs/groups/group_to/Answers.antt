-- The entry behind the group's number.
use Rattle.std.proofs.Common.{ap, ◌∙◌, ℕ, ◌+◌, get_or}
use Rattle.books.proofs.groups.group_to.Goals as goal

pub returns : goal.returns
returns c =
    let groups = c.args.groups.now in
    c.from.ensures ∙ ap (λ (k : ℕ). get_or groups (k + 1) 0) c.group_place.ensures.0
