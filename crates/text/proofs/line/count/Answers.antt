-- There is one more part than there are bytes that end one.
use Rattle.std.proofs.Common.{◌≡◌, ◌+◌, ap, ◌∙◌, sym, eqb, rules}
use Rattle.std.specs.List.{count_by}
use Rattle.text.specs.Bytes.{kind_of}
use Rattle.text.specs.Laws.FieldsLaws.{count_parts}
use Rattle.text.proofs.line.count.Goals as goal

pub returns : goal.returns
returns c =
    let a = c.args in
    let n : c.count.result ≡ count_by (λ b. eqb (kind_of b) a.k) a.s.now = search rules in
    count_parts _ _ ∙ ap (λ m. m + 1) (sym n)
