-- What is lower beside t of the answers that are left makes all of them so.
use Rattle.std.proofs.Common.{ℕ, ◌≡◌, ◌⊎◌, inl, inr, sym, subst}
use Rattle.lts.specs.Book.{LowerEntry}
use Rattle.lts.proofs.TestsLaws.{eq_or_not}
use Rattle.books.specs.Books.{book_of}
use Rattle.books.specs.Inner.Sides.{BySide}
use Rattle.sets.specs.declared.set.Set.{Set}
use Rattle.sets.specs.Inner.SetValues.{In, SetOf}
use Rattle.weak_books.proofs.entries.answers_lower.Goals as goal

-- P holds of each member of a set if it holds of one and of each other.
each_of-others : (P : ℕ → Type 0) {set others : Set} {u : ℕ} → SetOf (λ x. In set x × ¬ (x ≡ u)) others → P u
    → ((x : ℕ) → In others x → P x) → (x : ℕ) → In set x → P x
each_of-others P {u = u} rest here each x i = go (eq_or_not x u)
  where
    go : (x ≡ u) ⊎ ¬ (x ≡ u) → P x
    go (inl e) = subst P (sym e) here
    go (inr d) = each x (rest.all x (i, d))

pub loop-u-init : goal.loop-u-init
loop-u-init c = rw c.into_iter-u-iterator.ensures ((λ x i. i), λ each. each)

pub is_lower-requires : goal.is_lower-requires
is_lower-requires c = (c.requires.0, c.in-Some.ensures.steps.taken.member_lt, c.requires.1)

pub returns-then-not-is_lower : goal.returns-then-not-is_lower
returns-then-not-is_lower c all =
    c.if-not-is_lower.ensures (all _ (c.loop-u.invariant.0 _ c.in-Some.ensures.steps.taken))

pub loop-u-preserved : goal.loop-u-preserved
loop-u-preserved c =
    let inv = c.loop-u.invariant in
    let a = c.args in
    let rest = c.in-Some.ensures.steps.left in
    let Lower = BySide a.side (LowerEntry (book_of a.book.now) a.depth) a.t.0 in (
      λ x i. inv.0 x (rest.only x i).0,
      λ each. inv.1 (each_of-others Lower rest c.if-not-is_lower.ensures each),
    )

pub returns : goal.returns
returns c u h = c.loop-u.invariant.1 (λ x i. absurd (c.in-None.ensures.steps.none x i)) u h
