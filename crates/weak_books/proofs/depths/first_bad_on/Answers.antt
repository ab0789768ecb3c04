-- Whatever is found on the rest of the chain before the bad entry found so far is found on the whole chain.
use Rattle.held.specs.Moves.{held_moves}
use mathlib.Core.Logic.{⊎_elim}
use mathlib.Core.Path.{◌≡◌, sym, subst}
use Prim.Native.Nat.{ℕ, ◌+◌, ◌-◌}
use native.Mathlib.Omega.{arith}
use Rattle.text.specs.Laws.DecidesLaws.{decides_passed, decides-refused}
use Rattle.books.specs.Inner.Sides.{FirstOf}
use Rattle.weak_books.specs.Inner.Depths.{OnChain, first, later, LowerBy}
use Rattle.weak_books.specs.Laws.DepthsLaws.{first_of_bad, first_of_sound, first_of_past}
use Rattle.weak_books.specs.Laws.DepthsLaws.{first_of_at, first_of_nil, first_of_cons}
use Rattle.weak_books.proofs.depths.first_bad_on.Goals as goal

pub loop-next-init : goal.loop-next-init
loop-next-init c =
    let a = c.args in (
      omega (arith, c.from-next.ensures, c.requires.from_le_table_length),
      λ k h. c.requires.by_index_2 k (subst (OnChain a.link.now k) c.from-next.ensures h),
      λ r f. first_of_at c.from-next.ensures f,
    )

pub sound_entry-requires : goal.sound_entry-requires
sound_entry-requires c =
    let a = c.args in
    let here = c.loop-next.invariant.1 (c.loop-next.next - 1) (first (omega (arith, c.loop-next-test.true))) in record {
      k_lt_table_length = (
        omega (arith, c.loop-next.invariant.0, c.loop-next-test.true),
        c.requires.from_le_table_length.1,
        here.present,
      );
      flagged = c.requires.flagged;
      lower_by = subst (λ (d : ℕ). LowerBy a.book.now d a.there.now a.back.now) (sym here.depth_is) c.requires.lower_by;
    }

pub loop-next-smaller : goal.loop-next-smaller
loop-next-smaller c =
    let falls = c.requires.by_index (c.loop-next.next - 1) in
    omega (arith, c.from-next-in-loop-next.ensures, falls, c.loop-next-test.true)

pub loop-next-preserved : goal.loop-next-preserved
loop-next-preserved c =
    let a = c.args in
    let k = c.loop-next.next - 1 in
    let e : c.loop-next.next ≡ k + 1 = omega (arith, c.loop-next-test.true) in
    let falls = c.requires.by_index k in
    let one : FirstOf (held_moves a.moves) (λ x. x ≡ k) a.book.now
    c.loop-next.bad c.if-k-bad.bad = ⊎_elim
    (λ w. first_of_bad w.if-k-bad.true (decides-refused w.sound_entry.result _ w.sound_entry.ensures
    w.if-not-sound_entry.true-raw) w.bad-is)
    (⊎_elim (λ w. first_of_sound (decides_passed w.sound_entry.result _ w.sound_entry.ensures
    w.if-not-sound_entry.false-raw) w.bad-is)
    (λ w. first_of_past (λ l. omega (arith, l, w.if-k-bad.false)) w.bad-is)) c.if-k-bad.branch-raw in (
      omega (arith, c.from-next-in-loop-next.ensures, falls, c.loop-next.invariant.0),
      λ x h. c.loop-next.invariant.1 x (later k e (subst (OnChain a.link.now x) c.from-next-in-loop-next.ensures h)),
      λ r f. c.loop-next.invariant.2 r (first_of_cons k e c.from-next-in-loop-next.ensures one f),
    )

pub returns : goal.returns
returns c = c.loop-next.invariant.2 _ (first_of_nil (omega (arith, c.loop-next-test.false)))
