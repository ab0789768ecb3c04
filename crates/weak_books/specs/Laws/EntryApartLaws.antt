-- Of two states that do not answer each other inside the classes one opens, and the first openings of both make their
-- entries. Assumes nothing.
use Rattle.std.specs.Prelude.{Bool, not, List, ◌⊎◌, ◌≡◌, refl, ℕ, ◌<◌, T, eqb, get_or}
use Rattle.std.specs.Prelude.{Option, Some, None, MatchOption, IsSome}
use Rattle.std.proofs.Common.{rules, inl, inr, sym, ◌∙◌, subst, arith, T_not, eqb→eq}
use Rattle.lts.specs.Alike.{Moves, Answers}
use Rattle.lts.proofs.AlikeLaws.{answers_map}
use Rattle.lts.specs.Game.{Opening as Unanswered, by_first, by_second, Game}
use Rattle.lts.specs.Book.{Opens}
use Rattle.lts.proofs.BookLaws.{first_play_of_first, first_play_of_second}
use Rattle.lts.proofs.TestsLaws.{T_cases, T-eqb}
use Rattle.text.specs.Limits.{state_limit, pair_place}
use Rattle.text.specs.Laws.ListsLaws.{past_trans}
use Rattle.by_state.specs.Inner.Numbered.{Same}
use Rattle.books.specs.Inner.Filling.{EntryWritten}
use Rattle.books.specs.declared.entry.Side.TheVariants.{First, Second}
use Rattle.weak_books.specs.declared.opening.Opening.{Opening}
use Rattle.weak_books.specs.Inner.Entering.{OtherClass, FirstIs, FirstApart, side_entry, opening_entry}
use Rattle.weak_books.specs.Inner.Entering.{EntryApart, PairEntered}

-- ---- the entry of two openings

pub opening_entry_first : (one : Opening) (other : Option Opening) (depth : ℕ)
    → side_entry First one depth ≡ opening_entry (Some one) other depth
opening_entry_first one other depth = refl

pub opening_entry-second : (other : Opening) (depth : ℕ)
    → side_entry Second other depth ≡ opening_entry None (Some other) depth
opening_entry-second other depth = refl

-- ---- one of the two opens

answers_sym : (Move : Moves) (class : List ℕ) {p q : ℕ} → Answers Move (Same class) p q → Answers Move (Same class) q p
answers_sym Move class h = record {
  there = λ a q' m. let r = h.back a q' m in (r.0, r.1, sym r.2);
  back = λ a p' m. let r = h.there a p' m in (r.0, r.1, sym r.2);
}

-- An opening of either side.
abbrev EitherOpens : Moves → List ℕ → ℕ → ℕ → Type 0
EitherOpens Move class p q =
    ((a : ℕ) × (t : ℕ) × Opens Move (OtherClass class) p q a t)
    ⊎ ((a : ℕ) × (t : ℕ) × Opens Move (OtherClass class) q p a t)

either_opens : {Move : Moves} {n : ℕ} {round : (ℕ → ℕ → Bool) → ℕ → ℕ → Bool} → Game Move n round → (class : List ℕ)
    {p q : ℕ} → ¬ (Answers Move (Same class) p q) → EitherOpens Move class p q
either_opens {Move} {round = round} G class {p} {q} d = go (T_cases (round same? p q))
  where
    same? : ℕ → ℕ → Bool
    same? x y = eqb (get_or class x 0) (get_or class y 0)

    opening : Unanswered Move same? p q → EitherOpens Move class p q
    opening (by_first a t m f) =
        inl (a, t, record { opening = m; answers = λ u w e. T_not (same? t u) (f u w) (T-eqb e) })
    opening (by_second a t m f) =
        inr (a, t, record { opening = m; answers = λ u w e. T_not (same? u t) (f u w) (T-eqb (sym e)) })

    go : T (round same? p q) ⊎ T (not (round same? p q)) → EitherOpens Move class p q
    go (inl t) = absurd (d (answers_map Move (λ x y. eqb→eq (get_or class x 0) (get_or class y 0))
        (G.passes same? p q t)))
    go (inr t) = opening (G.fails same? p q t)

-- ---- its entry

module _ {Move : Moves} (class : List ℕ) {p q : ℕ} where
  by_first_side : {one : Opening} (depth : ℕ) → FirstIs Move class p q one
      → EntryApart Move class depth p q (side_entry First one depth)
  by_first_side depth F = record { depth_is = refl; opening = first_play_of_first F.opens F.first }

  by_second_side : {other : Opening} (depth : ℕ) → FirstApart Move class p q None → FirstIs Move class q p other
      → EntryApart Move class depth p q (side_entry Second other depth)
  by_second_side depth none S = record {
    depth_is = refl;
    opening = first_play_of_second (λ x y d e. d (sym e)) none S.opens S.first;
  }

  module _ {n : ℕ} {round : (ℕ → ℕ → Bool) → ℕ → ℕ → Bool} (G : Game Move n round)
      (d : ¬ (Answers Move (Same class) p q)) where
    neither : FirstApart Move class p q None → FirstApart Move class q p None → ⊥
    neither F S = go (either_opens G class d)
      where
        go : EitherOpens Move class p q → ⊥
        go (inl (a, t, o)) = F a t o
        go (inr (a, t, o)) = S a t o

    -- One of the two sides opens.
    pub one_opens : (one other : Option Opening) → FirstApart Move class p q one → FirstApart Move class q p other
        → MatchOption one (IsSome other) (λ x. Unit {0})
    one_opens (Some _) _ _ _ = tt
    one_opens None (Some _) _ _ = search rules
    one_opens None None F S = absurd (neither F S)

    pub entry_apart_of_first : (one other : Option Opening) → FirstApart Move class p q one
        → FirstApart Move class q p other → (depth : ℕ)
        → EntryApart Move class depth p q (opening_entry one other depth)
    entry_apart_of_first (Some _) _ F S depth = by_first_side depth F
    entry_apart_of_first None (Some _) F S depth = by_second_side depth F S
    entry_apart_of_first None None F S depth = absurd (neither F S)

-- ---- both entries of a pair

pub answers_back : {Move : Moves} (class : List ℕ) {p q : ℕ} → ¬ (Answers Move (Same class) p q)
    → ¬ (Answers Move (Same class) q p)
answers_back {Move} class d h = d (answers_sym Move class h)

pub pair_entered_of_first : {Move : Moves} {n : ℕ} {round : (ℕ → ℕ → Bool) → ℕ → ℕ → Bool} → Game Move n round
    → {class : List ℕ} {p q depth : ℕ} (one other : Option Opening) {book book' book'' : List ℕ}
    → p < state_limit → q < state_limit → ¬ (p ≡ q) → ¬ (Answers Move (Same class) p q)
    → FirstApart Move class p q one → FirstApart Move class q p other
    → EntryWritten (pair_place p q) (opening_entry one other depth) book book'
    → EntryWritten (pair_place q p) (opening_entry other one depth) book' book''
    → PairEntered Move class depth p q book book''
pair_entered_of_first {Move} G {class} {p} {q} {depth} one other lp lq d a F S v w = record {
  there = subst (EntryApart Move class depth p q)
      (sym (w.kept (pair_place p q) (λ e. d (omega (arith, e, lp, lq))) ∙ v.written))
      (entry_apart_of_first class G a one other F S depth);
  back = subst (EntryApart Move class depth q p) (sym w.written)
      (entry_apart_of_first class G (answers_back class a) other one S F depth);
  kept = λ k f g. w.kept k g ∙ v.kept k f;
  past = past_trans v.past w.past;
}
