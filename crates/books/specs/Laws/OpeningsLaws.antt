-- The first opening of our own book, from the search for it. Document 02, (v). Assumes nothing.
use Rattle.std.specs.Prelude.{List, ◌⊎◌, ◌≡◌, refl, ℕ, ◌+◌, ◌≤◌, ◌<◌, get_or}
use Rattle.std.proofs.Common.{inl, inr, ⊎_elim, sym, ap, ◌∙◌, subst, arith}
use Rattle.lts.specs.Alike.{Moves, Rank}
use Rattle.lts.proofs.TestsLaws.{lt_or_le}
use Rattle.lts.specs.Book.{Opens, LowerRank, FirstPlay}
use Rattle.lts.proofs.BookLaws.{first_play_of_first, opens_by_second, first_play_of_second}
use Rattle.lts.proofs.OwnBookLaws.{lower_rank_sym, play_exists}
use Rattle.by_state.specs.MoveList.{Listed, MoveList, Ordered}
use Rattle.by_state.specs.Laws.MoveListLaws.{listed_game, listed_target_lt}
use Rattle.ranking.specs.Table.{Ranks}
use Rattle.ranking.specs.Laws.LowerRanksLaws.{lower_rank_of_rank_in, rank_in_of_lower_rank}
use Rattle.books.specs.Inner.Openings.{LowerAnswers, FirstOpening}

module _ {n : ℕ} {first actions targets table : List ℕ} (L : MoveList n first actions targets)
    (O : Ordered n first actions targets)
    (R : Ranks (Listed n first actions targets) n table) where
  abbrev Move : Moves
  Move = Listed n first actions targets

  -- ---- openings of one side

  -- A move of p whose answers all lead to lower ranks opens; and one that opens is such a move.
  opens_of_lower : {d p q a t : ℕ} → Move p a t → LowerAnswers Move table d q a t
      → Opens Move (LowerRank Move d) p q a t
  opens_of_lower {q = q} {a} {t} m h = record {
    opening = m;
    answers = λ u w.
        lower_rank_of_rank_in R (listed_target_lt L _ a t m) (listed_target_lt L q a u w) (h u w);
  }

  lower_of_opens : {d p q a t : ℕ} → Opens Move (LowerRank Move d) p q a t → LowerAnswers Move table d q a t
  lower_of_opens {q = q} {a} {t} o u w =
      rank_in_of_lower_rank R (listed_target_lt L _ a t o.opening) (listed_target_lt L q a u w) (o.answers u w)

  -- ---- the place that the search finds

  module _ {d p q at : ℕ} (lp : p < n)
      (F : FirstOpening Move actions targets table d q (get_or first p 0) (get_or first (p + 1) 0) at) where
    -- No opening stands before it.
    place_le : (a t : ℕ) (m : Move p a t) → LowerAnswers Move table d q a t → at ≤ m.place
    place_le a t m h = ⊎_elim
        (λ l.
        absurd (F.none_before m.place m.first_le l
        (subst (λ (b : ℕ). LowerAnswers Move table d q b (get_or targets m.place 0)) (sym m.action_is)
        (subst (λ (u : ℕ). LowerAnswers Move table d q a u) (sym m.target_is) h))))
        (λ l. l)
        (lt_or_le m.place at)

    place_cases : (a t : ℕ) (o : Opens Move (LowerRank Move d) p q a t)
        → (at < o.opening.place) ⊎ (at ≡ o.opening.place)
    place_cases a t o = ⊎_elim
        (λ l. inl l)
        (λ l. inr (omega (arith, l, place_le a t o.opening (lower_of_opens o))))
        (lt_or_le at o.opening.place)

    -- Where there is an opening, the search finds one.
    pub found : (a t : ℕ) → Opens Move (LowerRank Move d) p q a t → at < get_or first (p + 1) 0
    found a t o = omega (arith, place_le a t o.opening (lower_of_opens o), o.opening.place_lt)

    module _ (l : at < get_or first (p + 1) 0) where
      pub opens_at : Opens Move (LowerRank Move d) p q (get_or actions at 0) (get_or targets at 0)
      opens_at = opens_of_lower
          (record {
            place = at;
            source_lt = lp;
            first_le = F.from_le;
            place_lt = l;
            action_is = refl;
            target_is = refl;
          })
          (F.opens l)

      -- Of all openings of p it has the lowest action, and of those of this action the lowest target.
      pub first_at : (a t : ℕ) → Opens Move (LowerRank Move d) p q a t
          → (get_or actions at 0 < a) ⊎ ((get_or actions at 0 ≡ a) × (get_or targets at 0 ≤ t))
      first_at a t o = ⊎_elim
          (λ k.
          ⊎_elim
          (λ l. inl l)
          (λ l.
          let e : get_or actions at 0 ≡ a = omega (
            arith,
            l,
            (O.each p lp).action_le at m.place F.from_le k m.place_lt,
            m.action_is,
          ) in
          inr (
            e,
            omega (
              arith,
              (O.each p lp).target_lt at m.place F.from_le k m.place_lt (e ∙ sym m.action_is),
              m.target_is,
            ),
          ))
          (lt_or_le (get_or actions at 0) a))
          (λ e.
          inr (
            ap (λ (i : ℕ). get_or actions i 0) e ∙ m.action_is,
            omega (arith, ap (λ (i : ℕ). get_or targets i 0) e, m.target_is),
          ))
          (place_cases a t o)
        where
          m : Move p a t
          m = o.opening

  -- ---- the entry

  module _ {d p q at : ℕ} (lp : p < n) (lq : q < n) (rank : Rank Move p q d) (pos : 0 < d)
      (F : FirstOpening Move actions targets table d q (get_or first p 0) (get_or first (p + 1) 0) at) where
    -- The first side opens.
    pub first_play : at < get_or first (p + 1) 0
        → FirstPlay Move (LowerRank Move d) p q 1 (get_or actions at 0) (get_or targets at 0)
    first_play l = first_play_of_first (opens_at lp F l) (first_at lp F l)

    -- The second side opens where the first side cannot.
    module _ {back : ℕ} (left : ¬ (at < get_or first (p + 1) 0))
        (G : FirstOpening Move actions targets table d p (get_or first q 0) (get_or first (q + 1) 0) back) where
      pub second_found : back < get_or first (q + 1) 0
      second_found =
          let x = play_exists Move n _ (listed_game L) p q d lp lq rank pos in
          found lq G x.1 x.2
          (opens_by_second (λ y z. lower_rank_sym) (λ b u o. left (found lp F b u o)) x.3).1

      pub second_play : FirstPlay Move (LowerRank Move d) p q 2 (get_or actions back 0) (get_or targets back 0)
      second_play = first_play_of_second (λ y z. lower_rank_sym) (λ b u o. left (found lp F b u o))
          (opens_at lq G second_found) (first_at lq G second_found)
