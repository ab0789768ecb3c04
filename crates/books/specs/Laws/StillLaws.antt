-- Where no step is silent, a silent opening is sound just where it has no answer: an answer of zero steps leads back to
-- the entry itself, whose depth is not below its own. Openings by steps are as before. Document 02, (v) and (vii).
-- Assumes nothing.
use Rattle.std.specs.Prelude.{Bool, List, ◌⊎◌, ◌≡◌, refl, ℕ, ◌<◌}
use Rattle.std.proofs.Common.{inl, inr, ⊎_elim, sym, subst, arith}
use Rattle.lts.specs.Agree.{Agree}
use Rattle.lts.specs.Alike.{Moves, Relation}
use Rattle.lts.specs.Book.{Entry, Book, Opens, Plays, first_opens, second_opens, LowerEntry, SoundAt}
use Rattle.lts.proofs.BookLaws.{opens-map}
use Rattle.lts.specs.Weak.{silent_label, low, silent}
use Rattle.lts.proofs.WeakLaws.{silent_source_lt, weak_agree_all}
use Rattle.text.specs.Decides.{Decides}
use Rattle.text.specs.Limits.{action_limit}
use Rattle.text.specs.Laws.DecidesLaws.{decides_iff}
use Rattle.by_state.specs.MoveList.{Listed, MoveList}
use Rattle.by_state.specs.Laws.MoveListLaws.{listed_target_lt, listed_action_lt}
use Rattle.books.specs.Checks.{StillMove}
use Rattle.books.specs.Inner.Groups.{IndexOf, Indexed}
use Rattle.books.specs.Inner.Still.{Still, moves, stays, StaysUnanswered, UnansweredBy, first_stays, second_stays}

-- ---- whether an entry that was read stays unanswered

module _ (n : ℕ) (book : Book) (p q : ℕ) (e : Entry) (entry_is : book p q ≡ e) where
  pub not_silent : ¬ (e.action ≡ silent_label) → ¬ (UnansweredBy n p q (book p q))
  not_silent other u = go (subst (UnansweredBy n p q) entry_is u)
    where
      go : ¬ (UnansweredBy n p q e)
      go (first_stays a _ _) = other a
      go (second_stays a _ _) = other a

  pub no_side : ¬ (e.side ≡ 1) → ¬ (e.side ≡ 2) → ¬ (UnansweredBy n p q (book p q))
  no_side first second u = go (subst (UnansweredBy n p q) entry_is u)
    where
      go : ¬ (UnansweredBy n p q e)
      go (first_stays _ s _) = first s
      go (second_stays _ s _) = second s

  unanswered_of_first : e.side ≡ 1 → UnansweredBy n p q e → StaysUnanswered n p q e.target
  unanswered_of_first s (first_stays _ _ u) = u
  unanswered_of_first s (second_stays _ z _) = absurd (omega (arith, s, z))

  unanswered_of_second : e.side ≡ 2 → UnansweredBy n p q e → StaysUnanswered n q p e.target
  unanswered_of_second s (first_stays _ z _) = absurd (omega (arith, s, z))
  unanswered_of_second s (second_stays _ _ u) = u

  pub unanswered_first : e.action ≡ silent_label → e.side ≡ 1 → (r : Bool)
      → Decides r (StaysUnanswered n p q e.target) → Decides r (UnansweredBy n p q (book p q))
  unanswered_first a s r d = subst (λ (x : Entry). Decides r (UnansweredBy n p q x)) (sym entry_is)
      (decides_iff r (first_stays a s) (unanswered_of_first s) d)

  pub unanswered_second : e.action ≡ silent_label → e.side ≡ 2 → (r : Bool)
      → Decides r (StaysUnanswered n q p e.target) → Decides r (UnansweredBy n p q (book p q))
  unanswered_second a s r d = subst (λ (x : Entry). Decides r (UnansweredBy n p q x)) (sym entry_is)
      (decides_iff r (second_stays a s) (unanswered_of_second s) d)

-- ---- an opening

module _ (Move : Moves) (n : ℕ) (action_lt : (x a y : ℕ) → Move x a y → a < action_limit) where
  -- Beside a move of Move the answers are those of Move.
  move_of_still : {x a y : ℕ} → a < action_limit → Still Move n x a y → Move x a y
  move_of_still l (moves m) = m
  move_of_still l (stays e _ _) = absurd (omega (arith, l, e))

  opens_still : {R : Relation} {p q a t : ℕ} → Opens Move R p q a t → Opens (Still Move n) R p q a t
  opens_still o = opens-map moves (λ u. move_of_still (action_lt _ _ _ o.opening)) (λ x y h. h) o

  -- Beside one that stays they stay too.
  opens_of_unanswered : {R : Relation} {p q a t : ℕ} → a ≡ silent_label → StaysUnanswered n p q t
      → Opens (Still Move n) R p q a t
  opens_of_unanswered {R} {p} {q} {a} {t} e s = record {
    opening = stays e s.opener_lt (sym s.target_is);
    answers = λ u m. absurd (no_answer m);
  }
    where
      no_answer : {u : ℕ} → ¬ (Still Move n q a u)
      no_answer (moves m) = omega (arith, e, action_lt _ _ _ m)
      no_answer (stays _ l _) = omega (arith, l, s.other_le)

  pub opens_cases : {R : Relation} {p q a t : ℕ} → ¬ (R p q) → Opens (Still Move n) R p q a t
      → Opens Move R p q a t ⊎ ((a ≡ silent_label) × StaysUnanswered n p q t)
  opens_cases {R} {p} {q} {a} {t} self o = go o.opening
    where
      go : Still Move n p a t → Opens Move R p q a t ⊎ ((a ≡ silent_label) × StaysUnanswered n p q t)
      go (moves m) = inl (record { opening = m; answers = λ u w. o.answers u (moves w) })
      go (stays e l s) =
          let none : ¬ (q < n) = λ k. self (subst (λ (x : ℕ). R x q) (sym s) (o.answers q (stays e k refl))) in
          inr (e, record { opener_lt = l; target_is = sym s; other_le = omega (arith, none) })

  -- The two ways to open are all there are.
  pub opens_of_cases : {R : Relation} {p q a t : ℕ}
      → Opens Move R p q a t ⊎ ((a ≡ silent_label) × StaysUnanswered n p q t) → Opens (Still Move n) R p q a t
  opens_of_cases (inl o) = opens_still o
  opens_of_cases (inr s) = opens_of_unanswered s.0 s.1

  -- ---- an entry

  module _ (book : Book) (p q : ℕ) where
    pub sound_of_steps : SoundAt Move book p q → SoundAt (Still Move n) book p q
    sound_of_steps h present = go (h present)
      where
        go : {R : Relation} {side a t : ℕ} → Plays Move R p q side a t → Plays (Still Move n) R p q side a t
        go (first_opens s o) = first_opens s (opens_still o)
        go (second_opens s o) = second_opens s (opens_still o)

    pub sound_of_unanswered : UnansweredBy n p q (book p q) → SoundAt (Still Move n) book p q
    sound_of_unanswered (first_stays a s u) present = first_opens s (opens_of_unanswered a u)
    sound_of_unanswered (second_stays a s u) present = second_opens s (opens_of_unanswered a u)

    -- An entry that is sound, but not by steps, stays unanswered.
    pub unanswered_of_sound : ¬ (SoundAt Move book p q) → SoundAt (Still Move n) book p q
        → UnansweredBy n p q (book p q)
    unanswered_of_sound bad h = go (h (λ s. bad (λ present. absurd (present s))))
      where
        self : ¬ (LowerEntry book (book p q).depth p q)
        self l = omega (arith, l.depth_lt)

        go : Plays (Still Move n) (LowerEntry book (book p q).depth) p q (book p q).side (book p q).action
            (book p q).target → UnansweredBy n p q (book p q)
        go (first_opens s o) = ⊎_elim (λ x. absurd (bad (λ _. first_opens s x))) (λ k. first_stays k.0 s k.1)
            (opens_cases self o)
        go (second_opens s o) = ⊎_elim (λ x. absurd (bad (λ _. second_opens s x))) (λ k. second_stays k.0 s k.1)
            (opens_cases self o)

-- ---- of listed moves

-- Moves by group, and those that stay, are the moves that are played.
module _ {n : ℕ} {first actions targets groups : List ℕ} (L : MoveList n first actions targets)
    (I : IndexOf n first actions targets groups) where
  agree : Agree (λ p. p < n) (λ a. a ≡ silent_label) (Listed n first actions targets)
      (StillMove n first actions targets)
  agree = weak_agree_all (Listed n first actions targets) (λ p q. ⊥) n (λ p q x. x) (listed_target_lt L)
      (λ p a q m. omega (arith, listed_action_lt L p a q m))

  pub still_move_of_still : (p a q : ℕ) → Still (Indexed groups targets) n p a q
      → StillMove n first actions targets p a q
  still_move_of_still p a q (moves m) = let k = I.back p a q m in agree.forth p a q k.source_lt k
  still_move_of_still p a q (stays e l s) = subst (StillMove n first actions targets p a) s (agree.idle p a l e)

  pub still_of_still_move : (p a q : ℕ) → StillMove n first actions targets p a q
      → Still (Indexed groups targets) n p a q
  still_of_still_move p a q w = go (agree.back p a q (source_lt w) w)
    where
      source_lt : StillMove n first actions targets p a q → p < n
      source_lt (low m) = silent_source_lt (λ x y t. absurd t) m.before
      source_lt (silent e s) = silent_source_lt (λ x y t. absurd t) s

      go : Listed n first actions targets p a q ⊎ ((a ≡ silent_label) × (p ≡ q)) → Still (Indexed groups targets) n p
          a q
      go (inl m) = moves (I.forth p a q m)
      go (inr e) = stays e.0 (source_lt w) e.1
