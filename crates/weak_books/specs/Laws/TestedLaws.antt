-- The entries with one label are tested by the targets under it; tests under several labels, one after the other, find
-- the first bad entry of all. Document 02, (v) and (vii). Assumes nothing.
use Rattle.std.specs.Prelude.{Bool, List, ◌⊎◌, ◌≡◌, ℕ, ◌+◌, ◌/◌, ◌%◌, ◌<◌}
use Rattle.std.proofs.Common.{inl, inr, sym, ap, ◌∙◌, subst, arith}
use Rattle.lts.proofs.TestsLaws.{eq_or_not}
use Rattle.lts.specs.Alike.{Moves, Relation}
use Rattle.lts.specs.Book.{Entry, Present, Opens, Plays, first_opens, second_opens, LowerEntry, SoundAt}
use Rattle.lts.proofs.BookLaws.{opens-map}
use Rattle.text.specs.Decides.{Decides}
use Rattle.text.specs.Limits.{state_limit, table_length, pair_place}
use Rattle.text.specs.Laws.DecidesLaws.{decides_iff}
use Rattle.books.specs.Books.{entry_number, book_of}
use Rattle.books.specs.declared.entry.Side.{Side}
use Rattle.books.specs.Inner.Sides.{BySide, NoSide, Turn}
use Rattle.books.specs.Laws.ChecksLaws.{at_number}
use Rattle.books.specs.Laws.EntryLaws.{book_of_at, bad_without_side, sound_opener}
use Rattle.sets.specs.Inner.Sets.{Member}
use Rattle.silent.specs.Inner.Targets.{Targets}
use Rattle.weak_books.specs.Inner.OpensTo.{OpensTo}
use Rattle.weak_books.specs.Inner.Tested.{SetMove, EntryUnder, SoundIf, FirstUnder}

-- ---- an opening by targets

pub opens_of-sets : {sets : List ℕ} {R : Relation} {p q a t : ℕ} → OpensTo (Member sets) R p q t
    → Opens (SetMove sets) R p q a t
opens_of-sets o = record { opening = o.opening; answers = o.answers }

pub sets_of_opens : {sets : List ℕ} {R : Relation} {p q a t : ℕ} → Opens (SetMove sets) R p q a t
    → OpensTo (Member sets) R p q t
sets_of_opens o = record { opening = o.opening; answers = o.answers }

-- The targets under the label of the entry are its moves.
module _ {Move : Moves} {a : ℕ} {sets : List ℕ} (K : Targets Move a sets) {p q : ℕ} (lp : p < state_limit)
    (lq : q < state_limit) {R : Relation} {side t : ℕ} where
  plays_of_targets : Plays (SetMove sets) R p q side a t → Plays Move R p q side a t
  plays_of_targets (first_opens e o) =
      first_opens e (opens-map (K.only p t lp) (λ u. K.reached q u) (λ x y h. h) o)
  plays_of_targets (second_opens e o) =
      second_opens e (opens-map (K.only q t lq) (λ u. K.reached p u) (λ x y h. h) o)

  targets_of_plays : Plays Move R p q side a t → Plays (SetMove sets) R p q side a t
  targets_of_plays (first_opens e o) =
      first_opens e (opens-map (K.reached p t) (λ u. K.only q u lq) (λ x y h. h) o)
  targets_of_plays (second_opens e o) =
      second_opens e (opens-map (K.reached q t) (λ u. K.only p u lp) (λ x y h. h) o)

module _ {Move : Moves} {a : ℕ} {sets : List ℕ} (K : Targets Move a sets) (book : List ℕ) where
  sound_if_of_targets : (p q : ℕ) → SoundIf (SetMove sets) (λ b. b ≡ a) book p q → SoundIf Move (λ b. b ≡ a) book p q
  sound_if_of_targets p q s e present =
      plays_of_targets (subst (λ (b : ℕ). Targets Move b sets) (sym e.label) K) e.first_lt e.second_lt
      (s e present)

  targets_of_sound_if : (p q : ℕ) → SoundIf Move (λ b. b ≡ a) book p q → SoundIf (SetMove sets) (λ b. b ≡ a) book p q
  targets_of_sound_if p q s e present =
      targets_of_plays (subst (λ (b : ℕ). Targets Move b sets) (sym e.label) K) e.first_lt e.second_lt
      (s e present)

  pub first_under_of_targets : {limit k : ℕ} → FirstUnder (SetMove sets) (λ b. b ≡ a) book limit k
      → FirstUnder Move (λ b. b ≡ a) book limit k
  first_under_of_targets f = record {
    number_le = f.number_le;
    sound = λ p q l. sound_if_of_targets p q (f.sound p q l);
    bad = λ p q lq e l s. f.bad p q lq e l (targets_of_sound_if p q s);
  }

-- ---- an entry by its number

module _ (book : List ℕ) (k : ℕ) where
  at_number_is : book_of book (k / state_limit) (k % state_limit) ≡ entry_number book k
  at_number_is = ap (entry_number book) (omega arith)

  pub present_at_number : Present (entry_number book k) → Present (book_of book (k / state_limit) (k % state_limit))
  present_at_number = subst Present (sym at_number_is)

  module _ (Move : Moves) (Label : ℕ → Type 0) where
    pub sound_if_absent : (entry_number book k).side ≡ 0 → SoundIf Move Label book (k / state_limit) (k % state_limit)
    sound_if_absent z e = absurd (subst Present at_number_is e.present z)

    pub sound_if_other : ¬ (Label (entry_number book k).action)
        → SoundIf Move Label book (k / state_limit) (k % state_limit)
    sound_if_other d e = absurd (d (subst (λ (x : Entry). Label x.action) at_number_is e.label))

    pub sound_if_at_number : k < table_length → Present (entry_number book k) → Label (entry_number book k).action
        → SoundIf Move Label book (k / state_limit) (k % state_limit)
        → SoundAt Move (book_of book) (k / state_limit) (k % state_limit)
    sound_if_at_number l present h s = s (record {
      first_lt = omega arith;
      second_lt = omega arith;
      present = present_at_number present;
      label = subst (λ (x : Entry). Label x.action) (sym at_number_is) h;
    })

-- ---- an entry as it was read

module _ (book : List ℕ) {k : ℕ} (l : k < table_length) (e : Entry) (e-is : e ≡ entry_number book k)
    (present : Present e) {a : ℕ} (a-is : e.action ≡ a) (sets : List ℕ) where
  sound_at_of_sound_if : SoundIf (SetMove sets) (λ b. b ≡ a) book (k / state_limit) (k % state_limit)
      → SoundAt (SetMove sets) (book_of book) (k / state_limit) (k % state_limit)
  sound_at_of_sound_if = sound_if_at_number book k (SetMove sets) (λ b. b ≡ a) l (subst Present e-is present)
      (sym (ap (λ (x : Entry). x.action) e-is) ∙ a-is)

  pub sound_if_opens : {side : Side} {x y : ℕ} → Turn e.side (k / state_limit) (k % state_limit) side x y → (r : Bool)
      → Decides r (OpensTo (Member sets) (BySide side (LowerEntry (book_of book) e.depth)) x y e.target)
      → Decides r (SoundIf (SetMove sets) (λ b. b ≡ a) book (k / state_limit) (k % state_limit))
  sound_if_opens turn r d = decides_iff r (λ s _. s) sound_at_of_sound_if
      (sound_opener (SetMove sets) (book_of book) _ _ e (book_of_at book k e-is) turn r
      (decides_iff r opens_of-sets sets_of_opens d))

  pub bad_if_no_side : NoSide e.side
      → ¬ (SoundIf (SetMove sets) (λ b. b ≡ a) book (k / state_limit) (k % state_limit))
  bad_if_no_side none s =
      bad_without_side (SetMove sets) (book_of book) _ _ e (book_of_at book k e-is) present none
      (sound_at_of_sound_if s)

-- ---- one entry after the other

module _ (Move : Moves) (Label : ℕ → Type 0) (book : List ℕ) where
  -- The entries before entry k with such an action are sound.
  abbrev pub SoundUnder : ℕ → Type 0
  SoundUnder k = (p q : ℕ) → pair_place p q < k → SoundIf Move Label book p q

  pub sound_under_zero : SoundUnder 0
  sound_under_zero p q l = absurd (omega arith)

  pub sound_under_add_one : {k : ℕ} → SoundIf Move Label book (k / state_limit) (k % state_limit) → SoundUnder k
      → SoundUnder (k + 1)
  sound_under_add_one {k} h s p q l e = go (eq_or_not (pair_place p q) k) e
    where
      go : (pair_place p q ≡ k) ⊎ ¬ (pair_place p q ≡ k) → SoundIf Move Label book p q
      go (inl i) e = at_number (SoundIf Move Label book) h p q e.second_lt i e
      go (inr d) e = s p q (omega (arith, d, l)) e

  pub first_under_bad : {limit k : ℕ} → k < limit → ¬ (SoundIf Move Label book (k / state_limit) (k % state_limit))
      → SoundUnder k → FirstUnder Move Label book limit k
  first_under_bad {limit} {k} l h s = record {
    number_le = omega arith;
    sound = s;
    bad = λ p q lq e _. at_number (λ x y. ¬ (SoundIf Move Label book x y)) h p q lq e;
  }

  pub first_under_none : {limit k : ℕ} → k ≡ limit → SoundUnder k → FirstUnder Move Label book limit limit
  first_under_none {limit} {k} e s = record {
    number_le = omega arith;
    sound = λ p q l. s p q (omega (arith, e, l));
    bad = λ p q lq _ l. absurd (omega arith);
  }

-- ---- one label after the other

module _ {Move : Moves} {L M : ℕ → Type 0} {book : List ℕ} where
  sound_if_map : {p q : ℕ} → ((b : ℕ) → L b → M b) → SoundIf Move M book p q → SoundIf Move L book p q
  sound_if_map f s e = s (record {
    first_lt = e.first_lt;
    second_lt = e.second_lt;
    present = e.present;
    label = f _ e.label;
  })

pub first_under-map : {Move : Moves} {L M : ℕ → Type 0} {book : List ℕ} {limit k : ℕ} → ((b : ℕ) → L b → M b)
    → ((b : ℕ) → M b → L b) → FirstUnder Move L book limit k → FirstUnder Move M book limit k
first_under-map forth back f = record {
  number_le = f.number_le;
  sound = λ p q l. sound_if_map back (f.sound p q l);
  bad = λ p q lq e l s. f.bad p q lq e l (sound_if_map forth s);
}

-- The first bad entry under L, and before it the first bad one under M, is the first bad one under both.
pub first_under_trans : {Move : Moves} {L M : ℕ → Type 0} {book : List ℕ} {limit k j : ℕ}
    → FirstUnder Move L book limit k → FirstUnder Move M book k j → FirstUnder Move (λ b. L b ⊎ M b) book limit j
first_under_trans {Move} {L} {M} {book} {limit} {k} {j} f g = record {
  number_le = omega (arith, f.number_le, g.number_le);
  sound = λ p q l e. sound p q l e e.label;
  bad = λ p q lq e l s. bad p q lq e l s (eq_or_not j k);
}
  where
    sound : (p q : ℕ) → pair_place p q < j → EntryUnder (λ b. L b ⊎ M b) book p q
        → L (book_of book p q).action ⊎ M (book_of book p q).action → SoundAt Move (book_of book) p q
    sound p q l e (inl h) = f.sound p q (omega (arith, l, g.number_le))
        (record { first_lt = e.first_lt; second_lt = e.second_lt; present = e.present; label = h })
    sound p q l e (inr h) = g.sound p q l
        (record { first_lt = e.first_lt; second_lt = e.second_lt; present = e.present; label = h })

    bad : (p q : ℕ) → q < state_limit → pair_place p q ≡ j → j < limit → SoundIf Move (λ b. L b ⊎ M b) book p q
        → (j ≡ k) ⊎ ¬ (j ≡ k) → ⊥
    bad p q lq e l s (inl i) = f.bad p q lq (omega (arith, e, i)) (omega (arith, l, i)) (sound_if_map (λ b. inl) s)
    bad p q lq e l s (inr d) = g.bad p q lq e (omega (arith, d, g.number_le)) (sound_if_map (λ b. inr) s)

-- ---- the labels below a

pub first_below-zero : {Move : Moves} {book : List ℕ} {limit : ℕ} → FirstUnder Move (λ b. b < 0) book limit limit
first_below-zero {limit = limit} = record {
  number_le = omega arith;
  sound = λ p q l e. absurd (omega (arith, e.label));
  bad = λ p q lq e l. absurd (omega arith);
}

pub first_below_add_one : {Move : Moves} {book : List ℕ} {a limit k j : ℕ} → FirstUnder Move (λ b. b < a) book limit k
    → FirstUnder Move (λ b. b ≡ a) book k j → FirstUnder Move (λ b. b < a + 1) book limit j
first_below_add_one {Move} {book} {a} {limit} {k} {j} f g =
    first_under-map {L = λ b. (b < a) ⊎ (b ≡ a)} {M = λ b. b < a + 1} forth back
    (first_under_trans {L = λ b. b < a} {M = λ b. b ≡ a} f g)
  where
    forth : (b : ℕ) → (b < a) ⊎ (b ≡ a) → b < a + 1
    forth b (inl l) = omega arith
    forth b (inr e) = omega arith

    back : (b : ℕ) → b < a + 1 → (b < a) ⊎ (b ≡ a)
    back b l = go (eq_or_not b a)
      where
        go : (b ≡ a) ⊎ ¬ (b ≡ a) → (b < a) ⊎ (b ≡ a)
        go (inl e) = inr e
        go (inr d) = inl (omega (arith, d, l))

pub first_below_at : {Move : Moves} {book : List ℕ} {a n limit k : ℕ} → a ≡ n
    → FirstUnder Move (λ b. b < a) book limit k → FirstUnder Move (λ b. b < n) book limit k
first_below_at {Move} {book} {limit = limit} {k} e =
    subst (λ (x : ℕ). FirstUnder Move (λ b. b < x) book limit k) e
