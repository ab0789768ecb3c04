-- The actions that the entries have are noted one by one; an entry with an action that no move has is bad, and the
-- others are tested under the labels of moves. Document 02, (v) and (vii). Assumes nothing.
use Rattle.std.specs.Prelude.{List, ◌⊎◌, ◌≡◌, ℕ, ◌+◌, ◌≤◌, ◌<◌, get_or, set, length}
use Rattle.std.proofs.Common.{inl, inr, sym, ◌∙◌, subst, arith, get_or-set_same, get_or-set_other}
use Rattle.lts.proofs.TestsLaws.{eq_or_not}
use Rattle.lts.specs.Alike.{Moves}
use Rattle.lts.specs.Book.{Present, Plays, first_opens, second_opens, LowerEntry, SoundAt}
use Rattle.lts.specs.Weak.{silent_label}
use Rattle.text.specs.Limits.{state_limit, action_limit, pair_place}
use Rattle.books.specs.Books.{entry_number, book_of}
use Rattle.books.specs.Inner.Sides.{SoundTo}
use Rattle.silent.specs.Labelled.{LabelList, LabelMove}
use Rattle.silent.specs.Laws.LabelledLaws.{label_move_label}
use Rattle.silent.specs.Inner.Targets.{Targets}
use Rattle.weak_books.specs.Inner.Tested.{SetMove, FirstUnder}
use Rattle.weak_books.specs.Inner.Noted.{NoLabel, ActionNoted, UsedTo, LabelsTo}
use Rattle.weak_books.specs.Laws.TestedLaws.{first_under_of_targets, first_under_trans}

-- ---- the action that was read

pub no_label_of-action : {book : List ℕ} {k a : ℕ} → Present (entry_number book k) → a ≡ (entry_number book k).action
    → ¬ ((a < action_limit) ⊎ (a ≡ silent_label)) → NoLabel book k
no_label_of-action {book} {k} {a} present e none =
    let high : ¬ (a < action_limit) = λ l. none (inl l) in
    record { present = present; action_le = omega (arith, high, e); not_silent = λ s. none (inr (e ∙ s)) }

pub label_of-action : {book : List ℕ} {k a : ℕ} → a ≡ (entry_number book k).action
    → (a < action_limit) ⊎ (a ≡ silent_label) → ¬ (NoLabel book k)
label_of-action e (inl l) h = omega (arith, e, l, h.action_le)
label_of-action e (inr s) h = h.not_silent (sym e ∙ s)

-- ---- noting

-- Nothing is noted of an entry that is absent, or whose action no move has.
pub action_noted_none : {book used : List ℕ} {k : ℕ} → (¬ (NoLabel book k) → ¬ (Present (entry_number book k)))
    → ActionNoted book k used used
action_noted_none f = record { kept = λ i e. e; noted = λ d present. absurd (f d present) }

pub action_noted-set : {book used : List ℕ} {k a : ℕ} → a ≡ (entry_number book k).action → a < length used
    → ActionNoted book k used (set used a 1)
action_noted-set {book} {used} {k} {a} e l = record {
  kept = λ i h. kept i h (eq_or_not i a);
  noted = λ _ _. subst (λ (i : ℕ). get_or (set used a 1) i 0 ≡ 1) e (get_or-set_same used a 1 0 l);
}
  where
    kept : (i : ℕ) → get_or used i 0 ≡ 1 → (i ≡ a) ⊎ ¬ (i ≡ a) → get_or (set used a 1) i 0 ≡ 1
    kept i h (inl j) = subst (λ (x : ℕ). get_or (set used a 1) x 0 ≡ 1) (sym j) (get_or-set_same used a 1 0 l)
    kept i h (inr d) = get_or-set_other used a i 1 0 d ∙ h

module _ {book : List ℕ} where
  pub used_to_zero : {used : List ℕ} → UsedTo book used 0
  used_to_zero = record { label = λ j l. absurd (omega arith); noted = λ j l. absurd (omega arith) }

  pub used_to_le : {used : List ℕ} {j k : ℕ} → j ≤ k → UsedTo book used k → UsedTo book used j
  used_to_le {used} {j} {k} l u = record {
    label = λ i m. u.label i (omega (arith, l, m));
    noted = λ i m. u.noted i (omega (arith, l, m));
  }

  pub used_to_kept : {used used' : List ℕ} {k : ℕ} → ActionNoted book k used used' → UsedTo book used k
      → UsedTo book used' k
  used_to_kept h u = record { label = u.label; noted = λ j l present. h.kept _ (u.noted j l present) }

  pub used_to_add_one : {used used' : List ℕ} {k : ℕ} → ¬ (NoLabel book k) → ActionNoted book k used used'
      → UsedTo book used k → UsedTo book used' (k + 1)
  used_to_add_one {used} {used'} {k} d h u = record {
    label = λ j l. label j l (eq_or_not j k);
    noted = λ j l. noted j l (eq_or_not j k);
  }
    where
      label : (j : ℕ) → j < k + 1 → (j ≡ k) ⊎ ¬ (j ≡ k) → ¬ (NoLabel book j)
      label j l (inl e) = subst (λ (i : ℕ). ¬ (NoLabel book i)) (sym e) d
      label j l (inr n) = u.label j (omega (arith, l, n))

      noted : (j : ℕ) → j < k + 1 → (j ≡ k) ⊎ ¬ (j ≡ k) → Present (entry_number book j)
          → get_or used' (entry_number book j).action 0 ≡ 1
      noted j l (inl e) present =
          subst (λ (i : ℕ). Present (entry_number book i) → get_or used' (entry_number book i).action 0 ≡ 1) (sym e)
          (h.noted d) present
      noted j l (inr n) present = h.kept _ (u.noted j (omega (arith, l, n)) present)

-- ---- an action that is not used

pub first_under_unused : {Move : Moves} {book used : List ℕ} {a limit : ℕ} → UsedTo book used limit → get_or used a 0
    ≡ 0
    → FirstUnder Move (λ b. b ≡ a) book limit limit
first_under_unused {Move} {book} {used} {a} {limit} u z = record {
  number_le = omega arith;
  sound = λ p q l e.
      let i : get_or used a 0 ≡ 1 = subst (λ (b : ℕ). get_or used b 0 ≡ 1) e.label (u.noted _ l e.present) in
      absurd (omega (arith, i, z));
  bad = λ p q lq e l. absurd (omega arith);
}

-- ---- all labels

module _ {Move : Moves} {book used : List ℕ} {labelled k : ℕ}
    (label_of : (p a q : ℕ) → Move p a q → (a < action_limit) ⊎ (a ≡ silent_label)) (N : LabelsTo book used labelled)
    (F : FirstUnder Move (λ b. (b ≡ silent_label) ⊎ (b < action_limit)) book labelled k) where
  no_label_bad : (p q : ℕ) → NoLabel book (pair_place p q) → ¬ (SoundAt Move (book_of book) p q)
  no_label_bad p q h s = go (s h.present)
    where
      none : ¬ (((book_of book p q).action < action_limit) ⊎ ((book_of book p q).action ≡ silent_label))
      none (inl l) = omega (arith, h.action_le, l)
      none (inr e) = h.not_silent e

      go : ¬ (Plays Move (LowerEntry (book_of book) (book_of book p q).depth) p q (book_of book p q).side
          (book_of book p q).action (book_of book p q).target)
      go (first_opens _ o) = none (label_of _ _ _ o.opening)
      go (second_opens _ o) = none (label_of _ _ _ o.opening)

  label_at : (p q : ℕ) → pair_place p q < labelled → Present (book_of book p q)
      → ((book_of book p q).action ≡ silent_label) ⊎ ((book_of book p q).action < action_limit)
  label_at p q l present = go (eq_or_not (book_of book p q).action silent_label)
    where
      go : ((book_of book p q).action ≡ silent_label) ⊎ ¬ ((book_of book p q).action ≡ silent_label)
          → ((book_of book p q).action ≡ silent_label) ⊎ ((book_of book p q).action < action_limit)
      go (inl e) = inl e
      go (inr d) =
          let high : ¬ (action_limit ≤ (book_of book p q).action) = λ i. N.used_to.label _ l
          (record { present = present; action_le = i; not_silent = d }) in
          inr (omega (arith, high))

  sound_to_of_labels : SoundTo Move book k
  sound_to_of_labels = record {
    number_le = omega (arith, F.number_le, N.number_le);
    sound = λ p q lp lq _ l present. F.sound p q l
        (record {
          first_lt = lp;
          second_lt = lq;
          present = present;
          label = label_at p q (omega (arith, l, F.number_le)) present;
        })
        present;
    bad = λ p q lp lq e _ s. bad p q lp lq e s (eq_or_not k labelled);
  }
    where
      bad : (p q : ℕ) → p < state_limit → q < state_limit → pair_place p q ≡ k → SoundAt Move (book_of book) p q
          → (k ≡ labelled) ⊎ ¬ (k ≡ labelled) → ⊥
      bad p q lp lq e s (inl i) =
          let j : labelled ≡ pair_place p q = omega (arith, e, i) in
          no_label_bad p q (subst (NoLabel book) j (N.bad (omega (arith, j)))) s
      bad p q lp lq e s (inr d) = F.bad p q lq e (omega (arith, d, F.number_le)) (λ _. s)

-- The silent label is tested by its targets, and the others up to the bad entry found, if any.
pub sound_to_of-tests : {n : ℕ} {from sources targets book used silent : List ℕ} {labelled limit k : ℕ}
    → LabelList n from sources targets → LabelsTo book used labelled
    → Targets (LabelMove n from sources targets) silent_label silent
    → FirstUnder (SetMove silent) (λ b. b ≡ silent_label) book labelled limit
    → FirstUnder (LabelMove n from sources targets) (λ b. b < action_limit) book limit k
    → SoundTo (LabelMove n from sources targets) book k
sound_to_of-tests {book = book} L N S f g =
    sound_to_of_labels (λ p a q m. label_move_label L m) N
    (first_under_trans {L = λ b. b ≡ silent_label} {M = λ b. b < action_limit} (first_under_of_targets S book f) g)
