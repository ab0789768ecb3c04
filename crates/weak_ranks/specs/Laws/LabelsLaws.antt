-- Classes divided by one label after another: with all of them the classes are refined. Assumes nothing.
use Rattle.std.specs.Prelude.{◌≡◌, refl, ◌⊎◌, List, ℕ, ◌+◌, ◌≤◌, ◌<◌, get_or}
use Rattle.std.proofs.Common.{sym, ◌∙◌, subst, inl, inr, arith}
use Rattle.lts.specs.Alike.{Moves}
use Rattle.lts.specs.Weak.{silent_label}
use Rattle.lts.proofs.TestsLaws.{lt_or_le}
use Rattle.text.specs.Limits.{state_limit}
use Rattle.by_state.specs.Inner.Numbered.{Same}
use Rattle.sets.specs.Inner.Sets.{SameSet, Member}
use Rattle.silent.specs.Inner.Keys.{Keys}
use Rattle.ranking.specs.Inner.ClassList.{Refined}
use Rattle.weak_ranks.specs.Inner.Dividing.{DividedBy, AnswersUnder, LabelBelow, DividedUnder}

-- ---- keys and answers

module _ {Move : Moves} {a : ℕ} {class keys : List ℕ} (K : Keys Move a class keys) {p q : ℕ} (lp : p < state_limit)
    (lq : q < state_limit) where
  answers_under_of_same_set : SameSet keys p q → AnswersUnder Move class a p q
  answers_under_of_same_set s = record {
    there = λ p' m.
        let r = K.only q (get_or class p' 0) lq (s.there _ (K.reached p p' m)) in
        (r.0, r.1, sym r.2);
    back = λ q' m. K.only p (get_or class q' 0) lp (s.back _ (K.reached q q' m));
  }

  same_set_of_answers_under : AnswersUnder Move class a p q → SameSet keys p q
  same_set_of_answers_under h = record {
    there = λ x m.
        let r = K.only p x lp m in
        let t = h.there r.0 r.1 in
        subst (λ (c : ℕ). Member keys q c) (sym t.2 ∙ r.2) (K.reached q t.0 t.1);
    back = λ x m.
        let r = K.only q x lq m in
        let t = h.back r.0 r.1 in
        subst (λ (c : ℕ). Member keys p c) (t.2 ∙ r.2) (K.reached p t.0 t.1);
  }

-- ---- one label after another

label_cases : {a : ℕ} (b : ℕ) → LabelBelow (a + 1) b → LabelBelow a b ⊎ (b ≡ a)
label_cases b (inr e) = inl (inr e)
label_cases {a} b (inl l) = go (lt_or_le b a)
  where
    go : (b < a) ⊎ (a ≤ b) → LabelBelow a b ⊎ (b ≡ a)
    go (inl k) = inl (inl k)
    go (inr k) = inr (omega arith)

label_more : {a : ℕ} (b : ℕ) → LabelBelow a b → LabelBelow (a + 1) b
label_more b (inl l) = inl (omega arith)
label_more b (inr e) = inr e

module _ {Move : Moves} {n : ℕ} {class : List ℕ} where
  pub divided_under_none : DividedUnder Move (λ b. ⊥) n class class
  divided_under_none = record {
    same_before = λ p q lp lq e. e;
    answers = λ p q b lp lq l. absurd l;
    stay = λ p q lp lq e h. e;
  }

  -- One label more, whose keys divide the classes.
  pub divided_under_keys : {Label Label' : ℕ → Type 0} {a : ℕ} {next next' keys : List ℕ}
      → ((b : ℕ) → Label' b → Label b ⊎ (b ≡ a)) → ((b : ℕ) → Label b → Label' b) → Label' a → n ≤ state_limit
      → DividedUnder Move Label n class next → Keys Move a class keys → DividedBy n keys next next'
      → DividedUnder Move Label' n class next'
  divided_under_keys {Label} {Label'} {a} {next} {next'} {keys} cases old new limit D K B = record {
    same_before = λ p q lp lq e. D.same_before p q lp lq (B.same_before p q lp lq e);
    answers = λ p q b lp lq l e. go p q b lp lq e (cases b l);
    stay = λ p q lp lq s h. B.stay p q lp lq (D.stay p q lp lq s (λ b l. h b (old b l)))
        (same_set_of_answers_under K (omega arith) (omega arith) (h a new));
  }
    where
      go : (p q b : ℕ) → p < n → q < n → Same next' p q → Label b ⊎ (b ≡ a) → AnswersUnder Move class b p q
      go p q b lp lq e (inl l) = D.answers p q b lp lq l (B.same_before p q lp lq e)
      go p q b lp lq e (inr i) = subst (λ (x : ℕ). AnswersUnder Move class x p q) (sym i)
          (answers_under_of_same_set K (omega arith) (omega arith) (B.same_keys p q lp lq e))

  -- One label more, that no move has.
  pub divided_under_skip : {Label Label' : ℕ → Type 0} {a : ℕ} {next : List ℕ}
      → ((b : ℕ) → Label' b → Label b ⊎ (b ≡ a)) → ((b : ℕ) → Label b → Label' b)
      → ((p q : ℕ) → ¬ (Move p a q)) → DividedUnder Move Label n class next → DividedUnder Move Label' n class next
  divided_under_skip {Label} {Label'} {a} {next} cases old none D = record {
    same_before = D.same_before;
    answers = λ p q b lp lq l e. go p q b lp lq e (cases b l);
    stay = λ p q lp lq s h. D.stay p q lp lq s (λ b l. h b (old b l));
  }
    where
      idle : (p q : ℕ) → AnswersUnder Move class a p q
      idle p q = record { there = λ p' m. absurd (none p p' m); back = λ q' m. absurd (none q q' m) }

      go : (p q b : ℕ) → p < n → q < n → Same next p q → Label b ⊎ (b ≡ a) → AnswersUnder Move class b p q
      go p q b lp lq e (inl l) = D.answers p q b lp lq l e
      go p q b lp lq e (inr i) = subst (λ (x : ℕ). AnswersUnder Move class x p q) (sym i) (idle p q)

  -- With the labels of all moves the classes are refined.
  pub refined_of_divided_under : {Label : ℕ → Type 0} {next : List ℕ} → ((p b q : ℕ) → Move p b q → Label b)
      → DividedUnder Move Label n class next → Refined Move n class next
  refined_of_divided_under labels D = record {
    same_before = D.same_before;
    answers_of_same = λ p q lp lq e. record {
      there = λ b p' m. (D.answers p q b lp lq (labels p b p' m) e).there p' m;
      back = λ b q' m. (D.answers p q b lp lq (labels q b q' m) e).back q' m;
    };
    same_of_answers = λ p q lp lq s h.
        D.stay p q lp lq s (λ b l. record { there = h.there b; back = h.back b });
  }

  -- ---- the silent label, then the actions

  pub divided_under_silent : {next keys : List ℕ} → n ≤ state_limit → Keys Move silent_label class keys
      → DividedBy n keys class next → DividedUnder Move (LabelBelow 0) n class next
  divided_under_silent limit K B = divided_under_keys cases (λ b l. absurd l) (inr refl) limit divided_under_none K B
    where
      cases : (b : ℕ) → LabelBelow 0 b → ⊥ ⊎ (b ≡ silent_label)
      cases b (inl l) = absurd (omega arith)
      cases b (inr e) = inr e

  module _ {a : ℕ} {next : List ℕ} (D : DividedUnder Move (LabelBelow a) n class next) where
    pub divided_under_action : {next' keys : List ℕ} → n ≤ state_limit → Keys Move a class keys
        → DividedBy n keys next next' → DividedUnder Move (LabelBelow (a + 1)) n class next'
    divided_under_action limit K B = divided_under_keys label_cases label_more (inl (omega arith)) limit D K B

    pub divided_under_idle : ((p q : ℕ) → ¬ (Move p a q)) → DividedUnder Move (LabelBelow (a + 1)) n class next
    divided_under_idle none = divided_under_skip label_cases label_more none D
