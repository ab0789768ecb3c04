-- One round on classes makes those of (k+1)-alike states from those of k-alike states. It separates two states whose
-- class it divides, and where no state changes its class, none. Document 01, "Alike" and operation 3. Assumes nothing.
use Rattle.std.specs.Prelude.{◌≡◌, List, ℕ, suc, ◌≤◌, ◌<◌, get_or}
use Rattle.std.proofs.Common.{sym, ◌∙◌}
use Rattle.lts.specs.Alike.{Moves, Answers, Alike}
use Rattle.lts.proofs.AlikeLaws.{alike_suc, answers_below}
use Rattle.lts.specs.Game.{Settled, Separates}
use Rattle.lts.proofs.PigeonholeLaws.{injective_le}
use Rattle.by_state.specs.Inner.Numbered.{Same}
use Rattle.ranking.specs.Inner.ClassList.{Classes, Refined, Changed}
use Rattle.ranking.specs.Inner.TableWrites.{SeparatedBy}

-- ---- k-alike

-- Before any round all states are of one class.
pub classes-zero : {Move : Moves} {n : ℕ} {class : List ℕ} → ((p : ℕ) → get_or class p 0 ≡ 0) → Classes Move n 0 class
unfolding Alike
classes-zero z = record { same_of_alike = λ p q lp lq h. z p ∙ sym (z q); alike_of_same = λ p q lp lq e. tt }

module _ {Move : Moves} {n : ℕ} (target_lt : (p a q : ℕ) → p < n → Move p a q → q < n) {class : List ℕ} {k : ℕ}
    (C : Classes Move n k class) where
  alike_of_answers : {p q : ℕ} → p < n → q < n → Answers Move (Same class) p q → Alike Move (suc k) p q
  unfolding Alike
  alike_of_answers lp lq h = answers_below Move n target_lt lp lq C.alike_of_same h

  answers_of_alike : {p q : ℕ} → p < n → q < n → Alike Move (suc k) p q → Answers Move (Same class) p q
  unfolding Alike
  answers_of_alike lp lq h = answers_below Move n target_lt lp lq C.same_of_alike h

  pub classes_suc : {next : List ℕ} → Refined Move n class next → Classes Move n (suc k) next
  classes_suc R = record {
    same_of_alike = λ p q lp lq h.
        R.same_of_answers p q lp lq (C.same_of_alike p q lp lq (alike_suc Move k p q h)) (answers_of_alike lp lq h);
    alike_of_same = λ p q lp lq e. alike_of_answers lp lq (R.answers_of_same p q lp lq e);
  }

-- ---- what a round separates

module _ {Move : Moves} {n k : ℕ} {class next : List ℕ} (C : Classes Move n k class) (D : Classes Move n (suc k) next)
  where
    pub separates_of_separated_by : {p q : ℕ} → p < n → q < n → SeparatedBy class next p q → Separates Move n k
    separates_of_separated_by {p} {q} lp lq s = record {
      one = p;
      other = q;
      one_lt = lp;
      other_lt = lq;
      alike = C.alike_of_same p q lp lq s.same_before;
      not_alike = λ h. s.not_same_after (D.same_of_alike p q lp lq h);
    }

    -- Where no state changes its class, the round separates nothing.
    pub settled_of_unchanged : ((p : ℕ) → p < n → get_or class p 0 ≡ get_or next p 0) → Settled Move n k
    settled_of_unchanged same p q lp lq h =
        D.alike_of_same p q lp lq (sym (same p lp) ∙ C.same_of_alike p q lp lq h ∙ same q lq)

-- ---- the states that change their class

-- Each state is listed once, so no more change than there are.
pub changed-count_le : {n : ℕ} {class next changed : List ℕ} {changes : ℕ} → Changed n class next changed changes
    → changes ≤ n
changed-count_le {n} {changed = changed} {changes} H =
    injective_le changes n (λ i. get_or changed i 0) H.listed_lt H.distinct
