-- A state that leaves its class is separated from the lowest state of that class. Assumes nothing.
use Rattle.std.specs.Prelude.{◌≡◌, ◌⊎◌, List, ℕ, ◌≤◌, ◌<◌, get_or}
use Rattle.std.proofs.Common.{sym, ◌∙◌, inl, inr, arith}
use Rattle.lts.specs.Alike.{Moves}
use Rattle.lts.specs.Game.{Separates}
use Rattle.lts.proofs.TestsLaws.{eq_or_not}
use Rattle.text.specs.Limits.{state_limit}
use Rattle.by_state.specs.Inner.Numbered.{ClassNumbers}
use Rattle.ranking.specs.Inner.ClassList.{Classes, Refined, Changed, RoundSeparates}
use Rattle.ranking.specs.Laws.ClassListLaws.{classes_suc, separates_of_separated_by, settled_of_unchanged}
use Rattle.weak_ranks.specs.Inner.Dividing.{LeadClasses}

-- Before any round state 0 leads all states.
pub lead_classes-zero : {n : ℕ} {class : List ℕ} → ((p : ℕ) → get_or class p 0 ≡ 0) → LeadClasses n class
lead_classes-zero {n} {class} z = record {
  lead_le = λ p l. omega (arith, z p);
  lead_own = λ p l. z (get_or class p 0) ∙ sym (z p);
}

pub lead_classes_numbers : {n : ℕ} {class : List ℕ} → n ≤ state_limit → LeadClasses n class → ClassNumbers n class
lead_classes_numbers l C = record { class_lt = λ p lp. omega (arith, C.lead_le p lp) }

module _ {Move : Moves} {n : ℕ} (target_lt : (p a q : ℕ) → p < n → Move p a q → q < n) {class next : List ℕ} {k : ℕ}
    (C : Classes Move n k class) (R : Refined Move n class next) (A : LeadClasses n class) (B : LeadClasses n next)
  where
    -- The lead of a class keeps it.
    lead_keeps : (p : ℕ) → p < n → get_or next (get_or class p 0) 0 ≡ get_or class p 0
    lead_keeps p lp =
        let r = get_or class p 0 in
        let lr : r < n = omega (arith, A.lead_le p lp) in
        let s = get_or next r 0 in
        let ls : s < n = omega (arith, B.lead_le r lr) in
        let e : get_or class s 0 ≡ r = R.same_before s r ls lr (B.lead_own r lr) ∙ A.lead_own p lp in
        omega (arith, e, A.lead_le s ls, B.lead_le r lr)

    separates_of_left : (p : ℕ) → p < n → ¬ (get_or class p 0 ≡ get_or next p 0) → Separates Move n k
    separates_of_left p lp d =
        let r = get_or class p 0 in
        let lr : r < n = omega (arith, A.lead_le p lp) in
        separates_of_separated_by C (classes_suc target_lt C R) lp lr (record {
          same_before = sym (A.lead_own p lp);
          not_same_after = λ e. d (sym (e ∙ lead_keeps p lp));
        })

    pub leads_separate : {list : List ℕ} {count : ℕ} → Changed n class next list count → RoundSeparates Move n k count
    leads_separate {list} {count} H = record {
      settled = λ e. settled_of_unchanged C (classes_suc target_lt C R)
          (λ p lp. none e p lp (eq_or_not (get_or class p 0) (get_or next p 0)));
      separates = λ l. separates_of_left (get_or list 0 0) (H.listed_lt 0 l) (H.differs 0 l);
    }
      where
        none : count ≡ 0 → (p : ℕ) → p < n → (get_or class p 0 ≡ get_or next p 0) ⊎ ¬
            (get_or class p 0 ≡ get_or next p 0)
            → get_or class p 0 ≡ get_or next p 0
        none e p lp (inl o) = o
        none e p lp (inr i) = absurd (omega (arith, (H.complete p lp i).1))
