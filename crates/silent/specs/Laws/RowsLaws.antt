-- Sets are closed along silent moves by the rows of their targets: what a few passes have left open, one look at each
-- row closes. Assumes nothing.
use Rattle.std.specs.Prelude.{◌≡◌, refl, ◌⊎◌, List, ℕ, ◌+◌, ◌≤◌, ◌<◌}
use Rattle.std.proofs.Common.{sym, subst, inl, inr, arith}
use Rattle.lts.proofs.TestsLaws.{eq_or_not, lt_or_le}
use Rattle.lts.proofs.WithinLaws.{within_le, within_start}
use Rattle.lts.specs.Weak.{silent_label, silent}
use Rattle.lts.proofs.WeakLaws.{silent_lt, silent_source_lt, silent_trans}
use Rattle.text.specs.Limits.{state_limit}
use Rattle.sets.specs.Inner.Sets.{Member}
use Rattle.sets.specs.Inner.SetValues.{SetOf, InSome, SetPut}
use Rattle.sets.specs.declared.set.Set.{Set}
use Rattle.silent.specs.Labelled.{LabelList, TickLabel, LabelMove}
use Rattle.silent.specs.Inner.Keys.{OfStates, Closed, Gathered}
use Rattle.silent.specs.Inner.Loops.{ClosedWithin, RowsTo}
use Rattle.silent.specs.Inner.Targets.{Targets}
use Rattle.silent.specs.Laws.LabelledLaws.{label_step_source_lt}
use Rattle.silent.specs.Laws.KeysLaws.{label_move→Silent}

-- ---- one row after another

pub rows_to-zero : (rows sets : List ℕ) → RowsTo rows sets 0 sets
rows_to-zero rows sets = record {
  reached = λ p q x l r m. absurd (omega arith);
  only = λ p x l m. absurd (omega arith);
  rest = λ p x l m. m;
}

pub rows_to-suc : {rows entry sets exit : List ℕ} {k : ℕ} {row all : Set} → RowsTo rows entry k sets
    → SetOf (Member rows k) row → SetOf (InSome entry row) all → SetPut k all sets exit → RowsTo rows entry (k + 1) exit
rows_to-suc {rows} {entry} {sets} {exit} {k} {row} {all} h r u s = record {
  reached = λ p q x l t m. reached p q x l t m (eq_or_not p k);
  only = λ p x l m. only p x l m (eq_or_not p k);
  rest = λ p x l m. h.rest p x (omega arith) (s.only p x (λ e. omega (arith, e, l)) m);
}
  where
    reached : (p q x : ℕ) → p < k + 1 → Member rows p q → Member entry q x → (p ≡ k) ⊎ ¬ (p ≡ k) → Member exit p x
    reached p q x l t m (inl e) = subst (λ (y : ℕ). Member exit y x) (sym e) (s.put.only x (u.all x (record {
      member = q;
      in_set = r.all q (subst (λ (y : ℕ). Member rows y q) e t);
      related = m;
    })))
    reached p q x l t m (inr d) = s.kept p x d (h.reached p q x (omega (arith, l, d)) t m)

    only : (p x : ℕ) → p < k + 1 → Member exit p x → (p ≡ k) ⊎ ¬ (p ≡ k) → (q : ℕ) × Member rows p q × Member entry q x
    only p x l m (inl e) =
        let i = u.only x (s.put.all x (subst (λ (y : ℕ). Member exit y x) e m)) in (
          i.member,
          subst (λ (y : ℕ). Member rows y i.member) (sym e) (r.only i.member i.in_set),
          i.related,
        )
    only p x l m (inr d) = h.only p x (omega (arith, l, d)) (s.only p x d m)

pub rows_to→Gathered : {rows entry sets : List ℕ} {k n : ℕ} → k ≡ n → OfStates n entry → RowsTo rows entry k sets
    → Gathered (λ p q. (p < n) × Member rows p q) entry sets
rows_to→Gathered {rows} {entry} {sets} {k} {n} e o h = record {
  reached = λ p q x r m. h.reached p q x (omega (arith, e, r.0)) r.1 m;
  only = λ p x l m. only p x l m (lt_or_le p k);
}
  where
    only : (p x : ℕ) → p < state_limit → Member sets p x → (p < k) ⊎ (k ≤ p)
        → (q : ℕ) × ((p < n) × Member rows p q) × Member entry q x
    only p x l m (inl i) =
        let r = h.only p x i m in
        (r.0, (omega (arith, e, i), r.1), r.2)
    only p x l m (inr i) = absurd (omega (arith, e, i, o.state_lt p x l (h.rest p x i m)))

-- ---- the rows of the silent moves

module _ {n : ℕ} {from sources targets : List ℕ} (L : LabelList n from sources targets) where
  pub closed_of_rows : {k : ℕ} {there entry sets exit : List ℕ}
      → Targets (LabelMove n from sources targets) silent_label there
      → ClosedWithin (TickLabel from sources targets) n k entry sets
      → Gathered (λ p q. (p < n) × Member there p q) sets exit → Closed (TickLabel from sources targets) n entry exit
  closed_of_rows t h g = record {
    reached = λ p q x s m. g.reached p q x
        (silent_source_lt (λ p q s. label_step_source_lt L (omega arith) s) s, t.reached p q (silent refl s))
        (h.near q q x (within_le (omega arith) (within_start (refl, silent_lt s))) m);
    only = λ p x l m.
        let r = g.only p x l m in
        let s = label_move→Silent (t.only p r.0 l r.1.1) in
        let r' = h.silent.only r.0 x (omega (arith, silent_lt s, L.states_le)) r.2 in
        (r'.0, silent_trans s r'.1, r'.2);
  }
