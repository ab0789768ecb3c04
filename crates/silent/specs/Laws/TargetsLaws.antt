-- The targets of moves are the keys of the states, where each state is a class of its own. Assumes nothing.
use Rattle.std.specs.Prelude.{List, ◌≡◌, ℕ, ◌+◌, ◌≤◌, ◌<◌, length, set}
use Rattle.std.proofs.Common.{sym, ◌∙◌, subst, arith, get_or-set_same, get_or-set_other, below_more}
use Rattle.lts.specs.Alike.{Moves}
use Rattle.text.specs.Limits.{state_limit}
use Rattle.by_state.specs.Inner.Numbered.{ClassNumbers}
use Rattle.sets.specs.Inner.Sets.{Member}
use Rattle.silent.specs.Inner.Keys.{Keys}
use Rattle.silent.specs.Inner.Targets.{OwnNumbers, Targets}

-- ---- own numbers

pub own_numbers-zero : (class : List ℕ) → OwnNumbers 0 class
own_numbers-zero class = record { own = λ p l. absurd (omega arith) }

pub own_numbers-suc : {n : ℕ} {class : List ℕ} → n < length class → OwnNumbers n class
    → OwnNumbers (n + 1) (set class n n)
own_numbers-suc {n} {class} l x = record {
  own = below_more _ n (λ p k. get_or-set_other class n p n 0 (λ e. omega arith) ∙ x.own p k)
      (get_or-set_same class n n 0 l);
}

pub own_numbers_at : {m n : ℕ} {class : List ℕ} → m ≡ n → OwnNumbers m class → OwnNumbers n class
own_numbers_at {class = class} e = subst (λ (k : ℕ). OwnNumbers k class) e

pub class_numbers_of_own : {n : ℕ} {class : List ℕ} → n ≤ state_limit → OwnNumbers n class → ClassNumbers n class
class_numbers_of_own l x = record { class_lt = λ p k. omega (arith, l, k, x.own p k) }

-- ---- keys

module _ {Move : Moves} {n : ℕ} (target_lt : (p a q : ℕ) → Move p a q → q < n) {class : List ℕ}
    (own : OwnNumbers n class) {a : ℕ} {sets : List ℕ} where
  pub targets_of_keys : Keys Move a class sets → Targets Move a sets
  targets_of_keys k = record {
    reached = λ p q m. subst (Member sets p) (own.own q (target_lt p a q m)) (k.reached p q m);
    only = λ p q l m.
        let x = k.only p q l m in
        let e : x.0 ≡ q = sym (own.own x.0 (target_lt p a x.0 x.1)) ∙ x.2 in
        subst (Move p a) e x.1;
  }

  pub keys_of_targets : Targets Move a sets → Keys Move a class sets
  keys_of_targets t = record {
    reached = λ p q m. subst (Member sets p) (sym (own.own q (target_lt p a q m))) (t.reached p q m);
    only = λ p q l m. (q, t.only p q l m, own.own q (target_lt p a q (t.only p q l m)));
  }
