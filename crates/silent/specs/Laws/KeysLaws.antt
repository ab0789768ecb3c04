-- Closing the own classes gives the keys under the silent label, and closing what an action gathers from these the keys
-- under the action: silent move, step, silent move. Assumes nothing.
use Rattle.std.specs.Prelude.{refl, List, ℕ, ◌<◌, get_or}
use Rattle.std.proofs.Common.{arith}
use Rattle.lts.specs.Weak.{silent_label, LowMove, low, silent, Silent}
use Rattle.lts.proofs.WeakLaws.{silent_lt}
use Rattle.text.specs.Limits.{action_limit}
use Rattle.silent.specs.Labelled.{LabelStep, LabelList, LowLabel, TickLabel, LabelMove}
use Rattle.silent.specs.Inner.Keys.{OfStates, OwnClasses, Closed, Gathered, Keys}
use Rattle.silent.specs.Laws.LabelledLaws.{label_step_source_lt, label_step_target_lt}

pub own_classes→OfStates : {n : ℕ} {class sets : List ℕ} → OwnClasses n class sets → OfStates n sets
own_classes→OfStates O = record { state_lt = λ p x l m. (O.only p x m).0 }

module _ {n : ℕ} {from sources targets : List ℕ} where
  -- A move with the silent label is a silent one.
  pub label_move→Silent : {p q : ℕ} → LabelMove n from sources targets p silent_label q
      → Silent (TickLabel from sources targets) n p q
  label_move→Silent (low m) = let l = m.step.0 in absurd (omega (arith, l))
  label_move→Silent (silent e s) = s

  -- A move with an action is a low one.
  pub label_move→LowMove : {p a q : ℕ} → a < action_limit → LabelMove n from sources targets p a q
      → LowMove (LowLabel from sources targets) (TickLabel from sources targets) n p a q
  label_move→LowMove l (low m) = m
  label_move→LowMove l (silent e s) = absurd (omega (arith, l, e))

module _ {n : ℕ} {from sources targets : List ℕ} (L : LabelList n from sources targets) where
  pub gathered→OfStates : {a : ℕ} {sets gathered : List ℕ} → a < action_limit
      → Gathered (LabelStep from sources targets a) sets gathered → OfStates n gathered
  gathered→OfStates l G = record { state_lt = λ p x k m. label_step_source_lt L (omega arith) (G.only p x k m).1 }

  pub keys_of_own : {class own keys : List ℕ} → OwnClasses n class own
      → Closed (TickLabel from sources targets) n own keys
      → Keys (LabelMove n from sources targets) silent_label class keys
  keys_of_own {class} O C = record {
    reached = λ p q m.
        let s = label_move→Silent m in
        C.reached p q (get_or class q 0) s (O.own q (silent_lt s));
    only = λ p c l m.
        let r = C.only p c l m in
        (r.0, silent refl r.1, (O.only r.0 c r.2).1);
  }

  pub keys_of_gathered : {a : ℕ} {class silents gathered keys : List ℕ} → a < action_limit
      → Keys (LabelMove n from sources targets) silent_label class silents
      → Gathered (LabelStep from sources targets a) silents gathered
      → Closed (TickLabel from sources targets) n gathered keys → Keys (LabelMove n from sources targets) a class keys
  keys_of_gathered {a} {class} l K G C = record {
    reached = λ p q m.
        let w = label_move→LowMove l m in
        let c = get_or class q 0 in
        C.reached p w.from c w.before (G.reached w.from w.to c w.step.1
        (K.reached w.to q (silent refl w.after)));
    only = λ p c lp m.
        let r = C.only p c lp m in
        let g = G.only r.0 c (omega (arith, silent_lt r.1, L.states_le)) r.2 in
        let lt = label_step_target_lt L (omega arith) g.1 in
        let k = K.only g.0 c (omega (arith, lt, L.states_le)) g.2 in (
          k.0,
          low (record {
            from = r.0;
            to = g.0;
            before = r.1;
            step = (l, g.1);
            after = label_move→Silent k.1;
          }),
          k.2,
        );
  }
