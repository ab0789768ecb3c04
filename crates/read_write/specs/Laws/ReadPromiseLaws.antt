-- The promise of Read pins its answer and the store, and Read leaves a good store.
-- Document 01, operation 1. Assumes nothing.
use Rattle.std.specs.Prelude.{List, [], ◌++◌, ◌⊎◌, ◌≡◌, refl, ℕ, ◌≤◌, length, take, drop}
use Rattle.std.proofs.Common.{inl, inr, sym, ◌∙◌, arith, length-append, length-drop}
use Rattle.std.proofs.Math.Option.{none, some}
use Rattle.std.proofs.Math.Path.{ap}
use Rattle.text.specs.Limits.{store_length}
use Rattle.text.specs.Faults.{Outcome, answers}
use Rattle.text.specs.Model.{Model}
use Rattle.text.specs.Laws.FirstShortLaws.{none_short_two}
use Rattle.model.specs.Reading.{Reading, done, too_long, faulty, read_text}
use Rattle.model.proofs.Laws.Text.ReadingLaws.{read_text_well_formed}
use Rattle.model.specs.Store.{store_of, Good}
use Rattle.model.specs.Laws.Store.StoreLaws.{store_of_length}
use Rattle.model.proofs.Laws.Store.StoredModelLaws.{holds_store_of}
use Rattle.model.proofs.Laws.OnStoreLaws.{option_cases}
use Rattle.read_write.specs.ReadPromise.{reading_outcome, read_lists, ReadPromise}
use Rattle.reader.specs.Answers.{reading_store}

pub read_lists_none : (text store : List ℕ) → store_length ≤ length store → read_lists text store ≡ none
read_lists_none text store h = none_short_two (omega arith) h

module _ (text store : List ℕ) (outcome outcome' : Outcome) (exit exit' : List ℕ) where
  pub read_promise_unique : ReadPromise text store outcome exit → ReadPromise text store outcome' exit'
      → (outcome ≡ outcome') × (exit ≡ exit')
  read_promise_unique p q = go (option_cases (read_lists text store))
    where
      go : ((k : ℕ) × (read_lists text store ≡ some k)) ⊎ (read_lists text store ≡ none)
          → (outcome ≡ outcome') × (exit ≡ exit')
      go (inl s) =
          let a = p.short s.0 s.1 in
          let b = q.short s.0 s.1 in
          (a.0 ∙ sym b.0, a.1 ∙ sym b.1)
      go (inr e) = (p.answer e ∙ sym (q.answer e), p.filled e ∙ sym (q.filled e))

-- ---- Read leaves a good store

done_of_outcome : (reading : Reading) → reading_outcome reading ≡ answers [] → (m : Model) × (reading ≡ done m)
unfolding reading_outcome
done_of_outcome (done m) h = (m, refl)
done_of_outcome too_long h = let z : ◌≡◌ {A = ℕ} 0 1 = cc in absurd (omega arith)
done_of_outcome (faulty fault line) h = let z : ◌≡◌ {A = ℕ} 0 1 = cc in absurd (omega arith)

module _ (text store exit : List ℕ) (long : store_length ≤ length store)
    (p : ReadPromise text store (answers []) exit) where
  -- the model that a successful Read has read, and the store that it leaves
  pub read_done : (m : Model) × (read_text text ≡ done m) × (exit ≡ store_of m ++ drop store_length store)
  unfolding reading_store
  read_done =
      let e = read_lists_none text store long in
      let d = done_of_outcome (read_text text) (sym (p.answer e)) in
      (d.0, d.1, p.filled e ∙ ap (λ (x : Reading). reading_store x store) d.1)

  pub read_length : length exit ≡ length store
  read_length =
      let d = read_done in
      let n = store_of_length d.0 (read_text_well_formed text d.0 d.1) in
      let k = length-drop store_length store in
      ap length d.2 ∙ simp length-append (omega arith)

  -- the store is good, and the text that was read is the one that reads to it
  pub read_good : (g : Good exit) × (g.text ≡ text)
  read_good =
      let d = read_done in
      let h = holds_store_of d.0 (drop store_length store) (read_text_well_formed text d.0 d.1) in
      let s = h.stored ∙ ap (take store_length) (sym d.2) in
      (record { text = text; model = d.0; reads = d.1; stored = s }, refl)
