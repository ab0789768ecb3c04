-- The promise of Write pins its answer and the list, and Write and Read undo each other.
-- Document 01, operations 1 and 8; DEMANDS, 2. Assumes nothing.
use Rattle.std.specs.Prelude.{List, [], ◌∷◌, ◌++◌, ◌⊎◌, ◌≡◌, ℕ, ◌≤◌, length, take, drop}
use Rattle.std.proofs.Common.{inl, inr, sym, ap, ◌∙◌, subst, arith, take_at}
use Rattle.std.proofs.Math.Option.{none}
use Rattle.text.specs.Limits.{store_length, out_length}
use Rattle.text.specs.Faults.{Outcome, answers}
use Rattle.text.specs.Laws.FirstShortLaws.{none_short_two}
use Rattle.text.specs.Model.{Model}
use Rattle.model.specs.Reading.{Reading, done, read_text}
use Rattle.model.specs.Store.{store_of, Good}
use Rattle.model.specs.OnStore.{OnStore}
use Rattle.model.specs.Text.{model_text}
use Rattle.model.specs.WellFormed.{WellFormed}
use Rattle.model.specs.StatedText.{MText}
use Rattle.model.proofs.Laws.Text.ReadingLaws.{read_text-model_text, read_text_well_formed, states_of-read_text}
use Rattle.model.proofs.Laws.Text.ReadingLaws.{states_m_text}
use Rattle.model.proofs.Laws.Store.StoredModelLaws.{holds_store_of, good_m_text}
use Rattle.model.proofs.Laws.Store.GoodTestLaws.{good_cases}
use Rattle.model.proofs.Laws.OnStoreLaws.{on_store_unique}
use Rattle.read_write.specs.ReadPromise.{reading_outcome, read_lists, ReadPromise}
use Rattle.reader.specs.Answers.{reading_store}
use Rattle.read_write.specs.Laws.ReadPromiseLaws.{read_lists_none, read_done, read_length}
use Rattle.read_write.specs.WritePromise.{write_lists, PutsText, WritePromise}

pub write_lists_none : (store out : List ℕ) → store_length ≤ length store → out_length ≤ length out
    → write_lists store out ≡ none
write_lists_none store out h l = none_short_two h l

pub write_promise_unique : (store out : List ℕ) (outcome outcome' : Outcome) (exit exit' : List ℕ)
    → WritePromise store out outcome exit
    → WritePromise store out outcome' exit' → (outcome ≡ outcome') × (exit ≡ exit')
write_promise_unique store out outcome outcome' exit exit' =
    on_store_unique (λ a b. a ∙ sym b) (λ g a b. (a.0 ∙ sym b.0, a.1 ∙ sym b.1))

-- ---- the text that is written

-- While `M` texts are the only kind, the text that Write puts is whichever text reads to the store.
pub write_promise_text : (store out : List ℕ) (outcome : Outcome) (exit : List ℕ)
    → WritePromise store out outcome exit
    → OnStore (write_lists store out) store outcome (exit ≡ out) (λ g. PutsText g.text out outcome exit)
write_promise_text store out outcome exit p = record {
  short = p.short;
  not_good = p.not_good;
  good = λ e g. subst (λ (x : List ℕ). PutsText x out outcome exit) (sym (good_m_text store g)) (p.good e g);
}

-- ---- Write undoes Read, and Read undoes Write

-- an `M` text that was read is written back from the store that Read left
pub write_after_m_text : (text store exit : List ℕ) → store_length ≤ length store → (m : Model) → WellFormed m
    → MText text m → ReadPromise text store (answers []) exit
    → (out : List ℕ) (outcome : Outcome) (exit' : List ℕ) → out_length ≤ length out
    → WritePromise exit out outcome exit' → PutsText text out outcome exit'
write_after_m_text text store exit long m w is p out outcome exit' l q =
    let d = read_done text store exit long p in
    let n = read_length text store exit long p in
    let reads : read_text text ≡ done m = ap read_text is ∙ read_text-model_text m w in
    let e : done d.0 ≡ done m = sym d.1 ∙ reads in
    let same : d.0 ≡ m = cc in
    let rest : List ℕ = drop store_length store in
    let left : exit ≡ store_of m ++ rest = d.2 ∙ ap (λ (x : Model). store_of x ++ rest) same in
    let g : Good exit = record {
      text = text;
      model = m;
      reads = reads;
      stored = (holds_store_of m rest w).stored ∙ ap (take store_length) (sym left);
    } in
    subst (λ (x : List ℕ). PutsText x out outcome exit') (sym is)
    (q.good (write_lists_none exit out (omega arith) l) g)

-- the text that was read is written back, while `M` texts are the only kind
pub write_after-read : (text store exit : List ℕ) → store_length ≤ length store
    → ReadPromise text store (answers []) exit → (out : List ℕ) (outcome : Outcome) (exit' : List ℕ)
    → out_length ≤ length out → WritePromise exit out outcome exit' → PutsText text out outcome exit'
write_after-read text store exit long p =
    let d = read_done text store exit long p in
    let s = states_of-read_text text d.0 d.1 in
    write_after_m_text text store exit long d.0 s.well_formed (states_m_text text d.0 s) p

-- the first n bytes that Write left, where it answered n, read back to the store that it wrote
pub read_after_write : (store out exit : List ℕ) (n : ℕ) (store' : List ℕ) (outcome : Outcome) (exit' : List ℕ)
    → store_length ≤ length store → out_length ≤ length out → store_length ≤ length store'
    → WritePromise store out (answers (n ∷ [])) exit → ReadPromise (take n exit) store' outcome exit'
    → (outcome ≡ answers []) × (exit' ≡ take store_length store ++ drop store_length store')
unfolding reading_outcome reading_store
read_after_write store out exit n store' outcome exit' l k j p q =
    go (write_lists_none store out l k) (read_lists_none (take n exit) store' j) (good_cases store)
  where
    go : write_lists store out ≡ none → read_lists (take n exit) store' ≡ none → Good store ⊎ (¬ (Good store))
        → (outcome ≡ answers []) × (exit' ≡ take store_length store ++ drop store_length store')
    go e f (inl g) =
        let a = p.good e g in
        let s = a.0 in
        let w = read_text_well_formed g.text g.model g.reads in
        let c : length (model_text g.model) ≡ n = cc in
        let b : take n exit ≡ model_text g.model = ap (take n) a.1 ∙ take_at (model_text g.model) _ n c in
        let d : read_text (take n exit) ≡ done g.model = ap read_text b ∙ read_text-model_text g.model w in (
          q.answer f ∙ ap reading_outcome d,
          q.filled f ∙ ap (λ (x : Reading). reading_store x store') d
              ∙ ap (λ (x : List ℕ). x ++ drop store_length store') g.stored,
        )
    go e f (inr c) =
        let a = (p.not_good e c).0 in
        let z : ◌≡◌ {A = ℕ} 0 1 = cc in
        absurd (omega arith)
