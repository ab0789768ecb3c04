-- Each answer of Write keeps its promise: the lists' lengths decide first, then goodness. Assumes nothing.
use Rattle.std.proofs.Common.{Ok, Err, List, [], ◌∷◌, refl, ap, ℕ, ◌≤◌, ◌<◌, arith, length}
use Rattle.model.specs.declared.refusal.Refusal.TheVariants.{ShortList, NotGood}
use Rattle.text.specs.Faults.{answers}
use Rattle.text.specs.Limits.{store_length, out_length}
use Rattle.text.specs.Laws.FirstShortLaws.{first_short_is, second_short}
use Rattle.model.proofs.Laws.OnStoreLaws.{on_store_short, on_store_not_good, on_store-model}
use Rattle.read_write.specs.WritePromise.{write_outcome, PutsText, WritePromise}
use Rattle.read_write.specs.Laws.WritePromiseLaws.{write_lists_none}
use Rattle.model.specs.Store.{Good}
use Rattle.model.specs.StoredModel.{model_at}
use Rattle.model.specs.Text.{model_text}
use Rattle.writer.specs.Inner.Writable.{Writable}
use Rattle.writer.specs.Laws.WritableLaws.{text_le}
use Rattle.writer.specs.Wrote.{Wrote}
use Rattle.writer.specs.Laws.WroteLaws.{wrote-start}

module _ (store out : List ℕ) where
  pub short_store_promised : length store < store_length
      → WritePromise store out (write_outcome (Err (ShortList 1))) out
  unfolding write_outcome
  short_store_promised h = on_store_short (first_short_is _ _ h) refl refl

  pub short_out_promised : store_length ≤ length store → length out < out_length
      → WritePromise store out (write_outcome (Err (ShortList 2))) out
  unfolding write_outcome
  short_out_promised h l = on_store_short (second_short _ _ h l) refl refl

  pub not_good_promised : store_length ≤ length store → out_length ≤ length out → ¬ (Good store)
      → WritePromise store out (write_outcome (Err NotGood)) out
  unfolding write_outcome
  not_good_promised h l n = on_store_not_good (write_lists_none store out h l) n refl refl

  -- the text that was written is that of the model that the store holds
  pub written_promised : (exit : List ℕ) (next : ℕ) → Writable store → out_length ≤ length out
      → Wrote out 0 (model_text (model_at store)) exit next → WritePromise store out (write_outcome (Ok next)) exit
  unfolding write_outcome
  written_promised exit next w l wrote =
      let fits = text_le store w in
      let done = wrote-start wrote (omega arith) in
      on_store-model (λ m. PutsText (model_text m) out (answers (next ∷ [])) exit)
      (write_lists_none store out w.long l) w.good (ap (λ (n : ℕ). answers (n ∷ [])) done.0, done.1)
