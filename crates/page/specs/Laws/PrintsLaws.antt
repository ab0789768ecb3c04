-- The promise of the path from a text and an answer give what is printed of the text.
-- Document 01, "The page"; document 02, (ii). Assumes nothing.
use Rattle.std.specs.Prelude.{Result, Ok, Err, List, [], ◌∷◌, ◌++◌, ◌≡◌, take, drop}
use Rattle.std.proofs.Math.Option.{none}
use Rattle.std.proofs.Math.Path.{refl, subst}
use Rattle.std.proofs.Common.{sym, ap, ◌∙◌, arith, length-append}
use Prim.Native.Nat.{ℕ, ◌≤◌, min}
use Rattle.std.proofs.Math.ListN.{length, length-take}
use Rattle.std.proofs.Math.Seq.{drop-append_seam}
use Rattle.text.specs.Faults.{Outcome, answers, refuses, fault_number}
use Rattle.text.specs.Laws.FirstShortLaws.{none_short_seven}
use Rattle.text.specs.Laws.ListsLaws.{take-filled}
use Rattle.text.specs.Laws.OutcomeLaws.{answers_not_refuses}
use Rattle.read_write.specs.ReadPromise.{reading_outcome}
use Rattle.model.specs.Reading.{Reading, done, too_long, faulty, read_text}
use Rattle.tell.specs.Laws.ReadTextLaws.{states→read_text}
use Rattle.page.specs.Inner.PageLists.{LongLists}
use Rattle.lines.specs.PageLines.{fault_bytes}
use Rattle.lines.specs.declared.lines.Form.{Form}
use Rattle.lines.specs.Roll.{form_bytes}
use Rattle.page.specs.declared.print.ShortList.{ShortList}
use Rattle.page.specs.Prints.{PageBytesOf, Prints}
use Rattle.text.specs.Model.{Model}
use Rattle.page.specs.PagePromise.{PagePrinted}
use Rattle.page.specs.PrintPromise.{print_outcome, print_lists, PrintPromise}
use Rattle.page.specs.Laws.PrintClaimLaws.{lists_none, form-tells, same_number, printed_bytes}

-- ---- lists that are long enough

pub print_lists_none : (form : Form) (text store distances table run word out : List ℕ)
    → LongLists form store distances table run word out
    → print_lists form text store distances table run word out ≡ none
print_lists_none form text store distances table run word out long =
    let any-text : 0 ≤ length text = omega arith in
    none_short_seven any-text long.store_length_is long.distances_length_is long.table_length_is long.run_length_is
    long.word-length long.out_length

-- ---- the bytes of a model's page

pub page_bytes_of_printed : {form : Form} {m : Model} {outcome : Outcome} {run word out run' word' out' : List ℕ}
    (n : ℕ)
    → outcome ≡ answers (n ∷ []) → PagePrinted form m outcome run word out run' word' out'
    → PageBytesOf form m (take n out')
page_bytes_of_printed {run = run} {word} {out} {run'} {word'} n e x = record {
  run = run;
  word = word;
  run' = run';
  word' = word';
  lines = x.lines;
  page = x.page;
  bytes_are = printed_bytes n e x;
}

-- ---- bytes at the front of a list

-- n bytes, and behind them what stood there.
record Front (n : ℕ) (out out' : List ℕ) : Type 0 where
  bytes : List ℕ
  length_is : n ≡ length bytes
  list : out' ≡ bytes ++ drop (length bytes) out

front_le : {n : ℕ} {out out' : List ℕ} → Front n out out' → n ≤ length out'
front_le {out = out} x =
    let bytes = x.bytes in
    omega (arith, x.length_is, ap length x.list ∙ length-append bytes (drop (length bytes) out))

front_kept : {n : ℕ} {out out' : List ℕ} → Front n out out' → drop n out' ≡ drop n out
front_kept {n} {out} x =
    let bytes = x.bytes in
    ap (drop n) x.list ∙ ap (λ (k : ℕ). drop k (bytes ++ drop (length bytes) out)) x.length_is
    ∙ drop-append_seam bytes (drop (length bytes) out) ∙ ap (λ (k : ℕ). drop k out) (sym x.length_is)

-- ---- the promise

module _ {form : Form} {text store distances table run word out : List ℕ} (n : ℕ)
    {store' distances' table' run' word' out' : List ℕ}
    (p : PrintPromise form text store distances table run word out (answers (n ∷ [])) store' distances' table' run'
    word' out') where
  abbrev long : print_lists form text store distances table run word out ≡ none
  long = lists_none p n refl

  pub prints_of_promise : Prints form text (take n out')
  prints_of_promise = record {
    unread = λ number place e.
        let x = (p.unread long number place e).1 in
        take-filled (fault_bytes number place) _ x.list n (same_number x.outcome_is);
    read = λ m e. page_bytes_of_printed n refl (p.read long m e).printed;
    tells = λ m s det still.
        (word', form-tells form s.well_formed det still n refl (p.read long m (states→read_text s)).printed);
  }

  printed_front : Front n out out'
  unfolding reading_outcome
  printed_front = go (read_text text) refl
    where
      unread : (number place : ℕ) → reading_outcome (read_text text) ≡ refuses number place → Front n out out'
      unread number place e =
          let x = (p.unread long number place e).1 in
          record { bytes = fault_bytes number place; length_is = same_number x.outcome_is; list = x.list }

      go : (r : Reading) → read_text text ≡ r → Front n out out'
      go (done m) e =
          let x = (p.read long m e).printed in
          record { bytes = form_bytes form m x.lines; length_is = same_number x.outcome_is; list = x.list }
      go too_long e = unread 1 0 (ap reading_outcome e)
      go (faulty fault line) e = unread (fault_number fault) line (ap reading_outcome e)

-- ---- the answer

module _ (form : Form) (text store distances table run word out : List ℕ) (answer : Result ℕ ShortList)
    {store' distances' table' run' word' out' : List ℕ}
    (p : PrintPromise form text store distances table run word out (print_outcome answer) store' distances' table' run'
    word' out') where
  abbrev As : Result ℕ ShortList → Type 0
  As x =
      PrintPromise form text store distances table run word out (print_outcome x) store' distances' table' run' word'
      out'

  -- so many bytes stand in the list, they are what is printed, and the list is kept past them
  pub printed_prints : (k : ℕ) → answer ≡ Ok k
      → (k ≤ length out') × (k ≡ length (take k out')) × Prints form text (take k out') × (drop k out' ≡ drop k out)
  unfolding print_outcome
  printed_prints k e =
      let q = subst As e p in
      let front = printed_front k q in
      let le : k ≤ length out' = front_le front in
      let taken : length (take k out') ≡ min k (length out') = length-take k out' in
      let all : k ≡ length (take k out') = omega (arith, le, taken) in
      (le, all, prints_of_promise k q, front_kept front)

  -- lists that are long enough are not refused
  pub short_list_not_long : (short : ShortList) → answer ≡ Err short
      → ¬ (LongLists form store distances table run word out)
  unfolding print_outcome reading_outcome
  short_list_not_long short e l = go (read_text text) refl
    where
      q : As (Err short)
      q = subst As e p

      long : print_lists form text store distances table run word out ≡ none
      long = print_lists_none form text store distances table run word out l

      unread : (number place : ℕ) → ¬ (reading_outcome (read_text text) ≡ refuses number place)
      unread number place f = answers_not_refuses (sym (q.unread long number place f).1.outcome_is)

      go : (r : Reading) → ¬ (read_text text ≡ r)
      go (done m) f = answers_not_refuses (sym (q.read long m f).printed.outcome_is)
      go too_long f = unread 1 0 (ap reading_outcome f)
      go (faulty fault line) f = unread (fault_number fault) line (ap reading_outcome f)
