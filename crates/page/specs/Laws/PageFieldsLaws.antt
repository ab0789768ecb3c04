-- A `V` line and the `R` lines give back their numbers: parted at the commas, each field of digits reads as its number.
-- Document 01, "The page". Assumes nothing.
use Rattle.std.specs.Prelude.{List, [], ◌∷◌, ◌++◌, map, ◌≡◌, refl, ℕ, zero, suc, ◌+◌, ◌<◌, length, get_or}
use Rattle.std.proofs.Math.Option.{some}
use Rattle.std.proofs.Common.{ap, ◌∙◌, arith}
use Rattle.std.proofs.lemmas.Bool.{eqb-false}
use Rattle.text.specs.All.{All}
use Rattle.text.specs.Bytes.{byte_comma, byte_v, byte_r, digit, comma, kind_of}
use Rattle.text.specs.Numbers.{number_of, digits}
use Rattle.text.specs.Split.{split}
use Rattle.text.specs.Join.{join, Without}
use Rattle.text.specs.Laws.DigitsLaws.{number_of-digits}
use Rattle.text.specs.Laws.JoinLaws.{split-join, without?, without_test}
use Rattle.model.specs.Laws.Text.JoinedFieldsLaws.{digits_without}
use Rattle.verdicts.specs.declared.judging.Verdict.TheVariants.{Passed, Refused}
use Rattle.lines.specs.PageLines.{PageLine, verdict_line, run_line, pass_text, refuse_text, line_text}
use Rattle.page.specs.PageClaim.{line_fields, PassFields, RefuseFields}

-- ---- a line

no_commas : (ns : List ℕ) → All (Without comma) (map digits ns)
no_commas = digits_without comma (λ e. eqb-false digit comma refl e)

passed_fields : (rank : ℕ)
    → split comma (line_text (verdict_line (Passed rank))) ≡ (byte_v ∷ []) ∷ pass_text ∷ digits rank ∷ []
unfolding line_text join without? kind_of
passed_fields rank = split-join comma byte_comma refl ((byte_v ∷ []) ∷ pass_text ∷ digits rank ∷ []) (omega arith)
    (without_test comma (byte_v ∷ []) tt, (without_test comma pass_text tt, no_commas (rank ∷ [])))

refused_fields : (j depth : ℕ)
    → split comma (line_text (verdict_line (Refused (record { 0 = j }) depth)))
    ≡ (byte_v ∷ []) ∷ refuse_text ∷ digits j ∷ digits depth ∷ []
unfolding line_text join without? kind_of
refused_fields j depth =
    split-join comma byte_comma refl ((byte_v ∷ []) ∷ refuse_text ∷ digits j ∷ digits depth ∷ []) (omega arith)
    (without_test comma (byte_v ∷ []) tt, (without_test comma refuse_text tt, no_commas (j ∷ depth ∷ [])))

run_line_number : (j : ℕ) → j < 100000 → number_of (get_or (split comma (line_text (run_line j))) 1 []) ≡ some j
unfolding line_text join without? kind_of
run_line_number j l =
    let e = split-join comma byte_comma refl ((byte_r ∷ []) ∷ digits j ∷ []) (omega arith)
    (without_test comma (byte_r ∷ []) tt, no_commas (j ∷ [])) in
    ap (λ (fields : List (List ℕ)). number_of (get_or fields 1 [])) e ∙ number_of-digits j l

-- the lines of a run, behind others
run_number : (head : List PageLine) (run : List ℕ) (rest after : List PageLine) (more : List (List ℕ)) (i k : ℕ)
    → All (λ j. j < 100000) run → i < length run → k ≡ length head + i
    → number_of
    (get_or (split comma (get_or (map line_text (head ++ (map run_line run ++ rest) ++ after) ++ more) k [])) 1 [])
    ≡ some (get_or run i 0)
run_number (x ∷ head) run rest after more i zero small l e = absurd (omega arith)
run_number (x ∷ head) run rest after more i (suc k) small l e =
    run_number head run rest after more i k small l (omega arith)
run_number [] [] rest after more i k small l e = absurd (omega arith)
run_number [] (j ∷ run) rest after more zero zero small l e = run_line_number j small.0
run_number [] (j ∷ run) rest after more zero (suc k) small l e = absurd (omega arith)
run_number [] (j ∷ run) rest after more (suc i) zero small l e = absurd (omega arith)
run_number [] (j ∷ run) rest after more (suc i) (suc k) small l e =
    run_number [] run rest after more i k small.1 (omega arith) (omega arith)

-- ---- some lines, and what follows them

module _ (texts more : List (List ℕ)) {lines : List PageLine} (parted : texts ≡ map line_text lines ++ more) where
  -- line i of them
  line_fields_is : (lines' : List PageLine) (i : ℕ) → lines ≡ lines'
      → line_fields texts i ≡ split comma (get_or (map line_text lines' ++ more) i [])
  line_fields_is lines' i e =
      ap (λ (z : List (List ℕ)). split comma (get_or z i []))
      (parted ∙ ap (λ (z : List PageLine). map line_text z ++ more) e)

  pub pass_fields : (rank : ℕ) (rest : List PageLine) → rank < 100000 → lines ≡ verdict_line (Passed rank) ∷ rest
      → PassFields texts rank
  pass_fields rank rest l e =
      let f = line_fields_is (verdict_line (Passed rank) ∷ rest) 0 e ∙ passed_fields rank in
      record {
        count = ap length f;
        letter = ap (λ (fields : List (List ℕ)). get_or fields 0 []) f;
        verdict = ap (λ (fields : List (List ℕ)). get_or fields 1 []) f;
        rank_field = ap (λ (fields : List (List ℕ)). number_of (get_or fields 2 [])) f ∙ number_of-digits rank l;
      }

  pub refuse_fields : (j depth : ℕ) (rest : List PageLine) → j < 100000 → depth < 100000
      → lines ≡ verdict_line (Refused (record { 0 = j }) depth) ∷ rest → RefuseFields texts j depth
  refuse_fields j depth rest l k e =
      let f = line_fields_is (verdict_line (Refused (record { 0 = j }) depth) ∷ rest) 0 e ∙ refused_fields j depth in
      record {
        count = ap length f;
        letter = ap (λ (fields : List (List ℕ)). get_or fields 0 []) f;
        verdict = ap (λ (fields : List (List ℕ)). get_or fields 1 []) f;
        step_field = ap (λ (fields : List (List ℕ)). number_of (get_or fields 2 [])) f ∙ number_of-digits j l;
        depth_field = ap (λ (fields : List (List ℕ)). number_of (get_or fields 3 [])) f ∙ number_of-digits depth k;
      }

  pub run_fields : (head : List PageLine) (run : List ℕ) (rest after : List PageLine) {n : ℕ}
      → lines ≡ head ++ (map run_line run ++ rest) ++ after → length head ≡ n → All (λ j. j < 100000) run → (i : ℕ)
      → i < length run → number_of (get_or (line_fields texts (n + i)) 1 []) ≡ some (get_or run i 0)
  run_fields head run rest after {n} e len small i l =
      ap (λ (fields : List (List ℕ)). number_of (get_or fields 1 []))
      (line_fields_is (head ++ (map run_line run ++ rest) ++ after) (n + i) e)
      ∙ run_number head run rest after more i (n + i) small l (omega (arith, len))
