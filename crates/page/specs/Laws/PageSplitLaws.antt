-- The bytes of a page part at their line ends into the texts of its lines: no field holds a line end.
-- Document 01, "The page": "each line ends in byte 10." Assumes nothing.
use Rattle.std.specs.Prelude.{List, [], ◌∷◌, ◌++◌, map, ◌≡◌, refl, ℕ}
use Rattle.std.proofs.Common.{append_assoc, ap, ◌∙◌, arith}
use Rattle.std.proofs.Math.Option.{Option, none, some}
use Rattle.text.specs.All.{All}
use Rattle.text.specs.Bytes.{byte_line_end, byte_dash, byte_c, line_end, kind_of}
use Rattle.text.specs.Model.{Model}
use Rattle.text.specs.Numbers.{digits}
use Rattle.text.specs.Split.{split}
use Rattle.text.specs.Laws.SplitLaws.{split-nil}
use Rattle.model.specs.Text.{field}
use Rattle.model.specs.WellFormed.{WellFormed}
use Rattle.text.specs.Laws.AllLaws.{all_append}
use Rattle.text.specs.Laws.JoinLaws.{split-append, without?, without_test}
use Rattle.lines.specs.PageLines.{PageLine, state_line, distance_text, line_text, page_bytes}
use Rattle.lines.specs.Page.{PageOf}
use Rattle.page.specs.Inner.OtherLines.{OneLine, AnyLine, of_state, of_other}
use Rattle.page.specs.Laws.LineTextLaws.{no_blanks-digits, page_any}

-- ---- texts without a line end

pub one_line-append : (a b : List ℕ) → OneLine a → OneLine b → OneLine (a ++ b)
one_line-append a b p q = all_append (λ x. kind_of x ≡ line_end → ⊥) a b p q

one_line-field : (f : List ℕ) → OneLine f → OneLine (field f)
unfolding kind_of
one_line-field f p = (λ e. omega arith, p)

pub one_line_distance : (d : Option ℕ) → OneLine (distance_text d)
unfolding distance_text without? kind_of
one_line_distance none = without_test line_end (byte_dash ∷ []) tt
one_line_distance (some d) = (no_blanks-digits d).no_line_end

one_line_state : (p : ℕ) (d : Option ℕ) (class : ℕ) → OneLine (line_text (state_line p d class))
unfolding line_text without? kind_of
one_line_state p d class =
    one_line-append ((byte_c ∷ []) ++ field (digits p) ++ field (distance_text d)) (field (digits class))
    (one_line-append ((byte_c ∷ []) ++ field (digits p)) (field (distance_text d))
    (one_line-append (byte_c ∷ []) (field (digits p)) (without_test line_end (byte_c ∷ []) tt)
    (one_line-field (digits p) (no_blanks-digits p).no_line_end))
    (one_line-field (distance_text d) (one_line_distance d)))
    (one_line-field (digits class) (no_blanks-digits class).no_line_end)

one_line_line : (l : PageLine) → AnyLine l → OneLine (line_text l)
one_line_line _ (of_state p d class) = one_line_state p d class
one_line_line l (of_other x) = x.no_blanks.no_line_end

-- ---- parted at the line ends

split_lines : (lines : List PageLine) → All AnyLine lines
    → split line_end (page_bytes lines) ≡ map line_text lines ++ ([] ∷ [])
unfolding page_bytes kind_of
split_lines [] p = split-nil line_end
split_lines (l ∷ lines) p =
    ap (split line_end) (append_assoc (line_text l) (byte_line_end ∷ []) (page_bytes lines))
    ∙ split-append line_end byte_line_end (line_text l) (page_bytes lines) refl (one_line_line l p.0)
    ∙ ap (◌∷◌ (line_text l)) (split_lines lines p.1)

-- whoever parts the page at its line ends has its lines
pub split_page : {m : Model} → WellFormed m → {run word run' word' : List ℕ} {lines : List PageLine}
    → PageOf m run word run' word' lines → split line_end (page_bytes lines) ≡ map line_text lines ++ ([] ∷ [])
split_page w {lines = lines} x = split_lines lines (page_any w x)
