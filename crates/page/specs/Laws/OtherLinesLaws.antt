-- The lines of a page that begin with a capital other than `C` are all but the states'; padded, they keep their texts.
-- Document 02, (ii): "All other lines of the page stand padded in their page order." Assumes nothing.
use Rattle.std.specs.Prelude.{Bool, true, false, cond, List, [], ◌∷◌, ◌++◌, map, ◌≡◌, refl, ℕ, zero, suc, ◌-◌, length}
use Rattle.std.proofs.lemmas.List.{map-append}
use Rattle.std.proofs.Common.{append-nil, sym, ap, subst, ◌∙◌, arith, ne_eqb}
use Rattle.text.specs.All.{All}
use Rattle.text.specs.Bytes.{byte_blank, other, kind_of}
use Rattle.text.specs.Join.{Without}
use Rattle.text.specs.Laws.AllLaws.{all_append}
use Rattle.text.specs.Model.{Model}
use Rattle.model.specs.WellFormed.{WellFormed}
use Rattle.columns.specs.Rows.{roll_width, blanks, flush_left}
use Rattle.lines.specs.PageLines.{PageLine, line_text, page_bytes}
use Rattle.lines.specs.Page.{PageOf}
use Rattle.page.specs.RollClaim.{cons_unless_padding, unpadded, lettered?, others, other_lines}
use Rattle.page.specs.Inner.OtherLines.{unless_state, without_states, OtherLine, AnyLine, of_state, of_other}
use Rattle.page.specs.Laws.LineTextLaws.{page_any}
use Rattle.page.specs.Laws.PageSplitLaws.{split_page}

-- ---- lines that begin with a capital

pub lettered?-append : (text more : List ℕ) → lettered? text ≡ true → lettered? (text ++ more) ≡ true
unfolding lettered?
lettered?-append [] more e = let z : ◌≡◌ {A = ℕ} 0 1 = cc in absurd (omega arith)
lettered?-append (b ∷ text) more e = e

-- one such line
pub others_of_lettered : (text : List ℕ) → lettered? text ≡ true → others (text ∷ []) ≡ text ∷ []
unfolding others
others_of_lettered text e = rw e

pub others-append : (xs ys : List (List ℕ)) → others (xs ++ ys) ≡ others xs ++ others ys
unfolding others
others-append [] ys = refl
others-append (x ∷ xs) ys = go (lettered? x) (others-append xs ys)
  where
    go : (b : Bool) → others (xs ++ ys) ≡ others xs ++ others ys
        → cond b (x ∷ others (xs ++ ys)) (others (xs ++ ys)) ≡ cond b (x ∷ others xs) (others xs) ++ others ys
    go true ih = ap (◌∷◌ x) ih
    go false ih = ih

-- what follows the last line end is none
pub others_last : (texts : List (List ℕ)) → others (texts ++ ([] ∷ [])) ≡ others texts
unfolding others lettered?
others_last texts = others-append texts ([] ∷ []) ∙ append-nil (others texts)

-- ---- on the page

text-others : (l : PageLine) → AnyLine l → others (line_text l ∷ []) ≡ map line_text (unless_state l)
unfolding others lettered? line_text unless_state kind_of
text-others _ (of_state p d class) = refl
text-others l (of_other x) = others_of_lettered (line_text l) x.begins ∙ ap (map line_text) (sym x.stays)

texts-others : (lines : List PageLine) → All AnyLine lines
    → others (map line_text lines) ≡ map line_text (without_states lines)
unfolding without_states others
texts-others [] p = refl
texts-others (l ∷ lines) p =
    others-append (line_text l ∷ []) (map line_text lines)
    ∙ ap (λ (z : List (List ℕ)). z ++ others (map line_text lines)) (text-others l p.0)
    ∙ ap (λ (z : List (List ℕ)). map line_text (unless_state l) ++ z) (texts-others lines p.1)
    ∙ sym (map-append line_text (unless_state l) (without_states lines))

pub other_lines_page : {m : Model} → WellFormed m → {run word run' word' : List ℕ} {lines : List PageLine}
    → PageOf m run word run' word' lines → other_lines (page_bytes lines) ≡ map line_text (without_states lines)
other_lines_page w {lines = lines} x =
    ap others (split_page w x) ∙ others_last (map line_text lines) ∙ texts-others lines (page_any w x)

-- ---- texts without the blanks at their ends

unpadded-blanks : (n : ℕ) → unpadded (blanks n) ≡ []
unfolding unpadded cons_unless_padding
unpadded-blanks zero = refl
unpadded-blanks (suc n) = ap (cons_unless_padding byte_blank) (unpadded-blanks n)

cons_unless_padding-cons : (b : ℕ) (text : List ℕ) → ¬ (kind_of b ≡ other) → cons_unless_padding b text ≡ b ∷ text
unfolding cons_unless_padding kind_of
cons_unless_padding-cons b [] n = rw (ne_eqb b byte_blank (λ e. n (ap kind_of e)))
cons_unless_padding-cons b (c ∷ text) n = refl

unpadded-append : (text more : List ℕ) → unpadded more ≡ [] → Without other text → unpadded (text ++ more) ≡ text
unfolding unpadded
unpadded-append [] more e p = e
unpadded-append (b ∷ text) more e p =
    ap (cons_unless_padding b) (unpadded-append text more e p.1) ∙ cons_unless_padding-cons b text p.0

unpadded-flush_left : (width : ℕ) (text : List ℕ) → Without other text → unpadded (flush_left width text) ≡ text
unfolding flush_left
unpadded-flush_left width text p =
    unpadded-append text (blanks (width - length text)) (unpadded-blanks (width - length text)) p

unpadded_texts : (lines : List PageLine) → All OtherLine lines
    → map unpadded (map (flush_left roll_width) (map line_text lines)) ≡ map line_text lines
unpadded_texts [] p = refl
unpadded_texts (l ∷ lines) p =
    let e = unpadded-flush_left roll_width (line_text l) p.0.no_blanks.no_other in
    let f = unpadded_texts lines p.1 in
    rw (e, f)

without_states_all : (lines : List PageLine) → All AnyLine lines → All OtherLine (without_states lines)
unfolding without_states unless_state
without_states_all [] p = tt
without_states_all (l ∷ lines) p =
    all_append OtherLine (unless_state l) (without_states lines) (go l p.0) (without_states_all lines p.1)
  where
    go : (l : PageLine) → AnyLine l → All OtherLine (unless_state l)
    go _ (of_state p d class) = tt
    go l (of_other x) = subst (All OtherLine) (sym x.stays) (x, tt)

-- those that are no state's, padded and unpadded
pub unpadded-others : (lines : List PageLine) → All AnyLine lines
    → map unpadded (map (flush_left roll_width) (map line_text (without_states lines))) ≡ map line_text
    (without_states lines)
unpadded-others lines p = unpadded_texts (without_states lines) (without_states_all lines p)
