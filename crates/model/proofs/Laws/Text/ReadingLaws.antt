-- Exactly the texts that state a model are read, each to its model.
-- Document 01, "The text". Assumes nothing.
use Rattle.std.proofs.Common.{Bool, true, false, cond, List, ◌≡◌, refl, ◌↔◌, ℕ, ◌≤◌, ◌<◌, ltb, length, sym, ap, ◌∙◌}
use Rattle.std.proofs.Common.{subst, arith, lit<, le-ltb}
use Rattle.text.specs.Bytes.{kind_of, line_end, byte_line_end}
use Rattle.text.specs.Laws.BytesLaws.{line_end_only}
use Rattle.text.specs.Limits.{text_limit, out_length}
use Rattle.text.specs.Split.{split}
use Rattle.text.specs.All.{All}
use Rattle.text.specs.Join.{join}
use Rattle.text.specs.Laws.JoinLaws.{all_join, split-join, join-split}
use Rattle.text.specs.Model.{Model}
use Rattle.model.specs.Reading.{done, too_long, read_model, read_text}
use Rattle.model.specs.Text.{model_text}
use Rattle.model.specs.WellFormed.{WellFormed}
use Rattle.model.specs.StatedText.{MText, TextKind, m_text, States}
use Rattle.model.specs.Inner.LineText.{parts_of}
use Rattle.model.specs.Laws.Text.TextLaws.{model_text-parts, parts_of_all}
use Rattle.model.specs.Laws.Text.TextLengthLaws.{model_text-length_le}
use Rattle.model.proofs.Laws.Text.PartsLaws.{read_model-parts, parts_of_of-read_model}

-- ---- a text and its model

split-model_text : (m : Model) → WellFormed m → split line_end (model_text m) ≡ parts_of m
unfolding kind_of
split-model_text m w =
    let bytes = parts_of_all m w (λ b. kind_of b ≡ line_end → ⊥) (λ b p. p.1) in
    ap (split line_end) (model_text-parts m) ∙ split-join line_end byte_line_end refl (parts_of m) (omega arith) bytes

-- what is written reads back
pub read_text-model_text : (m : Model) → WellFormed m → read_text (model_text m) ≡ done m
unfolding read_text
read_text-model_text m w =
    let l = model_text-length_le m w in
    let n : length (model_text m) ≤ text_limit = omega arith in
    rw (le-ltb text_limit (length (model_text m)) n, split-model_text m w) (read_model-parts m w)

-- only what is written so reads
m_text_of-read_text : (t : List ℕ) (m : Model) → read_text t ≡ done m → WellFormed m × MText t m
unfolding read_text
m_text_of-read_text t m q = by_test (ltb text_limit (length t)) q
  where
    by_test : (b : Bool) → cond b too_long (read_model (split line_end t)) ≡ done m → WellFormed m × MText t m
    by_test true h = let z : ◌≡◌ {A = ℕ} 0 1 = cc in absurd (omega arith)
    by_test false h =
        let p = parts_of_of-read_model (split line_end t) m h in
        let e = sym (join-split line_end byte_line_end line_end_only t) in
        (p.0, e ∙ ap (join byte_line_end) p.1 ∙ sym (model_text-parts m))

pub states_of-read_text : (t : List ℕ) (m : Model) → read_text t ≡ done m → States t m
states_of-read_text t m q =
    let h = m_text_of-read_text t m q in record { well_formed = h.0; kind = m_text h.1 }

pub read_text_of_states : (t : List ℕ) (m : Model) → States t m → read_text t ≡ done m
read_text_of_states t m s = by_kind s.kind
  where
    by_kind : TextKind t m → read_text t ≡ done m
    by_kind (m_text e) = ap read_text e ∙ read_text-model_text m s.well_formed

-- exactly the texts that state a model are read, each to its model
pub read_text_iff : (t : List ℕ) (m : Model) → (read_text t ≡ done m) ↔ States t m
read_text_iff t m = (states_of-read_text t m, read_text_of_states t m)

pub read_text_well_formed : (t : List ℕ) (m : Model) → read_text t ≡ done m → WellFormed m
read_text_well_formed t m q = (states_of-read_text t m q).well_formed

-- ---- `M` texts

-- `M` texts are the only kind so far
pub states_m_text : (t : List ℕ) (m : Model) → States t m → MText t m
states_m_text t m s = by_kind s.kind
  where
    by_kind : TextKind t m → MText t m
    by_kind (m_text e) = e

-- two `M` texts that state one model are the same text
pub m_text_unique : (t u : List ℕ) (m : Model) → MText t m → MText u m → t ≡ u
m_text_unique t u m p q = p ∙ sym q

pub m_text-length_le : (t : List ℕ) (m : Model) → WellFormed m → MText t m → length t ≤ out_length
m_text-length_le t m w e =
    subst (λ (l : List ℕ). length l ≤ out_length) (sym e) (model_text-length_le m w)

pub model_text_bytes : (m : Model) → WellFormed m → All (λ b. b < 256) (model_text m)
model_text_bytes m w =
    let bytes = parts_of_all m w (λ b. b < 256) (λ b p. p.0) in
    subst (All (λ b. b < 256)) (sym (model_text-parts m))
    (all_join (λ b. b < 256) byte_line_end (lit< tt) (parts_of m) bytes)

pub m_text_bytes : (t : List ℕ) (m : Model) → WellFormed m → MText t m → All (λ b. b < 256) t
m_text_bytes t m w e = subst (All (λ b. b < 256)) (sym e) (model_text_bytes m w)
