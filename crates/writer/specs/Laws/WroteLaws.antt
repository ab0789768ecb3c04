-- Writers one after another write their texts one after another; a writing from place 0 puts its bytes in front.
-- Document 01, "The page": "Writing a line goes on from where the last one ended." Assumes nothing.
use Rattle.std.specs.Prelude.{◌≡◌, refl, List, [], ◌∷◌, ◌++◌, ℕ, suc, ◌+◌, ◌≤◌, ◌<◌, length, set, take, drop, get_or}
use Rattle.std.proofs.Common.{sym, ap, ◌∙◌, arith, add-zero, zero-add, add-suc, suc-add, add-one, length-append}
use Rattle.std.proofs.Common.{append_assoc, take-suc}
use Rattle.std.proofs.lemmas.List.Edits.{sets, sets-eq, paste_all}
use Rattle.std.proofs.Math.Seq.{length-sets, paste}
use Rattle.writer.specs.Wrote.{Wrote}

sets-append : (l : List ℕ) (i : ℕ) (a b : List ℕ) → sets (sets l i a) (i + length a) b ≡ sets l i (a ++ b)
sets-append l i [] b = rw add-zero
sets-append l i (x ∷ a) b = rw (add-suc, ← suc-add) (sets-append (set l i x) (suc i) a b)

-- nothing is written yet
pub wrote-nil : {l : List ℕ} {i : ℕ} → Wrote l i [] l i
wrote-nil {l} {i} = record { list = refl; place = omega arith }

-- one writer goes on from where another ended
pub wrote-append : {l m n : List ℕ} {i j k : ℕ} {a b : List ℕ} → Wrote l i a m j → Wrote m j b n k
    → Wrote l i (a ++ b) n k
wrote-append {l} {m} {n} {i} {j} {k} {a} {b} p q = record {
  list =
      q.list
      ∙ ap (λ (x : List ℕ). sets x j b) p.list
      ∙ ap (λ (x : ℕ). sets (sets l i a) x b) p.place
      ∙ sets-append l i a b;
  place = rw (length-append a b) (omega arith);
}

-- writing changes no length
pub wrote-length : {l m : List ℕ} {i j : ℕ} {a : List ℕ} → Wrote l i a m j → length m ≡ length l
wrote-length {l} {m} {i} {j} {a} p = ap length p.list ∙ length-sets l i a

-- from place 0: the bytes, and behind them what stood there; the next place is their number
pub wrote-start : {l m bytes : List ℕ} {next : ℕ} → Wrote l 0 bytes m next → length bytes ≤ length l
    → (next ≡ length bytes) × (m ≡ bytes ++ drop (length bytes) l)
wrote-start {l} {m} {bytes} w h = (omega arith, w.list ∙ sets-eq bytes l 0 (omega arith) ∙ rw zero-add)

-- a list of bytes written at once
pub wrote-paste : (l : List ℕ) (i : ℕ) (bytes : List ℕ) (n : ℕ) → n ≡ length bytes → i + n ≤ length l
    → Wrote l i bytes (paste l i bytes n) (i + n)
wrote-paste l i bytes n e h = record {
  list =
      paste_all l i bytes n e
      ∙ sym (append_assoc (take i l) bytes (drop (i + n) l))
      ∙ ap (λ (k : ℕ). take i l ++ bytes ++ drop (i + k) l) e
      ∙ sym (sets-eq bytes l i (omega arith));
  place = omega arith;
}

-- a writer that goes through a list has one element more behind it
pub take_next : (l : List ℕ) (i : ℕ) → i < length l → take i l ++ (get_or l i 0 ∷ []) ≡ take (i + 1) l
take_next l i h = rw add-one (sym (take-suc l i 0 h))
