-- What a result was before its error was mapped. Assumes nothing.
use Rattle.std.specs.Prelude.{◌≡◌, refl, Result, Ok, Err}
use Rattle.std.specs.Result.{MatchResult, IsErrAnd}

module _ {T E D : Type 0} (Q : E → D → Type 0) where
  pub err_of_map : (s : Result T E) (r : Result T D) {d : D}
      → MatchResult s (λ x. r ≡ Ok x) (λ e. IsErrAnd r (Q e)) → r ≡ Err d → (e : E) × (s ≡ Err e) × Q e d
  err_of_map (Ok x) (Ok y) h e = absurd cc
  err_of_map (Ok x) (Err y) h e = absurd cc
  err_of_map (Err f) (Ok y) h e = absurd cc
  err_of_map (Err f) (Err y) {d} h e = let p : y ≡ d = cc in (f, refl, rw p at h)

  pub ok_of_map : (s : Result T E) (r : Result T D) {x : T}
      → MatchResult s (λ x. r ≡ Ok x) (λ e. IsErrAnd r (Q e)) → r ≡ Ok x → s ≡ Ok x
  ok_of_map (Ok y) (Ok z) h e = cc
  ok_of_map (Ok y) (Err z) h e = absurd cc
  ok_of_map (Err f) (Ok z) h e = absurd h
  ok_of_map (Err f) (Err z) h e = absurd cc
