-- The inverse of a pivot.
-- Assumes nothing.
use mathlib.Core.Logic.{◌≢◌}
use mathlib.Core.Path.{◌≡◌, sym, ◌∙◌, ap, subst}
use Prim.Native.Nat.{ℕ, ◌<◌}
use Rattle.algebra.proofs.Elements.{times_turned, inverse_symbol, times_inverse}
use Rattle.algebra.specs.FieldOf.{FieldOf}
use Rattle.definitions.specs.Answers.{valued, inverse_answer}
use Rattle.definitions.specs.Field.{Code, inverse_of}
use Rattle.pivots.proofs.Answered.{answered}

-- the inverse of a symbol other than 0 is a symbol, and their product is 1
pub inverse_law : (C : Code) → FieldOf C → (a u : ℕ) → a < C.symbols → a ≢ 0 → u ≡ inverse_of C a → (u < C.symbols) × (C.times u a ≡ 1)
inverse_law C F a u h n is =
    let small = inverse_symbol C F a h n in
    (subst (λ (x : ℕ). x < C.symbols) (sym is) small, ap (λ (x : ℕ). C.times x a) is ∙ times_turned C F (inverse_of C a) a small h ∙ times_inverse C F a h n)

-- so it is with what is answered of a pivot
pub inverts : (C : Code) → FieldOf C → (a u : ℕ) → a < C.symbols → a ≢ 0 → valued u ≡ inverse_answer C a → (u < C.symbols) × (C.times u a ≡ 1)
inverts C F a u h n e = inverse_law C F a u h n (answered C a h n u e)
