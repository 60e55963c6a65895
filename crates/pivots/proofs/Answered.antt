-- What the inverse answers of a pivot.
-- Assumes nothing.
use mathlib.Core.Logic.{◌≢◌}
use mathlib.Core.Path.{◌≡◌, sym, ◌∙◌, ap}
use Prim.Native.Nat.{ℕ, ◌<◌}
use native.Mathlib.Omega.{arith}
use Rattle.definitions.proofs.Table.{accepts}
use Rattle.definitions.specs.Answers.{Answer, refused, valued, inverse_answer}
use Rattle.definitions.specs.Field.{Code, inverse_of}
use Rattle.field.proofs.Operands.{inverse_accepts}
use Rattle.refusals.proofs.Unique.{refusal_number}
use Rattle.refusals.specs.Refusal.{told_refusal}
use Rattle.refusals.specs.declared.Refusal.{Refusal}

module _ (C : Code) (a : ℕ) (h : a < C.symbols) (n : a ≢ 0) where
  -- a symbol that is not zero is accepted
  accepted : inverse_answer C a ≡ valued (inverse_of C a)
  accepted = sym (accepts refused (valued (inverse_of C a)) (inverse_accepts C a (omega arith) n))

  -- what is answered is its inverse
  pub answered : (u : ℕ) → valued u ≡ inverse_answer C a → u ≡ inverse_of C a
  answered u e = ap (λ (x : Answer). x.value) (e ∙ accepted)

  -- and it is not refused
  pub not_refused : (r : Refusal) → told_refusal r ≡ inverse_answer C a → ⊥
  not_refused r e = refusal_number r (ap (λ (x : Answer). x.number) (e ∙ accepted))
