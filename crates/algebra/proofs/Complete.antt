-- The y-roots of a polynomial that passes hold every message whose score is above its degree limit: a list of high scores is the same,
-- taken from the roots or from all messages. The polynomial may be anybody's.
-- Assumes nothing.
use mathlib.Core.List.{List}
use mathlib.Core.Path.{◌≡◌}
use Prim.Native.Nat.{ℕ, ◌-◌, ◌≤◌, ◌<◌}
use native.Mathlib.Omega.{arith}
use borrow.Author.Tests.{ltb-true}
use lib.Dec.{ltb}
use Rattle.definitions.proofs.Messages.{messages_in_order}
use Rattle.definitions.proofs.Tools.{select_under}
use Rattle.definitions.specs.Code.{Symbols, messages}
use Rattle.definitions.specs.Field.{Code}
use Rattle.definitions.specs.Polynomial.{Through}
use Rattle.definitions.specs.Roots.{is_root, roots_of}
use Rattle.definitions.specs.Tools.{select}
use Rattle.definitions.specs.Weights.{score}
use Rattle.algebra.specs.FieldOf.{FieldOf}
use Rattle.algebra.proofs.Elements.{zero_symbol}
use Rattle.algebra.proofs.Score.{score_above_degree_is_root}

module _ (C : Code) (F : FieldOf C) where
  pub roots_hold_high_scores : (n k D t : ℕ) (m q : List ℕ) → 0 < k → n ≤ C.positions → Symbols C q → Through C n (k - 1) D m q → D ≤ t
      → select (λ (f : List ℕ). ltb t (score C n m f)) (roots_of C D k q) ≡ select (λ (f : List ℕ). ltb t (score C n m f)) (messages C k)
  roots_hold_high_scores n k D t m q hk hn sq through ht =
      let all = messages_in_order C (zero_symbol C F) k in
      select_under (λ (f : List ℕ). ltb t (score C n m f)) (is_root C (k - 1) D q) (messages C k) (λ f member high.
      let size = all.sized f member in
      let above = ltb-true t (score C n m f) high in
      score_above_degree_is_root C F n (k - 1) D m q f hn sq through (all.symbols f member) (omega arith) (omega arith))
