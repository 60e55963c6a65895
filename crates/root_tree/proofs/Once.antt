-- The theorem on the roots: all messages of k symbols with Q(x, f(x)) identically zero, each once, by the first symbol, then the second and so
-- on. So a double root stands once, and none is of degree k.
-- Assumes nothing.
use mathlib.Core.Bool.{true}
use mathlib.Core.List.{List, [], Memᴰ}
use mathlib.Core.Path.{◌≡◌}
use Prim.Native.Nat.{ℕ, ◌-◌, ◌<◌}
use lib.ListN.{length, get_or}
use Rattle.definitions.proofs.Messages.{Before, before_irreflexive, messages_in_order}
use Rattle.definitions.proofs.Ordered.{Ordered, ordered_once, ordered_select}
use Rattle.definitions.proofs.Tools.{select_passes, select_from, select_keeps}
use Rattle.definitions.specs.Code.{Symbols, messages}
use Rattle.definitions.specs.Field.{Code}
use Rattle.definitions.specs.Roots.{is_root, roots_of}
use Rattle.algebra.specs.FieldOf.{FieldOf}
use Rattle.algebra.proofs.Elements.{zero_symbol}

pub record AllRoots (C : Code) (D k : ℕ) (q : List ℕ) : Type 0 where
  -- each is a message of k symbols
  pub sized : (f : List ℕ) → Memᴰ f (roots_of C D k q) → length f ≡ k
  pub symbols : (f : List ℕ) → Memᴰ f (roots_of C D k q) → Symbols C f
  -- with Q(x, f(x)) identically zero
  pub root : (f : List ℕ) → Memᴰ f (roots_of C D k q) → is_root C (k - 1) D q f ≡ true
  -- and every such message is among them
  pub each : (f : List ℕ) → length f ≡ k → Symbols C f → is_root C (k - 1) D q f ≡ true → Memᴰ f (roots_of C D k q)
  -- by the first symbol, then the second and so on
  pub ordered : Ordered Before (roots_of C D k q)
  -- no two places hold the same
  pub once : (i j : ℕ) → i < length (roots_of C D k q) → j < length (roots_of C D k q) → get_or (roots_of C D k q) i [] ≡ get_or (roots_of C D k q) j [] → i ≡ j

module _ (C : Code) (F : FieldOf C) (D k : ℕ) (q : List ℕ) where
  -- they stand in order
  in_order : Ordered Before (roots_of C D k q)
  in_order = ordered_select Before (is_root C (k - 1) D q) (messages C k) (messages_in_order C (zero_symbol C F) k).ordered

  -- the roots are all there are, each once, in document 01's order
  pub roots_in_order : AllRoots C D k q
  roots_in_order = record {
    sized = λ f m. (messages_in_order C (zero_symbol C F) k).sized f (select_from (is_root C (k - 1) D q) (messages C k) f m);
    symbols = λ f m. (messages_in_order C (zero_symbol C F) k).symbols f (select_from (is_root C (k - 1) D q) (messages C k) f m);
    root = λ f m. select_passes (is_root C (k - 1) D q) (messages C k) f m;
    each = λ f e s r. select_keeps (is_root C (k - 1) D q) (messages C k) f r ((messages_in_order C (zero_symbol C F) k).each f e s);
    ordered = in_order;
    once = ordered_once Before before_irreflexive (roots_of C D k q) in_order [];
  }
