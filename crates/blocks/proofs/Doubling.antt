-- Doubling by a shift and the modulus, and sums with a power of two, of any code that a modulus makes.
-- Assumes nothing.
use mathlib.Core.Bool.{Bool, cond}
use mathlib.Core.List.{List}
use mathlib.Core.Path.{◌≡◌, refl, sym, ◌∙◌, ap, subst}
use Prim.Native.Nat.{ℕ, suc, ◌*◌, ◌^◌, ◌≤◌, ◌<◌}
use native.Mathlib.Decide.{dec_lt}
use Rattle.std.proofs.Math.Pow.{pow_mono}
use Rattle.std.proofs.Math.Nat.{pow-suc}
use native.Mathlib.Omega.{arith}
use borrow.Author.Tests.{lt-ltb, le-ltb}
use Rattle.alphabet.proofs.Sizes.{sized}
use Rattle.alphabet.specs.Codes.{width_on, modulus_on, positions_on, code_on}
use Rattle.alphabet.specs.declared.Alphabet.TheVariants.{Sixteen, ThirtyTwo}
use Rattle.alphabet.specs.declared.Alphabet.{Alphabet}
use Rattle.algebra.proofs.Finite.{double_is_product}
use Rattle.algebra.proofs.Sums.{sum_of_power}
use Rattle.definitions.specs.Field.{code_of, sum_of, double}
use lib.ListN.{replicate}
use Rattle.blocks.proofs.Blocks.{Joins, scaled_symbols, scaled_once, scaled_again, multiples_first, multiples_filled}
use Rattle.blocks.specs.Row.{block, SymbolBlock, ScaledBlock, FilledTo, MultiplesBlock}
use Rattle.instances.proofs.Codes.{field_on}

module _ (w modulus positions : ℕ) where
  -- where no bit leaves
  pub twice_low : 2 ≤ w → (x : ℕ) → x * 2 < 2 ^ w → x * 2 ≡ (code_of w modulus positions).times 2 x
  unfolding double
  twice_low wide x h = sym (ap (λ (b : Bool). cond b (x * 2) (sum_of (x * 2) modulus)) (lt-ltb (x * 2) (2 ^ w) h)) ∙ double_is_product w modulus wide x

  -- where the highest does
  pub twice_high : 2 ≤ w → (x : ℕ) → 2 ^ w ≤ x * 2 → sum_of (x * 2) modulus ≡ (code_of w modulus positions).times 2 x
  unfolding double
  twice_high wide x h = sym (ap (λ (b : Bool). cond b (x * 2) (sum_of (x * 2) modulus)) (le-ltb (x * 2) (2 ^ w) h)) ∙ double_is_product w modulus wide x

  -- a power of two and what is below it
  pub joins : (e : ℕ) → Joins (code_of w modulus positions) (2 ^ e)
  joins e c h = sum_of_power e c h

-- an alphabet has as many symbols as its width says
pub width_of : (w : Alphabet) → (2 ≤ width_on w) × (2 ^ width_on w ≡ (code_on w).symbols)
width_of Sixteen = (omega arith, refl)
width_of ThirtyTwo = (omega arith, refl)

-- what the loop over the powers of two keeps: h is one of them, the multiples below it are there, and `high` is the multiple h
pub record Doubled (w : Alphabet) (a : List ℕ) (h : ℕ) (high : List ℕ) (times : List (List ℕ)) : Type 0 where
  pub power : (e : ℕ) × (h ≡ 2 ^ e)
  pub least : 1 ≤ h
  pub most : h ≤ (code_on w).symbols
  pub symbols : SymbolBlock (code_on w) high
  pub scaled : h < (code_on w).symbols → ScaledBlock (code_on w) h a high
  pub there : MultiplesBlock (code_on w) h a times

module _ (w : Alphabet) (a : List ℕ) where
  -- the multiple 1 is the block
  pub doubled_first : (n : ℕ) → n ≡ (code_on w).symbols → SymbolBlock (code_on w) a → Doubled w a 1 a (replicate n (replicate block 0))
  doubled_first n is s =
      let least = (sized w).least in
      record {
        power = (0, refl);
        least = omega arith;
        most = omega arith;
        symbols = s;
        scaled = λ _. scaled_once (code_on w) (field_on w) a s;
        there = multiples_first (code_on w) (field_on w) n (omega arith) a s;
      }

  module _ {h : ℕ} {high : List ℕ} {times : List (List ℕ)} (d : Doubled w a h high times) (low : h < (code_on w).symbols) where
    -- the number of symbols is a power of two as h is: where h is below it, so is no more than its half
    pub doubled_room : h * 2 ≤ (code_on w).symbols
    doubled_room =
        let e = d.power.0 in
        let is = d.power.1 in
        let wide = (width_of w).1 in
        let less : e < width_on w = elim (dec_lt e (width_on w)) [
          | yes l ↦ l
          | no n ↦ let f = pow_mono {i = width_on w} {j = e} (omega arith) in absurd (omega arith)
        ] in
        let f = pow_mono {i = suc e} {j = width_on w} (omega arith) in
        omega (arith, pow-suc 2 e)

    -- with the multiple h added to each there are twice as many
    pub doubled_again : (twofold : List ℕ) (new : List (List ℕ)) → SymbolBlock (code_on w) a → FilledTo sum_of h h high times new
        → ScaledBlock (code_on w) 2 high twofold → Doubled w a (h * 2) twofold new
    doubled_again twofold new s f t =
        let C = code_on w in
        let F = field_on w in
        let e = d.power.0 in
        let is = d.power.1 in
        let wide = width_of w in
        let least = (sized w).least in
        let room = doubled_room in
        let join = subst (Joins C) (sym is) (joins (width_on w) (modulus_on w) (positions_on w) e) in
        record {
          power = (suc e, omega (arith, pow-suc 2 e));
          least = let one = d.least in omega arith;
          most = room;
          symbols = scaled_symbols C F 2 high twofold (omega arith) d.symbols t;
          scaled = λ l.
              let double = sym (twice_low (width_on w) (modulus_on w) (positions_on w) wide.0 h (omega arith)) in
              scaled_again C F 2 h (h * 2) a high twofold (omega arith) low double s (d.scaled low) t;
          there = multiples_filled C F h a high times new low join s d.there (d.scaled low) f;
        }
