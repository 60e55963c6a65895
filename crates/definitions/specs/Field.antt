-- Field and code of document 01: the symbols, their sum and product, powers, and a polynomial's value.
-- Assumes nothing.
use Rattle.std.specs.Prelude.{cond, List, [], ◌∷◌, ℕ, zero, suc, ◌*◌, ◌/◌, ◌%◌, ◌^◌, eqb, ltb}
use Rattle.std.specs.Int.Bits.{bit_xor}
use Rattle.definitions.specs.Tools.{smallest}

-- bare operations, with no law: what the definitions compute with, on numbers as on elements of a field
pub record Ops : Type 1 where
  pub K : Type 0
  pub o : K
  pub i : K
  pub add : K → K → K
  pub mul : K → K → K

-- the numbers that fix a code: how many symbols, the most positions, the sum and the product of two symbols, and α
pub record Code : Type 0 where
  pub symbols : ℕ
  pub positions : ℕ
  pub plus : ℕ → ℕ → ℕ
  pub times : ℕ → ℕ → ℕ
  pub α : ℕ

-- "bits, lowest first, are coefficients of 1, α, α², α³": sums are taken bit by bit
unfoldable pub sum_of : ℕ → ℕ → ℕ
sum_of a b = bit_xor a b

-- α times a symbol of `width` bits: each bit one place up, and a bit that leaves is replaced by the modulus
unfoldable pub double : ℕ → ℕ → ℕ → ℕ
double width modulus b = cond (ltb (b * 2) (2 ^ width)) (b * 2) (sum_of (b * 2) modulus)

-- "polynomial product modulo x⁴+x+1": for each of the `bits` lowest bits of a, b times α to the bit's place
unfoldable pub shifted : ℕ → ℕ → ℕ → ℕ → ℕ → ℕ
shifted width modulus zero a b = 0
shifted width modulus (suc bits) a b = sum_of (cond (eqb (a % 2) 1) b 0) (shifted width modulus bits (a / 2) (double width modulus b))

abbrev pub product_of : ℕ → ℕ → ℕ → ℕ → ℕ
product_of width modulus a b = shifted width modulus width a b

-- the code whose symbols have `width` bits and whose α, the bits 1 and 0, is a root of the modulus
abbrev pub code_of : ℕ → ℕ → ℕ → Code
code_of width modulus positions = record { symbols = 2 ^ width; positions = positions; plus = sum_of; times = product_of width modulus; α = 2 }

-- "Symbols are 0 to 15 .. with α⁴ = α + 1 (x⁴+x+1, primitive)": the bits of x⁴+x+1 are those of 19
abbrev pub sixteen : Code
sixteen = code_of 4 19 15

-- document 02, order 13, "Symbols 0 to 31 with α⁵ = α² + 1, n up to 31": the bits of x⁵+x²+1 are those of 37
abbrev pub thirty_two : Code
thirty_two = code_of 5 37 31

-- the symbol b with a b = 1, for an a other than zero: "Zero has no inverse"
abbrev pub inverse_of : Code → ℕ → ℕ
inverse_of C a = smallest (λ (b : ℕ). eqb (C.times a b) 1) C.symbols

-- a code's symbols as numbers, with their operations
abbrev pub numbers : Code → Ops
numbers C = record { K = ℕ; o = 0; i = 1; add = C.plus; mul = C.times }

module _ (A : Ops) where
  open A use {K, o, i, add as ◌⊕◌, mul as ◌⊗◌}

  infixl 60 ◌⊕◌
  infixl 70 ◌⊗◌
  -- x to the power n
  unfoldable pub power : K → ℕ → K
  power x zero = i
  power x (suc n) = x ⊗ power x n

  -- "f(x) is their polynomial": its value at x, lowest coefficient first
  unfoldable pub value : K → List K → K
  value x [] = o
  value x (c ∷ f) = c ⊕ x ⊗ value x f
