-- "Refusals, in the order they are tried": the lines of document 01's table, with what document 02 moved in 2, 4, 5 and 6, and for each entry the
-- lines that it tries.
-- Assumes nothing.
use Rattle.std.specs.Prelude.{Bool, cond, not, ◌&&◌, List, [], ◌∷◌, ℕ, suc, ◌+◌, ◌-◌, ◌*◌, ◌/◌, eqb, leb, ltb, length}
use Rattle.definitions.specs.Bound.{count}
use Rattle.definitions.specs.Field.{Code}
use Rattle.definitions.specs.Limits.{greatest_sum, greatest_level, greatest_limit, greatest_count, coefficient_room, greatest_rows}
use Rattle.definitions.specs.Polynomial.{is_zero}
use Rattle.definitions.specs.Tools.{smallest}
use Rattle.definitions.specs.Weights.{matrix, cost, sum_of_column}

-- a line of the table for one call: its number, whether it is given, and its place
pub record Line : Type 0 where
  pub number : ℕ
  pub given : Bool
  pub place : ℕ

-- what the first line that is given makes of its number and place; what is accepted where none is
abbrev pub tried {ℓ} : {A : Type ℓ} → List Line → (ℕ → ℕ → A) → A → A
tried [] refused accepted = accepted
tried (l ∷ table) refused accepted = cond l.given (refused l.number l.place) (tried table refused accepted)

abbrev pub line : ℕ → Bool → Line
line number given = record { number = number; given = given; place = 0 }

-- "1 sizes: not 2 ≤ k ≤ n ≤ 15"
abbrev pub sizes_fit : Code → ℕ → ℕ → Bool
sizes_fit C n k = leb 2 k && (leb k n && leb n C.positions)

abbrev pub sizes : Code → ℕ → ℕ → Line
sizes C n k = line 1 (not (sizes_fit C n k))

-- "roots, which have no n: not 2 ≤ k ≤ 15; multiplicities, which have no k: not 2 ≤ n ≤ 15"
abbrev pub size_fits : Code → ℕ → Bool
size_fits C n = leb 2 n && leb n C.positions

abbrev pub size : Code → ℕ → Line
size C n = line 1 (not (size_fits C n))

-- "2 setting: L not 1 to 4; cost limit G above 150; N(D) above 256"; now "L up to 5" and "G may be up to 225; refusals 2 and 5 move
-- accordingly" (document 02, order 2)
abbrev pub level_fits : ℕ → Bool
level_fits L = leb 1 L && leb L greatest_level

abbrev pub level : ℕ → Line
level L = line 2 (not (level_fits L))

abbrev pub limit : ℕ → Line
limit G = line 2 (ltb greatest_limit G)

abbrev pub degree : ℕ → ℕ → Line
degree v D = line 2 (ltb greatest_count (count v D))

-- "3 length: an input does not have exactly its stated number of entries"
abbrev pub entries : ℕ → List ℕ → Line
entries stated input = line 3 (not (eqb (length input) stated))

-- "4 room: output shorter than .."
abbrev pub room : ℕ → ℕ → Line
room needed given = line 4 (ltb given needed)

-- the first place of a number above the greatest; the length where there is none
unfoldable pub first_above : ℕ → List ℕ → ℕ
first_above greatest [] = 0
first_above greatest (x ∷ l) = cond (ltb greatest x) 0 (suc (first_above greatest l))

-- "5 symbol: a field or message symbol or coefficient above 15, a multiplicity above 4"; now "entries up to 5" (document 02, order 2); at
-- "the first bad index"
abbrev pub none_above : ℕ → List ℕ → Line
none_above greatest l = record { number = 5; given = ltb (first_above greatest l) (length l); place = first_above greatest l }

-- "the later one's indexes run on after the earlier one's last", where a call takes two such inputs
abbrev pub runs_on : ℕ → Line → Line
runs_on earlier l = record { number = l.number; given = l.given; place = earlier + l.place }

abbrev pub symbols : Code → List ℕ → Line
symbols C l = none_above (C.symbols - 1) l

abbrev pub entries_of : List ℕ → Line
entries_of m = none_above greatest_level m

-- "refusal 6 is given exactly when a sum is greater" than 4,096 (document 02, order 1), at "the first bad position"
abbrev pub bad_column : Code → List ℕ → ℕ → Bool
bad_column C r i = ltb greatest_sum (sum_of_column C r i)

abbrev pub columns : Code → ℕ → List ℕ → Line
columns C n r = record { number = 6; given = ltb (smallest (bad_column C r) n) n; place = smallest (bad_column C r) n }

-- "7 cost: C above G"
abbrev pub cost_within : ℕ → List ℕ → Line
cost_within G m = line 7 (ltb G (cost m))

-- "8 zero: inverse of 0; all coefficients zero"
abbrev pub zeroes : List ℕ → Line
zeroes q = line 8 (is_zero q)

-- the lines that each entry tries: "A check that a call has no data for is passed over"
module _ (C : Code) where
  -- "for a field operation 0 for its first operand, 1 for its second"
  abbrev pub field_table : ℕ → ℕ → List Line
  field_table a b = symbols C (a ∷ b ∷ []) ∷ []

  abbrev pub inverse_table : ℕ → List Line
  inverse_table a = symbols C (a ∷ []) ∷ zeroes (a ∷ []) ∷ []

  abbrev pub encode_table : ℕ → ℕ → List ℕ → ℕ → List Line
  encode_table n k f out = sizes C n k ∷ entries k f ∷ room n out ∷ symbols C f ∷ []

  abbrev pub multiplicities_table : ℕ → ℕ → List ℕ → ℕ → List Line
  multiplicities_table n L r out =
      size C n ∷ level L ∷ entries (C.symbols * n) r ∷ room (C.symbols * n) out ∷ columns C n r ∷ []

  -- "cost and bound takes no limit G and never gives 7"
  abbrev pub cost_table : ℕ → ℕ → List ℕ → List Line
  cost_table n k m = sizes C n k ∷ entries (C.symbols * n) m ∷ entries_of m ∷ []

  abbrev pub interpolation_table : ℕ → ℕ → ℕ → List ℕ → ℕ → List Line
  interpolation_table n k G m out =
      sizes C n k ∷ limit G ∷ entries (C.symbols * n) m ∷ room coefficient_room out ∷ entries_of m ∷ cost_within G m ∷ []

  -- "k times the whole part of D/v (roots)"
  abbrev pub roots_table : ℕ → ℕ → List ℕ → ℕ → List Line
  roots_table D k q out =
      size C k ∷ degree (k - 1) D ∷ entries (count (k - 1) D) q ∷ room (k * (D / (k - 1))) out ∷ symbols C q ∷ zeroes q ∷ []

  -- "list room 20 rows and 20 scores" (document 02, order 2)
  abbrev pub list_table : ℕ → ℕ → ℕ → List ℕ → ℕ → ℕ → List Line
  list_table n k G m rows scores =
      sizes C n k ∷ limit G ∷ entries (C.symbols * n) m ∷ room (greatest_rows * k) rows ∷ room greatest_rows scores ∷ entries_of m
      ∷ cost_within G m ∷ []

  abbrev pub read_table : ℕ → ℕ → ℕ → ℕ → List ℕ → ℕ → ℕ → List Line
  read_table n k L G r rows scores =
      sizes C n k ∷ level L ∷ limit G ∷ entries (C.symbols * n) r ∷ room (greatest_rows * k) rows ∷ room greatest_rows scores
      ∷ columns C n r ∷ cost_within G (matrix L r) ∷ []
