-- The program gives document 01's output for its input.
-- Assumes nothing.
use mathlib.Core.List.{List, [], ◌∷◌, ◌++◌, map, flatten, flat_map}
use mathlib.Core.Path.{◌≡◌, refl, sym, ◌∙◌, ap, subst}
use Prim.Native.Nat.{ℕ}
use native.Mathlib.Omega.{arith}
use lib.ListN.{length, drop}
use Rattle.definitions.proofs.Table.{accepts}
use Rattle.definitions.specs.Field.{sixteen, power, value, sum_of, double, shifted}
use Rattle.definitions.specs.Limits.{greatest_sum, greatest_rows}
use Rattle.definitions.specs.Tools.{below, sum}
use Rattle.definitions.specs.Weights.{matrix, score}
use Rattle.numbers.specs.Numbers.{numbers_of}
use Rattle.output.proofs.HardWords.{read_accepts, within}
use Rattle.output.proofs.Input.{header}
use Rattle.output.specs.Documented.{input, first_line, second_line, Documented}
use Rattle.output.specs.Program.{list_text, symbols_of_rows, answer_to, header_bytes, output}
use Rattle.starred.proofs.Single.{single_matrix}
use Rattle.starred.proofs.Starred.{lists_differ}
use Rattle.starred.specs.Single.{single, hard_word}
use Rattle.text.proofs.Putting.{puts_front}
use Rattle.text.specs.Text.{decimal_within, listed_line, row_line, refused_line, Puts}

abbrev word : List ℕ
word = 1 ∷ 1 ∷ 1 ∷ []

-- the numbers that are read are the weights of a hard word
numbers_are : single sixteen greatest_sum word ≡ numbers_of (drop header_bytes input)
unfolding single below
numbers_are = refl

-- they are accepted
listed : answer_to sixteen 3 2 1 150 (single sixteen greatest_sum word) ≡ list_text sixteen 3 2 (matrix 1 (single sixteen greatest_sum word))
listed =
    sym (accepts refused_line (list_text sixteen 3 2 (matrix 1 (single sixteen greatest_sum word)))
    (read_accepts word within.0 150 (symbols_of_rows sixteen) greatest_rows (omega arith) (omega arith) (omega arith) (omega arith)))

-- the text of rows, and of the row of that list
abbrev rows_text : List (List ℕ) → List ℕ
rows_text l = listed_line (length l) ++ flatten (map (λ (f : List ℕ). row_line sixteen (score sixteen 3 (hard_word word) f) f) l)

row_text : rows_text ((1 ∷ 0 ∷ []) ∷ []) ≡ first_line ++ second_line
unfolding flatten flat_map decimal_within single below sum power value sum_of double shifted
row_text = refl

gives : output sixteen input ≡ first_line ++ second_line
gives =
    sym (header sixteen input (single sixteen greatest_sum word) 3 2 1 150 (omega arith) refl refl refl refl numbers_are)
    ∙ listed ∙ ap (list_text sixteen 3 2) (single_matrix sixteen 1 word) ∙ ap rows_text lists_differ.0 ∙ row_text

pub documented : Documented
documented = record {
  bytes = refl;
  gives = gives;
  written = λ out after end p. puts_front out after (first_line ++ second_line) end (subst (λ (w : List ℕ). Puts out 0 w end after) gives p);
}
