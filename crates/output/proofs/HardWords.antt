-- The hard words 1,1,1 and 1,1,2: what the calls for a list leave, from their lists.
-- Assumes nothing.
use mathlib.Core.Bool.{false, not}
use mathlib.Core.List.{List, [], ◌∷◌, flatten}
use mathlib.Core.Path.{◌≡◌, refl, sym, ◌∙◌, ap}
use Prim.Native.Nat.{ℕ, ◌*◌, ◌≤◌}
use native.Mathlib.Omega.{arith}
use borrow.Author.Tests.{le-ltb, eq-eqb}
use lib.ListN.{length, drop}
use Rattle.audit.proofs.Clean.{word_taken}
use Rattle.definitions.proofs.Table.{Accepts, end, next, accepts}
use Rattle.definitions.specs.Answers.{refused, counted, rows_onto, scores_onto}
use Rattle.definitions.specs.Field.{sixteen, power, value, sum_of, double, shifted}
use Rattle.definitions.specs.Limits.{greatest_sum, greatest_limit, greatest_rows}
use Rattle.definitions.specs.Listing.{list_of}
use Rattle.definitions.specs.Refusals.{Line, tried, entries_of, first_above, list_table, read_table}
use Rattle.definitions.specs.Tools.{below, sum}
use Rattle.definitions.specs.Weights.{matrix, cost}
use Rattle.output.specs.HardWords.{Left, Both, HardWords}
use Rattle.starred.proofs.Single.{length_single, single_matrix}
use Rattle.starred.proofs.Starred.{lists_differ}
use Rattle.starred.specs.Single.{single, hard_word}

-- what a call leaves by its table and its matrix; and where the table accepts the call and the list is known
module _ (n k : ℕ) (rows scores : List ℕ) where
  abbrev left_by : List Line → List ℕ → Left
  left_by table m = (
    tried table refused (counted (length (list_of sixteen n k m))),
    tried table (λ _ _. rows) (rows_onto k (list_of sixteen n k m) rows),
    tried table (λ _ _. scores) (scores_onto sixteen n m (list_of sixteen n k m) scores),
  )

  abbrev left_of : List ℕ → List (List ℕ) → Left
  left_of m l = (counted (length l), rows_onto k l rows, scores_onto sixteen n m l scores)

  leaves : (table : List Line) → Accepts table → (m : List ℕ) (l : List (List ℕ)) → list_of sixteen n k m ≡ l → left_by table m ≡ left_of m l
  leaves table a m l known =
      let all = list_of sixteen n k m in
      rw (sym (accepts refused (counted (length all)) a), sym (accepts (λ _ _. rows) (rows_onto k all rows) a), sym (accepts (λ _ _. scores) (scores_onto sixteen n m all scores) a))
      (ap (left_of m) known)

-- a word of three symbols with multiplicities and cost that no line of a table refuses
abbrev Within : List ℕ → Type 0
Within word = (length word ≡ 3) × ((entries_of (hard_word word)).given ≡ false) × (cost (hard_word word) ≡ 3)

module _ (word : List ℕ) (within : Within word) where
  stated : (w : ℕ) → length (single sixteen w word) ≡ sixteen.symbols * 3
  stated w = length_single sixteen w word ∙ ap (λ (n : ℕ). sixteen.symbols * n) within.0

  -- so both calls are accepted
  module _ (G rows scores : ℕ) (least : 3 ≤ G) (most : G ≤ greatest_limit) (room_rows : greatest_rows * 2 ≤ rows) (room_scores : greatest_rows ≤ scores) where
    pub read_accepts : Accepts (read_table sixteen 3 2 1 G (single sixteen greatest_sum word) rows scores)
    read_accepts =
        let price : cost (matrix 1 (single sixteen greatest_sum word)) ≡ 3 = ap cost (single_matrix sixteen 1 word) ∙ within.2 in
        word_taken sixteen 3 word within.0 2 1 G rows scores (omega arith, omega arith, omega arith) (omega arith, omega arith) most room_rows room_scores (omega arith)

    list_accepts : Accepts (list_table sixteen 3 2 G (hard_word word) rows scores)
    list_accepts =
        let price : cost (hard_word word) ≡ 3 = within.2 in
        next refl (next (le-ltb greatest_limit G most) (next (ap not (eq-eqb (length (hard_word word)) (sixteen.symbols * 3) (stated 1)))
        (next (le-ltb rows (greatest_rows * 2) room_rows) (next (le-ltb scores greatest_rows room_scores)
        (next within.1 (next (le-ltb G (cost (hard_word word)) (omega arith)) end))))))

  -- and leave what its list makes of the memory
  both : (l : List (List ℕ)) (left : List ℕ → List ℕ → Left) → list_of sixteen 3 2 (hard_word word) ≡ l
      → ((rows scores : List ℕ) → left_of 3 2 rows scores (hard_word word) l ≡ left rows scores) → Both word left
  both l left known made G rows scores least most room_rows room_scores =
      let read = read_table sixteen 3 2 1 G (single sixteen greatest_sum word) (length rows) (length scores) in
      let listed = list_table sixteen 3 2 G (hard_word word) (length rows) (length scores) in (
        ap (left_by 3 2 rows scores read) (single_matrix sixteen 1 word)
            ∙ leaves 3 2 rows scores read (read_accepts G (length rows) (length scores) least most room_rows room_scores) (hard_word word) l known ∙ made rows scores,
        leaves 3 2 rows scores listed (list_accepts G (length rows) (length scores) least most room_rows room_scores) (hard_word word) l known ∙ made rows scores,
      )

pub within : Within (1 ∷ 1 ∷ 1 ∷ []) × Within (1 ∷ 1 ∷ 2 ∷ [])
unfolding single below sum first_above
within = ((refl, refl, refl), (refl, refl, refl))

one_row : (rows scores : List ℕ) → left_of 3 2 rows scores (hard_word (1 ∷ 1 ∷ 1 ∷ [])) ((1 ∷ 0 ∷ []) ∷ []) ≡ (counted 1, 1 ∷ 0 ∷ drop 2 rows, 3 ∷ drop 1 scores)
unfolding flatten single below sum power value sum_of double shifted
one_row rows scores = refl

no_row : (rows scores : List ℕ) → left_of 3 2 rows scores (hard_word (1 ∷ 1 ∷ 2 ∷ [])) [] ≡ (counted 0, rows, scores)
unfolding flatten
no_row rows scores = refl

pub hard_words : HardWords
hard_words = record {
  of_111 = both (1 ∷ 1 ∷ 1 ∷ []) within.0 ((1 ∷ 0 ∷ []) ∷ []) _ lists_differ.0 one_row;
  of_112 = both (1 ∷ 1 ∷ 2 ∷ []) within.1 [] _ lists_differ.1 no_row;
}
