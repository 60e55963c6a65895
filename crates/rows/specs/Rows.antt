-- Lists of rows that come in, as document 02 takes them in orders 4 and 12: rows of k symbols, row after row, and a score for each.
-- Assumes nothing.
use Rattle.std.specs.Prelude.{Bool, true, false, cond, not, ◌&&◌, List, [], ◌∷◌, ℕ, ◌+◌, ◌-◌, ◌*◌, eqb, ltb, length, get_or}
use Rattle.definitions.specs.Listing.{row_at}
use Rattle.definitions.specs.Refusals.{Line, line}
use Rattle.definitions.specs.Tools.{every}

-- "ordered by f₀, then f₁ and so on, smaller symbol first": f comes before g
unfoldable pub comes_before : List ℕ → List ℕ → Bool
comes_before [] g = false
comes_before (a ∷ f) [] = false
comes_before (a ∷ f) (b ∷ g) = cond (eqb a b) (comes_before f g) (ltb a b)

-- f and g are one message
unfoldable pub same : List ℕ → List ℕ → Bool
same [] [] = true
same [] (b ∷ g) = false
same (a ∷ f) [] = false
same (a ∷ f) (b ∷ g) = eqb a b && same f g

-- "by falling score, equal scores in root order": row i comes before row j
abbrev pub row_before : ℕ → List ℕ → List ℕ → ℕ → ℕ → Bool
row_before k rows scores i j =
    cond (eqb (get_or scores i 0) (get_or scores j 0)) (comes_before (row_at k rows i) (row_at k rows j)) (ltb (get_or scores j 0) (get_or scores i 0))

-- "in list order": each row comes before the next
abbrev pub in_order : ℕ → List ℕ → List ℕ → Bool
in_order k rows scores = every (length scores - 1) (λ (i : ℕ). row_before k rows scores i (i + 1))

-- no row before row j has its message
abbrev pub is_new : ℕ → List ℕ → ℕ → Bool
is_new k rows j = every j (λ (i : ℕ). not (same (row_at k rows i) (row_at k rows j)))

-- "Rows that are not k symbols a score, not in list order, or repeat a message are refusal 3"
abbrev pub is_list : ℕ → List ℕ → List ℕ → Bool
is_list k rows scores = eqb (length rows) (k * length scores) && (in_order k rows scores && every (length scores) (is_new k rows))

abbrev pub list_line : ℕ → List ℕ → List ℕ → Line
list_line k rows scores = line 3 (not (is_list k rows scores))
