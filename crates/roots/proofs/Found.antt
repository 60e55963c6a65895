-- From the search over the loaded array to the y-roots of document 01: their rows, their number and the room that they take.
-- Assumes nothing.
use mathlib.Core.Bool.{false}
use mathlib.Core.List.{List, [], ◌∷◌, ◌++◌, flatten, Memᴰ}
use mathlib.Core.Path.{◌≡◌, sym, ◌∙◌, ap, ap₂, subst}
use Prim.Native.Nat.{ℕ, ◌+◌, ◌-◌, ◌*◌, ◌/◌, ◌≤◌}
use native.Mathlib.Nat.{mul-le-mul_left}
use native.Mathlib.Omega.{arith}
use lib.ListN.{length, take, drop}
use Rattle.algebra.proofs.Elements.{zero_symbol}
use Rattle.algebra.proofs.Every.{all_members, length_flatten}
use Rattle.algebra.specs.FieldOf.{FieldOf}
use Rattle.definitions.proofs.Joined.{join_nil, join_cons}
use Rattle.definitions.specs.Answers.{rows_onto}
use Rattle.definitions.specs.Bound.{count}
use Rattle.definitions.specs.Code.{Symbols}
use Rattle.definitions.specs.Field.{Code, numbers}
use Rattle.definitions.specs.Limits.{greatest_count}
use Rattle.definitions.specs.Polynomial.{monomials, is_zero}
use Rattle.definitions.specs.Roots.{roots_of}
use Rattle.root_tree.proofs.Arrays.{place_column, length_loaded}
use Rattle.root_tree.proofs.Levels.{search_same, under_strip}
use Rattle.root_tree.proofs.Once.{roots_in_order}
use Rattle.root_tree.proofs.Roots.{length_zeros, loaded_symbols, columns_symbols, under_grid, search_is_roots, roots_at_most}
use Rattle.root_tree.proofs.Search.{strip_symbols}
use Rattle.root_tree.proofs.Size.{array_size}
use Rattle.root_tree.specs.Columns.{loaded}
use Rattle.root_tree.specs.Tree.{zeros, strip, search}
use Rattle.substitution.specs.Array.{places, polynomial, Freed}
use Rattle.memory.proofs.Laid.{laid_front}
use Rattle.memory.specs.Laid.{laid}
use Rattle.roots.specs.Rows.{DegreeWithin, rows_after}
use Rattle.substitution.proofs.Substitution.{zeros_symbols}

-- rows after no prefix
rows_flat : (rows : List (List ℕ)) → rows_after [] rows ≡ flatten rows
unfolding flatten
rows_flat [] = join_nil (λ (f : List ℕ). [] ++ f)
rows_flat (f ∷ rows) = join_cons (λ (f : List ℕ). [] ++ f) f rows ∙ ap (λ (l : List ℕ). f ++ l) (rows_flat rows)

-- rows of k symbols each
rows_length : (k : ℕ) (rows : List (List ℕ)) → ((f : List ℕ) → Memᴰ f rows → length f ≡ k) → length (rows_after [] rows) ≡ k * length rows
rows_length k rows h = ap length (rows_flat rows) ∙ length_flatten k rows (all_members (λ (f : List ℕ). length f ≡ k) rows h)

module _ (D k : ℕ) (two : 2 ≤ k) (small : count (k - 1) D ≤ greatest_count) where
  -- the array holds every accepted polynomial
  pub array_fits : (D + 1) * (D / (k - 1) + 1) ≤ places
  array_fits = let a = array_size (k - 1) D in omega arith

-- the loaded array has as many entries as there are places
pub loaded_length : (C : Code) (D k : ℕ) (q l : List ℕ) → l ≡ loaded (numbers C) (D / (k - 1) + 1) q (monomials (k - 1) D) (zeros places) → length l ≡ places
loaded_length C D k q l el = ap length el ∙ length_loaded (numbers C) (D / (k - 1) + 1) q (monomials (k - 1) D) (zeros places) ∙ length_zeros places

module _ (C : Code) (F : FieldOf C) (D k : ℕ) (q : List ℕ) (two : 2 ≤ k) (small : count (k - 1) D ≤ greatest_count) (full : length q ≡ count (k - 1) D)
    (s : Symbols C q) where
  -- the loaded array
  abbrev start : List ℕ
  start = loaded (numbers C) (D / (k - 1) + 1) q (monomials (k - 1) D) (zeros places)

  module _ (l : List ℕ) (el : l ≡ loaded (numbers C) (D / (k - 1) + 1) q (monomials (k - 1) D) (zeros places)) where
    -- its entries are symbols
    start_symbols : Symbols C start
    start_symbols = loaded_symbols C (D / (k - 1) + 1) q (monomials (k - 1) D) (zeros places) s (zeros_symbols C F places)

    -- also under another name
    pub loaded_are_symbols : Symbols C l
    loaded_are_symbols = subst (Symbols C) (sym el) start_symbols

    module _ (p : List ℕ) (sp : Symbols C p) (fp : Freed C (D / (k - 1) + 1) (D + 1) l p) where
      -- what the search begins with is the loaded array, freed
      freed_start : Freed C (D / (k - 1) + 1) (D + 1) start p
      freed_start = subst (λ (x : List ℕ). Freed C (D / (k - 1) + 1) (D + 1) x p) el fp

      -- its weighted degree is within the array
      pub within : DegreeWithin C (k - 1) D (D / (k - 1) + 1) p
      within a b h =
          freed_start a b
          ∙ under_strip C (k - 1) D (polynomial C (D / (k - 1) + 1) (D + 1) start)
          (under_grid C F places (k - 1) D (omega arith) (array_fits D k two small) q s) a b h

      -- the search finds the roots
      found : search C k (polynomial C (D / (k - 1) + 1) (D + 1) p) ≡ roots_of C D k q
      found =
          search_same C F k (polynomial C (D / (k - 1) + 1) (D + 1) p) (strip (polynomial C (D / (k - 1) + 1) (D + 1) start))
          (columns_symbols C (zero_symbol C F) (D / (k - 1) + 1) (D + 1) p sp)
          (strip_symbols C (polynomial C (D / (k - 1) + 1) (D + 1) start)
          (columns_symbols C (zero_symbol C F) (D / (k - 1) + 1) (D + 1) start start_symbols)) freed_start
          ∙ search_is_roots C F k D two q s places (array_fits D k two small)

      -- each root is a message of k symbols
      row_size : (f : List ℕ) → Memᴰ f (roots_of C D k q) → length f ≡ k
      row_size f m = (roots_in_order C F D k q).sized f m

      module _ (row : List ℕ) where
        -- the rows that the search writes
        rows_found : rows_after (take (k - k) row) (search C k (polynomial C (D / (k - 1) + 1) (D + 1) p)) ≡ rows_after [] (roots_of C D k q)
        rows_found = let e : k - k ≡ 0 = omega arith in ap₂ (λ (n : ℕ) (r : List (List ℕ)). rows_after (take n row) r) e found

        -- k entries for each root
        rows_number : length (rows_after (take (k - k) row) (search C k (polynomial C (D / (k - 1) + 1) (D + 1) p))) ≡ k * length (roots_of C D k q)
        rows_number = ap length rows_found ∙ rows_length k (roots_of C D k q) row_size

        -- the room of refusal 4 is enough
        pub room_enough : is_zero q ≡ false → (n : ℕ) → k * (D / (k - 1)) ≤ n
            → 0 + length (rows_after (take (k - k) row) (search C k (polynomial C (D / (k - 1) + 1) (D + 1) p))) ≤ n
        room_enough z n h =
            let a = roots_at_most C F k D two q s (omega arith) z in
            let b : k * length (roots_of C D k q) ≤ k * (D / (k - 1)) = mul-le-mul_left k a in
            let c = rows_number in
            omega arith

        -- how many rows there are
        pub rows_counted : (e : ℕ) → e ≡ 0 + length (rows_after (take (k - k) row) (search C k (polynomial C (D / (k - 1) + 1) (D + 1) p)))
            → e / k ≡ length (roots_of C D k q)
        rows_counted e h =
            let n = length (roots_of C D k q) in
            let f = rows_number in
            let g : e ≡ n * k + 0 = omega arith in
            ap (λ (m : ℕ). m / k) g ∙ place_column k n 0 (omega arith)

        -- the rows one after the other, and what lies after them
        pub rows_written : (d r : List ℕ) → r ≡ laid d 0 (rows_after (take (k - k) row) (search C k (polynomial C (D / (k - 1) + 1) (D + 1) p)))
            → r ≡ rows_onto k (roots_of C D k q) d
        rows_written d r h =
            h ∙ laid_front d (rows_after (take (k - k) row) (search C k (polynomial C (D / (k - 1) + 1) (D + 1) p))) (k * length (roots_of C D k q)) rows_number
            ∙ ap (λ (x : List ℕ). x ++ drop (k * length (roots_of C D k q)) d) (rows_found ∙ rows_flat (roots_of C D k q))
