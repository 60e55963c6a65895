-- Document 02, order 5: what the operations on a matrix record answer, and what the entries do that take one in place of bytes.
-- Assumes nothing.
use Rattle.std.specs.Prelude.{Bool, false, not, ◌||◌, List, [], ◌∷◌, ◌++◌, ◌≡◌, ℕ, ◌-◌, ◌*◌, eqb, leb, ltb, length, get_or}
use Rattle.definitions.specs.Answers.{Answer, refused, counted, costed, Interpolated, rows_onto, scores_onto}
use Rattle.definitions.specs.Bound.{bound}
use Rattle.definitions.specs.Field.{Code}
use Rattle.definitions.specs.Held.{Held, held, places, no_entries, held_of, filled, bytes_of, with_entry, without_column, with_added, rightly}
use Rattle.definitions.specs.Limits.{greatest_level, coefficient_room, greatest_rows}
use Rattle.definitions.specs.Listing.{list_of}
use Rattle.definitions.specs.Refusals.{Line, tried, line, sizes, size, limit, entries, room, entries_of, cost_within}
use Rattle.definitions.specs.Tools.{smallest}
use Rattle.definitions.specs.Weights.{cost}

-- the entry at a place is above 5 in one of the matrices
abbrev pub any_above : List (List ℕ) → ℕ → Bool
any_above [] j = false
any_above (e ∷ es) j = ltb greatest_level (get_or e j 0) || any_above es j

-- "A refusal answers the record that went in, the first of two"
abbrev pub edited : List Line → Held → Held → Held
edited table before after = tried table (λ _ _. before) after

-- an edit answers the cost that the record then holds
abbrev pub edit_answer : List Line → Held → Answer
edit_answer table after = tried table refused (costed after.cost 0)

-- "a position or symbol outside the matrix, or adding records of unequal n is refusal 1"
abbrev pub position : ℕ → ℕ → Line
position n i = line 1 (leb n i)

abbrev pub same_size : ℕ → ℕ → Line
same_size n o = line 1 (not (eqb n o))

module _ (C : Code) where
  abbrev pub symbol : ℕ → Line
  symbol b = line 1 (leb C.symbols b)

  -- "a call that is handed one" whose stored numbers are wrong, "or one with a nonzero entry in an unused column, gives refusal 3"
  abbrev pub stored : Held → Line
  stored h = line 3 (not (rightly C h))

  -- "an entry above 5, going in or coming out, is refusal 5 at the lowest such 16i + b in any matrix that goes in or comes out"
  abbrev pub lowest_above : List (List ℕ) → ℕ
  lowest_above es = smallest (any_above es) (places C)

  abbrev pub in_or_out : List (List ℕ) → Line
  in_or_out es = record { number = 5; given = ltb (lowest_above es) (places C); place = lowest_above es }

  -- "a refused fresh answers an all-zero one with n 2"
  abbrev pub no_matrix : Held
  no_matrix = held_of C 2 (no_entries C)

  abbrev pub fresh_table : ℕ → List Line
  fresh_table n = size C n ∷ []

  abbrev pub fresh_held : ℕ → Held
  fresh_held n = edited (fresh_table n) no_matrix (held_of C n (no_entries C))

  abbrev pub fresh_answer : ℕ → Answer
  fresh_answer n = edit_answer (fresh_table n) (held_of C n (no_entries C))

  -- "one lent as bytes is first turned into it"
  abbrev pub bytes_table : ℕ → List ℕ → List Line
  bytes_table n m = size C n ∷ entries (C.symbols * n) m ∷ entries_of m ∷ []

  abbrev pub bytes_held : ℕ → List ℕ → Held
  bytes_held n m = edited (bytes_table n m) no_matrix (held_of C n (filled C m))

  abbrev pub bytes_answer : ℕ → List ℕ → Answer
  bytes_answer n m = edit_answer (bytes_table n m) (held_of C n (filled C m))

  -- both into the parts of a record that are lent: totals or entries that are not as many as a record has are refusal 3
  abbrev pub lent_table : ℕ → List ℕ → List ℕ → List Line
  lent_table n totals e = size C n ∷ entries C.positions totals ∷ entries (places C) e ∷ []

  abbrev pub lent_fresh_held : ℕ → List ℕ → List ℕ → Held
  lent_fresh_held n totals e = edited (lent_table n totals e) (held n 0 totals e) (held_of C n (no_entries C))

  abbrev pub lent_fresh_answer : ℕ → List ℕ → List ℕ → Answer
  lent_fresh_answer n totals e = edit_answer (lent_table n totals e) (held_of C n (no_entries C))

  abbrev pub lent_bytes_table : ℕ → List ℕ → List ℕ → List ℕ → List Line
  lent_bytes_table n m totals e = lent_table n totals e ++ (entries (C.symbols * n) m ∷ entries_of m ∷ [])

  abbrev pub lent_bytes_held : ℕ → List ℕ → List ℕ → List ℕ → Held
  lent_bytes_held n m totals e = edited (lent_bytes_table n m totals e) (held n 0 totals e) (held_of C n (filled C m))

  abbrev pub lent_bytes_answer : ℕ → List ℕ → List ℕ → List ℕ → Answer
  lent_bytes_answer n m totals e = edit_answer (lent_bytes_table n m totals e) (held_of C n (filled C m))

  -- "set one entry"
  abbrev pub set_table : Held → ℕ → ℕ → ℕ → List Line
  set_table h i b x =
      size C h.n ∷ position h.n i ∷ symbol b ∷ stored h ∷ in_or_out (h.entries ∷ with_entry C h.entries i b x ∷ []) ∷ []

  abbrev pub set_held : Held → ℕ → ℕ → ℕ → Held
  set_held h i b x = edited (set_table h i b x) h (held_of C h.n (with_entry C h.entries i b x))

  abbrev pub set_answer : Held → ℕ → ℕ → ℕ → Answer
  set_answer h i b x = edit_answer (set_table h i b x) (held_of C h.n (with_entry C h.entries i b x))

  -- "clear a column"
  abbrev pub clear_table : Held → ℕ → List Line
  clear_table h i =
      size C h.n ∷ position h.n i ∷ stored h ∷ in_or_out (h.entries ∷ without_column C h.entries i ∷ []) ∷ []

  abbrev pub clear_held : Held → ℕ → Held
  clear_held h i = edited (clear_table h i) h (held_of C h.n (without_column C h.entries i))

  abbrev pub clear_answer : Held → ℕ → Answer
  clear_answer h i = edit_answer (clear_table h i) (held_of C h.n (without_column C h.entries i))

  -- "add another matrix entry by entry"
  abbrev pub add_table : Held → Held → List Line
  add_table h o =
      size C h.n ∷ same_size h.n o.n ∷ stored h ∷ stored o
      ∷ in_or_out (h.entries ∷ o.entries ∷ with_added h.entries o.entries ∷ []) ∷ []

  abbrev pub add_held : Held → Held → Held
  add_held h o = edited (add_table h o) h (held_of C h.n (with_added h.entries o.entries))

  abbrev pub add_answer : Held → Held → Answer
  add_answer h o = edit_answer (add_table h o) (held_of C h.n (with_added h.entries o.entries))

  -- "Every function that takes a matrix takes the new record": cost and bound, interpolation and the list, as of its bytes
  abbrev pub held_cost_table : Held → ℕ → List Line
  held_cost_table h k = sizes C h.n k ∷ stored h ∷ entries_of h.entries ∷ []

  abbrev pub held_cost_answer : Held → ℕ → Answer
  held_cost_answer h k =
      tried (held_cost_table h k) refused (costed (cost (bytes_of C h)) (bound (k - 1) (cost (bytes_of C h))))

  abbrev pub held_interpolation_table : Held → ℕ → ℕ → ℕ → List Line
  held_interpolation_table h k G out =
      sizes C h.n k ∷ limit G ∷ stored h ∷ room coefficient_room out ∷ entries_of h.entries ∷ cost_within G (bytes_of C h) ∷ []

  abbrev pub HeldInterpolationAnswers : Held → ℕ → ℕ → List ℕ → Answer → List ℕ → Type 0
  HeldInterpolationAnswers h k G out answer after =
      tried (held_interpolation_table h k G (length out)) (λ number place. (answer ≡ refused number place) × (after ≡ out))
      (Interpolated C h.n k (bytes_of C h) out answer after)

  abbrev pub held_list_table : Held → ℕ → ℕ → ℕ → ℕ → List Line
  held_list_table h k G rows scores =
      sizes C h.n k ∷ limit G ∷ stored h ∷ room (greatest_rows * k) rows ∷ room greatest_rows scores ∷ entries_of h.entries
      ∷ cost_within G (bytes_of C h) ∷ []

  abbrev pub held_list_answer : Held → ℕ → ℕ → List ℕ → List ℕ → Answer
  held_list_answer h k G rows scores =
      tried (held_list_table h k G (length rows) (length scores)) refused (counted (length (list_of C h.n k (bytes_of C h))))

  abbrev pub held_list_rows : Held → ℕ → ℕ → List ℕ → List ℕ → List ℕ
  held_list_rows h k G rows scores =
      tried (held_list_table h k G (length rows) (length scores)) (λ _ _. rows) (rows_onto k (list_of C h.n k (bytes_of C h)) rows)

  abbrev pub held_list_scores : Held → ℕ → ℕ → List ℕ → List ℕ → List ℕ
  held_list_scores h k G rows scores =
      tried (held_list_table h k G (length rows) (length scores)) (λ _ _. scores)
      (scores_onto C h.n (bytes_of C h) (list_of C h.n k (bytes_of C h)) scores)
