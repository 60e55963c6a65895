-- The laws of proposals hold over any code that carries a field. What the calls leave is shown once, of bytes and of a record: their tables
-- differ only in what they look at to tell that a matrix is whole and that its entries are low.
-- Assumes nothing.
use mathlib.Core.Bool.{Bool, true, false, not, cond}
use mathlib.Core.List.{List, [], ◌∷◌, ◌++◌}
use mathlib.Core.Logic.{◌≢◌}
use mathlib.Core.Path.{◌≡◌, refl, sym, ◌∙◌, ap, subst}
use Prim.Native.Nat.{ℕ, ◌-◌, ◌*◌, ◌≤◌, ◌<◌}
use native.Mathlib.Omega.{arith}
use borrow.Author.Tests.{lt-ltb, le-ltb, eq-eqb, not-false}
use lib.Dec.{eqb}
use lib.ListN.{length}
use Rattle.algebra.proofs.Complete.{roots_hold_high_scores}
use Rattle.algebra.proofs.Elements.{zero_symbol}
use Rattle.algebra.specs.FieldOf.{FieldOf}
use Rattle.audit.specs.Proposals.{list_from, Left, left, CheckLaws, ListLaws, ProposalLaws}
use Rattle.definitions.proofs.Powers.{coefficients_fit}
use Rattle.definitions.proofs.Proposals.{within_means, yes_means, yes_of, no_of_zeros}
use Rattle.definitions.proofs.Table.{Gives, stop, pass, gives, Accepts, next, end, accepts, both_accept, or, last, whatever, passed_front, zero_accepts}
use Rattle.definitions.proofs.Table.{sizes_mean, limit_means, cost_means, symbols_mean, symbols_pass}
use Rattle.definitions.proofs.Tools.{split}
use Rattle.definitions.specs.Answers.{Answer, refused, valued, counted, rows_onto, scores_onto}
use Rattle.definitions.specs.Bound.{count, bound}
use Rattle.definitions.specs.Code.{Symbols}
use Rattle.definitions.specs.Field.{Code}
use Rattle.definitions.specs.Held.{bytes_of, rightly}
use Rattle.definitions.specs.Limits.{greatest_count, coefficient_room, greatest_rows}
use Rattle.definitions.specs.Listing.{falling_onto, list_of}
use Rattle.definitions.specs.Polynomial.{Interpolates}
use Rattle.definitions.specs.Proposals.{is_yes, within_bound, proposed}
use Rattle.definitions.specs.Refusals.{Line, tried, line, sizes, limit, degree, entries, room, entries_of, symbols, runs_on, cost_within}
use Rattle.definitions.specs.Weights.{cost, score}

-- ---- the answer of a check

-- a refusal has the value 0, so what has the value 1 is accepted
one_accepted : (table : List Line) (x : ℕ) → (tried table refused (valued x)).value ≡ 1 → x ≡ 1
one_accepted [] x e = e
one_accepted (l ∷ table) x e =
    split l.given (λ g. let z : ◌≡◌ {A = ℕ} 0 1 = rw g at e in omega arith) (λ g. one_accepted table x (rw g at e))

-- yes is 1, no is 0
is_yes_lem : (b : Bool) → ◌≡◌ {A = ℕ} (cond b 1 0) 1 → b ≡ true
is_yes_lem true e = refl
is_yes_lem false e = let z : ⊥ = omega arith in absurd z

is_no : (b : Bool) → ◌≡◌ {A = ℕ} (cond b 1 0) 0 → b ≡ false
is_no true e = let z : ⊥ = omega arith in absurd z
is_no false e = refl

-- ---- tables one behind the other

accepts_joined : (front rest : List Line) → Accepts front → Accepts rest → Accepts (front ++ rest)
accepts_joined [] rest end b = b
accepts_joined (l ∷ front) rest (next e a) b = next e (accepts_joined front rest a b)

gives_behind : (front rest : List Line) {number place : ℕ} → Accepts front → Gives rest number place → Gives (front ++ rest) number place
gives_behind [] rest end g = g
gives_behind (l ∷ front) rest (next e a) g = pass e (gives_behind front rest a g)

-- ---- over a code that carries a field

-- what is refused for sizes, degree, lengths and symbols
abbrev Low : Answer → Type 0
Low a = (a.number ≤ 5) × (a.number ≢ 4)

module _ (C : Code) (F : FieldOf C) where
  own_yes : (n v D : ℕ) (m q : List ℕ) → Interpolates C n v D m q → is_yes C n v D m q ≡ true
  own_yes n v D m q own = yes_of C v D q n m own.nonzero own.through

  row_for_row : (n k D : ℕ) (m q : List ℕ) → 1 ≤ k → n ≤ C.positions → Symbols C q → is_yes C n (k - 1) D m q ≡ true → D ≤ bound (k - 1) (cost m)
      → list_from C n k D m q ≡ list_of C n k m
  row_for_row n k D m q some few symbol e within =
      ap (falling_onto (score C n m) [])
      (roots_hold_high_scores C F n k D (bound (k - 1) (cost m)) m q some few symbol (yes_means C (k - 1) D q n m e).1 within)

  -- `wrong` tells that the matrix is not whole, and `low` are the entries that are looked at: m is lent as bytes, or held in a record
  module _ (n k D : ℕ) (m q : List ℕ) (wrong : Bool) (low : List ℕ) where
    abbrev check_lines : List Line
    check_lines =
        sizes C n k ∷ degree (k - 1) D ∷ entries (count (k - 1) D) q ∷ line 3 wrong ∷ entries_of low ∷ runs_on (C.symbols * n) (symbols C q) ∷ []

    abbrev yes_test : Bool
    yes_test = is_yes C n (k - 1) D m q

    abbrev check : Answer
    check = tried check_lines refused (valued (cond yes_test 1 0))

    check_accepts : check.number ≡ 0 → Accepts check_lines
    check_accepts zero = zero_accepts check_lines (valued (cond yes_test 1 0)) refl zero

    -- the value is the test's
    says : {b : Bool} → Accepts check_lines → yes_test ≡ b → check ≡ valued (cond b 1 0)
    says a e = sym (accepts refused (valued (cond yes_test 1 0)) a) ∙ ap (λ (x : Bool). valued (cond x 1 0)) e

    check_laws : CheckLaws C n k D m q check
    check_laws = record {
      answer_yes = λ one. is_yes_lem yes_test (one_accepted check_lines (cond yes_test 1 0) one);
      answer_no = λ zero none. is_no yes_test (sym (ap (λ (a : Answer). a.value) (says (check_accepts zero) refl)) ∙ none);
      yes_answered = λ zero e. says (check_accepts zero) e;
      no_answered = λ zero e. says (check_accepts zero) e;
      zeros_answered = λ zero e. says (check_accepts zero) (sym (no_of_zeros C (k - 1) D q n m e));
      never = whatever Low refused (valued (cond yes_test 1 0)) check_lines
          (or (λ _. (omega arith, λ e. omega arith)) (λ _.
          or (λ _. (omega arith, λ e. omega arith)) (λ _.
          or (λ _. (omega arith, λ e. omega arith)) (λ _.
          or (λ _. (omega arith, λ e. omega arith)) (λ _.
          or (λ _. (omega arith, λ e. omega arith)) (λ _.
          or (λ _. (omega arith, λ e. omega arith)) (λ _. last (omega arith, λ e. omega arith))))))));
    }

    -- ---- what the calls that list leave

    module _ (G : ℕ) (rows scores : List ℕ) where
      abbrev listed : List (List ℕ)
      listed = list_of C n k m

      abbrev left_by : List Line → Left
      left_by table =
          left (tried table refused (counted (length listed))) (tried table (λ _ _. rows) (rows_onto k listed rows))
          (tried table (λ _ _. scores) (scores_onto C n m listed scores))

      left_alike : {a b : Answer} {r s x y : List ℕ} → a ≡ b → r ≡ s → x ≡ y → left a r x ≡ left b s y
      left_alike {b} {r} {s} {x} e f g = ap (λ a. left a r x) e ∙ ap (λ t. left b t x) f ∙ ap (left b s) g

      both_left : {table other : List Line} → Accepts table → Accepts other → left_by table ≡ left_by other
      both_left a b = left_alike (both_accept refused _ a b) (both_accept (λ _ _. rows) _ a b) (both_accept (λ _ _. scores) _ a b)

      refused_left : {table : List Line} {number place : ℕ} → Gives table number place → left_by table ≡ left (refused number place) rows scores
      refused_left g = sym (left_alike (gives refused _ g) (gives (λ _ _. rows) _ g) (gives (λ _ _. scores) _ g))

      -- the lines of our list, and those of the list of a proposal
      abbrev our_front : List Line
      our_front = sizes C n k ∷ limit G ∷ line 3 wrong ∷ room (greatest_rows * k) (length rows) ∷ room greatest_rows (length scores) ∷ entries_of low ∷ []

      abbrev their_front : List Line
      their_front =
          sizes C n k ∷ limit G ∷ degree (k - 1) D ∷ entries (count (k - 1) D) q ∷ line 3 wrong ∷ room (greatest_rows * k) (length rows)
          ∷ room greatest_rows (length scores) ∷ entries_of low ∷ runs_on (C.symbols * n) (symbols C q) ∷ []

      abbrev our_lines : List Line
      our_lines = our_front ++ (cost_within G m ∷ [])

      abbrev last_lines : List Line
      last_lines = cost_within G m ∷ within_bound (k - 1) m D ∷ proposed C n (k - 1) D m q ∷ []

      abbrev their_lines : List Line
      their_lines = their_front ++ last_lines

      -- what passes the check's lines and our list's passes those of the list of a proposal, up to the cost
      front : Accepts check_lines → Accepts our_front → Accepts their_front
      front (next sized (next few (next full (next whole (next l (next symbol end)))))) (next _ (next g (next _ (next r (next s (next _ end)))))) =
          next sized (next g (next few (next full (next whole (next r (next s (next l (next symbol end))))))))

      ours_accepts : (left_by our_lines).answer.number ≡ 0 → Accepts our_front × ((cost_within G m).given ≡ false)
      ours_accepts zero = apart (zero_accepts our_lines (counted (length listed)) refl zero)
        where
          apart : Accepts our_lines → Accepts our_front × ((cost_within G m).given ≡ false)
          apart (next sized (next g (next whole (next r (next s (next l (next paid end))))))) =
              (next sized (next g (next whole (next r (next s (next l end))))), paid)

      -- what is taken is listed, is a yes, and has its degree within the bound
      module _ (zero : (left_by their_lines).answer.number ≡ 0) where
        taken_accepts : Accepts their_lines
        taken_accepts = zero_accepts their_lines (counted (length listed)) refl zero

        taken : left_by their_lines ≡ left_by our_lines
        taken = both_left taken_accepts (too taken_accepts)
          where
            too : Accepts their_lines → Accepts our_lines
            too (next sized (next g (next few (next full (next whole (next r (next s (next l (next symbol (next paid rest)))))))))) =
                next sized (next g (next whole (next r (next s (next l (next paid end))))))

        taken_is_yes : (yes_test ≡ true) × (D ≤ bound (k - 1) (cost m))
        taken_is_yes = told taken_accepts
          where
            told : Accepts their_lines → (yes_test ≡ true) × (D ≤ bound (k - 1) (cost m))
            told (next sized (next g (next few (next full (next whole (next r (next s (next l (next symbol (next paid (next within (next y end)))))))))))) =
                (not-false yes_test y, within_means (k - 1) m D within)

        taken_from_roots : list_from C n k D m q ≡ listed
        taken_from_roots = fits taken_accepts
          where
            fits : Accepts their_lines → list_from C n k D m q ≡ listed
            fits (next sized (next g (next few (next full (next whole (next r (next s (next l (next symbol rest))))))))) =
                let z = sizes_mean C n k sized in
                row_for_row n k D m q (omega arith) z.2 (symbols_mean C (zero_symbol C F) q symbol) taken_is_yes.0 taken_is_yes.1

      -- where the check is answered, and our list goes as far as the cost, the last three lines decide
      refused_behind : {number place : ℕ} → check.number ≡ 0 → Accepts our_front → Gives last_lines number place
          → left_by their_lines ≡ left (refused number place) rows scores
      refused_behind answered a g = refused_left (gives_behind their_front last_lines (front (check_accepts answered) a) g)

      cost_before : check.number ≡ 0 → (left_by our_lines).answer.number ≡ 7 → left_by their_lines ≡ left (refused 7 0) rows scores
      cost_before answered seven =
          let (a, rest) = passed_front 7 our_front (cost_within G m ∷ []) (counted (length listed)) refl seven in
          refused_behind answered a (stop {l = cost_within G m} (split (cost_within G m).given (λ dear. dear) (λ paid.
          let other : ◌≡◌ {A = ℕ} 0 7 = rw paid at rest in
          let z : ⊥ = omega arith in absurd z)))

      module _ (answered : check.number ≡ 0) (zero : (left_by our_lines).answer.number ≡ 0) where
        passed : Accepts our_front
        passed = (ours_accepts zero).0

        paid : (cost_within G m).given ≡ false
        paid = (ours_accepts zero).1

        above_bound : bound (k - 1) (cost m) < D → left_by their_lines ≡ left (refused 2 0) rows scores
        above_bound above = refused_behind answered passed (pass {l = cost_within G m} paid (stop {l = within_bound (k - 1) m D} (lt-ltb (bound (k - 1) (cost m)) D above)))

        low_degree : D ≤ bound (k - 1) (cost m) → (within_bound (k - 1) m D).given ≡ false
        low_degree within = le-ltb (bound (k - 1) (cost m)) D within

        no_refused : D ≤ bound (k - 1) (cost m) → yes_test ≡ false → left_by their_lines ≡ left (refused 10 0) rows scores
        no_refused within e =
            let given = stop {l = proposed C n (k - 1) D m q} (ap not e) in
            refused_behind answered passed (pass {l = cost_within G m} paid (pass {l = within_bound (k - 1) m D} (low_degree within) given))

        yes_taken : D ≤ bound (k - 1) (cost m) → yes_test ≡ true → left_by their_lines ≡ left_by our_lines
        yes_taken within e =
            let passes = next paid (next (low_degree within) (next (ap not e) end)) in
            both_left (accepts_joined their_front last_lines (front (check_accepts answered) passed) passes)
            (accepts_joined our_front (cost_within G m ∷ []) passed (next paid end))

      -- a no alone is refused as 10
      refused_is_no : (left_by their_lines).answer.number ≡ 10 → yes_test ≡ false
      refused_is_no ten =
          let rest = (passed_front 10 (their_front ++ (cost_within G m ∷ within_bound (k - 1) m D ∷ [])) (proposed C n (k - 1) D m q ∷ [])
          (counted (length listed)) refl ten).1 in
          split yes_test (λ y. let other : ◌≡◌ {A = ℕ} 0 10 = rw y at rest in let z : ⊥ = omega arith in absurd z) (λ n. n)

      -- our own polynomial passes the check's lines where our list is given
      module _ (zero : (left_by our_lines).answer.number ≡ 0) (at_bound : D ≡ bound (k - 1) (cost m)) (own : Interpolates C n (k - 1) D m q) where
        own_accepts : Accepts check_lines
        own_accepts = told (ours_accepts zero).0
          where
            told : Accepts our_front → Accepts check_lines
            told (next sized (next g (next whole (next r (next s (next l end)))))) =
                let z = sizes_mean C n k sized in
                let cheap = limit_means G g in
                let paid = cost_means G m (ours_accepts zero).1 in
                let fit = subst (λ (d : ℕ). count (k - 1) d ≤ coefficient_room) (sym at_bound) (coefficients_fit (k - 1) (omega arith) (cost m) (omega arith)) in
                next sized
                (next (le-ltb greatest_count (count (k - 1) D) (omega arith))
                (next (ap not (eq-eqb (length q) (count (k - 1) D) own.size)) (next whole (next l (next (symbols_pass C q own.symbols) end)))))

        own_checked : check ≡ valued 1
        own_checked = says own_accepts (own_yes n (k - 1) D m q own)

        own_listed : left_by their_lines ≡ left_by our_lines
        own_listed = yes_taken (ap (λ (a : Answer). a.number) own_checked) zero (omega arith) (own_yes n (k - 1) D m q own)

      list_laws : ListLaws C n k D m q rows scores check (left_by our_lines) (left_by their_lines)
      list_laws = record {
        taken = taken;
        taken_is_yes = taken_is_yes;
        taken_from_roots = taken_from_roots;
        yes_taken = λ answered zero within e. yes_taken answered zero within e;
        above_bound = λ answered zero above. above_bound answered zero above;
        cost_before = λ answered seven. cost_before answered seven;
        refused_is_no = refused_is_no;
        no_refused = λ answered zero within e. no_refused answered zero within e;
        own_checked = λ zero at_bound own. own_checked zero at_bound own;
        own_listed = λ zero at_bound own. own_listed zero at_bound own;
      }

  pub proposal_laws : ProposalLaws C
  proposal_laws = record {
    yes_means = λ n v D m q. yes_means C v D q n m;
    yes_of = λ n v D m q. yes_of C v D q n m;
    own_yes = own_yes;
    checked = λ n k D m q. check_laws n k D m q (not (eqb (length m) (C.symbols * n))) m;
    held_checked = λ h k D q. check_laws h.n k D (bytes_of C h) q (not (rightly C h)) h.entries;
    row_for_row = row_for_row;
    listed = λ n k G D m q rows scores. list_laws n k D m q (not (eqb (length m) (C.symbols * n))) m G rows scores;
    held_listed = λ h k G D q rows scores. list_laws h.n k D (bytes_of C h) q (not (rightly C h)) h.entries G rows scores;
  }
