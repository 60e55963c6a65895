-- What the list of a proposal answers and leaves: by each of the lines that are left, and where it lists.
-- Assumes nothing.
use mathlib.Core.Bool.{true, false, not}
use mathlib.Core.List.{List}
use mathlib.Core.Path.{◌≡◌, ap}
use Prim.Native.Nat.{ℕ, ◌-◌, ◌≤◌, ◌<◌}
use native.Mathlib.Omega.{arith}
use borrow.Author.Tests.{lt-ltb, le-ltb}
use Rattle.definitions.proofs.Table.{Gives, stop, pass, gives}
use Rattle.definitions.specs.Answers.{refused, counted}
use Rattle.definitions.specs.Bound.{bound}
use Rattle.definitions.specs.Field.{Code}
use Rattle.definitions.specs.Listing.{list_of}
use Rattle.definitions.specs.Proposals.{is_yes, within_bound, proposed}
use Rattle.definitions.specs.Refusals.{cost_within}
use Rattle.definitions.specs.Weights.{cost}
use Rattle.list_within.proofs.Answers.{listed}
use Rattle.list_within.specs.Within.{Lists, Answered}
use Rattle.proposal_within.proofs.Answers.{lines_passed}
use Rattle.proposal_within.specs.Lines.{list_lines}

module _ (C : Code) (n k G D : ℕ) (q m rows scores : List ℕ) (cheap : cost m ≤ G) where
  -- a line is given: its refusal is answered, and no memory has changed
  refused_at_lem : {number place : ℕ} → Gives (list_lines C n k G D q m) number place
      → Answered C (list_lines C n k G D q m) n k m rows scores (refused number place) rows scores
  refused_at_lem g = (gives refused _ g, (gives (λ _ _. rows) _ g, (gives (λ _ _. scores) _ g, omega arith)))

  paid : (cost_within G m).given ≡ false
  paid = le-ltb G (cost m) cheap

  -- "a D above the bound"
  pub refused_by_degree : bound (k - 1) (cost m) < D → Answered C (list_lines C n k G D q m) n k m rows scores (refused 2 0) rows scores
  refused_by_degree h =
      refused_at_lem (pass {l = cost_within G m} paid (stop {l = within_bound (k - 1) m D} (lt-ltb (bound (k - 1) (cost m)) D h)))

  module _ (within : D ≤ bound (k - 1) (cost m)) where
    low : (within_bound (k - 1) m D).given ≡ false
    low = le-ltb (bound (k - 1) (cost m)) D within

    -- "a no"
    pub refused_by_proposal : is_yes C n (k - 1) D m q ≡ false → Answered C (list_lines C n k G D q m) n k m rows scores (refused 10 0) rows scores
    refused_by_proposal e =
        refused_at_lem (pass {l = cost_within G m} paid (pass {l = within_bound (k - 1) m D} low (stop {l = proposed C n (k - 1) D m q} (ap not e))))

    -- a yes
    pub listed_by_proposal : is_yes C n (k - 1) D m q ≡ true → {count : ℕ} {rows_after scores_after : List ℕ}
        → Lists C n k m (list_of C n k m) rows scores count rows_after scores_after
        → Answered C (list_lines C n k G D q m) n k m rows scores (counted count) rows_after scores_after
    listed_by_proposal e w = listed C n k m rows scores (lines_passed C n k G D q m cheap within e) _ _ _ w
