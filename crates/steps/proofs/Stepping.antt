-- The steps of the planner's loops, over plain numbers and lists.
-- Assumes nothing.
use mathlib.Core.Bool.{Bool, true, false}
use mathlib.Core.List.{List}
use mathlib.Core.Path.{◌≡◌, sym, ◌∙◌, ap}
use Prim.Native.Nat.{ℕ, suc, ◌+◌, ◌-◌, ◌*◌, ◌/◌, ◌≤◌, ◌<◌}
use native.Mathlib.Nat.{mul_comm, div-add-mod, div-lt_iff_lt-mul, mod-lt}
use native.Mathlib.Omega.{arith}
use native.Mathlib.Numerals.{add-one}
use lib.ListN.{length}
use Rattle.definitions.specs.Field.{Code}
use Rattle.definitions.specs.Planning.{stops, step, plan, steps_done}
use Rattle.plans.proofs.Planning.{stays, plan_suc, length_plan, plan_stays, done_more, done_after}
use Rattle.steps.specs.Entries.{Weights, Columns}

-- the plan of s steps, all of them done, and what the next step leaves of it
module _ (r : List ℕ) (s : ℕ) (m after : List ℕ) (stop : Bool) (is_plan_lem : m ≡ plan r s) (all : steps_done r s ≡ s) (says : stop ≡ stops r m)
    (left : after ≡ step r m) where
  pub plan_more : stop ≡ false → (after ≡ plan r (s + 1)) × (steps_done r (s + 1) ≡ s + 1)
  plan_more e =
      let goes : stops r (plan r s) ≡ false = ap (stops r) (sym is_plan_lem) ∙ sym says ∙ e in
      rw (add-one s) (left ∙ ap (step r) is_plan_lem ∙ sym (plan_suc r s), done_more r s goes ∙ ap suc all)

  pub plan_stopped : stop ≡ true → (steps : ℕ) → s ≤ steps → (s ≡ steps_done r steps) × (after ≡ plan r steps)
  plan_stopped e steps h =
      let stands : stops r (plan r s) ≡ true = ap (stops r) (sym is_plan_lem) ∙ sym says ∙ e in
      let rest : s + (steps - s) ≡ steps = omega arith in (
        sym all ∙ sym (done_after r s stands (steps - s)) ∙ ap (steps_done r) rest,
        left ∙ ap (step r) is_plan_lem ∙ stays r (plan r s) stands ∙ sym (plan_stays r s stands (steps - s)) ∙ ap (plan r) rest,
      )

-- the plan beside its reliabilities
pub beside_plan : (C : Code) (n s : ℕ) (r m : List ℕ) → Weights C n r → m ≡ plan r s → Columns C n r m
beside_plan C n s r m w is = record { weights = w; as_many = ap length is ∙ length_plan r s }

-- a place lies in the column of its quotient
pub column_of_lem : (C : Code) (q n b : ℕ) → q ≡ C.symbols → 0 < C.symbols → b < C.symbols * n
    → (b / q < n) × (C.symbols * (b / q) ≤ b) × (b < C.symbols * (b / q) + C.symbols)
column_of_lem C q n b e some within =
    let i = b / C.symbols in
    let swapped = mul_comm C.symbols n in
    let whole = div-add-mod b C.symbols in
    let rest = mod-lt b some in
    rw e ((div-lt_iff_lt-mul {k = C.symbols} {x = b} {y = n} some).1 (omega arith), omega arith, omega arith)
