-- Bytes that are turned into a record: zeros come behind them, and they stand in front of its entries at their cost.
-- Assumes nothing.
use mathlib.Core.List.{List, ◌++◌}
use mathlib.Core.Path.{◌≡◌, sym, ◌∙◌, ap}
use Prim.Native.Nat.{ℕ, ◌+◌, ◌-◌, ◌*◌, ◌≤◌}
use native.Mathlib.Nat.{mul-le-mul_left, min-le_right}
use native.Mathlib.Omega.{arith}
use lib.ListN.{length, take, drop, replicate, length-take}
use lib.Seq.{take_at, take-append-le, length-take-le}
use Rattle.definitions.proofs.Held.{length_filled, filled_front, cost_filled}
use Rattle.definitions.specs.Field.{Code}
use Rattle.definitions.specs.Held.{places, filled}
use Rattle.definitions.specs.Weights.{cost}
use Rattle.turning.proofs.Filled.{zeros_behind}
use Rattle.turning.specs.Turned.{Turned}
use Rattle.matrix.specs.Columns.{FrontCosts}
use Rattle.memory.specs.Laid.{laid}

-- the bytes of n positions have room
pub bytes_within : (C : Code) (n : ℕ) (m : List ℕ) → n ≤ C.positions → length m ≡ C.symbols * n → length m ≤ places C
bytes_within C n m small size = let h : C.symbols * n ≤ places C = mul-le-mul_left C.symbols small in omega arith

-- the first entries are bytes, and zeros are laid behind them up to the last place
pub record Turning (C : Code) (used p : ℕ) (e now : List ℕ) : Type 0 where
  pub each : p ≡ places C
  pub small : used ≤ places C
  pub room : places C ≤ length e
  pub zeros : now ≡ laid e used (replicate (p - used) 0)

module _ {C : Code} {used p : ℕ} {e now : List ℕ} (c : Turning C used p e now) where
  size : length (take used e) ≡ used
  size = let s = c.small in let r = c.room in length-take-le used e (omega arith)

  fill : length (take used e) ≤ places C
  fill = let s = size in let h = c.small in omega arith

  full : length (filled C (take used e)) ≡ p
  full = length_filled C (take used e) fill ∙ sym c.each

  whole : now ≡ filled C (take used e) ++ drop (used + length (replicate {A = ℕ} (p - used) 0)) e
  unfolding laid
  whole =
      let s = size in
      let h = c.small in
      let each = c.each in
      c.zeros
      ∙ ap (λ (zeros : List ℕ). take used e ++ zeros ++ drop (used + length (replicate {A = ℕ} (p - used) 0)) e) (zeros_behind C (take used e) (p - used) (omega arith))

  -- so the bytes are turned into a record
  pub turned : (price : ℕ) → price ≡ cost (take p now) → Turned (take used e) price now
  turned price paid = record {
    paid =
        paid ∙ ap (λ (l : List ℕ). cost (take p l)) whole ∙ ap cost (take_at (filled C (take used e)) _ p full)
        ∙ cost_filled C (take used e) fill;
    front =
        ap (take (length (take used e))) whole
        ∙ take-append-le (length (take used e)) (filled C (take used e)) _ (let f = full in let h = fill in let each = c.each in omega arith)
        ∙ filled_front C (take used e) fill;
  }

-- bytes of n positions
module _ (C : Code) (n : ℕ) {price : ℕ} {m e : List ℕ} (size : length m ≡ C.symbols * n) (t : Turned m price e) where
  -- they stand in front
  pub turned_bytes : take (C.symbols * n) e ≡ m
  turned_bytes = ap (λ (s : ℕ). take s e) (sym size) ∙ t.front

  -- at their cost
  pub turned_costs : FrontCosts C n price e
  turned_costs = record {
    within = (let s = ap length turned_bytes in let l = length-take (C.symbols * n) e in let short = min-le_right (C.symbols * n) (length e) in omega arith);
    paid = t.paid ∙ ap cost (sym turned_bytes);
  }
