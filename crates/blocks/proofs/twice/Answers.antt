-- The double is compared with the greatest symbol: this tells whether a bit leaves the symbol, and so
-- whether the modulus is to be added.
use Rattle.std.proofs.Common.{ℕ, ◌*◌, arith, ap, ◌∙◌}
use Rattle.alphabet.proofs.Sizes.{sized}
use Rattle.alphabet.specs.Codes.{modulus_on, positions_on}
use Rattle.definitions.specs.Field.{sum_of}
use Rattle.blocks.proofs.Doubling.{twice_low, twice_high, width_of}
use Rattle.blocks.proofs.twice.Goals as goal

-- No bit leaves: the double is the product.
pub returns-then-double-greatest_symbol : goal.returns-then-double-greatest_symbol
returns-then-double-greatest_symbol c =
    let w = width_of c.args.alphabet in
    let least = (sized c.args.alphabet).least in
    twice_low _ (modulus_on c.args.alphabet) (positions_on c.args.alphabet) w.0 c.args.x (omega arith)

-- A bit leaves: the product is the double with the modulus added.
pub returns : goal.returns
unfolding sum_of
returns c =
    let w = width_of c.args.alphabet in
    let least = (sized c.args.alphabet).least in
    ap (λ (m : ℕ). sum_of (c.args.x * 2) m) c.modulus.ensures
    ∙ twice_high _ (modulus_on c.args.alphabet) (positions_on c.args.alphabet) w.0 c.args.x (omega arith)
