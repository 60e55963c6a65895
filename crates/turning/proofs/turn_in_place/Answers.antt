-- The entries with zeros behind them have been counted, and zeros cost nothing.
use Rattle.std.proofs.Common.{arith}
use Rattle.alphabet.specs.Codes.{code_on}
use Rattle.matrix.proofs.Columns.{places_within}
use Rattle.turning.proofs.Turned.{Turning, turned}
use Rattle.turning.proofs.turn_in_place.Goals as goal

pub returns : goal.returns
returns c =
    let a = c.args in
    let most = places_within a.alphabet in
    let turning : Turning (code_on a.alphabet) a.used c.places-places.result a.entries.now c.clear.new.out =
    record { each = c.places-places.ensures; small = c.requires.0; room = omega arith; zeros = c.clear.ensures } in
    turned turning _ c.count.ensures.0
