-- The part of the memory that is filled has so many entries, each of them 0.
use Rattle.std.proofs.Common.{◌≡◌, ℕ, length, replicate, arith}
use Rattle.std.proofs.lemmas.Grind.{elements}
use Rattle.std.proofs.lemmas.List.{length-replicate}
use Rattle.memory.proofs.Laid.{laid_part}
use Rattle.memory.proofs.clear.Goals as goal

pub returns : goal.returns
returns c =
    let many = c.args.many in
    let size : length (replicate {A = ℕ} many 0) ≡ many = length-replicate many 0 in
    let zeros : c.fill.new.self ≡ replicate many 0 = grind (arith, elements) in
    laid_part _ _ _ _ _ zeros (omega arith)
