-- No more of the input is answered than its alphabet needs: a longer one is answered as its beginning is.
use Rattle.std.proofs.Common.{◌≡◌, ℕ, List, arith, take, subst}
use Rattle.alphabet.proofs.Sizes.{sized}
use Rattle.alphabet.specs.Codes.{code_on}
use Rattle.output.proofs.Input.{beginning}
use Rattle.output.specs.Program.{output}
use Rattle.text.proofs.Putting.{puts_within}
use Rattle.text.specs.Text.{Puts}
use Rattle.output.proofs.write.Goals as goal

-- The input is longer than what is answered: its beginning has one number too many already, and the
-- same output.
pub returns-then-most-input-clause-text : goal.returns-then-most-input-clause-text
returns-then-most-input-clause-text c =
    let a = c.args in
    let C = code_on a.alphabet in
    let some = (sized a.alphabet).least in
    let most = c.longest-most in
    let put = c.answer_to in
    subst (λ (words : List ℕ). Puts a.out.now 0 words put.result put.new.out) (beginning C (omega arith) most.result most.ensures a.input.now (omega arith)) put.ensures

-- What was put lies in front of the memory.
pub returns-then-most-input-clause-within : goal.returns-then-most-input-clause-within
returns-then-most-input-clause-within c =
    let a = c.args in
    let put = c.answer_to in
    puts_within a.out.now put.new.out (output (code_on a.alphabet) (take c.longest-most.result a.input.now)) 0 put.result (omega arith) put.ensures

-- The same of an input that is not longer, which is answered whole.
pub returns-clause-within : goal.returns-clause-within
returns-clause-within c =
    let a = c.args in
    let put = c.answer_to-2 in
    puts_within a.out.now put.new.out (output (code_on a.alphabet) a.input.now) 0 put.result (omega arith) put.ensures
