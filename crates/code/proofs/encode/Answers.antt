-- The checks are one chain over the table, as far as they were tried: of what it has come to the laws of chains say what is answered and
-- what out is then.
use Rattle.std.proofs.Common.{◌≡◌, ℕ, ◌≤◌, List, [], ◌++◌, length, drop, Ok, Err, refl, ◌∙◌, rules}
use Rattle.alphabet.specs.Codes.{code_on}
use Rattle.definitions.proofs.Table.{Accepts, next, room_means}
use Rattle.definitions.specs.Answers.{refused, counted, encode_answer, encode_out}
use Rattle.definitions.specs.Code.{codeword}
use Rattle.definitions.specs.Field.{Code}
use Rattle.definitions.specs.Refusals.{encode_table}
use Rattle.refusals.proofs.Chained.{Came, start, ◌▸◌, accepted, answers, stops, goes_on}
use Rattle.refusals.proofs.Outcomes.{line_passed, line_tried}
use Rattle.refusals.specs.Checked.{passed, told_checked}
use Rattle.refusals.specs.Refusal.{told_refusal}
use Rattle.refusals.specs.declared.Refusal.{Refusal}
use Rattle.code.proofs.encode.Goals as goal

module _ (C : Code) (n k : ℕ) (f out : List ℕ) where
  -- a line is given: its refusal is answered, and out is as it was
  refused_by : (r : Refusal) → Came (encode_table C n k f (length out)) [] (told_checked {T = Unit} (Err r))
      → (told_refusal r ≡ encode_answer C n k f out) × (out ≡ encode_out C n k f out)
  refused_by r came = (answers {T = Unit} came [] _ refl, stops {T = Unit} came [] (λ _ _. out) _ refl)

  -- no line is: there is room
  fits : Came (encode_table C n k f (length out)) [] passed → n ≤ length out
  fits came = room_of (accepted {T = Unit} {c = Ok tt} came refl)
    where
      room_of : Accepts (encode_table C n k f (length out)) → n ≤ length out
      room_of (next s (next l (next r later))) = room_means n (length out) r

  -- n is answered, and the codeword stands at the front of out
  done_by : Came (encode_table C n k f (length out)) [] passed → (counted n ≡ encode_answer C n k f out) × (codeword C n f ++ drop n out ≡ encode_out C n k f out)
  done_by came = (goes_on {T = Unit} {c = Ok tt} came [] refused _ refl, goes_on {T = Unit} {c = Ok tt} came [] (λ _ _. out) _ refl)

pub returns-in_err-sizes : goal.returns-in_err-sizes
returns-in_err-sizes c =
    let a = c.args in
    let made = refused_by (code_on a.alphabet) a.n a.k a.message.now a.out.now _ (line_tried {T = Unit} _ (Err _) start c.in_err-sizes.ensures ▸ refl ▸ refl ▸ refl) in
    record { answer = search (rules, made); memory = made.1 }

pub returns-in_err-refuse_if : goal.returns-in_err-refuse_if
returns-in_err-refuse_if c =
    let a = c.args in
    let front = start ▸ line_passed _ c.in_ok-sizes.ensures in
    let made = refused_by (code_on a.alphabet) a.n a.k a.message.now a.out.now _ (line_tried {T = Unit} _ (Err _) front c.in_err-refuse_if.ensures ▸ refl ▸ refl) in
    record { answer = search (rules, made); memory = made.1 }

pub returns-in_err-refuse_if-2 : goal.returns-in_err-refuse_if-2
returns-in_err-refuse_if-2 c =
    let a = c.args in
    let front = start ▸ line_passed _ c.in_ok-sizes.ensures ▸ line_passed _ c.in_ok-refuse_if.ensures in
    let made = refused_by (code_on a.alphabet) a.n a.k a.message.now a.out.now _ (line_tried {T = Unit} _ (Err _) front c.in_err-refuse_if-2.ensures ▸ refl) in
    record { answer = search (rules, made); memory = made.1 }

pub returns-in_err-symbols_of : goal.returns-in_err-symbols_of
returns-in_err-symbols_of c =
    let a = c.args in
    let front = start ▸ line_passed _ c.in_ok-sizes.ensures ▸ line_passed _ c.in_ok-refuse_if.ensures ▸ line_passed _ c.in_ok-refuse_if-2.ensures in
    let made = refused_by (code_on a.alphabet) a.n a.k a.message.now a.out.now _ (line_tried {T = Unit} _ (Err _) front c.in_err-symbols_of.ensures.tried) in
    record { answer = search (rules, made); memory = made.1 }

pub encode_into-requires : goal.encode_into-requires
encode_into-requires c =
    let a = c.args in
    let front = start ▸ line_passed _ c.in_ok-sizes.ensures ▸ line_passed _ c.in_ok-refuse_if.ensures ▸ line_passed _ c.in_ok-refuse_if-2.ensures in
    let room = fits (code_on a.alphabet) a.n a.k a.message.now a.out.now (front ▸ line_passed _ c.in_ok-symbols_of.ensures.tried) in
    search (rules, room)

pub returns : goal.returns
returns c =
    let a = c.args in
    let front = start ▸ line_passed _ c.in_ok-sizes.ensures ▸ line_passed _ c.in_ok-refuse_if.ensures ▸ line_passed _ c.in_ok-refuse_if-2.ensures in
    let made = done_by (code_on a.alphabet) a.n a.k a.message.now a.out.now (front ▸ line_passed _ c.in_ok-symbols_of.ensures.tried) in
    record { answer = made.0; memory = c.encode_into.ensures ∙ made.1 }
