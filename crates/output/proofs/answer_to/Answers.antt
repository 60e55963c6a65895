-- An input with no header is refused; else its four bytes and the numbers behind them go to answer.
use Rattle.std.proofs.Common.{◌≡◌, ℕ, ◌-◌, List, length, take, drop, replicate, sym, ap, ap₂, ◌∙◌, subst}
use Rattle.alphabet.specs.Codes.{code_on}
use Rattle.numbers.specs.Numbers.{numbers_of}
use Rattle.output.proofs.Input.{no_header, header, in_front, front_within, bytes_are}
use Rattle.output.specs.Program.{header_bytes}
use Rattle.output.specs.Rooms.{numbers_read}
use Rattle.text.specs.Text.{Puts, refused_line}
use Rattle.output.proofs.answer_to.Goals as goal

-- The input is shorter than a header: the line of refusal 3 at 0 is put, and that is its output.
pub returns-then-input-lt-HEADER : goal.returns-then-input-lt-HEADER
returns-then-input-lt-HEADER c =
    let a = c.args in
    let put = c.put_refused in
    let told = ap₂ refused_line c.number.ensures.0 c.place.ensures in
    let e = told ∙ no_header (code_on a.alphabet) a.input.now c.if-input-lt-HEADER.true in
    subst (λ (text : List ℕ). Puts a.out.now 0 text put.result put.new.out) e put.ensures

-- the numbers behind the header, and what lies behind them in the memory that they are read to
abbrev words : List ℕ → List ℕ
words bytes = numbers_of (take (length bytes - header_bytes) (drop header_bytes bytes))

abbrev rest : List ℕ → List ℕ
rest bytes = drop (length (words bytes)) (replicate numbers_read 0)

-- The header is there: the four bytes and the numbers behind them are the input's, so the answer to
-- them is the input's output.
pub returns : goal.returns
returns c =
    let a = c.args in
    let bytes = a.input.now in
    let read = c.read-count in
    let put = c.answer in
    let front = in_front (words bytes) (rest bytes) read.new.out read.result read.ensures.count read.ensures.memory in
    let e = header (code_on a.alphabet) bytes _ c.from-n.result c.from-k.result c.from-level.result c.from-limit.result
    c.if-input-lt-HEADER.false c.from-n.ensures c.from-k.ensures c.from-level.ensures c.from-limit.ensures (front ∙ ap numbers_of (bytes_are bytes)) in
    subst (λ (text : List ℕ). Puts a.out.now 0 text put.result put.new.out) e put.ensures
