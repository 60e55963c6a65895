-- Texts that are put one behind the other.
-- Assumes nothing.
use mathlib.Core.List.{List, [], ◌∷◌, ◌++◌, append-nil}
use mathlib.Core.Path.{◌≡◌, refl, sym, ◌∙◌, ap, subst}
use Prim.Native.Nat.{ℕ, suc, ◌+◌, ◌≤◌, ◌<◌}
use native.Mathlib.Numerals.{add-one}
use native.Mathlib.Omega.{arith}
use lib.ListN.{length, take, drop, get_or, length-append}
use lib.Seq.{length-take-le, take_at, take-suc}
use Rattle.definitions.proofs.Joined.{join_nil, join_cons, join_append}
use Rattle.definitions.specs.Field.{Code}
use Rattle.memory.proofs.Laid.{laid_none, laid_behind, laid_within, laid_front}
use Rattle.memory.specs.Laid.{laid}
use Rattle.text.specs.Text.{Puts, symbol_text, message_text, line_of, row_lines}

-- words behind words, in the promises
pub puts_more : (out middle after u w : List ℕ) (at end last : ℕ) → at ≤ length out → Puts out at u end middle → Puts middle end w last after
    → Puts out at (u ++ w) last after
puts_more out middle after u w at end last h p q =
    let both : length (u ++ w) ≡ length u + length w = length-append u w in
    let e : end ≡ at + length u = p.0 in
    let l : last ≡ end + length w = q.0 in (
      omega arith,
      q.1 ∙ p.1,
      q.2 ∙ ap (λ (m : List ℕ). laid m end w) p.2 ∙ laid_behind out at u w end h e,
    )

infixl 60 ◌▸◌
-- texts were put in turn, each where the one before it ended: the texts, the last one first, where they
-- end, and the memory after them
pub data InTurn (out : List ℕ) (at : ℕ) : List (List ℕ) → ℕ → List ℕ → Type 0 where
  begun : InTurn out at [] at out
  ◌▸◌ : {texts : List (List ℕ)} {w middle after : List ℕ} {end last : ℕ} → InTurn out at texts end middle → Puts middle end w last after
      → InTurn out at (w ∷ texts) last after

-- so the one text that they are together was put
abbrev pub together : List (List ℕ) → List ℕ
together [] = []
together (w ∷ texts) = together texts ++ w

pub puts_in_turn : {out : List ℕ} {at : ℕ} {after : List ℕ} {texts : List (List ℕ)} {end : ℕ} → at ≤ length out → InTurn out at texts end after → Puts out at (together texts) end after
puts_in_turn {out} {at} h begun = (omega arith, refl, laid_none out at)
puts_in_turn {out} {at} {after} h (◌▸◌ {texts = texts} {w = w} {middle = middle} {end = end} {last = last} earlier p) =
    puts_more out middle after (together texts) w at end last h (puts_in_turn h earlier) p

-- the text of a message, symbol after symbol: no symbol, and one more
pub text_begun : (C : Code) (message out : List ℕ) (at : ℕ) → Puts out at (message_text C (take 0 message)) at out
text_begun C message out at = rw (join_nil (symbol_text C)) (omega arith, refl, laid_none out at)

pub text_more : (C : Code) (message out middle after : List ℕ) (at end last j : ℕ) → at ≤ length out → j < length message
    → Puts out at (message_text C (take j message)) end middle → Puts middle end (symbol_text C (get_or message j 0)) last after
    → Puts out at (message_text C (take (j + 1) message)) last after
text_more C message out middle after at end last j h l p q =
    let x = get_or message j 0 in
    let one : message_text C (x ∷ []) ≡ symbol_text C x = join_cons (symbol_text C) x [] ∙ ap (λ (u : List ℕ). symbol_text C x ++ u) (join_nil (symbol_text C)) ∙ append-nil (symbol_text C x) in
    let e : message_text C (take (j + 1) message) ≡ message_text C (take j message) ++ symbol_text C x =
    ap (λ (n : ℕ). message_text C (take n message)) (add-one j) ∙ ap (message_text C) (take-suc message j 0 l)
    ∙ join_append (symbol_text C) (take j message) (x ∷ []) ∙ ap (λ (u : List ℕ). message_text C (take j message) ++ u) one in
    subst (λ (w : List ℕ). Puts out at w last after) (sym e) (puts_more out middle after (message_text C (take j message)) (symbol_text C x) at end last h p q)

-- the lines of rows: no row, and one row more
module _ (C : Code) (k : ℕ) (rows scores : List ℕ) where
  pub none_lines : row_lines C k rows scores 0 ≡ []
  unfolding row_lines
  none_lines = refl

  pub more_lines : (j : ℕ) → row_lines C k rows scores (suc j) ≡ row_lines C k rows scores j ++ line_of C k rows scores j
  unfolding row_lines
  more_lines j = refl

  pub lines_begun : (out : List ℕ) (at : ℕ) → Puts out at (row_lines C k rows scores 0) at out
  lines_begun out at = rw none_lines (omega arith, refl, laid_none out at)

  pub lines_more : (out middle after : List ℕ) (at end last j : ℕ) → at ≤ length out → Puts out at (row_lines C k rows scores j) end middle
      → Puts middle end (line_of C k rows scores j) last after → Puts out at (row_lines C k rows scores (j + 1)) last after
  lines_more out middle after at end last j h p q =
      let e : row_lines C k rows scores (j + 1) ≡ row_lines C k rows scores j ++ line_of C k rows scores j = ap (λ (n : ℕ). row_lines C k rows scores n) (add-one j) ∙ more_lines j in
      subst (λ (w : List ℕ). Puts out at w last after) (sym e) (puts_more out middle after (row_lines C k rows scores j) (line_of C k rows scores j) at end last h p q)

-- what is put ends within the memory
pub puts_within : (out after w : List ℕ) (at end : ℕ) → at ≤ length out → Puts out at w end after → (end ≤ length after) × (end ≡ length (take end after))
puts_within out after w at end h p =
    let e : end ≡ at + length w = p.0 in
    let within = laid_within out at w h in
    let size : length after ≡ length (laid out at w) = ap length p.2 in
    let fits : end ≤ length after = omega arith in
    (fits, sym (length-take-le end after fits))

-- what is put in front of a memory: it begins with the words, and what lies behind them stays
pub puts_front : (out after w : List ℕ) (end : ℕ) → Puts out 0 w end after → (end ≡ length w) × (after ≡ w ++ drop (length w) out)
puts_front out after w end p = let size : end ≡ length w = omega arith in (size, p.2 ∙ laid_front out w (length w) refl)

pub puts_words : (out after w : List ℕ) (end : ℕ) → Puts out 0 w end after → take end after ≡ w
puts_words out after w end p =
    let (size, front) = puts_front out after w end p in
    ap (take end) front ∙ take_at w (drop (length w) out) end (sym size)
