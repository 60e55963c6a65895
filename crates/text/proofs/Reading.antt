-- What a text tells: a blank or a line feed ends a word of digits, and the digits tell the number or the message that they were written for.
-- Assumes nothing.
use mathlib.Core.Bool.{cond}
use mathlib.Core.List.{List, [], ◌∷◌, ◌++◌, append_assoc, append_cancel_left, head-eq_of_cons-eq, tail-eq_of_cons-eq}
use mathlib.Core.List.Memᴰ
use mathlib.Core.List.{Memᴰ}
use mathlib.Core.Logic.{⊎_elim}
use mathlib.Core.Path.{◌≡◌, refl, sym, ◌∙◌, ap, ap₂}
use Prim.Native.Nat.{ℕ, zero, suc, ◌+◌, ◌*◌, ◌-◌, ◌/◌, ◌%◌, ◌≤◌, ◌<◌}
use native.Mathlib.Decide.{dec_lt}
use native.Mathlib.Omega.{arith}
use borrow.Author.Tests.{ltb-true, ltb-false, lt-ltb, le-ltb}
use lib.Dec.{ltb}
use lib.ListN.{length, drop}
use Rattle.alphabet.specs.Codes.{code_on}
use Rattle.alphabet.specs.declared.Alphabet.TheVariants.{Sixteen, ThirtyTwo}
use Rattle.alphabet.specs.declared.Alphabet.{Alphabet}
use Rattle.definitions.proofs.Joined.{join_nil, join_cons}
use Rattle.definitions.proofs.Tools.{split}
use Rattle.definitions.specs.Code.{Symbols}
use Rattle.text.proofs.Decimal.{within_none, within_one, within_more}
use Rattle.text.specs.Text.{hex_digit, symbol_text, message_text, decimal_within, decimal, listed_word, score_word, message_word, refused_word, at_word, line_feed, listed_line, row_line, refused_line}

-- no code is below that of the digit 0: neither a blank's nor a line feed's
abbrev Digits : List ℕ → Type 0
Digits u = (x : ℕ) → Memᴰ x u → 48 ≤ x

-- so the first code below it ends the word: what stands before it and what stands behind it are told
ended : (s : ℕ) → s < 48 → (u v r q : List ℕ) → Digits u → Digits v → u ++ (s ∷ r) ≡ v ++ (s ∷ q) → (u ≡ v) × (r ≡ q)
ended s h [] [] r q a b e = (refl, tail-eq_of_cons-eq e)
ended s h [] (y ∷ v) r q a b e =
    let least = b y (Memᴰ.head refl) in
    let same = head-eq_of_cons-eq e in
    let z : ⊥ = omega arith in absurd z
ended s h (x ∷ u) [] r q a b e =
    let least = a x (Memᴰ.head refl) in
    let same = head-eq_of_cons-eq e in
    let z : ⊥ = omega arith in absurd z
ended s h (x ∷ u) (y ∷ v) r q a b e =
    let (words, rests) = ended s h u v r q (λ z m. a z (Memᴰ.tail m)) (λ z m. b z (Memᴰ.tail m)) (tail-eq_of_cons-eq e) in
    (ap₂ ◌∷◌ (head-eq_of_cons-eq e) words, rests)

-- ---- numbers

-- the digits of a number
within_digits : (w x : ℕ) → Digits (decimal_within w x)
within_digits zero x d m = absurd (Memᴰ.not-nil (rw (within_none x) at m))
within_digits (suc w) x d m =
    elim (dec_lt x 10) [
      | yes h ↦ let e = Memᴰ.eq_of_singleton (rw (within_one w x h) at m) in omega arith
      | no n ↦
          ⊎_elim (λ a. within_digits w (x / 10) d a) (λ b. let e = Memᴰ.eq_of_singleton b in omega arith)
          (Memᴰ.append_cases (decimal_within w (x / 10)) (rw (within_more w x (omega arith)) at m))
    ]

decimal_digits : (x : ℕ) → Digits (decimal x)
decimal_digits x = within_digits (suc x) x

-- the number that digits say behind one that was read
read_onto : ℕ → List ℕ → ℕ
read_onto x [] = x
read_onto x (d ∷ u) = read_onto (10 * x + (d - 48)) u

read_more : (x : ℕ) (u : List ℕ) (d : ℕ) → read_onto x (u ++ (d ∷ [])) ≡ 10 * read_onto x u + (d - 48)
unfolding read_onto
read_more x [] d = refl
read_more x (e ∷ u) d = read_more (10 * x + (e - 48)) u d

read_one : (d : ℕ) → read_onto 0 (d ∷ []) ≡ d - 48
unfolding read_onto
read_one d = omega arith

-- the digits of a number say it
read_within : (w x : ℕ) → x < w → read_onto 0 (decimal_within w x) ≡ x
read_within zero x h = let z : ⊥ = omega arith in absurd z
read_within (suc w) x h =
    elim (dec_lt x 10) [
      | yes l ↦ let e = read_one (48 + x) in ap (read_onto 0) (within_one w x l) ∙ omega arith
      | no n ↦
          let rest = read_within w (x / 10) (omega arith) in
          let e = read_more 0 (decimal_within w (x / 10)) (48 + x % 10) in
          ap (read_onto 0) (within_more w x (omega arith)) ∙ omega arith
    ]

decimal_told : (x y : ℕ) → decimal x ≡ decimal y → x ≡ y
decimal_told x y e = sym (read_within (suc x) x (omega arith)) ∙ ap (read_onto 0) e ∙ read_within (suc y) y (omega arith)

-- ---- messages

-- the digit of a symbol is one of "0" to "9", or of "a" to "f"
hex_least : (x : ℕ) → 48 ≤ hex_digit x
hex_least x = split (ltb (x % 16) 10) (λ t. rw t (omega arith)) (λ f. rw f (omega arith))

symbol_digits : (w : Alphabet) (x : ℕ) → Digits (symbol_text (code_on w) x)
symbol_digits Sixteen x d m = let e = Memᴰ.eq_of_singleton m in let least = hex_least x in omega arith
symbol_digits ThirtyTwo x d m =
    ⊎_elim (λ a. let e = Memᴰ.eq_of_singleton a in let least = hex_least (x / 16) in omega arith)
    (λ b. let e = Memᴰ.eq_of_singleton b in let least = hex_least x in omega arith)
    (Memᴰ.append_cases (hex_digit (x / 16) ∷ []) m)

message_digits : (w : Alphabet) (f : List ℕ) → Digits (message_text (code_on w) f)
message_digits w [] d m = absurd (Memᴰ.not-nil (rw (join_nil (symbol_text (code_on w))) at m))
message_digits w (x ∷ f) d m =
    ⊎_elim (symbol_digits w x d) (message_digits w f d)
    (Memᴰ.append_cases (symbol_text (code_on w) x) (rw (join_cons (symbol_text (code_on w)) x f) at m))

-- what a digit says
symbol_of : ℕ → ℕ
symbol_of d = cond (ltb d 58) (d - 48) (d - 87)

digit_back : (x : ℕ) → symbol_of (hex_digit x) ≡ x % 16
unfolding symbol_of
digit_back x =
    split (ltb (x % 16) 10)
    (λ t. let low = ltb-true (x % 16) 10 t in rw (t, lt-ltb (48 + x % 16) 58 (omega arith)) (omega arith))
    (λ f. let high = ltb-false (x % 16) 10 f in rw (f, le-ltb (87 + x % 16) 58 (omega arith)) (omega arith))

digit_told : (x y : ℕ) → hex_digit x ≡ hex_digit y → x % 16 ≡ y % 16
digit_told x y e = sym (digit_back x) ∙ ap symbol_of e ∙ digit_back y

-- the digits of a symbol, in front of others, say it
symbol_told : (w : Alphabet) (x y : ℕ) (u v : List ℕ) → x < (code_on w).symbols → y < (code_on w).symbols → symbol_text (code_on w) x ++ u ≡ symbol_text (code_on w) y ++ v
    → (x ≡ y) × (u ≡ v)
symbol_told Sixteen x y u v hx hy e = let a = digit_told x y (head-eq_of_cons-eq e) in (omega arith, tail-eq_of_cons-eq e)
symbol_told ThirtyTwo x y u v hx hy e =
    let t = tail-eq_of_cons-eq e in
    let a = digit_told (x / 16) (y / 16) (head-eq_of_cons-eq e) in
    let b = digit_told x y (head-eq_of_cons-eq t) in
    (omega arith, tail-eq_of_cons-eq t)

-- and are not nothing
symbol_there : (w : Alphabet) (x : ℕ) (u : List ℕ) → 0 < length (symbol_text (code_on w) x ++ u)
symbol_there Sixteen x u = omega arith
symbol_there ThirtyTwo x u = omega arith

-- the digits of a message say it
message_told : (w : Alphabet) (f g : List ℕ) → Symbols (code_on w) f → Symbols (code_on w) g → message_text (code_on w) f ≡ message_text (code_on w) g → f ≡ g
message_told w [] [] s t e = refl
message_told w [] (y ∷ g) s t e =
    let n : 0 ≡ length (symbol_text (code_on w) y ++ message_text (code_on w) g) = ap length (sym (join_nil (symbol_text (code_on w))) ∙ e ∙ join_cons (symbol_text (code_on w)) y g) in
    let h = symbol_there w y (message_text (code_on w) g) in
    let z : ⊥ = omega arith in absurd z
message_told w (x ∷ f) [] s t e =
    let n : 0 ≡ length (symbol_text (code_on w) x ++ message_text (code_on w) f) = ap length (sym (join_nil (symbol_text (code_on w))) ∙ sym e ∙ join_cons (symbol_text (code_on w)) x f) in
    let h = symbol_there w x (message_text (code_on w) f) in
    let z : ⊥ = omega arith in absurd z
message_told w (x ∷ f) (y ∷ g) s t e =
    let (heads, tails) = symbol_told w x y (message_text (code_on w) f) (message_text (code_on w) g) (s 0) (t 0)
    (sym (join_cons (symbol_text (code_on w)) x f) ∙ e ∙ join_cons (symbol_text (code_on w)) y g) in
    ap₂ ◌∷◌ heads (message_told w f g (λ j. s (suc j)) (λ j. t (suc j)) tails)

-- ---- lines

-- a line of two words of digits, the first ended by a blank and the second by the line feed: both are told, and what follows the line
module _ (name between : List ℕ) where
  abbrev two_words : List ℕ → List ℕ → List ℕ
  two_words u v = name ++ u ++ (32 ∷ between) ++ v ++ line_feed

  regrouped : (u v rest : List ℕ) → two_words u v ++ rest ≡ name ++ (u ++ (32 ∷ (between ++ (v ++ (10 ∷ rest)))))
  regrouped u v rest = simp append_assoc

  two_told : (u v w z rest other : List ℕ) → Digits u → Digits v → Digits w → Digits z → two_words u v ++ rest ≡ two_words w z ++ other
      → (u ≡ w) × (v ≡ z) × (rest ≡ other)
  two_told u v w z rest other du dv dw dz e =
      let whole = append_cancel_left name (u ++ (32 ∷ (between ++ (v ++ (10 ∷ rest))))) (w ++ (32 ∷ (between ++ (z ++ (10 ∷ other))))) (sym (regrouped u v rest) ∙ e ∙ regrouped w z other) in
      let (first, later) = ended 32 (omega arith) u w (between ++ (v ++ (10 ∷ rest))) (between ++ (z ++ (10 ∷ other))) du dw whole in
      let (second, behind) = ended 10 (omega arith) v z rest other dv dz (append_cancel_left between (v ++ (10 ∷ rest)) (z ++ (10 ∷ other)) later) in
      (first, second, behind)

-- the line of a row tells its score and its message
pub row_told : (w : Alphabet) (s t : ℕ) (f g rest other : List ℕ) → Symbols (code_on w) f → Symbols (code_on w) g
    → row_line (code_on w) s f ++ rest ≡ row_line (code_on w) t g ++ other → (s ≡ t) × (f ≡ g) × (rest ≡ other)
row_told w s t f g rest other sf sg e =
    let (scores, messages, behind) = two_told score_word (drop 1 message_word) (decimal s) (message_text (code_on w) f) (decimal t) (message_text (code_on w) g) rest other
    (decimal_digits s) (message_digits w f) (decimal_digits t) (message_digits w g) e in
    (decimal_told s t scores, message_told w f g sf sg messages, behind)

-- the line of a refusal tells its number and its place
pub refused_told : (number place other at : ℕ) → refused_line number place ≡ refused_line other at → (number ≡ other) × (place ≡ at)
refused_told number place other at e =
    let (numbers, places, _) = two_told refused_word (drop 1 at_word) (decimal number) (decimal place) (decimal other) (decimal at) [] []
    (decimal_digits number) (decimal_digits place) (decimal_digits other) (decimal_digits at) (ap (λ (l : List ℕ). l ++ []) e) in
    (decimal_told number other numbers, decimal_told place at places)

-- the line of a count tells the count, and what follows the line
pub listed_told : (count other : ℕ) (rest behind : List ℕ) → listed_line count ++ rest ≡ listed_line other ++ behind → (count ≡ other) × (rest ≡ behind)
listed_told count other rest behind e =
    let regroup : (x : ℕ) (l : List ℕ) → listed_line x ++ l ≡ listed_word ++ (decimal x ++ (10 ∷ l)) = λ x l. simp append_assoc in
    let whole = append_cancel_left listed_word (decimal count ++ (10 ∷ rest)) (decimal other ++ (10 ∷ behind)) (sym (regroup count rest) ∙ e ∙ regroup other behind) in
    let (digits, after) = ended 10 (omega arith) (decimal count) (decimal other) rest behind (decimal_digits count) (decimal_digits other) whole in
    (decimal_told count other digits, after)

-- no list's text is a refusal's
pub listed_or_refused : (count number place : ℕ) (rest : List ℕ) → listed_line count ++ rest ≡ refused_line number place → ⊥
listed_or_refused count number place rest e = let first : ◌≡◌ {A = ℕ} 108 114 = head-eq_of_cons-eq e in omega arith
