-- The steps of loops that add up or fill a list from the front, over plain numbers and lists.
-- Assumes nothing.
use mathlib.Core.List.{List, [], ◌∷◌, ◌++◌, map, append_assoc, append-nil}
use mathlib.Core.Path.{◌≡◌, sym, ◌∙◌, ap, ap₂}
use Prim.Native.Nat.{ℕ, suc, ◌+◌, ◌*◌, ◌≤◌, ◌<◌}
use native.Mathlib.Nat.{mul-suc, mul-le-mul_left}
use native.Mathlib.Numerals.{add-one}
use native.Mathlib.Omega.{arith}
use lib.ListN.{length, take, drop, get_or, set, length-drop, drop_of_length-le}
use lib.Seq.{drop-cons, set_at, take-suc, get_or-drop, length-take-le}
use Rattle.definitions.proofs.Tools.{below_zero, length_map_below, map_below, sum_zero, sum_suc}
use Rattle.definitions.specs.Tools.{below, sum}

-- nothing is added up yet
pub sum_none : (f : ℕ → ℕ) → 0 ≡ sum 0 f
sum_none f = sym (sum_zero f)

-- one number more
pub sum_more : (f : ℕ → ℕ) (i total x : ℕ) → total ≡ sum i f → x ≡ f i → total + x ≡ sum (i + 1) f
sum_more f i total x et ex = ap₂ ◌+◌ et ex ∙ sym (sum_suc i f) ∙ ap (λ (n : ℕ). sum n f) (sym (add-one i))

-- one entry more is put behind those that are there
pub put_more : {A : Type 0} (z : A) (done rest : List A) (i : ℕ) (v : A) → length done ≡ i → i < length rest
    → set (done ++ drop i rest) i v ≡ (done ++ (v ∷ [])) ++ drop (i + 1) rest
put_more z done rest i v e h = rw (add-one, drop-cons rest i z, append_assoc) (set_at done (get_or rest i z) (drop (suc i) rest) v i e)

-- no value of a function of the place yet
pub map_none : {A : Type 0} (f : ℕ → A) (out : List A) → out ≡ map f (below 0) ++ out
map_none f out = ap (λ (l : List ℕ). map f l ++ out) (sym below_zero)

-- one value more of a function of the place
pub map_more : {A : Type 0} (f : ℕ → A) (out now : List A) (k : ℕ) (x : A) → k < length out → now ≡ map f (below k) ++ drop k out → x ≡ f k
    → set now k x ≡ map f (below (k + 1)) ++ drop (k + 1) out
map_more {A} f out now k x h e ex =
    rw (e, ex)
    (put_more x (map f (below k)) out k (f k) (length_map_below f k) h
    ∙ ap (λ (l : List A). l ++ drop (k + 1) out) (sym (map_below f k) ∙ ap (λ (n : ℕ). map f (below n)) (sym (add-one k))))

-- all of them
pub map_whole : {A : Type 0} (f : ℕ → A) (out now : List A) (i n : ℕ) → i ≡ n → length out ≡ n → now ≡ map f (below i) ++ drop i out → now ≡ map f (below n)
map_whole {A} f out now i n ei size e =
    e ∙ ap (λ (j : ℕ). map f (below j) ++ drop j out) ei ∙ ap (λ (l : List A). map f (below n) ++ l) (drop_of_length-le out {i = n} (omega arith)) ∙ append-nil (map f (below n))

-- one entry more of a part of another list
pub copied_more : (p rest now : List ℕ) (from b : ℕ) → from + b < length p → b < length rest → now ≡ take b (drop from p) ++ drop b rest
    → set now b (get_or p (from + b) 0) ≡ take (b + 1) (drop from p) ++ drop (b + 1) rest
copied_more p rest now from b h k e =
    let n = length-drop from p in
    rw e
    (put_more 0 (take b (drop from p)) rest b (get_or p (from + b) 0) (length-take-le b (drop from p) (omega arith)) k
    ∙ ap (λ (l : List ℕ). l ++ drop (b + 1) rest)
    (ap (λ (x : ℕ). take b (drop from p) ++ (x ∷ [])) (sym (get_or-drop from p b 0)) ∙ sym (take-suc (drop from p) b 0 (omega arith))
    ∙ ap (λ (j : ℕ). take j (drop from p)) (sym (add-one b))))

-- a row of those that are there lies within the memory
pub row_within : (k r many size : ℕ) → r < many → k * many ≤ size → k * r + k ≤ size
row_within k r many size h l = let one_more = mul-le-mul_left k h in let grown = mul-suc k r in omega arith
