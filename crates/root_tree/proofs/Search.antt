-- The search is a selection: what it finds are the messages that any test for roots keeps, in their order. So pruning loses no root, stripping
-- loses none, no root of degree k is kept, and a double root stands once.
-- Assumes nothing.
use mathlib.Core.Bool.{Bool, true, false, cond, true≢false}
use mathlib.Core.List.{List, [], ◌∷◌, ◌++◌, map, flat_map}
use mathlib.Core.Path.{◌≡◌, refl, sym, ◌∙◌, ap, ap₂, subst}
use Prim.Native.Nat.{ℕ, zero, suc, ◌<◌}
use native.Mathlib.Omega.{arith}
use borrow.Author.Tests.{eqb-true, eq-eqb}
use lib.Dec.{eqb}
use lib.ListN.{get_or}
use Rattle.definitions.proofs.Joined.{join_nil, join_below}
use Rattle.definitions.proofs.Messages.{messages_zero, messages_suc, messages_in_order, beginning}
use Rattle.definitions.proofs.Symbols.{cons_symbols}
use Rattle.definitions.proofs.Tools.{split, both, below_zero, select_nil, select_yes, select_no, select_none, select_append, select_map}
use Rattle.definitions.specs.Code.{Symbols, messages}
use Rattle.definitions.specs.Field.{Code, numbers, value}
use Rattle.definitions.specs.Polynomial.{is_zero}
use Rattle.definitions.specs.Tools.{below, select}
use Rattle.algebra.specs.FieldOf.{FieldOf}
use Rattle.algebra.proofs.Elements.{zero_element, zero_symbol, element_zero}
use Rattle.algebra.proofs.Numbers.{elements, number_value}
use Rattle.root_tree.specs.Columns.{first, substitute}
use Rattle.root_tree.specs.Tree.{strip, constants_zero, begins, next, search}
use Rattle.root_tree.proofs.Columns.{first_column}
use Rattle.root_tree.proofs.Elements.{SymbolColumns, column_elements, element_at, elements_zero, first_elements, substitute_elements, substitute_symbols}
use Rattle.root_tree.proofs.Values.{Root, root_rest, rest_root, root_freed, freed_root, root_first, empty_first, empty_next, empty_root}

-- equal lists for each number, equal lists joined
pub join_equal : {B : Type 0} (f g : ℕ → List B) (n : ℕ) → ((c : ℕ) → c < n → f c ≡ g c) → flat_map f (below n) ≡ flat_map g (below n)
join_equal f g zero e = rw below_zero (join_nil f ∙ sym (join_nil g))
join_equal f g (suc n) e =
    join_below f n ∙ ap₂ ◌++◌ (join_equal f g n (λ c h. e c (omega arith))) (e n (omega arith)) ∙ sym (join_below g n)

-- what is selected of lists joined
select_join : {B : Type 0} (t : B → Bool) (g : ℕ → List B) (n : ℕ) → select t (flat_map g (below n)) ≡ flat_map (λ (c : ℕ). select t (g c)) (below n)
select_join t g zero = rw below_zero (ap (select t) (join_nil g) ∙ select_nil t ∙ sym (join_nil (λ (c : ℕ). select t (g c))))
select_join t g (suc n) =
    ap (select t) (join_below g n) ∙ select_append t (flat_map g (below n)) (g n)
    ∙ ap (λ (l : List _). l ++ select t (g n)) (select_join t g n) ∙ sym (join_below (λ (c : ℕ). select t (g c)) n)

-- a test and its meaning
pub equal_tests : (a b : Bool) → (a ≡ true → b ≡ true) → (b ≡ true → a ≡ true) → a ≡ b
equal_tests true b f g = sym (f refl)
equal_tests false true f g = g refl
equal_tests false false f g = refl

-- ---- strip

-- of no columns
pub strip_nil : strip [] ≡ []
unfolding strip
strip_nil = refl

-- a first column of zeros is left out
pub strip_yes : (p : List ℕ) (M : List (List ℕ)) → is_zero p ≡ true → strip (p ∷ M) ≡ strip M
unfolding strip
strip_yes p M e = rw e

-- another one stays
pub strip_no : (p : List ℕ) (M : List (List ℕ)) → is_zero p ≡ false → strip (p ∷ M) ≡ p ∷ M
unfolding strip
strip_no p M e = rw e

module _ (C : Code) where
  -- the entries stay symbols
  pub strip_symbols : (M : List (List ℕ)) → SymbolColumns C M → SymbolColumns C (strip M)
  strip_symbols [] s = rw strip_nil s
  strip_symbols (p ∷ M) s =
      split (is_zero p) (λ y. rw (strip_yes p M y) (strip_symbols M (λ a. s (suc a)))) (λ n. rw (strip_no p M n) s)

  -- also those of M(0, y)
  pub first_symbols : (M : List (List ℕ)) → SymbolColumns C M → Symbols C (first (numbers C) M)
  first_symbols M s = subst (Symbols C) (first_column (numbers C) M) (s zero)

  -- the branch of one symbol
  abbrev pub branch : ℕ → List (List ℕ) → ℕ → List (List ℕ)
  branch k M c = cond (begins C c M) (map (λ (f : List ℕ). c ∷ f) (search C k (next C c M))) []

  -- with no level left
  pub search_zero : (M : List (List ℕ)) → search C 0 M ≡ cond (constants_zero M) ([] ∷ []) []
  unfolding search
  search_zero M = refl

  -- one symbol after the other
  pub search_suc : (k : ℕ) (M : List (List ℕ)) → search C (suc k) M ≡ flat_map (branch k M) (below C.symbols)
  unfolding search
  search_suc k M = refl

module _ (C : Code) (F : FieldOf C) where
  -- f is a root of the polynomial with columns M
  abbrev pub IsRoot : List (List ℕ) → List ℕ → Type 0
  IsRoot M f = Root F.ring (column_elements C F M) (elements C F f)

  -- stripping keeps the roots
  pub root_strip : (f : List ℕ) (M : List (List ℕ)) → IsRoot M f → IsRoot (strip M) f
  root_strip f [] r = rw strip_nil r
  root_strip f (p ∷ M) r =
      split (is_zero p)
      (λ y. rw (strip_yes p M y) (root_strip f M (root_freed F.ring (elements C F f) (elements C F p) (column_elements C F M) (elements_zero C F p y) r)))
      (λ n. rw (strip_no p M n) r)

  -- and adds none
  pub strip_root : (f : List ℕ) (M : List (List ℕ)) → IsRoot (strip M) f → IsRoot M f
  strip_root f [] r = rw strip_nil at r
  strip_root f (p ∷ M) r =
      split (is_zero p)
      (λ y. freed_root F.ring (elements C F f) (elements C F p) (column_elements C F M) (elements_zero C F p y) (strip_root f M (rw (strip_yes p M y) at r)))
      (λ n. rw (strip_no p M n) at r)

  -- with no symbol left
  constants_root : (M : List (List ℕ)) → constants_zero M ≡ true → IsRoot M []
  unfolding constants_zero
  constants_root [] e n = empty_root F.ring n
  constants_root (p ∷ M) e zero =
      empty_first F.ring (elements C F p) (column_elements C F M) ∙ element_at C F p zero
      ∙ ap F.element (eqb-true (get_or p 0 0) 0 (both (eqb (get_or p 0 0) 0) (constants_zero M) e).0) ∙ element_zero C F
  constants_root (p ∷ M) e (suc n) =
      empty_next F.ring (elements C F p) (column_elements C F M) n ∙ constants_root M (both (eqb (get_or p 0 0) 0) (constants_zero M) e).1 n

  -- and the other way round
  root_constants : (M : List (List ℕ)) → SymbolColumns C M → IsRoot M [] → constants_zero M ≡ true
  unfolding constants_zero
  root_constants [] s r = refl
  root_constants (p ∷ M) s r =
      rw (eq-eqb (get_or p 0 0) 0
      (zero_element C F (get_or p 0 0) (s zero zero)
      (sym (element_at C F p zero) ∙ sym (empty_first F.ring (elements C F p) (column_elements C F M)) ∙ r zero)))
      (root_constants M (λ a. s (suc a)) (λ n. sym (empty_next F.ring (elements C F p) (column_elements C F M) n) ∙ r (suc n)))

  module _ (c : ℕ) (hc : c < C.symbols) (M : List (List ℕ)) (s : SymbolColumns C M) where
    -- c followed by f is a root exactly when f is one of what is handed on
    pub root_next : (f : List ℕ) → IsRoot M (c ∷ f) → IsRoot (next C c M) f
    root_next f r =
        root_strip f (substitute (numbers C) c M)
        (subst (λ (L : List (List F.ring.ops.K)). Root F.ring L (elements C F f)) (sym (substitute_elements C F c hc M s))
        (root_rest F.ring (F.element c) (elements C F f) (column_elements C F M) r))

    -- and the other way round
    pub next_root : (f : List ℕ) → IsRoot (next C c M) f → IsRoot M (c ∷ f)
    next_root f r =
        rest_root F.ring (F.element c) (elements C F f) (column_elements C F M)
        (subst (λ (L : List (List F.ring.ops.K)). Root F.ring L (elements C F f)) (substitute_elements C F c hc M s)
        (strip_root f (substitute (numbers C) c M) r))

    -- a symbol c with M(0, c) other than zero begins no root
    pub root_begins : (f : List ℕ) → IsRoot M (c ∷ f) → begins C c M ≡ true
    unfolding begins
    root_begins f r =
        eq-eqb (value (numbers C) c (first (numbers C) M)) 0
        (ap (λ (x : ℕ). value (numbers C) x (first (numbers C) M)) (sym (F.number_element c hc))
        ∙ sym (number_value C F (F.element c) (first (numbers C) M) (first_symbols C M s))
        ∙ ap F.number.φ
        (ap (value F.ring.ops (F.element c)) (sym (first_elements C F M)) ∙ root_first F.ring (F.element c) (elements C F f) (column_elements C F M) r)
        ∙ F.number.φ_zero)

    -- what is handed on is of symbols
    pub next_symbols : SymbolColumns C (next C c M)
    next_symbols = strip_symbols C (substitute (numbers C) c M) (substitute_symbols C F c hc M s)

  -- t says of every message whether it is a root of M
  abbrev pub Decides : (List ℕ → Bool) → List (List ℕ) → Type 0
  Decides t M = (f : List ℕ) → Symbols C f → (t f ≡ true → IsRoot M f) × (IsRoot M f → t f ≡ true)

  -- one message, of no symbols
  none_left : (t : List ℕ → Bool) → select t (messages C 0) ≡ cond (t []) ([] ∷ []) []
  none_left t =
      rw (messages_zero C)
      (split (t []) (λ y. select_yes t [] [] y ∙ rw (y, select_nil t)) (λ n. select_no t [] [] n ∙ rw (n, select_nil t)))

  -- one symbol's branch
  branch_select : (k : ℕ) (M : List (List ℕ)) (c : ℕ) → c < C.symbols → SymbolColumns C M → (t : List ℕ → Bool) → Decides t M
      → search C k (next C c M) ≡ select (λ (f : List ℕ). t (c ∷ f)) (messages C k) → branch C k M c ≡ select t (beginning C k c)
  branch_select k M c hc s t d ih =
      split (begins C c M)
      (λ y. rw y (ap (map (λ (f : List ℕ). c ∷ f)) ih ∙ sym (select_map t (λ (f : List ℕ). c ∷ f) (messages C k))))
      (λ n. rw n
      (ap (map (λ (f : List ℕ). c ∷ f)) (sym (select_none (λ (f : List ℕ). t (c ∷ f)) (messages C k)
      (λ f m. split (t (c ∷ f))
      (λ y. absurd (true≢false (sym (root_begins c hc M s f
      ((d (c ∷ f) (cons_symbols C c f hc ((messages_in_order C (zero_symbol C F) k).symbols f m))).0 y)) ∙ n)))
      (λ e. e))))
      ∙ sym (select_map t (λ (f : List ℕ). c ∷ f) (messages C k))))

  -- the search selects the roots of all messages, in their order
  pub search_selects : (k : ℕ) (M : List (List ℕ)) → SymbolColumns C M → (t : List ℕ → Bool) → Decides t M → search C k M ≡ select t (messages C k)
  search_selects zero M s t d =
      search_zero C M
      ∙ ap (λ (b : Bool). cond {A = List (List ℕ)} b ([] ∷ []) [])
      (equal_tests (constants_zero M) (t []) (λ e. (d [] (λ j. zero_symbol C F)).1 (constants_root M e))
      (λ e. root_constants M s ((d [] (λ j. zero_symbol C F)).0 e)))
      ∙ sym (none_left t)
  search_selects (suc k) M s t d =
      search_suc C k M
      ∙ join_equal (branch C k M) (λ (c : ℕ). select t (beginning C k c)) C.symbols
      (λ c hc. branch_select k M c hc s t d
      (search_selects k (next C c M) (next_symbols c hc M s) (λ (f : List ℕ). t (c ∷ f))
      (λ f sf. (
        λ e. root_next c hc M s f ((d (c ∷ f) (cons_symbols C c f hc sf)).0 e),
        λ r. (d (c ∷ f) (cons_symbols C c f hc sf)).1 (next_root c hc M s f r),
      ))))
      ∙ sym (select_join t (beginning C k) C.symbols) ∙ ap (select t) (sym (messages_suc C k))
