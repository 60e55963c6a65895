-- The theorem on the list: the messages whose score is greater than t, each once, by falling score, equal scores by message.
-- Assumes nothing.
use mathlib.Core.Bool.{Bool}
use mathlib.Core.List.{List, [], ◌∷◌, Memᴰ}
use mathlib.Core.Logic.{◌≢◌}
use mathlib.Core.Path.{◌≡◌, refl, sym, ap, subst}
use Prim.Native.Nat.{ℕ, ◌≤◌, ◌<◌}
use borrow.Author.Tests.{ltb-true, lt-ltb, eq-eqb}
use lib.Dec.{ltb}
use lib.ListN.{length, get_or}
use Rattle.definitions.specs.Code.{Symbols, messages}
use Rattle.definitions.specs.Field.{Code}
use Rattle.definitions.specs.Listing.{above}
use Rattle.definitions.specs.Tools.{select}
use Rattle.definitions.specs.Weights.{score}
use Rattle.definitions.proofs.Listing.{scored, Falling, falling_in_order}
use Rattle.definitions.proofs.Messages.{Before, before_irreflexive, messages_in_order}
use Rattle.definitions.proofs.Ordered.{Ordered, ordered_once, ordered_select, ordered_both}
use Rattle.definitions.proofs.Tools.{split, select_yes, select_no, select_passes, select_from, select_keeps}

-- "highest score first, equal scores by message" (demand 3)
abbrev pub Precedes : (List ℕ → ℕ) → List ℕ → List ℕ → Type 0
Precedes score_of f g = (score_of g ≤ score_of f) × (score_of f ≡ score_of g → Before f g)

-- so no row that precedes another is the same
pub precedes_apart : (score_of : List ℕ → ℕ) (f g : List ℕ) → Precedes score_of f g → f ≢ g
precedes_apart score_of f g p same = before_irreflexive g (subst (λ (h : List ℕ). Before h g) same (p.1 (ap score_of same)))

pub record AllAbove (C : Code) (n k : ℕ) (m : List ℕ) (t : ℕ) : Type 0 where
  -- each is a message of k symbols
  pub sized : (f : List ℕ) → Memᴰ f (above C n k m t) → length f ≡ k
  pub symbols : (f : List ℕ) → Memᴰ f (above C n k m t) → Symbols C f
  -- with a score greater than t
  pub greater : (f : List ℕ) → Memᴰ f (above C n k m t) → t < score C n m f
  -- and every such message is among them
  pub each : (f : List ℕ) → length f ≡ k → Symbols C f → t < score C n m f → Memᴰ f (above C n k m t)
  -- each row comes before every later one
  pub ordered : Ordered (Precedes (score C n m)) (above C n k m t)
  -- no two rows hold the same
  pub once : (i j : ℕ) → i < length (above C n k m t) → j < length (above C n k m t) → get_or (above C n k m t) i [] ≡ get_or (above C n k m t) j [] → i ≡ j

-- where those of each score are in order, any two of one score are
by_score : {B : Type 0} (score_of : B → ℕ) (R : B → B → Type 0) (l : List B) → ((s : ℕ) → Ordered R (select (scored score_of s) l)) → Ordered (λ f g. score_of f ≡ score_of g → R f g) l
by_score score_of R [] h = tt
by_score score_of R (x ∷ l) h = (
  λ y m e.
      (let s = score_of x in
      (rw (select_yes (scored score_of s) x l (eq-eqb s s refl)) at (h s)).0 y (select_keeps (scored score_of s) l y (eq-eqb (score_of y) s (sym e)) m)),
  by_score score_of R l
      (λ s. split (scored score_of s x) (λ y. (rw (select_yes (scored score_of s) x l y) at (h s)).1) (λ n. rw (select_no (scored score_of s) x l n) at (h s))),
)

module _ (C : Code) (pos : 0 < C.symbols) (n k : ℕ) (m : List ℕ) (t : ℕ) where
  abbrev greater_score : List ℕ → Bool
  greater_score f = ltb t (score C n m f)

  falling : Falling (score C n m) (select greater_score (messages C k))
  falling = falling_in_order (score C n m) (select greater_score (messages C k))

  selected : (f : List ℕ) → Memᴰ f (above C n k m t) → Memᴰ f (messages C k)
  selected f h = select_from greater_score (messages C k) f (falling.from f h)

  in_order : Ordered (Precedes (score C n m)) (above C n k m t)
  in_order =
      ordered_both (λ f g. score C n m g ≤ score C n m f) (λ f g. score C n m f ≡ score C n m g → Before f g) (above C n k m t) falling.falls
      (by_score (score C n m) Before (above C n k m t) (λ s.
      rw (falling.stable s)
      (ordered_select Before (scored (score C n m) s) (select greater_score (messages C k))
      (ordered_select Before greater_score (messages C k) (messages_in_order C pos k).ordered))))

  -- the list of document 01 holds every message above t once, in its order
  pub above_in_order : AllAbove C n k m t
  above_in_order = record {
    sized = λ f h. (messages_in_order C pos k).sized f (selected f h);
    symbols = λ f h. (messages_in_order C pos k).symbols f (selected f h);
    greater = λ f h. ltb-true t (score C n m f) (select_passes greater_score (messages C k) f (falling.from f h));
    each = λ f e s h. falling.each f (select_keeps greater_score (messages C k) f (lt-ltb t (score C n m f) h) ((messages_in_order C pos k).each f e s));
    ordered = in_order;
    once = ordered_once (Precedes (score C n m)) (λ f p. before_irreflexive f (p.1 refl)) (above C n k m t) in_order [];
  }
