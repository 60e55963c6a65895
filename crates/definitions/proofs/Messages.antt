-- The theorem on messages: all lists of k symbols, each once, by the first symbol, then the second and so on, smaller symbol first.
-- Assumes nothing.
use mathlib.Core.List.Memᴰ
use mathlib.Core.List.{List, [], ◌∷◌, map, flat_map, Memᴰ}
use mathlib.Core.Logic.{◌⊎◌, inl, inr, ⊎_elim}
use mathlib.Core.Path.{◌≡◌, refl, sym, ◌∙◌, ap, subst}
use Prim.Native.Nat.{ℕ, zero, suc, ◌<◌}
use native.Mathlib.Nat.{suc_inj, suc-ne-zero}
use native.Mathlib.Omega.{arith}
use lib.ListN.{length, get_or}
use Rattle.definitions.specs.Code.{Symbols, messages}
use Rattle.definitions.specs.Field.{Code}
use Rattle.definitions.specs.Tools.{below}
use Rattle.definitions.proofs.Joined.{join_member, member_join, ordered_join}
use Rattle.definitions.proofs.Ordered.{Ordered, ordered_map, ordered_once, below_ordered}
use Rattle.definitions.proofs.Symbols.{cons_symbols}
use Rattle.definitions.proofs.Tools.{below_member, member_below}

-- "ordered by f₀, then f₁ and so on, smaller symbol first"
abbrev pub Before : List ℕ → List ℕ → Type 0
Before [] g = ⊥
Before (a ∷ f) [] = ⊥
Before (a ∷ f) (b ∷ g) = (a < b) ⊎ ((a ≡ b) × Before f g)

pub record AllMessages (C : Code) (k : ℕ) : Type 0 where
  -- "A message is k symbols"
  pub sized : (f : List ℕ) → Memᴰ f (messages C k) → length f ≡ k
  -- every entry is a symbol
  pub symbols : (f : List ℕ) → Memᴰ f (messages C k) → Symbols C f
  -- every list of k symbols is among them
  pub each : (f : List ℕ) → length f ≡ k → Symbols C f → Memᴰ f (messages C k)
  -- by the first symbol, then the second and so on
  pub ordered : Ordered Before (messages C k)
  -- no two places hold the same
  pub once : (i j : ℕ) → i < length (messages C k) → j < length (messages C k) → get_or (messages C k) i [] ≡ get_or (messages C k) j [] → i ≡ j

-- no list is before itself
pub before_irreflexive : (f : List ℕ) → Before f f → ⊥
before_irreflexive [] b = b
before_irreflexive (a ∷ f) b = ⊎_elim (λ h. let z : ⊥ = omega arith in z) (λ h. before_irreflexive f h.1) b

module _ (C : Code) where
  -- of no symbols there is one message
  pub messages_zero : messages C 0 ≡ [] ∷ []
  unfolding messages
  messages_zero = refl

  -- those that begin with c
  abbrev pub beginning : ℕ → ℕ → List (List ℕ)
  beginning k c = map (λ (f : List ℕ). c ∷ f) (messages C k)

  -- those of one symbol more, by their first symbol
  pub messages_suc : (k : ℕ) → messages C (suc k) ≡ flat_map (beginning k) (below C.symbols)
  unfolding messages
  messages_suc k = refl

  -- a message of k + 1 symbols is a symbol and a message of k
  parts : (k : ℕ) (f : List ℕ) → Memᴰ f (messages C (suc k)) → (c : ℕ) × (c < C.symbols) × ((g : List ℕ) × Memᴰ g (messages C k) × (c ∷ g ≡ f))
  parts k f m =
      let r = member_join (beginning k) (below C.symbols) f (rw (messages_suc k) at m) in
      (r.0, member_below C.symbols r.0 r.1, Memᴰ.of_map (λ (f : List ℕ). r.0 ∷ f) (messages C k) r.2)

  -- each has k symbols
  sized_of : (k : ℕ) (f : List ℕ) → Memᴰ f (messages C k) → length f ≡ k
  sized_of zero f m = ap length (Memᴰ.eq_of_singleton (rw messages_zero at m))
  sized_of (suc k) f m = let r = parts k f m in ap length (sym r.2.2) ∙ ap suc (sized_of k r.2.0 r.2.1)

  -- each entry is a symbol
  symbols_of : 0 < C.symbols → (k : ℕ) (f : List ℕ) → Memᴰ f (messages C k) → Symbols C f
  symbols_of pos zero f m = subst (Symbols C) (sym (Memᴰ.eq_of_singleton (rw messages_zero at m))) (λ j. pos)
  symbols_of pos (suc k) f m =
      let r = parts k f m in
      subst (Symbols C) r.2.2 (cons_symbols C r.0 r.2.0 r.1 (symbols_of pos k r.2.0 r.2.1))

  -- every list of k symbols is among them
  each_of : (k : ℕ) (f : List ℕ) → length f ≡ k → Symbols C f → Memᴰ f (messages C k)
  each_of zero [] e s = rw messages_zero (Memᴰ.head refl)
  each_of zero (c ∷ f) e s = absurd (suc-ne-zero (length f) e)
  each_of (suc k) [] e s = absurd (suc-ne-zero k (sym e))
  each_of (suc k) (c ∷ f) e s =
      rw (messages_suc k)
      (join_member (beginning k) (below C.symbols) c (c ∷ f) (below_member C.symbols c (s 0))
      (Memᴰ.map (λ (f : List ℕ). c ∷ f) (each_of k f (suc_inj e) (λ j. s (suc j)))))

  -- they stand in order, for those of k + 1 symbols by the first, then as those of k
  ordered_of : (k : ℕ) → Ordered Before (messages C k)
  ordered_of zero = rw messages_zero (λ y m. absurd (Memᴰ.not-nil m), tt)
  ordered_of (suc k) =
      rw (messages_suc k)
      (ordered_join (beginning k) Before ◌<◌
      (λ c. ordered_map Before Before (λ (f : List ℕ). c ∷ f) (messages C k) (λ f g _ _ h. inr (refl, h)) (ordered_of k))
      (λ a b f g h s t.
      let p = Memᴰ.of_map (λ (f : List ℕ). a ∷ f) (messages C k) s in
      let q = Memᴰ.of_map (λ (f : List ℕ). b ∷ f) (messages C k) t in
      subst (Before f) q.2 (subst (λ (e : List ℕ). Before e (b ∷ q.0)) p.2 (inl h)))
      (below C.symbols) (below_ordered C.symbols))

  -- messages holds every list of k symbols once, in document 01's order
  pub messages_in_order : 0 < C.symbols → (k : ℕ) → AllMessages C k
  messages_in_order pos k = record {
    sized = sized_of k;
    symbols = symbols_of pos k;
    each = each_of k;
    ordered = ordered_of k;
    once = ordered_once Before before_irreflexive (messages C k) (ordered_of k) [];
  }
