-- The starred lines hold: all but one are computed.
-- Assumes nothing.
use mathlib.Core.List.{[], ◌∷◌, flat_map}
use mathlib.Core.Path.{◌≡◌, refl}
use Rattle.definitions.specs.Code.{messages}
use Rattle.definitions.specs.Field.{sixteen, power, value, sum_of, double, shifted}
use Rattle.definitions.specs.Listing.{list_of, placed, falling_onto}
use Rattle.definitions.specs.Polynomial.{terms, is_zero}
use Rattle.definitions.specs.Roots.{roots_of, plus, scaled, times, powers, compose}
use Rattle.definitions.specs.Tools.{below, sum, smallest, select}
use Rattle.starred.proofs.HardWord.{hard_word_lem}
use Rattle.starred.specs.Single.{single, hard_word}
use Rattle.starred.specs.Starred.{Starred, best}

best_of_112 : best 3 (hard_word (1 ∷ 1 ∷ 2 ∷ [])) (messages sixteen 2) ≡ 2
unfolding single best messages flat_map power value sum_of double shifted below sum
best_of_112 = refl

list_of_112 : list_of sixteen 3 2 (hard_word (1 ∷ 1 ∷ 2 ∷ [])) ≡ []
unfolding single messages flat_map power value sum_of double shifted below sum smallest select falling_onto
list_of_112 = refl

list_of_1112 : list_of sixteen 4 2 (hard_word (1 ∷ 1 ∷ 1 ∷ 2 ∷ [])) ≡ (1 ∷ 0 ∷ []) ∷ []
unfolding single messages flat_map power value sum_of double shifted below sum smallest select placed falling_onto
list_of_1112 = refl

two_roots : roots_of sixteen 2 2 (0 ∷ 0 ∷ 0 ∷ 0 ∷ 1 ∷ 1 ∷ []) ≡ (0 ∷ 0 ∷ []) ∷ (0 ∷ 1 ∷ []) ∷ []
unfolding messages flat_map sum_of double shifted below select is_zero terms plus scaled times powers compose
two_roots = refl

root_once : roots_of sixteen 2 2 (0 ∷ 0 ∷ 0 ∷ 0 ∷ 0 ∷ 1 ∷ []) ≡ (0 ∷ 0 ∷ []) ∷ []
unfolding messages flat_map sum_of double shifted below select is_zero terms plus scaled times powers compose
root_once = refl

pub starred : Starred
unfolding single power value sum_of double shifted below sum smallest
starred = record {
  product = refl;
  inverse_of_2 = refl;
  inverse_of_3 = refl;
  multiplicity_of_1023 = refl;
  multiplicity_of_1024 = refl;
  encoded = refl;
  bound_of_15 = refl;
  bound_of_150 = refl;
  count_of_38 = refl;
  count_of_39 = refl;
  cost_of_111 = refl;
  bound_of_111 = refl;
  polynomial_of_111 = hard_word_lem;
  best_of_112 = best_of_112;
  list_of_112 = list_of_112;
  cost_of_1112 = refl;
  bound_of_1112 = refl;
  list_of_1112 = list_of_1112;
  score_of_1112 = refl;
  two_roots = two_roots;
  root_once = root_once;
}

-- an empty list, or one that never changes, is none: of two hard words the first has a row and the second has not
pub lists_differ : (list_of sixteen 3 2 (hard_word (1 ∷ 1 ∷ 1 ∷ [])) ≡ (1 ∷ 0 ∷ []) ∷ []) × (list_of sixteen 3 2 (hard_word (1 ∷ 1 ∷ 2 ∷ [])) ≡ [])
unfolding single messages flat_map power value sum_of double shifted below sum smallest select placed falling_onto
lists_differ = (refl, list_of_112)
