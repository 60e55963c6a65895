-- After any sequence of edits the stored numbers are those that the entries define, over any code.
-- Assumes nothing.
use mathlib.Core.Bool.{true, false}
use mathlib.Core.List.{List, [], ◌∷◌}
use mathlib.Core.Logic.{◌≢◌}
use mathlib.Core.Path.{◌≡◌, refl, sym, ◌∙◌, ap, subst}
use Prim.Native.Nat.{ℕ, ◌+◌, ◌*◌, ◌≤◌, ◌<◌}
use native.Mathlib.Decide.{dec_lt}
use native.Mathlib.Nat.{mul-suc, mul-add, mul-le-mul_left}
use native.Mathlib.Omega.{arith}
use lib.ListN.{length, get_or, drop, length-replicate, length-set, get_or-append, get_or-eq_default}
use lib.Seq.{get_or-set_other}
use Rattle.audit.specs.Sequences.{Edit, setting, clearing, adding, answer_to, after, after_all, Sound, EditLaws}
use Rattle.definitions.proofs.Editing.{added_at, length_added, out_of_two, out_of_three, position_means, symbol_means, same_size_means, stored_means}
use Rattle.definitions.proofs.Held.{Rightly, rightly_held, length_cleared, cleared_below, length_filled, filled_behind}
use Rattle.definitions.proofs.Table.{Accepts, next, end, accepts, zero_accepts, numbered, whatever, last, or, size_means, entries_mean, above_means}
use Rattle.definitions.proofs.Tools.{split}
use Rattle.definitions.proofs.Zeros.{zero_at}
use Rattle.definitions.specs.Answers.{Answer, costed}
use Rattle.definitions.specs.Editing.{edited, edit_answer, in_or_out, no_matrix, fresh_table, fresh_held, bytes_table, bytes_held, set_table, clear_table, add_table}
use Rattle.definitions.specs.Field.{Code}
use Rattle.definitions.specs.Held.{Held, places, no_entries, held_of, filled, with_entry, without_column, with_added}
use Rattle.definitions.specs.Limits.{greatest_level}
use Rattle.definitions.specs.Refusals.{Line}

module _ (C : Code) where
  -- what holds the numbers that its entries define is sound where its entries are
  holds : (n : ℕ) (e : List ℕ) → (2 ≤ n) × (n ≤ C.positions) → length e ≡ places C → ((j : ℕ) → C.symbols * n ≤ j → get_or e j 0 ≡ 0)
      → ((j : ℕ) → get_or e j 0 ≤ greatest_level) → Sound C (held_of C n e)
  holds n e sized full unused low =
      record { stored = refl; sized = sized; low = low; right = rightly_held C (held_of C n e) (record { full = full; totals_are = refl; cost_is = refl; unused = unused }) }

  no_entry : (j : ℕ) → get_or (no_entries C) j 0 ≡ 0
  no_entry j = zero_at (places C) j

  zeros_hold : (n : ℕ) → (2 ≤ n) × (n ≤ C.positions) → Sound C (held_of C n (no_entries C))
  zeros_hold n sized =
      holds n (no_entries C) sized (length-replicate {A = ℕ} (places C) 0) (λ j _. no_entry j) (λ j. let z = no_entry j in omega arith)

  fresh_sound : 2 ≤ C.positions → (n : ℕ) → Sound C (fresh_held C n)
  fresh_sound two n =
      whatever (Sound C) (λ _ _. no_matrix C) (held_of C n (no_entries C)) (fresh_table C n)
      (or (λ _. zeros_hold 2 (omega arith, two)) (λ s. last (zeros_hold n (size_means C n s))))

  bytes_sound : 2 ≤ C.positions → (n : ℕ) (m : List ℕ) → Sound C (bytes_held C n m)
  bytes_sound two n m =
      whatever (Sound C) (λ _ _. no_matrix C) (held_of C n (filled C m)) (bytes_table C n m)
      (or (λ _. none)
      (λ s. or (λ _. none)
      (λ e. or (λ _. none)
      (λ a. last
      (let size = entries_mean (C.symbols * n) m e in
      let sized = size_means C n s in
      let w : C.symbols * n ≤ places C = mul-le-mul_left C.symbols sized.1 in
      holds n (filled C m) sized (length_filled C m (omega arith)) (λ j l. filled_behind C m (omega arith) j (omega arith)) (low (omega arith) (above_means greatest_level m a)))))))
    where
      none : Sound C (no_matrix C)
      none = zeros_hold 2 (omega arith, two)

      low : length m ≤ places C → ((j : ℕ) → get_or m j 0 ≤ greatest_level) → (j : ℕ) → get_or (filled C m) j 0 ≤ greatest_level
      low small h j =
          elim (dec_lt j (length m)) [
            | yes l ↦ (let here = h j in let same = get_or-append m (drop (length m) (no_entries C)) 0 j l in omega arith)
            | no n ↦ (let z = filled_behind C m small j (omega arith) in omega arith)
          ]

  -- what comes out of an edit of a record that is rightly held
  module _ (h : Held) (sized : (2 ≤ h.n) × (h.n ≤ C.positions)) (right : Rightly C h) where
    set_out : (i b x : ℕ) → i < h.n → b < C.symbols → (in_or_out C (h.entries ∷ with_entry C h.entries i b x ∷ [])).given ≡ false
        → Sound C (held_of C h.n (with_entry C h.entries i b x))
    set_out i b x hi hb a =
        let full = length-set h.entries (C.symbols * i + b) x ∙ right.full in
        let w = mul-le-mul_left C.symbols hi in
        let m = mul-suc C.symbols i in
        holds h.n (with_entry C h.entries i b x) sized full
        (λ j l. get_or-set_other h.entries (C.symbols * i + b) j x 0 (λ e. let z : ⊥ = omega arith in z) ∙ right.unused j l)
        (out_of_two C h.entries (with_entry C h.entries i b x) full a)

    clear_out : (i : ℕ) → i < h.n → (in_or_out C (h.entries ∷ without_column C h.entries i ∷ [])).given ≡ false
        → Sound C (held_of C h.n (without_column C h.entries i))
    clear_out i hi a =
        let small = sized.1 in
        let all = right.full in
        let w : C.symbols * (i + 1) ≤ places C = mul-le-mul_left C.symbols (omega arith) in
        let m = mul-add C.symbols i 1 in
        let within : C.symbols * i + C.symbols ≤ length h.entries = omega arith in
        let full = length_cleared C h.entries i within ∙ all in
        holds h.n (without_column C h.entries i) sized full
        (λ j l. let below = cleared_below C h.entries i within j in let z = right.unused j l in omega arith)
        (out_of_two C h.entries (without_column C h.entries i) full a)

    add_out : (o : Held) → h.n ≡ o.n → Rightly C o → (in_or_out C (h.entries ∷ o.entries ∷ with_added h.entries o.entries ∷ [])).given ≡ false
        → Sound C (held_of C h.n (with_added h.entries o.entries))
    add_out o same r a =
        let full = length_added h.entries o.entries ∙ right.full in
        holds h.n (with_added h.entries o.entries) sized full
        (λ j l.
        elim (dec_lt j (length h.entries)) [
          | yes k ↦
              let here = added_at h.entries o.entries j k in
              let mine = right.unused j l in
              let e = ap (λ (n : ℕ). C.symbols * n) same in
              let theirs = r.unused j (omega arith) in
              omega arith
          | no k ↦ get_or-eq_default (with_added h.entries o.entries) 0 {n = j} (let e = length_added h.entries o.entries in omega arith)
        ])
        (out_of_three C h.entries o.entries (with_added h.entries o.entries) full a)

  -- ---- one edit

  -- its table, and the record that comes out where it is accepted
  table_of : Held → Edit → List Line
  table_of h (setting i b x) = set_table C h i b x
  table_of h (clearing i) = clear_table C h i
  table_of h (adding o) = add_table C h o

  out_of : Held → Edit → Held
  out_of h (setting i b x) = held_of C h.n (with_entry C h.entries i b x)
  out_of h (clearing i) = held_of C h.n (without_column C h.entries i)
  out_of h (adding o) = held_of C h.n (with_added h.entries o.entries)

  -- so its promise is told by them
  after_is : (h : Held) (e : Edit) → edited (table_of h e) h (out_of h e) ≡ after C h e
  unfolding table_of out_of
  after_is h (setting i b x) = refl
  after_is h (clearing i) = refl
  after_is h (adding o) = refl

  answer_is : (h : Held) (e : Edit) → answer_to C h e ≡ edit_answer (table_of h e) (out_of h e)
  unfolding table_of out_of
  answer_is h (setting i b x) = refl
  answer_is h (clearing i) = refl
  answer_is h (adding o) = refl

  all_numbered : (h : Held) (e : Edit) → numbered (table_of h e) ≡ true
  unfolding table_of
  all_numbered h (setting i b x) = refl
  all_numbered h (clearing i) = refl
  all_numbered h (adding o) = refl

  -- what comes out is sound, whatever went in
  out_sound : (h : Held) (e : Edit) → Accepts (table_of h e) → Sound C (out_of h e)
  unfolding table_of out_of
  out_sound h (setting i b x) (next n (next p (next q (next t (next a end))))) =
      set_out h (size_means C h.n n) (stored_means C h t) i b x (position_means h.n i p) (symbol_means C b q) a
  out_sound h (clearing i) (next n (next p (next t (next a end)))) =
      clear_out h (size_means C h.n n) (stored_means C h t) i (position_means h.n i p) a
  out_sound h (adding o) (next n (next m (next t (next u (next a end))))) =
      add_out h (size_means C h.n n) (stored_means C h t) o (same_size_means h.n o.n m) (stored_means C o u) a

  out_n : (h : Held) (e : Edit) → (out_of h e).n ≡ h.n
  unfolding out_of
  out_n h (setting i b x) = refl
  out_n h (clearing i) = refl
  out_n h (adding o) = refl

  -- a table refuses, or accepts
  either : (P : Held → Type 0) (before out : Held) (table : List Line) → P before → (Accepts table → P out) → P (edited table before out)
  either P before out [] r f = f end
  either P before out (l ∷ table) r f = split l.given (λ e. rw e r) (λ e. rw e (either P before out table r (λ a. f (next e a))))

  -- where it refuses, the record stays
  refused_before : (before out : Held) (table : List Line) → (edit_answer table out).number ≢ 0 → edited table before out ≡ before
  refused_before before out [] some = absurd (some refl)
  refused_before before out (l ∷ table) some = split l.given (λ e. rw e refl) (λ e. rw e (refused_before before out table (rw e at some)))

  after_sound : (h : Held) (e : Edit) → Sound C h → Sound C (after C h e)
  after_sound h e r = subst (Sound C) (after_is h e) (either (Sound C) h (out_of h e) (table_of h e) r (out_sound h e))

  -- ---- one after the other

  after_all_sound : (h : Held) (edits : List Edit) → Sound C h → Sound C (after_all C h edits)
  unfolding after_all
  after_all_sound h [] r = r
  after_all_sound h (e ∷ edits) r = after_all_sound (after C h e) edits (after_sound h e r)

  pub edit_laws : EditLaws C
  edit_laws = record {
    after_any_sequence = λ two n edits. after_all_sound (fresh_held C n) edits (fresh_sound two n);
    after_any_sequence_of_bytes = λ two n m edits. after_all_sound (bytes_held C n m) edits (bytes_sound two n m);
    accepted_sound = λ h e zero.
        let a = zero_accepts (table_of h e) (costed (out_of h e).cost 0) (all_numbered h e) (ap (λ (x : Answer). x.number) (sym (answer_is h e)) ∙ zero) in
        subst (Sound C) (accepts (λ _ _. h) (out_of h e) a ∙ after_is h e) (out_sound h e a);
    refused_stays = λ h e some. sym (after_is h e) ∙ refused_before h (out_of h e) (table_of h e) (λ zero. some (ap (λ (x : Answer). x.number) (answer_is h e) ∙ zero));
    keeps_n = λ h e. ap (λ (x : Held). x.n) (sym (after_is h e)) ∙ either (λ x. x.n ≡ h.n) h (out_of h e) (table_of h e) refl (λ _. out_n h e);
  }
