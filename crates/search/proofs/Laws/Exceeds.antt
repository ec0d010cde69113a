-- A step ends as too large exactly when it would put a number above its bound.
--
--     step_exceeds     a step from an unfinished state ends as too large: it would
--     exceeds_step     it would: it ends as too large
--
-- Assumes nothing.
use mathlib.Core.Path.{◌≡◌, refl, sym, ap, subst, subst⁻¹, ◌∙◌}
use mathlib.Core.Bool.{Bool, true, false, cond, true≢false}
use Prim.Native.Nat.{ℕ, ◌+◌, ◌<◌}
use native.Mathlib.Omega.{arith}
use borrow.Author.Tests.{eqb-true, eqb-false, eq-eqb, ne_eqb, leb-false}
use lib.Dec.{eqb}
use lib.IntN.{ℤ, nat_abs}
use Rattle.integers.specs.Range.{is_zero, within}
use Rattle.integers.specs.Divisibility.{divides}
use Rattle.integers.specs.Below.{all_below}
use Rattle.integers.proofs.Laws.Below.{all_place, all_false}
use Rattle.integers.proofs.Laws.Decide.{decides_no, decides_false, by_zero, by_within, by_divides}
use Rattle.search.specs.Table.{bound, cell, subtraction_fits}
use Rattle.search.specs.State.{Given, State, Outcome, Unfinished, TooLarge}
use Rattle.search.specs.Step.{first_column, second_column, too_large, quotient, reduce_by, reduce_of, place_of, solve_by, last_by, closed, passed, placed, place_by, go_on_by, refute_by, close_by, close_of, step_by, step_of}
use Rattle.search.specs.Run.{is_unfinished}
use Rattle.search.specs.Answer.{is_refuted, is_solved}
use Rattle.search.specs.Promises.{reduced_cell, closed_table, closed_entry, closed_residual, closed_z, closed_next, closed_vector, Closes, GoesOn, Exceeds, large_cell, large_z, large_place, large_numerator, large_denominator}
use Rattle.search.specs.Vector.{in_range}
use Rattle.search.proofs.Laws.Vector.{OutOfRange, numerator_out, denominator_out, vector_out, out_vector}

above : (B : ℕ) (z : ℤ) → within B z ≡ false → B < nat_abs z
above B z e = leb-false (nat_abs z) B e

outside : (B : ℕ) (z : ℤ) → B < nat_abs z → within B z ≡ false
outside B z h = decides_false (by_within B z) (λ l. omega arith)

not_large : (o : Outcome) → o ≡ Unfinished → o ≡ TooLarge → ⊥
not_large o e f = true≢false (ap is_unfinished (sym e ∙ f))

-- The last row -----------------------------------------------------------------------------------------------------------

-- `next` has closed the last row of s, and a place of its point is too large
record LastExceeds (next : State) : Type 0 where
  last : next.row ≡ next.given.m
  k : ℕ
  in_point : k < next.given.n
  large : bound < nat_abs (place_of next k)

module _ (s next : State) where
  abbrev fits : ℕ → Bool
  fits k = within bound (place_of next k)

  closed_exceeds : next.outcome ≡ Unfinished → (closed s next).outcome ≡ TooLarge → LastExceeds next
  unfolding closed last_by solve_by
  closed_exceeds goes = last (eqb next.row next.given.m) refl
    where
      solve : (b : Bool) → all_below next.given.n fits ≡ b → next.row ≡ next.given.m → (solve_by b s next).outcome ≡ TooLarge → LastExceeds next
      solve true p e h = absurd (true≢false (ap is_solved h))
      solve false p e h = let r = all_place next.given.n fits p in record { last = e; k = r.0; in_point = r.1; large = above bound (place_of next r.0) r.2 }

      last : (b : Bool) → eqb next.row next.given.m ≡ b → (last_by b s next).outcome ≡ TooLarge → LastExceeds next
      last true e = solve (all_below next.given.n fits) refl (eqb-true next.row next.given.m e)
      last false e = λ h. absurd (not_large next.outcome goes h)

  exceeds_closed : LastExceeds next → (closed s next).outcome ≡ TooLarge
  unfolding closed last_by solve_by too_large
  exceeds_closed x =
      ap (λ (b : Bool). (last_by b s next).outcome) (eq-eqb next.row next.given.m x.last)
      ∙ ap (λ (b : Bool). (solve_by b s next).outcome) (all_false next.given.n fits x.k x.in_point (outside bound (place_of next x.k) x.large))

-- A step ---------------------------------------------------------------------------------------------------------------

module _ (s : State) where
  abbrev first : ℕ
  first = first_column s

  abbrev second : ℕ
  second = second_column s

  abbrev q : ℤ
  q = quotient (cell s.cells s.row second) (cell s.cells s.row first)

  next_is : (b : Bool) → is_zero (closed_entry s) ≡ b → closed_next s ≡ cond b (passed s (closed_table s)) (placed s (closed_table s) (closed_z s))
  next_is b z = ap (λ (b : Bool). cond b (passed s (closed_table s)) (placed s (closed_table s) (closed_z s))) z

  module _ (goes : s.outcome ≡ Unfinished) where
    reduce_exceeds : (Closes s → ⊥) → (reduce_of s first second).outcome ≡ TooLarge → Exceeds s
    unfolding reduce_of reduce_by
    reduce_exceeds apart = go (subtraction_fits s.cells first second q) refl
      where
        go : (b : Bool) → subtraction_fits s.cells first second q ≡ b → (reduce_by b s first second q).outcome ≡ TooLarge → Exceeds s
        go true p h = absurd (not_large s.outcome goes h)
        go false p h = let r = all_place 36 (λ i. within bound (reduced_cell s i)) p in large_cell apart r.0 r.1 (above bound (reduced_cell s r.0) r.2)

    module _ (alone : Closes s) where
      place_exceeds : GoesOn s → (next : State) → closed_next s ≡ next → next.row ≡ s.row + 1 → next.given ≡ s.given → LastExceeds next → Exceeds s
      place_exceeds d next e row given x = large_place alone d
          (sym row ∙ x.last ∙ ap (λ (g : Given). g.m) given)
          x.k
          (subst (λ (g : Given). x.k < g.n) given x.in_point)
          (subst⁻¹ (λ (n : State). bound < nat_abs (place_of n x.k)) e x.large)

      go_on_exceeds : GoesOn s → (b : Bool) → is_zero (closed_entry s) ≡ b → (go_on_by b s (closed_table s) (closed_entry s)).outcome ≡ TooLarge → Exceeds s
      unfolding go_on_by place_by passed placed
      go_on_exceeds d true z h = place_exceeds d (passed s (closed_table s)) (next_is true z) refl refl (closed_exceeds s (passed s (closed_table s)) goes h)
      go_on_exceeds d false z h = go (within bound (closed_z s)) refl h
        where
          go : (b : Bool) → within bound (closed_z s) ≡ b → (place_by b s (closed_table s) (closed_z s)).outcome ≡ TooLarge → Exceeds s
          go true p h = place_exceeds d (placed s (closed_table s) (closed_z s)) (next_is false z) refl refl (closed_exceeds s (placed s (closed_table s) (closed_z s)) goes h)
          go false p h = large_z alone d (decides_no (by_zero (closed_entry s)) z) (above bound (closed_z s) p)

      refute_exceeds : (GoesOn s → ⊥) → (b : Bool) → in_range (closed_vector s) ≡ b → (refute_by b s (closed_table s) (closed_vector s)).outcome ≡ TooLarge → Exceeds s
      unfolding refute_by
      refute_exceeds d true p h = absurd (true≢false (ap is_refuted h))
      refute_exceeds d false p h = out (vector_out s (closed_table s) (closed_entry s) p)
        where
          out : OutOfRange (closed_vector s) → Exceeds s
          out (numerator_out i l g) = large_numerator alone d i l g
          out (denominator_out g) = large_denominator alone d g

      close_exceeds : (close_of s first).outcome ≡ TooLarge → Exceeds s
      unfolding close_of close_by
      close_exceeds = way (divides (closed_entry s) (closed_residual s)) refl
        where
          way : (b : Bool) → divides (closed_entry s) (closed_residual s) ≡ b → (close_by b s (closed_table s) (closed_entry s)).outcome ≡ TooLarge → Exceeds s
          way true d = go_on_exceeds ((by_divides (closed_entry s) (closed_residual s)).yes d) (is_zero (closed_entry s)) refl
          way false d = refute_exceeds (decides_no (by_divides (closed_entry s) (closed_residual s)) d) (in_range (closed_vector s)) refl

    pub step_exceeds : (step_of s).outcome ≡ TooLarge → Exceeds s
    unfolding step_of step_by
    step_exceeds = way (eqb second first) refl
      where
        way : (b : Bool) → eqb second first ≡ b → (step_by b s first second).outcome ≡ TooLarge → Exceeds s
        way true e = close_exceeds (eqb-true second first e)
        way false e = reduce_exceeds (eqb-false second first e)

  -- a step that closes, by whether the entry divides the residual
  closes : Closes s → (b : Bool) → divides (closed_entry s) (closed_residual s) ≡ b → step_of s ≡ close_by b s (closed_table s) (closed_entry s)
  unfolding step_of step_by close_of
  closes alone b d = ap (λ (x : Bool). step_by x s first second) (eq-eqb second first alone) ∙ ap (λ (x : Bool). close_by x s (closed_table s) (closed_entry s)) d

  goes_on : Closes s → GoesOn s → (b : Bool) → is_zero (closed_entry s) ≡ b → step_of s ≡ go_on_by b s (closed_table s) (closed_entry s)
  unfolding close_by
  goes_on alone d b z = closes alone true ((by_divides (closed_entry s) (closed_residual s)).is d) ∙ ap (λ (x : Bool). go_on_by x s (closed_table s) (closed_entry s)) z

  refutes : Closes s → (GoesOn s → ⊥) → OutOfRange (closed_vector s) → (step_of s).outcome ≡ TooLarge
  unfolding close_by refute_by too_large
  refutes alone d out = ap (λ (x : State). x.outcome) (closes alone false (decides_false (by_divides (closed_entry s) (closed_residual s)) d))
      ∙ ap (λ (b : Bool). (refute_by b s (closed_table s) (closed_vector s)).outcome) (out_vector s (closed_table s) (closed_entry s) out)

  -- the next state has a place that is too large
  places : (b : Bool) → LastExceeds (cond b (passed s (closed_table s)) (placed s (closed_table s) (closed_z s))) → (go_on_by b s (closed_table s) (closed_entry s)).outcome ≡ TooLarge
  unfolding go_on_by place_by too_large
  places true x = exceeds_closed s (passed s (closed_table s)) x
  places false x = go (within bound (closed_z s))
    where
      go : (b : Bool) → (place_by b s (closed_table s) (closed_z s)).outcome ≡ TooLarge
      go true = exceeds_closed s (placed s (closed_table s) (closed_z s)) x
      go false = refl

  last_place : (b : Bool) → is_zero (closed_entry s) ≡ b → s.row + 1 ≡ s.given.m → (k : ℕ) → k < s.given.n → bound < nat_abs (place_of (closed_next s) k) →
      LastExceeds (cond b (passed s (closed_table s)) (placed s (closed_table s) (closed_z s)))
  unfolding passed placed
  last_place true z e k l g = record { last = e; k = k; in_point = l; large = subst (λ (n : State). bound < nat_abs (place_of n k)) (next_is true z) g }
  last_place false z e k l g = record { last = e; k = k; in_point = l; large = subst (λ (n : State). bound < nat_abs (place_of n k)) (next_is false z) g }

  pub exceeds_step : Exceeds s → (step_of s).outcome ≡ TooLarge
  unfolding step_of step_by reduce_of reduce_by go_on_by place_by too_large
  exceeds_step (large_cell apart i l g) =
      ap (λ (b : Bool). (step_by b s first second).outcome) (ne_eqb second first apart)
      ∙ ap (λ (b : Bool). (reduce_by b s first second q).outcome) (all_false 36 (λ i. within bound (reduced_cell s i)) i l (outside bound (reduced_cell s i) g))
  exceeds_step (large_z alone d some g) =
      ap (λ (x : State). x.outcome) (goes_on alone d false (decides_false (by_zero (closed_entry s)) some))
      ∙ ap (λ (b : Bool). (place_by b s (closed_table s) (closed_z s)).outcome) (outside bound (closed_z s) g)
  exceeds_step (large_place alone d e k l g) =
      ap (λ (x : State). x.outcome) (goes_on alone d (is_zero (closed_entry s)) refl)
      ∙ places (is_zero (closed_entry s)) (last_place (is_zero (closed_entry s)) refl e k l g)
  exceeds_step (large_numerator alone d i l g) = refutes alone d (numerator_out i l g)
  exceeds_step (large_denominator alone d g) = refutes alone d (denominator_out g)
