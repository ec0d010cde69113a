-- Laws of the vector: what the code computes is what the definitions say, and what is in order is in range.
--
--     Factor     factor_plain       the factor is e / g, with g = gcd(s, e), also where e divides s
--                factor_positive    it is above 0
--                factor_exact       factor × s = (s / g) × e, so that e divides it: factor_divides
--                numerator_plain    (factor × s) / e = s / g
--     Lengths    unit_length        12 numerators at the start
--                back_length        and after any number of pivot columns
--     Checked    some_is number_none    what `checked` gives of a vector that is in range, and of one that is not
--                is_some is_none    and what it says of it
--     Columns    back_none          no pivot column left
--                back_more          one pivot column, where the vector is in order
--                back_stops         a vector that is out of range stays as it is
--     Ranges     InRange v          numerators and q are at most 1,000,000 in magnitude
--                range_is  unit_in_range  back_in_range  back_all_in_range  vector_in_range
--                                   vectors that test as in range are
--                vector_by          the vector, by the answer of the test whether it has to be given a denominator
--                range_bounded      the numerators are then Bounded
--                OutOfRange v       a numerator or q is above 1,000,000 in magnitude: numerator_out or denominator_out
--                vector_out         a vector that does not test as in range is out of range, and only then: out_vector
--
-- Assumes nothing.
use mathlib.Core.Path.{◌≡◌, refl, sym, ap, ap₂, subst⁻¹, ◌∙◌}
use mathlib.Core.List.{List, [], ◌∷◌}
use mathlib.Core.Bool.{Bool, true, false, cond, ◌&&◌}
use Prim.Native.Nat.{ℕ, zero, suc, ◌<◌, ◌≤◌}
use native.Mathlib.Omega.{arith}
use native.Mathlib.Decide.{dec_lt}
use borrow.Author.Tests.{leb-false}
use lib.Dec.{eqb}
use lib.ListN.{length}
use lib.IntN.{ℤ, pos, neg_ℤ, nat_abs, ◌*ℤ◌, zero-*ℤ}
use lib.Signed.{quot_z}
use Rattle.std.proofs.Common.{Some, None}
use Rattle.integers.specs.Range.{is_zero, within, Positive}
use Rattle.integers.specs.Divisibility.{◌∣ℤ◌, divides}
use Rattle.integers.specs.Gcd.{gcd_ℤ}
use Rattle.integers.specs.Below.{all_below}
use Rattle.integers.specs.Run.{at}
use Rattle.integers.proofs.Laws.Ring.{one_mul}
use Rattle.integers.proofs.Laws.Normaliser.{ring!, quote}
use Rattle.integers.proofs.Laws.Order.{positive_ne, positive_of}
use Rattle.integers.proofs.Laws.Division.{quot-mul}
use Rattle.integers.proofs.Laws.Divisibility.{∣_refl, ∣_antisym, ∣_exact, divides_true}
use Rattle.integers.proofs.Laws.Gcd.{gcd_left, gcd_right, gcd_greatest}
use Rattle.integers.proofs.Laws.Below.{all_place}
use Rattle.integers.proofs.Laws.Decide.{Decides, decides_false, by_and, by_all, by_within}
use Rattle.integers.proofs.Laws.Run.{at_end, tabulate-length}
use Rattle.problem.specs.WellFormed.{million}
use Rattle.search.specs.Table.{cell, Bounded}
use Rattle.search.specs.State.{State, pivot_of}
use Rattle.search.specs.Vector.{Vector, in_range, checked, unit_vector, column_sum, factor_of, back_one, back_by, back_from, denominator_by, vector_of}

-- Factor ---------------------------------------------------------------------------------------------------------------

module _ (s e : ℤ) (p : Positive e) where
  -- where e divides s, the gcd is e
  gcd_whole : e ∣ℤ s → gcd_ℤ s e ≡ e
  unfolding gcd_ℤ
  gcd_whole d = ap pos (∣_antisym (gcd_right s e) (gcd_greatest e s e d (∣_refl e)) ∙ ap nat_abs p.is) ∙ sym p.is

  pub factor_plain : factor_of s e ≡ quot_z e (gcd_ℤ s e)
  unfolding factor_of
  factor_plain = go (divides e s) refl
    where
      go : (b : Bool) → divides e s ≡ b → cond b (pos 1) (quot_z e (gcd_ℤ s e)) ≡ quot_z e (gcd_ℤ s e)
      go false h = refl
      go true h = sym (ap₂ quot_z (sym (one_mul e)) (gcd_whole (divides_true e s h)) ∙ quot-mul (pos 1) e (positive_ne p))

  exact_right : factor_of s e *ℤ gcd_ℤ s e ≡ e
  exact_right = ap (λ x. x *ℤ gcd_ℤ s e) factor_plain ∙ ∣_exact e (gcd_ℤ s e) (gcd_right s e)

  pub factor_exact : factor_of s e *ℤ s ≡ quot_z s (gcd_ℤ s e) *ℤ e
  factor_exact =
      let f = factor_of s e in
      let g = gcd_ℤ s e in
      ap (λ x. f *ℤ x) (sym (∣_exact s g (gcd_left s e))) ∙ turned f (quot_z s g) g ∙ ap (λ x. quot_z s g *ℤ x) exact_right
    where
      turned : (x y z : ℤ) → x *ℤ (y *ℤ z) ≡ y *ℤ (x *ℤ z)
      turned x y z = ring! (x ∷ y ∷ z ∷ []) (search quote depth 40 fits 20000) tt

  pub factor_divides : e ∣ℤ factor_of s e *ℤ s
  factor_divides = record { by = quot_z s (gcd_ℤ s e); is = factor_exact }

  pub factor_positive : Positive (factor_of s e)
  unfolding gcd_ℤ
  factor_positive =
      positive_of (factor_of s e) _ (factor_plain ∙ ap (λ x. quot_z x (gcd_ℤ s e)) p.is)
      (λ z. positive_ne p (sym exact_right ∙ ap (λ x. x *ℤ gcd_ℤ s e) z ∙ zero-*ℤ (gcd_ℤ s e)))

  pub numerator_plain : quot_z (factor_of s e *ℤ s) e ≡ quot_z s (gcd_ℤ s e)
  numerator_plain = ap (λ x. quot_z x e) factor_exact ∙ quot-mul (quot_z s (gcd_ℤ s e)) e (positive_ne p)

-- Lengths --------------------------------------------------------------------------------------------------------------

pub unit_length : (i : ℕ) (e : ℤ) → length (unit_vector i e).p ≡ 12
unfolding unit_vector
unit_length i e = tabulate-length 12 (λ k. cond (eqb k i) (pos 1) (pos 0))

module _ (m : ℕ) (t : List ℤ) (i k : ℕ) (v : Vector) where
  -- the numerators that one pivot column leaves
  abbrev new : ℕ → ℤ
  new r =
      let s = column_sum m t v.p k in
      let f = factor_of s (cell t i k) in
      cond (eqb r i) (neg_ℤ (quot_z (f *ℤ s) (cell t i k))) (f *ℤ at v.p r)

  one_length : length (back_one m t i k v).p ≡ 12
  unfolding back_one
  one_length = tabulate-length 12 new

pub back_length : (k m : ℕ) (t : List ℤ) (pivot : ℕ → ℕ) (v : Vector) → length v.p ≡ 12 → length (back_from k m t pivot v).p ≡ 12
unfolding back_from back_by
back_length zero m t pivot v l = l
back_length (suc k) m t pivot v l = back_length k m t pivot (back_by (in_range v) m t (pivot k) k v) (go (in_range v))
  where
    go : (b : Bool) → length (back_by b m t (pivot k) k v).p ≡ 12
    go true = one_length m t (pivot k) k v
    go false = l

-- Checked --------------------------------------------------------------------------------------------------------------

module _ (v : Vector) where
  checked_by : {b : Bool} → in_range v ≡ b → checked v ≡ cond b (Some v) None
  checked_by e = ap (λ (b : Bool). cond b (Some v) None) e

  pub some_is : in_range v ≡ true → Some v ≡ checked v
  some_is e = sym (checked_by e)

  pub number_none : in_range v ≡ false → None ≡ checked v
  number_none e = sym (checked_by e)

  pub is_some : (w : Vector) → checked v ≡ Some w → (w ≡ v) × (in_range v ≡ true)
  is_some w = go (in_range v) refl
    where
      go : (b : Bool) → in_range v ≡ b → cond b (Some v) None ≡ Some w → (w ≡ v) × (in_range v ≡ true)
      go true e f = (cc, e)
      go false e f = cc

  pub is_none : checked v ≡ None → in_range v ≡ false
  is_none = go (in_range v) refl
    where
      go : (b : Bool) → in_range v ≡ b → cond b (Some v) None ≡ None → in_range v ≡ false
      go true e f = cc
      go false e f = e

-- Columns --------------------------------------------------------------------------------------------------------------

module _ (m : ℕ) (t : List ℤ) (pivot : ℕ → ℕ) where
  pub back_none : (v : Vector) → back_from 0 m t pivot v ≡ v
  unfolding back_from
  back_none v = refl

  pub back_more : (k : ℕ) (v : Vector) → in_range v ≡ true → back_from (suc k) m t pivot v ≡ back_from k m t pivot (back_one m t (pivot k) k v)
  unfolding back_from back_by
  back_more k v h = ap (λ (b : Bool). back_from k m t pivot (back_by b m t (pivot k) k v)) h

  pub back_stops : (k : ℕ) (v : Vector) → in_range v ≡ false → back_from k m t pivot v ≡ v
  unfolding back_from back_by
  back_stops zero v h = refl
  back_stops (suc k) v h = ap (λ (b : Bool). back_from k m t pivot (back_by b m t (pivot k) k v)) h ∙ back_stops k v h

-- Ranges ---------------------------------------------------------------------------------------------------------------

pub record InRange (v : Vector) : Type 0 where
  pub numerators : (i : ℕ) → nat_abs (at v.p i) ≤ million
  pub denominator : nat_abs v.q ≤ million

pub range_bounded : {v : Vector} → InRange v → Bounded v.p
range_bounded {v} h = record { place = λ i. omega (arith, h.numerators i) }

by_range : (v : Vector) → Decides (in_range v) (((i : ℕ) → i < 12 → nat_abs (at v.p i) ≤ million) × (nat_abs v.q ≤ million))
by_range v = by_and (by_all 12 (λ i. within million (at v.p i)) (λ i. nat_abs (at v.p i) ≤ million) (λ i. by_within million (at v.p i))) (by_within million v.q)

pub range_is : (v : Vector) → length v.p ≡ 12 → in_range v ≡ true → InRange v
range_is v long ok =
    let h = (by_range v).yes ok in
    record {
      numerators = λ i. elim (dec_lt i 12) [
        | yes l ↦ h.0 i l
        | no l ↦ subst⁻¹ (λ (x : ℤ). nat_abs x ≤ million) (at_end v.p i (omega arith)) (omega arith)
      ];
      denominator = h.1;
    }

pub unit_in_range : (i : ℕ) (e : ℤ) → in_range (unit_vector i e) ≡ true → InRange (unit_vector i e)
unit_in_range i e = range_is (unit_vector i e) (unit_length i e)

pub back_in_range : (m : ℕ) (t : List ℤ) (i k : ℕ) (v : Vector) → in_range (back_one m t i k v) ≡ true → InRange (back_one m t i k v)
back_in_range m t i k v = range_is (back_one m t i k v) (one_length m t i k v)

pub back_all_in_range : (k m : ℕ) (t : List ℤ) (pivot : ℕ → ℕ) (v : Vector) → (in_range v ≡ true → InRange v) → in_range (back_from k m t pivot v) ≡ true → InRange (back_from k m t pivot v)
unfolding back_from back_by
back_all_in_range zero m t pivot v f h = f h
back_all_in_range (suc k) m t pivot v f h =
    go (in_range v) h (back_all_in_range k m t pivot (back_one m t (pivot k) k v) (back_in_range m t (pivot k) k v)) (back_all_in_range k m t pivot v f)
  where
    go : (b : Bool) → in_range (back_from k m t pivot (back_by b m t (pivot k) k v)) ≡ true
        → (in_range (back_from k m t pivot (back_one m t (pivot k) k v)) ≡ true → InRange (back_from k m t pivot (back_one m t (pivot k) k v)))
        → (in_range (back_from k m t pivot v) ≡ true → InRange (back_from k m t pivot v)) → InRange (back_from k m t pivot (back_by b m t (pivot k) k v))
    go true g x y = x g
    go false g x y = y g

pub vector_in_range : (s : State) (t : List ℤ) (e : ℤ) → in_range (vector_of s t e) ≡ true → InRange (vector_of s t e)
unfolding vector_of denominator_by
vector_in_range s t e h = go (in_range w && is_zero e) h
  where
    first : Vector
    first = unit_vector s.row e

    w : Vector
    w = back_from s.count s.given.m t (pivot_of s) first

    go : (b : Bool) → in_range (denominator_by b s w) ≡ true → InRange (denominator_by b s w)
    go false k = back_all_in_range s.count s.given.m t (pivot_of s) first (unit_in_range s.row e) k
    go true k =
        range_is (denominator_by true s w)
        (back_length s.count s.given.m t (pivot_of s) first (unit_length s.row e)) k

-- the definition, by the test's answer
pub vector_by : (s : State) (t : List ℤ) (e : ℤ) (b : Bool) → in_range (back_from s.count s.given.m t (pivot_of s) (unit_vector s.row e)) && is_zero e ≡ b →
    denominator_by b s (back_from s.count s.given.m t (pivot_of s) (unit_vector s.row e)) ≡ vector_of s t e
unfolding vector_of
vector_by s t e b h = ap (λ (x : Bool). denominator_by x s (back_from s.count s.given.m t (pivot_of s) (unit_vector s.row e))) (sym h)

pub data OutOfRange (v : Vector) : Type 0 where
  numerator_out : (i : ℕ) → i < 12 → million < nat_abs (at v.p i) → OutOfRange v
  denominator_out : million < nat_abs v.q → OutOfRange v

pub vector_out : (s : State) (t : List ℤ) (e : ℤ) → in_range (vector_of s t e) ≡ false → OutOfRange (vector_of s t e)
vector_out s t e h = go (all_below 12 (λ i. within million (at v.p i))) refl h
  where
    v : Vector
    v = vector_of s t e

    go : (b : Bool) → all_below 12 (λ i. within million (at v.p i)) ≡ b → b && within million v.q ≡ false → OutOfRange v
    go true p q = denominator_out (leb-false (nat_abs v.q) million q)
    go false p q = let r = all_place 12 (λ i. within million (at v.p i)) p in numerator_out r.0 r.1 (leb-false (nat_abs (at v.p r.0)) million r.2)

pub out_vector : (s : State) (t : List ℤ) (e : ℤ) → OutOfRange (vector_of s t e) → in_range (vector_of s t e) ≡ false
out_vector s t e out = decides_false (by_range (vector_of s t e)) (above out)
  where
    above : OutOfRange (vector_of s t e) → ((i : ℕ) → i < 12 → nat_abs (at (vector_of s t e).p i) ≤ million) × (nat_abs (vector_of s t e).q ≤ million) → ⊥
    above (numerator_out i l g) r = let h = r.0 i l in omega arith
    above (denominator_out g) r = let h = r.1 in omega arith
