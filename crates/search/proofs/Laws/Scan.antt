-- What the two columns are that a step takes, among the k columns from lo on.
--
--     Turns      least_none  least_more      at a loop's j = lo, and from j to j + 1
--     Found      other_found     the first other column, as a chain finds it
--     Least      Least, least_is     it is among them, unless there is none, and no nonzero one is of smaller magnitude
--                least_zero          it is 0: it is the first of them
--     Other      Other, other_is     it is a nonzero one of them, unless it is the first, and then all others are 0
--
-- Assumes nothing.
use mathlib.Core.Path.{◌≡◌, refl, sym, ◌∙◌, ap, ap₂, subst}
use mathlib.Core.Bool.{Bool, true, false, not, cond, ◌&&◌, true≢false, false≢true}
use Prim.Native.Nat.{ℕ, zero, suc, ◌+◌, ◌-◌, ◌<◌, ◌≤◌}
use native.Mathlib.Omega.{arith}
use native.Mathlib.Decide.{ℕ_discrete}
use borrow.Author.Tests.{eqb-true, eqb-false, eq-eqb, ne_eqb, ltb-true, ltb-false}
use lib.Dec.{eqb, ltb}
use lib.IntN.{ℤ, pos, nat_abs}
use Rattle.std.proofs.Common.{Option, None, Some, unwrap_or, option_map, find}
use Rattle.std.specs.List.{range_with_len}
use Rattle.integers.specs.Range.{is_zero}
use Rattle.integers.proofs.Laws.Magnitude.{nat_abs_zero}
use Rattle.search.specs.Step.{comes_before, better, least, otherwise, other}

-- Turns ----------------------------------------------------------------------------------------------------------------

pub least_none : (v : ℕ → ℤ) (lo : ℕ) → lo ≡ least v lo (lo - lo)
unfolding least
least_none v lo = let e : lo - lo ≡ 0 = omega arith in ap (least v lo) (sym e)

pub least_more : (v : ℕ → ℤ) (lo j : ℕ) → lo ≤ j → better v (least v lo (j - lo)) j ≡ least v lo (j + 1 - lo)
unfolding least
least_more v lo j h =
    let a : j + 1 - lo ≡ suc (j - lo) = omega arith in
    let b : lo + (j - lo) ≡ j = omega arith in
    sym (ap (least v lo) a ∙ ap (better v (least v lo (j - lo))) b)

-- the search goes on from a column that was found, or from the first itself
scan : (ℕ → ℤ) → ℕ → ℕ → ℕ → ℕ → ℕ
scan v first so_far r zero = so_far
scan v first so_far r (suc n) = otherwise v first (scan v first so_far r n) (r + n)

module _ (v : ℕ → ℤ) (first : ℕ) where
  scan_first : (so_far r n : ℕ) → scan v first so_far r (suc n) ≡ scan v first (otherwise v first so_far r) (r + 1) n
  unfolding scan
  scan_first so_far r zero = let e : r + 0 ≡ r = omega arith in ap (otherwise v first so_far) e
  scan_first so_far r (suc n) = let e : r + suc n ≡ r + 1 + n = omega arith in ap₂ (otherwise v first) (scan_first so_far r n) e

  scan_stays : (so_far r n : ℕ) → (so_far ≡ first → ⊥) → scan v first so_far r n ≡ so_far
  unfolding scan otherwise
  scan_stays so_far r zero h = refl
  scan_stays so_far r (suc n) h =
      ap (λ (k : ℕ). otherwise v first k (r + n)) (scan_stays so_far r n h) ∙ ap (λ (t : Bool). cond (t && not (is_zero (v (r + n)))) (r + n) so_far) (ne_eqb so_far first h)

  other_scan : (r n : ℕ) → other v first r n ≡ scan v first first r n
  unfolding scan other
  other_scan r zero = refl
  other_scan r (suc n) = ap (λ (k : ℕ). otherwise v first k (r + n)) (other_scan r n)

  abbrev is_other : ℕ → Bool
  is_other j = not (eqb j first) && not (is_zero (v j))

  found : (r n : ℕ) → unwrap_or (find is_other (range_with_len r n)) first ≡ scan v first first r n
  unfolding scan otherwise
  found r zero = refl
  found r (suc n) = go (eqb r first) (is_zero (v r)) refl refl (found (r + 1) n) ∙ sym (scan_first first r n)
    where
      chosen : (none : Bool) → is_zero (v r) ≡ none → otherwise v first first r ≡ cond (not none) r first
      chosen none f = ap₂ (λ (s t : Bool). cond (s && not t) r first) (eq-eqb first first refl) f

      go : (same none : Bool) → eqb r first ≡ same → is_zero (v r) ≡ none →
          unwrap_or (find is_other (range_with_len (r + 1) n)) first ≡ scan v first first (r + 1) n →
          unwrap_or (cond (not same && not none) (Some r) (find is_other (range_with_len (r + 1) n))) first ≡ scan v first (otherwise v first first r) (r + 1) n
      go true true e f rest = rest ∙ ap (λ (k : ℕ). scan v first k (r + 1) n) (sym (chosen true f))
      go true false e f rest = rest ∙ ap (λ (k : ℕ). scan v first k (r + 1) n) (sym (chosen false f ∙ eqb-true r first e))
      go false true e f rest = rest ∙ ap (λ (k : ℕ). scan v first k (r + 1) n) (sym (chosen true f))
      go false false e f rest = sym (ap (λ (k : ℕ). scan v first k (r + 1) n) (chosen false f) ∙ scan_stays r (r + 1) n (eqb-false r first e))

  pub other_found : (r n : ℕ) (o : Option ℕ) → option_map (λ x. x) o ≡ find is_other (range_with_len r n) → unwrap_or o first ≡ other v first r n
  other_found r n o e = go o e ∙ found r n ∙ sym (other_scan r n)
    where
      go : (o : Option ℕ) → option_map (λ x. x) o ≡ find is_other (range_with_len r n) → unwrap_or o first ≡ unwrap_or (find is_other (range_with_len r n)) first
      go None e = ap (λ (o : Option ℕ). unwrap_or o first) e
      go (Some x) e = ap (λ (o : Option ℕ). unwrap_or o first) e

-- Least ----------------------------------------------------------------------------------------------------------------

pub record Least (v : ℕ → ℤ) (lo k best : ℕ) : Type 0 where
  pub low : lo ≤ best
  pub high : best ≤ lo + k
  pub in_range : 0 < k → best < lo + k
  pub least : (j : ℕ) → lo ≤ j → j < lo + k → 0 < nat_abs (v j) → (0 < nat_abs (v best)) × (nat_abs (v best) ≤ nat_abs (v j))

comes_yes : (x y : ℤ) → comes_before x y ≡ true → (0 < nat_abs x) × (0 < nat_abs y → nat_abs x < nat_abs y)
comes_yes x y e = go (is_zero x) (is_zero y) refl refl e
  where
    go : (a b : Bool) → is_zero x ≡ a → is_zero y ≡ b → not a && cond b true (ltb (nat_abs x) (nat_abs y)) ≡ true → (0 < nat_abs x) × (0 < nat_abs y → nat_abs x < nat_abs y)
    go true b p q t = absurd (false≢true t)
    go false true p q t = let n = eqb-false (nat_abs x) 0 p in let m = eqb-true (nat_abs y) 0 q in (omega arith, λ h. absurd (omega arith))
    go false false p q t = let n = eqb-false (nat_abs x) 0 p in let l = ltb-true (nat_abs x) (nat_abs y) t in (omega arith, λ h. l)

comes_no : (x y : ℤ) → comes_before x y ≡ false → 0 < nat_abs x → (0 < nat_abs y) × (nat_abs y ≤ nat_abs x)
comes_no x y e h = go (is_zero x) (is_zero y) refl refl e
  where
    go : (a b : Bool) → is_zero x ≡ a → is_zero y ≡ b → not a && cond b true (ltb (nat_abs x) (nat_abs y)) ≡ false → (0 < nat_abs y) × (nat_abs y ≤ nat_abs x)
    go true b p q t = let n = eqb-true (nat_abs x) 0 p in absurd (omega arith)
    go false true p q t = absurd (true≢false t)
    go false false p q t = let n = eqb-false (nat_abs y) 0 q in (omega arith, ltb-false (nat_abs x) (nat_abs y) t)

pub least_is : (v : ℕ → ℤ) (lo k : ℕ) → Least v lo k (least v lo k)
unfolding least better
least_is v lo zero = record { low = omega arith; high = omega arith; in_range = λ h. absurd (omega arith); least = λ j l h. absurd (omega arith) }
least_is v lo (suc k) = step (least v lo k) (least_is v lo k) (comes_before (v (lo + k)) (v (least v lo k))) refl
  where
    step : (best : ℕ) → Least v lo k best → (t : Bool) → comes_before (v (lo + k)) (v best) ≡ t → Least v lo (suc k) (cond t (lo + k) best)
    step best r true e = let c = comes_yes (v (lo + k)) (v best) e in record {
      low = omega arith;
      high = omega arith;
      in_range = λ h. omega arith;
      least = λ j l h n. elim (ℕ_discrete j (lo + k)) [
        | yes q ↦ (c.0, subst (λ (i : ℕ). nat_abs (v (lo + k)) ≤ nat_abs (v i)) (sym q) (omega arith))
        | no q ↦ let s = r.least j l (omega arith) n in let u = c.1 s.0 in (c.0, omega arith)
      ];
    }
    step best r false e = let low = r.low in let high = r.high in record {
      low = low;
      high = omega arith;
      in_range = λ h. omega arith;
      least = λ j l h n. elim (ℕ_discrete j (lo + k)) [
        | yes q ↦ subst (λ (i : ℕ). (0 < nat_abs (v best)) × (nat_abs (v best) ≤ nat_abs (v i))) (sym q) (comes_no (v (lo + k)) (v best) e (subst (λ (i : ℕ). 0 < nat_abs (v i)) q n))
        | no q ↦ r.least j l (omega arith) n
      ];
    }

-- where the least is 0 all are, and it is the first of them
pub least_zero : (v : ℕ → ℤ) (lo k : ℕ) → v (least v lo k) ≡ pos 0 → least v lo k ≡ lo
unfolding least better
least_zero v lo zero e = refl
least_zero v lo (suc k) e = step (least v lo k) (least_zero v lo k) (comes_before (v (lo + k)) (v (least v lo k))) refl e
  where
    step : (best : ℕ) → (v best ≡ pos 0 → best ≡ lo) → (t : Bool) → comes_before (v (lo + k)) (v best) ≡ t → v (cond t (lo + k) best) ≡ pos 0 → cond t (lo + k) best ≡ lo
    step best r true c z = let n = (comes_yes (v (lo + k)) (v best) c).0 in let m = ap nat_abs z in absurd (omega arith)
    step best r false c z = r z

-- Other ----------------------------------------------------------------------------------------------------------------

pub record Other (v : ℕ → ℤ) (first lo k so_far : ℕ) : Type 0 where
  pub found : (so_far ≡ first → ⊥) → (lo ≤ so_far) × (so_far < lo + k) × (0 < nat_abs (v so_far))
  pub none : so_far ≡ first → (j : ℕ) → lo ≤ j → j < lo + k → (j ≡ first → ⊥) → v j ≡ pos 0

pub other_is : (v : ℕ → ℤ) (first lo k : ℕ) → Other v first lo k (other v first lo k)
unfolding other otherwise
other_is v first lo zero = record { found = λ h. absurd (h refl); none = λ e j l h. absurd (omega arith) }
other_is v first lo (suc k) = step (other v first lo k) (other_is v first lo k) (eqb (other v first lo k) first) (is_zero (v (lo + k))) refl refl
  where
    step : (t : ℕ) → Other v first lo k t → (a b : Bool) → eqb t first ≡ a → is_zero (v (lo + k)) ≡ b → Other v first lo (suc k) (cond (a && not b) (lo + k) t)
    step t r false b p q = let d = eqb-false t first p in let s = r.found d in record { found = λ h. (s.0, omega arith, s.2); none = λ e. absurd (d e) }
    step t r true true p q = let e = eqb-true t first p in record {
      found = λ h. absurd (h e);
      none = λ g j l h d. elim (ℕ_discrete j (lo + k)) [
        | yes s ↦ ap v s ∙ nat_abs_zero (v (lo + k)) (eqb-true (nat_abs (v (lo + k))) 0 q)
        | no s ↦ r.none e j l (omega arith) d
      ];
    }
    step t r true false p q = let e = eqb-true t first p in let n = eqb-false (nat_abs (v (lo + k))) 0 q in record {
      found = λ h. (omega arith, omega arith, omega arith);
      none = λ g j l h d. elim (ℕ_discrete j (lo + k)) [ yes s ↦ absurd (d (s ∙ g)) | no s ↦ r.none e j l (omega arith) d ];
    }
