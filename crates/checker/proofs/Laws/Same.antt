-- The normal form says the same as the fact.
--
--     Parts            divided_same     all numbers divided by a common factor that is not 0
--                      false_same       FALSE, where a common factor of modulus and coefficients does not divide the constant
--                      sign_same        coefficients and constant negated
--                      residue_near     x and its residue differ by a multiple of the modulus
--                      residues_same    coefficients and constant replaced by their residues
--     normal_same      the normal form and the fact
--     normal_zero      a coefficient that is 0 stays 0
--
-- Assumes nothing.
use mathlib.Core.Path.{◌≡◌, refl, sym, ◌∙◌, ap, ap₂, subst}
use mathlib.Core.List.{[], ◌∷◌}
use mathlib.Core.Bool.{Bool, true, false, cond}
use Prim.Native.Nat.{ℕ, ◌<◌}
use native.Mathlib.Omega.{arith}
use borrow.Author.Tests.{eqb-true}
use lib.Dec.{eqb}
use lib.IntN.{ℤ, pos, negsuc, neg_ℤ, nat_abs, ◌+ℤ◌, ◌-ℤ◌, ◌*ℤ◌, *ℤ_comm, zero-*ℤ, neg_ℤ-neg_ℤ}
use lib.Signed.{quot_z, rem_z}
use Rattle.integers.specs.Range.{is_zero, is_negative}
use Rattle.integers.specs.Divisibility.{◌∣ℤ◌, divides, Congruent}
use Rattle.integers.specs.Gcd.{gcd_from}
use Rattle.integers.specs.Sum.{dot}
use Rattle.integers.proofs.Laws.Ring.{from1, *ℤ_assoc, neg-mul}
use Rattle.integers.proofs.Laws.Normaliser.{ring!, quote}
use Rattle.integers.proofs.Laws.Division.{quot-rem, quot-zero, rem-zero}
use Rattle.integers.proofs.Laws.Divisibility.{∣_of_zero, zero-∣, ∣_sub, ∣_trans, ∣_eq, ∣_scale, ∣_cancel, ∣_exact, unit-∣, divides_true, divides_false, congruent_sym, congruent_neg, congruent-∣}
use Rattle.integers.proofs.Laws.Sum.{sum_ext, sum_zeros, sum_scale, sum-neg, dot-divides, dot_near}
use Rattle.integers.proofs.Laws.Gcd.{gcd_from_start, gcd_from_each}
use Rattle.integers.proofs.Laws.Decide.{by_zero, decides_no}
use Rattle.checker.specs.Fact.{Fact, Holds}
use Rattle.checker.specs.NormalForm.{true_fact, false_fact, divided, first_nonzero, sign_by, residue, residues, positive_by, equality_by, unit_by, congruence_by, normal_by, normal_form}
use Rattle.checker.specs.Promises.{Same}

same_refl : {n : ℕ} (f : Fact) → Same n f f
same_refl f = record { to = λ X h. h; from = λ X h. h }

same_trans : {n : ℕ} {f g h : Fact} → Same n f g → Same n g h → Same n f h
same_trans s t = record { to = λ X h. t.to X (s.to X h); from = λ X h. s.from X (t.from X h) }

-- TRUE and FALSE -------------------------------------------------------------------------------------------------------

zeros : (n : ℕ) (X : ℕ → ℤ) → dot n (λ j. pos 0) X ≡ pos 0
zeros n X = sum_zeros n (λ j. pos 0 *ℤ X j) (λ j l. zero-*ℤ (X j))

true_holds : (n : ℕ) (X : ℕ → ℤ) → Holds n true_fact X
true_holds n X = record { by = ∣_of_zero (pos 0) (ap (λ x. x -ℤ pos 0) (zeros n X)) }

false_fails : (n : ℕ) (X : ℕ → ℤ) → Holds n false_fact X → ⊥
false_fails n X h = let e = ap nat_abs (sym (ap (λ x. x -ℤ pos 1) (zeros n X)) ∙ zero-∣ h.by) in omega arith

module _ (n : ℕ) (f : Fact) where
  true_same : ((X : ℕ → ℤ) → Congruent f.modulus (dot n f.coef X) f.const) → Same n true_fact f
  true_same holds = record { to = λ X h. record { by = holds X }; from = λ X h. true_holds n X }

  false_same : (g : ℤ) → g ∣ℤ f.modulus → ((j : ℕ) → j < n → g ∣ℤ f.coef j) → (g ∣ℤ f.const → ⊥) → Same n false_fact f
  false_same g in_modulus in_coefs h = record {
    to = λ X s. absurd (false_fails n X s);
    from = λ X s. absurd (h (congruent-∣ g (dot n f.coef X) f.const (∣_trans in_modulus s.by) (dot-divides n g f.coef X in_coefs)));
  }

-- Parts ----------------------------------------------------------------------------------------------------------------

module _ (n : ℕ) (f : Fact) (g : ℤ) (g_ne : g ≡ pos 0 → ⊥) (in_modulus : g ∣ℤ f.modulus) (in_coefs : (j : ℕ) → j < n → g ∣ℤ f.coef j) (in-const : g ∣ℤ f.const) where
  whole : (x : ℤ) → g ∣ℤ x → g *ℤ quot_z x g ≡ x
  whole x h = *ℤ_comm g (quot_z x g) ∙ ∣_exact x g h

  abbrev rest : (ℕ → ℤ) → ℤ
  rest X = dot n (λ j. quot_z (f.coef j) g) X -ℤ quot_z f.const g

  value : (X : ℕ → ℤ) → g *ℤ rest X ≡ dot n f.coef X -ℤ f.const
  value X = ring! (g ∷ dot n (λ j. quot_z (f.coef j) g) X ∷ quot_z f.const g ∷ []) (search quote depth 40 fits 20000) tt ∙ ap₂ (λ x y. x -ℤ y) dots (whole f.const in-const)
    where
      dots : g *ℤ dot n (λ j. quot_z (f.coef j) g) X ≡ dot n f.coef X
      dots = sym (sum_scale n g (λ j. quot_z (f.coef j) g *ℤ X j))
          ∙ sum_ext n (λ j. g *ℤ (quot_z (f.coef j) g *ℤ X j)) (λ j. f.coef j *ℤ X j) (λ j l. sym (*ℤ_assoc g (quot_z (f.coef j) g) (X j)) ∙ ap (λ x. x *ℤ X j) (whole (f.coef j) (in_coefs j l)))

  divided_same : Same n (divided g f) f
  unfolding divided
  divided_same = record {
    to = λ X h. record { by = ∣_eq (value X) (subst (λ m. m ∣ℤ (g *ℤ rest X)) (whole f.modulus in_modulus) (∣_scale g h.by)) };
    from = λ X h. record { by = ∣_cancel g g_ne (subst (λ m. m ∣ℤ (g *ℤ rest X)) (sym (whole f.modulus in_modulus)) (∣_eq (sym (value X)) h.by)) };
  }

sign_same : (n : ℕ) (t : Bool) (f : Fact) → Same n (sign_by t f) f
unfolding sign_by
sign_same n false f = same_refl f
sign_same n true f = record {
  to = λ X h. record { by = ∣_eq (ap₂ (λ x y. x -ℤ y) (ap neg_ℤ (negated X) ∙ neg_ℤ-neg_ℤ (dot n f.coef X)) (neg_ℤ-neg_ℤ f.const)) (congruent_neg f.modulus (dot n (λ j. neg_ℤ (f.coef j)) X) (neg_ℤ f.const) h.by) };
  from = λ X h. record { by = ∣_eq (ap (λ x. x -ℤ neg_ℤ f.const) (sym (negated X))) (congruent_neg f.modulus (dot n f.coef X) f.const h.by) };
}
  where
    negated : (X : ℕ → ℤ) → dot n (λ j. neg_ℤ (f.coef j)) X ≡ neg_ℤ (dot n f.coef X)
    negated X = sum_ext n (λ j. neg_ℤ (f.coef j) *ℤ X j) (λ j. neg_ℤ (f.coef j *ℤ X j)) (λ j l. neg-mul (f.coef j) (X j)) ∙ sum-neg n (λ j. f.coef j *ℤ X j)

pub residue_near : (m x : ℤ) → Congruent m x (residue m x)
unfolding residue
residue_near m x = go (is_negative (rem_z x m))
  where
    go : (t : Bool) → Congruent m x (cond t (rem_z x m +ℤ m) (rem_z x m))
    go false = record { by = quot_z x m; is = from1 (negsuc 0) (quot-rem x m) (ring! (x ∷ m ∷ quot_z x m ∷ rem_z x m ∷ []) (search quote depth 40 fits 20000) tt) }
    go true = record { by = quot_z x m -ℤ pos 1; is = from1 (negsuc 0) (quot-rem x m) (ring! (x ∷ m ∷ quot_z x m ∷ rem_z x m ∷ []) (search quote depth 40 fits 20000) tt) }

residues_same : (n : ℕ) (f : Fact) → Same n (residues f) f
residues_same n f = let m = f.modulus in record {
  to = λ X h. record { by = dot_near n m (λ j. residue m (f.coef j)) f.coef X (residue m f.const) f.const (λ j l. back (f.coef j)) (back f.const) h.by };
  from = λ X h. record { by = dot_near n m f.coef (λ j. residue m (f.coef j)) X f.const (residue m f.const) (λ j l. residue_near m (f.coef j)) (residue_near m f.const) h.by };
}
  where
    back : (x : ℤ) → Congruent f.modulus (residue f.modulus x) x
    back x = congruent_sym f.modulus x (residue f.modulus x) (residue_near f.modulus x)

unit_same : (n : ℕ) (t : Bool) (f : Fact) → eqb (nat_abs f.modulus) 1 ≡ t → Same n (unit_by t f) f
unfolding unit_by
unit_same n true f e = true_same n f (λ X. unit-∣ f.modulus (dot n f.coef X -ℤ f.const) (eqb-true (nat_abs f.modulus) 1 e))
unit_same n false f e = residues_same n f

-- The normal form ------------------------------------------------------------------------------------------------------

module _ (n : ℕ) (f : Fact) (g : ℤ) (in_modulus : g ∣ℤ f.modulus) (in_coefs : (j : ℕ) → j < n → g ∣ℤ f.coef j) where
  -- "M = 0", g = 0
  none_same : g ≡ pos 0 → (k : Bool) → is_zero f.const ≡ k → Same n (cond k true_fact false_fact) f
  none_same e true k = true_same n f (λ X. ∣_sub (∣_of_zero f.modulus (zero-∣ (subst (λ x. x ∣ℤ dot n f.coef X) e (dot-divides n g f.coef X in_coefs)))) (∣_of_zero f.modulus ((by_zero f.const).yes k)))
  none_same e false k = false_same n f g in_modulus in_coefs (λ h. decides_no (by_zero f.const) k (zero-∣ (subst (λ x. x ∣ℤ f.const) e h)))

  -- "M = 0", g > 0
  positive_same : (g ≡ pos 0 → ⊥) → (t : Bool) → divides g f.const ≡ t → Same n (positive_by t n (divided g f)) f
  unfolding positive_by
  positive_same g_ne false e = false_same n f g in_modulus in_coefs (divides_false g f.const e)
  positive_same g_ne true e = same_trans (sign_same n (is_negative (first_nonzero n (divided g f).coef)) (divided g f)) (divided_same n f g g_ne in_modulus in_coefs (divides_true g f.const e))

  equality_same : (z : Bool) → is_zero g ≡ z → Same n (equality_by z g n f) f
  unfolding equality_by
  equality_same true z = none_same ((by_zero g).yes z) (is_zero f.const) refl
  equality_same false z = positive_same (decides_no (by_zero g) z) (divides g f.const) refl

  -- "M > 0"
  congruence_same : (f.modulus ≡ pos 0 → ⊥) → (t : Bool) → divides g f.const ≡ t → Same n (congruence_by t (divided g f)) f
  unfolding congruence_by
  congruence_same m-ne false e = false_same n f g in_modulus in_coefs (divides_false g f.const e)
  congruence_same m-ne true e = same_trans (unit_same n (eqb (nat_abs (divided g f).modulus) 1) (divided g f) refl)
      (divided_same n f g (λ z. m-ne (zero-∣ (subst (λ x. x ∣ℤ f.modulus) z in_modulus))) in_modulus in_coefs (divides_true g f.const e))

pub normal_same : (n : ℕ) (f : Fact) → Same n (normal_form n f) f
unfolding normal_form normal_by
normal_same n f = go (is_zero f.modulus) refl
  where
    go : (t : Bool) → is_zero f.modulus ≡ t → Same n (normal_by t n f) f
    go true e = let g = gcd_from (pos 0) n f.coef in
        equality_same n f g (∣_of_zero g ((by_zero f.modulus).yes e)) (gcd_from_each (pos 0) n f.coef) (is_zero g) refl
    go false e = let g = gcd_from f.modulus n f.coef in
        congruence_same n f g (gcd_from_start f.modulus n f.coef) (gcd_from_each f.modulus n f.coef) (decides_no (by_zero f.modulus) e) (divides g f.const) refl

-- Zeros ----------------------------------------------------------------------------------------------------------------

residue-zero : (m x : ℤ) → x ≡ pos 0 → residue m x ≡ pos 0
unfolding residue
residue-zero m x e = ap (λ r. cond (is_negative r) (r +ℤ m) r) (ap (λ y. rem_z y m) e ∙ rem-zero m)

pub normal_zero : (n : ℕ) (f : Fact) (j : ℕ) → f.coef j ≡ pos 0 → (normal_form n f).coef j ≡ pos 0
unfolding normal_form normal_by equality_by positive_by congruence_by unit_by sign_by divided
normal_zero n f j e = go (is_zero f.modulus)
  where
    over : (g : ℤ) → (divided g f).coef j ≡ pos 0
    over g = ap (λ x. quot_z x g) e ∙ quot-zero g

    sign : (t : Bool) (h : Fact) → h.coef j ≡ pos 0 → (sign_by t h).coef j ≡ pos 0
    sign false h z = z
    sign true h z = ap neg_ℤ z

    positive : (t : Bool) (h : Fact) → h.coef j ≡ pos 0 → (positive_by t n h).coef j ≡ pos 0
    positive false h z = refl
    positive true h z = sign (is_negative (first_nonzero n h.coef)) h z

    constant : (k : Bool) → (cond k true_fact false_fact).coef j ≡ pos 0
    constant true = refl
    constant false = refl

    equality : (z : Bool) (g : ℤ) → (equality_by z g n f).coef j ≡ pos 0
    equality true g = constant (is_zero f.const)
    equality false g = positive (divides g f.const) (divided g f) (over g)

    unit : (t : Bool) (h : Fact) → h.coef j ≡ pos 0 → (unit_by t h).coef j ≡ pos 0
    unit true h z = refl
    unit false h z = residue-zero h.modulus (h.coef j) z

    congruence : (t : Bool) (h : Fact) → h.coef j ≡ pos 0 → (congruence_by t h).coef j ≡ pos 0
    congruence false h z = refl
    congruence true h z = unit (eqb (nat_abs h.modulus) 1) h z

    go : (t : Bool) → (normal_by t n f).coef j ≡ pos 0
    go true = let g = gcd_from (pos 0) n f.coef in equality (is_zero g) g
    go false = let g = gcd_from f.modulus n f.coef in congruence (divides g f.const) (divided g f) (over g)
