-- The short form, which the code computes, has the numbers of the normal form.
--
--     Agree n f h            f and h have the same n + 2 numbers
--     agree_trans            f and g, g and h: f and h
--     finished_ext           facts that agree are finished alike
--     short_ext              and have short forms that agree
--     finished_equality      modulus 0: what is left to do is the sign
--     finished_congruence    otherwise: what is left to do is TRUE or the residues
--     zeros_true             a fact with common factor 0 and constant 0 is finished as TRUE
--     short_same             short_form n f agrees with normal_form n f
--
-- Assumes nothing.
use mathlib.Core.Path.{◌≡◌, refl, sym, ◌∙◌, ap, ap₂, subst}
use mathlib.Core.Bool.{Bool, true, false, cond}
use Prim.Native.Nat.{ℕ, ◌<◌}
use lib.Dec.{eqb}
use lib.IntN.{ℤ, pos, neg_ℤ, nat_abs, ◌*ℤ◌, zero-*ℤ}
use lib.Signed.{quot_z}
use Rattle.integers.specs.Range.{is_zero, is_negative}
use Rattle.integers.specs.Divisibility.{◌∣ℤ◌, divides}
use Rattle.integers.specs.Gcd.{gcd_from}
use Rattle.integers.proofs.Laws.Division.{quot-zero}
use Rattle.integers.proofs.Laws.Divisibility.{zero-∣, ∣_of_zero, ∣_exact, quot_by_zero, divides_true, divides_false}
use Rattle.integers.proofs.Laws.Gcd.{gcd_from_start, gcd_from_each, gcd_from_abs}
use Rattle.integers.proofs.Laws.Decide.{by_zero, decides_no, decides_false}
use Rattle.checker.specs.Fact.{Fact}
use Rattle.checker.specs.NormalForm.{true_fact, false_fact, divided, first_nonzero, sign_by, residue, positive_by, equality_by, unit_by, congruence_by, normal_by, normal_form}
use Rattle.checker.specs.Code.{made_positive, finished_by, finished, short_by, common_factor, short_form}
use Rattle.checker.proofs.Laws.First.{first_ext}

pub record Agree (n : ℕ) (f h : Fact) : Type 0 where
  pub coefs : (j : ℕ) → j < n → f.coef j ≡ h.coef j
  pub const : f.const ≡ h.const
  pub modulus : f.modulus ≡ h.modulus

agree_eq : {n : ℕ} {f h : Fact} → f ≡ h → Agree n f h
agree_eq {n} {f} e = subst (λ (x : Fact). Agree n f x) e (record { coefs = λ j l. refl; const = refl; modulus = refl })

pub agree_trans : {n : ℕ} {f g h : Fact} → Agree n f g → Agree n g h → Agree n f h
agree_trans s t = record { coefs = λ j l. s.coefs j l ∙ t.coefs j l; const = s.const ∙ t.const; modulus = s.modulus ∙ t.modulus }

-- Only the n + 2 numbers count -----------------------------------------------------------------------------------------

module _ (n : ℕ) where
  sign_ext : (t : Bool) (f h : Fact) → Agree n f h → Agree n (sign_by t f) (sign_by t h)
  unfolding sign_by
  sign_ext false f h e = e
  sign_ext true f h e = record { coefs = λ j l. ap neg_ℤ (e.coefs j l); const = ap neg_ℤ e.const; modulus = e.modulus }

  positive_ext : (f h : Fact) → Agree n f h → Agree n (made_positive n f) (made_positive n h)
  unfolding made_positive
  positive_ext f h e = subst (λ x. Agree n (made_positive n f) (sign_by (is_negative x) h)) (first_ext n f.coef h.coef e.coefs) (sign_ext (is_negative (first_nonzero n f.coef)) f h e)

  unit_ext : (t : Bool) (f h : Fact) → Agree n f h → Agree n (unit_by t f) (unit_by t h)
  unfolding unit_by
  unit_ext true f h e = agree_eq refl
  unit_ext false f h e = record { coefs = λ j l. ap₂ residue e.modulus (e.coefs j l); const = ap₂ residue e.modulus e.const; modulus = e.modulus }

  finished_ext : (f h : Fact) → Agree n f h → Agree n (finished n f) (finished n h)
  unfolding finished finished_by
  finished_ext f h e = subst (λ m. Agree n (finished n f) (finished_by (is_zero m) n h)) e.modulus (go (is_zero f.modulus))
    where
      go : (t : Bool) → Agree n (finished_by t n f) (finished_by t n h)
      go true = positive_ext f h e
      go false = subst (λ m. Agree n (finished_by false n f) (unit_by (eqb (nat_abs m) 1) h)) e.modulus (unit_ext (eqb (nat_abs f.modulus) 1) f h e)

  divided_ext : (g : ℤ) (f h : Fact) → Agree n f h → Agree n (divided g f) (divided g h)
  unfolding divided
  divided_ext g f h e = record { coefs = λ j l. ap (λ x. quot_z x g) (e.coefs j l); const = ap (λ x. quot_z x g) e.const; modulus = ap (λ x. quot_z x g) e.modulus }

  pub short_ext : (f h : Fact) → Agree n f h → Agree n (short_form n f) (short_form n h)
  unfolding short_form short_by
  short_ext f h e = subst (λ x. Agree n (short_form n f) (short_by (divides x h.const) n (divided x h))) factor
      (subst (λ k. Agree n (short_form n f) (short_by (divides g k) n (divided g h))) e.const (go (divides g f.const)))
    where
      g : ℤ
      g = common_factor n f

      factor : g ≡ common_factor n h
      factor = gcd_from_abs f.modulus n f.coef h.coef (λ j l. ap nat_abs (e.coefs j l)) ∙ ap (λ x. gcd_from x n h.coef) e.modulus

      go : (t : Bool) → Agree n (short_by t n (divided g f)) (short_by t n (divided g h))
      go false = agree_eq refl
      go true = finished_ext (divided g f) (divided g h) (divided_ext g f h e)

-- A fact without common factor -----------------------------------------------------------------------------------------

pub finished_equality : (n : ℕ) (f : Fact) → f.modulus ≡ pos 0 → finished n f ≡ made_positive n f
unfolding finished finished_by
finished_equality n f e = ap (λ (t : Bool). finished_by t n f) ((by_zero f.modulus).is e)

pub finished_congruence : (n : ℕ) (f : Fact) → (f.modulus ≡ pos 0 → ⊥) → finished n f ≡ unit_by (eqb (nat_abs f.modulus) 1) f
unfolding finished finished_by
finished_congruence n f h = ap (λ (t : Bool). finished_by t n f) (decides_false (by_zero f.modulus) h)

sign_zeros : (n : ℕ) (t : Bool) (f : Fact) → ((j : ℕ) → j < n → f.coef j ≡ pos 0) → f.const ≡ pos 0 → f.modulus ≡ pos 0 → Agree n (sign_by t f) true_fact
unfolding sign_by
sign_zeros n false f c k m = record { coefs = c; const = k; modulus = m }
sign_zeros n true f c k m = record { coefs = λ j l. ap neg_ℤ (c j l); const = ap neg_ℤ k; modulus = m }

-- A fact divided by a common factor ------------------------------------------------------------------------------------

module _ (n : ℕ) (f : Fact) (g : ℤ) (in_modulus : g ∣ℤ f.modulus) (in_coefs : (j : ℕ) → j < n → g ∣ℤ f.coef j) where
  pub zeros_true : g ≡ pos 0 → g ∣ℤ f.const → Agree n (finished n (divided g f)) true_fact
  unfolding divided made_positive
  zeros_true e h =
      let none : quot_z f.modulus g ≡ pos 0 = quot_by_zero f.modulus g e in_modulus in
      subst (λ (x : Fact). Agree n x true_fact) (sym (finished_equality n (divided g f) none))
      (sign_zeros n (is_negative (first_nonzero n (divided g f).coef)) (divided g f) (λ j l. quot_by_zero (f.coef j) g e (in_coefs j l)) (quot_by_zero f.const g e h) none)

  -- "M = 0", by whether g is 0
  equality_agrees : f.modulus ≡ pos 0 → (z : Bool) → is_zero g ≡ z → Agree n (short_by (divides g f.const) n (divided g f)) (equality_by z g n f)
  unfolding short_by equality_by positive_by divided made_positive
  equality_agrees m false z = some (divides g f.const)
    where
      some : (t : Bool) → Agree n (short_by t n (divided g f)) (positive_by t n (divided g f))
      some false = agree_eq refl
      some true = agree_eq (finished_equality n (divided g f) (ap (λ x. quot_z x g) m ∙ quot-zero g))
  equality_agrees m true z = none (divides g f.const) refl (is_zero f.const) refl
    where
      g_zero : g ≡ pos 0
      g_zero = (by_zero g).yes z

      none : (t : Bool) → divides g f.const ≡ t → (k : Bool) → is_zero f.const ≡ k → Agree n (short_by t n (divided g f)) (cond k true_fact false_fact)
      none false t false k = agree_eq refl
      none false t true k = absurd (divides_false g f.const t (∣_of_zero g ((by_zero f.const).yes k)))
      none true t false k = absurd (decides_no (by_zero f.const) k (zero-∣ (subst (λ x. x ∣ℤ f.const) g_zero (divides_true g f.const t))))
      none true t true k = zeros_true g_zero (divides_true g f.const t)

  -- "M > 0"
  congruence_agrees : (f.modulus ≡ pos 0 → ⊥) → (t : Bool) → Agree n (short_by t n (divided g f)) (congruence_by t (divided g f))
  unfolding short_by congruence_by divided
  congruence_agrees m false = agree_eq refl
  congruence_agrees m true = agree_eq (finished_congruence n (divided g f) (λ e. m (sym (∣_exact f.modulus g in_modulus) ∙ ap (λ x. x *ℤ g) e ∙ zero-*ℤ g)))

-- The two forms --------------------------------------------------------------------------------------------------------

pub short_same : (n : ℕ) (f : Fact) → Agree n (short_form n f) (normal_form n f)
unfolding short_form normal_form normal_by
short_same n f = go (is_zero f.modulus) refl
  where
    in_modulus : common_factor n f ∣ℤ f.modulus
    in_modulus = gcd_from_start f.modulus n f.coef

    in_coefs : (j : ℕ) → j < n → common_factor n f ∣ℤ f.coef j
    in_coefs = gcd_from_each f.modulus n f.coef

    go : (t : Bool) → is_zero f.modulus ≡ t → Agree n (short_by (divides (common_factor n f) f.const) n (divided (common_factor n f) f)) (normal_by t n f)
    go true e =
        let m : f.modulus ≡ pos 0 = (by_zero f.modulus).yes e in
        subst (λ x. Agree n (short_by (divides (common_factor n f) f.const) n (divided (common_factor n f) f)) (equality_by (is_zero (gcd_from x n f.coef)) (gcd_from x n f.coef) n f)) m
        (equality_agrees n f (common_factor n f) in_modulus in_coefs m (is_zero (common_factor n f)) refl)
    go false e = congruence_agrees n f (common_factor n f) in_modulus in_coefs (decides_no (by_zero f.modulus) e) (divides (common_factor n f) f.const)
