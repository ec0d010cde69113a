-- Laws of the greatest common divisor.
--
--     Two naturals    gcd_ℕ-zero       gcd_ℕ a 0 = a
--                     gcd_ℕ_step       b ≠ 0: gcd_ℕ a b = gcd_ℕ b (a % b)
--                     gcd_ℕ_unique     a natural that divides both and that every common divisor divides is gcd_ℕ a b
--                     gcd_ℕ_le         a ≤ C and b ≤ C: gcd_ℕ a b ≤ C
--     Two integers    gcd_left         gcd_ℤ a b ∣ a          gcd_right    gcd_ℤ a b ∣ b
--                     gcd_greatest     d ∣ a and d ∣ b: d ∣ gcd_ℤ a b
--                     gcd_bezout       gcd_ℤ a b = u a + v b for some u, v
--                     gcd_abs          only magnitudes count
--     Many            gcd_from g k f, the gcd of g and of f 0, .., f (k - 1)
--                     gcd_from_none    gcd_from g 0 f = g
--                     gcd_from_more    gcd_from g (k + 1) f, at the code's k + 1
--                     gcd_from_turn    the same for a natural that holds the gcd so far, as a loop has it
--                     gcd_from_start   it divides g           gcd_from_each   it divides each f i
--                     gcd_from_greatest    what divides g and each f i divides it
--                     gcd_from_bezout  it is u g + w 0 × f 0 + .. + w (k - 1) × f (k - 1) for some u, w
--                     gcd_from_natural     it is a natural if g is
--                     gcd_from_le      magnitudes at most C: so is it
--                     gcd_from_abs     only magnitudes count
--                     gcd_from_near    the f i may change by multiples of g
--                     gcd_from_divided     g and all f i divided by their gcd have gcd 1
--
-- Assumes nothing.
use mathlib.Core.Path.{◌≡◌, refl, sym, ◌∙◌, ap, ap₂, subst}
use mathlib.Core.Bool.{Bool, cond}
use mathlib.Core.List.{[], ◌∷◌}
use Prim.Native.Nat.{ℕ, zero, suc, ◌+◌, ◌/◌, ◌%◌, ◌<◌, ◌≤◌}
use native.Mathlib.Numerals.{add-one}
use native.Mathlib.Nat.{mod-lt, div-add-mod', zero-lt-suc}
use native.Mathlib.Omega.{arith}
use native.Mathlib.Decide.{ℕ_discrete}
use borrow.Author.Tests.{eq-eqb, ne_eqb}
use lib.Dec.{eqb}
use lib.IntN.{ℤ, pos, negsuc, nat_abs, ◌+ℤ◌, ◌-ℤ◌, ◌*ℤ◌, *ℤ_comm}
use lib.Signed.{quot_z}
use Rattle.integers.specs.Divisibility.{◌∣ℤ◌}
use Rattle.integers.specs.Gcd.{euclid, gcd_ℕ, gcd_ℤ, gcd_from}
use Rattle.integers.specs.Sum.{sum}
use Rattle.integers.proofs.Laws.Ring.{from2, mul_one}
use Rattle.integers.proofs.Laws.Normaliser.{ring!, quote}
use Rattle.integers.proofs.Laws.Magnitude.{signed_abs}
use Rattle.integers.proofs.Laws.Divisibility.{∣_refl, ∣_zero, ∣_add, ∣_trans, ∣_linear, ∣_eq, ∣_scale, ∣_cancel, ∣_antisym, ∣_one, abs-∣, ∣_of_rem, ∣_exact}
use Rattle.integers.proofs.Laws.Sum.{sum_ext, sum_scale}

-- Euclid's algorithm ---------------------------------------------------------------------------------------------------

-- more steps than the second number change nothing
enough : (k l a b : ℕ) → b < k → b < l → euclid k a b ≡ euclid l a b
unfolding euclid
enough zero l a b h g = absurd (omega arith)
enough (suc k) zero a b h g = absurd (omega arith)
enough (suc k) (suc l) a zero h g = refl
enough (suc k) (suc l) a (suc b) h g = let r = mod-lt a (zero-lt-suc b) in enough k l (suc b) (a % suc b) (omega arith) (omega arith)

euclid-divides : (k a b : ℕ) → b < k → (pos (euclid k a b) ∣ℤ pos a) × (pos (euclid k a b) ∣ℤ pos b)
unfolding euclid
euclid-divides zero a b h = absurd (omega arith)
euclid-divides (suc k) a zero h = (∣_refl (pos a), ∣_zero (pos a))
euclid-divides (suc k) a (suc b) h =
    let r = euclid-divides k (suc b) (a % suc b) (omega (arith, mod-lt a (zero-lt-suc b))) in
    (∣_of_rem (pos a) (pos (suc b)) r.0 r.1, r.0)

pub record Bezout (g a b : ℤ) : Type 0 where
  pub u : ℤ
  pub v : ℤ
  pub is : g ≡ u *ℤ a +ℤ v *ℤ b

euclid_bezout : (k a b : ℕ) → b < k → Bezout (pos (euclid k a b)) (pos a) (pos b)
unfolding euclid
euclid_bezout zero a b h = absurd (omega arith)
euclid_bezout (suc k) a zero h = record { u = pos 1; v = pos 0; is = ap pos (omega arith) }
euclid_bezout (suc k) a (suc b) h = onward (euclid k (suc b) (a % suc b)) (euclid_bezout k (suc b) (a % suc b) (omega (arith, mod-lt a (zero-lt-suc b))))
  where
    combine : (g a b q r u v : ℤ) → g ≡ u *ℤ b +ℤ v *ℤ r → q *ℤ b +ℤ r ≡ a → g ≡ v *ℤ a +ℤ (u -ℤ v *ℤ q) *ℤ b
    combine g a b q r u v e f = from2 (pos 1) v e f (ring! (g ∷ a ∷ b ∷ q ∷ r ∷ u ∷ v ∷ []) (search quote depth 40 fits 20000) tt)

    onward : (g : ℕ) → Bezout (pos g) (pos (suc b)) (pos (a % suc b)) → Bezout (pos g) (pos a) (pos (suc b))
    onward g z = record {
      u = z.v;
      v = z.u -ℤ z.v *ℤ pos (a / suc b);
      is = combine (pos g) (pos a) (pos (suc b)) (pos (a / suc b)) (pos (a % suc b)) z.u z.v z.is (ap pos (div-add-mod' a (suc b)));
    }

-- Two naturals ---------------------------------------------------------------------------------------------------------

pub gcd_ℕ-zero : (a : ℕ) → gcd_ℕ a 0 ≡ a
unfolding gcd_ℕ euclid
gcd_ℕ-zero a = refl

pub gcd_ℕ_step : (a b : ℕ) → 0 < b → gcd_ℕ a b ≡ gcd_ℕ b (a % b)
unfolding gcd_ℕ euclid
gcd_ℕ_step a zero h = absurd (omega arith)
gcd_ℕ_step a (suc b) h = enough (suc b) (suc (a % suc b)) (suc b) (a % suc b) (mod-lt a (zero-lt-suc b)) (omega arith)

euclid_le : (k a b C : ℕ) → a ≤ C → b ≤ C → euclid k a b ≤ C
unfolding euclid
euclid_le zero a b C h g = h
euclid_le (suc k) a zero C h g = h
euclid_le (suc k) a (suc b) C h g = euclid_le k (suc b) (a % suc b) C g (omega (arith, mod-lt a (zero-lt-suc b)))

pub gcd_ℕ_le : (a b C : ℕ) → a ≤ C → b ≤ C → gcd_ℕ a b ≤ C
unfolding gcd_ℕ
gcd_ℕ_le a b C h g = euclid_le (suc b) a b C h g

-- Two integers ---------------------------------------------------------------------------------------------------------

pub gcd_left : (a b : ℤ) → gcd_ℤ a b ∣ℤ a
unfolding gcd_ℤ gcd_ℕ
gcd_left a b = abs-∣ a (euclid-divides (suc (nat_abs b)) (nat_abs a) (nat_abs b) (omega arith)).0

pub gcd_right : (a b : ℤ) → gcd_ℤ a b ∣ℤ b
unfolding gcd_ℤ gcd_ℕ
gcd_right a b = abs-∣ b (euclid-divides (suc (nat_abs b)) (nat_abs a) (nat_abs b) (omega arith)).1

pub gcd_bezout : (a b : ℤ) → Bezout (gcd_ℤ a b) a b
unfolding gcd_ℤ gcd_ℕ
gcd_bezout a b =
    let z = euclid_bezout (suc (nat_abs b)) (nat_abs a) (nat_abs b) (omega arith) in
    let s = signed_abs a in
    let t = signed_abs b in
    record { u = z.u *ℤ s.0; v = z.v *ℤ t.0; is = z.is ∙ ap₂ (λ x y. z.u *ℤ x +ℤ z.v *ℤ y) s.1 t.1 ∙ regroup a b z.u z.v s.0 t.0 }
  where
    regroup : (a b u v s t : ℤ) → u *ℤ (s *ℤ a) +ℤ v *ℤ (t *ℤ b) ≡ (u *ℤ s) *ℤ a +ℤ (v *ℤ t) *ℤ b
    regroup a b u v s t = ring! (a ∷ b ∷ u ∷ v ∷ s ∷ t ∷ []) (search quote depth 40 fits 20000) tt

pub gcd_greatest : (d a b : ℤ) → d ∣ℤ a → d ∣ℤ b → d ∣ℤ gcd_ℤ a b
gcd_greatest d a b h k = let z = gcd_bezout a b in ∣_eq (sym z.is) (∣_linear z.u z.v h k)

pub gcd_abs : (a b c d : ℤ) → nat_abs a ≡ nat_abs c → nat_abs b ≡ nat_abs d → gcd_ℤ a b ≡ gcd_ℤ c d
unfolding gcd_ℤ
gcd_abs a b c d e f = ap₂ (λ (m n : ℕ). pos (gcd_ℕ m n)) e f

-- only gcd_ℕ a b is a common divisor that every common divisor divides
pub gcd_ℕ_unique : (a b g : ℕ) → pos g ∣ℤ pos a → pos g ∣ℤ pos b → ((d : ℤ) → d ∣ℤ pos a → d ∣ℤ pos b → d ∣ℤ pos g) → g ≡ gcd_ℕ a b
unfolding gcd_ℤ
gcd_ℕ_unique a b g h k greatest = ∣_antisym (gcd_greatest (pos g) (pos a) (pos b) h k) (greatest (gcd_ℤ (pos a) (pos b)) (gcd_left (pos a) (pos b)) (gcd_right (pos a) (pos b)))

-- Many -----------------------------------------------------------------------------------------------------------------

pub gcd_from_none : (g : ℤ) (f : ℕ → ℤ) → gcd_from g 0 f ≡ g
unfolding gcd_from
gcd_from_none g f = refl

pub gcd_from_more : (g : ℤ) (k : ℕ) (f : ℕ → ℤ) → gcd_from g (k + 1) f ≡ gcd_ℤ (gcd_from g k f) (f k)
unfolding gcd_from
gcd_from_more g k f = rw add-one

pub gcd_from_turn : (g : ℤ) (k : ℕ) (f : ℕ → ℤ) (so_far next : ℕ) → pos so_far ≡ gcd_from g k f → next ≡ gcd_ℕ so_far (nat_abs (f k)) → pos next ≡ gcd_from g (k + 1) f
unfolding gcd_ℤ
gcd_from_turn g k f so_far next e h = ap pos h ∙ ap (λ x. gcd_ℤ x (f k)) e ∙ sym (gcd_from_more g k f)

pub gcd_from_start : (g : ℤ) (k : ℕ) (f : ℕ → ℤ) → gcd_from g k f ∣ℤ g
unfolding gcd_from
gcd_from_start g zero f = ∣_refl g
gcd_from_start g (suc k) f = ∣_trans (gcd_left (gcd_from g k f) (f k)) (gcd_from_start g k f)

pub gcd_from_each : (g : ℤ) (k : ℕ) (f : ℕ → ℤ) (i : ℕ) → i < k → gcd_from g k f ∣ℤ f i
unfolding gcd_from
gcd_from_each g zero f i h = absurd (omega arith)
gcd_from_each g (suc k) f i h = elim (ℕ_discrete i k) [
  | yes e ↦ subst (λ (r : ℕ). gcd_ℤ (gcd_from g k f) (f k) ∣ℤ f r) (sym e) (gcd_right (gcd_from g k f) (f k))
  | no e ↦ ∣_trans (gcd_left (gcd_from g k f) (f k)) (gcd_from_each g k f i (omega arith))
]

pub gcd_from_greatest : (d g : ℤ) (k : ℕ) (f : ℕ → ℤ) → d ∣ℤ g → ((i : ℕ) → i < k → d ∣ℤ f i) → d ∣ℤ gcd_from g k f
unfolding gcd_from
gcd_from_greatest d g zero f h s = h
gcd_from_greatest d g (suc k) f h s = gcd_greatest d (gcd_from g k f) (f k) (gcd_from_greatest d g k f h (λ i l. s i (omega arith))) (s k (omega arith))

pub record Combination (g : ℤ) (k : ℕ) (f : ℕ → ℤ) (d : ℤ) : Type 0 where
  pub u : ℤ
  pub w : ℕ → ℤ
  pub is : d ≡ u *ℤ g +ℤ sum k (λ i. w i *ℤ f i)

pub gcd_from_bezout : (g : ℤ) (k : ℕ) (f : ℕ → ℤ) → Combination g k f (gcd_from g k f)
unfolding gcd_from sum
gcd_from_bezout g zero f = record { u = pos 1; w = λ i. pos 0; is = ring! (g ∷ []) (search quote depth 40 fits 20000) tt }
gcd_from_bezout g (suc k) f = onward (gcd_from_bezout g k f) (gcd_bezout (gcd_from g k f) (f k))
  where
    -- the weights found so far times u, and v at the new place
    weights : (ℕ → ℤ) → ℤ → ℤ → ℕ → ℤ
    weights w u v i = cond (eqb i k) v (u *ℤ w i)

    before : (w : ℕ → ℤ) (u v : ℤ) → sum k (λ i. weights w u v i *ℤ f i) ≡ u *ℤ sum k (λ i. w i *ℤ f i)
    before w u v = sum_ext k (λ i. weights w u v i *ℤ f i) (λ i. u *ℤ (w i *ℤ f i))
        (λ i l. ap (λ (t : Bool). cond t v (u *ℤ w i) *ℤ f i) (ne_eqb i k (λ e. absurd (omega arith))) ∙ ring! (u ∷ w i ∷ f i ∷ []) (search quote depth 40 fits 20000) tt)
        ∙ sum_scale k u (λ i. w i *ℤ f i)

    last : (w : ℕ → ℤ) (u v : ℤ) → weights w u v k ≡ v
    last w u v = ap (λ (t : Bool). cond t v (u *ℤ w k)) (eq-eqb k k refl)

    join : (d h s u v r x : ℤ) → d ≡ u *ℤ h +ℤ v *ℤ x → h ≡ r *ℤ g +ℤ s → d ≡ (u *ℤ r) *ℤ g +ℤ (u *ℤ s +ℤ v *ℤ x)
    join d h s u v r x a b = from2 (pos 1) u a b (ring! (d ∷ h ∷ s ∷ u ∷ v ∷ r ∷ g ∷ x ∷ []) (search quote depth 40 fits 20000) tt)

    onward : Combination g k f (gcd_from g k f) → Bezout (gcd_ℤ (gcd_from g k f) (f k)) (gcd_from g k f) (f k) → Combination g (suc k) f (gcd_ℤ (gcd_from g k f) (f k))
    onward c z = record {
      u = z.u *ℤ c.u;
      w = weights c.w z.u z.v;
      is = join (gcd_ℤ (gcd_from g k f) (f k)) (gcd_from g k f) (sum k (λ i. c.w i *ℤ f i)) z.u z.v c.u (f k) z.is c.is
          ∙ ap₂ (λ x y. (z.u *ℤ c.u) *ℤ g +ℤ (x +ℤ y *ℤ f k)) (sym (before c.w z.u z.v)) (sym (last c.w z.u z.v));
    }

pub gcd_from_natural : (n k : ℕ) (f : ℕ → ℤ) → (g : ℕ) × (gcd_from (pos n) k f ≡ pos g)
unfolding gcd_from gcd_ℤ
gcd_from_natural n zero f = (n, refl)
gcd_from_natural n (suc k) f = (gcd_ℕ (nat_abs (gcd_from (pos n) k f)) (nat_abs (f k)), refl)

pub gcd_from_le : (g : ℤ) (k : ℕ) (f : ℕ → ℤ) (C : ℕ) → nat_abs g ≤ C → ((i : ℕ) → i < k → nat_abs (f i) ≤ C) → nat_abs (gcd_from g k f) ≤ C
unfolding gcd_from gcd_ℤ
gcd_from_le g zero f C h s = h
gcd_from_le g (suc k) f C h s = gcd_ℕ_le (nat_abs (gcd_from g k f)) (nat_abs (f k)) C (gcd_from_le g k f C h (λ i l. s i (omega arith))) (s k (omega arith))

pub gcd_from_abs : (g : ℤ) (k : ℕ) (f h : ℕ → ℤ) → ((i : ℕ) → i < k → nat_abs (f i) ≡ nat_abs (h i)) → gcd_from g k f ≡ gcd_from g k h
unfolding gcd_from
gcd_from_abs g zero f h s = refl
gcd_from_abs g (suc k) f h s = gcd_abs (gcd_from g k f) (f k) (gcd_from g k h) (h k) (ap nat_abs (gcd_from_abs g k f h (λ i l. s i (omega arith)))) (s k (omega arith))

-- a gcd that divides 1 is 1
gcd_from_one : (n k : ℕ) (f : ℕ → ℤ) → gcd_from (pos n) k f ∣ℤ pos 1 → gcd_from (pos n) k f ≡ pos 1
gcd_from_one n k f h = let g = gcd_from_natural n k f in g.1 ∙ ap pos (sym (ap nat_abs g.1) ∙ ∣_one h)

pub gcd_from_near : (n k : ℕ) (f h : ℕ → ℤ) → ((i : ℕ) → i < k → pos n ∣ℤ (f i -ℤ h i)) → gcd_from (pos n) k f ≡ pos 1 → gcd_from (pos n) k h ≡ pos 1
gcd_from_near n k f h near e = gcd_from_one n k h (∣_eq e (gcd_from_greatest (gcd_from (pos n) k h) (pos n) k f (gcd_from_start (pos n) k h) (λ i l.
    ∣_eq (ring! (f i ∷ h i ∷ []) (search quote depth 40 fits 20000) tt) (∣_add (∣_trans (gcd_from_start (pos n) k h) (near i l)) (gcd_from_each (pos n) k h i l)))))

pub gcd_from_divided : (n k : ℕ) (f : ℕ → ℤ) (g : ℤ) → g ≡ gcd_from (pos n) k f → (g ≡ pos 0 → ⊥) → (m : ℕ) → quot_z (pos n) g ≡ pos m → gcd_from (pos m) k (λ i. quot_z (f i) g) ≡ pos 1
gcd_from_divided n k f g e z m q = gcd_from_one m k (λ i. quot_z (f i) g) (∣_cancel g z (∣_eq (sym e ∙ sym (mul_one g)) (gcd_from_greatest (g *ℤ G) (pos n) k f
    (times (pos n) (∣_eq (sym q) (gcd_from_start (pos m) k (λ i. quot_z (f i) g))) (subst (λ x. x ∣ℤ pos n) (sym e) (gcd_from_start (pos n) k f)))
    (λ i l. times (f i) (gcd_from_each (pos m) k (λ i. quot_z (f i) g) i l) (subst (λ x. x ∣ℤ f i) (sym e) (gcd_from_each (pos n) k f i l))))))
  where
    G : ℤ
    G = gcd_from (pos m) k (λ i. quot_z (f i) g)

    times : (x : ℤ) → G ∣ℤ quot_z x g → g ∣ℤ x → (g *ℤ G) ∣ℤ x
    times x u v = ∣_eq (*ℤ_comm g (quot_z x g) ∙ ∣_exact x g v) (∣_scale g u)

-- Examples: closed instances compute, also at 10^18 ------------------------------------------------------------------------

of_zeros : gcd_ℤ (pos 0) (pos 0) ≡ pos 0
unfolding gcd_ℤ gcd_ℕ euclid
of_zeros = refl

of_large : gcd_ℤ (pos 1000000000000000000) (negsuc 123456789) ≡ pos 10
unfolding gcd_ℤ gcd_ℕ euclid
of_large = refl
