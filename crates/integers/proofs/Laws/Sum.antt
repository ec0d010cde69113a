-- Laws of finite sums, `sum n f`, and of products of two lists, `dot n c x`.
--
--     Turns          sum_none        sum 0 f = 0
--                    sum_more        sum (n + 1) f = sum n f + f n, at the code's n + 1
--     Equal terms    sum_ext         terms equal at each place: sums equal
--                    sum_zeros       terms 0 at each place: 0
--                    sum_one         terms 0 but at place k: f k
--                    sum_change      g differs from f at place k alone: sum n g = sum n f + (g k - f k)
--     Linearity      sum-add         of f i + g i            sum-sub    of f i - g i
--                    sum_scale       of k × f i              sum-neg    of -(f i)
--     Order          sum_split       sum (b + a) f = sum a f + the b terms from place a on
--                    sum_swap        two sums exchanged
--     Bounds         sum_bound       terms at most B in magnitude: the sum is at most n B
--                    sum-divides     d divides each term: d divides the sum
--     dot            dot_combine     w · (α x + β y) = α (w · x) + β (w · y)
--                    dot_exchange    p · (A x) = (p A) · x
--                    dot_bound       |c i| ≤ C and |x i| ≤ X: |c · x| ≤ n C X
--                    dot-divides     d divides each c i: d divides c · x
--                    dot_near        c · x - k stays a multiple of d where the c i and k change by multiples of d
--     Loops          sum_turn        a turn of a loop that sums signed numbers
--
-- In `sum_ext` write both functions out: antt does not find them. Assumes nothing.
use mathlib.Core.Path.{◌≡◌, refl, sym, ◌∙◌, ap, ap₂, subst}
use mathlib.Core.List.{[], ◌∷◌}
use Prim.Native.Nat.{ℕ, zero, suc, ◌+◌, ◌*◌, ◌^◌, ◌<◌, ◌≤◌}
use native.Mathlib.Numerals.{add-one}
use native.Mathlib.Omega.{arith}
use native.Mathlib.Decide.{ℕ_discrete}
use lib.IntN.{ℤ, pos, negsuc, neg_ℤ, nat_abs, ◌+ℤ◌, ◌-ℤ◌, ◌*ℤ◌, *ℤ-zero, +ℤ_idr}
use Rattle.integers.specs.Divisibility.{◌∣ℤ◌}
use Rattle.integers.specs.Sum.{sum, dot}
use Rattle.integers.proofs.Laws.Ring.{from1}
use Rattle.integers.proofs.Laws.Normaliser.{ring!, quote}
use Rattle.integers.proofs.Laws.Magnitude.{nat_abs_add, add_bound, mul_bound}
use Rattle.integers.proofs.Laws.Bits.{stored, stored_is, fits}
use Rattle.integers.proofs.Laws.Divisibility.{∣_add, ∣_sub, ∣_mulʳ, ∣_zero, ∣_eq}

-- Turns ----------------------------------------------------------------------------------------------------------------

pub sum_none : (f : ℕ → ℤ) → sum 0 f ≡ pos 0
unfolding sum
sum_none f = refl

pub sum_more : (n : ℕ) (f : ℕ → ℤ) → sum (n + 1) f ≡ sum n f +ℤ f n
unfolding sum
sum_more n f = rw add-one

-- Equal terms ----------------------------------------------------------------------------------------------------------

pub sum_ext : (n : ℕ) (f g : ℕ → ℤ) → ((i : ℕ) → i < n → f i ≡ g i) → sum n f ≡ sum n g
unfolding sum
sum_ext zero f g h = refl
sum_ext (suc n) f g h = ap₂ (λ x y. x +ℤ y) (sum_ext n f g (λ i l. h i (omega arith))) (h n (omega arith))

pub sum_zeros : (n : ℕ) (f : ℕ → ℤ) → ((i : ℕ) → i < n → f i ≡ pos 0) → sum n f ≡ pos 0
unfolding sum
sum_zeros zero f h = refl
sum_zeros (suc n) f h = ap₂ (λ x y. x +ℤ y) (sum_zeros n f (λ i l. h i (omega arith))) (h n (omega arith))

pub sum_change : (n : ℕ) (f g : ℕ → ℤ) (k : ℕ) → k < n → ((i : ℕ) → i < n → (i ≡ k → ⊥) → g i ≡ f i) → sum n g ≡ sum n f +ℤ (g k -ℤ f k)
unfolding sum
sum_change zero f g k l h = absurd (omega arith)
sum_change (suc n) f g k l h = elim (ℕ_discrete k n) [
  | yes e ↦ ap (λ t. t +ℤ g n) (sum_ext n g f (λ i m. h i (omega arith) (omega arith)))
      ∙ ring! (sum n f ∷ f n ∷ g n ∷ []) (search quote depth 40 fits 20000) tt ∙ ap (λ (j : ℕ). sum n f +ℤ f n +ℤ (g j -ℤ f j)) (sym e)
  | no d ↦ ap₂ (λ s t. s +ℤ t) (sum_change n f g k (omega arith) (λ i m. h i (omega arith))) (h n (omega arith) (λ e. d (sym e)))
      ∙ ring! (sum n f ∷ f n ∷ g k ∷ f k ∷ []) (search quote depth 40 fits 20000) tt
]

pub sum_one : (n : ℕ) (f : ℕ → ℤ) (k : ℕ) → k < n → ((i : ℕ) → i < n → (i ≡ k → ⊥) → f i ≡ pos 0) → sum n f ≡ f k
sum_one n f k l h = sum_change n (λ i. pos 0) f k l h
    ∙ ap (λ t. t +ℤ (f k -ℤ pos 0)) (sum_zeros n (λ i. pos 0) (λ i m. refl)) ∙ ring! (f k ∷ []) (search quote depth 40 fits 20000) tt

-- Linearity ------------------------------------------------------------------------------------------------------------

pub sum-add : (n : ℕ) (f g : ℕ → ℤ) → sum n (λ i. f i +ℤ g i) ≡ sum n f +ℤ sum n g
unfolding sum
sum-add zero f g = refl
sum-add (suc n) f g = ap (λ x. x +ℤ (f n +ℤ g n)) (sum-add n f g) ∙ ring! (sum n f ∷ sum n g ∷ f n ∷ g n ∷ []) (search quote depth 40 fits 20000) tt

pub sum_scale : (n : ℕ) (k : ℤ) (f : ℕ → ℤ) → sum n (λ i. k *ℤ f i) ≡ k *ℤ sum n f
unfolding sum
sum_scale zero k f = sym (*ℤ-zero k)
sum_scale (suc n) k f = ap (λ x. x +ℤ k *ℤ f n) (sum_scale n k f) ∙ ring! (sum n f ∷ k ∷ f n ∷ []) (search quote depth 40 fits 20000) tt

pub sum-neg : (n : ℕ) (f : ℕ → ℤ) → sum n (λ i. neg_ℤ (f i)) ≡ neg_ℤ (sum n f)
sum-neg n f = sum_ext n (λ i. neg_ℤ (f i)) (λ i. negsuc 0 *ℤ f i) (λ i l. ring! (f i ∷ []) (search quote depth 40 fits 20000) tt)
    ∙ sum_scale n (negsuc 0) f ∙ ring! (sum n f ∷ []) (search quote depth 40 fits 20000) tt

pub sum-sub : (n : ℕ) (f g : ℕ → ℤ) → sum n (λ i. f i -ℤ g i) ≡ sum n f -ℤ sum n g
sum-sub n f g = sum-add n f (λ i. neg_ℤ (g i)) ∙ ap (λ x. sum n f +ℤ x) (sum-neg n g)

-- Order ----------------------------------------------------------------------------------------------------------------

pub sum_split : (a b : ℕ) (f : ℕ → ℤ) → sum (b + a) f ≡ sum a f +ℤ sum b (λ i. f (i + a))
unfolding sum
sum_split a zero f = let e : 0 + a ≡ a = omega arith in rw e (sym (+ℤ_idr (sum a f)))
sum_split a (suc b) f = let e : suc b + a ≡ suc (b + a) = omega arith in
    rw e (ap (λ t. t +ℤ f (b + a)) (sum_split a b f) ∙ ring! (sum a f ∷ sum b (λ i. f (i + a)) ∷ f (b + a) ∷ []) (search quote depth 40 fits 20000) tt)

pub sum_swap : (m n : ℕ) (f : ℕ → ℕ → ℤ) → sum m (λ i. sum n (λ j. f i j)) ≡ sum n (λ j. sum m (λ i. f i j))
unfolding sum
sum_swap zero n f = sym (sum_zeros n (λ j. pos 0) (λ j l. refl))
sum_swap (suc m) n f = ap (λ x. x +ℤ sum n (λ j. f m j)) (sum_swap m n f) ∙ sym (sum-add n (λ j. sum m (λ i. f i j)) (λ j. f m j))

-- Bounds ---------------------------------------------------------------------------------------------------------------

pub sum_bound : (n B : ℕ) (f : ℕ → ℤ) → ((i : ℕ) → i < n → nat_abs (f i) ≤ B) → nat_abs (sum n f) ≤ n * B
unfolding sum
sum_bound zero B f h = omega arith
sum_bound (suc n) B f h = omega (arith, nat_abs_add (sum n f) (f n), sum_bound n B f (λ i l. h i (omega arith)), h n (omega arith))

pub sum-divides : (n : ℕ) (d : ℤ) (f : ℕ → ℤ) → ((i : ℕ) → i < n → d ∣ℤ f i) → d ∣ℤ sum n f
unfolding sum
sum-divides zero d f h = ∣_zero d
sum-divides (suc n) d f h = ∣_add (sum-divides n d f (λ i l. h i (omega arith))) (h n (omega arith))

-- dot ------------------------------------------------------------------------------------------------------------------

pub dot_combine : (n : ℕ) (w x y : ℕ → ℤ) (α β : ℤ) → dot n w (λ k. α *ℤ x k +ℤ β *ℤ y k) ≡ α *ℤ dot n w x +ℤ β *ℤ dot n w y
dot_combine n w x y α β =
    sum_ext n (λ k. w k *ℤ (α *ℤ x k +ℤ β *ℤ y k)) (λ k. α *ℤ (w k *ℤ x k) +ℤ β *ℤ (w k *ℤ y k)) (λ k l. ring! (w k ∷ x k ∷ y k ∷ α ∷ β ∷ []) (search quote depth 40 fits 20000) tt)
    ∙ sum-add n (λ k. α *ℤ (w k *ℤ x k)) (λ k. β *ℤ (w k *ℤ y k))
    ∙ ap₂ (λ s t. s +ℤ t) (sum_scale n α (λ k. w k *ℤ x k)) (sum_scale n β (λ k. w k *ℤ y k))

pub dot_exchange : (m n : ℕ) (p x : ℕ → ℤ) (A : ℕ → ℕ → ℤ) → dot m p (λ i. dot n (A i) x) ≡ dot n (λ j. dot m p (λ i. A i j)) x
dot_exchange m n p x A =
    sum_ext m (λ i. p i *ℤ dot n (A i) x) (λ i. sum n (λ j. p i *ℤ (A i j *ℤ x j))) (λ i l. sym (sum_scale n (p i) (λ j. A i j *ℤ x j)))
    ∙ sum_swap m n (λ i j. p i *ℤ (A i j *ℤ x j))
    ∙ sum_ext n (λ j. sum m (λ i. p i *ℤ (A i j *ℤ x j))) (λ j. dot m p (λ i. A i j) *ℤ x j) (λ j l. column j)
  where
    column : (j : ℕ) → sum m (λ i. p i *ℤ (A i j *ℤ x j)) ≡ dot m p (λ i. A i j) *ℤ x j
    column j =
        sum_ext m (λ i. p i *ℤ (A i j *ℤ x j)) (λ i. x j *ℤ (p i *ℤ A i j)) (λ i l. ring! (p i ∷ A i j ∷ x j ∷ []) (search quote depth 40 fits 20000) tt)
        ∙ sum_scale m (x j) (λ i. p i *ℤ A i j) ∙ ring! (x j ∷ dot m p (λ i. A i j) ∷ []) (search quote depth 40 fits 20000) tt

pub dot_bound : (n C X : ℕ) (c x : ℕ → ℤ) → ((i : ℕ) → i < n → nat_abs (c i) ≤ C) → ((i : ℕ) → i < n → nat_abs (x i) ≤ X) → nat_abs (dot n c x) ≤ n * (C * X)
dot_bound n C X c x h k = sum_bound n (C * X) (λ i. c i *ℤ x i) (λ i l. mul_bound (c i) (x i) (h i l) (k i l))

pub dot-divides : (n : ℕ) (d : ℤ) (c x : ℕ → ℤ) → ((i : ℕ) → i < n → d ∣ℤ c i) → d ∣ℤ dot n c x
dot-divides n d c x h = sum-divides n d (λ i. c i *ℤ x i) (λ i l. ∣_mulʳ (x i) (h i l))

pub dot_near : (n : ℕ) (d : ℤ) (c e x : ℕ → ℤ) (k l : ℤ) → ((j : ℕ) → j < n → d ∣ℤ (c j -ℤ e j)) → d ∣ℤ (k -ℤ l) → d ∣ℤ (dot n c x -ℤ k) → d ∣ℤ (dot n e x -ℤ l)
dot_near n d c e x k l h g s = ∣_eq (join (dot n c x) (dot n e x) (dot n (λ j. c j -ℤ e j) x) k l apart) (∣_add (∣_sub s (dot-divides n d (λ j. c j -ℤ e j) x h)) g)
  where
    apart : dot n c x ≡ dot n (λ j. c j -ℤ e j) x +ℤ dot n e x
    apart = sum_ext n (λ j. c j *ℤ x j) (λ j. (c j -ℤ e j) *ℤ x j +ℤ e j *ℤ x j) (λ j r. ring! (c j ∷ e j ∷ x j ∷ []) (search quote depth 40 fits 20000) tt)
        ∙ sum-add n (λ j. (c j -ℤ e j) *ℤ x j) (λ j. e j *ℤ x j)

    join : (a b y k l : ℤ) → a ≡ y +ℤ b → ((a -ℤ k) -ℤ y) +ℤ (k -ℤ l) ≡ b -ℤ l
    join a b y k l f = from1 (pos 1) f (ring! (a ∷ b ∷ y ∷ k ∷ l ∷ []) (search quote depth 40 fits 20000) tt)

-- A signed running sum -------------------------------------------------------------------------------------------------

-- the turn at n, as a loop on `i64` leaves it: the next sum, and its bound
pub sum_turn : (n B : ℕ) (f : ℕ → ℤ) (so_far x : ℤ) → so_far ≡ sum n f → nat_abs so_far ≤ n * B → x ≡ f n → nat_abs x ≤ B → (n + 1) * B < 2 ^ 63 →
    (stored (so_far +ℤ stored x) ≡ sum (n + 1) f) × (nat_abs (stored (so_far +ℤ stored x)) ≤ (n + 1) * B)
sum_turn n B f so_far x e h g k room =
    let more : (n + 1) * B ≡ n * B + B = omega arith in
    let reads : stored x ≡ x = stored_is (fits x (omega arith)) in
    let total = add_bound so_far x h k in
    let is : stored (so_far +ℤ stored x) ≡ so_far +ℤ x = ap (λ y. stored (so_far +ℤ y)) reads ∙ stored_is (fits (so_far +ℤ x) (omega arith)) in
    (is ∙ ap₂ (λ y z. y +ℤ z) e g ∙ sym (sum_more n f), subst (λ y. nat_abs y ≤ (n + 1) * B) (sym is) (omega arith))
