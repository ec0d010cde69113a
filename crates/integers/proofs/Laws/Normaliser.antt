-- A normaliser for polynomials over ℤ, proved sound: polynomial identities are proved by computation.
--
--     ring! atoms (search quote depth 40 fits 20000) tt : x ≡ y
--
-- How to use it
--   * You write the atoms alone, as a list: any terms of type ℤ, such as a variable, `at run i`, `sum n f`, `quot_z a b`, or
--     `pos n` for a variable n. Sums, differences, products, negations and literals of the two sides are read by `search`.
--   * From equations: `from1`, `from2` or `from3` of Ring asks for x - y = k (a - b) + .., and `ring!` proves that.
--   * State the identity over variables of type ℤ and apply it to what you have: a sum or product of terms `pos a` computes
--     to one term `pos (a + b)` before `search` reads it. (`pos (a + b)`, `pos (a * b)` and `pos (suc a)` are read, too.)
--
-- What a refusal means
--   * At `tt`, "the two sides are `⊥` and `Unit`": the identity does not hold.
--   * "`search`: no proof of `Sides ..`": an atom is missing in the list.
--
-- The last section has examples. Assumes nothing.
use mathlib.Core.Path.{◌≡◌, refl, sym, ◌∙◌, ap, ap₂}
use mathlib.Core.Bool.{Bool, true, false, not, cond, ◌&&◌}
use mathlib.Core.List.{List, [], ◌∷◌}
use Prim.Native.Nat.{ℕ, zero, suc, ◌+◌, ◌*◌}
use native.Mathlib.Numerals.{one-add}
use lib.Dec.{T, leb, ltb, eqb, eqb→eq}
use lib.ListN.{get_or}
use lib.IntN.{ℤ, pos, negsuc, neg_ℤ, ◌+ℤ◌, ◌-ℤ◌, ◌*ℤ◌, +ℤ_assoc, +ℤ_idl, +ℤ_idr, zero-*ℤ, *ℤ-zero, neg_ℤ-+ℤ}
use Rattle.integers.proofs.Laws.Ring.{+ℤ_left_comm, *ℤ_left_comm, *ℤ_assoc, add-mul, mul-add, neg-mul, one_mul, mul_one, eq_of_sub, from1, from2}

-- Expressions ----------------------------------------------------------------------------------------------------------

infixl 6 ◌⊕◌ ◌⊖◌
infixl 7 ◌⊗◌
pub data Expression : Type 0 where
  atom : ℕ → Expression
  literal : ℤ → Expression
  ◌⊕◌ ◌⊗◌ : Expression → Expression → Expression
  minus : Expression → Expression

abbrev pub ◌⊖◌ : Expression → Expression → Expression
a ⊖ b = a ⊕ minus b

abbrev pub lookup : List ℤ → ℕ → ℤ
lookup [] n = pos 0
lookup (x ∷ ρ) zero = x
lookup (x ∷ ρ) (suc n) = lookup ρ n

abbrev pub eval : List ℤ → Expression → ℤ
eval ρ (atom n) = lookup ρ n
eval ρ (literal z) = z
eval ρ (a ⊕ b) = eval ρ a +ℤ eval ρ b
eval ρ (a ⊗ b) = eval ρ a *ℤ eval ρ b
eval ρ (minus a) = neg_ℤ (eval ρ a)

by_cond {ℓ} : {X : Type ℓ} (c : Bool) (x y : X) (P : X → Type 0) → (T c → P x) → (T (not c) → P y) → P (cond c x y)
by_cond true x y P f g = f tt
by_cond false x y P f g = g tt

-- Monomials: sorted lists of atoms -------------------------------------------------------------------------------------

abbrev pub eval_monomial : List ℤ → List ℕ → ℤ
eval_monomial ρ [] = pos 1
eval_monomial ρ (i ∷ m) = lookup ρ i *ℤ eval_monomial ρ m

abbrev pub insert_atom : ℕ → List ℕ → List ℕ
insert_atom i [] = i ∷ []
insert_atom i (j ∷ m) = cond (leb i j) (i ∷ j ∷ m) (j ∷ insert_atom i m)

abbrev pub mul_monomial : List ℕ → List ℕ → List ℕ
mul_monomial [] n = n
mul_monomial (i ∷ m) n = insert_atom i (mul_monomial m n)

abbrev pub same_monomial : List ℕ → List ℕ → Bool
same_monomial [] [] = true
same_monomial [] (j ∷ n) = false
same_monomial (i ∷ m) [] = false
same_monomial (i ∷ m) (j ∷ n) = eqb i j && same_monomial m n

abbrev pub less_monomial : List ℕ → List ℕ → Bool
less_monomial [] [] = false
less_monomial [] (j ∷ n) = true
less_monomial (i ∷ m) [] = false
less_monomial (i ∷ m) (j ∷ n) = cond (eqb i j) (less_monomial m n) (ltb i j)

and_left : (a b : Bool) → T (a && b) → T a
and_left true b t = tt
and_left false b t = t

and_right : (a b : Bool) → T (a && b) → T b
and_right true b t = t
and_right false b t = absurd t

same-monomial : (m n : List ℕ) → T (same_monomial m n) → m ≡ n
same-monomial [] [] t = refl
same-monomial [] (j ∷ n) t = absurd t
same-monomial (i ∷ m) [] t = absurd t
same-monomial (i ∷ m) (j ∷ n) t = ap₂ (λ x y. x ∷ y) (eqb→eq i j (and_left (eqb i j) (same_monomial m n) t)) (same-monomial m n (and_right (eqb i j) (same_monomial m n) t))

-- Polynomials: sums of terms, each a coefficient and a monomial ----------------------------------------------------------

pub data Polynomial : Type 0 where
  none : Polynomial
  term : ℤ → List ℕ → Polynomial → Polynomial

abbrev pub eval_polynomial : List ℤ → Polynomial → ℤ
eval_polynomial ρ none = pos 0
eval_polynomial ρ (term c m p) = c *ℤ eval_monomial ρ m +ℤ eval_polynomial ρ p

abbrev pub is_nothing : ℤ → Bool
is_nothing (pos zero) = true
is_nothing (pos (suc n)) = false
is_nothing (negsuc n) = false

abbrev pub prepend : ℤ → List ℕ → Polynomial → Polynomial
prepend c m p = cond (is_nothing c) p (term c m p)

abbrev pub insert_term : ℤ → List ℕ → Polynomial → Polynomial
insert_term c m none = prepend c m none
insert_term c m (term d n p) = cond (same_monomial m n) (prepend (c +ℤ d) m p) (cond (less_monomial m n) (term c m (term d n p)) (term d n (insert_term c m p)))

abbrev pub add : Polynomial → Polynomial → Polynomial
add none q = q
add (term c m p) q = insert_term c m (add p q)

abbrev pub negate : Polynomial → Polynomial
negate none = none
negate (term c m p) = term (neg_ℤ c) m (negate p)

abbrev pub mul_term : ℤ → List ℕ → Polynomial → Polynomial
mul_term c m none = none
mul_term c m (term d n p) = insert_term (c *ℤ d) (mul_monomial m n) (mul_term c m p)

abbrev pub mul : Polynomial → Polynomial → Polynomial
mul none q = none
mul (term c m p) q = add (mul_term c m q) (mul p q)

abbrev pub normalise : Expression → Polynomial
normalise (atom n) = term (pos 1) (n ∷ []) none
normalise (literal z) = prepend z [] none
normalise (a ⊕ b) = add (normalise a) (normalise b)
normalise (a ⊗ b) = mul (normalise a) (normalise b)
normalise (minus a) = negate (normalise a)

abbrev pub is_none : Polynomial → Bool
is_none none = true
is_none (term c m p) = false

-- Soundness: each operation keeps the value ------------------------------------------------------------------------------

is-nothing : (z : ℤ) → T (is_nothing z) → z ≡ pos 0
is-nothing (pos zero) t = refl
is-nothing (pos (suc n)) t = absurd t
is-nothing (negsuc n) t = absurd t

module _ (ρ : List ℤ) where
  insert_atom_is : (i : ℕ) (m : List ℕ) → eval_monomial ρ (insert_atom i m) ≡ lookup ρ i *ℤ eval_monomial ρ m
  insert_atom_is i [] = refl
  insert_atom_is i (j ∷ m) = by_cond (leb i j) (i ∷ j ∷ m) (j ∷ insert_atom i m) (λ l. eval_monomial ρ l ≡ lookup ρ i *ℤ (lookup ρ j *ℤ eval_monomial ρ m)) (λ t. refl)
      (λ t. ap (λ x. lookup ρ j *ℤ x) (insert_atom_is i m) ∙ *ℤ_left_comm (lookup ρ j) (lookup ρ i) (eval_monomial ρ m))

  mul_monomial_is : (m n : List ℕ) → eval_monomial ρ (mul_monomial m n) ≡ eval_monomial ρ m *ℤ eval_monomial ρ n
  mul_monomial_is [] n = sym (one_mul (eval_monomial ρ n))
  mul_monomial_is (i ∷ m) n = insert_atom_is i (mul_monomial m n) ∙ ap (λ x. lookup ρ i *ℤ x) (mul_monomial_is m n) ∙ sym (*ℤ_assoc (lookup ρ i) (eval_monomial ρ m) (eval_monomial ρ n))

  prepend_is : (c : ℤ) (m : List ℕ) (p : Polynomial) → eval_polynomial ρ (prepend c m p) ≡ c *ℤ eval_monomial ρ m +ℤ eval_polynomial ρ p
  prepend_is c m p = by_cond (is_nothing c) p (term c m p) (λ q. eval_polynomial ρ q ≡ c *ℤ eval_monomial ρ m +ℤ eval_polynomial ρ p)
      (λ t. sym (ap (λ x. x *ℤ eval_monomial ρ m +ℤ eval_polynomial ρ p) (is-nothing c t) ∙ ap (λ x. x +ℤ eval_polynomial ρ p) (zero-*ℤ (eval_monomial ρ m)) ∙ +ℤ_idl (eval_polynomial ρ p)))
      (λ t. refl)

  insert_term_is : (c : ℤ) (m : List ℕ) (p : Polynomial) → eval_polynomial ρ (insert_term c m p) ≡ c *ℤ eval_monomial ρ m +ℤ eval_polynomial ρ p
  insert_term_is c m none = prepend_is c m none
  insert_term_is c m (term d n p) = by_cond (same_monomial m n) (prepend (c +ℤ d) m p) (cond (less_monomial m n) (term c m (term d n p)) (term d n (insert_term c m p)))
      (λ q. eval_polynomial ρ q ≡ c *ℤ eval_monomial ρ m +ℤ (d *ℤ eval_monomial ρ n +ℤ eval_polynomial ρ p))
      (λ t. prepend_is (c +ℤ d) m p ∙ ap (λ x. x +ℤ eval_polynomial ρ p) (add-mul c d (eval_monomial ρ m)) ∙ +ℤ_assoc (c *ℤ eval_monomial ρ m) (d *ℤ eval_monomial ρ m) (eval_polynomial ρ p)
      ∙ ap (λ k. c *ℤ eval_monomial ρ m +ℤ (d *ℤ eval_monomial ρ k +ℤ eval_polynomial ρ p)) (same-monomial m n t))
      (λ t. by_cond (less_monomial m n) (term c m (term d n p)) (term d n (insert_term c m p)) (λ q. eval_polynomial ρ q ≡ c *ℤ eval_monomial ρ m +ℤ (d *ℤ eval_monomial ρ n +ℤ eval_polynomial ρ p))
      (λ u. refl)
      (λ u. ap (λ x. d *ℤ eval_monomial ρ n +ℤ x) (insert_term_is c m p) ∙ +ℤ_left_comm (d *ℤ eval_monomial ρ n) (c *ℤ eval_monomial ρ m) (eval_polynomial ρ p)))

  add_is : (p q : Polynomial) → eval_polynomial ρ (add p q) ≡ eval_polynomial ρ p +ℤ eval_polynomial ρ q
  add_is none q = sym (+ℤ_idl (eval_polynomial ρ q))
  add_is (term c m p) q = insert_term_is c m (add p q) ∙ ap (λ x. c *ℤ eval_monomial ρ m +ℤ x) (add_is p q) ∙ sym (+ℤ_assoc (c *ℤ eval_monomial ρ m) (eval_polynomial ρ p) (eval_polynomial ρ q))

  negate_is : (p : Polynomial) → eval_polynomial ρ (negate p) ≡ neg_ℤ (eval_polynomial ρ p)
  negate_is none = refl
  negate_is (term c m p) = ap₂ (λ x y. x +ℤ y) (neg-mul c (eval_monomial ρ m)) (negate_is p) ∙ sym (neg_ℤ-+ℤ (c *ℤ eval_monomial ρ m) (eval_polynomial ρ p))

  mul_term_is : (c : ℤ) (m : List ℕ) (p : Polynomial) → eval_polynomial ρ (mul_term c m p) ≡ (c *ℤ eval_monomial ρ m) *ℤ eval_polynomial ρ p
  mul_term_is c m none = sym (*ℤ-zero (c *ℤ eval_monomial ρ m))
  mul_term_is c m (term d n p) = insert_term_is (c *ℤ d) (mul_monomial m n) (mul_term c m p)
      ∙ ap₂ (λ x y. x +ℤ y) (ap (λ x. (c *ℤ d) *ℤ x) (mul_monomial_is m n) ∙ interchange c d (eval_monomial ρ m) (eval_monomial ρ n)) (mul_term_is c m p)
      ∙ sym (mul-add (c *ℤ eval_monomial ρ m) (d *ℤ eval_monomial ρ n) (eval_polynomial ρ p))
    where
      interchange : (a b x y : ℤ) → (a *ℤ b) *ℤ (x *ℤ y) ≡ (a *ℤ x) *ℤ (b *ℤ y)
      interchange a b x y = simp (*ℤ_assoc, *ℤ_left_comm)

  mul_is : (p q : Polynomial) → eval_polynomial ρ (mul p q) ≡ eval_polynomial ρ p *ℤ eval_polynomial ρ q
  mul_is none q = sym (zero-*ℤ (eval_polynomial ρ q))
  mul_is (term c m p) q = add_is (mul_term c m q) (mul p q) ∙ ap₂ (λ x y. x +ℤ y) (mul_term_is c m q) (mul_is p q) ∙ sym (add-mul (c *ℤ eval_monomial ρ m) (eval_polynomial ρ p) (eval_polynomial ρ q))

  normalise_is : (e : Expression) → eval_polynomial ρ (normalise e) ≡ eval ρ e
  normalise_is (atom n) = +ℤ_idr (pos 1 *ℤ (lookup ρ n *ℤ pos 1)) ∙ one_mul (lookup ρ n *ℤ pos 1) ∙ mul_one (lookup ρ n)
  normalise_is (literal z) = prepend_is z [] none ∙ +ℤ_idr (z *ℤ pos 1) ∙ mul_one z
  normalise_is (a ⊕ b) = add_is (normalise a) (normalise b) ∙ ap₂ (λ x y. x +ℤ y) (normalise_is a) (normalise_is b)
  normalise_is (a ⊗ b) = mul_is (normalise a) (normalise b) ∙ ap₂ (λ x y. x *ℤ y) (normalise_is a) (normalise_is b)
  normalise_is (minus a) = negate_is (normalise a) ∙ ap neg_ℤ (normalise_is a)

  none_is : (p : Polynomial) → T (is_none p) → eval_polynomial ρ p ≡ pos 0
  none_is none t = refl
  none_is (term c m p) t = absurd t

  same_value : (e f : Expression) → T (is_none (normalise (e ⊖ f))) → eval ρ e ≡ eval ρ f
  same_value e f t = eq_of_sub (eval ρ e) (eval ρ f) (sym (normalise_is (e ⊖ f)) ∙ none_is (normalise (e ⊖ f)) t)

-- Reading: the expressions of the two sides, found by `search` -------------------------------------------------------------

-- the place of an atom in the list
pub record Place (ρ : List ℤ) (x : ℤ) : Type 0 where
  pub index : ℕ
  pub is : lookup ρ index ≡ x

abbrev pub here : {x : ℤ} {ρ : List ℤ} → Place (x ∷ ρ) x
here = record { index = zero; is = refl }

abbrev pub there : {x y : ℤ} {ρ : List ℤ} → Place ρ x → Place (y ∷ ρ) x
there a = record { index = suc a.index; is = a.is }

-- an expression that has the value z
pub record Reading (ρ : List ℤ) (z : ℤ) : Type 0 where
  pub read : Expression
  pub is : eval ρ read ≡ z

abbrev pub read_atom : {ρ : List ℤ} {x : ℤ} → Place ρ x → Reading ρ x
read_atom a = record { read = atom a.index; is = a.is }

-- a literal: `leb n n` computes at a numeral alone, so that `pos n` at a variable n is left to the atoms
abbrev pub read_pos : {ρ : List ℤ} (n : ℕ) → T (leb n n) → Reading ρ (pos n)
read_pos n t = record { read = literal (pos n); is = refl }

abbrev pub read_negsuc : {ρ : List ℤ} (n : ℕ) → T (leb n n) → Reading ρ (negsuc n)
read_negsuc n t = record { read = literal (negsuc n); is = refl }

-- sums, products and successors of naturals under `pos`, to which those of `pos` terms compute
abbrev pub read_pos-add : {ρ : List ℤ} (m n : ℕ) → Reading ρ (pos m) → Reading ρ (pos n) → Reading ρ (pos (m + n))
read_pos-add m n a b = record { read = a.read ⊕ b.read; is = ap₂ (λ u v. u +ℤ v) a.is b.is }

abbrev pub read_pos-mul : {ρ : List ℤ} (m n : ℕ) → Reading ρ (pos m) → Reading ρ (pos n) → Reading ρ (pos (m * n))
read_pos-mul m n a b = record { read = a.read ⊗ b.read; is = ap₂ (λ u v. u *ℤ v) a.is b.is }

abbrev pub read_pos-suc : {ρ : List ℤ} (n : ℕ) → Reading ρ (pos n) → Reading ρ (pos (suc n))
read_pos-suc n a = record { read = literal (pos 1) ⊕ a.read; is = ap (λ u. pos 1 +ℤ u) a.is ∙ ap pos (one-add n) }

abbrev pub read_add : {ρ : List ℤ} (x y : ℤ) → Reading ρ x → Reading ρ y → Reading ρ (x +ℤ y)
read_add x y a b = record { read = a.read ⊕ b.read; is = ap₂ (λ u v. u +ℤ v) a.is b.is }

abbrev pub read_mul : {ρ : List ℤ} (x y : ℤ) → Reading ρ x → Reading ρ y → Reading ρ (x *ℤ y)
read_mul x y a b = record { read = a.read ⊗ b.read; is = ap₂ (λ u v. u *ℤ v) a.is b.is }

abbrev pub read_neg : {ρ : List ℤ} (x : ℤ) → Reading ρ x → Reading ρ (neg_ℤ x)
read_neg x a = record { read = minus a.read; is = ap neg_ℤ a.is }

-- the two sides of an identity
pub record Sides (ρ : List ℤ) (x y : ℤ) : Type 0 where
  pub left : Reading ρ x
  pub right : Reading ρ y

abbrev pub read_sides : {ρ : List ℤ} {x y : ℤ} → Reading ρ x → Reading ρ y → Sides ρ x y
read_sides a b = record { left = a; right = b }

pub ruleset quote = (read_sides, read_atom, read_add, read_mul, read_neg, read_pos, read_negsuc, read_pos-add, read_pos-mul, read_pos-suc, here, there, tt)

pub ring! : (ρ : List ℤ) {x y : ℤ} (s : Sides ρ x y) → T (is_none (normalise (s.left.read ⊖ s.right.read))) → x ≡ y
ring! ρ s t = sym s.left.is ∙ same_value ρ s.left.read s.right.read t ∙ s.right.is

-- Examples -------------------------------------------------------------------------------------------------------------

difference_of_squares : (a b : ℤ) → (a +ℤ b) *ℤ (a -ℤ b) ≡ a *ℤ a -ℤ b *ℤ b
difference_of_squares a b = ring! (a ∷ b ∷ []) (search quote depth 40 fits 20000) tt

-- a column operation and its opposite on the unknowns leave a row's value
row_value_kept : (a b q x y : ℤ) → (a -ℤ q *ℤ b) *ℤ x +ℤ b *ℤ (y +ℤ q *ℤ x) ≡ a *ℤ x +ℤ b *ℤ y
row_value_kept a b q x y = ring! (a ∷ b ∷ q ∷ x ∷ y ∷ []) (search quote depth 40 fits 20000) tt

-- literals of any size
literals : (a : ℤ) → (a -ℤ pos 1000000007) *ℤ negsuc 6 ≡ pos 7000000049 -ℤ pos 7 *ℤ a
literals a = ring! (a ∷ []) (search quote depth 40 fits 20000) tt

-- atoms that are no variables
places : (p c : List ℤ) (i j : ℕ) (q : ℤ) → get_or p i (pos 0) *ℤ (get_or c j (pos 0) -ℤ q) ≡ get_or p i (pos 0) *ℤ get_or c j (pos 0) -ℤ q *ℤ get_or p i (pos 0)
places p c i j q = ring! (get_or p i (pos 0) ∷ get_or c j (pos 0) ∷ q ∷ []) (search quote depth 40 fits 20000) tt

naturals : (m n : ℕ) (b : ℤ) → (pos m +ℤ pos n *ℤ pos 3) *ℤ b ≡ pos m *ℤ b +ℤ pos 3 *ℤ b *ℤ pos n
naturals m n b = ring! (b ∷ pos n ∷ pos m ∷ []) (search quote depth 40 fits 20000) tt

-- from one equation: (x - y) - (a - b) is what the equation says
shifted : (a b x y : ℤ) → a -ℤ x ≡ b -ℤ y → x -ℤ y ≡ a -ℤ b
shifted a b x y h = from1 (negsuc 0) h (ring! (a ∷ b ∷ x ∷ y ∷ []) (search quote depth 40 fits 20000) tt)

-- from two equations: one step of Euclid's algorithm in a combination
combination_step : (a b d q r x y : ℤ) → d ≡ a *ℤ x +ℤ b *ℤ y → a ≡ q *ℤ b +ℤ r → d ≡ b *ℤ (q *ℤ x +ℤ y) +ℤ r *ℤ x
combination_step a b d q r x y h k = from2 (pos 1) x h k (ring! (a ∷ b ∷ d ∷ q ∷ r ∷ x ∷ y ∷ []) (search quote depth 40 fits 20000) tt)

-- eight atoms, degree four
four_squares : (a b c d e f g h : ℤ) → (a *ℤ a +ℤ b *ℤ b +ℤ c *ℤ c +ℤ d *ℤ d) *ℤ (e *ℤ e +ℤ f *ℤ f +ℤ g *ℤ g +ℤ h *ℤ h) ≡
    (a *ℤ e +ℤ b *ℤ f +ℤ c *ℤ g +ℤ d *ℤ h) *ℤ (a *ℤ e +ℤ b *ℤ f +ℤ c *ℤ g +ℤ d *ℤ h)
    +ℤ (a *ℤ f -ℤ b *ℤ e +ℤ c *ℤ h -ℤ d *ℤ g) *ℤ (a *ℤ f -ℤ b *ℤ e +ℤ c *ℤ h -ℤ d *ℤ g)
    +ℤ (a *ℤ g -ℤ b *ℤ h -ℤ c *ℤ e +ℤ d *ℤ f) *ℤ (a *ℤ g -ℤ b *ℤ h -ℤ c *ℤ e +ℤ d *ℤ f)
    +ℤ (a *ℤ h +ℤ b *ℤ g -ℤ c *ℤ f -ℤ d *ℤ e) *ℤ (a *ℤ h +ℤ b *ℤ g -ℤ c *ℤ f -ℤ d *ℤ e)
four_squares a b c d e f g h = ring! (a ∷ b ∷ c ∷ d ∷ e ∷ f ∷ g ∷ h ∷ []) (search quote depth 40 fits 20000) tt
