-- Laws of `all_below` and `any_below`, the tests at the places 0, .., n - 1.
--
--     Turns     all_none   any_none       n = 0: true; false
--               all_more   any_more       at the code's n + 1
--     All       all_each       true: true at each place      all_true     the other way round
--               all_false      false at a place: false       all_same     the same tests: the same answer
--               all_place      false: a place at which it is false
--               all_split      at a + b places: at the first a and at the b from place a on
--     Chains    all_list       `all` of a list: at its places
--               all_range      `all` of 0..n     any_range      `any` of 0..n
--     Any       any_each       false: false at each place    any_false    the other way round
--               any_true       true at a place: true         any_place    true: a place at which it is true
--               any_same       the same tests: the same answer
--     Loops     a loop that leaves at the first place where a test fails, or holds, and the place that it has reached
--               all_onward     one place more                all_stop     it leaves with false      all_end    with true
--               any_onward     one place more                any_stop     it leaves with true       any_end    with false
--
-- Assumes nothing.
use mathlib.Core.Path.{◌≡◌, refl, sym, ◌∙◌, ap, ap₂}
use mathlib.Core.Bool.{Bool, true, false, ◌&&◌, ◌||◌, true≢false, false≢true}
use Prim.Native.Nat.{ℕ, zero, suc, ◌+◌, ◌<◌, ◌≤◌}
use native.Mathlib.Nat.{le_antisymm}
use native.Mathlib.Numerals.{add-one}
use native.Mathlib.Omega.{arith}
use native.Mathlib.Decide.{ℕ_discrete}
use mathlib.Core.List.{List, [], ◌∷◌}
use lib.ListN.{length, get_or}
use Rattle.std.specs.List.{list_all, list_any, range_with_len}
use Rattle.integers.specs.Below.{all_below, any_below}

-- Turns ----------------------------------------------------------------------------------------------------------------

pub all_none : (t : ℕ → Bool) → all_below 0 t ≡ true
unfolding all_below
all_none t = refl

pub any_none : (t : ℕ → Bool) → any_below 0 t ≡ false
unfolding any_below
any_none t = refl

pub all_more : (n : ℕ) (t : ℕ → Bool) → all_below (n + 1) t ≡ all_below n t && t n
unfolding all_below
all_more n t = rw add-one

pub any_more : (n : ℕ) (t : ℕ → Bool) → any_below (n + 1) t ≡ any_below n t || t n
unfolding any_below
any_more n t = rw add-one

-- All ------------------------------------------------------------------------------------------------------------------

and_parts : (a b : Bool) → a && b ≡ true → (a ≡ true) × (b ≡ true)
and_parts true b e = (refl, e)
and_parts false b e = absurd (false≢true e)

and_false : (a b : Bool) → b ≡ false → a && b ≡ false
and_false true b e = e
and_false false b e = refl

pub all_each : (n : ℕ) (t : ℕ → Bool) → all_below n t ≡ true → (i : ℕ) → i < n → t i ≡ true
unfolding all_below
all_each zero t e i h = absurd (omega arith)
all_each (suc n) t e i h = let p = and_parts (all_below n t) (t n) e in elim (ℕ_discrete i n) [
  | yes r ↦ ap t r ∙ p.1
  | no r ↦ all_each n t p.0 i (omega arith)
]

pub all_true : (n : ℕ) (t : ℕ → Bool) → ((i : ℕ) → i < n → t i ≡ true) → all_below n t ≡ true
unfolding all_below
all_true zero t h = refl
all_true (suc n) t h = ap₂ (λ (a b : Bool). a && b) (all_true n t (λ i l. h i (omega arith))) (h n (omega arith))

pub all_false : (n : ℕ) (t : ℕ → Bool) (i : ℕ) → i < n → t i ≡ false → all_below n t ≡ false
unfolding all_below
all_false zero t i h e = absurd (omega arith)
all_false (suc n) t i h e = elim (ℕ_discrete i n) [
  | yes r ↦ and_false (all_below n t) (t n) (ap t (sym r) ∙ e)
  | no r ↦ ap (λ (a : Bool). a && t n) (all_false n t i (omega arith) e)
]

pub all_place : (n : ℕ) (t : ℕ → Bool) → all_below n t ≡ false → (i : ℕ) × (i < n) × (t i ≡ false)
unfolding all_below
all_place zero t e = absurd (true≢false e)
all_place (suc n) t e = go (all_below n t) refl e (all_place n t)
  where
    go : (a : Bool) → all_below n t ≡ a → a && t n ≡ false → (all_below n t ≡ false → (i : ℕ) × (i < n) × (t i ≡ false)) → (i : ℕ) × (i < suc n) × (t i ≡ false)
    go true r f earlier = (n, omega arith, f)
    go false r f earlier = let p = earlier r in (p.0, omega (arith, p.1), p.2)

pub all_same : (n : ℕ) (t u : ℕ → Bool) → ((i : ℕ) → i < n → t i ≡ u i) → all_below n t ≡ all_below n u
unfolding all_below
all_same zero t u h = refl
all_same (suc n) t u h = ap₂ (λ (a b : Bool). a && b) (all_same n t u (λ i l. h i (omega arith))) (h n (omega arith))

and_assoc : (a b c : Bool) → (a && b) && c ≡ a && (b && c)
and_assoc true b c = refl
and_assoc false b c = refl

pub all_split : (a b : ℕ) (t : ℕ → Bool) → all_below (a + b) t ≡ all_below a t && all_below b (λ i. t (i + a))
unfolding all_below
all_split a zero t = let e : a + 0 ≡ a = omega arith in rw e (and_true (all_below a t))
  where
    and_true : (x : Bool) → x ≡ x && true
    and_true true = refl
    and_true false = refl
all_split a (suc b) t = let e : a + suc b ≡ suc (a + b) = omega arith in let f : a + b ≡ b + a = omega arith in
    rw e (ap₂ (λ (x y : Bool). x && y) (all_split a b t) (ap t f) ∙ and_assoc (all_below a t) (all_below b (λ i. t (i + a))) (t (b + a)))

-- Any ------------------------------------------------------------------------------------------------------------------

pub any_same : (n : ℕ) (t u : ℕ → Bool) → ((i : ℕ) → i < n → t i ≡ u i) → any_below n t ≡ any_below n u
unfolding any_below
any_same zero t u h = refl
any_same (suc n) t u h = ap₂ (λ (a b : Bool). a || b) (any_same n t u (λ i l. h i (omega arith))) (h n (omega arith))

or_parts : (a b : Bool) → a || b ≡ false → (a ≡ false) × (b ≡ false)
or_parts true b e = absurd (true≢false e)
or_parts false b e = (refl, e)

or_true : (a b : Bool) → b ≡ true → a || b ≡ true
or_true true b e = refl
or_true false b e = e

pub any_each : (n : ℕ) (t : ℕ → Bool) → any_below n t ≡ false → (i : ℕ) → i < n → t i ≡ false
unfolding any_below
any_each zero t e i h = absurd (omega arith)
any_each (suc n) t e i h = let p = or_parts (any_below n t) (t n) e in elim (ℕ_discrete i n) [
  | yes r ↦ ap t r ∙ p.1
  | no r ↦ any_each n t p.0 i (omega arith)
]

pub any_false : (n : ℕ) (t : ℕ → Bool) → ((i : ℕ) → i < n → t i ≡ false) → any_below n t ≡ false
unfolding any_below
any_false zero t h = refl
any_false (suc n) t h = ap₂ (λ (a b : Bool). a || b) (any_false n t (λ i l. h i (omega arith))) (h n (omega arith))

pub any_true : (n : ℕ) (t : ℕ → Bool) (i : ℕ) → i < n → t i ≡ true → any_below n t ≡ true
unfolding any_below
any_true zero t i h e = absurd (omega arith)
any_true (suc n) t i h e = elim (ℕ_discrete i n) [
  | yes r ↦ or_true (any_below n t) (t n) (ap t (sym r) ∙ e)
  | no r ↦ ap (λ (a : Bool). a || t n) (any_true n t i (omega arith) e)
]

pub any_place : (n : ℕ) (t : ℕ → Bool) → any_below n t ≡ true → (i : ℕ) × (i < n) × (t i ≡ true)
unfolding any_below
any_place zero t e = absurd (false≢true e)
any_place (suc n) t e = go (any_below n t) refl e (any_place n t)
  where
    go : (a : Bool) → any_below n t ≡ a → a || t n ≡ true → (any_below n t ≡ true → (i : ℕ) × (i < n) × (t i ≡ true)) → (i : ℕ) × (i < suc n) × (t i ≡ true)
    go true r f earlier = let p = earlier r in (p.0, omega (arith, p.1), p.2)
    go false r f earlier = (n, omega arith, f)

-- Loops ----------------------------------------------------------------------------------------------------------------

module _ (n : ℕ) (t : ℕ → Bool) (i : ℕ) where
  pub all_onward : all_below i t ≡ true → t i ≡ true → all_below (i + 1) t ≡ true
  all_onward e f = all_more i t ∙ ap₂ (λ (a b : Bool). a && b) e f

  pub all_stop : i < n → t i ≡ false → false ≡ all_below n t
  all_stop h e = sym (all_false n t i h e)

  pub all_end : i ≤ n → n ≤ i → all_below i t ≡ true → true ≡ all_below n t
  all_end h k e = sym e ∙ ap (λ (m : ℕ). all_below m t) (le_antisymm h k)

  pub any_onward : any_below i t ≡ false → t i ≡ false → any_below (i + 1) t ≡ false
  any_onward e f = any_more i t ∙ ap₂ (λ (a b : Bool). a || b) e f

  pub any_stop : i < n → t i ≡ true → true ≡ any_below n t
  any_stop h e = sym (any_true n t i h e)

  pub any_end : i ≤ n → n ≤ i → any_below i t ≡ false → false ≡ any_below n t
  any_end h k e = sym e ∙ ap (λ (m : ℕ). any_below m t) (le_antisymm h k)

-- Chains ---------------------------------------------------------------------------------------------------------------

-- one place more in front
all_front : (n : ℕ) (t : ℕ → Bool) → all_below (suc n) t ≡ t 0 && all_below n (λ i. t (suc i))
unfolding all_below
all_front zero t = elim (t 0) as (λ v. true && v ≡ v && true) [ true ↦ refl | false ↦ refl ]
all_front (suc n) t = ap (λ (a : Bool). a && t (suc n)) (all_front n t) ∙ and_assoc (t 0) (all_below n (λ i. t (suc i))) (t (suc n))

or_assoc : (a b c : Bool) → (a || b) || c ≡ a || (b || c)
or_assoc true b c = refl
or_assoc false b c = refl

any_front : (n : ℕ) (t : ℕ → Bool) → any_below (suc n) t ≡ t 0 || any_below n (λ i. t (suc i))
unfolding any_below
any_front zero t = elim (t 0) as (λ v. false || v ≡ v || false) [ true ↦ refl | false ↦ refl ]
any_front (suc n) t = ap (λ (a : Bool). a || t (suc n)) (any_front n t) ∙ or_assoc (t 0) (any_below n (λ i. t (suc i))) (t (suc n))

pub all_list : {X : Type 0} (t : X → Bool) (xs : List X) (d : X) → list_all t xs ≡ all_below (length xs) (λ i. t (get_or xs i d))
unfolding all_below
all_list t [] d = refl
all_list t (x ∷ xs) d = ap (λ (a : Bool). t x && a) (all_list t xs d) ∙ sym (all_front (length xs) (λ i. t (get_or (x ∷ xs) i d)))

all_from : (a n : ℕ) (t : ℕ → Bool) → list_all t (range_with_len a n) ≡ all_below n (λ i. t (a + i))
unfolding all_below
all_from a zero t = refl
all_from a (suc n) t =
    ap (λ (u : Bool). t a && u) (all_from (a + 1) n t ∙ all_same n (λ i. t (a + 1 + i)) (λ i. t (a + suc i)) (λ i l. ap t (omega arith)))
    ∙ ap (λ (k : ℕ). t k && all_below n (λ i. t (a + suc i))) (omega arith)
    ∙ sym (all_front n (λ i. t (a + i)))

pub all_range : (n : ℕ) (t : ℕ → Bool) → list_all t (range_with_len 0 n) ≡ all_below n t
all_range n t = all_from 0 n t ∙ all_same n (λ i. t (0 + i)) t (λ i l. ap t (omega arith))

any_from : (a n : ℕ) (t : ℕ → Bool) → list_any t (range_with_len a n) ≡ any_below n (λ i. t (a + i))
unfolding any_below
any_from a zero t = refl
any_from a (suc n) t =
    ap (λ (u : Bool). t a || u) (any_from (a + 1) n t ∙ any_same n (λ i. t (a + 1 + i)) (λ i. t (a + suc i)) (λ i l. ap t (omega arith)))
    ∙ ap (λ (k : ℕ). t k || any_below n (λ i. t (a + suc i))) (omega arith)
    ∙ sym (any_front n (λ i. t (a + i)))

pub any_range : (n : ℕ) (t : ℕ → Bool) → list_any t (range_with_len 0 n) ≡ any_below n t
any_range n t = any_from 0 n t ∙ any_same n (λ i. t (0 + i)) t (λ i l. ap t (omega arith))
