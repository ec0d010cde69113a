-- Digits that are written are digits, and are read back.
--
--     char_value     the value of the digit of d is d             char_digit    and it is a digit
--     end_no_digit   a line end is no digit
--     digits_append  digits and then digits are digits
--     hex_digits     hex k v is digits                            hexes_digits  hexes k run is digits
--     value_round    k digits of a number below 16 ^ k, read back from wherever they stand
--     value_skip     a number is read past a text as without it
--     hex_low        the lowest k digits are those of the number modulo 16 ^ k
--
-- Assumes nothing.
use mathlib.Core.Path.{◌≡◌, refl, ◌∙◌, ap, ap₂}
use mathlib.Core.Bool.{Bool, true, false, cond}
use mathlib.Core.List.{List, [], ◌∷◌, ◌++◌, append_assoc}
use Prim.Native.Nat.{ℕ, zero, suc, ◌+◌, ◌*◌, ◌-◌, ◌/◌, ◌%◌, ◌<◌, ◌^◌}
use native.Mathlib.Nat.{pow-suc, pow-succ', mul_assoc}
use native.Mathlib.Decide.{dec_lt}
use native.Mathlib.Omega.{arith}
use borrow.Author.Tests.{lt-ltb, le-ltb, ltb-true, ltb-false}
use lib.Dec.{ltb}
use lib.ListN.{length, get_or, length-append, get_or-append}
use lib.Seq.{get_or-append-add, get_or_at}
use lib.IntN.{ℤ}
use mir.Syntax.{w64}
use mir.Val.{of_z}
use Rattle.integers.proofs.Laws.Below.{all_none, all_each, all_true}
use Rattle.frames.specs.Hex.{is_digit, digit_of, value_at, char_of, hex, signed_hex, hexes}
use Rattle.frames.specs.Problem.{are_digits}
use Rattle.frames.proofs.Laws.Hex.{hex-length}

-- One digit ------------------------------------------------------------------------------------------------------------

value_by : (d : ℕ) (t : Bool) → ltb d 10 ≡ t → d < 16 → digit_of (cond t (48 + d) (87 + d)) ≡ d
unfolding digit_of
value_by d true e h = let g = ltb-true d 10 e in simp (le-ltb (48 + d) 48 (omega arith), lt-ltb (48 + d) 58 (omega arith)) (omega arith)
value_by d false e h =
    let g = ltb-false d 10 e in
    simp (le-ltb (87 + d) 48 (omega arith), le-ltb (87 + d) 58 (omega arith), le-ltb (87 + d) 97 (omega arith), lt-ltb (87 + d) 103 (omega arith)) (omega arith)

pub char_value : (d : ℕ) → d < 16 → digit_of (char_of d) ≡ d
unfolding char_of
char_value d h = value_by d (ltb d 10) refl h

digit_by : (d : ℕ) (t : Bool) → ltb d 10 ≡ t → d < 16 → is_digit (cond t (48 + d) (87 + d)) ≡ true
unfolding is_digit
digit_by d true e h = let g = ltb-true d 10 e in simp (le-ltb (48 + d) 48 (omega arith), lt-ltb (48 + d) 58 (omega arith))
digit_by d false e h =
    let g = ltb-false d 10 e in
    simp (le-ltb (87 + d) 48 (omega arith), le-ltb (87 + d) 58 (omega arith), le-ltb (87 + d) 97 (omega arith), lt-ltb (87 + d) 103 (omega arith))

pub char_digit : (d : ℕ) → d < 16 → is_digit (char_of d) ≡ true
unfolding char_of
char_digit d h = digit_by d (ltb d 10) refl h

pub end_no_digit : is_digit 10 ≡ false
unfolding is_digit
end_no_digit = refl

-- Many digits ----------------------------------------------------------------------------------------------------------

abbrev test : List ℕ → ℕ → Bool
test l i = is_digit (get_or l i 0)

pub digits_append : (u v : List ℕ) → are_digits u ≡ true → are_digits v ≡ true → are_digits (u ++ v) ≡ true
digits_append u v e f = all_true (length (u ++ v)) (test (u ++ v)) (λ i h. elim (dec_lt i (length u)) [
  | yes g ↦ ap is_digit (get_or-append u v 0 i g) ∙ all_each (length u) (test u) e i g
  | no g ↦
      let k = i - length u in
      let at : i ≡ length u + k = omega arith in
      let long = length-append u v in
      ap (test (u ++ v)) at ∙ ap is_digit (get_or-append-add u v k 0) ∙ all_each (length v) (test v) f k (omega arith)
])

pub digits_none : are_digits [] ≡ true
digits_none = all_none (test [])

digits_one : (c : ℕ) → is_digit c ≡ true → are_digits (c ∷ []) ≡ true
digits_one c e = all_true 1 (test (c ∷ [])) (λ i h. let none : i ≡ 0 = omega arith in ap (test (c ∷ [])) none ∙ e)

pub hex_digits : (k v : ℕ) → are_digits (hex k v) ≡ true
unfolding hex
hex_digits zero v = digits_none
hex_digits (suc k) v = digits_append (hex k (v / 16)) (char_of (v % 16) ∷ []) (hex_digits k (v / 16)) (digits_one (char_of (v % 16)) (char_digit (v % 16) (omega arith)))

pub hexes_digits : (k : ℕ) (run : List ℤ) → are_digits (hexes k run) ≡ true
unfolding hexes
hexes_digits k [] = digits_none
hexes_digits k (x ∷ run) = digits_append (signed_hex k x) (hexes k run) (hex_digits k (of_z w64 x)) (hexes_digits k run)

-- Read back ------------------------------------------------------------------------------------------------------------

module _ (before : List ℕ) where
  pub value_round : (k v : ℕ) (after : List ℕ) → v < 16 ^ k → value_at (before ++ (hex k v ++ after)) (length before) k ≡ v
  unfolding value_at hex
  value_round zero v after h = omega arith
  value_round (suc k) v after h =
      let high = hex k (v / 16) in
      let c = char_of (v % 16) in
      let rest = c ∷ after in
      let joined = ap (λ (t : List ℕ). before ++ t) (append_assoc high (c ∷ []) after) in
      let few : v / 16 < 16 ^ k = let p = pow-suc 16 k in omega arith in
      let digit = get_or-append-add before (high ++ rest) k 0 ∙ get_or_at high c after 0 k (hex-length k (v / 16)) in
      ap (λ (t : List ℕ). value_at t (length before) k * 16 + digit_of (get_or t (length before + k) 0)) joined
      ∙ ap₂ (λ (x y : ℕ). x * 16 + y) (value_round k (v / 16) rest few) (ap digit_of digit ∙ char_value (v % 16) (omega arith))
      ∙ omega arith

pub value_skip : (u v : List ℕ) (i k : ℕ) → value_at (u ++ v) (length u + i) k ≡ value_at v i k
unfolding value_at
value_skip u v i zero = refl
value_skip u v i (suc k) =
    let place : length u + i + k ≡ length u + (i + k) = omega arith in
    ap₂ (λ (x y : ℕ). x * 16 + digit_of y) (value_skip u v i k) (ap (λ (j : ℕ). get_or (u ++ v) j 0) place ∙ get_or-append-add u v (i + k) 0)

pub hex_low : (k v t : ℕ) → hex k (v + 16 ^ k * t) ≡ hex k v
unfolding hex
hex_low zero v t = refl
hex_low (suc k) v t =
    let u = 16 ^ k * t in
    let p : 16 ^ suc k * t ≡ 16 * u = ap (λ (x : ℕ). x * t) (pow-succ' 16 k) ∙ mul_assoc 16 (16 ^ k) t in
    let high : (v + 16 ^ suc k * t) / 16 ≡ v / 16 + u = omega arith in
    let low : (v + 16 ^ suc k * t) % 16 ≡ v % 16 = omega arith in
    ap₂ (λ (x y : ℕ). hex k x ++ (char_of y ∷ [])) high low ∙ ap (λ (r : List ℕ). r ++ (char_of (v % 16) ∷ [])) (hex_low k (v / 16) t)
