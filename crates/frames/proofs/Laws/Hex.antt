-- Lengths and ranges of numbers in hexadecimal.
--
--     Read       digit_below       a digit's value is below 16
--                value_below       k digits stand for a number below 16 ^ k
--                value_room        after fewer than 8 digits there is room for one more in 32 bits
--                value_more        one digit more
--     Written    hex-length        hex k v is k long            hexes-length    hexes k run is k times as long as the run
--                hex_turn          the lowest digit, and before it the others
--                hex_step          the same at the code's k - 1          hex_whole    no digit is left
--                hexes-append      the numbers of one run and then of another
--                hexes_more        the numbers before place i, and then the one at it
--
-- Assumes nothing.
use mathlib.Core.Path.{◌≡◌, refl, sym, ◌∙◌, ap}
use mathlib.Core.Bool.{Bool, true, false, cond}
use mathlib.Core.List.{List, [], ◌∷◌, ◌++◌, append_assoc, append-nil}
use Prim.Native.Nat.{ℕ, zero, suc, ◌+◌, ◌*◌, ◌-◌, ◌/◌, ◌%◌, ◌<◌, ◌≤◌, ◌^◌}
use native.Mathlib.Nat.{suc-mul, pow-suc, pow-le-pow_right}
use native.Mathlib.Numerals.{add-one}
use native.Mathlib.Omega.{arith}
use borrow.Author.Tests.{ltb-true}
use lib.Dec.{ltb}
use lib.ListN.{length, set, get_or, take, length-append}
use lib.Seq.{sets, take-suc}
use lib.IntN.{ℤ, pos}
use mir.Syntax.{w64}
use mir.Val.{of_z}
use Rattle.integers.specs.Run.{at}
use Rattle.frames.specs.Hex.{digit_of, value_at, char_of, hex, signed_hex, hexes}
use Rattle.frames.proofs.Laws.Text.{sets_append, sets_set, take_sets}

-- Read -----------------------------------------------------------------------------------------------------------------

digit_by : (c : ℕ) (s t u v : Bool) → ltb c 58 ≡ t → ltb c 103 ≡ v → cond s 0 (cond t (c - 48) (cond u 0 (cond v (c - 87) 0))) < 16
digit_by c true t u v e f = omega arith
digit_by c false true u v e f = omega (arith, ltb-true c 58 e)
digit_by c false false true v e f = omega arith
digit_by c false false false true e f = omega (arith, ltb-true c 103 f)
digit_by c false false false false e f = omega arith

pub digit_below : (c : ℕ) → digit_of c < 16
unfolding digit_of
digit_below c = digit_by c (ltb c 48) (ltb c 58) (ltb c 97) (ltb c 103) refl refl

pub value_below : (l : List ℕ) (i k : ℕ) → value_at l i k < 16 ^ k
unfolding value_at
value_below l i zero = omega arith
value_below l i (suc k) = rw (pow-suc 16 k) (omega (arith, value_below l i k, digit_below (get_or l (i + k) 0)))

pub value_room : (l : List ℕ) (i k : ℕ) → k < 8 → value_at l i k * 16 + 15 < 2 ^ 32
value_room l i k h = omega (arith, value_below l i k, pow-le-pow_right {n = 16} (omega arith) {i = k} {j = 7} (omega arith))

pub value_more : (l : List ℕ) (i k : ℕ) → value_at l i k * 16 + digit_of (get_or l (i + k) 0) ≡ value_at l i (k + 1)
unfolding value_at
value_more l i k = rw add-one

pub value_none : (l : List ℕ) (i : ℕ) → 0 ≡ value_at l i 0
unfolding value_at
value_none l i = refl

-- Written --------------------------------------------------------------------------------------------------------------

pub hex-length : (k v : ℕ) → length (hex k v) ≡ k
unfolding hex
hex-length zero v = refl
hex-length (suc k) v = length-append (hex k (v / 16)) (char_of (v % 16) ∷ []) ∙ let e = hex-length k (v / 16) in omega arith

pub hexes-length : (k : ℕ) (run : List ℤ) → length (hexes k run) ≡ length run * k
unfolding hexes
hexes-length k [] = omega arith
hexes-length k (x ∷ run) = length-append (signed_hex k x) (hexes k run) ∙ let e = hexes-length k run in let f = hex-length k (of_z w64 x) in rw (suc-mul (length run) k) (omega arith)

pub hex_turn : (l : List ℕ) (i k v : ℕ) → sets (set l (i + k) (char_of (v % 16))) i (hex k (v / 16)) ≡ sets l i (hex (suc k) v)
unfolding hex
hex_turn l i k v =
    let rest = hex k (v / 16) in
    let long = hex-length k (v / 16) in
    sym (sets_set rest l i (i + k) (char_of (v % 16)) (omega arith))
    ∙ ap (λ (j : ℕ). set (sets l i rest) (i + j) (char_of (v % 16))) (sym long)
    ∙ sets_append rest (char_of (v % 16) ∷ []) l i

-- one digit before those that are written
pub hex_step : (l : List ℕ) (i k v : ℕ) → 0 < k → sets (set l (i + (k - 1)) (char_of (v % 16))) i (hex (k - 1) (v / 16)) ≡ sets l i (hex k v)
hex_step l i k v h = let one : suc (k - 1) ≡ k = omega arith in hex_turn l i (k - 1) v ∙ ap (λ (j : ℕ). sets l i (hex j v)) one

-- no digit is left: the number is written
pub hex_whole : (l m : List ℕ) (i k v count value : ℕ) → k ≤ 0 → i + count ≤ length l → sets m i (hex k v) ≡ sets l i (hex count value) →
    take (i + count) m ≡ take i l ++ hex count value
unfolding hex
hex_whole l m i (suc k) v count value h g e = absurd (omega arith)
hex_whole l m i zero v count value h g e =
    let long = hex-length count value in
    ap (take (i + count)) e ∙ ap (λ (j : ℕ). take (i + j) (sets l i (hex count value))) (sym long) ∙ take_sets (hex count value) l i (omega arith)

pub hexes-append : (k : ℕ) (run more : List ℤ) → hexes k (run ++ more) ≡ hexes k run ++ hexes k more
unfolding hexes
hexes-append k [] more = refl
hexes-append k (x ∷ run) more = ap (λ (t : List ℕ). signed_hex k x ++ t) (hexes-append k run more) ∙ sym (append_assoc (signed_hex k x) (hexes k run) (hexes k more))

hexes_one : (k : ℕ) (x : ℤ) → hexes k (x ∷ []) ≡ signed_hex k x
unfolding hexes
hexes_one k x = simp append-nil

pub hexes_none : (k : ℕ) (run : List ℤ) → hexes k (take 0 run) ≡ []
unfolding hexes
hexes_none k run = refl

-- the numbers before place i, and then the one at it
pub hexes_more : (k : ℕ) (run : List ℤ) (i : ℕ) → i < length run → hexes k (take (i + 1) run) ≡ hexes k (take i run) ++ signed_hex k (at run i)
hexes_more k run i h =
    ap (hexes k) (rw add-one (take-suc run i (pos 0) h)) ∙ hexes-append k (take i run) (at run i ∷ []) ∙ ap (λ (t : List ℕ). hexes k (take i run) ++ t) (hexes_one k (at run i))
