-- "lower-case hexadecimal, big-endian two's complement". Characters are bytes: 48 to 57 are the digits 0 to 9, 97 to 102 the digits
-- a to f.
--
--     is_digit c         whether a character is a digit
--     digit_of c         the value of a digit; 0 for any other character
--     value_at l i k     the number that the k characters from place i on stand for, the first the highest
--     number_at l i      the signed number of 4 bytes from place i on
--     char_of d          the digit of a value below 16
--     hex k v            the lowest k digits of v, the highest first; all of v where v < 16 ^ k
--     signed_hex k x     the lowest k digits of a signed number's two's complement
--     hexes k run        those of each number of a run, one after the other
use Rattle.std.specs.Prelude.{Bool, true, false, cond, List, [], ◌∷◌, ◌++◌, ℕ, zero, suc, ◌+◌, ◌*◌, ◌-◌, ◌/◌, ◌%◌, ltb, get_or, ℤ}
use Rattle.std.specs.Int.{w32, w64}
use Rattle.std.proofs.Common.{to_z, of_z}

unfoldable pub is_digit : ℕ → Bool
is_digit c = cond (ltb c 48) false (cond (ltb c 58) true (cond (ltb c 97) false (ltb c 103)))

unfoldable pub digit_of : ℕ → ℕ
digit_of c = cond (ltb c 48) 0 (cond (ltb c 58) (c - 48) (cond (ltb c 97) 0 (cond (ltb c 103) (c - 87) 0)))

unfoldable pub value_at : List ℕ → ℕ → ℕ → ℕ
value_at l i zero = 0
value_at l i (suc k) = value_at l i k * 16 + digit_of (get_or l (i + k) 0)

abbrev pub number_at : List ℕ → ℕ → ℤ
number_at l i = to_z w32 (value_at l i 8)

unfoldable pub char_of : ℕ → ℕ
char_of d = cond (ltb d 10) (48 + d) (87 + d)

unfoldable pub hex : ℕ → ℕ → List ℕ
hex zero v = []
hex (suc k) v = hex k (v / 16) ++ (char_of (v % 16) ∷ [])

abbrev pub signed_hex : ℕ → ℤ → List ℕ
signed_hex k x = hex k (of_z w64 x)

unfoldable pub hexes : ℕ → List ℤ → List ℕ
hexes k [] = []
hexes k (x ∷ run) = signed_hex k x ++ hexes k run
