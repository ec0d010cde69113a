-- Each number that is written reads back as itself, from wherever it stands in a text.
--
--     byte_round      1 byte: n, m, a refusal's number           steps_round    4 bytes, unsigned: a count of steps
--     number_round    4 bytes, signed: q, a numerator, a place   long_round     8 bytes, signed: a coefficient, constant or modulus
--
-- Assumes nothing.
use mathlib.Core.Path.{◌≡◌, refl, ◌∙◌, ap}
use mathlib.Core.List.{List, ◌++◌}
use Prim.Native.Nat.{ℕ, suc, ◌+◌, ◌*◌, ◌-◌, ◌<◌, ◌^◌}
use native.Mathlib.Omega.{arith}
use lib.ListN.{length}
use lib.IntN.{ℤ, pos, negsuc}
use mir.Syntax.{w32, w64}
use mir.Val.{SFits, to_z, of_z}
use mir.Facts.{to_z-of_z}
use Rattle.frames.specs.Hex.{value_at, number_at, hex, signed_hex}
use Rattle.frames.proofs.Laws.Digits.{value_round, hex_low}

-- 32 bits of a number that has no more, out of its 64
low_bits : (x : ℤ) → SFits w32 x → hex 8 (of_z w64 x) ≡ hex 8 (of_z w32 x)
low_bits (pos n) f = refl
low_bits (negsuc k) f =
    let s : k < 2147483648 = f.sfits in
    let e : 2 ^ 64 - suc k ≡ (2 ^ 32 - suc k) + 16 ^ 8 * 4294967295 = omega arith in
    ap (hex 8) e ∙ hex_low 8 (2 ^ 32 - suc k) 4294967295

bits_32 : (x : ℤ) → SFits w32 x → of_z w32 x < 16 ^ 8
bits_32 (pos n) f = let s : n < 2147483648 = f.sfits in omega arith
bits_32 (negsuc k) f = let s : k < 2147483648 = f.sfits in omega arith

bits_64 : (x : ℤ) → SFits w64 x → of_z w64 x < 16 ^ 16
bits_64 (pos n) f = let s : n < 9223372036854775808 = f.sfits in omega arith
bits_64 (negsuc k) f = let s : k < 9223372036854775808 = f.sfits in omega arith

module _ (before after : List ℕ) where
  pub byte_round : (v : ℕ) → v < 256 → value_at (before ++ (hex 2 v ++ after)) (length before) 2 ≡ v
  byte_round v h = value_round before 2 v after h

  pub steps_round : (v : ℕ) → v < 2 ^ 32 → value_at (before ++ (hex 8 v ++ after)) (length before) 8 ≡ v
  steps_round v h = value_round before 8 v after h

  pub number_round : (x : ℤ) → SFits w32 x → number_at (before ++ (signed_hex 8 x ++ after)) (length before) ≡ x
  number_round x f =
      ap (λ (t : List ℕ). number_at (before ++ (t ++ after)) (length before)) (low_bits x f)
      ∙ ap (to_z w32) (value_round before 8 (of_z w32 x) after (bits_32 x f)) ∙ to_z-of_z {w = w32} f

  pub long_round : (x : ℤ) → SFits w64 x → to_z w64 (value_at (before ++ (signed_hex 16 x ++ after)) (length before) 16) ≡ x
  long_round x f = ap (to_z w64) (value_round before 16 (of_z w64 x) after (bits_64 x f)) ∙ to_z-of_z {w = w64} f
