-- Lines: digits and then a line end.
--
--     Rest text        digits, an even number of them, and then a line end
--     rest_end         the line end alone
--     rest_hex         an even number of digits more            rest_hexes    numbers of an even number of digits each
--     line_of          a first byte and then a Rest are a line
--
-- Assumes nothing.
use mathlib.Core.Path.{◌≡◌, refl, sym, ◌∙◌, ap}
use mathlib.Core.Bool.{true}
use mathlib.Core.List.{List, [], ◌++◌, append_assoc}
use Prim.Native.Nat.{ℕ, ◌*◌, ◌%◌, ◌<◌}
use native.Mathlib.Nat.{mul_assoc}
use native.Mathlib.Omega.{arith}
use lib.ListN.{length, length-append}
use lib.IntN.{ℤ}
use Rattle.frames.specs.Hex.{hex, hexes}
use Rattle.frames.specs.Problem.{are_digits}
use Rattle.frames.specs.Answer.{line_end}
use Rattle.frames.specs.Promises.{IsLine}
use Rattle.frames.proofs.Laws.Hex.{hex-length, hexes-length}
use Rattle.frames.proofs.Laws.Digits.{digits_none, digits_append, hex_digits, hexes_digits, value_round}

pub record Rest (text : List ℕ) : Type 0 where
  pub body : List ℕ
  pub is : text ≡ body ++ line_end
  pub digits : are_digits body ≡ true
  pub even : length body % 2 ≡ 0

pub rest_end : Rest line_end
rest_end = record { body = []; is = refl; digits = digits_none; even = refl }

rest_more : (u : List ℕ) {text : List ℕ} → are_digits u ≡ true → length u % 2 ≡ 0 → Rest text → Rest (u ++ text)
rest_more u {text} d e r = record {
  body = u ++ r.body;
  is = ap (λ (t : List ℕ). u ++ t) r.is ∙ sym (append_assoc u r.body line_end);
  digits = digits_append u r.body d r.digits;
  even = let f = r.even in let n = length-append u r.body in omega arith;
}

pub rest_hex : (k v : ℕ) {text : List ℕ} → k % 2 ≡ 0 → Rest text → Rest (hex k v ++ text)
rest_hex k v e r = rest_more (hex k v) (hex_digits k v) (let n = hex-length k v in omega arith) r

-- a number has j bytes
pub rest_hexes : (j : ℕ) (run : List ℤ) {text : List ℕ} → Rest text → Rest (hexes (j * 2) run ++ text)
rest_hexes j run r =
    let n = hexes-length (j * 2) run in
    let m : length run * (j * 2) ≡ length run * j * 2 = sym (mul_assoc (length run) j 2) in
    rest_more (hexes (j * 2) run) (hexes_digits (j * 2) run) (omega arith) r

pub line_of : (kind : ℕ) {text : List ℕ} → kind < 256 → Rest text → IsLine kind (hex 2 kind ++ text)
unfolding rest_hex rest_more
line_of kind {text} h r =
    let all = rest_hex 2 kind refl r in
    record { body = all.body; is = all.is; digits = all.digits; even = all.even; first = value_round [] 2 kind r.body h }
