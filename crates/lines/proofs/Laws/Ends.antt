-- The next line end.
--
--     end_after, end_within    it is not before the place, and not past the length
--     end_position   it is where std's `position` finds it
--     before_found   where there is one, it stands after the bytes before it
--
-- Assumes nothing.
use mathlib.Core.Path.{◌≡◌, refl, ◌∙◌, ap}
use mathlib.Core.Bool.{Bool, true, false, cond, not}
use mathlib.Core.List.{List, [], ◌∷◌}
use Prim.Native.Nat.{ℕ, zero, suc, ◌+◌, ◌-◌, ◌<◌, ◌≤◌}
use native.Mathlib.Omega.{arith}
use borrow.Author.Tests.{eqb-true, ltb-false}
use lib.ListN.{length, take, drop, length-drop}
use lib.Dec.{ltb}
use Rattle.std.specs.List.{position, position_or_len}
use Rattle.std.specs.Prelude.{Option, Some, None}
use Rattle.std.specs.Option.{unwrap_or}
use Rattle.std.proofs.lemmas.List.{take_rest}
use Rattle.lines.specs.Lines.{is_end, before, end_from}

module _ (s : List ℕ) (i : ℕ) where
  pub end_after : i ≤ end_from s i
  unfolding end_from
  end_after = omega arith

within_by : (t : Bool) (k n : ℕ) → k ≤ n → cond t zero (suc k) ≤ suc n
within_by true k n h = omega arith
within_by false k n h = omega arith

before-within : (s : List ℕ) → before s ≤ length s
unfolding before
before-within [] = omega arith
before-within (b ∷ s) = within_by (is_end b) (before s) (length s) (before-within s)

pub end_within : (s : List ℕ) (i : ℕ) → i ≤ length s → end_from s i ≤ length s
unfolding end_from
end_within s i h = let e = length-drop i s in let g = before-within (drop i s) in omega arith

found_by : (t : Bool) (b : ℕ) (s : List ℕ) → is_end b ≡ t → (before s < length s → drop (before s) s ≡ 10 ∷ drop (suc (before s)) s) →
    cond t zero (suc (before s)) < suc (length s) → drop (cond t zero (suc (before s))) (b ∷ s) ≡ 10 ∷ drop (suc (cond t zero (suc (before s)))) (b ∷ s)
found_by true b s e f h = ap (λ (c : ℕ). c ∷ s) (eqb-true b 10 e)
found_by false b s e f h = f (omega arith)

pub before_found : (s : List ℕ) → before s < length s → drop (before s) s ≡ 10 ∷ drop (suc (before s)) s
unfolding before
before_found [] h = absurd (omega arith)
before_found (b ∷ s) h = found_by (is_end b) b s refl (before_found s) h

position_by : (t : Bool) (k : ℕ) → cond (not t) (1 + k) 0 ≡ cond t zero (suc k)
position_by true k = refl
position_by false k = omega arith

before_position : (s : List ℕ) → position_or_len is_end s ≡ before s
unfolding before
before_position [] = refl
before_position (b ∷ s) = position_by (is_end b) (position_or_len is_end s) ∙ ap (λ (k : ℕ). cond (is_end b) zero (suc k)) (before_position s)

place_by : (t : Bool) (k n : ℕ) → ltb k n ≡ t → k ≤ n → unwrap_or (cond t (Some k) None) n ≡ k
place_by true k n e h = refl
place_by false k n e h = let g = ltb-false k n e in omega arith

place_is : (s : List ℕ) → unwrap_or (position is_end s) (length s) ≡ before s
place_is s =
    let k = position_or_len is_end s in
    let e = before_position s in
    place_by (ltb k (length s)) k (length s) refl (omega (arith, before-within s)) ∙ e

-- the part from place i on, as the code has it
pub end_position : (s : List ℕ) (i : ℕ) (r : Option ℕ) → r ≡ position is_end (take (length s - i) (drop i s)) →
    i + unwrap_or r (length (take (length s - i) (drop i s))) ≡ end_from s i
unfolding end_from
end_position s i r e =
    ap (λ (r : Option ℕ). i + unwrap_or r (length (take (length s - i) (drop i s)))) e
    ∙ ap (λ (t : List ℕ). i + unwrap_or (position is_end t) (length t)) (take_rest s i) ∙ ap (λ (k : ℕ). i + k) (place_is (drop i s))
