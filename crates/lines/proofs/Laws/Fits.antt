-- What a call of `feed` asks, and what its tests say.
--
--     lawful     a carry of which is_carry says so is Lawful
--     Fitting    what makes a call fit: all places are in their runs, and the longest answer has room
--     fitting    fits says so
--     lawful_is, fitting_is    what is so is told to be so
--     room_left  room for the longest answer, told by what is left
--
-- Assumes nothing.
use mathlib.Core.Path.{◌≡◌, refl, sym, ◌∙◌}
use mathlib.Core.Bool.{Bool, true, false, ◌&&◌}
use mathlib.Core.List.{List}
use Prim.Native.Nat.{ℕ, ◌+◌, ◌-◌, ◌≤◌}
use native.Mathlib.Decide.{dec_lt}
use native.Mathlib.Omega.{arith}
use borrow.Author.Tests.{leb-true, eqb-true, le-leb, lt-leb, eq-eqb}
use lib.Dec.{eqb, leb}
use lib.ListN.{length}
use Rattle.frames.specs.Answer.{answer_max, has_room}
use Rattle.lines.specs.Lines.{cap, is_carry, fits}
use Rattle.lines.specs.Code.{Lawful}

pub record Fitting (chunk : List ℕ) (at : ℕ) (carry : List ℕ) (held : ℕ) (out : List ℕ) (made : ℕ) : Type 0 where
  pub kept : Lawful carry held
  pub inside : at ≤ length chunk
  pub room : made + answer_max ≤ length out

both : (t u : Bool) → t && u ≡ true → (t ≡ true) × (u ≡ true)
both true u e = (refl, e)
both false u e = absurd (let z : ◌≡◌ {A = ℕ} 0 1 = cc in omega arith)

pub lawful : (carry : List ℕ) (held : ℕ) → is_carry carry held ≡ true → Lawful carry held
unfolding is_carry
lawful carry held e =
    let h = both (eqb (length carry) cap) (leb held cap) e in
    record { long = eqb-true (length carry) cap h.0; few = leb-true held cap h.1 }

pub fitting : (chunk : List ℕ) (at : ℕ) (carry : List ℕ) (held : ℕ) (out : List ℕ) (made : ℕ) → fits chunk at carry held out made ≡ true → Fitting chunk at carry held out made
unfolding fits
fitting chunk at carry held out made e =
    let h = both (is_carry carry held) (leb at (length chunk) && has_room out made) e in
    let g = both (leb at (length chunk)) (has_room out made) h.1 in
    record { kept = lawful carry held h.0; inside = leb-true at (length chunk) g.0; room = leb-true (made + answer_max) (length out) g.1 }

pub lawful_is : (carry : List ℕ) (held : ℕ) → Lawful carry held → is_carry carry held ≡ true
unfolding is_carry
lawful_is carry held h = simp (eq-eqb (length carry) cap h.long, le-leb held cap h.few)

pub fitting_is : (chunk : List ℕ) (at : ℕ) (carry : List ℕ) (held : ℕ) (out : List ℕ) (made : ℕ) → Fitting chunk at carry held out made → fits chunk at carry held out made ≡ true
unfolding fits
fitting_is chunk at carry held out made h =
    simp (lawful_is carry held h.kept, le-leb at (length chunk) h.inside, le-leb (made + answer_max) (length out) h.room)

pub room_left : (n made : ℕ) → leb answer_max (n - made) ≡ leb (made + answer_max) n
room_left n made = elim (dec_lt n (made + answer_max)) [
  | yes g ↦ lt-leb answer_max (n - made) (omega arith) ∙ sym (lt-leb (made + answer_max) n g)
  | no g ↦ le-leb answer_max (n - made) (omega arith) ∙ sym (le-leb (made + answer_max) n (omega arith))
]
