-- What `respond` answers and leaves.
--
--     respond_none     without room it writes nothing              respond_some    with room it writes the answer
--     respond_kept     the run keeps its length
--     Answered         with room: the end is past the place and within the run, and up to the end stands what stood before the place and
--                      then the answer
--     respond_answered with room it is Answered
--
-- Assumes nothing.
use mathlib.Core.Path.{◌≡◌, refl, ap}
use mathlib.Core.Bool.{Bool, true, false, cond}
use mathlib.Core.List.{List, ◌++◌}
use Prim.Native.Nat.{ℕ, ◌+◌, ◌<◌, ◌≤◌}
use native.Mathlib.Omega.{arith}
use borrow.Author.Tests.{le-leb, lt-leb}
use lib.ListN.{length, take}
use lib.Seq.{sets, length-sets}
use Rattle.frames.specs.Answer.{answer_of, answer_max, has_room, respond_end, respond_run}
use Rattle.frames.proofs.Laws.Text.{take_sets}
use Rattle.frames.proofs.Theorems.Length.{answer_some, answer_short}

pub record Answered (line out : List ℕ) (at : ℕ) (after : List ℕ) (end : ℕ) : Type 0 where
  pub more : at < end
  pub within : end ≤ length after
  pub text : take end after ≡ take at out ++ answer_of line

module _ (line out : List ℕ) (at : ℕ) where
  pub respond_none : length out < at + answer_max → (at ≡ respond_end line out at) × (out ≡ respond_run line out at)
  unfolding respond_end respond_run
  respond_none h = let e = lt-leb (at + answer_max) (length out) h in (simp e, simp e)

  pub respond_some : {text : List ℕ} → at + answer_max ≤ length out → text ≡ answer_of line →
      (at + length text ≡ respond_end line out at) × (sets out at text ≡ respond_run line out at)
  unfolding respond_end respond_run
  respond_some h e =
      let room = le-leb (at + answer_max) (length out) h in
      (simp room (ap (λ (t : List ℕ). at + length t) e), simp room (ap (sets out at) e))

  kept_by : (t : Bool) → length (cond t (sets out at (answer_of line)) out) ≡ length out
  kept_by true = length-sets out at (answer_of line)
  kept_by false = refl

  pub respond_kept : length (respond_run line out at) ≡ length out
  unfolding respond_run
  respond_kept = kept_by (has_room out at)

  pub respond_answered : at + answer_max ≤ length out → Answered line out at (respond_run line out at) (respond_end line out at)
  unfolding respond_end respond_run
  respond_answered h =
      let room = le-leb (at + answer_max) (length out) h in
      let some = answer_some line in
      let short = answer_short line in
      let kept = length-sets out at (answer_of line) in
      simp room (record { more = omega arith; within = omega arith; text = take_sets (answer_of line) out at (omega arith) })
