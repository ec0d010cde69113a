-- Lines that are too long.
--
--     answer_cap       the answer to a line longer than 1,360 characters does not depend on what stands past its first 1,361
--
-- Assumes nothing.
use mathlib.Core.Path.{◌≡◌, sym, ◌∙◌, ap}
use mathlib.Core.List.{List}
use Prim.Native.Nat.{ℕ, ◌<◌}
use native.Mathlib.Decide.{dec_lt}
use native.Mathlib.Omega.{arith}
use borrow.Author.Tests.{lt-leb}
use lib.ListN.{length, take}
use lib.Seq.{take_all, length-take-le}
use Rattle.std.specs.Prelude.{Some}
use Rattle.problem.specs.declared.Refusal.TheVariants.{NoFrame}
use Rattle.frames.specs.Problem.{is_frame, line_refusal}
use Rattle.frames.specs.Answer.{refusal_frame, answer_of}
use Rattle.frames.proofs.Laws.Frames.{answer_refused}

long_refused : (l : List ℕ) → 1360 < length l → Some NoFrame ≡ line_refusal l
unfolding line_refusal is_frame
long_refused l h = simp (lt-leb (length l) 1360 h)

long_answer : (l : List ℕ) → 1360 < length l → refusal_frame 9 0 ≡ answer_of l
long_answer l h = answer_refused l NoFrame (long_refused l h)

pub answer_cap : (l : List ℕ) → answer_of (take 1361 l) ≡ answer_of l
answer_cap l = elim (dec_lt 1360 (length l)) [
  | yes h ↦ sym (long_answer (take 1361 l) (let e = length-take-le 1361 l (omega arith) in omega arith)) ∙ long_answer l h
  | no h ↦ ap answer_of (take_all 1361 l (omega arith))
]
