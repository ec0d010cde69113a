-- Every answer is well formed: "02 and then 05, or one of 03, 04, 06", each a line of an even number of digits and one line end.
--
--     answer_well_formed    every answer is one or two lines
--     line_end_last         in a line a line end stands last, and nowhere else
--
-- Assumes nothing.
use mathlib.Core.Path.{◌≡◌, refl, sym, ◌∙◌, ap}
use mathlib.Core.Bool.{true≢false}
use mathlib.Core.List.{List}
use Prim.Native.Nat.{ℕ, suc, ◌+◌, ◌<◌}
use native.Mathlib.Decide.{dec_lt}
use native.Mathlib.Omega.{arith}
use lib.ListN.{length, get_or, length-append, get_or-append}
use lib.IntN.{ℤ}
use mir.Syntax.{w64}
use mir.Val.{of_z}
use Rattle.integers.proofs.Laws.Below.{all_each}
use Rattle.checker.specs.Answer.{judge_answer, judge_run}
use Rattle.std.specs.Prelude.{Option, Some, None, Result, Ok, Err}
use Rattle.problem.specs.declared.Refusal.{Refusal}
use Rattle.problem.specs.Refusal.{number_of}
use Rattle.checker.specs.declared.Fact.{Fact}
use Rattle.search.specs.Answer.{search_reply, search_vector, search_point}
use Rattle.search.specs.declared.Outcome.{Outcome}
use Rattle.search.specs.declared.Outcome.TheVariants.{Unfinished, TooLarge, Refuted, Solved}
use Rattle.search.specs.declared.Answer.{Answer}
use Rattle.frames.specs.Hex.{is_digit}
use Rattle.frames.specs.Problem.{line_refusal, n_of, ma_of, mb_of, budget_of, side_a, side_b}
use Rattle.frames.specs.Answer.{line_end, refutation_frame, point_frame, unfinished_frame, interpolant_frame, refusal_frame, fact_answer, outcome_answer, reply_answer, problem_answer, zeros, problem_lines, answer_by, answer_of}
use Rattle.frames.specs.Promises.{IsLine, IsAnswer, refuted, solved, unfinished, refused}
use Rattle.frames.proofs.Laws.Digits.{end_no_digit}
use Rattle.frames.proofs.Laws.Lines.{rest_end, rest_hex, rest_hexes, line_of}

pub line_end_last : (kind : ℕ) (text : List ℕ) → IsLine kind text → (i : ℕ) → i < length text → get_or text i 0 ≡ 10 → suc i ≡ length text
line_end_last kind text line i h e =
    let body = line.body in
    let long = ap length line.is ∙ length-append body line_end in
    elim (dec_lt i (length body)) [
      | yes g ↦
          let here = sym (get_or-append body line_end 0 i g) ∙ ap (λ (t : List ℕ). get_or t i 0) (sym line.is) ∙ e in
          absurd (true≢false (sym (all_each (length body) (λ k. is_digit (get_or body k 0)) line.digits i g) ∙ ap is_digit here ∙ end_no_digit))
      | no g ↦ omega arith
    ]

refutation_line : (steps m : ℕ) (q : ℤ) (vector : List ℤ) → IsLine 2 (refutation_frame steps m q vector)
unfolding refutation_frame
refutation_line steps m q vector = line_of 2 (omega arith) (rest_hex 8 steps refl (rest_hex 2 m refl (rest_hex 8 (of_z w64 q) refl (rest_hexes 4 vector rest_end))))

point_line : (steps n : ℕ) (point : List ℤ) → IsLine 3 (point_frame steps n point)
unfolding point_frame
point_line steps n point = line_of 3 (omega arith) (rest_hex 8 steps refl (rest_hex 2 n refl (rest_hexes 4 point rest_end)))

unfinished_line : (steps : ℕ) → IsLine 4 (unfinished_frame steps)
unfolding unfinished_frame
unfinished_line steps = line_of 4 (omega arith) (rest_hex 8 steps refl rest_end)

interpolant_line : (n : ℕ) (coeffs : List ℤ) (constant modulus : ℤ) → IsLine 5 (interpolant_frame n coeffs constant modulus)
unfolding interpolant_frame
interpolant_line n coeffs constant modulus = line_of 5 (omega arith) (rest_hex 2 n refl (rest_hexes 8 coeffs (rest_hex 16 (of_z w64 constant) refl (rest_hex 16 (of_z w64 modulus) refl rest_end))))

refusal_line : (number steps : ℕ) → IsLine 6 (refusal_frame number steps)
unfolding refusal_frame
refusal_line number steps = line_of 6 (omega arith) (rest_hex 2 number refl (rest_hex 8 steps refl rest_end))

fact-answer : (x : Result Fact Refusal) (n m steps : ℕ) (q : ℤ) (vector coeffs : List ℤ) → IsAnswer (fact_answer x n m steps q vector coeffs)
fact-answer (Ok fact) n m steps q vector coeffs = refuted (refutation_line steps m q vector) (interpolant_line n coeffs fact.constant fact.modulus)
fact-answer (Err refusal) n m steps q vector coeffs = refused (refusal_line (number_of refusal) 0)

module _ (n ma mb : ℕ) (a b vector point coeffs : List ℤ) where
  outcome-answer : (o : Outcome) (steps : ℕ) → IsAnswer (outcome_answer o steps n ma mb a b vector point coeffs)
  outcome-answer Unfinished steps = unfinished (unfinished_line steps)
  outcome-answer TooLarge steps = refused (refusal_line 8 steps)
  outcome-answer (Refuted q) steps =
      fact-answer (judge_answer n ma mb a b q vector coeffs) n (ma + mb) steps q vector (judge_run n ma mb a b q vector coeffs)
  outcome-answer Solved steps = solved (point_line steps n point)

  reply-answer : (r : Result Answer Refusal) → IsAnswer (reply_answer r n ma mb a b vector point coeffs)
  reply-answer (Err refusal) = refused (refusal_line (number_of refusal) 0)
  reply-answer (Ok found) = outcome-answer found.outcome found.steps

problem-answer : (n ma mb : ℕ) (a b : List ℤ) (budget : ℕ) (vector point coeffs : List ℤ) → IsAnswer (problem_answer n ma mb a b budget vector point coeffs)
unfolding problem_answer
problem-answer n ma mb a b budget vector point coeffs =
    reply-answer n ma mb a b (search_vector n ma mb a b budget vector point) (search_point n ma mb a b budget vector point) coeffs (search_reply n ma mb a b budget vector point)

answered_by : (k : Option Refusal) (lines : List ℕ) → IsAnswer lines → IsAnswer (answer_by k lines)
answered_by None lines h = h
answered_by (Some k) lines h = refused (refusal_line (number_of k) 0)

pub answer_well_formed : (l : List ℕ) → IsAnswer (answer_of l)
unfolding answer_of problem_lines
answer_well_formed l =
    answered_by (line_refusal l) (problem_lines l)
    (problem-answer (n_of l) (ma_of l) (mb_of l) (side_a l) (side_b l) (budget_of l) (zeros (ma_of l + mb_of l)) (zeros (n_of l)) (zeros (n_of l)))
