-- Frames 02 to 06, the answer to a line, and what `respond` answers and leaves. Each frame has its line end.
--
--     refutation_frame, point_frame, unfinished_frame, interpolant_frame, refusal_frame    frames 02, 03, 04, 05, 06
--     problem_answer    the answer to a problem: what the search replies, and with a refutation what the checker makes of it; vector,
--                       point and coeffs are the runs that are lent to them, before the call
--     answer_of l       the answer to a line: "Per line it writes 02 and then 05, or one of 03, 04, 06"
--     problem_lines     the answer to a line that is a problem, with runs of `zeros` lent
--     answer_max        the length of the longest answer
--     has_room          whether so many places are left
--     respond_end       the place after the answer                respond_run    the run with the answer written into it
--
-- If the checker refused a vector that the search found, the answer would be frame 06 with its number: that it never does is no part
-- of the definition.
use Rattle.std.specs.Prelude.{List, [], ◌∷◌, ◌++◌, Bool, cond, ℕ, ◌+◌, leb, length, replicate, ℤ, pos, Option, Some, None, Result, Ok, Err}
use Rattle.std.proofs.lemmas.List.Edits.{sets}
use Rattle.problem.specs.declared.Refusal.{Refusal}
use Rattle.problem.specs.Refusal.{number_of}
use Rattle.checker.specs.Answer.{judge_answer, judge_run}
use Rattle.checker.specs.declared.Fact.{Fact}
use Rattle.search.specs.Answer.{search_reply, search_vector, search_point}
use Rattle.search.specs.declared.Answer.{Answer}
use Rattle.search.specs.declared.Outcome.{Outcome}
use Rattle.search.specs.declared.Outcome.TheVariants.{Unfinished, TooLarge, Refuted, Solved}
use Rattle.frames.specs.Hex.{hex, signed_hex, hexes}
use Rattle.frames.specs.Problem.{line_refusal, n_of, ma_of, mb_of, budget_of, side_a, side_b}

-- "A line ends with byte 10"
abbrev pub line_end : List ℕ
line_end = 10 ∷ []

-- "02 refutation: steps (4, unsigned, as all counts are), m (1), q (4), numerators (4 each)."
unfoldable pub refutation_frame : ℕ → ℕ → ℤ → List ℤ → List ℕ
refutation_frame steps m q vector = hex 2 2 ++ (hex 8 steps ++ (hex 2 m ++ (signed_hex 8 q ++ (hexes 8 vector ++ line_end))))

-- "03 point: steps (4), n (1), places (4 each)."
unfoldable pub point_frame : ℕ → ℕ → List ℤ → List ℕ
point_frame steps n point = hex 2 3 ++ (hex 8 steps ++ (hex 2 n ++ (hexes 8 point ++ line_end)))

-- "04 unfinished: steps (4)."
unfoldable pub unfinished_frame : ℕ → List ℕ
unfinished_frame steps = hex 2 4 ++ (hex 8 steps ++ line_end)

-- "05 interpolant: n (1), coefficients, constant, modulus (8 each)."
unfoldable pub interpolant_frame : ℕ → List ℤ → ℤ → ℤ → List ℕ
interpolant_frame n coeffs constant modulus = hex 2 5 ++ (hex 2 n ++ (hexes 16 coeffs ++ (signed_hex 16 constant ++ (signed_hex 16 modulus ++ line_end))))

-- "06 refusal: number (1), steps (4, zero but for refusal 8)."
unfoldable pub refusal_frame : ℕ → ℕ → List ℕ
refusal_frame number steps = hex 2 6 ++ (hex 2 number ++ (hex 8 steps ++ line_end))

-- a vector that the search found: `coeffs` is what the checker then leaves
abbrev pub fact_answer : Result Fact Refusal → ℕ → ℕ → ℕ → ℤ → List ℤ → List ℤ → List ℕ
fact_answer (Ok fact) n m steps q vector coeffs = refutation_frame steps m q vector ++ interpolant_frame n coeffs fact.constant fact.modulus
fact_answer (Err refusal) n m steps q vector coeffs = refusal_frame (number_of refusal) 0

abbrev pub refuted_answer : ℤ → ℕ → ℕ → ℕ → ℕ → List ℤ → List ℤ → List ℤ → List ℤ → List ℕ
refuted_answer q steps n ma mb a b vector coeffs =
    fact_answer (judge_answer n ma mb a b q vector coeffs) n (ma + mb) steps q vector (judge_run n ma mb a b q vector coeffs)

-- vector and point as the search leaves them
abbrev pub outcome_answer : Outcome → ℕ → ℕ → ℕ → ℕ → List ℤ → List ℤ → List ℤ → List ℤ → List ℤ → List ℕ
outcome_answer Unfinished steps n ma mb a b vector point coeffs = unfinished_frame steps
outcome_answer TooLarge steps n ma mb a b vector point coeffs = refusal_frame 8 steps
outcome_answer (Refuted q) steps n ma mb a b vector point coeffs = refuted_answer q steps n ma mb a b vector coeffs
outcome_answer Solved steps n ma mb a b vector point coeffs = point_frame steps n point

abbrev pub reply_answer : Result Answer Refusal → ℕ → ℕ → ℕ → List ℤ → List ℤ → List ℤ → List ℤ → List ℤ → List ℕ
reply_answer (Ok found) n ma mb a b vector point coeffs = outcome_answer found.outcome found.steps n ma mb a b vector point coeffs
reply_answer (Err refusal) n ma mb a b vector point coeffs = refusal_frame (number_of refusal) 0

unfoldable pub problem_answer : ℕ → ℕ → ℕ → List ℤ → List ℤ → ℕ → List ℤ → List ℤ → List ℤ → List ℕ
problem_answer n ma mb a b budget vector point coeffs =
    reply_answer (search_reply n ma mb a b budget vector point) n ma mb a b (search_vector n ma mb a b budget vector point) (search_point n ma mb a b budget vector point) coeffs

abbrev pub zeros : ℕ → List ℤ
zeros k = replicate k (pos 0)

unfoldable pub problem_lines : List ℕ → List ℕ
problem_lines l = problem_answer (n_of l) (ma_of l) (mb_of l) (side_a l) (side_b l) (budget_of l) (zeros (ma_of l + mb_of l)) (zeros (n_of l)) (zeros (n_of l))

abbrev pub answer_by : Option Refusal → List ℕ → List ℕ
answer_by None lines = lines
answer_by (Some refusal) lines = refusal_frame (number_of refusal) 0

unfoldable pub answer_of : List ℕ → List ℕ
answer_of l = answer_by (line_refusal l) (problem_lines l)

-- 117 for frame 02 with 12 numerators, and 229 for frame 05 with 12 coefficients
abbrev pub answer_max : ℕ
answer_max = 346

abbrev pub has_room : List ℕ → ℕ → Bool
has_room out at = leb (at + answer_max) (length out)

unfoldable pub respond_end : List ℕ → List ℕ → ℕ → ℕ
respond_end line out at = cond (has_room out at) (at + length (answer_of line)) at

unfoldable pub respond_run : List ℕ → List ℕ → ℕ → List ℕ
respond_run line out at = cond (has_room out at) (sets out at (answer_of line)) out
