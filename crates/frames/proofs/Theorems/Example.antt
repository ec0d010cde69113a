-- The paper's own line and its answer, by computation.
--
--     example-answered     "Input, example 3 of 001 with budget 4", and "Output, two lines"
--
-- Assumes nothing.
use mathlib.Core.Path.{◌≡◌, refl}
use mathlib.Core.List.{◌++◌}
use Rattle.integers.specs.Gcd.{euclid, gcd_ℕ, gcd_ℤ, gcd_from}
use Rattle.integers.specs.NonDivisor.{non_divisor_from, non_divisor}
use Rattle.integers.specs.Sum.{sum}
use Rattle.integers.specs.Below.{all_below, any_below}
use Rattle.integers.specs.Run.{tabulate}
use Rattle.problem.specs.WellFormed.{well_formed}
use Rattle.problem.specs.Occurrence.{occurs}
use Rattle.checker.specs.Refutation.{sums_refusal, vector_refusal, refusal}
use Rattle.checker.specs.Fact.{modulus_of}
use Rattle.checker.specs.NormalForm.{divided, or_else, first_nonzero, sign_by, residue, positive_by, equality_by, unit_by, congruence_by, normal_by, normal_form}
use Rattle.search.specs.Table.{each_row}
use Rattle.search.specs.State.{congruences, upper_cell, start_cell, start_table, given_of, start}
use Rattle.search.specs.Vector.{unit_vector, column_sum, factor_of, back_one, back_by, back_from, denominator_by, vector_of}
use Rattle.search.specs.Step.{better, least, otherwise, other, too_large, reduce_by, reduce_of, negate_by, swap_by, residual_of, place_of, point_of, solve_by, last_by, closed, passed, placed, place_by, go_on_by, refute_by, close_by, close_of, step_by, step_of}
use Rattle.search.specs.Run.{next_by, after}
use Rattle.problem.specs.Refusal.{problem_refusal}
use Rattle.frames.specs.Hex.{is_digit, digit_of, value_at, char_of, hex, hexes}
use Rattle.frames.specs.Problem.{is_frame, is_problem, line_refusal}
use Rattle.frames.specs.Answer.{refutation_frame, interpolant_frame, line_end, problem_answer, problem_lines, answer_of}

pub example-answered :
    answer_of (hex 96 0x010301010000000400000001fffffffe0000000000000000000000000000000100000000fffffffe0000000100000000)
    ≡ hex 36 0x02000000040200000002ffffffff00000001 ++ (line_end ++ (hex 84 0x050300000000000000010000000000000000000000000000000000000000000000000000000000000002 ++ line_end))
unfolding problem_answer problem_refusal after next_by step_of step_by close_of close_by refute_by go_on_by place_by placed passed closed last_by solve_by point_of place_of residual_of swap_by negate_by reduce_of reduce_by too_large other otherwise least better vector_of denominator_by back_from back_by back_one factor_of column_sum unit_vector start given_of start_table start_cell upper_cell congruences each_row well_formed tabulate all_below any_below sum non_divisor non_divisor_from gcd_ℤ gcd_ℕ gcd_from euclid occurs sums_refusal vector_refusal refusal modulus_of divided or_else first_nonzero sign_by residue positive_by equality_by unit_by congruence_by normal_by normal_form answer_of problem_lines line_refusal is_frame is_problem refutation_frame interpolant_frame is_digit digit_of value_at char_of hex hexes
example-answered = refl
