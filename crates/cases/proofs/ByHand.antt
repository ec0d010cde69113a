-- The paper's cases that are marked P: the definitions of the contracts give what the paper says of each, by computation.
-- Assumes nothing.
use Rattle.std.proofs.Common.{◌≡◌, refl}
use Rattle.integers.specs.Gcd.{euclid, gcd_ℕ, gcd_ℤ, gcd_from}
use Rattle.integers.specs.NonDivisor.{non_divisor_from, non_divisor}
use Rattle.integers.specs.Sum.{sum}
use Rattle.integers.specs.Below.{all_below, any_below}
use Rattle.integers.specs.Run.{tabulate}
use Rattle.problem.specs.WellFormed.{well_formed}
use Rattle.problem.specs.Occurrence.{occurs}
use Rattle.problem.specs.Refusal.{problem_refusal}
use Rattle.checker.specs.Refutation.{sums_refusal, vector_refusal, refusal}
use Rattle.checker.specs.Fact.{modulus_of}
use Rattle.checker.specs.NormalForm.{divided, or_else, first_nonzero, sign_by, residue, positive_by, equality_by, unit_by, congruence_by, normal_by, normal_form}
use Rattle.search.specs.Table.{each_row}
use Rattle.search.specs.State.{congruences, upper_cell, start_cell, start_table, given_of, start}
use Rattle.search.specs.Vector.{unit_vector, column_sum, factor_of, back_one, back_by, back_from, denominator_by, vector_of}
use Rattle.search.specs.Step.{better, least, otherwise, other, too_large, reduce_by, reduce_of, negate_by, swap_by, residual_of, place_of, point_of, solve_by, last_by, closed, passed, placed, place_by, go_on_by, refute_by, close_by, close_of, step_by, step_of}
use Rattle.search.specs.Run.{next_by, after}
use Rattle.cases.specs.Cases.{answer_to, answers_to, cases, expected}

pub by_hand : answers_to cases ≡ expected
unfolding answers_to answer_to refusal vector_refusal sums_refusal occurs gcd_from modulus_of normal_form normal_by equality_by positive_by congruence_by unit_by residue sign_by first_nonzero or_else divided problem_refusal after next_by step_of step_by close_of close_by refute_by go_on_by place_by placed passed closed last_by solve_by point_of place_of residual_of swap_by negate_by reduce_of reduce_by too_large other otherwise least better vector_of denominator_by back_from back_by back_one factor_of column_sum unit_vector start given_of start_table start_cell upper_cell congruences each_row well_formed tabulate all_below any_below sum non_divisor non_divisor_from gcd_ℤ gcd_ℕ euclid
by_hand = refl
