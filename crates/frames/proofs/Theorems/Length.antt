-- How long answers are.
--
--     answer_some     no answer is empty            answer_short    none is longer than answer_max
--
-- Assumes nothing.
use mathlib.Core.Path.{◌≡◌, refl, sym, subst}
use mathlib.Core.Bool.{Bool, true, false}
use mathlib.Core.List.{List}
use Prim.Native.Nat.{ℕ, ◌+◌, ◌≤◌}
use native.Mathlib.Omega.{arith}
use lib.ListN.{length, length-append, length-replicate}
use lib.IntN.{ℤ, pos}
use Rattle.integers.specs.Run.{at}
use Rattle.integers.proofs.Laws.Run.{tabulate-length}
use Rattle.checker.specs.Refutation.{refusal}
use Rattle.checker.specs.Fact.{Fact as Stated}
use Rattle.checker.specs.Answer.{interpolant_for, judge_answer, judge_run, run_of}
use Rattle.std.specs.Prelude.{Option, Some, None, Result, Ok, Err}
use Rattle.problem.specs.declared.Refusal.{Refusal}
use Rattle.problem.specs.Refusal.{number_of}
use Rattle.checker.specs.declared.Fact.{Fact}
use Rattle.search.specs.Answer.{is_refuted, is_solved, written_if, searched, search_refusal, search_reply, search_vector, search_point}
use Rattle.search.specs.declared.Outcome.{Outcome}
use Rattle.search.specs.declared.Outcome.TheVariants.{Unfinished, TooLarge, Refuted, Solved}
use Rattle.search.specs.declared.Answer.{Answer}
use Rattle.frames.specs.Problem.{line_refusal, n_of, ma_of, mb_of, budget_of, side_a, side_b}
use Rattle.frames.specs.Answer.{refutation_frame, interpolant_frame, refusal_frame, answer_max, fact_answer, outcome_answer, reply_answer, problem_answer, zeros, problem_lines, answer_of}
use Rattle.frames.proofs.Laws.Problem.{lawful}
use Rattle.frames.proofs.Laws.Frames.{refutation_length, point_length, unfinished_length, interpolant_length, refusal-length, answer_refused, answer_problem}

record Long (text : List ℕ) : Type 0 where
  some : 1 ≤ length text
  short : length text ≤ answer_max

-- runs keep their lengths
written_length : (k : Option Refusal) (t : Bool) (numbers entry : List ℤ) → length (written_if k t numbers entry) ≡ length entry
written_length None true numbers entry = tabulate-length (length entry) (at numbers)
written_length None false numbers entry = refl
written_length (Some k) t numbers entry = refl

run_length : (k : Option Refusal) (n : ℕ) (f : Stated) (before : List ℤ) → length before ≡ n → length (run_of k n f before) ≡ n
run_length None n f before e = tabulate-length n f.coef
run_length (Some k) n f before e = e

refusal_long : (number steps : ℕ) → Long (refusal_frame number steps)
refusal_long number steps = let e = refusal-length number steps in record { some = omega arith; short = omega arith }

fact_long : (x : Result Fact Refusal) (n m steps : ℕ) (q : ℤ) (vector coeffs : List ℤ) → length vector ≤ 12 → length coeffs ≤ 12 → Long (fact_answer x n m steps q vector coeffs)
fact_long (Ok fact) n m steps q vector coeffs h k =
    let e = refutation_length steps m q vector in
    let f = interpolant_length n coeffs fact.constant fact.modulus in
    let g = length-append (refutation_frame steps m q vector) (interpolant_frame n coeffs fact.constant fact.modulus) in
    record { some = omega arith; short = omega arith }
fact_long (Err refusal) n m steps q vector coeffs h k = refusal_long (number_of refusal) 0

module _ (n ma mb : ℕ) (a b vector point coeffs : List ℤ) (few_n : n ≤ 12) (few-vector : length vector ≤ 12) (few-point : length point ≤ 12) (few-coeffs : length coeffs ≡ n) where
  outcome_long : (o : Outcome) (steps : ℕ) → Long (outcome_answer o steps n ma mb a b vector point coeffs)
  outcome_long Unfinished steps = let e = unfinished_length steps in record { some = omega arith; short = omega arith }
  outcome_long TooLarge steps = refusal_long 8 steps
  outcome_long (Refuted q) steps =
      let run = judge_run n ma mb a b q vector coeffs in
      let e = run_length (refusal n ma mb a b q vector (length coeffs)) n (interpolant_for n ma mb a b vector) coeffs few-coeffs in
      fact_long (judge_answer n ma mb a b q vector coeffs) n (ma + mb) steps q vector run few-vector (omega arith)
  outcome_long Solved steps = let e = point_length steps n point in record { some = omega arith; short = omega arith }

  reply_long : (r : Result Answer Refusal) → Long (reply_answer r n ma mb a b vector point coeffs)
  reply_long (Err refusal) = refusal_long (number_of refusal) 0
  reply_long (Ok found) = outcome_long found.outcome found.steps

problem_long : (n ma mb : ℕ) (a b : List ℤ) (budget : ℕ) (vector point coeffs : List ℤ) → n ≤ 12 → length vector ≤ 12 → length point ≤ 12 → length coeffs ≡ n →
    Long (problem_answer n ma mb a b budget vector point coeffs)
unfolding problem_answer
problem_long n ma mb a b budget vector point coeffs h v p k =
    let s = searched n ma mb a b budget in
    let number = search_refusal n ma mb a b budget vector point in
    let e = written_length number (is_refuted s.outcome) s.found vector in
    let f = written_length number (is_solved s.outcome) s.found point in
    reply_long n ma mb a b (search_vector n ma mb a b budget vector point) (search_point n ma mb a b budget vector point) coeffs h (omega arith) (omega arith) k
    (search_reply n ma mb a b budget vector point)

lines_long : (l : List ℕ) → line_refusal l ≡ None → Long (problem_lines l)
unfolding problem_lines
lines_long l e =
    let law = lawful l e in
    let n = n_of l in
    let m = ma_of l + mb_of l in
    let zn = length-replicate n (pos 0) in
    let zm = length-replicate m (pos 0) in
    problem_long n (ma_of l) (mb_of l) (side_a l) (side_b l) (budget_of l) (zeros m) (zeros n) (zeros n) law.few_n (omega (arith, law.few_m)) (omega (arith, law.few_n)) zn

long_by : (l : List ℕ) (r : Option Refusal) → r ≡ line_refusal l → Long (answer_of l)
long_by l None e = let none = sym e in subst Long (answer_problem l none) (lines_long l none)
long_by l (Some k) e = subst Long (answer_refused l k e) (refusal_long (number_of k) 0)

answer_long : (l : List ℕ) → Long (answer_of l)
answer_long l = long_by l (line_refusal l) refl

pub answer_some : (l : List ℕ) → 1 ≤ length (answer_of l)
answer_some l = (answer_long l).some

pub answer_short : (l : List ℕ) → length (answer_of l) ≤ answer_max
answer_short l = (answer_long l).short
