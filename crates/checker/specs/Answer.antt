-- What `judge` answers.
--
--     stated f                a fact's constant and modulus, beside the coefficients that the lent run then holds
--     answer_of r f           the fact, if there is no refusal r
--     run_of r n f before     its n coefficients, if there is none; else the run as it was
--     answer_number           the paper's number of an answer, 0 if it is no refusal
--     judge_answer            what `judge` answers                    judge_run    what its run then holds
use Rattle.std.specs.Prelude.{List, ℕ, length, ℤ, Option, Some, None, Result, Ok, Err}
use Rattle.integers.specs.Run.{tabulate}
use Rattle.problem.specs.Rows.{side_of}
use Rattle.problem.specs.Refusal.{number_or_none, refusal_in}
use Rattle.problem.specs.declared.Refusal.{Refusal}
use Rattle.checker.specs.Refutation.{numerator, refusal}
use Rattle.checker.specs.Fact.{Fact}
use Rattle.checker.specs.NormalForm.{interpolant_of}
use Rattle.checker.specs.declared.Fact.{Fact as Stated}

-- the interpolant of a problem and a vector as they are lent
abbrev pub interpolant_for : ℕ → ℕ → ℕ → List ℤ → List ℤ → List ℤ → Fact
interpolant_for n ma mb a b p = interpolant_of n (side_of n ma a) (side_of n mb b) (numerator p)

abbrev pub stated : Fact → Stated
stated f = record { constant = f.const; modulus = f.modulus }

abbrev pub answer_of : Option Refusal → Fact → Result Stated Refusal
answer_of None f = Ok (stated f)
answer_of (Some r) f = Err r

abbrev pub run_of : Option Refusal → ℕ → Fact → List ℤ → List ℤ
run_of None n f before = tabulate n f.coef
run_of (Some r) n f before = before

abbrev pub answer_number : Result Stated Refusal → ℕ
answer_number answer = number_or_none (refusal_in answer)

-- `entry` is the lent run as the call finds it
module _ (n ma mb : ℕ) (a b : List ℤ) (q : ℤ) (p entry : List ℤ) where
  abbrev pub judge_answer : Result Stated Refusal
  judge_answer = answer_of (refusal n ma mb a b q p (length entry)) (interpolant_for n ma mb a b p)

  abbrev pub judge_run : List ℤ
  judge_run = run_of (refusal n ma mb a b q p (length entry)) n (interpolant_for n ma mb a b p) entry
