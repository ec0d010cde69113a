-- The checker's and the search's answers as C sees them. A refusal is the paper's number, or 0; that of a copied table is its
-- `table_number`.
--
--     fact_of            refusal, constant and modulus; both 0 if it is refused
--     outcome_number     "one of four outcomes": 1 refuted, 2 solved, 3 too large, 4 unfinished
--     denominator_of     q, 0 unless the problem is refuted
--     answer_of          refusal, outcome, steps and q; outcome, steps and q are 0 if it is refused, but "too large" is refusal 8 with
--                       its outcome and its steps
use Rattle.std.specs.Prelude.{ℕ, ℤ, pos, Result, Ok, Err}
use Rattle.problem.specs.Refusal.{number_of as number_of_refusal}
use Rattle.problem.specs.declared.Refusal.{Refusal}
use Rattle.checker.specs.declared.Fact.{Fact as Stated}
use Rattle.search.specs.declared.Outcome.{Outcome}
use Rattle.search.specs.declared.Outcome.TheVariants.{Unfinished, TooLarge, Refuted, Solved}
use Rattle.search.specs.declared.Answer.{Answer as Found}
use Rattle.search.specs.Answer.{number_of}
use Rattle.vayalittu.specs.declared.Answer.{Answer}
use Rattle.vayalittu.specs.declared.Fact.{Fact}

abbrev pub fact_of : Result Stated Refusal → Fact
fact_of (Ok f) = record { refusal = 0; constant = f.constant; modulus = f.modulus }
fact_of (Err k) = record { refusal = number_of_refusal k; constant = pos 0; modulus = pos 0 }

abbrev pub outcome_number : Outcome → ℕ
outcome_number (Refuted q) = 1
outcome_number Solved = 2
outcome_number TooLarge = 3
outcome_number Unfinished = 4

abbrev pub denominator_of : Outcome → ℤ
denominator_of (Refuted q) = q
denominator_of Solved = pos 0
denominator_of TooLarge = pos 0
denominator_of Unfinished = pos 0

abbrev pub answer_of : Result Found Refusal → Answer
answer_of (Ok r) = record { refusal = number_of (Ok r); outcome = outcome_number r.outcome; steps = r.steps; q = denominator_of r.outcome }
answer_of (Err k) = record { refusal = number_of_refusal k; outcome = 0; steps = 0; q = pos 0 }
