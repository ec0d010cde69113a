-- What `Problem::rows` answers.
--
--     rows_answer    the problem, or the first of the refusals 1 to 3
--     told f answer  an answer of which f x is told where it is an x: of rows their problem, since that it is well formed is a proof
use Rattle.std.specs.Prelude.{Bool, Result, Ok, Err}
use Rattle.problem.specs.declared.Problem.{Problem}
use Rattle.problem.specs.declared.Refusal.{Refusal}
use Rattle.problem.specs.Lent.{lent}
use Rattle.problem.specs.Refusal.{ok_unless, problem_refusal}

abbrev pub told : {X : Type 0} → (X → Problem) → Result X Refusal → Result Problem Refusal
told f (Ok x) = Ok (f x)
told f (Err k) = Err k

abbrev pub rows_answer : Problem → Bool → Result Problem Refusal
rows_answer problem fit = ok_unless (lent problem_refusal problem fit) problem
