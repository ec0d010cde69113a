-- What `search` and `table_after` answer, and what the runs that are lent to them then hold.
--
--     searched               the state after as many steps as the budget allows, or as there are
--     reply_of, copy_of      the answers for each refusal before any step, and for none
--     is_refuted, is_solved  tests of an outcome        written_by, written_if    a run that is written, or left as it was
--     search_refusal, table_refusal     the refusals of the two calls before any step
--     search_reply           what `search` answers
--     search_vector          what its vector run then holds: the vector if the problem is refuted, else what it held
--     search_point           what its point run then holds: the point if the problem is solved, else what it held
--     table_reply, table_run the same of `table_after`: the cells, unless it is refused
--     number_of              the paper's number of an answer, 0 if it is no refusal; "too large" is 8       table_number    of `table_after`
use Rattle.std.specs.Prelude.{List, Bool, true, false, ◌&&◌, ℕ, ◌+◌, eqb, length, ℤ, Option, Some, None, Result, Ok, Err}
use Rattle.integers.specs.Run.{at, tabulate}
use Rattle.problem.specs.declared.Refusal.{Refusal}
use Rattle.problem.specs.Refusal.{number_of as number_of_refusal, number_or_none, refusal_in, problem_refusal}
use Rattle.problem.specs.Rows.{rows_of}
use Rattle.search.specs.State.{State, Outcome, Unfinished, TooLarge, Refuted, Solved, start}
use Rattle.search.specs.Run.{after}
pub use Rattle.search.specs.declared.Answer.{Answer}

abbrev pub reply_of : Option Refusal → State → Result Answer Refusal
reply_of None s = Ok (record { steps = s.steps; outcome = s.outcome })
reply_of (Some k) s = Err k

abbrev pub copy_of : Option Refusal → Result Unit Refusal
copy_of None = Ok tt
copy_of (Some k) = Err k

abbrev pub is_refuted : Outcome → Bool
is_refuted Unfinished = false
is_refuted TooLarge = false
is_refuted (Refuted q) = true
is_refuted Solved = false

abbrev pub is_solved : Outcome → Bool
is_solved Unfinished = false
is_solved TooLarge = false
is_solved (Refuted q) = false
is_solved Solved = true

-- a run that is written, or left as it was
abbrev pub written_by : Bool → List ℤ → List ℤ → List ℤ
written_by true numbers entry = tabulate (length entry) (at numbers)
written_by false numbers entry = entry

abbrev pub written_if : Option Refusal → Bool → List ℤ → List ℤ → List ℤ
written_if None t numbers entry = written_by t numbers entry
written_if (Some k) t numbers entry = entry

module _ (n ma mb : ℕ) (a b : List ℤ) (budget : ℕ) where
  abbrev pub searched : State
  searched = after budget (start n (rows_of n ma mb a b))

  -- `vector` and `point` are the lent runs as the call finds them
  module _ (vector point : List ℤ) where
    abbrev pub search_refusal : Option Refusal
    search_refusal = problem_refusal n ma mb a b (eqb (length vector) (ma + mb) && eqb (length point) n)

    abbrev pub search_reply : Result Answer Refusal
    search_reply = reply_of search_refusal searched

    abbrev pub search_vector : List ℤ
    search_vector = written_if search_refusal (is_refuted searched.outcome) searched.found vector

    abbrev pub search_point : List ℤ
    search_point = written_if search_refusal (is_solved searched.outcome) searched.found point

  module _ (cells : List ℤ) where
    abbrev pub table_refusal : Option Refusal
    table_refusal = problem_refusal n ma mb a b (eqb (length cells) 864)

    abbrev pub table_reply : Result Unit Refusal
    table_reply = copy_of table_refusal

    abbrev pub table_run : List ℤ
    table_run = written_if table_refusal true searched.cells cells

abbrev pub table_number : Result Unit Refusal → ℕ
table_number r = number_or_none (refusal_in r)

abbrev number_by : Outcome → ℕ
number_by Unfinished = 0
number_by TooLarge = 8
number_by (Refuted q) = 0
number_by Solved = 0

abbrev pub number_of : Result Answer Refusal → ℕ
number_of (Ok r) = number_by r.outcome
number_of (Err k) = number_of_refusal k
