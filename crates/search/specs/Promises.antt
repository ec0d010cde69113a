-- What the theorems of proofs/Theorems say of the definitions of this folder.
--
--     SearchSays Fit k      the case of the number k of an answer of `search`, 8 included
--     Outnumber s budget    the steps from s outnumber the budget: after no number of steps within it the search is finished
--     says_unfinished       whether an answer of `search` is "unfinished"
--     Says r o              the answer r of `search` is no refusal, and its outcome is o
--     Exactly P Q           P holds exactly when Q does
--     Refuses Fit k         the case of the refusal k before any step, 0 for none; Fit says that the lent runs have their lengths
--     most_steps            8,076
--     NoPoint, SomePoint    no point meets the rows; some point does
--     Decided               refuted exactly when no point meets the rows, solved exactly when some point does
--     reduced_cell          what Reduce puts into its second column
--     closed_table, ..      what Close puts: table, entry, residual, z, next state, vector
--     Closes, GoesOn        the next step of s is Close; its entry divides the residual
--     Exceeds s             the next step of s would put a number above its bound; one case for each place
--     Overflows s budget    so does some step from s within the budget, before which the search is unfinished
--     Demand                demand 3 of one call of `search`, for every budget
use Rattle.std.specs.Prelude.{◌≡◌, Bool, true, false, cond, List, ℕ, suc, ◌+◌, ◌<◌, ◌≤◌, ℤ, pos, nat_abs, Result, Ok, Err}
use Rattle.std.specs.Int.Signed.{quot_z}
use Rattle.integers.specs.Range.{is_zero}
use Rattle.integers.specs.Divisibility.{◌∣ℤ◌}
use Rattle.integers.specs.Run.{at}
use Rattle.problem.specs.declared.Refusal.{Refusal}
use Rattle.problem.specs.Rows.{Rows, side_of, rows_of}
use Rattle.problem.specs.Points.{Meets}
use Rattle.problem.specs.WellFormed.{million, Shape, WellFormed}
use Rattle.checker.specs.Promises.{Accepted}
use Rattle.search.specs.Table.{bound, cell, less_times}
use Rattle.search.specs.State.{State, Outcome, Unfinished, TooLarge, Refuted, Solved, start}
use Rattle.search.specs.Vector.{Vector, vector_of}
use Rattle.search.specs.Step.{first_column, second_column, quotient, close_table, residual_of, place_of, passed, placed}
use Rattle.search.specs.Run.{is_unfinished, after}
use Rattle.search.specs.Answer.{Answer, search_reply, search_vector, search_point}

abbrev pub Exactly : Type 0 → Type 0 → Type 0
Exactly P Q = (P → Q) × (Q → P)

-- Refusals -------------------------------------------------------------------------------------------------------------

pub data Refuses (n ma mb : ℕ) (a b : List ℤ) (Fit : Type 0) : ℕ → Type 0 where
  shape_fails : (Shape n ma mb a b → ⊥) → Refuses n ma mb a b Fit 1
  run_fails : Shape n ma mb a b → (Fit → ⊥) → Refuses n ma mb a b Fit 2
  range_fails : Shape n ma mb a b → Fit → (WellFormed n ma mb a b → ⊥) → Refuses n ma mb a b Fit 3
  none : WellFormed n ma mb a b → Fit → Refuses n ma mb a b Fit 0

-- Unfinished -----------------------------------------------------------------------------------------------------------

pub record Outnumber (s : State) (budget : ℕ) : Type 0 where
  pub each : (b : ℕ) → b ≤ budget → is_unfinished (after b s).outcome ≡ true

abbrev pub says_unfinished : Result Answer Refusal → Bool
says_unfinished (Ok r) = is_unfinished r.outcome
says_unfinished (Err k) = false

abbrev pub Says : Result Answer Refusal → Outcome → Type 0
Says (Ok r) o = r.outcome ≡ o
Says (Err k) o = ⊥

-- "24 × 28 + 1 = 673 steps a row, 8,076 in all"
abbrev pub most_steps : ℕ
most_steps = 8076

-- Refuted and solved ---------------------------------------------------------------------------------------------------

abbrev pub NoPoint : ℕ → Rows → Type 0
NoPoint n R = (X : ℕ → ℤ) → Meets n R X → ⊥

abbrev pub SomePoint : ℕ → Rows → Type 0
SomePoint n R = (X : ℕ → ℤ) × Meets n R X

pub record Decided (n : ℕ) (R : Rows) (refuted solved : Type 0) : Type 0 where
  pub refuted_is : Exactly refuted (NoPoint n R)
  pub solved_is : Exactly solved (SomePoint n R)

-- Too large ------------------------------------------------------------------------------------------------------------

-- what Reduce puts into row i of its second column
abbrev pub reduced_cell : State → ℕ → ℤ
reduced_cell s i =
    let q = quotient (cell s.cells s.row (second_column s)) (cell s.cells s.row (first_column s)) in
    less_times (cell s.cells i (second_column s)) q (cell s.cells i (first_column s))

-- of Close: the table after its swap and negation, the entry in column r, the residual, the z, the next state, and the vector
abbrev pub closed_table : State → List ℤ
closed_table s = close_table s.cells s.row (first_column s) s.count

abbrev pub closed_entry : State → ℤ
closed_entry s = cell (closed_table s) s.row s.count

abbrev pub closed_residual : State → ℤ
closed_residual s = residual_of s (closed_table s)

abbrev pub closed_z : State → ℤ
closed_z s = quot_z (closed_residual s) (closed_entry s)

abbrev pub closed_next : State → State
closed_next s = cond (is_zero (closed_entry s)) (passed s (closed_table s)) (placed s (closed_table s) (closed_z s))

abbrev pub closed_vector : State → Vector
closed_vector s = vector_of s (closed_table s) (closed_entry s)

abbrev pub Closes : State → Type 0
Closes s = second_column s ≡ first_column s

abbrev pub GoesOn : State → Type 0
GoesOn s = closed_entry s ∣ℤ closed_residual s

-- "a magnitude above 268,435,456 (2^28) into any cell, z or place of the point, or above 1,000,000 into any numerator or q at any
-- moment": the vector stays as it is once a number in it is out of range.
pub data Exceeds (s : State) : Type 0 where
  large_cell : (Closes s → ⊥) → (i : ℕ) → i < 36 → bound < nat_abs (reduced_cell s i) → Exceeds s
  large_z : Closes s → GoesOn s → (closed_entry s ≡ pos 0 → ⊥) → bound < nat_abs (closed_z s) → Exceeds s
  large_place : Closes s → GoesOn s → s.row + 1 ≡ s.given.m → (k : ℕ) → k < s.given.n → bound < nat_abs (place_of (closed_next s) k) → Exceeds s
  large_numerator : Closes s → (GoesOn s → ⊥) → (i : ℕ) → i < 12 → million < nat_abs (at (closed_vector s).p i) → Exceeds s
  large_denominator : Closes s → (GoesOn s → ⊥) → million < nat_abs (closed_vector s).q → Exceeds s

pub record Overflows (s : State) (budget : ℕ) : Type 0 where
  pub k : ℕ
  pub in_budget : k < budget
  pub unfinished : is_unfinished (after k s).outcome ≡ true
  pub exceeds : Exceeds (after k s)

-- the number of an answer: a refusal before any step, 8 if a step would pass a bound, 0 for none
pub data SearchSays (n ma mb : ℕ) (a b : List ℤ) (budget : ℕ) (Fit : Type 0) : ℕ → Type 0 where
  refused : {k : ℕ} → Refuses n ma mb a b Fit (suc k) → SearchSays n ma mb a b budget Fit (suc k)
  too_large : Refuses n ma mb a b Fit 0 → Overflows (start n (rows_of n ma mb a b)) budget → SearchSays n ma mb a b budget Fit 8
  no_refusal : Refuses n ma mb a b Fit 0 → (Overflows (start n (rows_of n ma mb a b)) budget → ⊥) → SearchSays n ma mb a b budget Fit 0

-- Demand 3 -------------------------------------------------------------------------------------------------------------

-- `vector` and `point` are the lent runs as the call finds them
module _ (n ma mb : ℕ) (a b vector point : List ℤ) where
  abbrev rows : Rows
  rows = rows_of n ma mb a b

  -- the answer under a budget, and what the runs then hold
  abbrev answer : ℕ → Result Answer Refusal
  answer budget = search_reply n ma mb a b budget vector point

  abbrev vector_run : ℕ → List ℤ
  vector_run budget = search_vector n ma mb a b budget vector point

  abbrev point_run : ℕ → List ℤ
  point_run budget = search_point n ma mb a b budget vector point

  pub record Demand : Type 0 where
    -- it says "unfinished" exactly when the steps outnumber the budget
    pub unfinished : (budget : ℕ) → Exactly (says_unfinished (answer budget) ≡ true) (Outnumber (start n rows) budget)
    -- with the budget as its count
    pub counted : (budget : ℕ) → says_unfinished (answer budget) ≡ true → answer budget ≡ Ok (record { steps = budget; outcome = Unfinished })
    -- and then hands out no vector and no point
    pub unwritten : (budget : ℕ) → says_unfinished (answer budget) ≡ true → (vector_run budget ≡ vector) × (point_run budget ≡ point)
    -- once it finishes under some budget, every larger budget gives the same answer and count, and the same runs
    pub larger : (budget more : ℕ) → budget ≤ more → says_unfinished (answer budget) ≡ false → (answer more ≡ answer budget) × (vector_run more ≡ vector_run budget) × (point_run more ≡ point_run budget)
    -- 8,076 steps always finish
    pub enough : (budget : ℕ) → most_steps ≤ budget → says_unfinished (answer budget) ≡ false
    -- refuted: the checker accepts what the vector run then holds, with q, so no point meets both sides
    pub refuted_accepted : (budget : ℕ) (q : ℤ) → Says (answer budget) (Refuted q) → Accepted n ma mb a b q (vector_run budget)
    pub refuted_none : (budget : ℕ) (q : ℤ) → Says (answer budget) (Refuted q) → (X : ℕ → ℤ) → Meets n (side_of n ma a) X → Meets n (side_of n mb b) X → ⊥
    -- solved: what the point run then holds meets all rows
    pub solved_meets : (budget : ℕ) → Says (answer budget) Solved → Meets n rows (at (point_run budget))
    -- finished and not too large: refuted exactly when no point meets all rows, and otherwise solved
    pub exactly : (budget : ℕ) → says_unfinished (answer budget) ≡ false → (Says (answer budget) TooLarge → ⊥) → Decided n rows ((q : ℤ) × Says (answer budget) (Refuted q)) (Says (answer budget) Solved)
    -- too large exactly when some step within the budget would put a number above its bound
    pub too_large : (budget : ℕ) → Exactly (Says (answer budget) TooLarge) (Overflows (start n rows) budget)
