-- Why a call is refused: "the first of these whose case it is".
--
--     number_of        the paper's number of a refusal
--     number_or_none   that of a refusal that there may be, 0 if there is none
--     refusal_in       the refusal that a call answers, if it does
--     ok_unless r x    the answer x, unless there is a refusal r
--     unless t k rest  k unless the test t holds, else the rest: refusals in their order
--     problem_refusal  the refusals 1 to 3 of a problem; `fit` says that the runs that are lent for results have their lengths
use Rattle.std.specs.Prelude.{List, Bool, true, false, ℕ, ℤ, Option, Some, None, Result, Ok, Err}
use Rattle.problem.specs.declared.Refusal.{Refusal}
use Rattle.problem.specs.declared.Refusal.TheVariants.{WrongShape, WrongRun, RowOutOfRange, WrongVector, NumeratorOutOfRange, SumNotDivided, ConstantsDivided, TooLarge, NoFrame}
use Rattle.problem.specs.WellFormed.{shape, well_formed}

abbrev pub number_of : Refusal → ℕ
number_of WrongShape = 1
number_of WrongRun = 2
number_of RowOutOfRange = 3
number_of WrongVector = 4
number_of NumeratorOutOfRange = 5
number_of SumNotDivided = 6
number_of ConstantsDivided = 7
number_of TooLarge = 8
number_of NoFrame = 9

abbrev pub number_or_none : Option Refusal → ℕ
number_or_none None = 0
number_or_none (Some k) = number_of k

abbrev pub refusal_in : {X : Type 0} → Result X Refusal → Option Refusal
refusal_in (Ok x) = None
refusal_in (Err k) = Some k

abbrev pub ok_unless : {X : Type 0} → Option Refusal → X → Result X Refusal
ok_unless None x = Ok x
ok_unless (Some k) x = Err k

abbrev pub unless : Bool → Refusal → Option Refusal → Option Refusal
unless true k rest = rest
unless false k rest = Some k

-- "1: n, mA, mB, m or a side's length is not as above. 2: a result run is not exactly its length. 3: a row's number is out of its range."
unfoldable pub problem_refusal : ℕ → ℕ → ℕ → List ℤ → List ℤ → Bool → Option Refusal
problem_refusal n ma mb a b fit = unless (shape n ma mb a b) WrongShape (unless fit WrongRun (unless (well_formed n ma mb a b) RowOutOfRange None))
