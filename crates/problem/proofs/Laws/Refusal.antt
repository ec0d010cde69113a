-- The refusals and their numbers.
--
--     some_number     no refusal has the number 0          number_none     what has it is none
--     same_number     refusals of the same number are the same
--
-- Assumes nothing.
use Rattle.std.proofs.Common.{◌≡◌, refl, sym, ◌∙◌, ap, arith}
use Rattle.std.specs.Prelude.{Option, Some, None, ℕ, cond, eqb}
use Rattle.problem.specs.Refusal.{number_of, number_or_none}
use Rattle.problem.specs.declared.Refusal.{Refusal}
use Rattle.problem.specs.declared.Refusal.TheVariants.{WrongShape, WrongRun, RowOutOfRange, WrongVector, NumeratorOutOfRange, SumNotDivided, ConstantsDivided, TooLarge, NoFrame}

pub some_number : (k : Refusal) → number_of k ≡ 0 → ⊥
some_number WrongShape e = omega arith
some_number WrongRun e = omega arith
some_number RowOutOfRange e = omega arith
some_number WrongVector e = omega arith
some_number NumeratorOutOfRange e = omega arith
some_number SumNotDivided e = omega arith
some_number ConstantsDivided e = omega arith
some_number TooLarge e = omega arith
some_number NoFrame e = omega arith

pub number_none : (r : Option Refusal) → number_or_none r ≡ 0 → r ≡ None
number_none None e = refl
number_none (Some k) e = absurd (some_number k e)

-- the refusal of a number from 1 to 9
named : ℕ → Refusal
named k = cond (eqb k 1) WrongShape (cond (eqb k 2) WrongRun (cond (eqb k 3) RowOutOfRange (cond (eqb k 4) WrongVector (cond (eqb k 5) NumeratorOutOfRange (cond (eqb k 6) SumNotDivided (cond (eqb k 7) ConstantsDivided (cond (eqb k 8) TooLarge NoFrame)))))))

named_back : (k : Refusal) → named (number_of k) ≡ k
unfolding named
named_back WrongShape = refl
named_back WrongRun = refl
named_back RowOutOfRange = refl
named_back WrongVector = refl
named_back NumeratorOutOfRange = refl
named_back SumNotDivided = refl
named_back ConstantsDivided = refl
named_back TooLarge = refl
named_back NoFrame = refl

pub same_number : (j k : Refusal) → number_of j ≡ number_of k → j ≡ k
same_number j k e = sym (named_back j) ∙ ap named e ∙ named_back k
