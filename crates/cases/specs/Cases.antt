-- The paper's section "Checked by hand", the cases marked P, as one list with the expected answers.
--
--     Problem          as every call takes it
--     Case             a problem with a vector for the checker, or with a budget for the search
--     Answers          what `judge` answers, the paper's number of that, and what the lent run then holds; or what `search` answers,
--                      and what its two lent runs then hold
--     answer_to        that of a case, by the definitions of the contracts; the lent runs hold 7s before
--     cases            the paper's cases, in its order; case 5 also with A and B exchanged, case 7 with its four vectors, case 8 with
--                      the budgets 3, 4 and 5, case 9 with the budgets 1 and 2
--     expected         what the paper says of them
--
-- The variables x, y, z are places 0, 1, 2. That answer_to gives what is expected: proofs/ByHand.antt.
use Rattle.std.specs.Prelude.{List, [], ◌∷◌, ℕ, ◌+◌, ℤ, pos, negsuc, Result, Ok, Err}
use Rattle.integers.specs.Run.{tabulate}
use Rattle.problem.specs.declared.Refusal.{Refusal}
use Rattle.problem.specs.declared.Refusal.TheVariants.{SumNotDivided, ConstantsDivided}
use Rattle.checker.specs.Answer.{answer_number, judge_answer, judge_run}
use Rattle.checker.specs.declared.Fact.{Fact}
use Rattle.search.specs.Answer.{search_reply, search_vector, search_point}
use Rattle.search.specs.declared.Answer.{Answer}
use Rattle.search.specs.declared.Outcome.{Outcome}
use Rattle.search.specs.declared.Outcome.TheVariants.{Unfinished, TooLarge, Refuted}

pub record Problem : Type 0 where
  pub n : ℕ
  pub ma : ℕ
  pub mb : ℕ
  pub a : List ℤ
  pub b : List ℤ

pub data Case : Type 0 where
  judge : Problem → ℤ → List ℤ → Case
  search : Problem → ℕ → Case

pub data Answers : Type 0 where
  judged : Result Fact Refusal → ℕ → List ℤ → Answers
  searched : Result Answer Refusal → List ℤ → List ℤ → Answers

-- a lent run
abbrev pub lent : ℕ → List ℤ
lent k = tabulate k (λ j. pos 7)

unfoldable pub answer_to : Case → Answers
answer_to (judge c q p) =
    judged
    (judge_answer c.n c.ma c.mb c.a c.b q p (lent c.n))
    (answer_number (judge_answer c.n c.ma c.mb c.a c.b q p (lent c.n)))
    (judge_run c.n c.ma c.mb c.a c.b q p (lent c.n))
answer_to (search c budget) =
    searched
    (search_reply c.n c.ma c.mb c.a c.b budget (lent (c.ma + c.mb)) (lent c.n))
    (search_vector c.n c.ma c.mb c.a c.b budget (lent (c.ma + c.mb)) (lent c.n))
    (search_point c.n c.ma c.mb c.a c.b budget (lent (c.ma + c.mb)) (lent c.n))

unfoldable pub answers_to : List Case → List Answers
answers_to [] = []
answers_to (c ∷ cs) = answer_to c ∷ answers_to cs

-- Problems -------------------------------------------------------------------------------------------------------------

-- "1. A x + y = 1, x − y = 1; B 2y + 2z = 3"
abbrev pub sums : Problem
sums = record { n = 3; ma = 2; mb = 1; a = pos 1 ∷ pos 1 ∷ pos 0 ∷ pos 1 ∷ pos 0 ∷ pos 1 ∷ negsuc 0 ∷ pos 0 ∷ pos 1 ∷ pos 0 ∷ []; b = pos 0 ∷ pos 2 ∷ pos 2 ∷ pos 3 ∷ pos 0 ∷ [] }

-- "2. A x − 2y = 0; B x − 2z = 1"
abbrev pub parity : Problem
parity = record { n = 3; ma = 1; mb = 1; a = pos 1 ∷ negsuc 1 ∷ pos 0 ∷ pos 0 ∷ pos 0 ∷ []; b = pos 1 ∷ pos 0 ∷ negsuc 1 ∷ pos 1 ∷ pos 0 ∷ [] }

-- "3. A 2x + 2y ≡ 4, 2x + y ≡ 4; B 4x ≡ 4, all mod 8"
abbrev pub eights : Problem
eights = record { n = 2; ma = 2; mb = 1; a = pos 2 ∷ pos 2 ∷ pos 4 ∷ pos 8 ∷ pos 2 ∷ pos 1 ∷ pos 4 ∷ pos 8 ∷ []; b = pos 4 ∷ pos 0 ∷ pos 4 ∷ pos 8 ∷ [] }

-- "4. A x ≡ 1 (mod 2), x + y ≡ 2 (mod 4); B 2x + y ≡ 4 (mod 8)"
abbrev pub mixed : Problem
mixed = record { n = 2; ma = 2; mb = 1; a = pos 1 ∷ pos 0 ∷ pos 1 ∷ pos 2 ∷ pos 1 ∷ pos 1 ∷ pos 2 ∷ pos 4 ∷ []; b = pos 2 ∷ pos 1 ∷ pos 4 ∷ pos 8 ∷ [] }

-- "5. A 2x = 1, B empty", and "A and B exchanged"
abbrev pub half : Problem
half = record { n = 1; ma = 1; mb = 0; a = pos 2 ∷ pos 1 ∷ pos 0 ∷ []; b = [] }

abbrev pub other_half : Problem
other_half = record { n = 1; ma = 0; mb = 1; a = []; b = pos 2 ∷ pos 1 ∷ pos 0 ∷ [] }

-- "6. A x = 0; B x = 1"
abbrev pub two : Problem
two = record { n = 1; ma = 1; mb = 1; a = pos 1 ∷ pos 0 ∷ pos 0 ∷ []; b = pos 1 ∷ pos 1 ∷ pos 0 ∷ [] }

-- "9. x = 1,000,000 and −1,000,000x + y = 0"
abbrev pub large : Problem
large = record { n = 2; ma = 2; mb = 0; a = pos 1 ∷ pos 0 ∷ pos 1000000 ∷ pos 0 ∷ negsuc 999999 ∷ pos 1 ∷ pos 0 ∷ pos 0 ∷ []; b = [] }

-- The list -------------------------------------------------------------------------------------------------------------

abbrev pub cases : List Case
cases =
    judge sums (pos 2) (pos 1 ∷ negsuc 0 ∷ pos 1 ∷ [])
    ∷ judge parity (pos 2) (pos 1 ∷ pos 1 ∷ [])
    ∷ judge eights (pos 8) (pos 2 ∷ negsuc 3 ∷ negsuc 0 ∷ [])
    ∷ judge mixed (pos 2) (pos 1 ∷ pos 1 ∷ negsuc 0 ∷ [])
    ∷ judge half (pos 2) (pos 1 ∷ [])
    ∷ judge other_half (pos 2) (pos 1 ∷ [])
    ∷ judge two (pos 2) (pos 1 ∷ negsuc 0 ∷ [])
    ∷ judge parity (pos 2) (pos 1 ∷ pos 0 ∷ [])
    ∷ judge parity (pos 2) (pos 2 ∷ pos 2 ∷ [])
    ∷ judge parity (pos 2) (pos 0 ∷ pos 0 ∷ [])
    ∷ judge parity (pos 1) (pos 1 ∷ pos 1 ∷ [])
    ∷ search parity 3
    ∷ search parity 4
    ∷ search parity 5
    ∷ search large 1
    ∷ search large 2
    ∷ []

abbrev pub fact : List ℤ → ℤ → ℤ → Answers
fact coefficients constant modulus = judged (Ok (record { constant = constant; modulus = modulus })) 0 coefficients

-- of a problem over three variables; the lent run is left as it was
abbrev pub refused : Refusal → ℕ → Answers
refused refusal number = judged (Err refusal) number (pos 7 ∷ pos 7 ∷ pos 7 ∷ [])

abbrev pub found : ℕ → Outcome → List ℤ → List ℤ → Answers
found steps outcome vector point = searched (Ok (record { steps = steps; outcome = outcome })) vector point

abbrev pub expected : List Answers
expected =
    fact (pos 0 ∷ pos 1 ∷ pos 0 ∷ []) (pos 0) (pos 0)
    ∷ fact (pos 1 ∷ pos 0 ∷ pos 0 ∷ []) (pos 0) (pos 2)
    ∷ fact (pos 3 ∷ pos 0 ∷ []) (pos 2) (pos 4)
    ∷ fact (pos 0 ∷ pos 1 ∷ []) (pos 1) (pos 2)
    ∷ fact (pos 0 ∷ []) (pos 1) (pos 0)
    ∷ fact (pos 0 ∷ []) (pos 0) (pos 0)
    ∷ fact (pos 1 ∷ []) (pos 0) (pos 0)
    ∷ refused SumNotDivided 6
    ∷ refused ConstantsDivided 7
    ∷ refused ConstantsDivided 7
    ∷ refused ConstantsDivided 7
    ∷ found 3 Unfinished (pos 7 ∷ pos 7 ∷ []) (pos 7 ∷ pos 7 ∷ pos 7 ∷ [])
    ∷ found 4 (Refuted (pos 2)) (negsuc 0 ∷ pos 1 ∷ []) (pos 7 ∷ pos 7 ∷ pos 7 ∷ [])
    ∷ found 4 (Refuted (pos 2)) (negsuc 0 ∷ pos 1 ∷ []) (pos 7 ∷ pos 7 ∷ pos 7 ∷ [])
    ∷ found 1 Unfinished (pos 7 ∷ pos 7 ∷ []) (pos 7 ∷ pos 7 ∷ [])
    ∷ found 2 TooLarge (pos 7 ∷ pos 7 ∷ []) (pos 7 ∷ pos 7 ∷ [])
    ∷ []
