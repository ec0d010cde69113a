-- No second possibility: two results, and two runs at exit, that both meet the contract of a function for C are equal.
-- Assumes nothing.
use mathlib.Core.Path.{◌≡◌}
use mathlib.Core.List.{List}
use Prim.Native.Nat.{ℕ}
use lib.IntN.{ℤ}
use Rattle.integers.proofs.Determined.{determined}
use Rattle.checker.specs.Answer.{judge_answer, judge_run}
use Rattle.search.specs.Answer.{search_reply, search_vector, search_point, table_reply, table_run, table_number}
use Rattle.frames.specs.Answer.{respond_end, respond_run}
use Rattle.vayalittu.specs.Answers.{fact_of, answer_of}
use Rattle.vayalittu.specs.declared.Answer.{Answer}
use Rattle.vayalittu.specs.declared.Fact.{Fact}

module _ (n ma mb : ℕ) (a b : List ℤ) where
  module _ (q : ℤ) (p : List ℤ) where
    pub judge_determined : (coeffs : List ℤ) (r s : Fact) → r ≡ fact_of (judge_answer n ma mb a b q p coeffs) → s ≡ fact_of (judge_answer n ma mb a b q p coeffs) → r ≡ s
    judge_determined coeffs r s = determined

    pub judge_run_determined : (coeffs exit other : List ℤ) → exit ≡ judge_run n ma mb a b q p coeffs → other ≡ judge_run n ma mb a b q p coeffs → exit ≡ other
    judge_run_determined coeffs exit other = determined

  module _ (budget : ℕ) where
    pub search_determined : (vector point : List ℤ) (r s : Answer) → r ≡ answer_of (search_reply n ma mb a b budget vector point) → s ≡ answer_of (search_reply n ma mb a b budget vector point) → r ≡ s
    search_determined vector point r s = determined

    pub search_vector_determined : (vector point exit other : List ℤ) → exit ≡ search_vector n ma mb a b budget vector point → other ≡ search_vector n ma mb a b budget vector point → exit ≡ other
    search_vector_determined vector point exit other = determined

    pub search_point_determined : (vector point exit other : List ℤ) → exit ≡ search_point n ma mb a b budget vector point → other ≡ search_point n ma mb a b budget vector point → exit ≡ other
    search_point_determined vector point exit other = determined

    pub table_determined : (cells : List ℤ) (r s : ℕ) → r ≡ table_number (table_reply n ma mb a b budget cells) → s ≡ table_number (table_reply n ma mb a b budget cells) → r ≡ s
    table_determined cells r s = determined

    pub table_run_determined : (cells exit other : List ℤ) → exit ≡ table_run n ma mb a b budget cells → other ≡ table_run n ma mb a b budget cells → exit ≡ other
    table_run_determined cells exit other = determined

module _ (line out : List ℕ) where
  pub respond_determined : (r s : ℕ) → r ≡ respond_end line out 0 → s ≡ respond_end line out 0 → r ≡ s
  respond_determined r s = determined

  pub respond_run_determined : (exit other : List ℕ) → exit ≡ respond_run line out 0 → other ≡ respond_run line out 0 → exit ≡ other
  respond_run_determined exit other = determined
