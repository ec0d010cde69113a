-- No second possibility: two results, and two runs at exit, that both meet the contract of a public function are equal.
-- Assumes nothing.
use mathlib.Core.Path.{◌≡◌}
use mathlib.Core.List.{List}
use Prim.Native.Nat.{ℕ}
use lib.IntN.{ℤ}
use Rattle.std.proofs.Common.{Result}
use Rattle.integers.proofs.Determined.{determined}
use Rattle.problem.specs.declared.Refusal.{Refusal}
use Rattle.search.specs.Answer.{Answer, search_reply, search_vector, search_point, table_reply, table_run}

module _ (n ma mb : ℕ) (a b : List ℤ) (budget : ℕ) where
  module _ (vector point : List ℤ) where
    pub search_determined : (r s : Result Answer Refusal) → r ≡ search_reply n ma mb a b budget vector point → s ≡ search_reply n ma mb a b budget vector point → r ≡ s
    search_determined r s = determined

    pub search_vector_determined : (exit other : List ℤ) → exit ≡ search_vector n ma mb a b budget vector point → other ≡ search_vector n ma mb a b budget vector point → exit ≡ other
    search_vector_determined exit other = determined

    pub search_point_determined : (exit other : List ℤ) → exit ≡ search_point n ma mb a b budget vector point → other ≡ search_point n ma mb a b budget vector point → exit ≡ other
    search_point_determined exit other = determined

  module _ (cells : List ℤ) where
    pub table_after_determined : (r s : Result Unit Refusal) → r ≡ table_reply n ma mb a b budget cells → s ≡ table_reply n ma mb a b budget cells → r ≡ s
    table_after_determined r s = determined

    pub table_after_run_determined : (exit other : List ℤ) → exit ≡ table_run n ma mb a b budget cells → other ≡ table_run n ma mb a b budget cells → exit ≡ other
    table_after_run_determined exit other = determined
