-- A problem as it is lent. Definitions and theorems take its five parts one by one; a contract takes the value.
--
--     lent f, Lent P     f and P of the parts of a problem
use Rattle.std.specs.Prelude.{List, ℕ, ℤ}
use Rattle.problem.specs.declared.Problem.{Problem}

abbrev pub lent : {X : Type 0} → (ℕ → ℕ → ℕ → List ℤ → List ℤ → X) → Problem → X
lent f problem = f problem.n problem.ma problem.mb problem.a.now problem.b.now

abbrev pub Lent : (ℕ → ℕ → ℕ → List ℤ → List ℤ → Type 0) → Problem → Type 0
Lent P problem = P problem.n problem.ma problem.mb problem.a.now problem.b.now
