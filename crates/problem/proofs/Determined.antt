-- No second possibility: two results that both meet the contract of a public function are equal. Assumes nothing.
use mathlib.Core.Path.{◌≡◌}
use mathlib.Core.Bool.{Bool}
use mathlib.Core.List.{List}
use Prim.Native.Nat.{ℕ}
use lib.IntN.{ℤ}
use Rattle.integers.proofs.Determined.{determined}
use Rattle.problem.specs.WellFormed.{shape, well_formed}
use Rattle.problem.specs.Occurrence.{counts}
use Rattle.problem.specs.Rows.{number_in}
use Rattle.problem.specs.Refusal.{number_of}
use Rattle.problem.specs.Answer.{told, rows_answer}
use Rattle.problem.specs.declared.Problem.{Problem}
use Rattle.problem.specs.declared.Refusal.{Refusal}
use Rattle.problem.specs.declared.Rows.{Rows}
use Rattle.problem.specs.declared.Side.{Side}
use Rattle.std.specs.Prelude.{Result}

module _ (n ma mb : ℕ) (a b : List ℤ) (r s : Bool) where
  pub shape_determined : r ≡ shape n ma mb a b → s ≡ shape n ma mb a b → r ≡ s
  shape_determined = determined

  pub well_formed_determined : r ≡ well_formed n ma mb a b → s ≡ well_formed n ma mb a b → r ≡ s
  well_formed_determined = determined

pub counts_determined : (modulus coefficient : ℤ) (r s : Bool) → r ≡ counts modulus coefficient → s ≡ counts modulus coefficient → r ≡ s
counts_determined modulus coefficient r s = determined

-- An answer of `rows` is what it tells: that the rows are well formed is a proof, and no part of what runs.
abbrev Told : Result Rows Refusal → Result Problem Refusal
Told = told (λ rows. rows.problem)

pub rows_determined : (problem : Problem) (fit : Bool) (r s : Result Rows Refusal) → Told r ≡ rows_answer problem fit → Told s ≡ rows_answer problem fit → Told r ≡ Told s
rows_determined problem fit r s = determined

-- A side of rows, likewise: its count of variables and of rows, and its run.
abbrev IsA : Rows → Side → Type 0
IsA rows side = (side.n ≡ rows.problem.n) × (side.m ≡ rows.problem.ma) × (side.run.now ≡ rows.problem.a.now)

abbrev IsB : Rows → Side → Type 0
IsB rows side = (side.n ≡ rows.problem.n) × (side.m ≡ rows.problem.mb) × (side.run.now ≡ rows.problem.b.now)

abbrev Same : Side → Side → Type 0
Same r s = (r.n ≡ s.n) × (r.m ≡ s.m) × (r.run.now ≡ s.run.now)

pub a_determined : (rows : Rows) (r s : Side) → IsA rows r → IsA rows s → Same r s
a_determined rows r s h k = (determined h.0 k.0, determined h.1 k.1, determined h.2 k.2)

pub b_determined : (rows : Rows) (r s : Side) → IsB rows r → IsB rows s → Same r s
b_determined rows r s h k = (determined h.0 k.0, determined h.1 k.1, determined h.2 k.2)

pub side_number_determined : (side : Side) (row column : ℕ) (r s : ℤ) → r ≡ number_in side.n side.m side.run.now row column → s ≡ number_in side.n side.m side.run.now row column → r ≡ s
side_number_determined side row column r s = determined

pub refusal_number_determined : (k : Refusal) (r s : ℕ) → r ≡ number_of k → s ≡ number_of k → r ≡ s
refusal_number_determined k r s = determined
