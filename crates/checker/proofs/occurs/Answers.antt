use Rattle.std.proofs.Common.{ℕ, ◌+◌, ◌∙◌, refl, ap₂, arith, rules}
use mathlib.Core.Bool.{Bool}
use Rattle.std.proofs.lemmas.Iterator.{YieldsList-from_range}
use Rattle.std.proofs.lemmas.Iterator.Search.{any_from_yields_List}
use Rattle.integers.proofs.Laws.Below.{any_range, any_same}
use Rattle.problem.specs.Rows.{side_of, number_in}
use Rattle.problem.specs.Occurrence.{counts, occurs}
use Rattle.problem.proofs.Laws.Rows.{number_is, modulus_is}
use Rattle.checker.proofs.occurs.Goals as goal

pub returns : goal.returns
unfolding occurs
returns c =
    let s = c.args.side.now in
    let j = c.args.j in
    let R = side_of s.n s.m s.run.now in
    let test : ℕ → Bool = λ i. counts (number_in s.n s.m s.run.now i (s.n + 1)) (number_in s.n s.m s.run.now i j) in
    any_from_yields_List test _ _ _ c.any.ensures.ran (YieldsList-from_range 0 s.m s.m refl (omega arith)) (λ x b q k. search rules)
    ∙ any_range s.m test
    ∙ any_same s.m test (λ i. counts (R.modulus i) (R.coef i j)) (λ i l. ap₂ counts (modulus_is s.n s.m s.run.now i l) (number_is s.n s.m s.run.now i j l (omega arith)))
