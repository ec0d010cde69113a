use Rattle.std.proofs.Common.{ℕ, ◌+◌, refl, ◌∙◌, arith, rules}
use mathlib.Core.Bool.{Bool}
use Rattle.std.proofs.lemmas.Iterator.{YieldsList-from_range}
use Rattle.std.proofs.lemmas.Iterator.Search.{all_from_yields_List}
use Rattle.integers.specs.Range.{within}
use Rattle.integers.specs.Run.{at}
use Rattle.integers.proofs.Laws.Below.{all_range}
use Rattle.problem.specs.WellFormed.{million}
use Rattle.problem.proofs.are_coefficients.Goals as goal

pub returns : goal.returns
returns c =
    let a = c.args in
    let test : ℕ → Bool = λ j. within million (at a.run.now (a.start + j)) in
    all_from_yields_List test _ _ _ c.all.ensures.ran (YieldsList-from_range 0 a.count a.count refl (omega arith)) (λ x b q k. search rules) ∙ all_range a.count test
