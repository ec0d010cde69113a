use Rattle.std.proofs.Common.{refl, ◌∙◌, arith, rules}
use Rattle.std.proofs.lemmas.Iterator.{YieldsList-from_range}
use Rattle.std.proofs.lemmas.Iterator.Search.{all_from_yields_List}
use Rattle.integers.proofs.Laws.Below.{all_range}
use Rattle.problem.specs.Rows.{side_of}
use Rattle.problem.specs.WellFormed.{row_in_range}
use Rattle.problem.proofs.in_ranges.Goals as goal

pub returns : goal.returns
returns c =
    let a = c.args in
    let test = row_in_range a.n (side_of a.n a.m a.run.now) in
    all_from_yields_List test _ _ _ c.all.ensures.ran (YieldsList-from_range 0 a.m a.m refl (omega arith)) (λ x b q k. search rules) ∙ all_range a.m test
