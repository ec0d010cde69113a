use Rattle.std.proofs.Common.{ℕ, Bool, refl, ◌∙◌, arith, rules}
use Rattle.std.proofs.lemmas.Iterator.{YieldsList-from_range}
use Rattle.std.proofs.lemmas.Iterator.Search.{all_from_yields_List}
use Rattle.integers.specs.Range.{within}
use Rattle.integers.proofs.Laws.Below.{all_range}
use Rattle.search.specs.Table.{bound, cell, less_times}
use Rattle.search.proofs.subtraction_fits.Goals as goal

pub returns : goal.returns
returns c =
    let a = c.args in
    let test : ℕ → Bool = λ i. within bound (less_times (cell a.cells.now i a.second) a.q (cell a.cells.now i a.first)) in
    all_from_yields_List test _ _ _ c.all.ensures.ran (YieldsList-from_range 0 36 36 refl (omega arith)) (λ x b q k. search rules) ∙ all_range 36 test
