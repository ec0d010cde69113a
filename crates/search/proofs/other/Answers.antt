use Rattle.std.proofs.Common.{ℕ, ◌-◌, Bool, not, ◌&&◌, eqb, refl, ◌∙◌, rules, tests}
use Rattle.std.proofs.lemmas.Iterator.{YieldsList-from_range}
use Rattle.std.proofs.lemmas.Iterator.Search.{find_from_yields_List}
use Rattle.integers.specs.Range.{is_zero}
use Rattle.search.specs.Table.{cell}
use Rattle.search.proofs.Laws.Scan.{other_found}
use Rattle.search.proofs.other.Goals as goal

pub returns : goal.returns
returns c =
    let a = c.args in
    let v = cell a.cells.now a.row in
    let test : ℕ → Bool = λ j. not (eqb j a.first) && not (is_zero (v j)) in
    let found = find_from_yields_List test _ _ c.find.result c.find.ensures.ran (YieldsList-from_range a.lo a.hi (a.hi - a.lo) refl refl) (λ x b q k. search (rules, tests)) in
    c.unwrap_or.ensures ∙ other_found v a.first a.lo (a.hi - a.lo) c.find.result found
