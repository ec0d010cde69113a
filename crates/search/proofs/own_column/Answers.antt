use Rattle.std.proofs.Common.{ℕ, ◌+◌, not, Bool, ◌∙◌, ap, arith, rules}
use Rattle.std.proofs.lemmas.Iterator.{YieldsList-from_range}
use Rattle.std.proofs.lemmas.Iterator.Consumers.{YieldsList-from_filter, count_from_yields_List}
use Rattle.integers.specs.Range.{is_zero}
use Rattle.problem.specs.Lent.{lent}
use Rattle.problem.specs.Rows.{rows_of}
use Rattle.search.proofs.Laws.Start.{congruences_range}
use Rattle.search.proofs.own_column.Goals as goal

pub returns : goal.returns
returns c =
    let p = c.args.rows.now.problem in
    let test : ℕ → Bool = λ k. not (is_zero ((lent rows_of p).modulus k)) in
    ap (λ (k : ℕ). p.n + k) (count_from_yields_List c.filter.result _ c.count.ensures.ran (YieldsList-from_filter _ test (YieldsList-from_range 0 c.args.i c.args.i c.filter.ensures.source (omega arith)) c.filter.ensures.closure (λ x b q k. search rules)) ∙ congruences_range (lent rows_of p).modulus c.args.i)
