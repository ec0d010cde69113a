use Rattle.std.proofs.Common.{ℕ, refl, ◌∙◌, ap, arith, rules, ℤ, ◌+ℤ◌}
use Rattle.std.proofs.lemmas.Iterator.{YieldsList-from_range}
use Rattle.std.proofs.lemmas.Iterator.Search.{all_from_yields_List}
use Rattle.integers.specs.Divisibility.{divides}
use Rattle.integers.specs.Sum.{dot}
use Rattle.integers.proofs.Laws.Below.{all_range, all_same}
use Rattle.problem.specs.Rows.{rows_of}
use Rattle.checker.specs.Refutation.{numerator, column_sum}
use Rattle.checker.specs.Code.{numbers, weights}
use Rattle.checker.proofs.Laws.Sums.{column_total}
use Rattle.checker.proofs.Weighed.divides_columns.Goals as goal

pub returns : goal.returns
returns c =
    let P = c.args.self.now.rows.problem in
    let p = c.args.self.now.p.now in
    let q = c.args.q in
    let total : ℕ → ℤ = λ j. dot P.ma (numerator p) (numbers P.n P.a.now j) +ℤ dot P.mb (weights p P.ma) (numbers P.n P.b.now j) in
    all_from_yields_List (λ j. divides q (total j)) _ _ _ c.all.ensures.ran (YieldsList-from_range 0 P.n P.n refl (omega arith)) (λ x b q k. search rules)
    ∙ all_range P.n (λ j. divides q (total j))
    ∙ all_same P.n (λ j. divides q (total j)) (λ j. divides q (column_sum (rows_of P.n P.ma P.mb P.a.now P.b.now) (numerator p) j)) (λ j l. ap (divides q) (column_total P.n P.ma P.mb P.a.now P.b.now p j))
