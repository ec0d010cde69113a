use Rattle.std.proofs.Common.{ℕ, ◌+◌, cond, ltb, ℤ, pos, rules}
use Rattle.problem.specs.Lent.{lent}
use Rattle.problem.specs.Rows.{rows_of}
use Rattle.search.proofs.Laws.Made.{made_is}
use Rattle.search.proofs.constants.Goals as goal

pub returns : goal.returns
returns c =
    let p = c.args.rows.now.problem in
    let value : ℕ → ℤ = λ i. cond (ltb i (p.ma + p.mb)) ((lent rows_of p).const i) (pos 0) in
    made_is _ _ _ value (λ i y q k. search rules) 12 c.from_fn.ensures.items
