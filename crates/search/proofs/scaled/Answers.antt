use Rattle.std.proofs.Common.{ℕ, ℤ, ◌*ℤ◌, rules}
use Rattle.integers.specs.Run.{at}
use Rattle.search.proofs.Laws.Made.{made_is}
use Rattle.search.proofs.scaled.Goals as goal

pub returns : goal.returns
returns c =
    let value : ℕ → ℤ = λ i. c.args.f *ℤ at c.args.p i in
    made_is _ _ _ value (λ i y q k. search rules) 12 c.from_fn.ensures.items
