use Rattle.std.proofs.Common.{ℕ, ℤ, pos, cond, ltb, rules}
use Rattle.search.specs.Step.{place_of, point_of}
use Rattle.search.proofs.Laws.Made.{made_is}
use Rattle.search.proofs.State.point.Goals as goal

pub returns : goal.returns
unfolding point_of
returns c =
    let s = c.args.self.now in
    let value : ℕ → ℤ = λ k. cond (ltb k s.given.n) (place_of s k) (pos 0) in
    made_is _ _ _ value (λ i y q k. search rules) 12 c.from_fn.ensures.items
