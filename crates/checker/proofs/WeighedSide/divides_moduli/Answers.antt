use Rattle.std.proofs.Common.{◌≡◌, ℕ, ◌+◌, ◌*◌, ◌∙◌, refl, ap, arith, rules, ◌*ℤ◌}
use mathlib.Core.Bool.{Bool}
use Rattle.std.proofs.lemmas.Iterator.{YieldsList-from_range}
use Rattle.std.proofs.lemmas.Iterator.Search.{all_from_yields_List}
use Rattle.integers.specs.Divisibility.{divides}
use Rattle.integers.specs.Run.{at}
use Rattle.integers.proofs.Laws.Below.{all_range, all_same}
use Rattle.problem.specs.Rows.{side_of}
use Rattle.checker.specs.Code.{numbers}
use Rattle.checker.proofs.WeighedSide.divides_moduli.Goals as goal

pub returns : goal.returns
returns c =
    let s = c.args.self.now in
    let test : ℕ → Bool = λ i. divides c.args.q (at s.weights.now i *ℤ numbers s.side.n s.side.run.now (s.side.n + 1) i) in
    let place : (i : ℕ) → i * (s.side.n + 2) + (s.side.n + 1) ≡ i * (s.side.n + 2) + s.side.n + 1 = λ i. omega arith in
    all_from_yields_List test _ _ _ c.all.ensures.ran (YieldsList-from_range 0 s.side.m s.side.m refl (omega arith)) (λ x b q k. search rules)
    ∙ all_range s.side.m test
    ∙ all_same s.side.m test (λ i. divides c.args.q (at s.weights.now i *ℤ (side_of s.side.n s.side.m s.side.run.now).modulus i)) (λ i l. ap (λ k. divides c.args.q (at s.weights.now i *ℤ at s.side.run.now k)) (place i))
