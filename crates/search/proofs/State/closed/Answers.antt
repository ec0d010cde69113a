use Rattle.std.proofs.Common.{◌≤◌, Bool, true, false, List, ℤ, length, take, ◌≡◌, sym, ◌∙◌, ap}
use Rattle.integers.specs.Range.{within}
use Rattle.integers.specs.Below.{all_below}
use Rattle.integers.specs.Run.{at}
use Rattle.search.specs.Table.{bound}
use Rattle.search.specs.State.{State}
use Rattle.search.specs.Step.{place_of, point_of, solve_by}
use Rattle.search.proofs.Laws.Close.{goes_on, ends, point_small}
use Rattle.search.proofs.State.closed.Goals as goal

tested : (n : State) (found : List ℤ) (t : Bool) → t ≡ all_below (length (take n.given.n found)) (λ i. within bound (at (take n.given.n found) i)) → found ≡ point_of n → n.given.n ≤ 12 → t ≡ all_below n.given.n (λ k. within bound (place_of n k))
tested n found t e is few = e ∙ ap (λ (run : List ℤ). all_below (length (take n.given.n run)) (λ i. within bound (at (take n.given.n run) i))) is ∙ point_small n few

pub returns-then-next : goal.returns-then-next
returns-then-next c = sym (goes_on c.args.self c.args.next c.if-next.true)

pub returns-then-not-all_within : goal.returns-then-not-all_within
unfolding solve_by
returns-then-not-all_within c = c.too_large.ensures ∙ ends c.args.self c.args.next c.if-next.false false (sym c.if-not-all_within.true ∙ tested c.args.next _ _ c.all_within.ensures c.point-found.ensures c.requires.0.n_in)

pub returns : goal.returns
unfolding solve_by
returns c = rw c.point-found.ensures (ends c.args.self c.args.next c.if-next.false true (sym c.if-not-all_within.false ∙ tested c.args.next _ _ c.all_within.ensures c.point-found.ensures c.requires.0.n_in))
