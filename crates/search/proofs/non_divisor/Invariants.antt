-- `search::non_divisor` meets its contract: the numbers passed divide s, and the one that stops the loop does not, so that it
-- is the least; a number that divides s is at most |s|, so that the loop ends.
use Rattle.std.proofs.Common.{ℕ, ◌+◌, ◌-◌, ◌<◌, ◌≤◌, pos, nat_abs, ◌≡◌}
use Rattle.integers.specs.Divisibility.{◌∣ℤ◌}
use Rattle.search.proofs.non_divisor.Given as goal

abbrev pub invariant-loop-q : goal.invariant-loop-q
invariant-loop-q l = (l.q ≡ pos (nat_abs l.q)) × (2 ≤ nat_abs l.q) × (nat_abs l.q ≤ nat_abs l.s + 1) × ((k : ℕ) → 2 ≤ k → k < nat_abs l.q → pos k ∣ℤ l.s)

abbrev pub decreases-loop-q : goal.decreases-loop-q
decreases-loop-q l = nat_abs l.s + 2 - nat_abs l.q
