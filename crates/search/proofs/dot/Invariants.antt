-- `search::dot` meets its contract: the sum is that of the places passed, each product at most 2^56 in magnitude.
use Rattle.std.proofs.Common.{◌≡◌, ℕ, ◌*◌, ◌<◌, ◌≤◌, ℤ, nat_abs}
use Rattle.integers.specs.Sum.{dot}
use Rattle.search.proofs.dot.Given as goal

abbrev pub invariant-loop-k : goal.invariant-loop-k
invariant-loop-k g l = record {
  small : nat_abs l.sum ≤ l.k * 72057594037927936;
  is : (f h : ℕ → ℤ) → ((i : ℕ) (r : ℤ) → i < l.m → g.X.Fn.post l.x (i, tt) r → r ≡ f i) → ((i : ℕ) (r : ℤ) → i < l.m → g.Y.Fn.post l.y (i, tt) r → r ≡ h i) → l.sum ≡ dot l.k f h;
}
