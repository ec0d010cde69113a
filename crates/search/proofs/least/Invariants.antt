-- `search::least` meets its contract: `best` is the least among the columns passed, and so one of them.
use mathlib.Core.Path.{◌≡◌}
use Prim.Native.Nat.{◌-◌, ◌≤◌}
use Rattle.search.specs.Table.{cell}
use Rattle.search.specs.Step.{least}
use Rattle.search.proofs.least.Given as goal

abbrev pub invariant-loop-j : goal.invariant-loop-j
invariant-loop-j l = (l.j - l.lo ≤ l.hi - l.lo) × (l.best ≡ least (cell l.cells l.row) l.lo (l.j - l.lo))
