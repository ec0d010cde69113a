-- `search::swap_columns` meets its contract: the rows passed are changed.
use mathlib.Core.Path.{◌≡◌}
use Rattle.search.specs.Table.{each_row, swap_row}
use Rattle.search.proofs.swap_columns.Given as goal

abbrev pub invariant-loop-i : goal.invariant-loop-i
invariant-loop-i l = l.cells ≡ each_row l.i (swap_row l.j l.k) l.initial.cells
