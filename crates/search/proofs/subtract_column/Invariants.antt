-- `search::subtract_column` meets its contract: the rows passed are changed, and the row in hand is as it was, so that it is
-- bounded.
use mathlib.Core.Path.{◌≡◌}
use Rattle.search.specs.Table.{each_row, subtract_row}
use Rattle.search.proofs.subtract_column.Given as goal

abbrev pub invariant-loop-i : goal.invariant-loop-i
invariant-loop-i l = l.cells ≡ each_row l.i (subtract_row l.first l.second l.q) l.initial.cells
