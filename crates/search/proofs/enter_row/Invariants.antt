-- `search::enter_row` meets its contract: the columns passed are entered.
use Rattle.std.proofs.Common.{◌≡◌, ◌*◌}
use Rattle.problem.specs.Lent.{lent}
use Rattle.problem.specs.Rows.{rows_of}
use Rattle.search.specs.Code.{filled_from, upper_place}
use Rattle.search.proofs.enter_row.Given as goal

abbrev pub invariant-loop-j : goal.invariant-loop-j
invariant-loop-j l = l.cells ≡ filled_from (l.i * 24) l.j (upper_place l.rows.problem.n (lent rows_of l.rows.problem)) l.initial.cells
