-- `search::enter_table` meets its contract: the rows passed are entered, then the diagonal.
use Rattle.std.proofs.Common.{◌≡◌, ◌*◌, List, ℤ, pos, replicate}
use Rattle.integers.proofs.Laws.Run.{filled}
use Rattle.problem.specs.Lent.{lent}
use Rattle.problem.specs.Rows.{rows_of}
use Rattle.search.specs.Code.{upper_place}
use Rattle.search.proofs.enter_table.Given as goal

abbrev pub zeros : List ℤ
zeros = replicate 864 (pos 0)

abbrev pub invariant-loop-i : goal.invariant-loop-i
invariant-loop-i l = l.cells ≡ filled (l.i * 24) (upper_place l.rows.problem.n (lent rows_of l.rows.problem)) zeros
