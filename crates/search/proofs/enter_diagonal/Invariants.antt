-- `search::enter_diagonal` meets its contract: the columns passed are entered.
use Rattle.std.proofs.Common.{◌≡◌}
use Rattle.search.specs.Code.{entered_diagonal}
use Rattle.search.proofs.enter_diagonal.Given as goal

abbrev pub invariant-loop-j : goal.invariant-loop-j
invariant-loop-j l = l.cells ≡ entered_diagonal l.j l.initial.cells
