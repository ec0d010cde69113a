-- `search::State::run` meets its contract: after as many turns of the loop the state is the one after as many steps.
use Rattle.std.proofs.Common.{◌≡◌}
use Rattle.search.specs.Run.{after}
use Rattle.search.proofs.State.run.Given as goal

abbrev pub invariant-loop : goal.invariant-loop
invariant-loop l = l.self ≡ after l.counter l.fn.self
