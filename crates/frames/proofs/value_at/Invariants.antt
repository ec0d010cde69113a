-- The value is that of the digits passed.
use Rattle.std.proofs.Common.{◌≡◌}
use Rattle.frames.specs.Hex.{value_at}
use Rattle.frames.proofs.value_at.Given as goal

abbrev pub invariant-loop-c : goal.invariant-loop-c
invariant-loop-c l = l.value ≡ value_at l.line l.at l.c-index
