-- The places passed are read.
use Rattle.std.proofs.Common.{◌≡◌, ◌+◌, ◌*◌}
use Rattle.integers.proofs.Laws.Run.{filled}
use Rattle.frames.specs.Hex.{number_at}
use Rattle.frames.proofs.read_numbers.Given as goal

abbrev pub invariant-loop-i : goal.invariant-loop-i
invariant-loop-i l = l.numbers ≡ filled l.i (λ k. number_at l.line (l.at + k * 8)) l.initial.numbers
