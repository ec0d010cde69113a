-- Each call of `feed` takes some of what is left of the chunk.
use Rattle.std.proofs.Common.{◌-◌, ◌≤◌, length}
use Rattle.interp.proofs.Stream.feed.Given as goal

abbrev pub invariant-loop-at : goal.invariant-loop-at
invariant-loop-at g l = l.at ≤ length l.chunk

abbrev pub decreases-loop-at : goal.decreases-loop-at
decreases-loop-at g l = length l.chunk - l.at
