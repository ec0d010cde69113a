-- The numbers passed are written.
use Rattle.std.proofs.Common.{◌≡◌, ◌++◌, ◌+◌, ◌*◌, length, take}
use Rattle.frames.specs.Hex.{hexes}
use Rattle.frames.proofs.text.Text.numbers.Given as goal

abbrev pub invariant-loop-x : goal.invariant-loop-x
invariant-loop-x l = record {
  text : l.self ≡ l.initial.self ++ hexes l.count (take l.x-index l.run);
  len : length l.self ≡ length l.initial.self + l.x-index * l.count;
}
