-- The digits that are left, written before those that are, give the number.
use Rattle.std.proofs.Common.{◌≡◌, length}
use Rattle.std.proofs.lemmas.List.Edits.{sets}
use Rattle.frames.specs.Hex.{hex}
use Rattle.frames.proofs.text.Text.hex.Given as goal

abbrev pub invariant-loop-k : goal.invariant-loop-k
invariant-loop-k l = record {
  len : l.self-inside.len ≡ l.initial.self-inside.len;
  long : length l.self-inside.characters ≡ length l.initial.self-inside.characters;
  written : sets l.self-inside.characters l.self-inside.len (hex l.k l.rest) ≡ sets l.initial.self-inside.characters l.initial.self-inside.len (hex l.count l.value);
}
