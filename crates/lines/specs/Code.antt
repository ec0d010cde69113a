-- What the private functions and the theorem `calls_end` ask for.
--
--     Lawful     a carry that is `cap` long, with no more of it in use
use Rattle.std.specs.Prelude.{◌≡◌, List, ℕ, ◌≤◌, length}
use Rattle.lines.specs.Lines.{cap}

pub record Lawful (carry : List ℕ) (held : ℕ) : Type 0 where
  pub long : length carry ≡ cap
  pub few : held ≤ cap
