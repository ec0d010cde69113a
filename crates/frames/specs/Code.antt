-- What the private functions ask for.
--
--     Few        counts within their bounds
--     Readable   a line has the two sides that its head speaks of, which are no longer than the largest
use Rattle.std.specs.Prelude.{◌≡◌, true, List, ℕ, ◌+◌, ◌*◌, ◌≤◌, length}
use Rattle.problem.specs.declared.Problem.{Problem}
use Rattle.frames.specs.declared.Head.{Head}
use Rattle.frames.specs.Problem.{are_digits, side_long}

pub record Few (problem : Problem) : Type 0 where
  pub few_n : problem.n ≤ 12
  pub few_m : problem.ma + problem.mb ≤ 12

pub record Readable (line : List ℕ) (head : Head) : Type 0 where
  pub few_n : head.n ≤ 12
  pub few_m : head.ma + head.mb ≤ 12
  pub small_a : side_long head.n head.ma ≤ 168
  pub small_b : side_long head.n head.mb ≤ 168
  pub digits : are_digits line ≡ true
  pub long : length line ≡ 16 + side_long head.n head.ma * 8 + side_long head.n head.mb * 8
