-- Many steps.
--
--     after b s       the state after b steps from s, or after the last, if there are fewer
--     next_by o s     one step more, if the outcome o is "unfinished"
--     is_unfinished   whether an outcome is "unfinished"
use Rattle.std.specs.Prelude.{Bool, true, false, ℕ, zero, suc}
use Rattle.search.specs.State.{State, Outcome, Unfinished, TooLarge, Refuted, Solved}
use Rattle.search.specs.Step.{step_of}

abbrev pub is_unfinished : Outcome → Bool
is_unfinished Unfinished = true
is_unfinished TooLarge = false
is_unfinished (Refuted q) = false
is_unfinished Solved = false

unfoldable pub next_by : Outcome → State → State
next_by Unfinished s = step_of s
next_by TooLarge s = s
next_by (Refuted q) s = s
next_by Solved s = s

unfoldable pub after : ℕ → State → State
after zero s = s
after (suc b) s = let t = after b s in next_by t.outcome t
