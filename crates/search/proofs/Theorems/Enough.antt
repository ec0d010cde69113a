-- 8,076 steps always finish.
--
--     enough    of a well-formed problem, under every budget of at least that many steps
--
-- Assumes nothing.
use mathlib.Core.Path.{◌≡◌, refl, ap, ◌∙◌}
use mathlib.Core.Bool.{false}
use mathlib.Core.List.{List}
use Prim.Native.Nat.{ℕ, ◌≤◌}
use lib.IntN.{ℤ}
use Rattle.problem.specs.Rows.{rows_of}
use Rattle.problem.specs.WellFormed.{WellFormed}
use Rattle.search.specs.State.{State, upper_cell, start}
use Rattle.search.specs.Run.{is_unfinished}
use Rattle.search.specs.Answer.{searched}
use Rattle.search.specs.Promises.{most_steps}
use Rattle.search.proofs.Laws.Start.{start_sound}
use Rattle.search.proofs.Laws.Reached.{after_enough}
use Rattle.search.proofs.Laws.Rows.{start_right}
use Rattle.search.proofs.Theorems.Larger.{finished_larger}

module _ (n ma mb : ℕ) (a b : List ℤ) (w : WellFormed n ma mb a b) where
  at_most : is_unfinished (searched n ma mb a b most_steps).outcome ≡ false
  unfolding start
  at_most = let R = rows_of n ma mb a b in after_enough (upper_cell n R) (start n R) (start_sound n ma mb a b w) (start_right n ma mb a b w) refl

  pub enough : (budget : ℕ) → most_steps ≤ budget → is_unfinished (searched n ma mb a b budget).outcome ≡ false
  enough budget more = ap (λ (s : State). is_unfinished s.outcome) (finished_larger n ma mb a b most_steps budget more at_most) ∙ at_most
