-- No second possibility: two results, and two runs at exit, that both meet the contract of a public function are equal.
-- Assumes nothing.
use mathlib.Core.Path.{◌≡◌}
use mathlib.Core.List.{List}
use Prim.Native.Nat.{ℕ}
use Rattle.integers.proofs.Determined.{determined}
use Rattle.lines.specs.Lines.{fed_progress, fed_carry, fed_out, finish_end, finish_run}
use Rattle.lines.specs.declared.Progress.{Progress}

module _ (chunk : List ℕ) (at : ℕ) (carry : List ℕ) (held : ℕ) (out : List ℕ) (made : ℕ) where
  pub feed_determined : (r s : Progress) → r ≡ fed_progress chunk at carry held out made → s ≡ fed_progress chunk at carry held out made → r ≡ s
  feed_determined r s = determined

  pub feed_carry_determined : (exit other : List ℕ) → exit ≡ fed_carry chunk at carry held out made → other ≡ fed_carry chunk at carry held out made → exit ≡ other
  feed_carry_determined exit other = determined

  pub feed_out_determined : (exit other : List ℕ) → exit ≡ fed_out chunk at carry held out made → other ≡ fed_out chunk at carry held out made → exit ≡ other
  feed_out_determined exit other = determined

module _ (carry : List ℕ) (held : ℕ) (out : List ℕ) (made : ℕ) where
  pub finish_determined : (r s : ℕ) → r ≡ finish_end carry held out made → s ≡ finish_end carry held out made → r ≡ s
  finish_determined r s = determined

  pub finish_run_determined : (exit other : List ℕ) → exit ≡ finish_run carry held out made → other ≡ finish_run carry held out made → exit ≡ other
  finish_run_determined exit other = determined
