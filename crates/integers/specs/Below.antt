-- A test at the places 0, .., n - 1.
--
--     all_below n t    whether t holds at each of them; true for n = 0
--     any_below n t    whether t holds at one of them; false for n = 0
use Rattle.std.specs.Prelude.{Bool, true, false, ◌&&◌, ◌||◌, ℕ, zero, suc}

unfoldable pub all_below : ℕ → (ℕ → Bool) → Bool
all_below zero t = true
all_below (suc n) t = all_below n t && t n

unfoldable pub any_below : ℕ → (ℕ → Bool) → Bool
any_below zero t = false
any_below (suc n) t = any_below n t || t n
