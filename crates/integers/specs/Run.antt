-- A run of integers and its places, counted from 0.
--
--     at run i         what stands at place i; 0 past the end
--     tabulate n f     the run f 0, .., f (n - 1)
use Rattle.std.specs.Prelude.{List, [], ◌∷◌, ℕ, zero, suc, get_or, ℤ, pos}

abbrev pub at : List ℤ → ℕ → ℤ
at run i = get_or run i (pos 0)

unfoldable pub tabulate : ℕ → (ℕ → ℤ) → List ℤ
tabulate zero f = []
tabulate (suc n) f = f 0 ∷ tabulate n (λ i. f (suc i))
