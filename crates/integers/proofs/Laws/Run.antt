-- Runs by their places: laws of `tabulate`, and what a loop that writes a run leaves.
--
--     Places       at_end             past the end stands 0
--     Tabulated    tabulate-length    length (tabulate n f) = n
--                  tabulate-at        place i < n of tabulate n f is f i
--                  tabulate_is        a run of length n with f i at each place i is tabulate n f
--                  tabulate_ext       equal places: equal runs
--                  tabulate_all       a function that is 0 from n on, read back from its first n places
--                  run_is             a run is tabulated by its own places
--                  tabulate-set       one place set
--                  tabulate_zeros     [0; n] is tabulate n of 0
--     Filled       filled k f run     run with its first k places set to f 0, .., f (k - 1): a writing loop after k turns
--                  filled_none  filled_more     at k = 0 and at the code's k + 1
--                  filled_length      the length stays
--                  filled_at          a place that is reached has f i       filled_later    others are as they were
--                  filled_all         all places set: tabulate n f
--
-- Assumes nothing.
use mathlib.Core.Path.{◌≡◌, refl, sym, ◌∙◌, ap, fun_ext}
use mathlib.Core.Bool.{Bool, cond}
use mathlib.Core.List.{List}
use Prim.Native.Nat.{ℕ, zero, suc, ◌+◌, ◌≤◌, ◌<◌}
use native.Mathlib.Numerals.{add-one}
use native.Mathlib.Omega.{arith}
use native.Mathlib.Decide.{ℕ_discrete, dec_lt}
use borrow.Author.Tests.{eq-eqb, ne_eqb}
use lib.Dec.{eqb}
use lib.ListN.{set, length, length-set, get_or-eq_default, replicate, length-replicate, get_or-replicate}
use lib.Seq.{get_or-set_same, get_or-set_other, ext_get_or}
use lib.IntN.{ℤ, pos}
use Rattle.integers.specs.Run.{at, tabulate}

-- Tabulated ------------------------------------------------------------------------------------------------------------

pub tabulate-length : (n : ℕ) (f : ℕ → ℤ) → length (tabulate n f) ≡ n
unfolding tabulate
tabulate-length zero f = refl
tabulate-length (suc n) f = ap suc (tabulate-length n (λ i. f (suc i)))

pub tabulate-at : (n : ℕ) (f : ℕ → ℤ) (i : ℕ) → i < n → at (tabulate n f) i ≡ f i
unfolding tabulate
tabulate-at zero f i h = absurd (omega arith)
tabulate-at (suc n) f zero h = refl
tabulate-at (suc n) f (suc i) h = tabulate-at n (λ k. f (suc k)) i (omega arith)

pub tabulate_is : (n : ℕ) (f : ℕ → ℤ) (run : List ℤ) → length run ≡ n → ((i : ℕ) → i < n → at run i ≡ f i) → run ≡ tabulate n f
tabulate_is n f run e h =
    let l = tabulate-length n f in
    ext_get_or (pos 0) run (tabulate n f) (omega arith) (λ i g. h i (omega arith) ∙ sym (tabulate-at n f i (omega arith)))

pub tabulate_ext : (n : ℕ) (f g : ℕ → ℤ) → ((i : ℕ) → i < n → f i ≡ g i) → tabulate n f ≡ tabulate n g
tabulate_ext n f g h = tabulate_is n g (tabulate n f) (tabulate-length n f) (λ i l. tabulate-at n f i l ∙ h i l)

pub run_is : (run : List ℤ) → run ≡ tabulate (length run) (at run)
run_is run = tabulate_is (length run) (at run) run refl (λ i h. refl)

pub tabulate_all : (n : ℕ) (f : ℕ → ℤ) → ((i : ℕ) → n ≤ i → f i ≡ pos 0) → at (tabulate n f) ≡ f
tabulate_all n f zeros = fun_ext (λ i. elim (dec_lt i n) [
  | yes h ↦ tabulate-at n f i h
  | no h ↦ let l = tabulate-length n f in get_or-eq_default (tabulate n f) (pos 0) {n = i} (omega arith) ∙ sym (zeros i (omega arith))
])

pub at_end : (run : List ℤ) (i : ℕ) → length run ≤ i → at run i ≡ pos 0
at_end run i h = get_or-eq_default run (pos 0) {n = i} h

pub tabulate-set : (n : ℕ) (f : ℕ → ℤ) (k : ℕ) (x : ℤ) → k < n → set (tabulate n f) k x ≡ tabulate n (λ i. cond (eqb i k) x (f i))
tabulate-set n f k x h =
    let l = tabulate-length n f in
    tabulate_is n (λ i. cond (eqb i k) x (f i)) (set (tabulate n f) k x) (length-set (tabulate n f) k x ∙ l) (λ i g. elim (ℕ_discrete i k) [
      | yes e ↦ ap (at (set (tabulate n f) k x)) e ∙ get_or-set_same (tabulate n f) k x (pos 0) (omega arith) ∙ sym (ap (λ (t : Bool). cond t x (f i)) (eq-eqb i k e))
      | no e ↦ get_or-set_other (tabulate n f) k i x (pos 0) e ∙ tabulate-at n f i g ∙ sym (ap (λ (t : Bool). cond t x (f i)) (ne_eqb i k e))
    ])

pub tabulate_zeros : (n : ℕ) → replicate n (pos 0) ≡ tabulate n (λ i. pos 0)
tabulate_zeros n = tabulate_is n (λ i. pos 0) (replicate n (pos 0)) (length-replicate n (pos 0)) (λ i h. get_or-replicate n i (pos 0) (pos 0) h)

-- Filled ---------------------------------------------------------------------------------------------------------------

unfoldable pub filled : ℕ → (ℕ → ℤ) → List ℤ → List ℤ
filled zero f run = run
filled (suc k) f run = set (filled k f run) k (f k)

pub filled_none : (f : ℕ → ℤ) (run : List ℤ) → run ≡ filled 0 f run
unfolding filled
filled_none f run = refl

pub filled_more : (k : ℕ) (f : ℕ → ℤ) (run : List ℤ) → set (filled k f run) k (f k) ≡ filled (k + 1) f run
unfolding filled
filled_more k f run = rw add-one

pub filled_length : (k : ℕ) (f : ℕ → ℤ) (run : List ℤ) → length (filled k f run) ≡ length run
unfolding filled
filled_length zero f run = refl
filled_length (suc k) f run = length-set (filled k f run) k (f k) ∙ filled_length k f run

pub filled_later : (k : ℕ) (f : ℕ → ℤ) (run : List ℤ) (i : ℕ) → k ≤ i → at (filled k f run) i ≡ at run i
unfolding filled
filled_later zero f run i h = refl
filled_later (suc k) f run i h = get_or-set_other (filled k f run) k i (f k) (pos 0) (omega arith) ∙ filled_later k f run i (omega arith)

pub filled_at : (k : ℕ) (f : ℕ → ℤ) (run : List ℤ) (i : ℕ) → k ≤ length run → i < k → at (filled k f run) i ≡ f i
unfolding filled
filled_at zero f run i h l = absurd (omega arith)
filled_at (suc k) f run i h l = let e = filled_length k f run in elim (ℕ_discrete i k) [
  | yes q ↦ ap (at (set (filled k f run) k (f k))) q ∙ get_or-set_same (filled k f run) k (f k) (pos 0) (omega arith) ∙ ap f (sym q)
  | no q ↦ get_or-set_other (filled k f run) k i (f k) (pos 0) q ∙ filled_at k f run i (omega arith) (omega arith)
]

pub filled_all : (n : ℕ) (f : ℕ → ℤ) (run : List ℤ) → length run ≡ n → filled n f run ≡ tabulate n f
filled_all n f run e = tabulate_is n f (filled n f run) (filled_length n f run ∙ e) (λ i h. filled_at n f run i (omega arith) h)
