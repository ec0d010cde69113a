-- What the refusal before any step says.
--
--     refusal_says        the case of the refusal's number holds     refusal_is    where the case of k holds, the refusal has the number k
--     none_well_formed    there is none: the problem is well formed
--     none_fits           and the lent runs have their lengths
--     well_formed_none    the problem is well formed and the lent runs have their lengths: there is none
--     search_fits         and the vector has a place for each row, the point one for each variable
--     table_fits          and the table's run has a place for each cell
--     left_refused        a refusal leaves a run as it was
--     written_none        where there is none, the test alone decides whether the run is written
--
-- Assumes nothing.
use mathlib.Core.Path.{◌≡◌, refl, ap, ap₂, ◌∙◌}
use mathlib.Core.Bool.{Bool, true, false, ◌&&◌}
use mathlib.Core.List.{List}
use Prim.Native.Nat.{ℕ, ◌+◌, ◌≤◌}
use native.Mathlib.Omega.{arith}
use lib.Dec.{eqb}
use lib.ListN.{length}
use lib.IntN.{ℤ}
use Rattle.std.proofs.Common.{Option, Some, None}
use Rattle.integers.proofs.Laws.Decide.{Decides, decides_no, decides_false, by_and, by_eq}
use Rattle.problem.specs.declared.Refusal.{Refusal}
use Rattle.problem.specs.declared.Refusal.TheVariants.{WrongShape, WrongRun, RowOutOfRange}
use Rattle.problem.proofs.Laws.Refusal.{number_none}
use Rattle.problem.specs.Refusal.{number_of, number_or_none, unless, problem_refusal}
use Rattle.problem.specs.WellFormed.{WellFormed, shape, well_formed}
use Rattle.problem.proofs.Laws.WellFormed.{by_shape, by_well_formed}
use Rattle.search.specs.Answer.{written_by, written_if}
use Rattle.search.specs.Promises.{Refuses, shape_fails, run_fails, range_fails, none}

module _ (n ma mb : ℕ) (a b : List ℤ) {fit : Bool} {Fit : Type 0} (d : Decides fit Fit) where
  test : (t : Bool) (k : Refusal) (rest : Option Refusal) {H : Type 0} → Decides t H → ((H → ⊥) → Refuses n ma mb a b Fit (number_of k)) → (H → Refuses n ma mb a b Fit (number_or_none rest)) → Refuses n ma mb a b Fit (number_or_none (unless t k rest))
  test true k rest e refused passed = passed (e.yes refl)
  test false k rest e refused passed = refused (decides_no e refl)

  pub refusal_says : Refuses n ma mb a b Fit (number_or_none (problem_refusal n ma mb a b fit))
  unfolding problem_refusal
  refusal_says =
      test _ WrongShape _ (by_shape n ma mb a b) shape_fails (λ s.
      test _ WrongRun _ d (run_fails s) (λ h.
      test _ RowOutOfRange None (by_well_formed n ma mb a b) (range_fails s h) (λ w.
      none w h)))

  -- the refusal, where the tests have these answers
  refusal_by : {s t w : Bool} → shape n ma mb a b ≡ s → fit ≡ t → well_formed n ma mb a b ≡ w → problem_refusal n ma mb a b fit ≡ unless s WrongShape (unless t WrongRun (unless w RowOutOfRange None))
  unfolding problem_refusal
  refusal_by {s} e f g = ap (λ (x : Bool). unless x WrongShape (unless fit WrongRun (unless (well_formed n ma mb a b) RowOutOfRange None))) e ∙ ap₂ (λ (t w : Bool). unless s WrongShape (unless t WrongRun (unless w RowOutOfRange None))) f g

  pub refusal_is : {k : ℕ} → Refuses n ma mb a b Fit k → number_or_none (problem_refusal n ma mb a b fit) ≡ k
  refusal_is (shape_fails h) = ap number_or_none (refusal_by (decides_false (by_shape n ma mb a b) h) refl refl)
  refusal_is (run_fails s h) = ap number_or_none (refusal_by ((by_shape n ma mb a b).is s) (decides_false d h) refl)
  refusal_is (range_fails s h g) = ap number_or_none (refusal_by ((by_shape n ma mb a b).is s) (d.is h) (decides_false (by_well_formed n ma mb a b) g))
  refusal_is (none w h) = ap number_or_none (refusal_by ((by_shape n ma mb a b).is w.shape) (d.is h) ((by_well_formed n ma mb a b).is w))

-- a flag decides that it is true
flag : (t : Bool) → Decides t (t ≡ true)
flag t = record { yes = λ e. e; is = λ e. e }

module _ (n ma mb : ℕ) (a b : List ℤ) (fit : Bool) where
  taken : problem_refusal n ma mb a b fit ≡ None → WellFormed n ma mb a b × (fit ≡ true)
  taken e = go (refusal_says n ma mb a b (flag fit)) (ap number_or_none e)
    where
      go : {k : ℕ} → Refuses n ma mb a b (fit ≡ true) k → k ≡ 0 → WellFormed n ma mb a b × (fit ≡ true)
      go (shape_fails h) e = absurd (omega arith)
      go (run_fails s h) e = absurd (omega arith)
      go (range_fails s h g) e = absurd (omega arith)
      go (none w h) e = (w, h)

  pub none_well_formed : problem_refusal n ma mb a b fit ≡ None → WellFormed n ma mb a b
  none_well_formed e = (taken e).0

  pub none_fits : problem_refusal n ma mb a b fit ≡ None → fit ≡ true
  none_fits e = (taken e).1

  pub well_formed_none : WellFormed n ma mb a b → fit ≡ true → problem_refusal n ma mb a b fit ≡ None
  well_formed_none w e = number_none _ (refusal_is n ma mb a b (flag fit) (none w e))

module _ (n ma mb : ℕ) (a b : List ℤ) where
  pub search_fits : (vector point : List ℤ) → problem_refusal n ma mb a b (eqb (length vector) (ma + mb) && eqb (length point) n) ≡ None → (length vector ≤ 12) × (length point ≤ 12)
  search_fits vector point e =
      let s = (none_well_formed n ma mb a b _ e).shape in
      let l = (by_and (by_eq (length vector) (ma + mb)) (by_eq (length point) n)).yes (none_fits n ma mb a b _ e) in
      (omega arith, omega arith)

  pub table_fits : (cells : List ℤ) → problem_refusal n ma mb a b (eqb (length cells) 864) ≡ None → length cells ≡ 864
  table_fits cells e = (by_eq (length cells) 864).yes (none_fits n ma mb a b _ e)

pub left_refused : (k : Option Refusal) (t : Bool) (numbers entry : List ℤ) → (k ≡ None → ⊥) → entry ≡ written_if k t numbers entry
left_refused None t numbers entry h = absurd (h refl)
left_refused (Some k) t numbers entry h = refl

pub written_none : (k : Option Refusal) (t : Bool) (numbers entry : List ℤ) → k ≡ None → written_by t numbers entry ≡ written_if k t numbers entry
written_none None t numbers entry e = refl
written_none (Some k) t numbers entry e = cc
