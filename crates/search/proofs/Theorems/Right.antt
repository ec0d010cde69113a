-- A finished search is right: what it shows can be checked, and unless it is too large it decides the problem.
--
--     refuted_accepted    refuted with q: the checker accepts the numerators that are written
--     refuted_none        so no point meets both sides
--     solved_meets        solved: the point that is written meets all rows
--     exactly             finished and not too large: refuted exactly when no point meets all rows, solved exactly when some point does
--
-- Assumes nothing.
use mathlib.Core.Path.{◌≡◌, refl, sym, ap, subst, ◌∙◌}
use mathlib.Core.Bool.{false, true≢false}
use mathlib.Core.List.{List}
use Prim.Native.Nat.{ℕ, ◌+◌, ◌≤◌}
use lib.IntN.{ℤ, nat_abs}
use Rattle.integers.specs.Run.{at, tabulate}
use Rattle.integers.proofs.Laws.Order.{positive_lt}
use Rattle.integers.proofs.Laws.Run.{tabulate-at, tabulate-length}
use Rattle.problem.specs.Rows.{Rows, side_of, rows_of}
use Rattle.problem.specs.Points.{Meets}
use Rattle.problem.specs.WellFormed.{million, WellFormed}
use Rattle.problem.proofs.Laws.Points.{both_meets}
use Rattle.checker.specs.Promises.{Accepted}
use Rattle.checker.proofs.Theorems.Refuted.{refuted}
use Rattle.search.specs.State.{Given, State, Outcome, Unfinished, TooLarge, Refuted, Solved, upper_cell, given_of, start}
use Rattle.search.specs.Run.{is_unfinished}
use Rattle.search.specs.Answer.{searched}
use Rattle.search.specs.Promises.{NoPoint, Decided}
use Rattle.search.proofs.Laws.Run.{after_given}
use Rattle.search.proofs.Laws.Start.{start_sound}
use Rattle.search.proofs.Laws.Refuting.{RefutesTable}
use Rattle.search.proofs.Laws.Kept.{SolvesTable, Right}
use Rattle.search.proofs.Laws.Reached.{after_right}
use Rattle.search.proofs.Laws.Rows.{start_right, refutes_rows, solves_rows}

module _ (n ma mb : ℕ) (a b : List ℤ) (w : WellFormed n ma mb a b) (budget : ℕ) where
  abbrev R : Rows
  R = rows_of n ma mb a b

  abbrev final : State
  final = searched n ma mb a b budget

  given_is : final.given ≡ given_of n R
  unfolding start
  given_is = after_given (start n R) budget

  right : (o : Outcome) → final.outcome ≡ o → Right (upper_cell n R) o final
  right o e = subst (λ (o : Outcome). Right (upper_cell n R) o final) e (after_right (upper_cell n R) (start n R) (start_sound n ma mb a b w) (start_right n ma mb a b w) budget)

  -- the runs that are written
  abbrev numerators : List ℤ
  numerators = tabulate (ma + mb) (at final.found)

  abbrev point : List ℤ
  point = tabulate n (at final.found)

  module _ (q : ℤ) (e : final.outcome ≡ Refuted q) where
    pub refuted_accepted : Accepted n ma mb a b q numerators
    refuted_accepted =
        let r = right (Refuted q) e in
        let same = tabulate-at (ma + mb) (at final.found) in
        record {
          well-formed = w;
          vector = record { long = tabulate-length (ma + mb) (at final.found); q_low = positive_lt r.q_positive; q_high = r.q_in };
          numerators = record { in_range = λ i l. subst (λ z. nat_abs z ≤ million) (sym (same i l)) (r.numerators_in i) };
          refutes = refutes_rows n R w.shape.few_n w.shape.few_m (at final.found) (at numerators) q same (subst (λ (g : Given). RefutesTable (upper_cell n R) g (at final.found) q) given_is r);
        }

    pub refuted_none : (X : ℕ → ℤ) → Meets n (side_of n ma a) X → Meets n (side_of n mb b) X → ⊥
    refuted_none = refuted n ma mb a b q numerators refuted_accepted

  pub solved_meets : final.outcome ≡ Solved → Meets n R (at point)
  solved_meets e = solves_rows n R w.shape.few_n w.shape.few_m (at final.found) (at point) (tabulate-at n (at final.found))
      (subst (λ (g : Given). SolvesTable (upper_cell n R) g (at final.found)) given_is (right Solved e))

  none : (q : ℤ) → final.outcome ≡ Refuted q → NoPoint n R
  none q e X m = let s = both_meets n (side_of n ma a) (side_of n mb b) X m in refuted_none q e X s.0 s.1

  pub exactly : is_unfinished final.outcome ≡ false → (final.outcome ≡ TooLarge → ⊥) → Decided n R ((q : ℤ) × (final.outcome ≡ Refuted q)) (final.outcome ≡ Solved)
  exactly finished fits = record {
    refuted_is = ((λ r. none r.0 r.1), (λ h. way final.outcome refl (λ r. r) (λ e. absurd (h (at point) (solved_meets e)))));
    solved_is = ((λ e. (at point, solved_meets e)), (λ x. way final.outcome refl (λ r. absurd (none r.0 r.1 x.0 x.1)) (λ e. e)));
  }
    where
      -- it is refuted or solved
      way : {P : Type 0} (o : Outcome) → final.outcome ≡ o → ((q : ℤ) × (final.outcome ≡ Refuted q) → P) → (final.outcome ≡ Solved → P) → P
      way Unfinished e r s = absurd (true≢false (sym (ap is_unfinished e) ∙ finished))
      way TooLarge e r s = absurd (fits e)
      way (Refuted q) e r s = r (q, e)
      way Solved e r s = s e
