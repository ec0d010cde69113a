-- Once a search finishes under some budget, every larger budget gives the same answer and count, the same runs and the same table.
--
--     finished_larger    the same state
--     reply_larger       the same answer, with its count
--     runs_larger        the same vector run and the same point run
--     table_larger       the same table
--
-- Assumes nothing.
use mathlib.Core.Path.{◌≡◌, ap}
use mathlib.Core.Bool.{true, false}
use mathlib.Core.List.{List}
use Prim.Native.Nat.{ℕ, ◌≤◌}
use lib.IntN.{ℤ}
use Rattle.problem.specs.Rows.{rows_of}
use Rattle.search.specs.State.{State, start}
use Rattle.search.specs.Run.{is_unfinished}
use Rattle.search.specs.Answer.{reply_of, is_refuted, is_solved, written_if, searched, search_refusal, search_reply, search_vector, search_point, table_refusal, table_run}
use Rattle.search.proofs.Laws.Run.{after_stops}

module _ (n ma mb : ℕ) (a b : List ℤ) (budget larger : ℕ) (more : budget ≤ larger) (finished : is_unfinished (searched n ma mb a b budget).outcome ≡ false) where
  pub finished_larger : searched n ma mb a b larger ≡ searched n ma mb a b budget
  finished_larger = after_stops (start n (rows_of n ma mb a b)) budget larger more finished

  module _ (vector point : List ℤ) where
    pub reply_larger : search_reply n ma mb a b larger vector point ≡ search_reply n ma mb a b budget vector point
    reply_larger = ap (λ (s : State). reply_of (search_refusal n ma mb a b budget vector point) s) finished_larger

    pub runs_larger : (search_vector n ma mb a b larger vector point ≡ search_vector n ma mb a b budget vector point) × (search_point n ma mb a b larger vector point ≡ search_point n ma mb a b budget vector point)
    runs_larger =
        let k = search_refusal n ma mb a b budget vector point in (
          ap (λ (s : State). written_if k (is_refuted s.outcome) s.found vector) finished_larger,
          ap (λ (s : State). written_if k (is_solved s.outcome) s.found point) finished_larger,
        )

  pub table_larger : (cells : List ℤ) → table_run n ma mb a b larger cells ≡ table_run n ma mb a b budget cells
  table_larger cells = ap (λ (s : State). written_if (table_refusal n ma mb a b budget cells) true s.cells cells) finished_larger
