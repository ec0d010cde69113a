-- Demand 3, of a call of `search` with a well-formed problem and lent runs of the right lengths.
--
--     demand    all of it
--
-- Assumes nothing.
use mathlib.Core.Path.{◌≡◌, sym, ap, ap₂, subst, subst⁻¹, ◌∙◌}
use mathlib.Core.Bool.{Bool, true, ◌&&◌}
use mathlib.Core.List.{List}
use Prim.Native.Nat.{ℕ, ◌+◌}
use borrow.Author.Tests.{eq-eqb}
use lib.ListN.{length}
use lib.IntN.{ℤ}
use Rattle.std.proofs.Common.{Option, None, Result, Ok}
use Rattle.integers.specs.Run.{at, tabulate}
use Rattle.problem.specs.declared.Refusal.{Refusal}
use Rattle.problem.specs.Points.{Meets}
use Rattle.problem.specs.Rows.{rows_of}
use Rattle.problem.specs.WellFormed.{WellFormed}
use Rattle.checker.specs.Promises.{Accepted}
use Rattle.search.specs.State.{State, Outcome, Refuted, Solved, TooLarge}
use Rattle.search.specs.Run.{is_unfinished}
use Rattle.search.specs.Answer.{Answer, reply_of, is_refuted, is_solved, written_by, written_if, searched, search_refusal, search_reply}
use Rattle.search.specs.Promises.{says_unfinished, Says, Demand}
use Rattle.search.proofs.Laws.Run.{is-unfinished}
use Rattle.search.proofs.Laws.Refusal.{well_formed_none, written_none}
use Rattle.search.proofs.Theorems.Unfinished.{unfinished_is, unfinished_count, unfinished_writes}
use Rattle.search.proofs.Theorems.Larger.{reply_larger, runs_larger}
use Rattle.search.proofs.Theorems.Enough.{enough}
use Rattle.search.proofs.Theorems.Right.{refuted_accepted, refuted_none, solved_meets, exactly}
use Rattle.search.proofs.Theorems.TooLarge.{too_large_is}

module _ (n ma mb : ℕ) (a b vector point : List ℤ) (w : WellFormed n ma mb a b) (vector_long : length vector ≡ ma + mb) (point-long : length point ≡ n) where
  module _ (budget : ℕ) where
    abbrev final : State
    final = searched n ma mb a b budget

    abbrev answer : Result Answer Refusal
    answer = search_reply n ma mb a b budget vector point

    taken : search_refusal n ma mb a b budget vector point ≡ None
    taken = well_formed_none n ma mb a b _ w (ap₂ (λ (s t : Bool). s && t) (eq-eqb (length vector) (ma + mb) vector_long) (eq-eqb (length point) n point-long))

    answered : answer ≡ reply_of None final
    answered = ap (λ (k : Option Refusal). reply_of k final) taken

    says : (o : Outcome) → Says answer o → final.outcome ≡ o
    says o h = subst (λ (r : Result Answer Refusal). Says r o) answered h

    said : (o : Outcome) → final.outcome ≡ o → Says answer o
    said o h = subst⁻¹ (λ (r : Result Answer Refusal). Says r o) answered h

    unfinished_same : says_unfinished answer ≡ is_unfinished final.outcome
    unfinished_same = ap says_unfinished answered

    -- a run that is written
    run : (t : Bool) (entry : List ℤ) (m : ℕ) → t ≡ true → length entry ≡ m → written_if (search_refusal n ma mb a b budget vector point) t final.found entry ≡ tabulate m (at final.found)
    run t entry m e long =
        sym (written_none (search_refusal n ma mb a b budget vector point) t final.found entry taken)
        ∙ ap (λ (x : Bool). written_by x final.found entry) e
        ∙ ap (λ (k : ℕ). tabulate k (at final.found)) long

  pub demand : Demand n ma mb a b vector point
  demand = record {
    unfinished = λ budget. unfinished_is n ma mb a b budget vector point (taken budget);
    counted = λ budget u.
        let o = (unfinished_is n ma mb a b budget vector point (taken budget)).0 u in
        answered budget
        ∙ ap₂ (λ (k : ℕ) (o : Outcome). Ok (record { steps = k; outcome = o }))
        (unfinished_count n ma mb a b budget vector point (taken budget) o)
        (is-unfinished (final budget).outcome (sym (unfinished_same budget) ∙ u));
    unwritten = λ budget u. unfinished_writes n ma mb a b budget vector point (taken budget) ((unfinished_is n ma mb a b budget vector point (taken budget)).0 u);
    larger = λ budget more l f.
        let finished = sym (unfinished_same budget) ∙ f in
        let runs = runs_larger n ma mb a b budget more l finished vector point in
        (reply_larger n ma mb a b budget more l finished vector point, runs.0, runs.1);
    enough = λ budget l. unfinished_same budget ∙ enough n ma mb a b w budget l;
    refuted_accepted = λ budget q h.
        let e = says budget (Refuted q) h in
        subst⁻¹ (Accepted n ma mb a b q) (run budget (is_refuted (final budget).outcome) vector (ma + mb) (ap is_refuted e) vector_long) (refuted_accepted n ma mb a b w budget q e);
    refuted_none = λ budget q h. refuted_none n ma mb a b w budget q (says budget (Refuted q) h);
    solved_meets = λ budget h.
        let e = says budget Solved h in
        subst⁻¹ (λ (x : List ℤ). Meets n (rows_of n ma mb a b) (at x)) (run budget (is_solved (final budget).outcome) point n (ap is_solved e) point-long) (solved_meets n ma mb a b w budget e);
    exactly = λ budget f fits.
        let d = exactly n ma mb a b w budget (sym (unfinished_same budget) ∙ f) (λ e. fits (said budget TooLarge e)) in
        record {
          refuted_is = ((λ r. d.refuted_is.0 (r.0, says budget (Refuted r.0) r.1)), (λ h. let r = d.refuted_is.1 h in (r.0, said budget (Refuted r.0) r.1)));
          solved_is = ((λ h. d.solved_is.0 (says budget Solved h)), (λ x. said budget Solved (d.solved_is.1 x)));
        };
    too_large = λ budget. let t = too_large_is n ma mb a b budget in ((λ h. t.0 (says budget TooLarge h)), (λ o. said budget TooLarge (t.1 o)));
  }
