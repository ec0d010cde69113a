-- What the search refutes is written as a refutation that the checker accepts, and its interpolant: the frame for a refused vector is
-- never written.
--
--     refuted_answered    of a problem whose search ends as refuted
--
-- Assumes nothing.
use mathlib.Core.Path.{◌≡◌, refl, ap, ◌∙◌}
use mathlib.Core.List.{List}
use Prim.Native.Nat.{ℕ, ◌+◌}
use lib.ListN.{length, length-replicate}
use lib.IntN.{ℤ, pos}
use Rattle.problem.specs.WellFormed.{WellFormed}
use Rattle.problem.proofs.Laws.Refusal.{number_none}
use Rattle.checker.specs.Refutation.{refusal}
use Rattle.checker.specs.Answer.{interpolant_for, answer_of, judge_answer, judge_run}
use Rattle.checker.specs.Promises.{Accepted}
use Rattle.std.specs.Prelude.{Option, None, Result, Ok, Err}
use Rattle.problem.specs.declared.Refusal.{Refusal}
use Rattle.checker.specs.declared.Fact.{Fact}
use Rattle.checker.proofs.Theorems.Accepted.{accepted_is}
use Rattle.search.specs.Answer.{search_reply, search_vector, search_point}
use Rattle.search.specs.Promises.{Says}
use Rattle.search.specs.declared.Answer.{Answer}
use Rattle.search.specs.declared.Outcome.{Outcome}
use Rattle.search.specs.declared.Outcome.TheVariants.{Refuted}
use Rattle.search.proofs.Theorems.Refused.{answered_well_formed}
use Rattle.search.proofs.Theorems.Demand.{demand}
use Rattle.frames.specs.Answer.{fact_answer, refuted_answer, outcome_answer, reply_answer, problem_answer, zeros}
use Rattle.frames.specs.Promises.{Certifies}

module _ (n ma mb : ℕ) (a b : List ℤ) (budget : ℕ) (q : ℤ) where
  abbrev no_vector : List ℤ
  no_vector = zeros (ma + mb)

  abbrev no_point : List ℤ
  no_point = zeros n

  abbrev vector : List ℤ
  vector = search_vector n ma mb a b budget no_vector no_point

  abbrev point : List ℤ
  point = search_point n ma mb a b budget no_vector no_point

  -- the answer to a reply that says refuted
  told : (r : Result Answer Refusal) → Says r (Refuted q) → (steps : ℕ) × (reply_answer r n ma mb a b vector point (zeros n) ≡ refuted_answer q steps n ma mb a b vector (zeros n))
  told (Err k) h = absurd h
  told (Ok found) h = (found.steps, ap (λ (o : Outcome). outcome_answer o found.steps n ma mb a b vector point (zeros n)) h)

  module _ (says : Says (search_reply n ma mb a b budget no_vector no_point) (Refuted q)) where
    well-formed : WellFormed n ma mb a b
    well-formed = answered_well_formed n ma mb a b budget no_vector no_point (Refuted q) says

    accepted : Accepted n ma mb a b q vector
    accepted = (demand n ma mb a b no_vector no_point well-formed (length-replicate (ma + mb) (pos 0)) (length-replicate n (pos 0))).refuted_accepted budget q says

    not_refused : refusal n ma mb a b q vector (length (zeros n)) ≡ None
    not_refused =
        number_none (refusal n ma mb a b q vector (length (zeros n)))
        ((accepted_is n ma mb a b q vector (length (zeros n))).1 (accepted, length-replicate n (pos 0)))

    stated : judge_answer n ma mb a b q vector (zeros n) ≡ answer_of None (interpolant_for n ma mb a b vector)
    stated = ap (λ (k : Option Refusal). answer_of k (interpolant_for n ma mb a b vector)) not_refused

    pub refuted_answered : Certifies n ma mb a b q (problem_answer n ma mb a b budget no_vector no_point (zeros n))
    unfolding problem_answer
    refuted_answered =
        let answer = told (search_reply n ma mb a b budget no_vector no_point) says in
        record {
          steps = answer.0;
          vector = vector;
          coeffs = judge_run n ma mb a b q vector (zeros n);
          constant = (interpolant_for n ma mb a b vector).const;
          modulus = (interpolant_for n ma mb a b vector).modulus;
          accepted = accepted;
          stated = stated;
          written = refl;
          is = answer.1 ∙ ap (λ (f : Result Fact Refusal). fact_answer f n (ma + mb) answer.0 q vector (judge_run n ma mb a b q vector (zeros n))) stated;
        }
