-- Demand 2, of a call of `judge` that is not refused.
--
--     demand    all of it
--
-- Assumes nothing.
use mathlib.Core.Path.{◌≡◌, ap}
use mathlib.Core.List.{List}
use Prim.Native.Nat.{ℕ}
use lib.ListN.{length}
use lib.IntN.{ℤ}
use Rattle.std.specs.Prelude.{Option, None}
use Rattle.problem.specs.Rows.{side_of}
use Rattle.problem.specs.declared.Refusal.{Refusal}
use Rattle.problem.proofs.Laws.Refusal.{number_none}
use Rattle.checker.specs.Refutation.{numerator, refusal, refusal_number}
use Rattle.checker.specs.Answer.{interpolant_for, answer_of, run_of, answer_number, judge_answer}
use Rattle.checker.specs.Promises.{Accepted, Demand}
use Rattle.checker.proofs.Theorems.Accepted.{accepted_is, refused_is, judge_number_is}
use Rattle.checker.proofs.Theorems.Refuted.{refuted}
use Rattle.checker.proofs.Theorems.Normal.{interpolant_form}
use Rattle.checker.proofs.Theorems.Implied.{implied, excluded, only_shared}
use Rattle.checker.proofs.Theorems.Largest.{projected}

module _ (n ma mb : ℕ) (a b : List ℤ) (q : ℤ) (p entry : List ℤ) (stated : answer_number (judge_answer n ma mb a b q p entry) ≡ 0) where
  zero : refusal_number n ma mb a b q p (length entry) ≡ 0
  zero = (refused_is n ma mb a b q p (length entry) 0).1 ((judge_number_is n ma mb a b q p entry 0).0 stated)

  accepted : Accepted n ma mb a b q p
  accepted = ((accepted_is n ma mb a b q p (length entry)).0 zero).0

  none : refusal n ma mb a b q p (length entry) ≡ None
  none = number_none (refusal n ma mb a b q p (length entry)) zero

  pub demand : Demand n ma mb a b q p entry
  demand =
      let A = side_of n ma a in
      let B = side_of n mb b in
      record {
        accepted = accepted;
        no_point = refuted n ma mb a b q p accepted;
        answered = ap (λ (r : Option Refusal). answer_of r (interpolant_for n ma mb a b p)) none;
        written = ap (λ (r : Option Refusal). run_of r n (interpolant_for n ma mb a b p) entry) none;
        normal = interpolant_form n A B (numerator p);
        implied = implied n A B (numerator p);
        excluded = excluded n ma mb a b q p accepted;
        only_shared = only_shared n A B (numerator p);
        projected = projected n A B (numerator p);
      }
