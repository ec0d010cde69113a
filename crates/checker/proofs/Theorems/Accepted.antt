-- A vector is accepted exactly when the problem is well formed, the vector is in range, and it refutes. Each refusal is given
-- exactly in its case.
--
--     accepted_is        the refusal is 0 exactly when Accepted holds and the run is n long
--     refused_is         the refusal is k exactly when Says k holds; no other numbers than 0 to 7 have a case
--     judge_number_is    what `judge` answers has the number k exactly when Says k holds
--
-- Assumes nothing.
use mathlib.Core.Path.{◌≡◌, refl, sym, ◌∙◌, subst}
use mathlib.Core.List.{List}
use Prim.Native.Nat.{ℕ}
use lib.ListN.{length}
use lib.IntN.{ℤ}
use Rattle.std.specs.Prelude.{Option, Some, None}
use Rattle.problem.specs.Refusal.{number_or_none}
use Rattle.problem.specs.declared.Refusal.{Refusal}
use Rattle.checker.specs.Refutation.{refusal, refusal_number}
use Rattle.checker.specs.Fact.{Fact}
use Rattle.checker.specs.Answer.{interpolant_for, answer_of, answer_number, judge_answer}
use Rattle.checker.specs.Promises.{Accepted, Says, says_0}
use Rattle.checker.proofs.Laws.Refusal.{refusal_says, refusal_is, refusal_none}

-- an answer tells its refusal's number
answer-number : (r : Option Refusal) (f : Fact) → answer_number (answer_of r f) ≡ number_or_none r
answer-number None f = refl
answer-number (Some k) f = refl

module _ (n ma mb : ℕ) (a b : List ℤ) (q : ℤ) (p : List ℤ) where
  pub accepted_is : (long : ℕ) → (refusal_number n ma mb a b q p long ≡ 0 → Accepted n ma mb a b q p × (long ≡ n)) × (Accepted n ma mb a b q p × (long ≡ n) → refusal_number n ma mb a b q p long ≡ 0)
  accepted_is long = (refusal_none n ma mb a b q p long, λ h. refusal_is n ma mb a b q p long (says_0 h.0 h.1))

  pub refused_is : (long k : ℕ) → (refusal_number n ma mb a b q p long ≡ k → Says n ma mb a b q p long k) × (Says n ma mb a b q p long k → refusal_number n ma mb a b q p long ≡ k)
  refused_is long k = ((λ e. subst (Says n ma mb a b q p long) e (refusal_says n ma mb a b q p long)), refusal_is n ma mb a b q p long)

  pub judge_number_is : (entry : List ℤ) (k : ℕ) → (answer_number (judge_answer n ma mb a b q p entry) ≡ k → Says n ma mb a b q p (length entry) k) × (Says n ma mb a b q p (length entry) k → answer_number (judge_answer n ma mb a b q p entry) ≡ k)
  judge_number_is entry k =
      let e = answer-number (refusal n ma mb a b q p (length entry)) (interpolant_for n ma mb a b p) in
      ((λ h. (refused_is (length entry) k).0 (sym e ∙ h)), (λ s. e ∙ (refused_is (length entry) k).1 s))
