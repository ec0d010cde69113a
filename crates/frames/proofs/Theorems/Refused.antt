-- Refusals 9 and 1 of a text line are given exactly in their cases, 9 before 1.
--
--     line_refused_is    the refusal of a line is k exactly where its case is k
--     refused_answered   a line that is refused is answered with that number, and no steps
--
-- What is neither goes to the search, whose refusals are told in its own theorems. Assumes nothing.
use mathlib.Core.Path.{◌≡◌, refl, ap, subst, ◌∙◌}
use mathlib.Core.Bool.{Bool, true, false}
use mathlib.Core.List.{List}
use Prim.Native.Nat.{ℕ, suc}
use native.Mathlib.Omega.{arith}
use lib.ListN.{length, get_or}
use Rattle.integers.proofs.Laws.Below.{all_each, all_true}
use Rattle.integers.proofs.Laws.Decide.{Decides, decides_no, decides_false, by_same}
use Rattle.std.specs.Prelude.{Option, None, Some}
use Rattle.problem.specs.declared.Refusal.{Refusal}
use Rattle.problem.specs.declared.Refusal.TheVariants.{WrongShape, NoFrame}
use Rattle.problem.specs.Refusal.{unless, number_or_none}
use Rattle.search.specs.Promises.{Exactly}
use Rattle.frames.specs.Hex.{is_digit}
use Rattle.frames.specs.Problem.{is_frame, is_problem, line_refusal, line_number}
use Rattle.frames.specs.Answer.{refusal_frame, answer_by, problem_lines, answer_of}
use Rattle.frames.specs.Promises.{Frame, Counts, LineRefuses, no_frame, wrong_counts, none}
use Rattle.frames.proofs.Laws.Problem.{frame_tests, problem_tests}

module _ (l : List ℕ) where
  by_frame : Decides (is_frame l) (Frame l)
  by_frame = by_same
      (λ t. record { short = t.0; long = t.1.0; even = t.1.1.0; digits = all_each (length l) (λ i. is_digit (get_or l i 0)) t.1.1.1.0; first = t.1.1.1.1 })
      (λ f. (f.short, (f.long, (f.even, (all_true (length l) (λ i. is_digit (get_or l i 0)) f.digits, f.first)))))
      (frame_tests l)

  by_counts : Decides (is_problem l) (Counts l)
  by_counts = by_same
      (λ t. record { some_n = t.0; few_n = t.1.0; some_m = t.1.1.0; few_m = t.1.1.1.0; long = t.1.1.1.1 })
      (λ c. (c.some_n, (c.few_n, (c.some_m, (c.few_m, c.long)))))
      (problem_tests l)

  says : LineRefuses l (line_number l)
  unfolding line_refusal
  says = frame (is_frame l) refl
    where
      counts : Frame l → (t : Bool) → is_problem l ≡ t → LineRefuses l (number_or_none (unless t WrongShape None))
      counts f true e = none f (by_counts.yes e)
      counts f false e = wrong_counts f (decides_no by_counts e)

      frame : (t : Bool) → is_frame l ≡ t → LineRefuses l (number_or_none (unless t NoFrame (unless (is_problem l) WrongShape None)))
      frame true e = counts (by_frame.yes e) (is_problem l) refl
      frame false e = no_frame (decides_no by_frame e)

  -- the refusal, where the tests have these answers
  refusal_by : {t u : Bool} → is_frame l ≡ t → is_problem l ≡ u → line_refusal l ≡ unless t NoFrame (unless u WrongShape None)
  unfolding line_refusal
  refusal_by {t} e f = ap (λ (b : Bool). unless b NoFrame (unless (is_problem l) WrongShape None)) e ∙ ap (λ (b : Bool). unless t NoFrame (unless b WrongShape None)) f

  number_is : {k : ℕ} → LineRefuses l k → line_number l ≡ k
  number_is (no_frame h) = ap number_or_none (refusal_by (decides_false by_frame h) refl)
  number_is (wrong_counts f h) = ap number_or_none (refusal_by (by_frame.is f) (decides_false by_counts h))
  number_is (none f c) = ap number_or_none (refusal_by (by_frame.is f) (by_counts.is c))

  pub line_refused_is : (k : ℕ) → Exactly (line_number l ≡ k) (LineRefuses l k)
  line_refused_is k = ((λ e. subst (LineRefuses l) e says), number_is)

  pub refused_answered : (k : ℕ) → LineRefuses l (suc k) → answer_of l ≡ refusal_frame (suc k) 0
  unfolding answer_of
  refused_answered k h = by_number (line_refusal l) k (number_is h)
    where
      by_number : (r : Option Refusal) (k : ℕ) → number_or_none r ≡ suc k → answer_by r (problem_lines l) ≡ refusal_frame (suc k) 0
      by_number None k e = absurd (omega arith)
      by_number (Some r) k e = ap (λ (k : ℕ). refusal_frame k 0) e
