-- Lengths of frames, with their line ends, and which answer is given when.
--
--     Lengths    refutation_length  point_length  unfinished_length  interpolant_length  refusal-length
--     Answers    answer_refused     a line that is refused before any search: frame 06 with that number
--                answer_problem     any other: the answer to its problem
--                answer_searched    what the search answers and leaves gives the answer to the problem
--                answer_lines       the problem that a line is read as
--
-- Assumes nothing.
use mathlib.Core.Path.{◌≡◌, sym, ◌∙◌, ap, ap₂}
use mathlib.Core.List.{List}
use Prim.Native.Nat.{ℕ, ◌+◌, ◌*◌}
use native.Mathlib.Omega.{arith}
use lib.ListN.{length, length-append}
use lib.IntN.{ℤ}
use Rattle.std.specs.Prelude.{Option, Some, None, Result}
use Rattle.problem.specs.declared.Refusal.{Refusal}
use Rattle.problem.specs.Refusal.{number_of}
use Rattle.search.specs.Answer.{search_reply, search_vector, search_point}
use Rattle.search.specs.declared.Answer.{Answer}
use Rattle.frames.specs.declared.Head.{Head}
use Rattle.frames.specs.Problem.{line_refusal, side_long, numbers_at, head_of}
use Rattle.frames.specs.Answer.{refutation_frame, point_frame, unfinished_frame, interpolant_frame, refusal_frame, reply_answer, problem_answer, zeros, problem_lines, answer_by, answer_of}
use Rattle.frames.proofs.Laws.Hex.{hex-length, hexes-length}

-- Lengths --------------------------------------------------------------------------------------------------------------

pub refutation_length : (steps m : ℕ) (q : ℤ) (vector : List ℤ) → length (refutation_frame steps m q vector) ≡ 21 + length vector * 8
unfolding refutation_frame
refutation_length steps m q vector = simp (length-append, hex-length, hexes-length) (omega arith)

pub point_length : (steps n : ℕ) (point : List ℤ) → length (point_frame steps n point) ≡ 13 + length point * 8
unfolding point_frame
point_length steps n point = simp (length-append, hex-length, hexes-length) (omega arith)

pub unfinished_length : (steps : ℕ) → length (unfinished_frame steps) ≡ 11
unfolding unfinished_frame
unfinished_length steps = simp (length-append, hex-length)

pub interpolant_length : (n : ℕ) (coeffs : List ℤ) (constant modulus : ℤ) → length (interpolant_frame n coeffs constant modulus) ≡ 37 + length coeffs * 16
unfolding interpolant_frame
interpolant_length n coeffs constant modulus = simp (length-append, hex-length, hexes-length) (omega arith)

pub refusal-length : (number steps : ℕ) → length (refusal_frame number steps) ≡ 13
unfolding refusal_frame
refusal-length number steps = simp (length-append, hex-length)

-- Answers --------------------------------------------------------------------------------------------------------------

module _ (l : List ℕ) where
  pub answer_refused : (k : Refusal) → Some k ≡ line_refusal l → refusal_frame (number_of k) 0 ≡ answer_of l
  unfolding answer_of
  answer_refused k e = ap (λ (k : Option Refusal). answer_by k (problem_lines l)) e

  pub answer_problem : line_refusal l ≡ None → problem_lines l ≡ answer_of l
  unfolding answer_of
  answer_problem e = ap (λ (k : Option Refusal). answer_by k (problem_lines l)) (sym e)

module _ (n ma mb : ℕ) (a b : List ℤ) (t : ℕ) {vector point : List ℤ} (is-vector : vector ≡ zeros (ma + mb)) (is-point : point ≡ zeros n) where
  answered : (vector point coeffs : List ℤ) (r : Result Answer Refusal) (v p : List ℤ) → r ≡ search_reply n ma mb a b t vector point → v ≡ search_vector n ma mb a b t vector point →
      p ≡ search_point n ma mb a b t vector point → reply_answer r n ma mb a b v p coeffs ≡ problem_answer n ma mb a b t vector point coeffs
  unfolding problem_answer
  answered vector point coeffs r v p e f g =
      ap (λ (r : Result Answer Refusal). reply_answer r n ma mb a b v p coeffs) e
      ∙ ap₂ (λ (v p : List ℤ). reply_answer (search_reply n ma mb a b t vector point) n ma mb a b v p coeffs) f g

  -- what the search answers and leaves gives the answer
  pub answer_searched : (r : Result Answer Refusal) (v p : List ℤ) → r ≡ search_reply n ma mb a b t vector point → v ≡ search_vector n ma mb a b t vector point →
      p ≡ search_point n ma mb a b t vector point → reply_answer r n ma mb a b v p (zeros n) ≡ problem_answer n ma mb a b t (zeros (ma + mb)) (zeros n) (zeros n)
  answer_searched r v p e f g =
      answered vector point (zeros n) r v p e f g ∙ ap₂ (λ (v p : List ℤ). problem_answer n ma mb a b t v p (zeros n)) is-vector is-point

module _ (l : List ℕ) where
  -- the two sides have the lengths that the counts ask for
  pub answer_lines : (h : Head) (a b : List ℤ) → h ≡ head_of l → a ≡ numbers_at l 16 (side_long h.n h.ma) → b ≡ numbers_at l (16 + side_long h.n h.ma * 8) (side_long h.n h.mb) →
      problem_answer h.n h.ma h.mb a b h.budget (zeros (h.ma + h.mb)) (zeros h.n) (zeros h.n) ≡ problem_lines l
  unfolding problem_lines
  answer_lines h a b e f g =
      ap₂ (λ (a b : List ℤ). problem_answer h.n h.ma h.mb a b h.budget (zeros (h.ma + h.mb)) (zeros h.n) (zeros h.n)) f g
      ∙ ap (λ (h : Head). problem_answer h.n h.ma h.mb (numbers_at l 16 (side_long h.n h.ma)) (numbers_at l (16 + side_long h.n h.ma * 8) (side_long h.n h.mb)) h.budget (zeros (h.ma + h.mb)) (zeros h.n) (zeros h.n)) e
