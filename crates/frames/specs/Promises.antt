-- What the theorems of proofs/Theorems say of the definitions of this folder.
--
--     Frame l           l is no line that refusal 9 is given to; Counts l    nor, as a frame, refusal 1
--     LineRefuses l k   the case of the refusal k of a line before any search, 0 for none
--     IsLine k text     text is digits, an even number of them, and then one line end; its first byte is k. A line end is no digit,
--                       so that there is no other
--     IsAnswer text     "02 and then 05, or one of 03, 04, 06"
--     Certifies text    text is a refutation that the checker accepts, and its interpolant
--     Fits32 run        each number of a run fits 4 bytes
--     Reads             a line is read as a problem: its counts, its budget and its two sides
use Rattle.std.specs.Prelude.{◌≡◌, true, List, ◌++◌, ℕ, ◌+◌, ◌*◌, ◌%◌, ◌<◌, ◌≤◌, length, get_or, ℤ, None, Ok}
use Rattle.std.specs.Int.{w32}
use Rattle.std.proofs.Common.{SFits}
use Rattle.integers.specs.Run.{at}
use Rattle.checker.specs.Answer.{judge_answer, judge_run}
use Rattle.checker.specs.Promises.{Accepted}
use Rattle.frames.specs.Hex.{is_digit, value_at}
use Rattle.frames.specs.Problem.{are_digits, line_refusal, n_of, ma_of, mb_of, budget_of, side_long, side_a, side_b}
use Rattle.frames.specs.Answer.{line_end, refutation_frame, interpolant_frame, zeros}

pub record Frame (l : List ℕ) : Type 0 where
  pub short : length l ≤ 1360
  pub long : 16 ≤ length l
  pub even : length l % 2 ≡ 0
  pub digits : (i : ℕ) → i < length l → is_digit (get_or l i 0) ≡ true
  pub first : value_at l 0 2 ≡ 1

pub record Counts (l : List ℕ) : Type 0 where
  pub some_n : 1 ≤ n_of l
  pub few_n : n_of l ≤ 12
  pub some_m : 1 ≤ ma_of l + mb_of l
  pub few_m : ma_of l + mb_of l ≤ 12
  pub long : length l ≡ 16 + side_long (n_of l) (ma_of l + mb_of l) * 8

pub data LineRefuses (l : List ℕ) : ℕ → Type 0 where
  no_frame : (Frame l → ⊥) → LineRefuses l 9
  wrong_counts : Frame l → (Counts l → ⊥) → LineRefuses l 1
  none : Frame l → Counts l → LineRefuses l 0

pub record IsLine (kind : ℕ) (text : List ℕ) : Type 0 where
  pub body : List ℕ
  pub is : text ≡ body ++ line_end
  pub digits : are_digits body ≡ true
  pub even : length body % 2 ≡ 0
  pub first : value_at body 0 2 ≡ kind

pub data IsAnswer : List ℕ → Type 0 where
  refuted : {refutation interpolant : List ℕ} → IsLine 2 refutation → IsLine 5 interpolant → IsAnswer (refutation ++ interpolant)
  solved : {point : List ℕ} → IsLine 3 point → IsAnswer point
  unfinished : {steps : List ℕ} → IsLine 4 steps → IsAnswer steps
  refused : {refusal : List ℕ} → IsLine 6 refusal → IsAnswer refusal

-- of a problem whose search ends as refuted with denominator q
pub record Certifies (n ma mb : ℕ) (a b : List ℤ) (q : ℤ) (text : List ℕ) : Type 0 where
  pub steps : ℕ
  pub vector : List ℤ
  pub coeffs : List ℤ
  pub constant : ℤ
  pub modulus : ℤ
  pub accepted : Accepted n ma mb a b q vector
  pub stated : judge_answer n ma mb a b q vector (zeros n) ≡ Ok (record { constant = constant; modulus = modulus })
  pub written : judge_run n ma mb a b q vector (zeros n) ≡ coeffs
  pub is : text ≡ refutation_frame steps (ma + mb) q vector ++ interpolant_frame n coeffs constant modulus

pub record Fits32 (run : List ℤ) : Type 0 where
  pub each : (i : ℕ) → i < length run → SFits w32 (at run i)

pub record Reads (l : List ℕ) (n ma mb budget : ℕ) (a b : List ℤ) : Type 0 where
  pub taken : line_refusal l ≡ None
  pub is_n : n_of l ≡ n
  pub is_ma : ma_of l ≡ ma
  pub is_mb : mb_of l ≡ mb
  pub is_budget : budget_of l ≡ budget
  pub is_a : side_a l ≡ a
  pub is_b : side_b l ≡ b
