-- What the refusals before any search say.
--
--     small           a side of at most 12 rows over at most 12 variables has at most 168 numbers
--     fold_digits     a fold over a line
--     frame_tests, problem_tests     what the tests of a frame, and of its counts, decide
--     frame_long      a frame has at least 16 characters          frame_digits    all of them digits
--     Lawful l        all are digits, the counts are small, and the length of l is what they say
--     lawful          a line that is not refused is Lawful         taken    a frame with right counts is not refused
--     readable        and its head says what it has
--
-- Assumes nothing.
use mathlib.Core.Path.{◌≡◌, refl, sym, ◌∙◌}
use mathlib.Core.Bool.{Bool, true, false, ◌&&◌}
use mathlib.Core.List.{List, [], ◌∷◌}
use Prim.Native.Nat.{ℕ, ◌+◌, ◌*◌, ◌%◌, ◌≤◌}
use native.Mathlib.Nat.{mul-le-mul, add-mul}
use native.Mathlib.Omega.{arith}
use lib.ListN.{length}
use Rattle.std.proofs.Math.Bool.{and_assoc, and-true}
use Rattle.std.specs.List.{fold, list_all}
use Rattle.integers.proofs.Laws.Below.{all_list}
use Rattle.integers.proofs.Laws.Decide.{Decides, by_le, by_eq, by_and}
use Rattle.std.specs.Prelude.{None}
use Rattle.problem.specs.declared.Refusal.TheVariants.{WrongShape, NoFrame}
use Rattle.problem.specs.Refusal.{unless}
use Rattle.frames.specs.Hex.{is_digit, value_at}
use Rattle.frames.specs.Problem.{are_digits, is_frame, is_problem, line_refusal, n_of, ma_of, mb_of, side_long, head_of}
use Rattle.frames.specs.Code.{Readable}

pub small : (m n : ℕ) → m ≤ 12 → n ≤ 12 → side_long n m ≤ 168
small m n h k = let l : n + 2 ≤ 14 = omega arith in mul-le-mul h l

folded : (good : Bool) (l : List ℕ) → fold (λ good c. good && is_digit c) good l ≡ good && list_all is_digit l
folded good [] = sym (and-true good)
folded good (c ∷ l) = folded (good && is_digit c) l ∙ and_assoc good (is_digit c) (list_all is_digit l)

pub fold_digits : (l : List ℕ) → fold (λ good c. good && is_digit c) true l ≡ are_digits l
fold_digits l = folded true l ∙ all_list is_digit l 0

pub record Lawful (l : List ℕ) : Type 0 where
  pub digits : are_digits l ≡ true
  pub few_n : n_of l ≤ 12
  pub few_m : ma_of l + mb_of l ≤ 12
  pub long : length l ≡ 16 + side_long (n_of l) (ma_of l + mb_of l) * 8

-- a test by itself
itself : (t : Bool) → Decides t (t ≡ true)
itself t = record { yes = λ e. e; is = λ e. e }

-- the tests of a frame, and of a problem
pub frame_tests : (l : List ℕ) → Decides (is_frame l) ((length l ≤ 1360) × ((16 ≤ length l) × ((length l % 2 ≡ 0) × ((are_digits l ≡ true) × (value_at l 0 2 ≡ 1)))))
unfolding is_frame
frame_tests l = by_and (by_le (length l) 1360) (by_and (by_le 16 (length l)) (by_and (by_eq (length l % 2) 0) (by_and (itself (are_digits l)) (by_eq (value_at l 0 2) 1))))

pub frame_long : (l : List ℕ) → is_frame l ≡ true → 16 ≤ length l
frame_long l e = ((frame_tests l).yes e).1.0

pub frame_digits : (l : List ℕ) → is_frame l ≡ true → are_digits l ≡ true
frame_digits l e = ((frame_tests l).yes e).1.1.1.0

pub problem_tests : (l : List ℕ) →
    Decides (is_problem l) ((1 ≤ n_of l) × ((n_of l ≤ 12) × ((1 ≤ ma_of l + mb_of l) × ((ma_of l + mb_of l ≤ 12) × (length l ≡ 16 + side_long (n_of l) (ma_of l + mb_of l) * 8)))))
unfolding is_problem
problem_tests l =
    let n = n_of l in
    let m = ma_of l + mb_of l in
    by_and (by_le 1 n) (by_and (by_le n 12) (by_and (by_le 1 m) (by_and (by_le m 12) (by_eq (length l) (16 + side_long n m * 8)))))

problem_lawful : (l : List ℕ) → is_frame l ≡ true → is_problem l ≡ true → Lawful l
problem_lawful l f e =
    let all = (problem_tests l).yes e in
    record { digits = frame_digits l f; few_n = all.1.0; few_m = all.1.1.1.0; long = all.1.1.1.1 }

pub taken : (l : List ℕ) → is_frame l ≡ true → is_problem l ≡ true → line_refusal l ≡ None
unfolding line_refusal
taken l e f = simp (e, f)

none : (s t : Bool) → unless s NoFrame (unless t WrongShape None) ≡ None → (s ≡ true) × (t ≡ true)
none true true e = (refl, refl)
none true false e = cc
none false t e = cc

pub lawful : (l : List ℕ) → line_refusal l ≡ None → Lawful l
unfolding line_refusal
lawful l e = let both = none (is_frame l) (is_problem l) e in problem_lawful l both.0 both.1

pub readable : (l : List ℕ) → line_refusal l ≡ None → Readable l (head_of l)
readable l e =
    let law = lawful l e in
    record {
      few_n = law.few_n;
      few_m = law.few_m;
      small_a = small (ma_of l) (n_of l) (omega (arith, law.few_m)) law.few_n;
      small_b = small (mb_of l) (n_of l) (omega (arith, law.few_m)) law.few_n;
      digits = law.digits;
      long = let both = add-mul (ma_of l) (mb_of l) (n_of l + 2) in omega (arith, law.long);
    }
