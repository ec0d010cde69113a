-- Frame 01: "problem: n, mA, mB (1 byte each), budget (4, unsigned), rows of A, rows of B, 4 bytes a number". A byte is two
-- characters, so that n stands at place 2, mA at 4, mB at 6, the budget at 8, and the rows from 16 on.
--
--     is_frame l        not refused with 9: "an empty line, an odd digit count, another character, fewer than 8 bytes, first byte not
--                       01, or more than 1,360 digits"
--     is_problem l      not refused with 1: the counts are right, and the length agrees with them
--     line_refusal l    9, 1, or none if the line is a problem; 3 is left to the search
--     line_number l     its number, 0 for none
--     head_of l         what a frame says before its rows
--     n_of, ma_of, mb_of, budget_of     the fields of a frame           side_long    the numbers of a side
--     are_digits, numbers_at     all characters are digits; some numbers from a place on
--     side_a, side_b    the numbers of the two sides
--     problem_frame     the frame of a problem, without line end; that it is read back as that problem: proofs/Theorems/Problem.antt
use Rattle.std.specs.Prelude.{List, ◌++◌, Bool, ◌&&◌, ℕ, ◌+◌, ◌*◌, ◌%◌, eqb, leb, length, get_or, ℤ, Option, None}
use Rattle.integers.specs.Below.{all_below}
use Rattle.integers.specs.Run.{tabulate}
use Rattle.problem.specs.declared.Refusal.{Refusal}
use Rattle.problem.specs.declared.Refusal.TheVariants.{WrongShape, NoFrame}
use Rattle.problem.specs.Refusal.{unless, number_or_none}
use Rattle.frames.specs.declared.Head.{Head}
use Rattle.frames.specs.Hex.{is_digit, value_at, number_at, hex, hexes}

abbrev pub are_digits : List ℕ → Bool
are_digits l = all_below (length l) (λ i. is_digit (get_or l i 0))

unfoldable pub is_frame : List ℕ → Bool
is_frame l = leb (length l) 1360 && (leb 16 (length l) && (eqb (length l % 2) 0 && (are_digits l && eqb (value_at l 0 2) 1)))

abbrev pub n_of : List ℕ → ℕ
n_of l = value_at l 2 2

abbrev pub ma_of : List ℕ → ℕ
ma_of l = value_at l 4 2

abbrev pub mb_of : List ℕ → ℕ
mb_of l = value_at l 6 2

abbrev pub budget_of : List ℕ → ℕ
budget_of l = value_at l 8 8

-- the numbers of a side of m rows over n variables
abbrev pub side_long : ℕ → ℕ → ℕ
side_long n m = m * (n + 2)

-- the counts of n variables and m rows are right, and a frame of them is `long` characters long
abbrev pub agree : ℕ → ℕ → ℕ → Bool
agree n m long = leb 1 n && (leb n 12 && (leb 1 m && (leb m 12 && eqb long (16 + side_long n m * 8))))

unfoldable pub is_problem : List ℕ → Bool
is_problem l = agree (n_of l) (ma_of l + mb_of l) (length l)

unfoldable pub line_refusal : List ℕ → Option Refusal
line_refusal l = unless (is_frame l) NoFrame (unless (is_problem l) WrongShape None)

abbrev pub line_number : List ℕ → ℕ
line_number l = number_or_none (line_refusal l)

abbrev pub head_of : List ℕ → Head
head_of l = record { n = n_of l; ma = ma_of l; mb = mb_of l; budget = budget_of l }

-- `count` numbers from place i on
abbrev pub numbers_at : List ℕ → ℕ → ℕ → List ℤ
numbers_at l i count = tabulate count (λ k. number_at l (i + k * 8))

abbrev pub side_a : List ℕ → List ℤ
side_a l = numbers_at l 16 (side_long (n_of l) (ma_of l))

abbrev pub side_b : List ℕ → List ℤ
side_b l = numbers_at l (16 + side_long (n_of l) (ma_of l) * 8) (side_long (n_of l) (mb_of l))

unfoldable pub problem_frame : ℕ → ℕ → ℕ → ℕ → List ℤ → List ℤ → List ℕ
problem_frame n ma mb budget a b = hex 2 1 ++ (hex 2 n ++ (hex 2 ma ++ (hex 2 mb ++ (hex 8 budget ++ (hexes 8 a ++ hexes 8 b)))))
