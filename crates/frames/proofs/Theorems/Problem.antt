-- A problem that is written as a frame is read back as that problem.
--
--     problem_reads      of any problem of the right shape, whose numbers fit 4 bytes
--     problem_answered   so that the answer to its frame is the answer to the problem
--
-- Assumes nothing.
use mathlib.Core.Path.{◌≡◌, refl, sym, ◌∙◌, ap, ap₂}
use mathlib.Core.Bool.{true}
use mathlib.Core.List.{List, [], ◌∷◌, ◌++◌, append_assoc, append-nil}
use Prim.Native.Nat.{ℕ, zero, suc, ◌+◌, ◌*◌, ◌<◌, ◌^◌}
use native.Mathlib.Nat.{add-mul}
use native.Mathlib.Omega.{arith}
use lib.ListN.{length, length-append}
use lib.IntN.{ℤ}
use mir.Syntax.{w32, w64}
use mir.Val.{to_z, of_z}
use Rattle.integers.specs.Run.{at}
use Rattle.integers.proofs.Laws.Run.{tabulate_is}
use Rattle.problem.specs.WellFormed.{Shape}
use Rattle.frames.specs.Hex.{value_at, number_at, hex, signed_hex, hexes}
use Rattle.frames.specs.Problem.{are_digits, is_frame, is_problem, n_of, ma_of, mb_of, budget_of, side_long, numbers_at, problem_frame}
use Rattle.frames.specs.Answer.{problem_answer, zeros, problem_lines, answer_of}
use Rattle.frames.specs.Promises.{Fits32, Reads}
use Rattle.frames.proofs.Laws.Hex.{hex-length, hexes-length}
use Rattle.frames.proofs.Laws.Digits.{digits_append, hex_digits, hexes_digits, value_round, value_skip}
use Rattle.frames.proofs.Laws.Problem.{small, frame_tests, problem_tests, taken}
use Rattle.frames.proofs.Laws.Frames.{answer_problem}
use Rattle.frames.proofs.Theorems.Round.{number_round}

-- past the k digits of a number
skip : (k v : ℕ) (rest : List ℕ) (i j : ℕ) → value_at (hex k v ++ rest) (k + i) j ≡ value_at rest i j
skip k v rest i j = ap (λ (m : ℕ). value_at (hex k v ++ rest) (m + i) j) (sym (hex-length k v)) ∙ value_skip (hex k v) rest i j

-- number i of a run
run_round : (run : List ℤ) (after : List ℕ) (i : ℕ) → i < length run → Fits32 run → number_at (hexes 8 run ++ after) (i * 8) ≡ at run i
unfolding hexes
run_round [] after i h f = absurd (omega arith)
run_round (x ∷ run) after zero h f =
    let rest = hexes 8 run ++ after in
    ap (λ (t : List ℕ). number_at t 0) (append_assoc (signed_hex 8 x) (hexes 8 run) after) ∙ number_round [] rest x (f.each 0 h)
run_round (x ∷ run) after (suc i) h f =
    let rest = hexes 8 run ++ after in
    let place : suc i * 8 ≡ 8 + i * 8 = omega arith in
    ap₂ (λ (t : List ℕ) (p : ℕ). number_at t p) (append_assoc (signed_hex 8 x) (hexes 8 run) after) place
    ∙ ap (to_z w32) (skip 8 (of_z w64 x) rest (i * 8) 8)
    ∙ run_round run after i (omega arith) (record { each = λ j g. f.each (suc j) (omega arith) })

module _ (n ma mb budget : ℕ) (a b : List ℤ) where
  -- the frame, and what is left of it after each of its parts
  abbrev sides : List ℕ
  sides = hexes 8 a ++ hexes 8 b

  abbrev after_mb : List ℕ
  after_mb = hex 8 budget ++ sides

  abbrev after_ma : List ℕ
  after_ma = hex 2 mb ++ after_mb

  abbrev after_n : List ℕ
  after_n = hex 2 ma ++ after_ma

  abbrev after_kind : List ℕ
  after_kind = hex 2 n ++ after_n

  abbrev l : List ℕ
  l = hex 2 1 ++ after_kind

  past : (i j : ℕ) → value_at l (16 + i) j ≡ value_at sides i j
  past i j =
      let place : 16 + i ≡ 2 + (2 + (2 + (2 + (8 + i)))) = omega arith in
      ap (λ (p : ℕ). value_at l p j) place ∙ skip 2 1 after_kind (2 + (2 + (2 + (8 + i)))) j ∙ skip 2 n after_n (2 + (2 + (8 + i))) j
      ∙ skip 2 ma after_ma (2 + (8 + i)) j ∙ skip 2 mb after_mb (8 + i) j ∙ skip 8 budget sides i j

  long : length l ≡ 16 + (length a * 8 + length b * 8)
  long = simp (length-append, hex-length, hexes-length) (omega arith)

  digits : are_digits l ≡ true
  digits =
      digits_append (hex 2 1) after_kind (hex_digits 2 1)
      (digits_append (hex 2 n) after_n (hex_digits 2 n)
      (digits_append (hex 2 ma) after_ma (hex_digits 2 ma)
      (digits_append (hex 2 mb) after_mb (hex_digits 2 mb)
      (digits_append (hex 8 budget) sides (hex_digits 8 budget) (digits_append (hexes 8 a) (hexes 8 b) (hexes_digits 8 a) (hexes_digits 8 b))))))

  read_n : n < 256 → n_of l ≡ n
  read_n h = skip 2 1 after_kind 0 2 ∙ value_round [] 2 n after_n h

  read_ma : ma < 256 → ma_of l ≡ ma
  read_ma h = skip 2 1 after_kind 2 2 ∙ skip 2 n after_n 0 2 ∙ value_round [] 2 ma after_ma h

  read_mb : mb < 256 → mb_of l ≡ mb
  read_mb h = skip 2 1 after_kind 4 2 ∙ skip 2 n after_n 2 2 ∙ skip 2 ma after_ma 0 2 ∙ value_round [] 2 mb after_mb h

  read_budget : budget < 2 ^ 32 → budget_of l ≡ budget
  read_budget h = skip 2 1 after_kind 6 8 ∙ skip 2 n after_n 4 8 ∙ skip 2 ma after_ma 2 8 ∙ skip 2 mb after_mb 0 8 ∙ value_round [] 8 budget sides h

  read_a : Fits32 a → numbers_at l 16 (length a) ≡ a
  read_a f = sym (tabulate_is (length a) (λ k. number_at l (16 + k * 8)) a refl (λ i h. sym (ap (to_z w32) (past (i * 8) 8) ∙ run_round a (hexes 8 b) i h f)))

  read_b : Fits32 b → numbers_at l (16 + length a * 8) (length b) ≡ b
  read_b f = sym (tabulate_is (length b) (λ k. number_at l (16 + length a * 8 + k * 8)) b refl (λ i h. sym (number i h)))
    where
      number : (i : ℕ) → i < length b → number_at l (16 + length a * 8 + i * 8) ≡ at b i
      number i h =
          let places : 16 + length a * 8 + i * 8 ≡ 16 + (length (hexes 8 a) + i * 8) = let e = hexes-length 8 a in omega arith in
          ap (number_at l) places ∙ ap (to_z w32) (past (length (hexes 8 a) + i * 8) 8 ∙ value_skip (hexes 8 a) (hexes 8 b) (i * 8) 8)
          ∙ ap (λ (t : List ℕ). number_at t (i * 8)) (sym (append-nil (hexes 8 b))) ∙ run_round b [] i h f

  module _ (shape : Shape n ma mb a b) (few : budget < 2 ^ 32) (fits-a : Fits32 a) (fits-b : Fits32 b) where
    is_n : n_of l ≡ n
    is_n = read_n (omega (arith, shape.few_n))

    is_ma : ma_of l ≡ ma
    is_ma = read_ma (omega (arith, shape.few_m))

    is_mb : mb_of l ≡ mb
    is_mb = read_mb (omega (arith, shape.few_m))

    is_long : length l ≡ 16 + side_long n (ma + mb) * 8
    is_long = let both = add-mul ma mb (n + 2) in omega (arith, long, shape.long-a, shape.long-b)

    is-frame : is_frame l ≡ true
    is-frame =
        let most = small (ma + mb) n shape.few_m shape.few_n in
        (frame_tests l).is (omega (arith, is_long), (omega (arith, is_long), (omega (arith, is_long), (digits, value_round [] 2 1 after_kind (omega arith)))))

    is-problem : is_problem l ≡ true
    is-problem =
        (problem_tests l).is (
          omega (arith, is_n, shape.some_n),
          (
            omega (arith, is_n, shape.few_n),
            (
              omega (arith, is_ma, is_mb, shape.some_m),
              (
                omega (arith, is_ma, is_mb, shape.few_m),
                is_long ∙ ap₂ (λ (n m : ℕ). 16 + side_long n m * 8) (sym is_n) (ap₂ (λ (x y : ℕ). x + y) (sym is_ma) (sym is_mb)),
              ),
            ),
          ),
        )

    pub problem_reads : Reads (problem_frame n ma mb budget a b) n ma mb budget a b
    unfolding problem_frame
    problem_reads =
        let long-a : side_long (n_of l) (ma_of l) ≡ length a = ap₂ side_long is_n is_ma ∙ sym shape.long-a in
        let long-b : side_long (n_of l) (mb_of l) ≡ length b = ap₂ side_long is_n is_mb ∙ sym shape.long-b in
        record {
          taken = taken l is-frame is-problem;
          is_n = is_n;
          is_ma = is_ma;
          is_mb = is_mb;
          is_budget = read_budget few;
          is_a = ap (numbers_at l 16) long-a ∙ read_a fits-a;
          is_b = ap₂ (λ (i k : ℕ). numbers_at l (16 + i * 8) k) long-a long-b ∙ read_b fits-b;
        }

answered : (l : List ℕ) (n ma mb budget : ℕ) (a b : List ℤ) → Reads l n ma mb budget a b → answer_of l ≡ problem_answer n ma mb a b budget (zeros (ma + mb)) (zeros n) (zeros n)
unfolding problem_lines
answered l n ma mb budget a b r =
    sym (answer_problem l r.taken)
    ∙ ap₂ (λ (a b : List ℤ). problem_answer (n_of l) (ma_of l) (mb_of l) a b (budget_of l) (zeros (ma_of l + mb_of l)) (zeros (n_of l)) (zeros (n_of l))) r.is_a r.is_b
    ∙ ap₂ (λ (n ma : ℕ). problem_answer n ma (mb_of l) a b (budget_of l) (zeros (ma + mb_of l)) (zeros n) (zeros n)) r.is_n r.is_ma
    ∙ ap₂ (λ (mb budget : ℕ). problem_answer n ma mb a b budget (zeros (ma + mb)) (zeros n) (zeros n)) r.is_mb r.is_budget

pub problem_answered : (n ma mb budget : ℕ) (a b : List ℤ) → Shape n ma mb a b → budget < 2 ^ 32 → Fits32 a → Fits32 b →
    answer_of (problem_frame n ma mb budget a b) ≡ problem_answer n ma mb a b budget (zeros (ma + mb)) (zeros n) (zeros n)
problem_answered n ma mb budget a b shape few fits-a fits-b =
    answered (problem_frame n ma mb budget a b) n ma mb budget a b (problem_reads n ma mb budget a b shape few fits-a fits-b)
