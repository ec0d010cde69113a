-- The machine that takes byte by byte, and what is meant.
--
--     rest_append, out_append    bytes one after the other
--     stretch                    the bytes up to the next line end only lengthen the unfinished line
--     out_stretch, rest_stretch  the same, of the machine
--     out_line, rest_line        a line end
--     answer_of_cap              the cap does not change an answer
--     last_some                  the end of the input answers an unfinished line that has any character
--     meant                      the machine answers the lines that are meant
--
-- Assumes nothing.
use mathlib.Core.Path.{◌≡◌, refl, sym, ap, ◌∙◌}
use mathlib.Core.Bool.{Bool, true, false, cond}
use mathlib.Core.List.{List, [], ◌∷◌, ◌++◌, append_assoc, append-nil}
use Prim.Native.Nat.{ℕ, zero, suc, ◌<◌, ◌≤◌}
use native.Mathlib.Omega.{arith}
use lib.ListN.{length, take, drop, length-take}
use lib.Seq.{take-nil, take_all, append_snoc}
use Rattle.frames.specs.Answer.{answer_of}
use Rattle.frames.proofs.Laws.Cap.{answer_cap}
use Rattle.lines.specs.Lines.{is_end, last_line, lines_from, answers, cap, push, out_of, rest_of, last_of, before}

-- One after the other --------------------------------------------------------------------------------------------------

rest_by : (t : Bool) (q r q' r' b : List ℕ) → q' ≡ rest_of q b → r' ≡ rest_of r b → cond t q' r' ≡ rest_of (cond t q r) b
rest_by true q r q' r' b e f = e
rest_by false q r q' r' b e f = f

pub rest_append : (p a b : List ℕ) → rest_of p (a ++ b) ≡ rest_of (rest_of p a) b
unfolding rest_of
rest_append p [] b = refl
rest_append p (x ∷ a) b = rest_by (is_end x) (rest_of [] a) (rest_of (push p x) a) (rest_of [] (a ++ b)) (rest_of (push p x) (a ++ b)) b (rest_append [] a b) (rest_append (push p x) a b)

out_by : (t : Bool) (u q r q' r' q'' r'' b : List ℕ) → q'' ≡ q ++ out_of q' b → r'' ≡ r ++ out_of r' b → cond t (u ++ q'') r'' ≡ cond t (u ++ q) r ++ out_of (cond t q' r') b
out_by true u q r q' r' q'' r'' b e f = rw e (sym (append_assoc u q (out_of q' b)))
out_by false u q r q' r' q'' r'' b e f = f

pub out_append : (p a b : List ℕ) → out_of p (a ++ b) ≡ out_of p a ++ out_of (rest_of p a) b
unfolding rest_of out_of
out_append p [] b = refl
out_append p (x ∷ a) b =
    out_by (is_end x) (answer_of p) (out_of [] a) (out_of (push p x) a) (rest_of [] a) (rest_of (push p x) a) (out_of [] (a ++ b)) (out_of (push p x) (a ++ b)) b
    (out_append [] a b)
    (out_append (push p x) a b)

-- Up to the next line end ----------------------------------------------------------------------------------------------

take_again : (n : ℕ) (l s : List ℕ) → take n (take n l ++ s) ≡ take n (l ++ s)
take_again zero l s = refl
take_again (suc n) [] s = refl
take_again (suc n) (x ∷ l) s = ap (λ (r : List ℕ). x ∷ r) (take_again n l s)

push_again : (p s : List ℕ) (b : ℕ) → take cap (push p b ++ s) ≡ take cap (p ++ b ∷ s)
unfolding push
push_again p s b = take_again cap (p ++ (b ∷ [])) s ∙ ap (take cap) (append_snoc p b s)

push-length : (p : List ℕ) (b : ℕ) → length (push p b) ≤ cap
unfolding push
push-length p b = omega (arith, length-take cap (p ++ (b ∷ [])))

short : (p : List ℕ) → length p ≤ cap → p ≡ take cap (p ++ [])
short p h = sym (ap (take cap) (append-nil p) ∙ take_all cap p h)

-- a function of an unfinished line and bytes that only pushes a byte that is no line end
module _ (F : List ℕ → List ℕ → List ℕ) (other : (p s : List ℕ) (b : ℕ) → is_end b ≡ false → F p (b ∷ s) ≡ F (push p b) s) where
  stretch_by : (t : Bool) (p s : List ℕ) (b : ℕ) → is_end b ≡ t → length p ≤ cap → F (push p b) s ≡ F (take cap (push p b ++ take (before s) s)) (drop (before s) s) →
      F p (b ∷ s) ≡ F (take cap (p ++ take (cond t zero (suc (before s))) (b ∷ s))) (drop (cond t zero (suc (before s))) (b ∷ s))
  stretch_by true p s b e h f = ap (λ (q : List ℕ). F q (b ∷ s)) (short p h)
  stretch_by false p s b e h f = other p s b e ∙ f ∙ ap (λ (q : List ℕ). F q (drop (before s) s)) (push_again p (take (before s) s) b)

  stretch : (p s : List ℕ) → length p ≤ cap → F p s ≡ F (take cap (p ++ take (before s) s)) (drop (before s) s)
  unfolding before
  stretch p [] h = ap (λ (q : List ℕ). F q []) (short p h)
  stretch p (b ∷ s) h = stretch_by (is_end b) p s b refl h (stretch (push p b) s (push-length p b))

out_other : (p s : List ℕ) (b : ℕ) → is_end b ≡ false → out_of p (b ∷ s) ≡ out_of (push p b) s
unfolding out_of
out_other p s b e = ap (λ (t : Bool). cond t (answer_of p ++ out_of [] s) (out_of (push p b) s)) e

rest_other : (p s : List ℕ) (b : ℕ) → is_end b ≡ false → rest_of p (b ∷ s) ≡ rest_of (push p b) s
unfolding rest_of
rest_other p s b e = ap (λ (t : Bool). cond t (rest_of [] s) (rest_of (push p b) s)) e

module _ (p s : List ℕ) (few : length p ≤ cap) where
  pub out_stretch : out_of p s ≡ out_of (take cap (p ++ take (before s) s)) (drop (before s) s)
  out_stretch = stretch out_of out_other p s few

  pub rest_stretch : rest_of p s ≡ rest_of (take cap (p ++ take (before s) s)) (drop (before s) s)
  rest_stretch = stretch rest_of rest_other p s few

pub answer_of_cap : (p : List ℕ) → answer_of (take cap p) ≡ answer_of p
unfolding cap
answer_of_cap p = answer_cap p

pub out_line : (p s : List ℕ) → out_of (take cap p) (10 ∷ s) ≡ answer_of p ++ out_of [] s
unfolding out_of
out_line p s = ap (λ (l : List ℕ). l ++ out_of [] s) (answer_of_cap p)

pub rest_line : (p s : List ℕ) → rest_of p (10 ∷ s) ≡ rest_of [] s
unfolding rest_of
rest_line p s = refl

-- What is meant --------------------------------------------------------------------------------------------------------

pub last_some : (p : List ℕ) → 0 < length p → answer_of p ≡ last_of p
unfolding last_of
last_some [] h = absurd (omega arith)
last_some (b ∷ p) h = refl

cap_some : 0 < cap
unfolding cap
cap_some = omega arith

last_cap : (p : List ℕ) → last_of (take cap p) ≡ answers (last_line p)
unfolding last_line answers last_of
last_cap [] = rw (take-nil {A = ℕ} cap)
last_cap (b ∷ p) =
    sym (last_some (take cap (b ∷ p)) (omega (arith, length-take cap (b ∷ p), cap_some)))
    ∙ answer_of_cap (b ∷ p)
    ∙ sym (append-nil (answer_of (b ∷ p)))

meant_by : (t : Bool) (p s : List ℕ) (b : ℕ) → out_of [] s ++ last_of (rest_of [] s) ≡ answers (lines_from [] s) →
    out_of (push (take cap p) b) s ++ last_of (rest_of (push (take cap p) b) s) ≡ answers (lines_from (p ++ (b ∷ [])) s) →
    cond t (answer_of (take cap p) ++ out_of [] s) (out_of (push (take cap p) b) s) ++ last_of (cond t (rest_of [] s) (rest_of (push (take cap p) b) s))
    ≡ answers (cond t (p ∷ lines_from [] s) (lines_from (p ++ (b ∷ [])) s))
unfolding answers
meant_by true p s b e f =
    append_assoc (answer_of (take cap p)) (out_of [] s) (last_of (rest_of [] s))
    ∙ ap (λ (l : List ℕ). l ++ (out_of [] s ++ last_of (rest_of [] s))) (answer_of_cap p)
    ∙ ap (λ (l : List ℕ). answer_of p ++ l) e
meant_by false p s b e f = f

-- after an unfinished line of any length
meant_after : (p s : List ℕ) → out_of (take cap p) s ++ last_of (rest_of (take cap p) s) ≡ answers (lines_from p s)
unfolding out_of rest_of lines_from push
meant_after p [] = last_cap p
meant_after p (b ∷ s) =
    meant_by (is_end b) p s b
    (rw (take-nil {A = ℕ} cap) at (meant_after [] s))
    (rw (take_again cap p (b ∷ [])) (meant_after (p ++ (b ∷ [])) s))

pub meant : (s : List ℕ) → out_of [] s ++ last_of (rest_of [] s) ≡ answers (lines_from [] s)
meant s = rw (take-nil {A = ℕ} cap) at (meant_after [] s)
