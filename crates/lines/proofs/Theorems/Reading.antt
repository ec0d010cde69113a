-- What lines are meant: those that a text is made of.
--
--     lines_read      a text of lines with their line ends, and of a last line without one, has those lines; the last one counts if it
--                     has any character
--
-- Assumes nothing.
use mathlib.Core.Path.{◌≡◌, refl, sym, ◌∙◌, ap}
use mathlib.Core.Bool.{Bool, true, false, cond}
use mathlib.Core.List.{List, [], ◌∷◌, ◌++◌, append_assoc, append-nil}
use Prim.Native.Nat.{ℕ, zero, suc}
use native.Mathlib.Omega.{arith}
use lib.ListN.{length}
use lib.Seq.{append_snoc}
use Rattle.lines.specs.Lines.{is_end, last_line, lines_from, before}
use Rattle.lines.specs.Promises.{with_ends, Plain}

-- the first byte of a line is no line end, and the rest has none
first_by : (t : Bool) (k n : ℕ) → cond t zero (suc k) ≡ suc n → (t ≡ false) × (k ≡ n)
first_by true k n e = absurd (omega arith)
first_by false k n e = (refl, omega arith)

first : (b : ℕ) (l : List ℕ) → before (b ∷ l) ≡ suc (length l) → (is_end b ≡ false) × (before l ≡ length l)
unfolding before
first b l e = first_by (is_end b) (before l) (length l) e

push_on : (p s : List ℕ) (b : ℕ) → is_end b ≡ false → lines_from p (b ∷ s) ≡ lines_from (p ++ (b ∷ [])) s
unfolding lines_from
push_on p s b e = ap (λ (t : Bool). cond t (p ∷ lines_from [] s) (lines_from (p ++ (b ∷ [])) s)) e

line_read : (p l s : List ℕ) → before l ≡ length l → lines_from p (l ++ 10 ∷ s) ≡ (p ++ l) ∷ lines_from [] s
unfolding lines_from
line_read p [] s e = ap (λ (l : List ℕ). l ∷ lines_from [] s) (sym (append-nil p))
line_read p (b ∷ l) s e =
    let f = first b l e in
    push_on p (l ++ 10 ∷ s) b f.0 ∙ line_read (p ++ (b ∷ [])) l s f.1 ∙ ap (λ (q : List ℕ). q ∷ lines_from [] s) (append_snoc p b l)

last_read : (p l : List ℕ) → before l ≡ length l → lines_from p l ≡ last_line (p ++ l)
unfolding lines_from
last_read p [] e = ap last_line (sym (append-nil p))
last_read p (b ∷ l) e =
    let f = first b l e in
    push_on p l b f.0 ∙ last_read (p ++ (b ∷ [])) l f.1 ∙ ap last_line (append_snoc p b l)

pub lines_read : (lines : List (List ℕ)) (last : List ℕ) → Plain lines → before last ≡ length last → lines_from [] (with_ends lines ++ last) ≡ lines ++ last_line last
unfolding with_ends
lines_read [] last h e = last_read [] last e
lines_read (line ∷ lines) last h e =
    ap (lines_from []) (append_assoc line (10 ∷ with_ends lines) last)
    ∙ line_read [] line (with_ends lines ++ last) h.0
    ∙ ap (λ (ls : List (List ℕ)). line ∷ ls) (lines_read lines last h.1 e)
