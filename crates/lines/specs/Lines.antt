-- A stream of bytes, its lines, and their answers; and what `feed` and `finish` do to it piece by piece.
--
-- What is meant
--     lines_from p s     the lines of an unfinished line p and the bytes s after it: "A last line without its line end counts if it
--                        has any character", and "Empty input" has none
--     answers lines      their answers, one after the other
--
-- A machine that takes byte by byte and keeps no more than `cap` of an unfinished line
--     cap                one more than the longest line that is answered by what it says
--     push p b           an unfinished line and one more byte: past the cap nothing is kept
--     out_of p s         what is answered on the way through the bytes s, after an unfinished line p
--     rest_of p s        the unfinished line that they leave
--     last_of p          what the end of the input answers
--
-- One call of `feed`
--     end_from s i       the place of the next line end from place i on, or the length of s if there is none
--     part s i j         the bytes from place i up to place j
--     kept_run, kept_held the carry, and how much of it is in use, with more bytes of an unfinished line, up to its cap
--     answered_run       the carry after a line is answered, when none of it is in use
--     is_carry           whether a carry is `cap` long, and no more of it in use      has_line    and any of a line is in it
--     bytes_from, is_whole, line_from     the bytes that a call takes, whether they end a line, and that line
--     fits               whether the call does anything: the carry is `cap` long and no more of it is in use, the place is in the
--                        chunk, and there is room for the longest answer
--     fed_progress       what it answers        fed_carry, fed_out    what it leaves: nothing is changed if it does not fit; without a
--                                               line end the bytes are kept; a whole line is answered
--
-- One call of `finish`
--     finish_end         the place that it answers     finish_run    what it leaves: the answer to the unfinished line, if it has any
--                                                      character
use Rattle.std.specs.Prelude.{Bool, cond, not, ◌&&◌, List, [], ◌∷◌, ◌++◌, ℕ, zero, suc, ◌+◌, ◌-◌, min, eqb, ltb, leb, length, take, drop}
use Rattle.std.proofs.Math.Seq.{paste}
use Rattle.frames.specs.Answer.{answer_of, has_room, respond_end, respond_run}
use Rattle.lines.specs.declared.Progress.{Progress}

-- What is meant --------------------------------------------------------------------------------------------------------

-- "A line ends with byte 10"
abbrev pub is_end : ℕ → Bool
is_end b = eqb b 10

-- "A last line without its line end counts if it has any character."
unfoldable pub last_line : List ℕ → List (List ℕ)
last_line [] = []
last_line (b ∷ p) = (b ∷ p) ∷ []

unfoldable pub lines_from : List ℕ → List ℕ → List (List ℕ)
lines_from p [] = last_line p
lines_from p (b ∷ s) = cond (is_end b) (p ∷ lines_from [] s) (lines_from (p ++ (b ∷ [])) s)

unfoldable pub answers : List (List ℕ) → List ℕ
answers [] = []
answers (line ∷ lines) = answer_of line ++ answers lines

-- The machine ----------------------------------------------------------------------------------------------------------

-- "more than 1,360 digits (skipped to its line end)"
unfoldable pub cap : ℕ
cap = 1361

unfoldable pub push : List ℕ → ℕ → List ℕ
push p b = take cap (p ++ (b ∷ []))

unfoldable pub out_of : List ℕ → List ℕ → List ℕ
out_of p [] = []
out_of p (b ∷ s) = cond (is_end b) (answer_of p ++ out_of [] s) (out_of (push p b) s)

unfoldable pub rest_of : List ℕ → List ℕ → List ℕ
rest_of p [] = p
rest_of p (b ∷ s) = cond (is_end b) (rest_of [] s) (rest_of (push p b) s)

unfoldable pub last_of : List ℕ → List ℕ
last_of [] = []
last_of (b ∷ p) = answer_of (b ∷ p)

-- One call of `feed` ---------------------------------------------------------------------------------------------------

-- how many bytes stand before the first line end; all of them if there is none
unfoldable pub before : List ℕ → ℕ
before [] = zero
before (b ∷ s) = cond (is_end b) zero (suc (before s))

unfoldable pub end_from : List ℕ → ℕ → ℕ
end_from s i = i + before (drop i s)

abbrev pub part : List ℕ → ℕ → ℕ → List ℕ
part s i j = take (j - i) (drop i s)

-- how many more bytes are kept
abbrev pub kept_count : ℕ → List ℕ → ℕ
kept_count held bytes = min (length bytes) (cap - held)

unfoldable pub kept_run : List ℕ → ℕ → List ℕ → List ℕ
kept_run carry held bytes = paste carry held bytes (kept_count held bytes)

unfoldable pub kept_held : ℕ → List ℕ → ℕ
kept_held held bytes = held + kept_count held bytes

-- what a line that is answered leaves: one that stands whole in the chunk is not kept
unfoldable pub answered_run : List ℕ → ℕ → List ℕ → List ℕ
answered_run carry held bytes = cond (eqb held 0) carry (kept_run carry held bytes)

unfoldable pub is_carry : List ℕ → ℕ → Bool
is_carry carry held = eqb (length carry) cap && leb held cap

unfoldable pub fits : List ℕ → ℕ → List ℕ → ℕ → List ℕ → ℕ → Bool
fits chunk at carry held out made = is_carry carry held && (leb at (length chunk) && has_room out made)

-- the bytes that the call takes, without a line end
abbrev pub bytes_from : List ℕ → ℕ → List ℕ
bytes_from chunk at = part chunk at (end_from chunk at)

-- whether they end a line
abbrev pub is_whole : List ℕ → ℕ → Bool
is_whole chunk at = ltb (end_from chunk at) (length chunk)

-- the line that they end
abbrev pub line_from : List ℕ → ℕ → List ℕ → ℕ → List ℕ
line_from chunk at carry held = take held carry ++ bytes_from chunk at

unfoldable pub fed_progress : List ℕ → ℕ → List ℕ → ℕ → List ℕ → ℕ → Progress
fed_progress chunk at carry held out made =
    cond (fits chunk at carry held out made)
    (cond (is_whole chunk at)
    (record { used = end_from chunk at + 1; made = respond_end (line_from chunk at carry held) out made; held = 0 })
    (record { used = end_from chunk at; made = made; held = kept_held held (bytes_from chunk at) }))
    (record { used = at; made = made; held = held })

unfoldable pub fed_carry : List ℕ → ℕ → List ℕ → ℕ → List ℕ → ℕ → List ℕ
fed_carry chunk at carry held out made =
    cond (fits chunk at carry held out made)
    (cond (is_whole chunk at) (answered_run carry held (bytes_from chunk at)) (kept_run carry held (bytes_from chunk at)))
    carry

unfoldable pub fed_out : List ℕ → ℕ → List ℕ → ℕ → List ℕ → ℕ → List ℕ
fed_out chunk at carry held out made =
    cond (fits chunk at carry held out made) (cond (is_whole chunk at) (respond_run (line_from chunk at carry held) out made) out) out

-- One call of `finish` -------------------------------------------------------------------------------------------------

-- whether the carry has any of a line
abbrev pub has_line : List ℕ → ℕ → Bool
has_line carry held = is_carry carry held && not (eqb held 0)

unfoldable pub finish_end : List ℕ → ℕ → List ℕ → ℕ → ℕ
finish_end carry held out made = cond (has_line carry held) (respond_end (take held carry) out made) made

unfoldable pub finish_run : List ℕ → ℕ → List ℕ → ℕ → List ℕ
finish_run carry held out made = cond (has_line carry held) (respond_run (take held carry) out made) out
