-- What the theorems of proofs/Theorems speak of: texts made of lines; and calls of `feed` and `finish`, one after the other, with the
-- bytes that they write.
--
--     with_ends lines                    lines, each with its line end
--     Plain lines                        no line has a line end in it
--     joined chunks                      the bytes of all chunks
--     Calls chunk at carry held text carry' held'
--                                        calls that take a chunk from place `at` on to its end write `text`, and leave an unfinished
--                                        line in the carry; each may be lent another run, at any place with room
--     Stream carry held chunks text      calls that take chunk after chunk, and then the end of the input, write `text`
use Rattle.std.specs.Prelude.{◌≡◌, true, List, [], ◌∷◌, ◌++◌, ℕ, length}
use Rattle.frames.specs.Answer.{line_end, has_room}
use Rattle.lines.specs.Lines.{before, part, fits, fed_progress, fed_carry, fed_out, finish_end, finish_run}

unfoldable pub with_ends : List (List ℕ) → List ℕ
with_ends [] = []
with_ends (line ∷ lines) = line ++ (line_end ++ with_ends lines)

abbrev pub Plain : List (List ℕ) → Type 0
Plain [] = Unit {0}
Plain (line ∷ lines) = (before line ≡ length line) × Plain lines

unfoldable pub joined : List (List ℕ) → List ℕ
joined [] = []
joined (chunk ∷ chunks) = chunk ++ joined chunks

-- the bytes that a call of `feed` writes
abbrev pub fed_text : List ℕ → ℕ → List ℕ → ℕ → List ℕ → ℕ → List ℕ
fed_text chunk at carry held out made = part (fed_out chunk at carry held out made) made (fed_progress chunk at carry held out made).made

-- the bytes that a call of `finish` writes
abbrev pub finish_text : List ℕ → ℕ → List ℕ → ℕ → List ℕ
finish_text carry held out made = part (finish_run carry held out made) made (finish_end carry held out made)

pub data Calls (chunk : List ℕ) : ℕ → List ℕ → ℕ → List ℕ → List ℕ → ℕ → Type 0 where
  over : {carry : List ℕ} {held : ℕ} → Calls chunk (length chunk) carry held [] carry held
  call : {at held held' : ℕ} {carry carry' text : List ℕ} (out : List ℕ) (made : ℕ) → fits chunk at carry held out made ≡ true →
      Calls chunk (fed_progress chunk at carry held out made).used (fed_carry chunk at carry held out made) (fed_progress chunk at carry held out made).held text carry' held' →
      Calls chunk at carry held (fed_text chunk at carry held out made ++ text) carry' held'

pub data Stream : List ℕ → ℕ → List (List ℕ) → List ℕ → Type 0 where
  ended : {carry : List ℕ} {held : ℕ} (out : List ℕ) (made : ℕ) → has_room out made ≡ true → Stream carry held [] (finish_text carry held out made)
  more : {carry carry' text texts chunk : List ℕ} {held held' : ℕ} {chunks : List (List ℕ)} → Calls chunk 0 carry held text carry' held' → Stream carry' held' chunks texts →
      Stream carry held (chunk ∷ chunks) (text ++ texts)
