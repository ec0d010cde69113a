-- However the input is cut into chunks, and whatever runs and places the calls are lent, the bytes that they write are the answers to
-- the input's lines.
--
--     any_cutting    a stream from an empty carry on writes the answers to the lines of its chunks, joined
--     same_input     two streams over the same joined input write the same
--     empty_input    "Empty input writes nothing."
--     calls_end      any chunk can be taken to its end, by calls that are lent any run with room
--     stream_ends    and so can any chunks, to the end of the input
--
-- Assumes nothing.
use mathlib.Core.Path.{◌≡◌, sym, ◌∙◌, ap, ap₂, subst}
use mathlib.Core.List.{List, [], ◌∷◌, ◌++◌, append_assoc}
use Prim.Native.Nat.{ℕ, zero, suc, ◌+◌, ◌-◌, ◌≤◌}
use native.Mathlib.Decide.{dec_lt}
use native.Mathlib.Omega.{arith}
use borrow.Author.Tests.{leb-true, le-leb}
use lib.ListN.{length, take, drop}
use lib.Seq.{drop-length}
use Rattle.frames.specs.Answer.{answer_max}
use Rattle.lines.specs.Lines.{last_line, lines_from, answers, cap, out_of, rest_of, last_of, fed_progress, fed_carry}
use Rattle.lines.specs.Promises.{joined, fed_text, finish_text, Calls, over, call, Stream, ended, more}
use Rattle.lines.specs.Code.{Lawful}
use Rattle.lines.proofs.Laws.Fits.{fitting_is}
use Rattle.lines.proofs.Laws.Machine.{rest_append, out_append, meant}
use Rattle.lines.proofs.Laws.Feed.{fed, finish-text}

-- what the calls on one chunk write and leave, told by the machine
record Taken (chunk : List ℕ) (at : ℕ) (carry : List ℕ) (held : ℕ) (text carry' : List ℕ) (held' : ℕ) : Type 0 where
  kept : Lawful carry' held'
  out : out_of (take held carry) (drop at chunk) ≡ text
  rest : rest_of (take held carry) (drop at chunk) ≡ take held' carry'

taken : {chunk carry text carry' : List ℕ} {at held held' : ℕ} → Lawful carry held → Calls chunk at carry held text carry' held' → Taken chunk at carry held text carry' held'
unfolding out_of rest_of
taken {chunk} h (over {carry} {held}) = record {
  kept = h;
  out = ap (out_of (take held carry)) (drop-length chunk);
  rest = ap (rest_of (take held carry)) (drop-length chunk);
}
taken {chunk} h (call {at} {held} {held'} {carry} {carry'} {text} out made f calls) =
    let step = fed chunk at carry held out made f in
    let later = taken step.kept calls in
    record {
      kept = later.kept;
      out = step.text ∙ ap (λ (t : List ℕ). fed_text chunk at carry held out made ++ t) later.out;
      rest = step.rest ∙ later.rest;
    }

written : {carry text : List ℕ} {held : ℕ} {chunks : List (List ℕ)} → Lawful carry held → Stream carry held chunks text →
    text ≡ out_of (take held carry) (joined chunks) ++ last_of (rest_of (take held carry) (joined chunks))
unfolding out_of rest_of joined
written h (ended {carry} {held} out made room) = finish-text carry held out made h (leb-true (made + answer_max) (length out) room)
written h (more {carry} {carry'} {text} {texts} {chunk} {held} {held'} {chunks} calls stream) =
    let now = taken h calls in
    let p = take held carry in
    let rest = joined chunks in
    ap₂ (λ (t u : List ℕ). t ++ u) (sym now.out) (written now.kept stream ∙ ap (λ (q : List ℕ). out_of q rest ++ last_of (rest_of q rest)) (sym now.rest))
    ∙ sym (append_assoc (out_of p chunk) (out_of (rest_of p chunk) rest) (last_of (rest_of (rest_of p chunk) rest)))
    ∙ ap₂ (λ (t q : List ℕ). t ++ last_of q) (sym (out_append p chunk rest)) (sym (rest_append p chunk rest))

pub any_cutting : {carry text : List ℕ} {chunks : List (List ℕ)} → length carry ≡ cap → Stream carry 0 chunks text → text ≡ answers (lines_from [] (joined chunks))
any_cutting {carry} {text} {chunks} long stream = written (record { long = long; few = omega arith }) stream ∙ meant (joined chunks)

pub same_input : {carry carry' text text' : List ℕ} {chunks chunks' : List (List ℕ)} → length carry ≡ cap → length carry' ≡ cap → joined chunks ≡ joined chunks' →
    Stream carry 0 chunks text → Stream carry' 0 chunks' text' → text ≡ text'
same_input long long' e stream stream' = any_cutting long stream ∙ ap (λ (s : List ℕ). answers (lines_from [] s)) e ∙ sym (any_cutting long' stream')

pub empty_input : {carry text : List ℕ} {chunks : List (List ℕ)} → length carry ≡ cap → joined chunks ≡ [] → Stream carry 0 chunks text → text ≡ []
unfolding answers lines_from last_line
empty_input long e stream = any_cutting long stream ∙ ap (λ (s : List ℕ). answers (lines_from [] s)) e

-- That there are such streams: a call moves on --------------------------------------------------------------------------

pub record ToEnd (chunk : List ℕ) (at : ℕ) (carry : List ℕ) (held : ℕ) : Type 0 where
  pub text : List ℕ
  pub carry' : List ℕ
  pub held' : ℕ
  pub calls : Calls chunk at carry held text carry' held'
  pub kept : Lawful carry' held'

module _ (out : List ℕ) (made : ℕ) (room : made + answer_max ≤ length out) where
  at_end : (chunk : List ℕ) (at : ℕ) (carry : List ℕ) (held : ℕ) → length chunk ≡ at → Lawful carry held → ToEnd chunk at carry held
  at_end chunk at carry held e h =
      subst (λ (i : ℕ). ToEnd chunk i carry held) e (record { text = []; carry' = carry; held' = held; calls = over; kept = h })

  go : (most : ℕ) (chunk : List ℕ) (at : ℕ) (carry : List ℕ) (held : ℕ) → length chunk - at ≤ most → at ≤ length chunk → Lawful carry held → ToEnd chunk at carry held
  go zero chunk at carry held g i h = at_end chunk at carry held (omega arith) h
  go (suc most) chunk at carry held g i h = elim (dec_lt at (length chunk)) [
    | no z ↦ at_end chunk at carry held (omega arith) h
    | yes z ↦
        let f = fitting_is chunk at carry held out made (record { kept = h; inside = i; room = room }) in
        let step = fed chunk at carry held out made f in
        let later = go most chunk (fed_progress chunk at carry held out made).used (fed_carry chunk at carry held out made) (fed_progress chunk at carry held out made).held (omega (arith, step.moves z)) step.inside step.kept in
        record { text = fed_text chunk at carry held out made ++ later.text; carry' = later.carry'; held' = later.held'; calls = call out made f later.calls; kept = later.kept }
  ]

  pub calls_end : (chunk carry : List ℕ) (held : ℕ) → Lawful carry held → ToEnd chunk 0 carry held
  calls_end chunk carry held h = go (length chunk) chunk 0 carry held (omega arith) (omega arith) h

  streams : (carry : List ℕ) (held : ℕ) (chunks : List (List ℕ)) → Lawful carry held → (text : List ℕ) × Stream carry held chunks text
  streams carry held [] h = (finish_text carry held out made, ended out made (le-leb (made + answer_max) (length out) room))
  streams carry held (chunk ∷ chunks) h =
      let now = calls_end chunk carry held h in
      let later = streams now.carry' now.held' chunks now.kept in
      (now.text ++ later.0, more now.calls later.1)

  pub stream_ends : (carry : List ℕ) (chunks : List (List ℕ)) → length carry ≡ cap → Stream carry 0 chunks (answers (lines_from [] (joined chunks)))
  stream_ends carry chunks long =
      let it = streams carry 0 chunks (record { long = long; few = omega arith }) in
      subst (λ (text : List ℕ). Stream carry 0 chunks text) (any_cutting long it.1) it.1
