-- What one call of `feed` or `finish` answers and leaves, and what it makes of the stream.
--
--     Leaves         what the contract of `feed` says
--     fed_unfit      a call that does not fit       fed_kept    no line end       fed_line    a whole line
--     respond_cap    `respond` answers a line as what is kept of it
--     respond_text   the bytes that `respond` writes are the answer
--     Fed            what is left to answer of the chunk was the call's text and what is left after it
--     fed            a call that fits is Fed
--     fed_call       the same, of what meets the contract
--     finish_within  `finish` ends within its run
--     finish-text    the bytes that `finish` writes are what the end of the input answers
--
-- Assumes nothing.
use mathlib.Core.Path.{◌≡◌, sym, ◌∙◌, ap, ap₂, subst}
use mathlib.Core.Bool.{Bool, true, false, cond}
use mathlib.Core.List.{List, [], ◌∷◌, ◌++◌}
use Prim.Native.Nat.{ℕ, suc, ◌+◌, ◌-◌, ◌<◌, ◌≤◌}
use native.Mathlib.Decide.{dec_lt, ℕ_discrete}
use native.Mathlib.Omega.{arith}
use borrow.Author.Tests.{lt-ltb, le-ltb, eq-eqb, ne_eqb}
use lib.ListN.{length, take, drop, length-take, length-drop}
use lib.Seq.{sets, length-take-le, drop-drop, drop_at}
use Rattle.frames.specs.Answer.{answer_max, has_room, answer_of, respond_end, respond_run}
use Rattle.frames.proofs.Laws.Respond.{respond_answered, respond_kept}
use Rattle.lines.specs.Lines.{cap, out_of, rest_of, last_of, before, end_from, part, kept_run, kept_held, answered_run, fits, bytes_from, line_from, fed_progress, fed_carry, fed_out, has_line, finish_end, finish_run}
use Rattle.lines.specs.Promises.{finish_text}
use Rattle.lines.specs.declared.Progress.{Progress}
use Rattle.lines.proofs.Laws.Ends.{end_after, end_within, before_found}
use Rattle.lines.proofs.Laws.Kept.{part_slice, kept_text, kept-held, kept_length, answered_length}
use Rattle.lines.specs.Code.{Lawful}
use Rattle.lines.proofs.Laws.Fits.{lawful_is, Fitting, fitting}
use Rattle.lines.proofs.Laws.Machine.{out_stretch, rest_stretch, answer_of_cap, out_line, rest_line, last_some}

-- The contract ---------------------------------------------------------------------------------------------------------

abbrev progress : ℕ → ℕ → ℕ → Progress
progress used made held = record { used = used; made = made; held = held }

module _ (chunk : List ℕ) (at : ℕ) (carry : List ℕ) (held : ℕ) (out : List ℕ) (made : ℕ) where
  abbrev pub Leaves : Progress → List ℕ → List ℕ → Type 0
  Leaves r carry' out' = (r ≡ fed_progress chunk at carry held out made) × ((carry' ≡ fed_carry chunk at carry held out made) × (out' ≡ fed_out chunk at carry held out made))

  pub fed_unfit : fits chunk at carry held out made ≡ false → Leaves (progress at made held) carry out
  unfolding fed_progress fed_carry fed_out
  fed_unfit f = (simp f, (simp f, simp f))

  module _ (f : fits chunk at carry held out made ≡ true) where
    kept_leaves : length chunk ≤ end_from chunk at → Leaves (progress (end_from chunk at) made (kept_held held (bytes_from chunk at))) (kept_run carry held (bytes_from chunk at)) out
    unfolding fed_progress fed_carry fed_out
    kept_leaves h = let w = le-ltb (end_from chunk at) (length chunk) h in (simp (f, w), (simp (f, w), simp (f, w)))

    line_leaves : end_from chunk at < length chunk →
        Leaves (progress (end_from chunk at + 1) (respond_end (line_from chunk at carry held) out made) 0) (answered_run carry held (bytes_from chunk at)) (respond_run (line_from chunk at carry held) out made)
    unfolding fed_progress fed_carry fed_out
    line_leaves h = let w = lt-ltb (end_from chunk at) (length chunk) h in (simp (f, w), (simp (f, w), simp (f, w)))

    -- in the terms of the code, which has the line end at `end`
    module _ (end : ℕ) (e : end ≡ end_from chunk at) where
      pub fed_kept : {kept : ℕ} {carry' : List ℕ} → length chunk ≤ end → kept ≡ kept_held held (part chunk at end) → carry' ≡ kept_run carry held (part chunk at end) →
          Leaves (progress end made kept) carry' out
      fed_kept h g k =
          let l = kept_leaves (rw e at h) in (
            ap₂ (λ (u n : ℕ). progress u made n) e (g ∙ ap (λ (u : ℕ). kept_held held (part chunk at u)) e) ∙ l.0,
            (k ∙ ap (λ (u : ℕ). kept_run carry held (part chunk at u)) e ∙ l.1.0, l.1.1),
          )

      pub fed_line : {place : ℕ} {carry' out' : List ℕ} → end < length chunk → place ≡ respond_end (take held carry ++ part chunk at end) out made →
          carry' ≡ answered_run carry held (part chunk at end) → out' ≡ respond_run (take held carry ++ part chunk at end) out made → Leaves (progress (end + 1) place 0) carry' out'
      fed_line h g k o =
          let l = line_leaves (rw e at h) in (
            ap₂ (λ (u p : ℕ). progress (u + 1) p 0) e (g ∙ ap (λ (u : ℕ). respond_end (take held carry ++ part chunk at u) out made) e) ∙ l.0,
            (
              k ∙ ap (λ (u : ℕ). answered_run carry held (part chunk at u)) e ∙ l.1.0,
              o ∙ ap (λ (u : ℕ). respond_run (take held carry ++ part chunk at u) out made) e ∙ l.1.1,
            ),
          )

module _ (line out : List ℕ) (made : ℕ) where
  pub respond_cap : (respond_end (take cap line) out made ≡ respond_end line out made) × (respond_run (take cap line) out made ≡ respond_run line out made)
  unfolding respond_end respond_run
  respond_cap = (
    ap (λ (t : List ℕ). cond (has_room out made) (made + length t) made) (answer_of_cap line),
    ap (λ (t : List ℕ). cond (has_room out made) (sets out made t) out) (answer_of_cap line),
  )

  respond_text : made + answer_max ≤ length out → part (respond_run line out made) made (respond_end line out made) ≡ answer_of line
  respond_text room =
      part_slice (respond_run line out made) made (respond_end line out made)
      ∙ ap (drop made) (respond_answered line out made room).text
      ∙ drop_at (take made out) (answer_of line) made (length-take-le made out (omega arith))

-- The stream -----------------------------------------------------------------------------------------------------------

nothing : (out : List ℕ) (made : ℕ) → part out made made ≡ []
nothing out made = let e : made - made ≡ 0 = omega arith in ap (λ (k : ℕ). take k (drop made out)) e

pub record Fed (chunk : List ℕ) (at : ℕ) (carry : List ℕ) (held : ℕ) (out : List ℕ) (made : ℕ) (r : Progress) (carry' out' : List ℕ) : Type 0 where
  pub inside : r.used ≤ length chunk
  pub moves : at < length chunk → at < r.used
  pub within : r.made ≤ length out
  pub kept : Lawful carry' r.held
  pub text : out_of (take held carry) (drop at chunk) ≡ part out' made r.made ++ out_of (take r.held carry') (drop r.used chunk)
  pub rest : rest_of (take held carry) (drop at chunk) ≡ rest_of (take r.held carry') (drop r.used chunk)

module _ (chunk : List ℕ) (at : ℕ) (carry : List ℕ) (held : ℕ) (out : List ℕ) (made : ℕ) (f : fits chunk at carry held out made ≡ true) where
  fit : Fitting chunk at carry held out made
  fit = fitting chunk at carry held out made f

  few : length (take held carry) ≤ cap
  few = omega (arith, length-take held carry, fit.kept.few)

  taken : take (before (drop at chunk)) (drop at chunk) ≡ bytes_from chunk at
  unfolding end_from
  taken = let e : before (drop at chunk) ≡ at + before (drop at chunk) - at = omega arith in ap (λ (k : ℕ). take k (drop at chunk)) e

  left : drop (before (drop at chunk)) (drop at chunk) ≡ drop (end_from chunk at) chunk
  unfolding end_from
  left = drop-drop (before (drop at chunk)) at chunk

  out_bytes : out_of (take held carry) (drop at chunk) ≡ out_of (take cap (line_from chunk at carry held)) (drop (end_from chunk at) chunk)
  out_bytes =
      out_stretch (take held carry) (drop at chunk) few
      ∙ ap₂ (λ (b s : List ℕ). out_of (take cap (take held carry ++ b)) s) taken left

  rest_bytes : rest_of (take held carry) (drop at chunk) ≡ rest_of (take cap (line_from chunk at carry held)) (drop (end_from chunk at) chunk)
  rest_bytes =
      rest_stretch (take held carry) (drop at chunk) few
      ∙ ap₂ (λ (b s : List ℕ). rest_of (take cap (take held carry ++ b)) s) taken left

  at_end : end_from chunk at < length chunk → drop (end_from chunk at) chunk ≡ 10 ∷ drop (end_from chunk at + 1) chunk
  unfolding end_from
  at_end h =
      let n = before (drop at chunk) in
      let e : at + suc n ≡ at + n + 1 = omega arith in
      sym left
      ∙ before_found (drop at chunk) (omega (arith, length-drop at chunk))
      ∙ ap (λ (s : List ℕ). 10 ∷ s) (drop-drop (suc n) at chunk ∙ ap (λ (k : ℕ). drop k chunk) e)

  kept_fed : length chunk ≤ end_from chunk at → Fed chunk at carry held out made (progress (end_from chunk at) made (kept_held held (bytes_from chunk at))) (kept_run carry held (bytes_from chunk at)) out
  kept_fed h =
      let bytes = bytes_from chunk at in
      let e = end_from chunk at in
      let k = kept_text carry held bytes fit.kept.long fit.kept.few in
      record {
        inside = end_within chunk at fit.inside;
        moves = λ g. omega arith;
        within = omega (arith, fit.room);
        kept = record { long = kept_length carry held bytes fit.kept.long fit.kept.few ∙ fit.kept.long; few = kept-held held bytes fit.kept.few };
        text = out_bytes ∙ ap (λ (q : List ℕ). out_of q (drop e chunk)) (sym k) ∙ ap (λ (t : List ℕ). t ++ out_of (take (kept_held held bytes) (kept_run carry held bytes)) (drop e chunk)) (sym (nothing out made));
        rest = rest_bytes ∙ ap (λ (q : List ℕ). rest_of q (drop e chunk)) (sym k);
      }

  line_fed : end_from chunk at < length chunk →
      Fed chunk at carry held out made (progress (end_from chunk at + 1) (respond_end (line_from chunk at carry held) out made) 0) (answered_run carry held (bytes_from chunk at)) (respond_run (line_from chunk at carry held) out made)
  line_fed h =
      let line = line_from chunk at carry held in
      let e = end_from chunk at in
      let d = at_end h in
      record {
        inside = omega arith;
        moves = λ g. omega (arith, end_after chunk at);
        within = omega (arith, (respond_answered line out made fit.room).within, respond_kept line out made);
        kept = record { long = answered_length carry held (bytes_from chunk at) fit.kept.long fit.kept.few ∙ fit.kept.long; few = omega arith };
        text = out_bytes ∙ ap (out_of (take cap line)) d ∙ out_line line (drop (e + 1) chunk) ∙ ap (λ (t : List ℕ). t ++ out_of [] (drop (e + 1) chunk)) (sym (respond_text line out made fit.room));
        rest = rest_bytes ∙ ap (rest_of (take cap line)) d ∙ rest_line (take cap line) (drop (e + 1) chunk);
      }

  as_left : {r : Progress} {carry' out' : List ℕ} → Leaves chunk at carry held out made r carry' out' → Fed chunk at carry held out made r carry' out' →
      Fed chunk at carry held out made (fed_progress chunk at carry held out made) (fed_carry chunk at carry held out made) (fed_out chunk at carry held out made)
  as_left {r} {carry'} {out'} l g =
      subst (λ (o : List ℕ). Fed chunk at carry held out made (fed_progress chunk at carry held out made) (fed_carry chunk at carry held out made) o) l.1.1
      (subst (λ (c : List ℕ). Fed chunk at carry held out made (fed_progress chunk at carry held out made) c out') l.1.0
      (subst (λ (p : Progress). Fed chunk at carry held out made p carry' out') l.0 g))

  pub fed : Fed chunk at carry held out made (fed_progress chunk at carry held out made) (fed_carry chunk at carry held out made) (fed_out chunk at carry held out made)
  fed = elim (dec_lt (end_from chunk at) (length chunk)) [
    | no h ↦ as_left (kept_leaves chunk at carry held out made f (omega arith)) (kept_fed (omega arith))
    | yes h ↦ as_left (line_leaves chunk at carry held out made f h) (line_fed h)
  ]

  pub fed_call : {r : Progress} {carry' out' : List ℕ} → Leaves chunk at carry held out made r carry' out' → Fed chunk at carry held out made r carry' out'
  fed_call {r} {carry'} {out'} l =
      subst (λ (p : Progress). Fed chunk at carry held out made p carry' out') (sym l.0)
      (subst (λ (c : List ℕ). Fed chunk at carry held out made (fed_progress chunk at carry held out made) c out') (sym l.1.0)
      (subst (λ (o : List ℕ). Fed chunk at carry held out made (fed_progress chunk at carry held out made) (fed_carry chunk at carry held out made) o) (sym l.1.1) fed))

within_by : (t : Bool) (a b n : ℕ) → a ≤ n → b ≤ n → cond t a b ≤ n
within_by true a b n h g = h
within_by false a b n h g = g

pub finish_within : (carry : List ℕ) (held : ℕ) (out : List ℕ) (made : ℕ) → made + answer_max ≤ length out → finish_end carry held out made ≤ length out
unfolding finish_end
finish_within carry held out made room =
    within_by (has_line carry held) (respond_end (take held carry) out made) made (length out)
    (omega (arith, (respond_answered (take held carry) out made room).within, respond_kept (take held carry) out made))
    (omega arith)

pub finish-text : (carry : List ℕ) (held : ℕ) (out : List ℕ) (made : ℕ) → Lawful carry held → made + answer_max ≤ length out → finish_text carry held out made ≡ last_of (take held carry)
unfolding finish_end finish_run last_of
finish-text carry held out made h room = elim (ℕ_discrete held 0) [
  | yes z ↦ simp (lawful_is carry held h, eq-eqb held 0 z) (nothing out made ∙ ap (λ (k : ℕ). last_of (take k carry)) (sym z))
  | no z ↦ simp (lawful_is carry held h, ne_eqb held 0 z)
      (respond_text (take held carry) out made room ∙ last_some (take held carry) (omega (arith, length-take-le held carry (omega (arith, h.long, h.few)))))
]
