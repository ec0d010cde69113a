use Rattle.std.proofs.Common.{ℕ, ◌+◌, ◌*◌, ◌-◌, ◌<◌, ◌≡◌, List, length, take, get_or, ◌∙◌, ap, ap₂, drop, get_or-take, get_or-drop, arith}
use Rattle.integers.proofs.Laws.Below.{all_each}
use Rattle.frames.specs.Hex.{is_digit, digit_of}
use Rattle.frames.proofs.Laws.Hex.{value_more}
use Rattle.frames.proofs.value_at.Goals as goal

-- a character of the part is one of the line
here : (line : List ℕ) (at count k : ℕ) → k < count → get_or (take (at + count - at) (drop at line)) k 0 ≡ get_or line (at + k) 0
here line at count k h = get_or-take (at + count - at) (drop at line) k 0 (omega arith) ∙ get_or-drop at line k 0

pub digit_of-requires : goal.digit_of-requires
digit_of-requires c =
    let line = c.args.line.now in
    let k = c.loop-c.c-index in
    let few : k < c.args.count = omega arith in
    ap is_digit (here line c.args.at c.args.count k few) ∙ all_each (length line) (λ i. is_digit (get_or line i 0)) c.requires.digits (c.args.at + k) (omega arith)

pub loop-c-preserved : goal.loop-c-preserved
loop-c-preserved c =
    let line = c.args.line.now in
    let at = c.args.at in
    let k = c.loop-c.c-index in
    let few : k < c.args.count = omega arith in
    ap₂ (λ (v d : ℕ). v * 16 + d) c.loop-c.invariant (c.digit_of.ensures.value ∙ ap digit_of (here line at c.args.count k few)) ∙ value_more line at k
