use Rattle.std.proofs.Common.{ℕ, ◌+◌, ◌*◌, sym, ◌∙◌, ap, ap₂}
use Rattle.frames.specs.Problem.{side_long, numbers_at}
use Rattle.frames.proofs.Laws.Zeros.{zeros_long}
use Rattle.frames.proofs.Laws.Frames.{answer_lines}
use Rattle.frames.proofs.put_lines.Goals as goal

pub returns : goal.returns
returns c =
    let line = c.args.line.now in
    let h = c.args.head in
    let long_a = sym (zeros_long 168 (side_long h.n h.ma) c.requires.readable.small_a) in
    let long_b = sym (zeros_long 168 (side_long h.n h.mb) c.requires.readable.small_b) in
    let side_a = c.read_numbers.ensures ∙ ap (numbers_at line 16) long_a in
    let side_b = c.read_numbers-2.ensures ∙ ap₂ (λ (i k : ℕ). numbers_at line (16 + i * 8) k) (c.read_numbers.auto.numbers ∙ long_a) long_b in
    c.put_problem.ensures ∙ answer_lines line h c.read_numbers.new.numbers c.read_numbers-2.new.numbers c.requires.head side_a side_b
