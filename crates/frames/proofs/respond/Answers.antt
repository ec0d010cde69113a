use Rattle.std.proofs.Common.{◌+◌, ◌-◌, ◌≤◌, length, ◌∙◌, arith}
use Rattle.frames.specs.Answer.{answer_max}
use Rattle.frames.proofs.Laws.Text.{sets_copied}
use Rattle.frames.proofs.Laws.Respond.{respond_none, respond_some}
use Rattle.frames.proofs.respond.Goals as goal

pub returns-then-saturating_sub-lt-ANSWER_MAX : goal.returns-then-saturating_sub-lt-ANSWER_MAX
returns-then-saturating_sub-lt-ANSWER_MAX c = let w = respond_none c.args.line.now c.args.out.now c.args.at (omega arith) in record { value = w.0; out_after = w.1 }

pub returns : goal.returns
returns c =
    let out = c.args.out.now in
    let at = c.args.at in
    let line = c.args.line.now in
    let room : at + answer_max ≤ length out = omega arith in
    let text = c.as_slice-answer.ensures.text ∙ c.put_answer.ensures in
    let answer = c.as_slice-answer.result.now in
    let w = respond_some line out at room text in
    let short : at + length answer ≤ length out = omega (arith, c.as_slice-answer.ensures.len) in
    record { value = w.0; out_after = sets_copied answer out c.copy_from_slice.new.self at (at + length answer - at) c.copy_from_slice.ensures.after (omega arith) short ∙ w.1 }
