use Rattle.std.proofs.Common.{List, ℕ, ◌++◌, sym, ◌∙◌, ap, subst}
use Rattle.problem.specs.Refusal.{number_of}
use Rattle.frames.specs.Answer.{refusal_frame}
use Rattle.frames.specs.Code.{Readable}
use Rattle.frames.proofs.Laws.Problem.{readable}
use Rattle.frames.proofs.Laws.Frames.{answer_refused, answer_problem}
use Rattle.frames.proofs.put_answer.Goals as goal

pub returns-in-Ok : goal.returns-in-Ok
returns-in-Ok c = c.put_lines.ensures ∙ answer_problem c.args.line.now (sym c.in-Ok.ensures.refusal)

pub returns-in-Err : goal.returns-in-Err
returns-in-Err c =
    c.refusal.ensures ∙ ap (λ (t : List ℕ). t ++ refusal_frame (number_of c.in-Err.refusal) 0) c.requires
    ∙ answer_refused c.args.line.now c.in-Err.refusal c.in-Err.ensures.refusal

pub put_lines-requires-clause-readable : goal.put_lines-requires-clause-readable
put_lines-requires-clause-readable c =
    subst (Readable c.args.line.now) (sym c.in-Ok.ensures.head) (readable c.args.line.now (sym c.in-Ok.ensures.refusal))
