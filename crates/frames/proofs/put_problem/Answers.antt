use Rattle.std.proofs.Common.{◌+◌, List, ℕ, ◌++◌, ◌∙◌, ap, Ok, Err}
use Rattle.problem.specs.Refusal.{number_of}
use Rattle.frames.specs.Answer.{refusal_frame}
use Rattle.frames.proofs.Laws.Zeros.{zeros_part}
use Rattle.frames.proofs.Laws.Frames.{answer_searched}
use Rattle.frames.proofs.put_problem.Goals as goal

pub returns-in-Ok : goal.returns-in-Ok
returns-in-Ok c =
    let p = c.args.problem.now in
    let said = c.in-Ok.ensures in
    c.put_found.ensures
    ∙ answer_searched p.n p.ma p.mb p.a.now p.b.now c.args.budget (zeros_part 12 (p.ma + p.mb) c.requires.few.few_m) (zeros_part 12 p.n c.requires.few.few_n)
    (Ok c.in-Ok.found) c.search.new.vector c.search.new.point said.value said.vector_after said.point_after

pub returns-in-Err : goal.returns-in-Err
returns-in-Err c =
    let p = c.args.problem.now in
    let said = c.in-Err.ensures in
    c.refusal.ensures ∙ ap (λ (t : List ℕ). t ++ refusal_frame (number_of c.in-Err.refusal) 0) c.requires.empty
    ∙ answer_searched p.n p.ma p.mb p.a.now p.b.now c.args.budget (zeros_part 12 (p.ma + p.mb) c.requires.few.few_m) (zeros_part 12 p.n c.requires.few.few_n)
    (Err c.in-Err.refusal) c.search.new.vector c.search.new.point said.value said.vector_after said.point_after
