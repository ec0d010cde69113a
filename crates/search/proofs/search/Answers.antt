use Rattle.std.proofs.Common.{arith, sym, ◌∙◌, ap}
use Rattle.problem.specs.Refusal.{problem_refusal}
use Rattle.search.proofs.Laws.Refusal.{search_fits}
use Rattle.search.proofs.search.Goals as goal

pub write-requires : goal.write-requires
write-requires c =
    let p = c.args.problem.now in
    let r = ap (problem_refusal p.n p.ma p.mb p.a.now p.b.now) (sym c.lengths_fit.ensures) ∙ sym c.in_ok-rows.ensures.refusal in
    (omega arith, (search_fits p.n p.ma p.mb p.a.now p.b.now c.args.vector.now c.args.point.now r).0)

pub write-requires-in-Solved : goal.write-requires-in-Solved
write-requires-in-Solved c =
    let p = c.args.problem.now in
    let r = ap (problem_refusal p.n p.ma p.mb p.a.now p.b.now) (sym c.lengths_fit.ensures) ∙ sym c.in_ok-rows.ensures.refusal in
    (omega arith, (search_fits p.n p.ma p.mb p.a.now p.b.now c.args.vector.now c.args.point.now r).1)
