use Rattle.std.proofs.Common.{sym, ◌∙◌}
use Rattle.problem.proofs.Laws.WellFormed.{by_well_formed}
use Rattle.problem.proofs.Problem.rows.Goals as goal

pub invariant_of-result : goal.invariant_of-result
invariant_of-result c =
    let p = c.args.self.now in
    record { well_formed = (by_well_formed p.n p.ma p.mb p.a.now p.b.now).yes (sym c.is_well_formed.ensures ∙ c.if-not-is_well_formed.false) }
