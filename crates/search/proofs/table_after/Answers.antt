use Rattle.std.proofs.Common.{sym, arith}
use Rattle.search.proofs.Laws.Refusal.{table_fits}
use Rattle.search.proofs.table_after.Goals as goal

pub write-requires : goal.write-requires
write-requires c =
    let p = c.args.problem.now in
    omega (arith, table_fits p.n p.ma p.mb p.a.now p.b.now c.args.cells.now (sym c.in_ok-rows.ensures.refusal))
