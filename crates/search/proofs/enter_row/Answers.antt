use Rattle.std.proofs.Common.{◌+◌, ◌*◌, List, ℤ, set, ◌∙◌, ap₂, arith}
use Rattle.integers.proofs.Laws.Bits.{stored_is}
use Rattle.problem.specs.Lent.{lent}
use Rattle.problem.specs.Rows.{rows_of}
use Rattle.search.specs.Code.{upper_place}
use Rattle.search.proofs.Laws.Start.{from_none, from_more, place_is}
use Rattle.search.proofs.enter_row.Goals as goal

pub loop-j-init : goal.loop-j-init
loop-j-init c = from_none _ _ c.args.cells.now

pub loop-j-preserved : goal.loop-j-preserved
loop-j-preserved c =
    let p = c.args.rows.now.problem in
    let R = lent rows_of p in
    let from = c.args.i * 24 in
    let j = c.loop-j.j in
    let v = stored_is (record { sfits = c.upper_cell.type_inv }) ∙ c.upper_cell.ensures ∙ place_is p.n R c.args.i j (omega arith) in
    ap₂ (λ (t : List ℤ) (z : ℤ). set t (from + j) z) c.loop-j.invariant v ∙ from_more from (upper_place p.n R) c.args.cells.now j
