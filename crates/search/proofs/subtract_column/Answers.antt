use Rattle.std.proofs.Common.{ℕ, ◌+◌, ◌*◌, ◌≤◌, List, ℤ, set, nat_abs, sym, ◌∙◌, ap, subst, arith}
use Rattle.integers.proofs.Laws.Bits.{stored, stored_is}
use Rattle.search.specs.Table.{bound, cell, subtract_row}
use Rattle.search.proofs.Laws.Table.{each_row_none, each_row_more, each_row_bounded, subtract_local}
use Rattle.search.proofs.subtract_column.Goals as goal
use Rattle.search.proofs.subtract_column.Goals.{In-loop-i}

-- a row that is not reached is bounded
bounded : (c : In-loop-i) (j : ℕ) → nat_abs (cell c.loop-i.cells c.loop-i.i j) ≤ bound
bounded c j =
    let a = c.args in
    let i = c.loop-i.i in
    let q = stored a.q in
    subst (λ (t : List ℤ). nat_abs (cell t i j) ≤ bound) (sym c.loop-i.invariant)
    (each_row_bounded (subtract_row a.first a.second q) (subtract_local a.first a.second q c.requires.1) a.cells.now i (i * 24 + j) (omega arith) c.requires.3)

pub loop-i-init : goal.loop-i-init
loop-i-init c = each_row_none (subtract_row c.args.first c.args.second (stored c.args.q)) c.args.cells.now

pub reduced-requires-clause-bounds : goal.reduced-requires-clause-bounds
reduced-requires-clause-bounds c =
    (subst (λ (z : ℤ). nat_abs z ≤ bound) (sym (stored_is c.ranges.q)) c.requires.2, bounded c c.args.first, bounded c c.args.second)

pub loop-i-preserved : goal.loop-i-preserved
loop-i-preserved c =
    let a = c.args in
    let i = c.loop-i.i in
    let change = subtract_row a.first a.second (stored a.q) in
    ap (set c.loop-i.cells (i * 24 + a.second)) (stored_is (record { sfits = c.reduced.type_inv }) ∙ c.reduced.ensures)
    ∙ ap (change i) c.loop-i.invariant
    ∙ each_row_more change a.cells.now i
