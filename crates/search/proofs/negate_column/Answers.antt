use Rattle.std.proofs.Common.{rules, pos, ◌-ℤ◌, SFits, w64, ◌+◌, ◌*◌, ◌≤◌, List, ℤ, neg_ℤ, set, nat_abs, ◌≡◌, sym, ◌∙◌, ap, subst, arith}
use Rattle.integers.proofs.Laws.Magnitude.{nat_abs_neg}
use Rattle.integers.proofs.Laws.Bits.{fits, stored, stored_is}
use Rattle.search.specs.Table.{bound, cell, negate_row}
use Rattle.search.proofs.Laws.Table.{each_row_none, each_row_more, each_row_bounded, negate_local}
use Rattle.search.proofs.negate_column.Goals as goal
use Rattle.search.proofs.negate_column.Goals.{In-loop-i}

-- the cell is bounded, as its row is not reached
bounded : (c : In-loop-i) → nat_abs (cell c.loop-i.cells c.loop-i.i c.args.j) ≤ bound
bounded c =
    let a = c.args in
    let i = c.loop-i.i in
    subst (λ (t : List ℤ). nat_abs (cell t i a.j) ≤ bound) (sym c.loop-i.invariant)
    (each_row_bounded (negate_row a.j) (negate_local a.j c.requires.0) a.cells.now i (i * 24 + a.j) (omega arith) c.requires.1)

pub loop-i-init : goal.loop-i-init
loop-i-init c = each_row_none (negate_row c.args.j) c.args.cells.now

-- the cell with its sign changed, as it is computed
negated : (c : In-loop-i) → let x = cell c.loop-i.cells c.loop-i.i c.args.j in pos 0 -ℤ stored x ≡ neg_ℤ x
negated c = let x = cell c.loop-i.cells c.loop-i.i c.args.j in ap (λ (z : ℤ). pos 0 -ℤ z) (stored_is (fits x (omega (arith, bounded c)))) ∙ search rules

negated_fits : (c : In-loop-i) → SFits w64 (neg_ℤ (cell c.loop-i.cells c.loop-i.i c.args.j))
negated_fits c = let x = cell c.loop-i.cells c.loop-i.i c.args.j in fits (neg_ℤ x) (omega (arith, nat_abs_neg x, bounded c))

pub overflow_sub-cells : goal.overflow_sub-cells
overflow_sub-cells c = subst (SFits w64) (sym (negated c.before)) (negated_fits c.before)

pub loop-i-preserved : goal.loop-i-preserved
loop-i-preserved c =
    let a = c.args in
    let i = c.loop-i.i in
    let change = negate_row a.j in
    ap (set c.loop-i.cells (i * 24 + a.j)) (ap stored (negated c.before) ∙ stored_is (negated_fits c.before)) ∙ ap (change i) c.loop-i.invariant ∙ each_row_more change a.cells.now i
