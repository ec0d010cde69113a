use mathlib.Core.Path.{subst⁻¹}
use Rattle.search.specs.Table.{Bounded}
use Rattle.search.proofs.Laws.Table.{swap_bounded}
use Rattle.search.proofs.close_table.Goals as goal

-- swapping columns keeps the cells in bounds
pub negate_column-requires : goal.negate_column-requires
negate_column-requires c =
    (c.requires.2, subst⁻¹ Bounded c.swap_columns.ensures (swap_bounded c.args.j c.args.r c.args.cells.now c.requires.3))
