use Rattle.std.proofs.Common.{pos, sym, ◌+◌, ◌*◌, ◌∙◌, ap, arith}
use Rattle.std.proofs.lemmas.List.Edits.{swap_is}
use Rattle.search.specs.Table.{swap_row}
use Rattle.search.proofs.Laws.Table.{each_row_none, each_row_more}
use Rattle.search.proofs.swap_columns.Goals as goal

pub loop-i-init : goal.loop-i-init
loop-i-init c = each_row_none (swap_row c.args.j c.args.k) c.args.cells.now

pub loop-i-preserved : goal.loop-i-preserved
loop-i-preserved c =
    let change = swap_row c.args.j c.args.k in
    let i = c.loop-i.i in
    c.swap.ensures.after ∙ sym (swap_is c.loop-i.cells (i * 24 + c.args.j) (i * 24 + c.args.k) (pos 0) (omega arith) (omega arith)) ∙ ap (change i) c.loop-i.invariant ∙ each_row_more change c.args.cells.now i
