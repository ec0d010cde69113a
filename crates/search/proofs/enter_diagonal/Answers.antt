use Rattle.std.proofs.Common.{◌+◌, ◌*◌, List, ℤ, pos, set, ◌∙◌, ap}
use Rattle.search.proofs.Laws.Start.{diagonal_none, diagonal_more}
use Rattle.search.proofs.enter_diagonal.Goals as goal

pub loop-j-init : goal.loop-j-init
loop-j-init c = diagonal_none c.args.cells.now

pub loop-j-preserved : goal.loop-j-preserved
loop-j-preserved c =
    let j = c.loop-j.j in
    ap (λ (t : List ℤ). set t ((12 + j) * 24 + j) (pos 1)) c.loop-j.invariant ∙ diagonal_more c.args.cells.now j
