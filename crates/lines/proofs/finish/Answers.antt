use Rattle.std.proofs.Common.{sym, ◌∙◌, length-take-le, arith}
use Rattle.lines.proofs.Laws.Fits.{lawful}
use Rattle.lines.proofs.finish.Goals as goal

pub slice_bounds-respond-end : goal.slice_bounds-respond-end
slice_bounds-respond-end c =
    let h = lawful c.args.carry.now c.args.held (sym c.is_carry.ensures ∙ c.if-not-is_carry.false) in
    sym (length-take-le c.args.held c.args.carry.now (omega (arith, h.long, h.few)))
