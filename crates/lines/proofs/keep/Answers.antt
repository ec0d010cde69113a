use Rattle.std.proofs.Common.{◌+◌, ◌-◌, arith}
use Rattle.lines.specs.Lines.{cap}
use Rattle.lines.proofs.Laws.Kept.{kept_copied}
use Rattle.lines.proofs.keep.Goals as goal

pub returns : goal.returns
unfolding cap
returns c =
    let a = c.args in
    let copied = kept_copied a.carry.now a.bytes.now c.copy_from_slice.new.self a.held c.min-count.result (a.held + c.min-count.result - a.held) c.min-count.ensures c.copy_from_slice.ensures.after (omega arith) in
    record { value = copied.0; carry_after = copied.1 }
