use Rattle.std.proofs.Common.{◌∙◌, ap, ◌+◌, ◌-◌, length, take, drop, rules}
use Rattle.std.proofs.lemmas.Iterator.{YieldsList-from_slice}
use Rattle.std.proofs.lemmas.Iterator.Search.{position_from_yields_List}
use Rattle.lines.specs.Lines.{is_end}
use Rattle.lines.proofs.Laws.Ends.{end_position, end_after, end_within}
use Rattle.lines.proofs.line_end.Goals as goal

pub returns : goal.returns
returns c =
    let chunk = c.args.chunk.now in
    let at = c.args.at in
    let found = position_from_yields_List is_end _ _ c.position.result c.position.ensures.ran (YieldsList-from_slice (take (length chunk - at) (drop at chunk)) cc) (λ x b q k. search rules) in
    let place = ap (λ k. at + k) c.unwrap_or.ensures ∙ end_position chunk at c.position.result found in
    record { value = place; inside = rw place (end_after chunk at, end_within chunk at c.requires) }
