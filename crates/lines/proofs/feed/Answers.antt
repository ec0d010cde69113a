use mathlib.Core.Path.{sym, ◌∙◌}
use Rattle.lines.proofs.Laws.Fits.{fitting}
use Rattle.lines.proofs.Laws.Feed.{fed_unfit, fed_line, fed_kept}
use Rattle.lines.proofs.feed.Goals as goal

pub returns-then-not-is_fit : goal.returns-then-not-is_fit
returns-then-not-is_fit c =
    let a = c.args in
    let w = fed_unfit a.chunk.now a.at a.carry.now a.held a.out.now a.made (sym c.is_fit.ensures ∙ c.if-not-is_fit.true) in
    record { value = w.0; carry_after = w.1.0; out_after = w.1.1 }

pub line_end-end-requires : goal.line_end-end-requires
line_end-end-requires c = let a = c.args in (fitting a.chunk.now a.at a.carry.now a.held a.out.now a.made (sym c.is_fit.ensures ∙ c.if-not-is_fit.false)).inside

pub answer-requires : goal.answer-requires
answer-requires c = let a = c.args in record { carry = (fitting a.chunk.now a.at a.carry.now a.held a.out.now a.made (sym c.is_fit.ensures ∙ c.if-not-is_fit.false)).kept }

pub keep-requires : goal.keep-requires
keep-requires c = let a = c.args in (fitting a.chunk.now a.at a.carry.now a.held a.out.now a.made (sym c.is_fit.ensures ∙ c.if-not-is_fit.false)).kept

pub returns-then-end-chunk : goal.returns-then-end-chunk
returns-then-end-chunk c =
    let said = c.answer in
    let a = c.args in
    let w = fed_line a.chunk.now a.at a.carry.now a.held a.out.now a.made (sym c.is_fit.ensures ∙ c.if-not-is_fit.false) c.line_end-end.result c.line_end-end.ensures.value c.if-end-chunk.true
    said.ensures.value said.ensures.carry_after said.ensures.out_after in
    record { value = w.0; carry_after = w.1.0; out_after = w.1.1 }

pub returns-else-end-chunk : goal.returns-else-end-chunk
returns-else-end-chunk c =
    let said = c.keep in
    let a = c.args in
    let w = fed_kept a.chunk.now a.at a.carry.now a.held a.out.now a.made (sym c.is_fit.ensures ∙ c.if-not-is_fit.false) c.line_end-end.result c.line_end-end.ensures.value c.if-end-chunk.false said.ensures.value said.ensures.carry_after in
    record { value = w.0; carry_after = w.1.0; out_after = w.1.1 }
