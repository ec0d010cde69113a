use Rattle.std.proofs.Common.{sym, ◌∙◌, ap, length, arith, rules}
use mir.Syntax.{w64}
use mir.Val.{SFits}
use Rattle.integers.specs.Range.{is_zero, is_negative}
use Rattle.integers.specs.Run.{at}
use Rattle.integers.proofs.Laws.Bits.{stored_is}
use Rattle.integers.proofs.Laws.Decide.{by_zero, decides_no}
use Rattle.checker.proofs.Laws.First.{first_none, first_onward, first_found}
use Rattle.checker.proofs.first_is_negative.Goals as goal

pub loop-c-init : goal.loop-c-init
loop-c-init c = first_none (at c.args.coeffs.now)

pub returns-then-not-is_zero : goal.returns-then-not-is_zero
returns-then-not-is_zero c =
    let run = c.args.coeffs.now in
    let fits : SFits w64 (at run c.loop-c.c-index) = search rules in
    let some = decides_no (by_zero (at run c.loop-c.c-index)) (sym (ap is_zero (stored_is fits)) ∙ (sym c.is_zero.ensures ∙ c.if-not-is_zero.true)) in
    c.is_negative.ensures ∙ ap is_negative (stored_is fits ∙ sym (first_found (length run) (at run) c.loop-c.c-index c.loop-c.invariant some (omega arith)))

pub loop-c-preserved : goal.loop-c-preserved
loop-c-preserved c =
    let run = c.args.coeffs.now in
    let fits : SFits w64 (at run c.loop-c.c-index) = search rules in
    first_onward c.loop-c.c-index (at run) c.loop-c.invariant ((by_zero (at run c.loop-c.c-index)).yes (sym (ap is_zero (stored_is fits)) ∙ (sym c.is_zero.ensures ∙ c.if-not-is_zero.false)))
