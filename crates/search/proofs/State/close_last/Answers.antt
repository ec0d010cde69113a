use Rattle.std.proofs.Common.{true, false, refl, sym, ◌∙◌, ap, ap₂, subst}
use Rattle.std.specs.Int.Signed.{quot_z}
use Rattle.integers.specs.Range.{within}
use Rattle.integers.proofs.Laws.Decide.{by_within}
use Rattle.search.specs.Table.{bound}
use Rattle.search.specs.Step.{close_table, residual_of, closed, passed, placed, place_by, go_on_by}
use Rattle.search.specs.Code.{Solvable}
use Rattle.search.proofs.Laws.Close.{residual_small, passed_solvable, placed_solvable, passed_with, placed_with, go_on_way, place_way}
use Rattle.search.proofs.Laws.Sums.{is_zero_yes, is_zero_no, quotient_need, quotient_is}
use Rattle.search.proofs.State.close_last.Goals as goal

pub closed-requires : goal.closed-requires
closed-requires c =
    let s = c.args.self in
    let next = c.pass.ensures ∙ passed_with s c.close_table.new.cells ∙ ap (passed s) c.close_table.ensures in
    (subst Solvable (sym next) (passed_solvable s c.args.j c.requires.0), c.requires.0.steps)

pub returns-then-e-eq0 : goal.returns-then-e-eq0
unfolding go_on_by
returns-then-e-eq0 c =
    let s = c.args.self in
    let t = close_table s.cells s.row c.args.j s.count in
    let next = c.pass.ensures ∙ passed_with s c.close_table.new.cells ∙ ap (passed s) c.close_table.ensures in
    c.closed.ensures ∙ ap (closed s) next ∙ go_on_way s t c.args.e true (is_zero_yes c.args.e c.ranges.e c.if-e-eq0.true)

pub nonzero_div-z : goal.nonzero_div-z
nonzero_div-z c =
    quotient_need c.ranges.r c.requires.1 c.ranges.e refl (residual_small c.args.self c.args.j c.requires.0) (is_zero_no c.args.e c.ranges.e c.if-e-eq0.false)

pub returns-then-not-in_bound : goal.returns-then-not-in_bound
unfolding place_by
returns-then-not-in_bound c =
    let s = c.args.self in
    let t = close_table s.cells s.row c.args.j s.count in
    let z = quotient_is c.ranges.r c.requires.1 c.ranges.e refl (residual_small s c.args.j c.requires.0) in
    c.too_large.ensures ∙ place_way s t c.args.e (is_zero_no c.args.e c.ranges.e c.if-e-eq0.false) false (sym c.if-not-in_bound.true ∙ c.in_bound.ensures ∙ ap (within bound) z)

pub closed-requires-2 : goal.closed-requires-2
closed-requires-2 c =
    let s = c.args.self in
    let h = c.requires.0 in
    let t = close_table s.cells s.row c.args.j s.count in
    let z = quotient_is c.ranges.r c.requires.1 c.ranges.e refl (residual_small s c.args.j h) in
    let q = quot_z (residual_of s t) c.args.e in
    let small = (by_within bound q).yes (ap (within bound) (sym z) ∙ sym c.in_bound.ensures ∙ c.if-not-in_bound.false) in
    let next = c.place.ensures ∙ placed_with s c.close_table.new.cells _ ∙ ap₂ (placed s) c.close_table.ensures z in
    (subst Solvable (sym next) (placed_solvable s c.args.j h q small), h.steps)

pub returns : goal.returns
unfolding place_by
returns c =
    let s = c.args.self in
    let t = close_table s.cells s.row c.args.j s.count in
    let z = quotient_is c.ranges.r c.requires.1 c.ranges.e refl (residual_small s c.args.j c.requires.0) in
    let next = c.place.ensures ∙ placed_with s c.close_table.new.cells _ ∙ ap₂ (placed s) c.close_table.ensures z in
    c.closed-2.ensures ∙ ap (closed s) next ∙ place_way s t c.args.e (is_zero_no c.args.e c.ranges.e c.if-e-eq0.false) true (sym c.if-not-in_bound.false ∙ c.in_bound.ensures ∙ ap (within bound) z)
