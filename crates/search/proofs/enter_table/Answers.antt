use Rattle.std.proofs.Common.{ℕ, ◌+◌, ◌*◌, ◌≡◌, ◌∙◌, ap, ap₂, arith}
use Rattle.integers.proofs.Laws.Run.{filled, filled_none}
use Rattle.problem.specs.Lent.{lent}
use Rattle.problem.specs.Rows.{rows_of}
use Rattle.search.specs.Code.{filled_from, upper_place, entered_diagonal}
use Rattle.search.proofs.Laws.Start.{congruences_few, from_filled, start_entered}
use Rattle.search.proofs.enter_table.Invariants.{zeros}
use Rattle.search.proofs.enter_table.Goals as goal

pub loop-i-init : goal.loop-i-init
loop-i-init c = c.requires ∙ filled_none _ zeros

pub loop-i-preserved : goal.loop-i-preserved
loop-i-preserved c =
    let p = c.args.rows.now.problem in
    let i = c.loop-i.i in
    let f = upper_place p.n (lent rows_of p) in
    let e : i * 24 + 24 ≡ (i + 1) * 24 = omega arith in
    c.enter_row.ensures ∙ ap (filled_from (i * 24) 24 f) c.loop-i.invariant ∙ from_filled (i * 24) f zeros 24 ∙ ap (λ (k : ℕ). filled k f zeros) e

pub enter_diagonal-requires : goal.enter_diagonal-requires
enter_diagonal-requires c =
    let p = c.args.rows.now.problem in
    let w = c.args.rows.now.well_formed.shape in
    let e = c.own_column.ensures in
    let h = congruences_few (lent rows_of p).modulus (p.ma + p.mb) in
    omega arith

pub returns : goal.returns
returns c =
    let p = c.args.rows.now.problem in
    let w = c.args.rows.now.well_formed.shape in
    let h = congruences_few (lent rows_of p).modulus (p.ma + p.mb) in
    let all : c.loop-i.i ≡ p.ma + p.mb = omega arith in
    let rows = c.loop-i.invariant ∙ ap (λ (i : ℕ). filled (i * 24) (upper_place p.n (lent rows_of p)) zeros) all in
    c.enter_diagonal.ensures ∙ ap₂ entered_diagonal c.own_column.ensures rows ∙ start_entered p.n (lent rows_of p) w.few_m (omega arith)
