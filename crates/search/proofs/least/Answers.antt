use Rattle.std.proofs.Common.{◌≡◌, ◌-◌, nat_abs, ◌∙◌, ap, arith}
use Rattle.std.proofs.lemmas.Bool.Decides.{nat_tests}
use Rattle.integers.proofs.Laws.Bits.{stored_is}
use Rattle.search.specs.Table.{cell}
use Rattle.search.specs.Step.{better}
use Rattle.search.proofs.Laws.Scan.{least_none, least_more, least_is}
use Rattle.search.proofs.least.Goals as goal
use Rattle.search.proofs.least.Goals.{Joined-x-ne0}

pub loop-j-init : goal.loop-j-init
loop-j-init c = (omega arith, least_none (cell c.args.cells.now c.args.row) c.args.lo)

pub get-requires-in-loop-j : goal.get-requires-in-loop-j
get-requires-in-loop-j c =
    let l = least_is (cell c.args.cells.now c.args.row) c.args.lo (c.loop-j.j - c.args.lo) in
    let h = l.high in
    let e = c.loop-j.invariant.1 in
    (omega arith, omega arith)

-- the choice between the column and the best before it
chosen : (c : Joined-x-ne0) → c.if-x-ne0.best ≡ better (cell c.args.cells.now c.args.row) c.loop-j.best c.loop-j.j
unfolding better
chosen c =
    let x = c.unsigned_abs-x.ensures.value ∙ ap nat_abs (stored_is (record { sfits = c.get.type_inv }) ∙ c.get.ensures) in
    let y = c.unsigned_abs-y.ensures.value ∙ ap nat_abs (stored_is (record { sfits = c.get-in-loop-j.type_inv }) ∙ c.get-in-loop-j.ensures) in
    grind (arith, nat_tests, x, y)

pub loop-j-preserved : goal.loop-j-preserved
loop-j-preserved c =
    let v = cell c.args.cells.now c.args.row in
    (omega arith, chosen c ∙ ap (λ b. better v b c.loop-j.j) c.loop-j.invariant.1 ∙ least_more v c.args.lo c.loop-j.j (omega arith))
