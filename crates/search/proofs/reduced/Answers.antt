use Rattle.std.proofs.Common.{◌≡◌, sym, ◌∙◌, ap, subst, ◌-ℤ◌, ◌*ℤ◌, SFits, w64}
use Rattle.integers.proofs.Laws.Bits.{stored, stored_is}
use Rattle.search.specs.Table.{cell, less_times}
use Rattle.search.proofs.Laws.Sums.{difference, difference_fits}
use Rattle.search.proofs.reduced.Goals as goal
use Rattle.search.proofs.reduced.Goals.{After-get-2}

difference_is : (c : After-get-2) → let a = c.args in stored c.get.result -ℤ stored (stored a.q *ℤ stored c.get-2.result) ≡ less_times (cell a.cells.now a.i a.second) a.q (cell a.cells.now a.i a.first)
difference_is c =
    let h = c.requires.bounds in
    difference _ c.args.q _ h.2 h.0 h.1 (stored_is (record { sfits = c.get.type_inv }) ∙ c.get.ensures) (stored_is c.ranges.q) (stored_is (record { sfits = c.get-2.type_inv }) ∙ c.get-2.ensures)

pub overflow_sub-result : goal.overflow_sub-result
overflow_sub-result c = let h = c.requires.bounds in subst (SFits w64) (sym (difference_is c)) (difference_fits _ c.args.q _ h.2 h.0 h.1)

pub returns : goal.returns
returns c = let h = c.requires.bounds in ap stored (difference_is c) ∙ stored_is (difference_fits _ c.args.q _ h.2 h.0 h.1)
