use Rattle.std.proofs.Common.{◌≡◌, ℤ, ◌-ℤ◌, sym, ◌∙◌, ap, ap₂, subst, SFits, w64, arith}
use Rattle.integers.specs.Sum.{dot}
use Rattle.integers.proofs.Laws.Magnitude.{nat_abs_sub}
use Rattle.integers.proofs.Laws.Bits.{fits, stored, stored_is}
use Rattle.search.specs.Table.{cell}
use Rattle.search.specs.State.{State, const_of, z_of}
use Rattle.search.specs.Step.{residual_of}
use Rattle.search.proofs.Laws.Sums.{dot_small}
use Rattle.search.proofs.State.residual.Goals as goal
use Rattle.search.proofs.State.residual.Goals.{After-row_sum}

module _ (c : After-row_sum) where
  abbrev S : State
  S = c.args.self.now

  difference : stored (const_of S.given S.row) -ℤ stored c.row_sum.result ≡ residual_of S S.cells
  unfolding residual_of
  difference =
      let h = c.requires.bounds.2.place S.row in
      ap₂ (λ (d x : ℤ). d -ℤ x) (stored_is (fits (const_of S.given S.row) (omega arith))) (stored_is {z = c.row_sum.result} (record { sfits = c.row_sum.type_inv }) ∙ c.row_sum.ensures)

  small : SFits w64 (residual_of S S.cells)
  unfolding residual_of
  small =
      let h = c.requires.bounds in
      let d = const_of S.given S.row in
      let x = dot S.count (cell S.cells S.row) (z_of S) in
      fits (d -ℤ x) (omega (arith, nat_abs_sub d x, h.2.place S.row, dot_small (cell S.cells S.row) (z_of S) (λ k. h.0.place _) h.1.place S.count c.requires.places.1))

pub overflow_sub-result : goal.overflow_sub-result
overflow_sub-result c = subst (SFits w64) (sym (difference c)) (small c)

pub returns : goal.returns
returns c = ap stored (difference c) ∙ stored_is (small c)
