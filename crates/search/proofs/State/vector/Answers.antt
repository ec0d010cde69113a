use Rattle.std.proofs.Common.{◌≡◌, Bool, true, false, ◌&&◌, Option, Some, None, SFits, w64, ◌<◌, ◌^◌, ℤ, pos, nat_abs, sym, ◌∙◌, ap, ap₂, subst, arith}
use Rattle.integers.specs.Range.{is_zero}
use Rattle.integers.specs.NonDivisor.{non_divisor}
use Rattle.integers.specs.Sum.{dot}
use Rattle.integers.specs.Run.{at}
use Rattle.integers.proofs.Laws.Bits.{stored, stored_is}
use Rattle.search.specs.Table.{Bounded}
use Rattle.search.specs.State.{State, const_of, pivot_of}
use Rattle.search.specs.Vector.{Vector, in_range, checked, unit_vector, back_from, denominator_by, vector_of}
use Rattle.search.specs.Code.{Backs, Vectorable}
use Rattle.search.proofs.Laws.Sums.{dot_small, is_zero_yes, is_zero_no}
use Rattle.search.proofs.Laws.Vector.{some_is, number_none, is_some, is_none, back_stops, unit_in_range, back_all_in_range, range_bounded, vector_by}
use Rattle.search.proofs.State.vector.Goals as goal

module _ (s : State) (e : ℤ) where
  -- the vector at first, and when all pivot columns are done
  abbrev first : Vector
  first = unit_vector s.row e

  abbrev last : Vector
  last = back_from s.count s.given.m s.cells (pivot_of s) first

  backs : Vectorable s s.cells → in_range first ≡ true → Backs s.cells s.given.m s.pivots s.count first
  backs h ok =
      let r = unit_in_range s.row e ok in
      record { rows = h.rows; columns = h.columns; bounded = h.bounded; row = h.row; pivot = h.pivot; numerators = range_bounded r; denominator = omega (arith, r.denominator) }

  out_first : in_range first ≡ false → last ≡ first
  out_first out = back_stops s.given.m s.cells (pivot_of s) s.count first out

  -- a vector that is out of range stays as it is
  out_last : in_range last ≡ false → None ≡ checked (vector_of s s.cells e)
  unfolding denominator_by
  out_last out = number_none last out ∙ ap checked (vector_by s s.cells e false (ap (λ (b : Bool). b && is_zero e) out))

  -- with a pivot it has its denominator
  with_pivot : in_range last ≡ true → is_zero e ≡ false → Some last ≡ checked (vector_of s s.cells e)
  unfolding denominator_by
  with_pivot ok some = some_is last ok ∙ ap checked (vector_by s s.cells e false (ap₂ (λ (a b : Bool). a && b) ok some))

  -- without, it is given one
  without_pivot : in_range last ≡ true → is_zero e ≡ true → checked (record { p = last.p; q = pos (non_divisor (dot s.given.m (at last.p) (const_of s.given))) }) ≡ checked (vector_of s s.cells e)
  unfolding denominator_by
  without_pivot ok none = ap checked (vector_by s s.cells e true (ap₂ (λ (a b : Bool). a && b) ok none))

  numerators : in_range last ≡ true → Bounded last.p
  numerators ok = range_bounded (back_all_in_range s.count s.given.m s.cells (pivot_of s) first (unit_in_range s.row e) ok)

  -- the vector that was found, by what the two calls answered
  found : SFits w64 e → {u o : Option Vector} {x y : Vector} → u ≡ checked (unit_vector s.row (stored e)) → u ≡ Some x
      → o ≡ checked (back_from s.count s.given.m s.cells (pivot_of s) x) → o ≡ Some y → (y ≡ last) × (in_range last ≡ true)
  found f {x} {y} eu wu eo wo =
      let r = is_some (unit_vector s.row (stored e)) x (sym eu ∙ wu) in
      let is = ap (back_from s.count s.given.m s.cells (pivot_of s)) (r.0 ∙ ap (unit_vector s.row) (stored_is f)) in
      let v = is_some (back_from s.count s.given.m s.cells (pivot_of s) x) y (sym eo ∙ wo) in
      (v.0 ∙ is, ap in_range (sym is) ∙ v.1)

pub returns-in_err-first : goal.returns-in_err-first
returns-in_err-first c =
    let s = c.args.self.now in
    let e = c.args.e in
    let out = ap in_range (ap (unit_vector s.row) (sym (stored_is c.ranges.e))) ∙ is_none (unit_vector s.row (stored e)) (sym c.unit_vector.ensures ∙ c.in_err-first.was) in
    c.from_residual.ensures ∙ out_last s e (ap in_range (out_first s e out) ∙ out)

pub back_from-requires : goal.back_from-requires
back_from-requires c =
    let s = c.args.self.now in
    let r = is_some (unit_vector s.row (stored c.args.e)) c.in_ok-first.first (sym c.unit_vector.ensures ∙ c.in_ok-first.was) in
    let is = r.0 ∙ ap (unit_vector s.row) (stored_is c.ranges.e) in
    let ok = ap in_range (ap (unit_vector s.row) (sym (stored_is c.ranges.e))) ∙ r.1 in
    (subst (Backs s.cells s.given.m s.pivots s.count) (sym is) (backs s c.args.e c.requires ok), ap in_range is ∙ ok)

pub returns-in_err-v : goal.returns-in_err-v
returns-in_err-v c =
    let s = c.args.self.now in
    let x = c.in_ok-first.first in
    let r = is_some (unit_vector s.row (stored c.args.e)) x (sym c.unit_vector.ensures ∙ c.in_ok-first.was) in
    let is = ap (back_from s.count s.given.m s.cells (pivot_of s)) (r.0 ∙ ap (unit_vector s.row) (stored_is c.ranges.e)) in
    c.from_residual-in_err-v.ensures ∙ out_last s c.args.e (ap in_range (sym is) ∙ is_none (back_from s.count s.given.m s.cells (pivot_of s) x) (sym c.back_from.ensures ∙ c.in_err-v.was))

pub returns-then-e-ne0 : goal.returns-then-e-ne0
returns-then-e-ne0 c =
    let s = c.args.self.now in
    let v = found s c.args.e c.ranges.e c.unit_vector.ensures c.in_ok-first.was c.back_from.ensures c.in_ok-v.was in
    ap (λ (v : Vector). Some v) v.0 ∙ with_pivot s c.args.e v.1 (is_zero_no c.args.e c.ranges.e c.if-e-ne0.true)

pub constant_sum-s-requires : goal.constant_sum-s-requires
constant_sum-s-requires c =
    let v = found c.args.self.now c.args.e c.ranges.e c.unit_vector.ensures c.in_ok-first.was c.back_from.ensures c.in_ok-v.was in
    (c.requires.rows, subst (λ (v : Vector). Bounded v.p) (sym v.0) (numerators c.args.self.now c.args.e v.1), c.requires.consts)

pub non_divisor-requires : goal.non_divisor-requires
non_divisor-requires c =
    let s = c.args.self.now in
    let v = found s c.args.e c.ranges.e c.unit_vector.ensures c.in_ok-first.was c.back_from.ensures c.in_ok-v.was in
    let p = subst (λ (v : Vector). Bounded v.p) (sym v.0) (numerators s c.args.e v.1) in
    let sum = stored_is (record { sfits = c.constant_sum-s.type_inv }) ∙ c.constant_sum-s.ensures in
    subst (λ (x : ℤ). nat_abs x < 2 ^ 62) (sym sum) (omega (arith, dot_small (at c.in_ok-v.v.p) (const_of s.given) p.place c.requires.consts.place s.given.m c.requires.rows))

pub returns : goal.returns
returns c =
    let s = c.args.self.now in
    let g = s.given in
    let v = found s c.args.e c.ranges.e c.unit_vector.ensures c.in_ok-first.was c.back_from.ensures c.in_ok-v.was in
    let sum = stored_is (record { sfits = c.constant_sum-s.type_inv }) ∙ c.constant_sum-s.ensures in
    let q = stored_is (record { sfits = c.non_divisor.type_inv }) ∙ c.non_divisor.ensures ∙ ap (λ (x : ℤ). pos (non_divisor x)) sum in
    c.checked.ensures
    ∙ ap (λ (q : ℤ). checked (record { p = c.in_ok-v.v.p; q = q })) q
    ∙ ap (λ (v : Vector). checked (record { p = v.p; q = pos (non_divisor (dot g.m (at v.p) (const_of g))) })) v.0
    ∙ without_pivot s c.args.e v.1 (is_zero_yes c.args.e c.ranges.e c.if-e-ne0.false)
