use Rattle.std.proofs.Common.{◌≡◌, ℕ, suc, ◌-◌, false, get_or, sym, ◌∙◌, ap, subst, arith}
use Rattle.search.specs.Vector.{in_range, checked, back_one, back_from}
use Rattle.search.specs.Code.{Backs}
use Rattle.search.proofs.Laws.Vector.{number_none, some_is, is_some, is_none, back_none, back_more, back_stops, back_in_range, range_bounded}
use Rattle.search.proofs.back_from.Goals as goal

pub back_one-requires : goal.back_one-requires
back_one-requires c =
    let b = c.loop-k.invariant.backs in
    let k = c.loop-k.k - 1 in
    let few = b.columns in
    record {
      rows = b.rows;
      row = b.row k (omega arith);
      column = omega arith;
      bounded = b.bounded;
      numerators = b.numerators;
      denominator = b.denominator;
      pivot = b.pivot k (omega arith);
    }

pub returns-in_err-v : goal.returns-in_err-v
returns-in_err-v c =
    let a = c.args in
    let t = a.cells.now in
    let pivot : ℕ → ℕ = λ j. get_or a.pivots.now j 0 in
    let k = c.loop-k.k - 1 in
    let i = c.loop-k.invariant in
    let one = back_one a.m t (pivot k) k c.loop-k.v in
    let out : in_range one ≡ false = is_none one (sym c.back_one.ensures ∙ c.in_err-v.was) in
    let up : c.loop-k.k ≡ suc k = omega arith in
    let e : back_from a.count a.m t pivot a.first ≡ one =
    sym i.same ∙ ap (λ (n : ℕ). back_from n a.m t pivot c.loop-k.v) up ∙ back_more a.m t pivot k c.loop-k.v i.whole ∙ back_stops a.m t pivot k one out in
    c.from_residual.ensures ∙ number_none one out ∙ ap checked (sym e)

pub loop-k-preserved : goal.loop-k-preserved
loop-k-preserved c =
    let a = c.args in
    let t = a.cells.now in
    let pivot : ℕ → ℕ = λ j. get_or a.pivots.now j 0 in
    let k = c.loop-k.k - 1 in
    let i = c.loop-k.invariant in
    let b = i.backs in
    let one = back_one a.m t (pivot k) k c.loop-k.v in
    let r = is_some one c.in_ok-v.v (sym c.back_one.ensures ∙ c.in_ok-v.was) in
    let up : suc k ≡ c.loop-k.k = omega arith in
    let h = back_in_range a.m t (pivot k) k c.loop-k.v r.1 in
    record {
      backs = subst (Backs t a.m a.pivots.now a.count) (sym r.0)
          (record { rows = b.rows; columns = b.columns; bounded = b.bounded; row = b.row; pivot = b.pivot; numerators = range_bounded h; denominator = omega (arith, h.denominator) });
      whole = ap in_range r.0 ∙ r.1;
      same = ap (back_from k a.m t pivot) r.0 ∙ sym (back_more a.m t pivot k c.loop-k.v i.whole) ∙ ap (λ (n : ℕ). back_from n a.m t pivot c.loop-k.v) up ∙ i.same;
    }

pub returns : goal.returns
returns c =
    let a = c.args in
    let t = a.cells.now in
    let pivot : ℕ → ℕ = λ j. get_or a.pivots.now j 0 in
    let i = c.loop-k.invariant in
    let none : c.loop-k.k ≡ 0 = omega arith in
    some_is c.loop-k.v i.whole ∙ ap checked (sym (back_none a.m t pivot c.loop-k.v) ∙ ap (λ (n : ℕ). back_from n a.m t pivot c.loop-k.v) (sym none) ∙ i.same)
