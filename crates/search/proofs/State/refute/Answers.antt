use Rattle.std.proofs.Common.{◌≡◌, ◌<◌, ◌^◌, ◌&&◌, ℕ, SFits, w64, Bool, true, false, List, ℤ, nat_abs, refl, sym, ◌∙◌, ap, ap₂, subst, arith}
use Rattle.integers.specs.Range.{is_zero}
use Rattle.integers.proofs.Laws.Bits.{fits, stored, stored_is}
use Rattle.search.specs.State.{State, pivot_of}
use Rattle.search.specs.Vector.{Vector, in_range, unit_vector, back_from, denominator_by, vector_of}
use Rattle.search.specs.Step.{close_table, refute_by, close_by}
use Rattle.search.specs.Code.{Vectorable}
use Rattle.search.proofs.Laws.Close.{with_table, vectorable}
use Rattle.search.proofs.Laws.Vector.{is_some, is_none, vector_in_range}
use Rattle.search.proofs.State.refute.Goals as goal

vectorable_with : (s : State) (t : List ℤ) → Vectorable s t → Vectorable (with_table s t) t
vectorable_with s t h = record { rows = h.rows; row_in = h.row_in; columns = h.columns; bounded = h.bounded; consts = h.consts; row = h.row; pivot = h.pivot }

vector_with : (s : State) (t : List ℤ) (e : ℤ) → vector_of (with_table s t) t e ≡ vector_of s t e
unfolding vector_of denominator_by
vector_with s t e = go (in_range last && is_zero e)
  where
    last : Vector
    last = back_from s.count s.given.m t (pivot_of s) (unit_vector s.row e)

    go : (b : Bool) → denominator_by b (with_table s t) last ≡ denominator_by b s last
    go true = refl
    go false = refl

-- the definition, by the test's answer
way : (s : State) (t : List ℤ) (e : ℤ) (b : Bool) → in_range (vector_of s t e) ≡ b → refute_by b s t (vector_of s t e) ≡ close_by false s t e
unfolding close_by
way s t e b h = ap (λ (x : Bool). refute_by x s t (vector_of s t e)) (sym h)

pub vector-requires : goal.vector-requires
vector-requires c =
    let s = c.args.self in
    vectorable_with s c.close_table.new.cells (subst (Vectorable s) (sym c.close_table.ensures) (vectorable s c.args.j c.requires))

-- the vector that is asked for
vector_is : (s : State) (j : ℕ) (e : ℤ) (t : List ℤ) → SFits w64 e → t ≡ close_table s.cells s.row j s.count → vector_of (with_table s t) t (stored e) ≡ vector_of s (close_table s.cells s.row j s.count) e
vector_is s j e t f is = vector_with s t (stored e) ∙ ap₂ (vector_of s) is (stored_is f)

pub returns-in_default : goal.returns-in_default
unfolding refute_by
returns-in_default c =
    let s = c.args.self in
    let e = c.args.e in
    let t = c.close_table.new.cells in
    let is = vector_is s c.args.j e t c.ranges.e c.close_table.ensures in
    let out = is_none (vector_of (with_table s t) t (stored e)) (sym c.vector.ensures ∙ c.in_default.is) in
    c.too_large.ensures ∙ way s (close_table s.cells s.row c.args.j s.count) e false (ap in_range (sym is) ∙ out)

pub returns : goal.returns
unfolding refute_by
returns c =
    let s = c.args.self in
    let e = c.args.e in
    let t = c.close_table.new.cells in
    let T = close_table s.cells s.row c.args.j s.count in
    let is = vector_is s c.args.j e t c.ranges.e c.close_table.ensures in
    let v = is_some (vector_of (with_table s t) t (stored e)) c.in-Some.v (sym c.vector.ensures ∙ c.in-Some.is) in
    let ok = ap in_range (sym is) ∙ v.1 in
    let small = (vector_in_range s T e ok).denominator in
    let q = stored_is (fits c.in-Some.v.q (subst (λ (v : Vector). nat_abs v.q < 2 ^ 63) (sym (v.0 ∙ is)) (omega arith))) in
    ap (λ (q : ℤ). refute_by true s t (record { p = c.in-Some.v.p; q = q })) q ∙ ap₂ (refute_by true s) c.close_table.ensures (v.0 ∙ is) ∙ way s T e true ok
