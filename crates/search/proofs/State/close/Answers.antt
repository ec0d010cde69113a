use Rattle.std.proofs.Common.{◌≡◌, Bool, true, false, ℕ, ◌<◌, ◌^◌, ℤ, pos, nat_abs, sym, ◌∙◌, ap, ap₂, SFits, w64}
use lib.Signed.{mag}
use Rattle.integers.specs.Range.{is_zero, within}
use Rattle.integers.specs.Divisibility.{divides}
use Rattle.integers.proofs.Laws.Bits.{stored, stored_is}
use Rattle.search.specs.Table.{bound, cell}
use Rattle.search.specs.State.{State}
use Rattle.search.specs.Step.{close_table, residual_of, passed, placed, place_by, go_on_by, close_by, close_of}
use Rattle.search.specs.Code.{Closable}
use Rattle.search.proofs.Laws.Close.{entry_is, residual_before, residual_small, closes, go_on_way, place_way, unmoved, goes_on, placed_with}
use Rattle.search.proofs.Laws.Sums.{is_zero_yes, is_zero_no, quotient_need, quotient_is}
use Rattle.search.proofs.State.close.Goals as goal

-- the entry that is not 0, its magnitude and the residual, as the code has them
record Known (s : State) (j : ℕ) (e r : ℤ) : Type 0 where
  holds : Closable s j
  e_fits : SFits w64 e
  e_is : e ≡ cell (close_table s.cells s.row j s.count) s.row s.count
  r_fits : SFits w64 r
  r_is : r ≡ residual_of s (close_table s.cells s.row j s.count)

known : {s : State} {j : ℕ} {x e r : ℤ} → Closable s j → mag x < 2 ^ 63 → x ≡ cell s.cells s.row j → mag e < 2 ^ 63 → e ≡ pos (nat_abs (stored x)) → mag r < 2 ^ 63 → r ≡ residual_of s s.cells → Known s j e r
known {s} {j} {x} h fx ix fe ie fr ir = record {
  holds = h;
  e_fits = record { sfits = fe };
  e_is = ie ∙ ap (λ (x : ℤ). pos (nat_abs x)) (stored_is {z = x} (record { sfits = fx }) ∙ ix) ∙ sym (entry_is s j h);
  r_fits = record { sfits = fr };
  r_is = ir ∙ residual_before s j h;
}

module _ {s : State} {j : ℕ} {e r : ℤ} (n : Known s j e r) where
  entry : stored e ≡ cell (close_table s.cells s.row j s.count) s.row s.count
  entry = stored_is n.e_fits ∙ n.e_is

  rest : stored r ≡ residual_of s (close_table s.cells s.row j s.count)
  rest = stored_is n.r_fits ∙ n.r_is

  -- the definition, by the answers of its tests
  divided : (b : Bool) → b ≡ divides (stored e) (stored r) → close_by b s (close_table s.cells s.row j s.count) (cell (close_table s.cells s.row j s.count) s.row s.count) ≡ close_of s j
  divided b h = closes s j n.holds b (h ∙ ap₂ divides entry rest)

  none : is_zero e ≡ true → is_zero (cell s.cells s.row j) ≡ true
  none z = sym (ap is_zero (entry_is s j n.holds)) ∙ sym (ap is_zero n.e_is) ∙ z

pub returns-then-not-divides : goal.returns-then-not-divides
returns-then-not-divides c =
    let s = c.args.self in
    let n = known c.requires c.get.type_inv c.get.ensures c.abs-e.type_inv c.abs-e.ensures.value c.residual-r.type_inv c.residual-r.ensures in
    c.refute.ensures ∙ ap (close_by false s (close_table s.cells s.row c.args.j s.count)) (entry n) ∙ divided n false (sym c.if-not-divides.true ∙ c.divides.ensures)

pub close_last-requires : goal.close_last-requires
close_last-requires c =
    let n = known c.requires c.get.type_inv c.get.ensures c.abs-e.type_inv c.abs-e.ensures.value c.residual-r.type_inv c.residual-r.ensures in
    (c.requires, rest n)

pub returns-then-row-self : goal.returns-then-row-self
returns-then-row-self c =
    let s = c.args.self in
    let n = known c.requires c.get.type_inv c.get.ensures c.abs-e.type_inv c.abs-e.ensures.value c.residual-r.type_inv c.residual-r.ensures in
    c.close_last.ensures ∙ ap (close_by true s (close_table s.cells s.row c.args.j s.count)) (entry n) ∙ divided n true (sym c.if-not-divides.false ∙ c.divides.ensures)

pub returns-then-e-eq0 : goal.returns-then-e-eq0
unfolding passed go_on_by
returns-then-e-eq0 c =
    let s = c.args.self in
    let n = known c.requires c.get.type_inv c.get.ensures c.abs-e.type_inv c.abs-e.ensures.value c.residual-r.type_inv c.residual-r.ensures in
    let t = close_table s.cells s.row c.args.j s.count in
    let z = is_zero_yes c.abs-e.result n.e_fits c.if-e-eq0.true in
    c.pass.ensures
    ∙ ap (passed s) (sym (unmoved s c.args.j c.requires (none n z)))
    ∙ sym (goes_on s (passed s t) c.if-row-self.false)
    ∙ go_on_way s t (cell t s.row s.count) true (sym (ap is_zero n.e_is) ∙ z)
    ∙ divided n true (sym c.if-not-divides.false ∙ c.divides.ensures)

pub nonzero_div-z : goal.nonzero_div-z
nonzero_div-z c =
    let n = known c.requires c.get.type_inv c.get.ensures c.abs-e.type_inv c.abs-e.ensures.value c.residual-r.type_inv c.residual-r.ensures in
    quotient_need n.r_fits n.r_is n.e_fits n.e_is (residual_small c.args.self c.args.j c.requires) (sym (ap is_zero n.e_is) ∙ is_zero_no c.abs-e.result n.e_fits c.if-e-eq0.false)

pub returns-then-not-in_bound : goal.returns-then-not-in_bound
unfolding place_by
returns-then-not-in_bound c =
    let s = c.args.self in
    let n = known c.requires c.get.type_inv c.get.ensures c.abs-e.type_inv c.abs-e.ensures.value c.residual-r.type_inv c.residual-r.ensures in
    let t = close_table s.cells s.row c.args.j s.count in
    let some = sym (ap is_zero n.e_is) ∙ is_zero_no c.abs-e.result n.e_fits c.if-e-eq0.false in
    let z = quotient_is n.r_fits n.r_is n.e_fits n.e_is (residual_small s c.args.j c.requires) in
    c.too_large.ensures
    ∙ place_way s t (cell t s.row s.count) some false (sym c.if-not-in_bound.true ∙ c.in_bound.ensures ∙ ap (within bound) z)
    ∙ divided n true (sym c.if-not-divides.false ∙ c.divides.ensures)

pub returns : goal.returns
unfolding placed place_by
returns c =
    let s = c.args.self in
    let n = known c.requires c.get.type_inv c.get.ensures c.abs-e.type_inv c.abs-e.ensures.value c.residual-r.type_inv c.residual-r.ensures in
    let t = close_table s.cells s.row c.args.j s.count in
    let some = sym (ap is_zero n.e_is) ∙ is_zero_no c.abs-e.result n.e_fits c.if-e-eq0.false in
    let z = quotient_is n.r_fits n.r_is n.e_fits n.e_is (residual_small s c.args.j c.requires) in
    c.place.ensures
    ∙ placed_with s c.close_table.new.cells _
    ∙ ap₂ (placed s) c.close_table.ensures z
    ∙ sym (goes_on s (placed s t _) c.if-row-self.false)
    ∙ place_way s t (cell t s.row s.count) some true (sym c.if-not-in_bound.false ∙ c.in_bound.ensures ∙ ap (within bound) z)
    ∙ divided n true (sym c.if-not-divides.false ∙ c.divides.ensures)
