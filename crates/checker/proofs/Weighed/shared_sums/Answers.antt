use Rattle.std.proofs.Common.{◌≡◌, ℕ, refl, sym, ◌∙◌, ap, ap₂, arith, rules, length, List, ℤ, pos, nat_abs, slice_set}
use mir.Syntax.{w64}
use mir.Val.{SFits}
use Rattle.integers.specs.Gcd.{gcd_ℕ, gcd_from}
use Rattle.integers.proofs.Laws.Bits.{stored_is}
use Rattle.integers.proofs.Laws.Gcd.{gcd_from_none, gcd_from_turn}
use Rattle.integers.proofs.Laws.Run.{filled, filled_none, filled_more, filled_all}
use Rattle.problem.specs.Lent.{lent}
use Rattle.checker.specs.Code.{shared_sum, local_sum}
use Rattle.checker.proofs.Weighed.shared_sums.Goals as goal

pub loop-j-init : goal.loop-j-init
loop-j-init c = record { gcd = sym (gcd_from_none _ _); written = filled_none _ c.args.coeffs.now }

pub loop-j-preserved : goal.loop-j-preserved
loop-j-preserved c =
    let s = c.args.self.now in
    let shared : SFits w64 c.parts-parts.result.shared = search rules in
    let local : SFits w64 c.parts-parts.result.local = search rules in
    record {
      gcd = gcd_from_turn (pos 0) c.loop-j.j (lent local_sum s.rows.problem s.p.now) c.loop-j.local _ c.loop-j.invariant.gcd
          (c.gcd-local.ensures ∙ ap (gcd_ℕ c.loop-j.local) (c.magnitude.ensures ∙ ap nat_abs (stored_is local ∙ c.parts-parts.ensures.local)));
      written = ap₂ (λ (run : List ℤ) (x : ℤ). slice_set run c.loop-j.j x) c.loop-j.invariant.written (stored_is shared ∙ c.parts-parts.ensures.shared)
          ∙ filled_more c.loop-j.j (lent shared_sum s.rows.problem s.p.now) c.args.coeffs.now;
    }

pub returns-clause-result_value : goal.returns-clause-result_value
returns-clause-result_value c =
    let s = c.args.self.now in
    let all : c.loop-j.j ≡ length c.args.coeffs.now = omega arith in
    c.loop-j.invariant.gcd ∙ ap (λ (k : ℕ). gcd_from (pos 0) k (lent local_sum s.rows.problem s.p.now)) all

pub returns-clause-coeffs_after : goal.returns-clause-coeffs_after
returns-clause-coeffs_after c =
    let f = lent shared_sum c.args.self.now.rows.problem c.args.self.now.p.now in
    let all : c.loop-j.j ≡ length c.args.coeffs.now = omega arith in
    c.loop-j.invariant.written ∙ ap (λ (k : ℕ). filled k f c.args.coeffs.now) all ∙ filled_all (length c.args.coeffs.now) f c.args.coeffs.now refl
