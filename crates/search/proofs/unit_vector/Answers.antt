use Rattle.std.proofs.Common.{◌≡◌, Bool, cond, ℕ, ◌<◌, List, set, replicate, ℤ, pos, ◌∙◌, sym, ap, ap₂}
use Rattle.integers.specs.Range.{is_zero}
use Rattle.integers.proofs.Laws.Bits.{stored_is}
use Rattle.integers.proofs.Laws.Run.{tabulate-set, tabulate_zeros}
use Rattle.search.specs.Vector.{checked, unit_vector}
use Rattle.search.proofs.Laws.Sums.{is_zero_yes, is_zero_no}
use Rattle.search.proofs.unit_vector.Goals as goal

made : (i : ℕ) (q e : ℤ) → i < 12 → q ≡ cond (is_zero e) (pos 1) e → checked (record { p = set (replicate 12 (pos 0)) i (pos 1); q = q }) ≡ checked (unit_vector i e)
unfolding unit_vector
made i q e h is =
    ap₂ (λ (p : List ℤ) (q : ℤ). checked (record { p = p; q = q }))
    (ap (λ (run : List ℤ). set run i (pos 1)) (tabulate_zeros 12) ∙ tabulate-set 12 (λ k. pos 0) i (pos 1) h) is

pub returns-then-e-eq0 : goal.returns-then-e-eq0
returns-then-e-eq0 c =
    let e = c.args.e in
    c.checked.ensures ∙ made c.args.i (pos 1) e c.requires (sym (ap (λ (b : Bool). cond b (pos 1) e) (is_zero_yes e c.ranges.e c.if-e-eq0.true)))

pub returns : goal.returns
returns c =
    let e = c.args.e in
    c.checked-2.ensures ∙ made c.args.i _ e c.requires (stored_is c.ranges.e ∙ sym (ap (λ (b : Bool). cond b (pos 1) e) (is_zero_no e c.ranges.e c.if-e-eq0.false)))
