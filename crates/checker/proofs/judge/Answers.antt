use Rattle.std.proofs.Common.{ℕ, sym, ◌∙◌, ap, ap₂, length, List, ℤ}
use Rattle.std.specs.Prelude.{Option}
use Rattle.integers.specs.Run.{tabulate}
use Rattle.integers.proofs.Laws.Bits.{stored_is}
use Rattle.problem.specs.Lent.{lent}
use Rattle.problem.specs.Refusal.{number_or_none}
use Rattle.problem.specs.declared.Problem.{Problem}
use Rattle.problem.specs.declared.Refusal.{Refusal}
use Rattle.checker.specs.Refutation.{refusal}
use Rattle.checker.specs.Answer.{run_of, interpolant_for}
use Rattle.checker.proofs.Laws.Refusal.{refusal_none}
use Rattle.checker.proofs.judge.Goals as goal

pub interpolant-requires : goal.interpolant-requires
interpolant-requires c =
    let P = c.args.problem.now in
    let p = c.args.p.now in
    let coeffs = c.args.coeffs.now in
    let none = c.in_ok-weighed.ensures.refusal ∙ ap (λ q. refusal P.n P.ma P.mb P.a.now P.b.now q p (length coeffs)) (stored_is c.ranges.q) in
    let long = (refusal_none P.n P.ma P.mb P.a.now P.b.now c.args.q p (length coeffs) (ap number_or_none (sym none))).1 in
    let weighed = c.in_ok-weighed.ensures.weighed in
    long ∙ ap (λ (P : Problem). P.n) (sym weighed.0)

pub returns-clause-coeffs_after : goal.returns-clause-coeffs_after
returns-clause-coeffs_after c =
    let P = c.args.problem.now in
    let p = c.args.p.now in
    let coeffs = c.args.coeffs.now in
    let none = c.in_ok-weighed.ensures.refusal ∙ ap (λ q. refusal P.n P.ma P.mb P.a.now P.b.now q p (length coeffs)) (stored_is c.ranges.q) in
    let long = (refusal_none P.n P.ma P.mb P.a.now P.b.now c.args.q p (length coeffs) (ap number_or_none (sym none))).1 in
    let weighed = c.in_ok-weighed.ensures.weighed in
    c.interpolant.ensures.coeffs_after
    ∙ ap₂ (λ (P : Problem) (p : List ℤ). tabulate (length coeffs) (lent interpolant_for P p).coef) weighed.0 weighed.1
    ∙ ap (λ (n : ℕ). tabulate n (lent interpolant_for P p).coef) long
    ∙ ap (λ (r : Option Refusal). run_of r P.n (lent interpolant_for P p) coeffs) none
