use Rattle.std.proofs.Common.{◌+◌, refl, sym, ◌∙◌, ap, ap₂, arith, length, ◌+ℤ◌}
use Rattle.std.specs.Prelude.{Some, None}
use Rattle.std.proofs.lemmas.Result.{err_from_is_err_and}
use mathlib.Core.Bool.{true, false}
use native.Mathlib.Decide.{dec_lt}
use Rattle.integers.specs.Divisibility.{divides}
use Rattle.integers.specs.Sum.{dot}
use Rattle.integers.proofs.Laws.Bits.{stored, stored_is}
use Rattle.integers.proofs.Laws.Run.{at_end}
use Rattle.problem.specs.Rows.{rows_of}
use Rattle.problem.specs.Lent.{lent}
use Rattle.problem.specs.declared.Problem.{Problem}
use Rattle.checker.specs.Refutation.{numerator, is_vector, are_numerators, divides_sums}
use Rattle.checker.specs.Code.{numbers, weights}
use Rattle.checker.proofs.Laws.Refusal.{by_vector, by_numerators, after_problem, by_tests}
use Rattle.checker.proofs.Laws.Sums.{constant_total}
use Rattle.checker.proofs.accepted.Goals as goal

pub returns-in_err-rows-clause-refusal : goal.returns-in_err-rows-clause-refusal
returns-in_err-rows-clause-refusal c =
    let P = c.args.problem.now in
    let e = err_from_is_err_and c.from_residual.result c.from_residual.ensures.1 in
    rw (e.1, e.2) (after_problem P.n P.ma P.mb P.a.now P.b.now c.args.q c.args.p.now c.args.long (Some _) c.in_err-rows.ensures.refusal)

pub returns-then-not-is_vector-clause-refusal : goal.returns-then-not-is_vector-clause-refusal
returns-then-not-is_vector-clause-refusal c =
    let P = c.args.problem.now in
    let p = c.args.p.now in
    let q = c.args.q in
    let vector = sym c.if-not-is_vector.true ∙ c.is_vector.ensures ∙ ap (λ q. is_vector (P.ma + P.mb) q p) (stored_is c.ranges.q) in
    by_tests P.n P.ma P.mb P.a.now P.b.now q p c.args.long false _ _ _ vector refl refl refl
    ∙ after_problem P.n P.ma P.mb P.a.now P.b.now q p c.args.long None c.in_ok-rows.ensures.refusal

pub returns-then-not-all_within-clause-refusal : goal.returns-then-not-all_within-clause-refusal
returns-then-not-all_within-clause-refusal c =
    let P = c.args.problem.now in
    let p = c.args.p.now in
    let q = c.args.q in
    let vector = sym c.if-not-is_vector.false ∙ c.is_vector.ensures ∙ ap (λ q. is_vector (P.ma + P.mb) q p) (stored_is c.ranges.q) in
    let long = ((by_vector (P.ma + P.mb) q p).yes (sym vector)).long in
    let numerators = sym c.if-not-all_within.true ∙ c.all_within.ensures ∙ ap (λ m. are_numerators m (numerator p)) long in
    by_tests P.n P.ma P.mb P.a.now P.b.now q p c.args.long true false _ _ vector numerators refl refl
    ∙ after_problem P.n P.ma P.mb P.a.now P.b.now q p c.args.long None c.in_ok-rows.ensures.refusal

pub invariant_of-weighed : goal.invariant_of-weighed
invariant_of-weighed c =
    let P = c.args.problem.now in
    let p = c.args.p.now in
    let q = c.args.q in
    let vector = sym c.if-not-is_vector.false ∙ c.is_vector.ensures ∙ ap (λ q. is_vector (P.ma + P.mb) q p) (stored_is c.ranges.q) in
    let long = ((by_vector (P.ma + P.mb) q p).yes (sym vector)).long in
    let each = (by_numerators (length p) (numerator p)).yes (sym c.all_within.ensures ∙ c.if-not-all_within.false) in
    record { long = rw c.in_ok-rows.ensures.rows long; in_range = λ i. elim (dec_lt i (length p)) [ yes h ↦ each.in_range i h | no h ↦ rw (at_end p i (omega arith)) (omega arith) ] }

pub returns-then-not-divides_sums-clause-refusal : goal.returns-then-not-divides_sums-clause-refusal
returns-then-not-divides_sums-clause-refusal c =
    let P = c.args.problem.now in
    let p = c.args.p.now in
    let q = c.args.q in
    let vector = sym c.if-not-is_vector.false ∙ c.is_vector.ensures ∙ ap (λ q. is_vector (P.ma + P.mb) q p) (stored_is c.ranges.q) in
    let long = ((by_vector (P.ma + P.mb) q p).yes (sym vector)).long in
    let numerators = sym c.if-not-all_within.false ∙ c.all_within.ensures ∙ ap (λ m. are_numerators m (numerator p)) long in
    let sums = sym c.if-not-divides_sums.true ∙ c.divides_sums.ensures
    ∙ ap (λ (P : Problem). lent (λ n ma mb a b. divides_sums n (rows_of n ma mb a b) (stored q) (numerator p)) P) c.in_ok-rows.ensures.rows
    ∙ ap (λ q. divides_sums P.n (rows_of P.n P.ma P.mb P.a.now P.b.now) q (numerator p)) (stored_is c.ranges.q) in
    by_tests P.n P.ma P.mb P.a.now P.b.now q p c.args.long true true false _ vector numerators sums refl
    ∙ after_problem P.n P.ma P.mb P.a.now P.b.now q p c.args.long None c.in_ok-rows.ensures.refusal

pub returns-then-divides-clause-refusal : goal.returns-then-divides-clause-refusal
returns-then-divides-clause-refusal c =
    let P = c.args.problem.now in
    let p = c.args.p.now in
    let q = c.args.q in
    let vector = sym c.if-not-is_vector.false ∙ c.is_vector.ensures ∙ ap (λ q. is_vector (P.ma + P.mb) q p) (stored_is c.ranges.q) in
    let long = ((by_vector (P.ma + P.mb) q p).yes (sym vector)).long in
    let numerators = sym c.if-not-all_within.false ∙ c.all_within.ensures ∙ ap (λ m. are_numerators m (numerator p)) long in
    let sums = sym c.if-not-divides_sums.false ∙ c.divides_sums.ensures
    ∙ ap (λ (P : Problem). lent (λ n ma mb a b. divides_sums n (rows_of n ma mb a b) (stored q) (numerator p)) P) c.in_ok-rows.ensures.rows
    ∙ ap (λ q. divides_sums P.n (rows_of P.n P.ma P.mb P.a.now P.b.now) q (numerator p)) (stored_is c.ranges.q) in
    let total = stored_is (record { sfits = c.total.type_inv }) ∙ c.total.ensures
    ∙ ap (λ (P' : Problem). lent (λ n ma mb a b. dot ma (numerator p) (numbers n a P.n) +ℤ dot mb (weights p ma) (numbers n b P.n)) P') c.in_ok-rows.ensures.rows
    ∙ constant_total P.n P.ma P.mb P.a.now P.b.now p in
    let constants = sym c.if-divides.true ∙ c.divides.ensures ∙ ap₂ divides (stored_is c.ranges.q) total in
    by_tests P.n P.ma P.mb P.a.now P.b.now q p c.args.long true true true true vector numerators sums constants
    ∙ after_problem P.n P.ma P.mb P.a.now P.b.now q p c.args.long None c.in_ok-rows.ensures.refusal

pub returns-clause-refusal : goal.returns-clause-refusal
returns-clause-refusal c =
    let P = c.args.problem.now in
    let p = c.args.p.now in
    let q = c.args.q in
    let vector = sym c.if-not-is_vector.false ∙ c.is_vector.ensures ∙ ap (λ q. is_vector (P.ma + P.mb) q p) (stored_is c.ranges.q) in
    let long = ((by_vector (P.ma + P.mb) q p).yes (sym vector)).long in
    let numerators = sym c.if-not-all_within.false ∙ c.all_within.ensures ∙ ap (λ m. are_numerators m (numerator p)) long in
    let sums = sym c.if-not-divides_sums.false ∙ c.divides_sums.ensures
    ∙ ap (λ (P : Problem). lent (λ n ma mb a b. divides_sums n (rows_of n ma mb a b) (stored q) (numerator p)) P) c.in_ok-rows.ensures.rows
    ∙ ap (λ q. divides_sums P.n (rows_of P.n P.ma P.mb P.a.now P.b.now) q (numerator p)) (stored_is c.ranges.q) in
    let total = stored_is (record { sfits = c.total.type_inv }) ∙ c.total.ensures
    ∙ ap (λ (P' : Problem). lent (λ n ma mb a b. dot ma (numerator p) (numbers n a P.n) +ℤ dot mb (weights p ma) (numbers n b P.n)) P') c.in_ok-rows.ensures.rows
    ∙ constant_total P.n P.ma P.mb P.a.now P.b.now p in
    let constants = sym c.if-divides.false ∙ c.divides.ensures ∙ ap₂ divides (stored_is c.ranges.q) total in
    by_tests P.n P.ma P.mb P.a.now P.b.now q p c.args.long true true true false vector numerators sums constants
    ∙ after_problem P.n P.ma P.mb P.a.now P.b.now q p c.args.long None c.in_ok-rows.ensures.refusal
