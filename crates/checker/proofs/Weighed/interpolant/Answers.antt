use Rattle.std.proofs.Common.{◌≡◌, ℕ, ◌<◌, ◌≤◌, refl, sym, ◌∙◌, ap, ap₂, subst, arith, length, List, ℤ, pos, nat_abs, ◌*ℤ◌}
use Rattle.integers.specs.Gcd.{gcd_from}
use Rattle.integers.specs.Run.{at, tabulate}
use Rattle.integers.proofs.Laws.Bits.{stored, stored_is}
use Rattle.integers.proofs.Laws.Run.{tabulate-at, tabulate_ext}
use Rattle.problem.specs.Rows.{side_of}
use Rattle.problem.specs.Occurrence.{occurs}
use Rattle.problem.specs.Lent.{lent}
use Rattle.checker.specs.Refutation.{numerator}
use Rattle.checker.specs.Fact.{raw_fact, modulus_of}
use Rattle.checker.specs.Answer.{stated, interpolant_for}
use Rattle.checker.specs.Code.{shared_sum, local_sum, largest, fact_of, short_form}
use Rattle.checker.proofs.Laws.Bounds.{raw_small}
use Rattle.checker.proofs.Laws.Short.{Agree, agree_trans, short_ext, short_same}
use Rattle.checker.proofs.Laws.Sums.{side_dot, side_gcd}
use Rattle.checker.proofs.Weighed.interpolant.Goals as goal

modulus_is : (n ma mb : ℕ) (a b p : List ℤ) → let A = side_of n ma a in
    modulus_of n (occurs A) (occurs (side_of n mb b)) A (numerator p) ≡ gcd_from (gcd_from (pos 0) n (local_sum n ma mb a b p)) ma (λ i. numerator p i *ℤ A.modulus i)
unfolding modulus_of
modulus_is n ma mb a b p = refl

pub normalise-requires : goal.normalise-requires
normalise-requires c =
    let s = c.args.self.now in
    let P = s.rows.problem in
    let A = side_of P.n P.ma P.a.now in
    let B = side_of P.n P.mb P.b.now in
    let raw = raw_fact P.n (occurs A) (occurs B) A (numerator s.p.now) in
    let new = c.shared_sums-local.new.coeffs in
    let a = c.a.ensures in
    let a' = c.a-2.ensures in
    let modulus = c.moduli_gcd-modulus.ensures
    ∙ side_gcd a.n a.m a.run (at c.a.result.weights.now) (numerator s.p.now) a.weights (pos c.shared_sums-local.result)
    ∙ ap (λ g. gcd_from g P.ma (λ i. numerator s.p.now i *ℤ A.modulus i)) (c.shared_sums-local.ensures.result_value ∙ ap (λ (n : ℕ). gcd_from (pos 0) n (lent local_sum P s.p.now)) c.requires)
    ∙ sym (modulus_is P.n P.ma P.mb P.a.now P.b.now s.p.now) in
    let constant = stored_is (record { sfits = c.column_sum-constant.type_inv }) ∙ c.column_sum-constant.ensures.value ∙ side_dot a'.n a'.m a'.run (at c.a-2.result.weights.now) (numerator s.p.now) a'.weights P.n in
    let coefs : (j : ℕ) → j < P.n → at new j ≡ lent shared_sum P s.p.now j =
    λ j l. ap (λ (run : List ℤ). at run j) c.shared_sums-local.ensures.coeffs_after ∙ tabulate-at (length c.args.coeffs.now) (lent shared_sum P s.p.now) j (omega (arith, c.requires)) in
    let handed = fact_of new (stored c.column_sum-constant.result) (pos c.moduli_gcd-modulus.result) in
    let same : Agree P.n handed raw = record { coefs = coefs; const = constant; modulus = modulus } in
    let small = raw_small P.n P.ma P.mb P.a.now P.b.now s.p.now (record { well-formed = s.rows.well_formed; numerators = record { in_range = λ i l. s.in_range i } }) in
    record {
      coefs = λ j l. let i : j < P.n = omega (arith, c.requires, c.shared_sums-local.auto.coeffs) in subst (λ x. nat_abs x ≤ largest) (sym (coefs j i)) (small.coefs j i);
      const = subst (λ x. nat_abs x ≤ largest) (sym constant) small.const;
      modulus = subst (λ x. nat_abs x ≤ largest) (sym modulus) small.modulus;
    }

pub returns-clause-value : goal.returns-clause-value
returns-clause-value c =
    let s = c.args.self.now in
    let P = s.rows.problem in
    let A = side_of P.n P.ma P.a.now in
    let B = side_of P.n P.mb P.b.now in
    let raw = raw_fact P.n (occurs A) (occurs B) A (numerator s.p.now) in
    let new = c.shared_sums-local.new.coeffs in
    let a = c.a.ensures in
    let a' = c.a-2.ensures in
    let modulus = c.moduli_gcd-modulus.ensures
    ∙ side_gcd a.n a.m a.run (at c.a.result.weights.now) (numerator s.p.now) a.weights (pos c.shared_sums-local.result)
    ∙ ap (λ g. gcd_from g P.ma (λ i. numerator s.p.now i *ℤ A.modulus i)) (c.shared_sums-local.ensures.result_value ∙ ap (λ (n : ℕ). gcd_from (pos 0) n (lent local_sum P s.p.now)) c.requires)
    ∙ sym (modulus_is P.n P.ma P.mb P.a.now P.b.now s.p.now) in
    let constant = stored_is (record { sfits = c.column_sum-constant.type_inv }) ∙ c.column_sum-constant.ensures.value ∙ side_dot a'.n a'.m a'.run (at c.a-2.result.weights.now) (numerator s.p.now) a'.weights P.n in
    let coefs : (j : ℕ) → j < P.n → at new j ≡ lent shared_sum P s.p.now j =
    λ j l. ap (λ (run : List ℤ). at run j) c.shared_sums-local.ensures.coeffs_after ∙ tabulate-at (length c.args.coeffs.now) (lent shared_sum P s.p.now) j (omega (arith, c.requires)) in
    let handed = fact_of new (stored c.column_sum-constant.result) (pos c.moduli_gcd-modulus.result) in
    let same : Agree P.n handed raw = record { coefs = coefs; const = constant; modulus = modulus } in
    let long = c.shared_sums-local.auto.coeffs ∙ c.requires in
    let e = agree_trans (short_ext P.n handed raw same) (short_same P.n raw) in
    c.normalise.ensures.value ∙ ap (λ (n : ℕ). stated (short_form n handed)) long ∙ ap₂ (λ (k m : ℤ). record { constant = k; modulus = m }) e.const e.modulus

pub returns-clause-coeffs_after : goal.returns-clause-coeffs_after
returns-clause-coeffs_after c =
    let s = c.args.self.now in
    let P = s.rows.problem in
    let A = side_of P.n P.ma P.a.now in
    let B = side_of P.n P.mb P.b.now in
    let raw = raw_fact P.n (occurs A) (occurs B) A (numerator s.p.now) in
    let new = c.shared_sums-local.new.coeffs in
    let a = c.a.ensures in
    let a' = c.a-2.ensures in
    let modulus = c.moduli_gcd-modulus.ensures
    ∙ side_gcd a.n a.m a.run (at c.a.result.weights.now) (numerator s.p.now) a.weights (pos c.shared_sums-local.result)
    ∙ ap (λ g. gcd_from g P.ma (λ i. numerator s.p.now i *ℤ A.modulus i)) (c.shared_sums-local.ensures.result_value ∙ ap (λ (n : ℕ). gcd_from (pos 0) n (lent local_sum P s.p.now)) c.requires)
    ∙ sym (modulus_is P.n P.ma P.mb P.a.now P.b.now s.p.now) in
    let constant = stored_is (record { sfits = c.column_sum-constant.type_inv }) ∙ c.column_sum-constant.ensures.value ∙ side_dot a'.n a'.m a'.run (at c.a-2.result.weights.now) (numerator s.p.now) a'.weights P.n in
    let coefs : (j : ℕ) → j < P.n → at new j ≡ lent shared_sum P s.p.now j =
    λ j l. ap (λ (run : List ℤ). at run j) c.shared_sums-local.ensures.coeffs_after ∙ tabulate-at (length c.args.coeffs.now) (lent shared_sum P s.p.now) j (omega (arith, c.requires)) in
    let handed = fact_of new (stored c.column_sum-constant.result) (pos c.moduli_gcd-modulus.result) in
    let same : Agree P.n handed raw = record { coefs = coefs; const = constant; modulus = modulus } in
    let long = c.shared_sums-local.auto.coeffs ∙ c.requires in
    let e = agree_trans (short_ext P.n handed raw same) (short_same P.n raw) in
    c.normalise.ensures.coeffs_after ∙ ap (λ (n : ℕ). tabulate n (short_form n handed).coef) long
    ∙ tabulate_ext P.n (short_form P.n handed).coef (lent interpolant_for P s.p.now).coef e.coefs ∙ ap (λ (n : ℕ). tabulate n (lent interpolant_for P s.p.now).coef) (sym c.requires)
