use Rattle.std.proofs.Common.{◌≡◌, ℕ, ◌+◌, ◌*◌, ◌<◌, ◌≤◌, ◌^◌, List, ℤ, pos, neg_ℤ, nat_abs, ◌-ℤ◌, ◌*ℤ◌, set, sym, ◌∙◌, ap, ap₂, subst, SFits, of_z, w64, rules, arith}
use Rattle.std.specs.Int.Signed.{quot_z}
use lib.Signed.{mag}
use Rattle.integers.specs.Divisibility.{◌∣ℤ◌}
use Rattle.integers.specs.Gcd.{gcd_ℤ}
use Rattle.integers.specs.Run.{at, tabulate}
use Rattle.integers.proofs.Laws.Magnitude.{nat_abs_pos, nat_abs_neg}
use Rattle.integers.proofs.Laws.Order.{positive_ne}
use Rattle.integers.proofs.Laws.Division.{quot_le}
use Rattle.integers.proofs.Laws.Bits.{fits, fits_quot, bits_pos, stored, stored_is}
use Rattle.integers.proofs.Laws.Divisibility.{zero-∣}
use Rattle.integers.proofs.Laws.Gcd.{gcd_right}
use Rattle.integers.proofs.Laws.Run.{tabulate-set}
use Rattle.search.specs.Table.{bound, cell}
use Rattle.search.specs.Vector.{Vector, checked, column_sum, factor_of, back_one}
use Rattle.search.specs.Code.{Backable}
use Rattle.search.proofs.Laws.Sums.{dot_small}
use Rattle.search.proofs.Laws.Vector.{factor_plain, numerator_plain}
use Rattle.search.proofs.back_one.Goals as goal

-- the sum, the entry, their gcd, the factor
module _ (t : List ℤ) (m i k : ℕ) (v : Vector) (h : Backable t m i k v) where
  abbrev S : ℤ
  S = column_sum m t v.p k

  abbrev E : ℤ
  E = cell t i k

  abbrev G : ℤ
  G = gcd_ℤ S E

  abbrev F : ℤ
  F = factor_of S E

  sum_small : nat_abs S < 2 ^ 62
  unfolding column_sum
  sum_small = let l = dot_small (at v.p) (λ r. cell t r k) h.numerators.place (λ r. h.bounded.place (r * 24 + k)) m h.rows in omega arith

  entry_small : nat_abs E ≤ bound
  entry_small = h.bounded.place (i * 24 + k)

  divisor_some : 0 < nat_abs G
  divisor_some = nat_abs_pos G (λ z. positive_ne h.pivot (zero-∣ (subst (λ (x : ℤ). x ∣ℤ E) z (gcd_right S E))))

-- the same, as the code has them
record Known (t : List ℤ) (m i k : ℕ) (v : Vector) (s e g : ℤ) : Type 0 where
  holds : Backable t m i k v
  s_fits : SFits w64 s
  s_is : s ≡ S t m i k v holds
  e_fits : SFits w64 e
  e_is : e ≡ E t m i k v holds
  g_fits : SFits w64 g
  g_is : g ≡ gcd_ℤ (stored s) (stored e)

known : {t : List ℤ} {m i k : ℕ} {v : Vector} {s e g : ℤ} → Backable t m i k v → mag s < 2 ^ 63 → s ≡ column_sum m t v.p k → mag e < 2 ^ 63 → e ≡ cell t i k → mag g < 2 ^ 63 → g ≡ gcd_ℤ (stored s) (stored e) → Known t m i k v s e g
known h fs is fe ie fg ig = record { holds = h; s_fits = record { sfits = fs }; s_is = is; e_fits = record { sfits = fe }; e_is = ie; g_fits = record { sfits = fg }; g_is = ig }

module _ {t : List ℤ} {m i k : ℕ} {v : Vector} {s e g : ℤ} (n : Known t m i k v s e g) where
  abbrev S1 : ℤ
  S1 = column_sum m t v.p k

  abbrev E1 : ℤ
  E1 = cell t i k

  abbrev G1 : ℤ
  G1 = gcd_ℤ S1 E1

  sum_is : stored s ≡ S1
  sum_is = stored_is n.s_fits ∙ n.s_is

  entry_is : stored e ≡ E1
  entry_is = stored_is n.e_fits ∙ n.e_is

  divisor_is : g ≡ G1
  divisor_is = n.g_is ∙ ap₂ gcd_ℤ sum_is entry_is

  divisor_need : 0 < of_z w64 g
  divisor_need = bits_pos g n.g_fits (subst (λ (x : ℤ). 0 < nat_abs x) (sym divisor_is) (divisor_some t m i k v n.holds))

  factor_read : quot_z (stored e) (stored g) ≡ quot_z E1 G1
  factor_read = ap₂ quot_z entry_is (stored_is n.g_fits ∙ divisor_is)

  factor_fits : SFits w64 (quot_z E1 G1)
  factor_fits = fits_quot E1 G1 (omega (arith, entry_small t m i k v n.holds))

  factor_is : stored (quot_z (stored e) (stored g)) ≡ factor_of S1 E1
  factor_is = ap stored factor_read ∙ stored_is factor_fits ∙ sym (factor_plain S1 E1 n.holds.pivot)

  quotient_read : quot_z (stored s) (stored g) ≡ quot_z S1 G1
  quotient_read = ap₂ quot_z sum_is (stored_is n.g_fits ∙ divisor_is)

  quotient_fits : SFits w64 (quot_z S1 G1)
  quotient_fits = fits_quot S1 G1 (omega (arith, sum_small t m i k v n.holds))

  numerator_read : pos 0 -ℤ stored (quot_z (stored s) (stored g)) ≡ neg_ℤ (quot_z S1 G1)
  numerator_read = ap (λ (x : ℤ). pos 0 -ℤ x) (ap stored quotient_read ∙ stored_is quotient_fits) ∙ search rules

  numerator_fits : SFits w64 (neg_ℤ (quot_z S1 G1))
  numerator_fits = fits (neg_ℤ (quot_z S1 G1)) (omega (arith, nat_abs_neg (quot_z S1 G1), quot_le S1 G1, sum_small t m i k v n.holds))

  factor_small : nat_abs (factor_of S1 E1) ≤ bound
  factor_small = subst (λ (x : ℤ). nat_abs x ≤ bound) (sym (factor_plain S1 E1 n.holds.pivot)) (omega (arith, quot_le E1 G1, entry_small t m i k v n.holds))

pub common_divisor-g-requires : goal.common_divisor-g-requires
common_divisor-g-requires c =
    let a = c.args in
    let sum = stored_is (record { sfits = c.column_sum-s.type_inv }) ∙ c.column_sum-s.ensures in
    let entry = stored_is (record { sfits = c.get-e.type_inv }) ∙ c.get-e.ensures in (
      subst (λ (x : ℤ). nat_abs x < 2 ^ 62) (sym sum) (sum_small a.cells.now a.m a.i a.k a.v c.requires),
      subst (λ (x : ℤ). nat_abs x ≤ bound) (sym entry) (entry_small a.cells.now a.m a.i a.k a.v c.requires),
    )

pub nonzero_div-f : goal.nonzero_div-f
nonzero_div-f c =
    let n = known c.requires c.column_sum-s.type_inv c.column_sum-s.ensures c.get-e.type_inv c.get-e.ensures c.common_divisor-g.type_inv c.common_divisor-g.ensures in
    (divisor_need n, subst (SFits w64) (sym (factor_read n)) (factor_fits n))

pub nonzero_div-p : goal.nonzero_div-p
nonzero_div-p c =
    let n = known c.requires c.column_sum-s.type_inv c.column_sum-s.ensures c.get-e.type_inv c.get-e.ensures c.common_divisor-g.type_inv c.common_divisor-g.ensures in
    (divisor_need n, subst (SFits w64) (sym (quotient_read n)) (quotient_fits n))

pub overflow_sub-p : goal.overflow_sub-p
overflow_sub-p c =
    let n = known c.requires c.column_sum-s.type_inv c.column_sum-s.ensures c.get-e.type_inv c.get-e.ensures c.common_divisor-g.type_inv c.common_divisor-g.ensures in
    subst (SFits w64) (sym (numerator_read n)) (numerator_fits n)

pub scaled-p-requires : goal.scaled-p-requires
scaled-p-requires c =
    let n = known c.requires c.column_sum-s.type_inv c.column_sum-s.ensures c.get-e.type_inv c.get-e.ensures c.common_divisor-g.type_inv c.common_divisor-g.ensures in
    (subst (λ (x : ℤ). nat_abs x ≤ bound) (sym (factor_is n)) (factor_small n), c.requires.numerators)

pub times-q-requires : goal.times-q-requires
times-q-requires c =
    let n = known c.requires c.column_sum-s.type_inv c.column_sum-s.ensures c.get-e.type_inv c.get-e.ensures c.common_divisor-g.type_inv c.common_divisor-g.ensures in (
      subst (λ (x : ℤ). nat_abs x ≤ bound) (sym (factor_is n)) (factor_small n),
      subst (λ (x : ℤ). nat_abs x ≤ bound) (sym (stored_is (fits c.args.v.q (omega (arith, c.requires.denominator))))) c.requires.denominator,
    )

pub returns : goal.returns
unfolding back_one
returns c =
    let a = c.args in
    let n = known c.requires c.column_sum-s.type_inv c.column_sum-s.ensures c.get-e.type_inv c.get-e.ensures c.common_divisor-g.type_inv c.common_divisor-g.ensures in
    let S = column_sum a.m a.cells.now a.v.p a.k in
    let E = cell a.cells.now a.i a.k in
    let F = factor_of S E in
    let q = stored_is (record { sfits = c.times-q.type_inv }) ∙ c.times-q.ensures ∙ ap₂ (λ (f q : ℤ). f *ℤ q) (factor_is n) (stored_is (fits a.v.q (omega (arith, c.requires.denominator)))) in
    let x = ap stored (numerator_read n) ∙ stored_is (numerator_fits n) ∙ ap neg_ℤ (sym (numerator_plain S E c.requires.pivot)) in
    let p = ap₂ (λ (run : List ℤ) (x : ℤ). set run a.i x) (c.scaled-p.ensures ∙ ap (λ (f : ℤ). tabulate 12 (λ r. f *ℤ at a.v.p r)) (factor_is n)) x ∙ tabulate-set 12 (λ r. F *ℤ at a.v.p r) a.i (neg_ℤ (quot_z (F *ℤ S) E)) c.requires.row in
    c.checked.ensures ∙ ap₂ (λ (p : List ℤ) (q : ℤ). checked (record { p = p; q = q })) p q
