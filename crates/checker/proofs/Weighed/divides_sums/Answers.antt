use Rattle.std.proofs.Common.{◌≡◌, ℕ, refl, sym, ◌∙◌, ap, ap₂, List, ℤ, ◌*ℤ◌}
use mathlib.Core.Bool.{Bool, true, false, ◌&&◌, false≢true}
use Rattle.integers.specs.Divisibility.{divides}
use Rattle.integers.specs.Below.{all_below}
use Rattle.integers.specs.Run.{at}
use Rattle.integers.proofs.Laws.Bits.{stored_is}
use Rattle.problem.specs.Rows.{side_of, rows_of}
use Rattle.checker.specs.Refutation.{numerator, column_sum, divides_sums}
use Rattle.checker.specs.Code.{weights}
use Rattle.checker.proofs.Laws.Sums.{side_all, sums_divided}
use Rattle.checker.proofs.Weighed.divides_sums.Goals as goal
use Rattle.checker.proofs.Weighed.divides_sums.Goals.{then-divides_columns, else-divides_columns}

module _ (n ma mb : ℕ) (a b p : List ℤ) where
  abbrev Columns : ℤ → Bool
  Columns q = all_below n (λ j. divides q (column_sum (rows_of n ma mb a b) (numerator p) j))

  abbrev ModuliA : ℤ → Bool
  ModuliA q = all_below ma (λ i. divides q (numerator p i *ℤ (side_of n ma a).modulus i))

  abbrev ModuliB : ℤ → Bool
  ModuliB q = all_below mb (λ i. divides q (weights p ma i *ℤ (side_of n mb b).modulus i))

  by_tests : (q : ℤ) (x y z : Bool) → x ≡ Columns q → y ≡ ModuliA q → z ≡ ModuliB q → x && (y && z) ≡ divides_sums n (rows_of n ma mb a b) q (numerator p)
  by_tests q x y z e f g = ap₂ (λ s t. s && t) e (ap₂ (λ s t. s && t) f g) ∙ sums_divided n ma mb a b p q

pub returns-then-divides_moduli : goal.returns-then-divides_moduli
returns-then-divides_moduli c =
    let P = c.args.self.now.rows.problem in
    let p = c.args.self.now.p.now in
    let q = c.args.q in
    let b = c.b.ensures in
    let columns = c.divides_columns.ensures ∙ ap (Columns P.n P.ma P.mb P.a.now P.b.now p) (stored_is c.ranges.q) in
    let moduli_b = c.divides_moduli-then-divides_moduli.ensures ∙ side_all b.n b.m b.run (at c.b.result.weights.now) (weights p P.ma) (λ i l. b.weights i) _ ∙ ap (ModuliB P.n P.ma P.mb P.a.now P.b.now p) (stored_is c.ranges.q) in
    elim c.if-divides_columns.branch [
      | then-divides_columns w ↦
          let a = w.a.ensures in
          let moduli_a = w.divides_moduli.ensures ∙ side_all a.n a.m a.run (at w.a.result.weights.now) (numerator p) a.weights _ ∙ ap (ModuliA P.n P.ma P.mb P.a.now P.b.now p) (stored_is c.ranges.q) in
          by_tests P.n P.ma P.mb P.a.now P.b.now p q true true _ (sym w.if-divides_columns.true ∙ columns) (sym (sym w.value-is ∙ c.if-divides_moduli.true) ∙ moduli_a) moduli_b
      | else-divides_columns w ↦ absurd (false≢true (sym w.if-divides_columns.false ∙ sym w.value-is ∙ c.if-divides_moduli.true))
    ]

pub returns-else-divides_moduli : goal.returns-else-divides_moduli
returns-else-divides_moduli c =
    let P = c.args.self.now.rows.problem in
    let p = c.args.self.now.p.now in
    let q = c.args.q in
    let columns = c.divides_columns.ensures ∙ ap (Columns P.n P.ma P.mb P.a.now P.b.now p) (stored_is c.ranges.q) in
    c.if-divides_moduli.false ∙ elim c.if-divides_columns.branch [
      | then-divides_columns w ↦
          let a = w.a.ensures in
          let moduli_a = w.divides_moduli.ensures ∙ side_all a.n a.m a.run (at w.a.result.weights.now) (numerator p) a.weights _ ∙ ap (ModuliA P.n P.ma P.mb P.a.now P.b.now p) (stored_is c.ranges.q) in
          by_tests P.n P.ma P.mb P.a.now P.b.now p q true false (ModuliB P.n P.ma P.mb P.a.now P.b.now p q) (sym w.if-divides_columns.true ∙ columns) (sym (sym w.value-is ∙ c.if-divides_moduli.false) ∙ moduli_a) refl
      | else-divides_columns w ↦ by_tests P.n P.ma P.mb P.a.now P.b.now p q false (ModuliA P.n P.ma P.mb P.a.now P.b.now p q) (ModuliB P.n P.ma P.mb P.a.now P.b.now p q) (sym w.if-divides_columns.false ∙ columns) refl refl
    ]
