use Rattle.std.proofs.Common.{◌≡◌, ◌+◌, ◌*◌, ◌≤◌, ℤ, ◌+ℤ◌, ◌*ℤ◌, nat_abs, sym, ◌∙◌, ap, ap₂, subst, SFits, w64, to_z, arith}
use Rattle.integers.proofs.Laws.Bits.{stored, stored_is}
use Rattle.integers.proofs.Laws.Sum.{sum_none, sum_more}
use Rattle.search.proofs.Laws.Sums.{Turn, turn}
use Rattle.search.proofs.dot.Goals as goal
use Rattle.search.proofs.dot.Goals.{After-y}
use Rattle.search.proofs.dot.Given.{Over}

module _ (g : Over) (c : After-y g) where
  at_turn : Turn (to_z w64 c.loop-k.sum-bits) c.x.result c.y.result c.loop-k.k
  at_turn =
      let l = c.loop-k-test.true in
      turn _ _ _ _ (omega arith) c.loop-k.invariant.small ((c.requires.first c.loop-k.k l).1 c.x.result c.x.ensures) ((c.requires.second c.loop-k.k l).1 c.y.result c.y.ensures)

  product : stored c.x.result *ℤ stored c.y.result ≡ c.x.result *ℤ c.y.result
  product = ap₂ (λ (a b : ℤ). a *ℤ b) (stored_is {z = c.x.result} (record { sfits = c.x.type_inv })) (stored_is {z = c.y.result} (record { sfits = c.y.type_inv }))

  total : to_z w64 c.loop-k.sum-bits +ℤ stored (stored c.x.result *ℤ stored c.y.result) ≡ to_z w64 c.loop-k.sum-bits +ℤ c.x.result *ℤ c.y.result
  total = ap (λ (p : ℤ). to_z w64 c.loop-k.sum-bits +ℤ p) (ap stored product ∙ stored_is at_turn.product)

pub loop-k-init : goal.loop-k-init
loop-k-init g c = record { small = omega arith; is = λ f h a b. sym (sum_none (λ i. f i *ℤ h i)) }

pub overflow_mul-sum : goal.overflow_mul-sum
overflow_mul-sum g c = subst (SFits w64) (sym (product g c)) (at_turn g c).product

pub overflow_add-sum : goal.overflow_add-sum
overflow_add-sum g c = subst (SFits w64) (sym (total g c)) (at_turn g c).total

pub loop-k-preserved : goal.loop-k-preserved
loop-k-preserved g c =
    let k = c.loop-k.k in
    let l = c.loop-k-test.true in
    let sum = ap stored (total g c) ∙ stored_is (at_turn g c).total in
    record {
      small = subst (λ (z : ℤ). nat_abs z ≤ (k + 1) * 72057594037927936) (sym sum) (at_turn g c).small;
      is = λ f h a b. sum ∙ ap₂ (λ (s p : ℤ). s +ℤ p) (c.loop-k.invariant.is f h a b) (ap₂ (λ (p q : ℤ). p *ℤ q) (a k c.x.result l c.x.ensures) (b k c.y.result l c.y.ensures)) ∙ sym (sum_more k (λ i. f i *ℤ h i));
    }
