-- Too large is said exactly when a step would put a number above its bound.
--
--     too_large_next    after one step more than a budget under which the search is unfinished: that step would
--     too_large_is      after a budget: some step within it would
--
-- Assumes nothing.
use mathlib.Core.Path.{◌≡◌, sym, ap, ◌∙◌}
use mathlib.Core.Bool.{true}
use mathlib.Core.List.{List}
use Prim.Native.Nat.{ℕ, ◌+◌}
use native.Mathlib.Omega.{arith}
use lib.IntN.{ℤ}
use Rattle.problem.specs.Rows.{rows_of}
use Rattle.search.specs.State.{State, Outcome, TooLarge, start}
use Rattle.search.specs.Run.{is_unfinished}
use Rattle.search.specs.Answer.{searched}
use Rattle.search.specs.Promises.{Exactly, Exceeds, Overflows}
use Rattle.search.proofs.Laws.Run.{is-unfinished, after_none, after_more, after_stops, after_last}
use Rattle.search.proofs.Laws.Exceeds.{step_exceeds, exceeds_step}

module _ (n ma mb : ℕ) (a b : List ℤ) where
  abbrev first : State
  first = start n (rows_of n ma mb a b)

  abbrev outcome_after : ℕ → Outcome
  outcome_after budget = (searched n ma mb a b budget).outcome

  pub too_large_next : (budget : ℕ) → is_unfinished (outcome_after budget) ≡ true → Exactly (outcome_after (budget + 1) ≡ TooLarge) (Exceeds (searched n ma mb a b budget))
  too_large_next budget u =
      let e = ap (λ (s : State). s.outcome) (after_more first budget u) in
      ((λ h. step_exceeds (searched n ma mb a b budget) (is-unfinished (outcome_after budget) u) (e ∙ h)), (λ x. sym e ∙ exceeds_step (searched n ma mb a b budget) x))

  overflows : (budget : ℕ) → outcome_after budget ≡ TooLarge → Overflows first budget
  unfolding start
  overflows budget e =
      let l = after_last first (ap (λ (s : State). is_unfinished s.outcome) (sym (after_none first))) budget (ap is_unfinished e) in
      let k = l.k in
      let u = l.unfinished in
      record {
        k = k;
        in_budget = l.within_b;
        unfinished = u;
        exceeds = (too_large_next k u).0 (ap (λ (s : State). s.outcome) l.ends ∙ e);
      }

  ends : (budget : ℕ) → Overflows first budget → outcome_after budget ≡ TooLarge
  ends budget o =
      let h = o.in_budget in
      let large = (too_large_next o.k o.unfinished).1 o.exceeds in
      ap (λ (s : State). s.outcome) (after_stops first (o.k + 1) budget (omega arith) (ap is_unfinished large)) ∙ large

  pub too_large_is : (budget : ℕ) → Exactly (outcome_after budget ≡ TooLarge) (Overflows first budget)
  too_large_is budget = (overflows budget, ends budget)
