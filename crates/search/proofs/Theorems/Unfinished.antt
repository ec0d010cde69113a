-- "Unfinished" is said exactly when the steps outnumber the budget. The budget is then the count, and nothing is written.
--
--     outnumbered_is       the state is unfinished after a budget exactly when the steps outnumber it
--     unfinished_is        `search` says so exactly then, of a problem that it does not refuse
--     unfinished_count     the count is then the budget, which for budget 0 is 0
--     unfinished_writes    and both runs are as they were
--
-- Assumes nothing.
use mathlib.Core.Path.{◌≡◌, refl, sym, ◌∙◌, ap}
use mathlib.Core.Bool.{Bool, true, false, true≢false, false≢true}
use mathlib.Core.List.{List}
use Prim.Native.Nat.{ℕ, ◌+◌, ◌≤◌}
use native.Mathlib.Omega.{arith}
use lib.IntN.{ℤ}
use Rattle.std.proofs.Common.{Option, Some, None}
use Rattle.problem.specs.declared.Refusal.{Refusal}
use Rattle.problem.specs.Rows.{rows_of}
use Rattle.search.specs.State.{State, Outcome, Unfinished, TooLarge, Refuted, Solved, start}
use Rattle.search.specs.Run.{is_unfinished, after}
use Rattle.search.specs.Answer.{reply_of, written_if, is_refuted, is_solved, searched, search_refusal, search_reply, search_vector, search_point}
use Rattle.search.specs.Promises.{Exactly, Outnumber, says_unfinished}
use Rattle.search.proofs.Laws.Run.{after_stops, after_count}

pub outnumbered_is : (s : State) (budget : ℕ) → Exactly (is_unfinished (after budget s).outcome ≡ true) (Outnumber s budget)
outnumbered_is s budget = (there, λ o. o.each budget (omega arith))
  where
    there : is_unfinished (after budget s).outcome ≡ true → Outnumber s budget
    there u = record { each = λ b l. go b l (is_unfinished (after b s).outcome) refl }
      where
        go : (b : ℕ) → b ≤ budget → (t : Bool) → is_unfinished (after b s).outcome ≡ t → t ≡ true
        go b l true e = refl
        go b l false e = sym e ∙ ap (λ (x : State). is_unfinished x.outcome) (sym (after_stops s b budget l e)) ∙ u

module _ (n ma mb : ℕ) (a b : List ℤ) (budget : ℕ) (vector point : List ℤ) (taken : search_refusal n ma mb a b budget vector point ≡ None) where
  abbrev first : State
  first = start n (rows_of n ma mb a b)

  abbrev final : State
  final = searched n ma mb a b budget

  said : says_unfinished (search_reply n ma mb a b budget vector point) ≡ is_unfinished final.outcome
  said = go (search_refusal n ma mb a b budget vector point) taken
    where
      go : (k : Option Refusal) → k ≡ None → says_unfinished (reply_of k final) ≡ is_unfinished final.outcome
      go None e = refl
      go (Some k) e = cc

  pub unfinished_is : Exactly (says_unfinished (search_reply n ma mb a b budget vector point) ≡ true) (Outnumber first budget)
  unfinished_is = ((λ e. (outnumbered_is first budget).0 (sym said ∙ e)), (λ o. said ∙ (outnumbered_is first budget).1 o))

  pub unfinished_count : Outnumber first budget → final.steps ≡ budget
  unfolding start
  unfinished_count o = let e : 0 + budget ≡ budget = omega arith in after_count first budget ((outnumbered_is first budget).1 o) ∙ e

  unwritten : (k : Option Refusal) (t : Bool) (numbers entry : List ℤ) → t ≡ false → written_if k t numbers entry ≡ entry
  unwritten None true numbers entry e = absurd (true≢false e)
  unwritten None false numbers entry e = refl
  unwritten (Some k) t numbers entry e = refl

  no_vector : (o : Outcome) → is_unfinished o ≡ true → is_refuted o ≡ false
  no_vector Unfinished u = refl
  no_vector TooLarge u = refl
  no_vector (Refuted q) u = absurd (false≢true u)
  no_vector Solved u = refl

  no_point : (o : Outcome) → is_unfinished o ≡ true → is_solved o ≡ false
  no_point Unfinished u = refl
  no_point TooLarge u = refl
  no_point (Refuted q) u = refl
  no_point Solved u = absurd (false≢true u)

  pub unfinished_writes : Outnumber first budget → (search_vector n ma mb a b budget vector point ≡ vector) × (search_point n ma mb a b budget vector point ≡ point)
  unfinished_writes o =
      let u = (outnumbered_is first budget).1 o in
      let k = search_refusal n ma mb a b budget vector point in
      (unwritten k (is_refuted final.outcome) final.found vector (no_vector final.outcome u), unwritten k (is_solved final.outcome) final.found point (no_point final.outcome u))
