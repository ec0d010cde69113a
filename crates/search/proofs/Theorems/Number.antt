-- What `search` and `table_after` answer has the paper's number exactly in its case.
--
--     search_number_is    1, 2 and 3 before any step, 8 where a step would pass a bound, 0 for no refusal
--     table_number_is     1, 2, 3, or 0
--
-- Assumes nothing.
use mathlib.Core.Path.{◌≡◌, refl, sym, ap, subst, ◌∙◌}
use mathlib.Core.List.{List}
use Prim.Native.Nat.{ℕ, zero, suc, ◌+◌}
use native.Mathlib.Omega.{arith}
use lib.ListN.{length}
use lib.IntN.{ℤ}
use Rattle.std.proofs.Common.{Option, Some, None, Ok}
use Rattle.problem.specs.declared.Refusal.{Refusal}
use Rattle.problem.specs.Refusal.{number_of as number_of_refusal, number_or_none}
use Rattle.search.specs.State.{State, Outcome, Unfinished, TooLarge, Refuted, Solved}
use Rattle.search.specs.Answer.{reply_of, copy_of, searched, number_of, table_number, search_refusal, search_reply, table_refusal, table_reply}
use Rattle.search.specs.Promises.{Exactly, Refuses, SearchSays, refused, too_large, no_refusal}
use Rattle.problem.proofs.Laws.Refusal.{number_none, some_number}
use Rattle.search.proofs.Theorems.Refused.{search_refused_is, table_refused_is}
use Rattle.search.proofs.Theorems.TooLarge.{too_large_is}

-- the number of an answer after that many steps with that outcome
abbrev number_after : ℕ → Outcome → ℕ
number_after steps o = number_of (Ok (record { steps = steps; outcome = o }))

-- a refusal tells its number
copy_number : (k : Option Refusal) → table_number (copy_of k) ≡ number_or_none k
copy_number None = refl
copy_number (Some k) = refl

module _ (n ma mb : ℕ) (a b : List ℤ) (budget : ℕ) where
  abbrev final : State
  final = searched n ma mb a b budget

  module _ (vector point : List ℤ) where
    abbrev Fit : Type 0
    Fit = (length vector ≡ ma + mb) × (length point ≡ n)

    abbrev Case : ℕ → Type 0
    Case k = SearchSays n ma mb a b budget Fit k

    abbrev refusal : Option Refusal
    refusal = search_refusal n ma mb a b budget vector point

    -- the case, by the outcome of a search that is not refused
    outcome_says : Refuses n ma mb a b Fit 0 → (o : Outcome) → final.outcome ≡ o → Case (number_after final.steps o)
    outcome_says h Unfinished e = no_refusal h (λ l. absurd (differ e ((too_large_is n ma mb a b budget).1 l)))
      where
        differ : final.outcome ≡ Unfinished → final.outcome ≡ TooLarge → ⊥
        differ e f = let g : number_after 0 Unfinished ≡ number_after 0 TooLarge = ap (number_after 0) (sym e ∙ f) in omega arith
    outcome_says h TooLarge e = too_large h ((too_large_is n ma mb a b budget).0 e)
    outcome_says h (Refuted q) e = no_refusal h (λ l. let g : number_after 0 (Refuted q) ≡ number_after 0 TooLarge = ap (number_after 0) (sym e ∙ (too_large_is n ma mb a b budget).1 l) in omega arith)
    outcome_says h Solved e = no_refusal h (λ l. let g : number_after 0 Solved ≡ number_after 0 TooLarge = ap (number_after 0) (sym e ∙ (too_large_is n ma mb a b budget).1 l) in omega arith)

    refused_says : (k : ℕ) → (k ≡ 0 → ⊥) → Refuses n ma mb a b Fit k → Case k
    refused_says zero some h = absurd (some refl)
    refused_says (suc k) some h = refused h

    says : (k : Option Refusal) → refusal ≡ k → Case (number_of (reply_of k final))
    says None e = outcome_says ((search_refused_is n ma mb a b budget vector point 0).0 (ap number_or_none e)) final.outcome refl
    says (Some k) e = refused_says (number_of_refusal k) (some_number k) ((search_refused_is n ma mb a b budget vector point (number_of_refusal k)).0 (ap number_or_none e))

    -- the number, by the case
    not_large : (o : Outcome) → (o ≡ TooLarge → ⊥) → number_after final.steps o ≡ 0
    not_large Unfinished h = refl
    not_large TooLarge h = absurd (h refl)
    not_large (Refuted q) h = refl
    not_large Solved h = refl

    refused_number : (r : Option Refusal) (k : ℕ) → number_or_none r ≡ suc k → number_of (reply_of r final) ≡ suc k
    refused_number None k e = absurd (omega arith)
    refused_number (Some r) k e = e

    answered : Refuses n ma mb a b Fit 0 → number_of (search_reply n ma mb a b budget vector point) ≡ number_of (reply_of None final)
    answered h = ap (λ (r : Option Refusal). number_of (reply_of r final)) (number_none refusal ((search_refused_is n ma mb a b budget vector point 0).1 h))

    number_is : {k : ℕ} → Case k → number_of (search_reply n ma mb a b budget vector point) ≡ k
    number_is (refused {k} h) = refused_number refusal k ((search_refused_is n ma mb a b budget vector point (suc k)).1 h)
    number_is (too_large h l) = answered h ∙ ap (number_after final.steps) ((too_large_is n ma mb a b budget).1 l)
    number_is (no_refusal h l) = answered h ∙ not_large final.outcome (λ e. l ((too_large_is n ma mb a b budget).0 e))

    pub search_number_is : (k : ℕ) → Exactly (number_of (search_reply n ma mb a b budget vector point) ≡ k) (SearchSays n ma mb a b budget ((length vector ≡ ma + mb) × (length point ≡ n)) k)
    search_number_is k = ((λ e. subst Case e (says refusal refl)), number_is)

  pub table_number_is : (cells : List ℤ) (k : ℕ) → Exactly (table_number (table_reply n ma mb a b budget cells) ≡ k) (Refuses n ma mb a b (length cells ≡ 864) k)
  table_number_is cells k =
      let e = copy_number (table_refusal n ma mb a b budget cells) in
      let r = table_refused_is n ma mb a b budget cells k in
      ((λ h. r.0 (sym e ∙ h)), (λ s. e ∙ r.1 s))
