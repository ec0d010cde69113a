-- Each refusal of `search` and of `table_after` is given exactly in its case, in the paper's order: 1, 2, 3.
--
--     search_refused_is       the vector has to be m long, and the point n
--     table_refused_is        the run has to be 864 long
--     answered_well_formed    a problem that `search` does not refuse is well formed
--
-- Assumes nothing.
use mathlib.Core.Path.{◌≡◌, refl, subst}
use mathlib.Core.List.{List}
use Prim.Native.Nat.{ℕ, ◌+◌}
use lib.ListN.{length}
use lib.IntN.{ℤ}
use Rattle.std.proofs.Common.{Option, Some, None}
use Rattle.integers.proofs.Laws.Decide.{by_eq, by_and}
use Rattle.problem.specs.declared.Refusal.{Refusal}
use Rattle.problem.specs.Refusal.{number_or_none}
use Rattle.problem.specs.WellFormed.{WellFormed}
use Rattle.search.specs.State.{State, Outcome}
use Rattle.search.specs.Answer.{reply_of, searched, search_refusal, search_reply, table_refusal}
use Rattle.search.specs.Promises.{Exactly, Refuses, Says}
use Rattle.search.proofs.Laws.Refusal.{refusal_says, refusal_is, none_well_formed}

not_refused : (k : Option Refusal) (s : State) (o : Outcome) → Says (reply_of k s) o → k ≡ None
not_refused None s o h = refl
not_refused (Some k) s o h = absurd h

module _ (n ma mb : ℕ) (a b : List ℤ) (budget : ℕ) where
  pub search_refused_is : (vector point : List ℤ) (k : ℕ) → Exactly (number_or_none (search_refusal n ma mb a b budget vector point) ≡ k) (Refuses n ma mb a b ((length vector ≡ ma + mb) × (length point ≡ n)) k)
  search_refused_is vector point k =
      let d = by_and (by_eq (length vector) (ma + mb)) (by_eq (length point) n) in
      ((λ e. subst (λ (r : ℕ). Refuses n ma mb a b ((length vector ≡ ma + mb) × (length point ≡ n)) r) e (refusal_says n ma mb a b d)), refusal_is n ma mb a b d)

  pub answered_well_formed : (vector point : List ℤ) (o : Outcome) → Says (search_reply n ma mb a b budget vector point) o → WellFormed n ma mb a b
  answered_well_formed vector point o h = none_well_formed n ma mb a b _ (not_refused (search_refusal n ma mb a b budget vector point) (searched n ma mb a b budget) o h)

  pub table_refused_is : (cells : List ℤ) (k : ℕ) → Exactly (number_or_none (table_refusal n ma mb a b budget cells) ≡ k) (Refuses n ma mb a b (length cells ≡ 864) k)
  table_refused_is cells k =
      let d = by_eq (length cells) 864 in
      ((λ e. subst (λ (r : ℕ). Refuses n ma mb a b (length cells ≡ 864) r) e (refusal_says n ma mb a b d)), refusal_is n ma mb a b d)
