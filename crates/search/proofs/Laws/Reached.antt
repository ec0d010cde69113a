-- What holds of every state that a search reaches.
--
--     step_right      a step from a sound state that is kept leaves a right state
--     after_right     after any number of steps the state is right
--     after_enough    after 8,076 steps the search is finished
--
-- Assumes nothing.
use mathlib.Core.Path.{◌≡◌, refl, ap, subst}
use mathlib.Core.Bool.{Bool, true, false}
use Prim.Native.Nat.{ℕ, zero, suc}
use native.Mathlib.Omega.{arith}
use borrow.Author.Tests.{eqb-true, eqb-false}
use lib.Dec.{eqb}
use Rattle.search.specs.State.{State, Outcome, Unfinished, TooLarge, Refuted, Solved}
use Rattle.search.specs.Step.{first_column, second_column, step_by, step_of}
use Rattle.search.specs.Run.{is_unfinished, next_by, after}
use Rattle.search.specs.Promises.{most_steps}
use Rattle.search.specs.Code.{Sound}
use Rattle.search.proofs.Laws.Run.{after_count, after_sound}
use Rattle.search.proofs.Laws.Columns.{Table}
use Rattle.search.proofs.Laws.Kept.{Kept, Right, reduce_right}
use Rattle.search.proofs.Laws.Closing.{close_right}

pub step_right : (C : Table) (s : State) → Sound s → Kept C s → s.outcome ≡ Unfinished → Right C (step_of s).outcome (step_of s)
unfolding step_of step_by
step_right C s h k goes = way (eqb (second_column s) (first_column s)) refl
  where
    way : (b : Bool) → eqb (second_column s) (first_column s) ≡ b → Right C (step_by b s (first_column s) (second_column s)).outcome (step_by b s (first_column s) (second_column s))
    way true e = close_right C s h k goes (eqb-true (second_column s) (first_column s) e)
    way false e = reduce_right C s h k goes (eqb-false (second_column s) (first_column s) e)

module _ (C : Table) (s : State) (h : Sound s) (first : Right C s.outcome s) where
  pub after_right : (b : ℕ) → Right C (after b s).outcome (after b s)
  unfolding after next_by
  after_right zero = first
  after_right (suc b) = go (after b s).outcome refl (after_right b)
    where
      go : (o : Outcome) → (after b s).outcome ≡ o → Right C (after b s).outcome (after b s) → Right C (next_by o (after b s)).outcome (next_by o (after b s))
      go Unfinished e r = step_right C (after b s) (after_sound s h b (ap is_unfinished e)) (subst (λ (o : Outcome). Right C o (after b s)) e r) e
      go TooLarge e r = r
      go (Refuted q) e r = r
      go Solved e r = r

  -- 673 steps for each of at most 12 rows
  pub after_enough : s.steps ≡ 0 → is_unfinished (after most_steps s).outcome ≡ false
  after_enough none = go (after most_steps s).outcome refl (after_right most_steps)
    where
      go : (o : Outcome) → (after most_steps s).outcome ≡ o → Right C (after most_steps s).outcome (after most_steps s) → is_unfinished o ≡ false
      go Unfinished e r =
          let u = ap is_unfinished e in
          let paid = (subst (λ (o : Outcome). Right C o (after most_steps s)) e r).fuel.paid in
          let sound = after_sound s h most_steps u in
          let few = sound.few_m in
          let row = sound.row_in in
          let count = after_count s most_steps u in
          absurd (omega arith)
      go TooLarge e r = refl
      go (Refuted q) e r = refl
      go Solved e r = refl
