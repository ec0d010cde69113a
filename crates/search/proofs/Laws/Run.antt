-- Laws of `after b s`, the state after b steps from s or after the last.
--
--     is-unfinished   an outcome that tests as unfinished is
--     after_none      no step: s itself
--     after_more      unfinished after b steps: one more step gives the state after b + 1
--     after_stops     finished after b steps: the same state after any more
--     LastStep s b    the step that ends the search from s within b steps
--     after_last      unfinished at first and finished after b steps: there is such a step
--     after_count     unfinished after b steps: they are b, and counted so
--     after_given     what is given stays
--     after_sound     unfinished after b steps from a sound state: still sound
--
-- Assumes nothing.
use mathlib.Core.Path.{◌≡◌, refl, sym, ◌∙◌, ap, subst⁻¹}
use mathlib.Core.Bool.{Bool, true, false, false≢true, true≢false}
use Prim.Native.Nat.{ℕ, zero, suc, ◌+◌, ◌-◌, ◌<◌, ◌≤◌}
use native.Mathlib.Numerals.{add-one}
use native.Mathlib.Omega.{arith}
use Rattle.search.specs.State.{State, Outcome, Unfinished, TooLarge, Refuted, Solved}
use Rattle.search.specs.Step.{step_of}
use Rattle.search.specs.Run.{is_unfinished, next_by, after}
use Rattle.search.specs.Code.{Sound}
use Rattle.search.proofs.Laws.Sound.{step_onward, step_sound}

pub is-unfinished : (o : Outcome) → is_unfinished o ≡ true → o ≡ Unfinished
is-unfinished Unfinished u = refl
is-unfinished TooLarge u = absurd (false≢true u)
is-unfinished (Refuted q) u = absurd (false≢true u)
is-unfinished Solved u = absurd (false≢true u)

next_goes : (o : Outcome) (s : State) → is_unfinished o ≡ true → next_by o s ≡ step_of s
unfolding next_by
next_goes o s u = ap (λ (x : Outcome). next_by x s) (is-unfinished o u)

next_stops : (o : Outcome) (s : State) → is_unfinished o ≡ false → next_by o s ≡ s
unfolding next_by
next_stops Unfinished s u = absurd (true≢false u)
next_stops TooLarge s u = refl
next_stops (Refuted q) s u = refl
next_stops Solved s u = refl

module _ (s : State) where
  abbrev goes : ℕ → Bool
  goes b = is_unfinished (after b s).outcome

  pub after_none : s ≡ after 0 s
  unfolding after
  after_none = refl

  goes_on : (b : ℕ) → goes b ≡ true → after (suc b) s ≡ step_of (after b s)
  unfolding after
  goes_on b u = next_goes (after b s).outcome (after b s) u

  stops : (b : ℕ) → goes b ≡ false → after (suc b) s ≡ after b s
  unfolding after
  stops b u = next_stops (after b s).outcome (after b s) u

  pub after_more : (b : ℕ) → goes b ≡ true → step_of (after b s) ≡ after (b + 1) s
  after_more b u = sym (ap (λ (k : ℕ). after k s) (add-one b) ∙ goes_on b u)

  stops_for : (b d c : ℕ) → c ≡ d + b → goes b ≡ false → after c s ≡ after b s
  stops_for b zero c n u = let e : c ≡ b = omega arith in ap (λ (k : ℕ). after k s) e
  stops_for b (suc d) c n u =
      let e = stops_for b d (d + b) refl u in
      let m : c ≡ suc (d + b) = omega arith in
      ap (λ (k : ℕ). after k s) m ∙ stops (d + b) (ap (λ (t : State). is_unfinished t.outcome) e ∙ u) ∙ e

  pub after_stops : (b c : ℕ) → b ≤ c → goes b ≡ false → after c s ≡ after b s
  after_stops b c l u = stops_for b (c - b) c (omega arith) u

  pub record LastStep (b : ℕ) : Type 0 where
    pub k : ℕ
    pub within_b : k < b
    pub unfinished : goes k ≡ true
    pub ends : after (k + 1) s ≡ after b s

  pub after_last : goes 0 ≡ true → (b : ℕ) → goes b ≡ false → LastStep b
  after_last u zero f = absurd (true≢false (sym u ∙ f))
  after_last u (suc b) f = go (goes b) refl (after_last u b)
    where
      go : (t : Bool) → goes b ≡ t → (goes b ≡ false → LastStep b) → LastStep (suc b)
      go true e earlier = record { k = b; within_b = omega arith; unfinished = e; ends = ap (λ (k : ℕ). after k s) (add-one b) }
      go false e earlier = let l = earlier e in let h = l.within_b in record { k = l.k; within_b = omega arith; unfinished = l.unfinished; ends = l.ends ∙ sym (stops b e) }

  -- what is unfinished after b + 1 steps was so after b
  before : (b : ℕ) → goes (suc b) ≡ true → goes b ≡ true
  before b u = go (goes b) refl
    where
      go : (t : Bool) → goes b ≡ t → t ≡ true
      go true e = refl
      go false e = sym e ∙ ap (λ (t : State). is_unfinished t.outcome) (sym (stops b e)) ∙ u

  pub after_count : (b : ℕ) → goes b ≡ true → (after b s).steps ≡ s.steps + b
  unfolding after
  after_count zero u = omega arith
  after_count (suc b) u =
      let g = before b u in
      let e = after_count b g in
      let f = ap (λ (t : State). t.steps) (goes_on b g) ∙ (step_onward (after b s)).counts in
      omega arith

  pub after_given : (b : ℕ) → (after b s).given ≡ s.given
  unfolding after next_by
  after_given zero = refl
  after_given (suc b) = go (after b s).outcome ∙ after_given b
    where
      go : (o : Outcome) → (next_by o (after b s)).given ≡ (after b s).given
      go Unfinished = (step_onward (after b s)).given
      go TooLarge = refl
      go (Refuted q) = refl
      go Solved = refl

  pub after_sound : Sound s → (b : ℕ) → goes b ≡ true → Sound (after b s)
  unfolding after
  after_sound h zero u = h
  after_sound h (suc b) u =
      let g = before b u in
      let e = goes_on b g in
      subst⁻¹ Sound e (step_sound (after b s) (after_sound h b g) (sym (ap (λ (t : State). is_unfinished t.outcome) e) ∙ u))
