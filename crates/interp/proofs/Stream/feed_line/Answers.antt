-- A call of `feed` fits, so it is `Fed`: it takes at least one byte, and leaves the carry and the run as the next call needs them.
use Rattle.std.proofs.Common.{◌≡◌, List, ℕ, ◌+◌, ◌<◌, ◌≤◌, length, arith, rules}
use Rattle.frames.specs.Answer.{answer_max}
use Rattle.lines.specs.Lines.{cap}
use Rattle.lines.specs.declared.Progress.{Progress}
use Rattle.lines.proofs.Laws.Fits.{fitting_is}
use Rattle.lines.proofs.Laws.Feed.{Leaves, Fed, fed_call}
use Rattle.interp.proofs.Stream.feed_line.Goals as goal

module _ (chunk : List ℕ) (at : ℕ) (carry : List ℕ) (held : ℕ) (out : List ℕ) (made : ℕ) where
  taken : (r : Progress) (carry' out' : List ℕ) → at < length chunk → length carry ≡ 1361 → held ≤ cap → made + answer_max ≤ length out →
      Leaves chunk at carry held out made r carry' out' → Fed chunk at carry held out made r carry' out'
  unfolding cap
  taken r carry' out' inside long few room left =
      fed_call chunk at carry held out made
      (fitting_is chunk at carry held out made (record { kept = record { long = long; few = few }; inside = omega arith; room = room }))
      left

pub invariant_of-self : goal.invariant_of-self
invariant_of-self c =
    let before = c.args.self.now in
    let f = c.feed-progress in
    let long : length before.carry ≡ 1361 = search rules in
    let wide : length before.out ≡ 65536 = search rules in
    let s = taken c.args.chunk.now c.args.at before.carry before.held before.out before.made f.result f.new.carry f.new.out
    c.requires.inside long before.few (omega (arith, c.requires.room)) (f.ensures.value, (f.ensures.carry_after, f.ensures.out_after)) in
    record { few = s.kept.few; within = omega (arith, s.within, f.auto.out) }

pub returns : goal.returns
returns c =
    let before = c.args.self.now in
    let f = c.feed-progress in
    let long : length before.carry ≡ 1361 = search rules in
    let wide : length before.out ≡ 65536 = search rules in
    let s = taken c.args.chunk.now c.args.at before.carry before.held before.out before.made f.result f.new.carry f.new.out
    c.requires.inside long before.few (omega (arith, c.requires.room)) (f.ensures.value, (f.ensures.carry_after, f.ensures.out_after)) in
    (s.moves c.requires.inside, s.inside)
