use Rattle.std.proofs.Common.{◌≡◌, true, ◌<◌, sym, ◌∙◌, ap, subst, arith}
use Rattle.search.specs.State.{State}
use Rattle.search.specs.Run.{is_unfinished, after}
use Rattle.search.specs.Code.{last_count, Sound}
use Rattle.search.proofs.Laws.Run.{after_count, after_sound}
use Rattle.search.proofs.State.run.Goals as goal
use Rattle.search.proofs.State.run.Goals.{in-Unfinished, in_default}

-- the search goes on, so that it has taken as many steps as the loop has turned
pub step-self-requires : goal.step-self-requires
step-self-requires c =
    let s = c.args.self in
    let b = c.loop.counter in
    let goes : is_unfinished c.loop.self.outcome ≡ true = elim c.match-matches.branch [ in-Unfinished w ↦ ap is_unfinished w.in-Unfinished.is | in_default w ↦ cc ] in
    let u : is_unfinished (after b s).outcome ≡ true = ap (λ (x : State). is_unfinished x.outcome) (sym c.loop.invariant) ∙ goes in
    let n = after_count s b u in
    let z = c.requires.1 in
    subst (λ (t : State). Sound t × (t.steps < last_count)) (sym c.loop.invariant) (after_sound s c.requires.0 b u, omega arith)
