use Rattle.std.proofs.Common.{sym, subst}
use Rattle.search.specs.State.{given_of, start}
use Rattle.search.specs.Code.{Sound}
use Rattle.search.proofs.Laws.Start.{start_sound}
use Rattle.search.proofs.State.start.Goals as goal

pub returns-clause-value : goal.returns-clause-value
unfolding start given_of
returns-clause-value c = cc

pub returns-clause-sound : goal.returns-clause-sound
returns-clause-sound c =
    let p = c.args.rows.now.problem in
    subst Sound (sym (returns-clause-value c)) (start_sound p.n p.ma p.mb p.a.now p.b.now c.args.rows.now.well_formed)
