use Rattle.std.proofs.Common.{pos, length, ◌∙◌, arith}
use Rattle.std.proofs.lemmas.List.{length-take-le, get_or-take}
use Rattle.integers.specs.Run.{at}
use Rattle.integers.proofs.Laws.Run.{tabulate_is}
use Rattle.search.proofs.write.Goals as goal

pub returns : goal.returns
returns g c =
    let from = c.args.numbers.now in
    let n = length c.args.run.now in
    c.copy_from_slice.ensures.after ∙ tabulate_is n (at from) _ (length-take-le n from (omega arith)) (λ i l. get_or-take n from i (pos 0) l)
