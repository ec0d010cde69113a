use Rattle.std.proofs.Common.{◌≡◌, ◌∙◌, rules}
use lib.IntN.{pos}
use Rattle.std.proofs.lemmas.Iterator.{YieldsList-from_slice}
use Rattle.std.proofs.lemmas.Iterator.Search.{all_from_yields_List}
use Rattle.std.specs.List.{list_all}
use Rattle.integers.specs.Range.{within}
use Rattle.integers.proofs.Laws.Below.{all_list}
use Rattle.integers.proofs.all_within.Goals as goal

pub returns : goal.returns
returns c =
    all_from_yields_List (within c.args.bound) _ _ _ c.all.ensures.ran (YieldsList-from_slice c.args.run.now cc) (λ x b q k. search rules) ∙ all_list (within c.args.bound) c.args.run.now (pos 0)
