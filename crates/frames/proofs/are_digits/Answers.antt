use mathlib.Core.Bool.{Bool, true, ◌&&◌}
use Rattle.std.proofs.Common.{ℕ, ◌∙◌, rules}
use Rattle.std.proofs.lemmas.Iterator.{YieldsList-from_slice}
use Rattle.std.proofs.lemmas.Iterator.Consumers.{fold_from_yields_List}
use Rattle.frames.specs.Hex.{is_digit}
use Rattle.frames.proofs.Laws.Problem.{fold_digits}
use Rattle.frames.proofs.are_digits.Goals as goal

pub returns : goal.returns
returns c =
    let goes_on : Bool → ℕ → Bool = λ good x. good && is_digit x in
    fold_from_yields_List _ goes_on true _ c.fold.ensures.ran (YieldsList-from_slice c.args.line.now cc) (λ a x b q k. search rules) ∙ fold_digits c.args.line.now
