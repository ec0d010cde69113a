use Rattle.std.proofs.Common.{◌≡◌, ℕ, ℤ, ◌+◌, ◌*◌, List, FitsSigned, w32, w64, refl, ◌∙◌, ap, ap₂, length, set, to_z, to_z-of_z, arith, rules}
use Rattle.integers.proofs.Laws.Run.{filled, filled_none, filled_more, filled_all}
use Rattle.frames.specs.Hex.{number_at}
use Rattle.frames.proofs.read_numbers.Goals as goal

-- the number at a place of the line
abbrev read : List ℕ → ℕ → ℕ → ℤ
read line at k = number_at line (at + k * 8)

pub loop-i-init : goal.loop-i-init
loop-i-init c = filled_none (read c.args.line.now c.args.at) c.args.numbers.now

pub loop-i-preserved : goal.loop-i-preserved
loop-i-preserved c =
    let i = c.loop-i.i in
    let fits : FitsSigned w64 c.from.result = search rules in
    let narrow : FitsSigned w32 c.cast_signed.result = search rules in
    let v = to_z-of_z fits ∙ c.from.ensures ∙ to_z-of_z narrow ∙ c.cast_signed.ensures ∙ ap (to_z w32) c.value_at.ensures in
    ap₂ (λ (run : List ℤ) (x : ℤ). set run i x) c.loop-i.invariant v ∙ filled_more i (read c.args.line.now c.args.at) c.args.numbers.now

pub returns : goal.returns
returns c =
    let run = c.args.numbers.now in
    let all : c.loop-i.i ≡ length run = omega arith in
    c.loop-i.invariant ∙ ap (λ (k : ℕ). filled k (read c.args.line.now c.args.at) run) all ∙ filled_all (length run) (read c.args.line.now c.args.at) run refl
