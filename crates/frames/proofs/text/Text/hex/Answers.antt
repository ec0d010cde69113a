use Rattle.std.proofs.Common.{List, ◌++◌, ℕ, ◌+◌, ◌∙◌, ap, length, length-append, length-set, length-take-le, arith}
use Rattle.frames.specs.Hex.{hex}
use Rattle.frames.proofs.Laws.Hex.{hex-length, hex_step, hex_whole}
use Rattle.frames.proofs.text.Text.hex.Goals as goal

pub loop-k-preserved : goal.loop-k-preserved
loop-k-preserved c =
    let turn = c.loop-k in
    record {
      len = turn.invariant.len;
      long = simp length-set turn.invariant.long;
      written = rw c.digit.ensures (hex_step turn.self-inside.characters turn.self-inside.len turn.k turn.rest c.loop-k-test.true ∙ turn.invariant.written);
    }

pub returns : goal.returns
returns c =
    let before = c.self.inside in
    let turn = c.loop-k in
    let digits = hex c.args.count c.args.value in
    let len = length-take-le before.len before.characters (omega arith) in
    let same = ap length c.self.view_is in
    let long = hex-length c.args.count c.args.value in
    let text = rw turn.invariant.len (hex_whole before.characters turn.self-inside.characters before.len turn.k turn.rest c.args.count c.args.value
    c.loop-k-test.false (omega arith) (rw turn.invariant.len at turn.invariant.written)) ∙ ap (λ (t : List ℕ). t ++ digits) c.self.view_is in
    record { text = text; len = ap length text ∙ length-append c.args.self.now digits ∙ ap (λ (k : ℕ). length c.args.self.now + k) long }
