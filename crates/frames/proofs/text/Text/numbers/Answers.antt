use Rattle.std.proofs.Common.{◌≡◌, List, ◌++◌, append_assoc, ℕ, ◌+◌, ◌*◌, ◌<◌, ◌≤◌, ℤ, w64, FitsSigned, sym, ◌∙◌, ap, length, take, arith, rules, to_z-of_z}
use Rattle.std.proofs.lemmas.List.{append-nil}
use Rattle.integers.specs.Run.{at}
use Rattle.frames.specs.Hex.{signed_hex, hexes}
use Rattle.frames.proofs.Laws.Hex.{hexes_none, hexes_more}
use Rattle.frames.proofs.text.Text.numbers.Goals as goal

-- one number more is no longer than all
room : (i n k : ℕ) → i < n → i * k + k ≤ n * k
room i n k h = grind arith

pub loop-x-init : goal.loop-x-init
loop-x-init c = record {
  text = sym (ap (λ (t : List ℕ). c.args.self.now ++ t) (hexes_none c.args.count c.args.run.now) ∙ append-nil c.args.self.now);
  len = omega arith;
}

pub signed-requires : goal.signed-requires
signed-requires c = omega (arith, room c.loop-x.x-index (length c.args.run.now) c.args.count c.loop-x-test.true)

pub loop-x-preserved : goal.loop-x-preserved
loop-x-preserved c =
    let before = c.args.self.now in
    let count = c.args.count in
    let run = c.args.run.now in
    let i = c.loop-x.x-index in
    let fits : FitsSigned w64 (at run i) = search rules in
    record {
      text = c.signed.ensures.text ∙ ap (λ (x : ℤ). c.loop-x.self ++ signed_hex count x) (to_z-of_z fits) ∙ ap (λ (t : List ℕ). t ++ signed_hex count (at run i)) c.loop-x.invariant.text
          ∙ append_assoc before (hexes count (take i run)) (signed_hex count (at run i))
          ∙ ap (λ (t : List ℕ). before ++ t) (sym (hexes_more count run i c.loop-x-test.true));
      len = omega (arith, c.signed.ensures.len);
    }

pub returns-clause-len : goal.returns-clause-len
returns-clause-len c =
    let all : c.loop-x.x-index ≡ length c.args.run.now = omega arith in
    c.loop-x.invariant.len ∙ ap (λ (k : ℕ). length c.args.self.now + k * c.args.count) all
