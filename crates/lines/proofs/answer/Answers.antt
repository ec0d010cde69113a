use mathlib.Core.Path.{◌≡◌, sym, ◌∙◌, ap, ap₂}
use mathlib.Core.List.{List, ◌++◌}
use Prim.Native.Nat.{ℕ, ◌≤◌}
use native.Mathlib.Omega.{arith}
use lib.ListN.{length, take}
use lib.Seq.{length-take-le}
use Rattle.frames.specs.Answer.{respond_end, respond_run}
use Rattle.lines.specs.Lines.{kept_held}
use Rattle.lines.specs.Code.{Lawful}
use Rattle.lines.proofs.Laws.Kept.{kept_text, kept-held, answered_none, answered_some}
use Rattle.lines.proofs.Laws.Feed.{respond_cap}
use Rattle.lines.proofs.answer.Goals as goal

pub returns-then-held-eq0 : goal.returns-then-held-eq0
returns-then-held-eq0 c =
    let said = c.respond in
    let a = c.args in
    let bytes = a.bytes.now in
    let line = ap (λ (k : ℕ). take k a.carry.now ++ bytes) (sym c.if-held-eq0.true) in
    record {
      value = said.ensures.value ∙ ap (λ (l : List ℕ). respond_end l a.out.now a.made) line;
      carry_after = answered_none a.carry.now a.held bytes c.if-held-eq0.true;
      out_after = said.ensures.out_after ∙ ap (λ (l : List ℕ). respond_run l a.out.now a.made) line;
    }

-- what is in use is no more than the carry
inside : (carry left : List ℕ) (bytes : List ℕ) (held kept : ℕ) → kept ≡ kept_held held bytes → length left ≡ length carry → Lawful carry held → kept ≤ length left
inside carry left bytes held kept e same long = omega (arith, e, kept-held held bytes long.few, same, long.long)

pub slice_bounds-respond-end : goal.slice_bounds-respond-end
slice_bounds-respond-end c =
    let a = c.args in
    inside a.carry.now c.keep-kept.new.carry a.bytes.now a.held c.keep-kept.result c.keep-kept.ensures.value c.keep-kept.auto.carry c.requires.carry

pub slice_bounds-respond-end-2 : goal.slice_bounds-respond-end-2
slice_bounds-respond-end-2 c =
    let a = c.args in
    sym (length-take-le _ _ (inside a.carry.now c.keep-kept.new.carry a.bytes.now a.held c.keep-kept.result c.keep-kept.ensures.value c.keep-kept.auto.carry c.requires.carry))

pub returns : goal.returns
returns c =
    let said = c.respond-2 in
    let a = c.args in
    let bytes = a.bytes.now in
    let line = take a.held a.carry.now ++ bytes in
    let e = ap₂ (λ (n : ℕ) (l : List ℕ). take n l) c.keep-kept.ensures.value c.keep-kept.ensures.carry_after ∙ kept_text a.carry.now a.held bytes c.requires.carry.long c.requires.carry.few in
    let same = respond_cap line a.out.now a.made in
    record {
      value = said.ensures.value ∙ ap (λ (l : List ℕ). respond_end l a.out.now a.made) e ∙ same.0;
      carry_after = c.keep-kept.ensures.carry_after ∙ answered_some a.carry.now a.held bytes c.if-held-eq0.false;
      out_after = said.ensures.out_after ∙ ap (λ (l : List ℕ). respond_run l a.out.now a.made) e ∙ same.1;
    }
