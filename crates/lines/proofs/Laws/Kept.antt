-- What of an unfinished line is kept.
--
--     part_slice    a part of a run: up to its end, and then from its start on
--     kept_copied   what `keep` copies is the kept run
--     kept_text     the carry in use: the unfinished line and the bytes, up to the cap
--     answered_none, answered_some, answered_length    the carry after an answer
--     kept-held     no more than the cap is in use               kept_length    the carry keeps its length
--
-- Assumes nothing.
use mathlib.Core.Path.{◌≡◌, refl, sym, ◌∙◌, ap}
use mathlib.Core.Bool.{Bool, true, false, cond}
use mathlib.Core.List.{List, [], ◌∷◌, ◌++◌}
use Prim.Native.Nat.{ℕ, zero, suc, ◌+◌, ◌-◌, ◌≤◌, min}
use native.Mathlib.Decide.{dec_lt}
use native.Mathlib.Numerals.{unary_clauses}
use native.Mathlib.Omega.{arith}
use borrow.Author.Tests.{eq-eqb, ne_eqb}
use lib.Dec.{eqb}
use lib.ListN.{length, take, drop}
use lib.Seq.{paste, take-paste, length-paste, take-take, take_all, take-append-add, length-take-le, take-nil}
use borrow.Rule.Slice.PartMut.{put_mid}
use Rattle.std.proofs.lemmas.Slice.{put_mid-paste}
use Rattle.lines.specs.Lines.{cap, part, kept_count, kept_run, kept_held, answered_run}

pub part_slice : (l : List ℕ) (i j : ℕ) → part l i j ≡ drop i (take j l)
part_slice l zero j = simp unary_clauses refl
part_slice l (suc i) zero = let e : 0 - suc i ≡ 0 = omega arith in ap (λ (k : ℕ). take k (drop (suc i) l)) e
part_slice [] (suc i) (suc j) = take-nil (suc j - suc i)
part_slice (x ∷ l) (suc i) (suc j) = simp unary_clauses (part_slice l i j)

take-least : (l : List ℕ) (k : ℕ) → take (min (length l) k) l ≡ take k l
take-least l k = elim (dec_lt (length l) k) [
  | yes h ↦ take_all (min (length l) k) l (omega arith) ∙ sym (take_all k l (omega arith))
  | no h ↦ let e : min (length l) k ≡ k = omega arith in ap (λ (m : ℕ). take m l) e
]

pub kept_copied : (carry bytes part : List ℕ) (held count k : ℕ) → count ≡ min (length bytes) (cap - held) → part ≡ take count bytes → k ≡ count →
    (held + count ≡ kept_held held bytes) × (put_mid held k carry part ≡ kept_run carry held bytes)
unfolding kept_held kept_run
kept_copied carry bytes part held count k e f g =
    let long = length-take-le count bytes (omega arith) in (
      ap (λ (m : ℕ). held + m) e,
      put_mid-paste held k carry part (take count bytes) count f (sym g) (sym long)
          ∙ ap (λ (t : List ℕ). take held carry ++ t ++ drop (held + count) carry) (take-take count count bytes (omega arith)) ∙ ap (paste carry held bytes) e,
    )

pub kept-held : (held : ℕ) (bytes : List ℕ) → held ≤ cap → kept_held held bytes ≤ cap
unfolding kept_held
kept-held held bytes h = omega arith

module _ (carry : List ℕ) (held : ℕ) (bytes : List ℕ) where
  pub answered_none : held ≡ 0 → carry ≡ answered_run carry held bytes
  unfolding answered_run
  answered_none z = simp (eq-eqb held 0 z)

  pub answered_some : (held ≡ 0 → ⊥) → kept_run carry held bytes ≡ answered_run carry held bytes
  unfolding answered_run
  answered_some z = simp (ne_eqb held 0 z)

module _ (carry : List ℕ) (held : ℕ) (bytes : List ℕ) (long : length carry ≡ cap) (few : held ≤ cap) where
  pub kept_length : length (kept_run carry held bytes) ≡ length carry
  unfolding kept_run
  kept_length = length-paste carry held bytes (kept_count held bytes) (omega arith) (omega arith)

  pub kept_text : take (kept_held held bytes) (kept_run carry held bytes) ≡ take cap (take held carry ++ bytes)
  unfolding kept_run kept_held
  kept_text =
      let e = length-take-le held carry (omega arith) in
      let c : length (take held carry) + (cap - held) ≡ cap = omega arith in
      take-paste carry held bytes (kept_count held bytes) (omega arith) (omega arith)
      ∙ ap (λ (t : List ℕ). take held carry ++ t) (take-least bytes (cap - held))
      ∙ sym (take-append-add (take held carry) bytes (cap - held))
      ∙ ap (λ (m : ℕ). take m (take held carry ++ bytes)) c

  answered_by : (t : Bool) → length (cond t carry (kept_run carry held bytes)) ≡ length carry
  answered_by true = refl
  answered_by false = kept_length

  pub answered_length : length (answered_run carry held bytes) ≡ length carry
  unfolding answered_run
  answered_length = answered_by (eqb held 0)
