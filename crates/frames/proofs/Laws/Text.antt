-- Text written into a run, piece by piece.
--
--     sets_append     one text and then another, from where the first ends: both
--     sets_set        a place past the text can be set before or after it is written
--     sets_copied     what a copy into a part leaves
--     take_sets       what stands before the place, and then the text
--
-- Assumes nothing.
use mathlib.Core.Path.{◌≡◌, refl, sym, ◌∙◌, ap}
use mathlib.Core.List.{List, [], ◌∷◌, ◌++◌}
use Prim.Native.Nat.{ℕ, suc, ◌+◌, ◌≤◌}
use native.Mathlib.Nat.{add-zero}
use native.Mathlib.Omega.{arith}
use lib.ListN.{length, take, drop, set, length-append}
use lib.Seq.{sets, sets-eq, set_comm, length-take-le, take-length, take_at}
use borrow.Rule.Slice.PartMut.{put_mid}
use Rattle.std.proofs.lemmas.Slice.{put_mid-paste}

shift : (i k : ℕ) → i + suc k ≡ suc i + k
shift i k = omega arith

pub sets_append : (u v l : List ℕ) (i : ℕ) → sets (sets l i u) (i + length u) v ≡ sets l i (u ++ v)
sets_append [] v l i = ap (λ (k : ℕ). sets l k v) (add-zero i)
sets_append (a ∷ u) v l i = ap (λ (k : ℕ). sets (sets (set l i a) (suc i) u) k v) (shift i (length u)) ∙ sets_append u v (set l i a) (suc i)

pub sets_set : (u l : List ℕ) (i j c : ℕ) → i + length u ≤ j → set (sets l i u) j c ≡ sets (set l j c) i u
sets_set [] l i j c h = refl
sets_set (a ∷ u) l i j c h = sets_set u (set l i a) (suc i) j c (omega arith) ∙ ap (λ (r : List ℕ). sets r (suc i) u) (set_comm l i j a c (λ e. omega arith))

pub take_sets : (u l : List ℕ) (i : ℕ) → i + length u ≤ length l → take (i + length u) (sets l i u) ≡ take i l ++ u
take_sets u l i h =
    let long = length-take-le i l (omega arith) in
    let both = length-append (take i l) u in
    ap (take (i + length u)) (sets-eq u l i h) ∙ take_at (take i l ++ u) (drop (i + length u) l) (i + length u) (omega arith)

pub sets_copied : (u l part : List ℕ) (i k : ℕ) → part ≡ u → k ≡ length u → i + length u ≤ length l → put_mid i k l part ≡ sets l i u
sets_copied u l part i k e f h =
    put_mid-paste i k l part u (length u) e (sym f) refl ∙ ap (λ (t : List ℕ). take i l ++ t ++ drop (i + length u) l) (take-length u) ∙ sym (sets-eq u l i h)
