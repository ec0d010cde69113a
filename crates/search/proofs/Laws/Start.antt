-- The state that a search starts from.
--
--     Congruences    congruences_none  congruences_more     before row 0, and before the code's k + 1
--                    congruences_few    at most one a row
--                    congruences_range  those before row n, as a chain counts them
--     Cells          upper_coef upper_modulus upper_zero             a row's cell, by its column
--                    start_row start_one start_past start_off        the cell of a row, of the diagonal, past its end, off it
--     Entered        from_none from_more         places filled from one on: none, and one more
--                    from_filled                 after those before them
--                    place_is                    a cell of the upper table, by its place
--                    diagonal_none diagonal_more the diagonal: no column, and one more
--                    start_entered               rows and diagonal entered into a table of zeros are the start's table
--     Sound          rows_in            the rows of a well-formed problem are in their ranges
--                    start_small        every cell is at most a million in magnitude
--                    start_sound        the start of a well-formed problem is sound
--
-- Assumes nothing.
use mathlib.Core.Path.{◌≡◌, refl, sym, ◌∙◌, ap, ap₂, subst⁻¹}
use mathlib.Core.Bool.{Bool, true, false, cond, ◌&&◌}
use mathlib.Core.List.{List, ◌∷◌}
use Prim.Native.Nat.{ℕ, zero, suc, ◌+◌, ◌*◌, ◌-◌, ◌<◌, ◌≤◌, ◌/◌, ◌%◌}
use native.Mathlib.Numerals.{add-one}
use native.Mathlib.Omega.{arith}
use native.Mathlib.Decide.{ℕ_discrete, dec_lt}
use borrow.Author.Tests.{lt-ltb, le-ltb, eq-eqb, ne_eqb}
use lib.Dec.{eqb, ltb}
use lib.ListN.{set, length, length-set, replicate, length-replicate, get_or-replicate}
use lib.Seq.{get_or-set_same, get_or-set_other}
use lib.IntN.{ℤ, pos, nat_abs}
use lib.Signed.{◌≤ℤ◌}
use Rattle.std.proofs.Common.{not, filter}
use Rattle.std.specs.List.{range_with_len}
use Rattle.integers.specs.Range.{is_zero}
use Rattle.integers.specs.Run.{at, tabulate}
use Rattle.integers.proofs.Laws.Run.{at_end, tabulate-length, tabulate-at, tabulate_is, tabulate_zeros, filled, filled_length, filled_later, filled_at}
use Rattle.problem.specs.Rows.{Rows, rows_of}
use Rattle.problem.specs.WellFormed.{million, RowInRange, WellFormed}
use Rattle.search.specs.Table.{bound}
use Rattle.search.specs.State.{congruences, own_column, width_of, upper_cell, start_cell, start_table, given_of, start}
use Rattle.search.specs.Code.{filled_from, upper_place, entered_diagonal, Sound}

-- Congruences ----------------------------------------------------------------------------------------------------------

module _ (l : ℕ → ℤ) where
  pub congruences_none : congruences l 0 ≡ 0
  unfolding congruences
  congruences_none = refl

  pub congruences_more : (k : ℕ) → congruences l (k + 1) ≡ congruences l k + cond (is_zero (l k)) 0 1
  unfolding congruences
  congruences_more k = rw add-one

one : (b : Bool) → cond b 0 1 ≤ 1
one true = omega arith
one false = omega arith

pub congruences_few : (l : ℕ → ℤ) (k : ℕ) → congruences l k ≤ k
unfolding congruences
congruences_few l zero = omega arith
congruences_few l (suc k) = let h = congruences_few l k in let g = one (is_zero (l k)) in omega arith

-- the congruences among the n rows from a on, as a chain counts them
congruences_from : (l : ℕ → ℤ) (a n : ℕ) → congruences l a + length (filter (λ k. not (is_zero (l k))) (range_with_len a n)) ≡ congruences l (a + n)
congruences_from l a zero = let e : a + 0 ≡ a = omega arith in ap (λ k. k + 0) (ap (congruences l) (sym e)) ∙ omega arith
congruences_from l a (suc n) =
    let e : a + 1 + n ≡ a + suc n = omega arith in
    counted (is_zero (l a)) _ ∙ ap (λ k. k + length (filter (λ k. not (is_zero (l k))) (range_with_len (a + 1) n))) (sym (congruences_more l a)) ∙ congruences_from l (a + 1) n ∙ ap (congruences l) e
  where
    counted : (z : Bool) (rest : List ℕ) → congruences l a + length (cond (not z) (a ∷ rest) rest) ≡ congruences l a + cond z 0 1 + length rest
    counted true rest = omega arith
    counted false rest = omega arith

pub congruences_range : (l : ℕ → ℤ) (n : ℕ) → length (filter (λ k. not (is_zero (l k))) (range_with_len 0 n)) ≡ congruences l n
congruences_range l n =
    let e : 0 + n ≡ n = omega arith in
    let f = congruences_from l 0 n in
    let g = congruences_none l in
    let h = ap (congruences l) e in
    omega arith

-- Cells ----------------------------------------------------------------------------------------------------------------

module _ (n : ℕ) (R : Rows) (i j : ℕ) where
  upper_by : {s t : Bool} → ltb j n ≡ s → eqb j (own_column n R i) ≡ t → upper_cell n R i j ≡ cond s (R.coef i j) (cond t (R.modulus i) (pos 0))
  unfolding upper_cell
  upper_by e f = ap₂ (λ (s t : Bool). cond s (R.coef i j) (cond t (R.modulus i) (pos 0))) e f

  pub upper_coef : j < n → upper_cell n R i j ≡ R.coef i j
  upper_coef h = upper_by (lt-ltb j n h) refl

  pub upper_modulus : n ≤ j → j ≡ own_column n R i → upper_cell n R i j ≡ R.modulus i
  upper_modulus h e = upper_by (le-ltb j n h) (eq-eqb j (own_column n R i) e)

  pub upper_zero : n ≤ j → (j ≡ own_column n R i → ⊥) → upper_cell n R i j ≡ pos 0
  upper_zero h e = upper_by (le-ltb j n h) (ne_eqb j (own_column n R i) e)

  start_by : {s t u : Bool} → ltb i R.m ≡ s → eqb i (12 + j) ≡ t → ltb j (width_of n R) ≡ u → start_cell n R i j ≡ cond s (upper_cell n R i j) (cond (t && u) (pos 1) (pos 0))
  unfolding start_cell
  start_by {s} e f g =
      ap (λ (b : Bool). cond b (upper_cell n R i j) (cond (eqb i (12 + j) && ltb j (width_of n R)) (pos 1) (pos 0))) e
      ∙ ap₂ (λ (t u : Bool). cond s (upper_cell n R i j) (cond (t && u) (pos 1) (pos 0))) f g

  pub start_row : i < R.m → start_cell n R i j ≡ upper_cell n R i j
  start_row h = start_by (lt-ltb i R.m h) refl refl

  pub start_one : R.m ≤ i → i ≡ 12 + j → j < width_of n R → start_cell n R i j ≡ pos 1
  start_one h e l = start_by (le-ltb i R.m h) (eq-eqb i (12 + j) e) (lt-ltb j (width_of n R) l)

  pub start_past : R.m ≤ i → i ≡ 12 + j → width_of n R ≤ j → start_cell n R i j ≡ pos 0
  start_past h e l = start_by (le-ltb i R.m h) (eq-eqb i (12 + j) e) (le-ltb j (width_of n R) l)

  pub start_off : R.m ≤ i → (i ≡ 12 + j → ⊥) → start_cell n R i j ≡ pos 0
  start_off h e = start_by (le-ltb i R.m h) (ne_eqb i (12 + j) e) refl

-- Entered --------------------------------------------------------------------------------------------------------------

module _ (from : ℕ) (f : ℕ → ℤ) (t : List ℤ) where
  pub from_none : t ≡ filled_from from 0 f t
  unfolding filled_from
  from_none = refl

  pub from_more : (k : ℕ) → set (filled_from from k f t) (from + k) (f (from + k)) ≡ filled_from from (k + 1) f t
  unfolding filled_from
  from_more k = rw add-one

  pub from_filled : (k : ℕ) → filled_from from k f (filled from f t) ≡ filled (from + k) f t
  unfolding filled_from filled
  from_filled zero = let e : from ≡ from + 0 = omega arith in ap (λ (n : ℕ). filled n f t) e
  from_filled (suc k) =
      let e : suc (from + k) ≡ from + suc k = omega arith in
      ap (λ (run : List ℤ). set run (from + k) (f (from + k))) (from_filled k) ∙ ap (λ (n : ℕ). filled n f t) e

pub place_is : (n : ℕ) (R : Rows) (i j : ℕ) → j < 24 → upper_cell n R i j ≡ upper_place n R (i * 24 + j)
place_is n R i j h =
    let e : i ≡ (i * 24 + j) / 24 = omega arith in
    let f : j ≡ (i * 24 + j) % 24 = omega arith in
    ap₂ (upper_cell n R) e f

module _ (t : List ℤ) where
  pub diagonal_none : t ≡ entered_diagonal 0 t
  unfolding entered_diagonal
  diagonal_none = refl

  pub diagonal_more : (j : ℕ) → set (entered_diagonal j t) ((12 + j) * 24 + j) (pos 1) ≡ entered_diagonal (j + 1) t
  unfolding entered_diagonal
  diagonal_more j = rw add-one

  diagonal_length : (w : ℕ) → length (entered_diagonal w t) ≡ length t
  unfolding entered_diagonal
  diagonal_length zero = refl
  diagonal_length (suc j) = length-set (entered_diagonal j t) ((12 + j) * 24 + j) (pos 1) ∙ diagonal_length j

  diagonal_off : (w k : ℕ) → ((j : ℕ) → j < w → k ≡ (12 + j) * 24 + j → ⊥) → at (entered_diagonal w t) k ≡ at t k
  unfolding entered_diagonal
  diagonal_off zero k h = refl
  diagonal_off (suc j) k h = get_or-set_other (entered_diagonal j t) ((12 + j) * 24 + j) k (pos 1) (pos 0) (h j (omega arith)) ∙ diagonal_off j k (λ i l. h i (omega arith))

  diagonal_on : (w j : ℕ) → j < w → w ≤ 24 → length t ≡ 864 → at (entered_diagonal w t) ((12 + j) * 24 + j) ≡ pos 1
  unfolding entered_diagonal
  diagonal_on zero j h wide long = absurd (omega arith)
  diagonal_on (suc i) j h wide long = let l = diagonal_length i in elim (ℕ_discrete j i) [
    | yes e ↦ ap (λ (k : ℕ). at (set (entered_diagonal i t) ((12 + i) * 24 + i) (pos 1)) ((12 + k) * 24 + k)) e ∙ get_or-set_same (entered_diagonal i t) ((12 + i) * 24 + i) (pos 1) (pos 0) (omega arith)
    | no e ↦ get_or-set_other (entered_diagonal i t) ((12 + i) * 24 + i) ((12 + j) * 24 + j) (pos 1) (pos 0) (omega arith) ∙ diagonal_on i j (omega arith) (omega arith) long
  ]

module _ (n : ℕ) (R : Rows) (few : R.m ≤ 12) (wide : width_of n R ≤ 24) where
  abbrev zeros : List ℤ
  zeros = replicate 864 (pos 0)

  abbrev rows : List ℤ
  rows = filled (R.m * 24) (upper_place n R) zeros

  long : length rows ≡ 864
  long = filled_length (R.m * 24) (upper_place n R) zeros ∙ length-replicate 864 (pos 0)

  unentered : (k : ℕ) → R.m ≤ k / 24 → k < 864 → at rows k ≡ pos 0
  unentered k h l = filled_later (R.m * 24) (upper_place n R) zeros k (omega arith) ∙ get_or-replicate 864 k (pos 0) (pos 0) l

  entered_at : (k : ℕ) → k < 864 → at (entered_diagonal (width_of n R) rows) k ≡ start_cell n R (k / 24) (k % 24)
  entered_at k l = elim (dec_lt (k / 24) R.m) [
    | yes h ↦ diagonal_off rows (width_of n R) k (λ j g e. omega arith)
        ∙ filled_at (R.m * 24) (upper_place n R) zeros k (let z = length-replicate {A = ℤ} 864 (pos 0) in omega arith) (omega arith)
        ∙ sym (start_row n R (k / 24) (k % 24) h)
    | no h ↦ elim (ℕ_discrete (k / 24) (12 + k % 24)) [
      | yes e ↦ elim (dec_lt (k % 24) (width_of n R)) [
        | yes g ↦ let p : k ≡ (12 + k % 24) * 24 + k % 24 = omega arith in
            ap (at (entered_diagonal (width_of n R) rows)) p ∙ diagonal_on rows (width_of n R) (k % 24) g wide long ∙ sym (start_one n R (k / 24) (k % 24) (omega arith) e g)
        | no g ↦ diagonal_off rows (width_of n R) k (λ j i q. omega arith) ∙ unentered k (omega arith) l ∙ sym (start_past n R (k / 24) (k % 24) (omega arith) e (omega arith))
      ]
      | no e ↦ diagonal_off rows (width_of n R) k (λ j g q. omega arith) ∙ unentered k (omega arith) l ∙ sym (start_off n R (k / 24) (k % 24) (omega arith) e)
    ]
  ]

  pub start_entered : entered_diagonal (width_of n R) (filled (R.m * 24) (upper_place n R) (replicate 864 (pos 0))) ≡ start_table n R
  unfolding start_table
  start_entered = tabulate_is 864 (λ k. start_cell n R (k / 24) (k % 24)) (entered_diagonal (width_of n R) rows) (diagonal_length rows (width_of n R) ∙ long) entered_at

-- Sound ----------------------------------------------------------------------------------------------------------------

-- a property of both arms
module _ (P : ℤ → Type 0) (x y : ℤ) where
  either : (t : Bool) → P x → P y → P (cond t x y)
  either true f g = f
  either false f g = g

  below : (i n : ℕ) → (i < n → P x) → (n ≤ i → P y) → P (cond (ltb i n) x y)
  below i n f g = elim (dec_lt i n) [
    | yes l ↦ subst⁻¹ (λ (t : Bool). P (cond t x y)) (lt-ltb i n l) (f l)
    | no l ↦ subst⁻¹ (λ (t : Bool). P (cond t x y)) (le-ltb i n (omega arith)) (g (omega arith))
  ]

pub rows_in : (n ma mb : ℕ) (a b : List ℤ) → WellFormed n ma mb a b → (i : ℕ) → i < ma + mb → RowInRange n (rows_of n ma mb a b) i
rows_in n ma mb a b w i h = record {
  coef_in = λ j k. below (λ z. nat_abs z ≤ million) _ _ i ma (λ l. (w.ranges_a.row i l).coef_in j k) (λ l. (w.ranges_b.row (i - ma) (omega arith)).coef_in j k);
  const_in = below (λ z. nat_abs z ≤ million) _ _ i ma (λ l. (w.ranges_a.row i l).const_in) (λ l. (w.ranges_b.row (i - ma) (omega arith)).const_in);
  modulus_in = below (λ z. nat_abs z ≤ million) _ _ i ma (λ l. (w.ranges_a.row i l).modulus_in) (λ l. (w.ranges_b.row (i - ma) (omega arith)).modulus_in);
  modulus_low = below (λ z. pos 0 ≤ℤ z) _ _ i ma (λ l. (w.ranges_a.row i l).modulus_low) (λ l. (w.ranges_b.row (i - ma) (omega arith)).modulus_low);
}

abbrev Small : ℤ → Type 0
Small z = nat_abs z ≤ million

zero_small : Small (pos 0)
zero_small = omega arith

upper_small : (n : ℕ) (R : Rows) (i j : ℕ) → RowInRange n R i → Small (upper_cell n R i j)
unfolding upper_cell
upper_small n R i j r =
    below Small (R.coef i j) (cond (eqb j (own_column n R i)) (R.modulus i) (pos 0)) j n
    (r.coef_in j)
    (λ l. either Small (R.modulus i) (pos 0) (eqb j (own_column n R i)) r.modulus_in zero_small)

pub start_small : (n : ℕ) (R : Rows) → ((i : ℕ) → i < R.m → RowInRange n R i) → (i j : ℕ) → Small (start_cell n R i j)
unfolding start_cell
start_small n R h i j =
    let d = eqb i (12 + j) && ltb j (width_of n R) in
    below Small (upper_cell n R i j) (cond d (pos 1) (pos 0)) i R.m
    (λ l. upper_small n R i j (h i l))
    (λ l. either Small (pos 1) (pos 0) d (omega arith) zero_small)

tabulate_small : (k : ℕ) (f : ℕ → ℤ) (limit : ℕ) → ((i : ℕ) → nat_abs (f i) ≤ limit) → (i : ℕ) → nat_abs (at (tabulate k f) i) ≤ limit
tabulate_small k f limit h i = elim (dec_lt i k) [
  | yes l ↦ subst⁻¹ (λ (z : ℤ). nat_abs z ≤ limit) (tabulate-at k f i l) (h i)
  | no l ↦ let e = tabulate-length k f in subst⁻¹ (λ (z : ℤ). nat_abs z ≤ limit) (at_end (tabulate k f) i (omega arith)) (omega arith)
]

module _ (n ma mb : ℕ) (a b : List ℤ) (w : WellFormed n ma mb a b) where
  cells_bounded : (k : ℕ) → nat_abs (at (start_table n (rows_of n ma mb a b)) k) ≤ bound
  unfolding start_table
  cells_bounded = tabulate_small 864 _ bound (λ k. omega (arith, start_small n (rows_of n ma mb a b) (rows_in n ma mb a b w) (k / 24) (k % 24)))

  cells_long : length (start_table n (rows_of n ma mb a b)) ≡ 864
  unfolding start_table
  cells_long = tabulate-length 864 _

  consts_small : (k : ℕ) → Small (at (given_of n (rows_of n ma mb a b)).consts k)
  unfolding given_of
  consts_small = tabulate_small 12 _ million (λ i. below Small _ (pos 0) i (ma + mb) (λ l. (rows_in n ma mb a b w i l).const_in) (λ l. zero_small))

  pub start_sound : Sound (start n (rows_of n ma mb a b))
  unfolding start given_of
  start_sound =
      let few = w.shape.few_n in
      let some = w.shape.some_m in
      let rows = w.shape.few_m in
      let own = congruences_few (rows_of n ma mb a b).modulus (ma + mb) in
      record {
        cells_long = cells_long;
        pivots_long = length-replicate {A = ℕ} 12 0;
        few_n = few;
        few_m = rows;
        wide = omega arith;
        row_in = omega arith;
        count_in = omega arith;
        bounded = record { place = cells_bounded };
        zs_bounded = record { place = λ k. subst⁻¹ (λ (run : List ℤ). nat_abs (at run k) ≤ bound) (tabulate_zeros 12) (tabulate_small 12 (λ i. pos 0) bound (λ i. omega arith) k) };
        consts_in = consts_small;
        pivot_row = λ k h. absurd (omega arith);
        pivot = λ k h. absurd (omega arith);
      }
