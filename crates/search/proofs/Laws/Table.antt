-- Laws of the table's columns, which are changed row by row. Nothing here asks for a table's length but the laws of a cell that is
-- written, which ask that its place is there.
--
--     Rows        each_row_none  each_row_more     at 0 rows and at the code's k + 1
--                 Local               a change of one row that keeps the length and the cells of the other rows
--                 each_row-length     the length stays
--                 each_row_later      rows not reached stay               each_row_done    rows passed stay as their turn left them
--                 each_row-cell       a cell after all turns, by what the turn of its row makes of that row
--                 each_row_bounded    cells of rows not reached are bounded
--                 each_row_keeps      bounded again, if each turn keeps that
--                 bounded_set         bounded again with one cell written
--     Subtract    subtract_local  subtract_length
--                 subtract_cell       of the second column                subtract_other    other columns stay
--                 subtract_bounded    bounded again, where it fits
--     Swap        swap_local  swap_length
--                 swap_first  swap_second     of the two columns          swap_other        other columns stay
--                 swap_bounded        bounded again
--     Negate      negate_local   negate_length
--                 negate_cell         of the column                       negate_other      other columns stay
--                 negate_bounded      bounded again
--
-- Assumes nothing.
use mathlib.Core.Path.{◌≡◌, refl, sym, ◌∙◌, ap, ap₂, subst⁻¹, fun_ext}
use mathlib.Core.Bool.{true}
use mathlib.Core.List.{List}
use Prim.Native.Nat.{ℕ, zero, suc, ◌+◌, ◌*◌, ◌<◌, ◌≤◌}
use native.Mathlib.Numerals.{add-one}
use native.Mathlib.Omega.{arith}
use native.Mathlib.Decide.{ℕ_discrete, dec_lt}
use lib.ListN.{set, length, length-set}
use lib.Seq.{get_or-set_same, get_or-set_other, set_out}
use lib.IntN.{ℤ, pos, neg_ℤ, nat_abs}
use Rattle.integers.specs.Range.{within}
use Rattle.integers.specs.Run.{at}
use Rattle.integers.proofs.Laws.Magnitude.{nat_abs_neg}
use Rattle.integers.proofs.Laws.Below.{all_each}
use Rattle.integers.proofs.Laws.Decide.{by_within}
use Rattle.search.specs.Table.{bound, cell, Bounded, each_row, less_times, subtract_row, swap_row, negate_row, subtract_column, subtraction_fits, swap_columns, negate_column}

-- Rows -----------------------------------------------------------------------------------------------------------------

module _ (f : ℕ → List ℤ → List ℤ) (t : List ℤ) where
  pub each_row_none : t ≡ each_row 0 f t
  unfolding each_row
  each_row_none = refl

  pub each_row_more : (n : ℕ) → f n (each_row n f t) ≡ each_row (n + 1) f t
  unfolding each_row
  each_row_more n = rw add-one refl

pub record Local (f : ℕ → List ℤ → List ℤ) : Type 0 where
  pub long : (i : ℕ) (t : List ℤ) → length (f i t) ≡ length t
  pub above : (i : ℕ) (t : List ℤ) (k : ℕ) → i * 24 + 24 ≤ k → at (f i t) k ≡ at t k
  pub below : (i : ℕ) (t : List ℤ) (k : ℕ) → k < i * 24 → at (f i t) k ≡ at t k

module _ (f : ℕ → List ℤ → List ℤ) (l : Local f) (t : List ℤ) where
  pub each_row-length : (n : ℕ) → length (each_row n f t) ≡ length t
  unfolding each_row
  each_row-length zero = refl
  each_row-length (suc n) = l.long n (each_row n f t) ∙ each_row-length n

  pub each_row_later : (n k : ℕ) → n * 24 ≤ k → at (each_row n f t) k ≡ at t k
  unfolding each_row
  each_row_later zero k h = refl
  each_row_later (suc n) k h = l.above n (each_row n f t) k (omega arith) ∙ each_row_later n k (omega arith)

  pub each_row_done : (n i k : ℕ) → i < n → k < i * 24 + 24 → at (each_row n f t) k ≡ at (f i (each_row i f t)) k
  unfolding each_row
  each_row_done zero i k h p = absurd (omega arith)
  each_row_done (suc n) i k h p = elim (ℕ_discrete i n) [
    | yes e ↦ ap (λ (m : ℕ). at (f m (each_row m f t)) k) (sym e)
    | no d ↦ l.below n (each_row n f t) k (omega arith) ∙ each_row_done n i k (omega arith) p
  ]

  pub each_row-cell : (i j : ℕ) → i < 36 → j < 24 → (new : (ℕ → ℤ) → ℤ) → ((u : List ℤ) → length u ≡ length t → cell (f i u) i j ≡ new (cell u i)) → cell (each_row 36 f t) i j ≡ new (cell t i)
  each_row-cell i j h g new turn =
      each_row_done 36 i (i * 24 + j) h (omega arith)
      ∙ turn (each_row i f t) (each_row-length i)
      ∙ ap new (fun_ext (λ k. each_row_later i (i * 24 + k) (omega arith)))

  pub each_row_bounded : (n k : ℕ) → n * 24 ≤ k → Bounded t → nat_abs (at (each_row n f t) k) ≤ bound
  each_row_bounded n k h b = subst⁻¹ (λ z. nat_abs z ≤ bound) (each_row_later n k h) (b.place k)

pub each_row_keeps : (f : ℕ → List ℤ → List ℤ) → ((i : ℕ) (t : List ℤ) → Bounded t → Bounded (f i t)) → (n : ℕ) (t : List ℤ) → Bounded t → Bounded (each_row n f t)
unfolding each_row
each_row_keeps f keeps zero t b = b
each_row_keeps f keeps (suc n) t b = keeps n (each_row n f t) (each_row_keeps f keeps n t b)

pub bounded_set : (t : List ℤ) (k : ℕ) (x : ℤ) → nat_abs x ≤ bound → Bounded t → Bounded (set t k x)
bounded_set t k x h b = record {
  place = λ j. elim (ℕ_discrete j k) [
    | yes e ↦ elim (dec_lt k (length t)) [
      | yes l ↦ subst⁻¹ (λ z. nat_abs z ≤ bound) (ap (at (set t k x)) e ∙ get_or-set_same t k x (pos 0) l) h
      | no g ↦ subst⁻¹ (λ (u : List ℤ). nat_abs (at u j) ≤ bound) (set_out t k x (omega arith)) (b.place j)
    ]
    | no d ↦ subst⁻¹ (λ z. nat_abs z ≤ bound) (get_or-set_other t k j x (pos 0) d) (b.place j)
  ];
}

-- Subtract -------------------------------------------------------------------------------------------------------------

module _ (first second : ℕ) (q : ℤ) (h : second < 24) where
  abbrev new : List ℤ → ℕ → ℤ
  new t i = less_times (cell t i second) q (cell t i first)

  pub subtract_local : Local (subtract_row first second q)
  subtract_local = record {
    long = λ i t. length-set t (i * 24 + second) (new t i);
    above = λ i t k p. get_or-set_other t (i * 24 + second) k (new t i) (pos 0) (omega arith);
    below = λ i t k p. get_or-set_other t (i * 24 + second) k (new t i) (pos 0) (omega arith);
  }

  module _ (t : List ℤ) where
    pub subtract_length : length (subtract_column t first second q) ≡ length t
    subtract_length = each_row-length (subtract_row first second q) subtract_local t 36

    pub subtract_cell : (i : ℕ) → i < 36 → i * 24 + second < length t → cell (subtract_column t first second q) i second ≡ less_times (cell t i second) q (cell t i first)
    subtract_cell i p g = each_row-cell (subtract_row first second q) subtract_local t i second p h (λ r. less_times (r second) q (r first))
        (λ u e. get_or-set_same u (i * 24 + second) (new u i) (pos 0) (omega arith))

    pub subtract_other : (i j : ℕ) → i < 36 → j < 24 → (j ≡ second → ⊥) → cell (subtract_column t first second q) i j ≡ cell t i j
    subtract_other i j p g d = each_row-cell (subtract_row first second q) subtract_local t i j p g (λ r. r j)
        (λ u e. get_or-set_other u (i * 24 + second) (i * 24 + j) (new u i) (pos 0) (omega arith))

    rows_bounded : (n : ℕ) → ((i : ℕ) → i < n → within bound (new t i) ≡ true) → Bounded t → Bounded (each_row n (subtract_row first second q) t)
    unfolding each_row
    rows_bounded zero fit b = b
    rows_bounded (suc n) fit b =
        let f = subtract_row first second q in
        let u = each_row n f t in
        let e = ap₂ (λ y x. less_times y q x) (each_row_later f subtract_local t n (n * 24 + second) (omega arith)) (each_row_later f subtract_local t n (n * 24 + first) (omega arith)) in
        bounded_set u (n * 24 + second) (new u n) (subst⁻¹ (λ z. nat_abs z ≤ bound) e ((by_within bound (new t n)).yes (fit n (omega arith)))) (rows_bounded n (λ i p. fit i (omega arith)) b)

    pub subtract_bounded : subtraction_fits t first second q ≡ true → Bounded t → Bounded (subtract_column t first second q)
    subtract_bounded fit b = rows_bounded 36 (all_each 36 (λ i. within bound (new t i)) fit) b

-- Swap -----------------------------------------------------------------------------------------------------------------

module _ (a b : ℕ) (h : a < 24) (g : b < 24) where
  abbrev half : List ℤ → ℕ → List ℤ
  half t i = set t (i * 24 + a) (cell t i b)

  pub swap_local : Local (swap_row a b)
  swap_local = record {
    long = λ i t. length-set (half t i) (i * 24 + b) (cell t i a) ∙ length-set t (i * 24 + a) (cell t i b);
    above = λ i t k p. get_or-set_other (half t i) (i * 24 + b) k (cell t i a) (pos 0) (omega arith) ∙ get_or-set_other t (i * 24 + a) k (cell t i b) (pos 0) (omega arith);
    below = λ i t k p. get_or-set_other (half t i) (i * 24 + b) k (cell t i a) (pos 0) (omega arith) ∙ get_or-set_other t (i * 24 + a) k (cell t i b) (pos 0) (omega arith);
  }

  module _ (t : List ℤ) where
    pub swap_length : length (swap_columns t a b) ≡ length t
    swap_length = each_row-length (swap_row a b) swap_local t 36

    pub swap_second : (i : ℕ) → i < 36 → i * 24 + b < length t → cell (swap_columns t a b) i b ≡ cell t i a
    swap_second i p l = each_row-cell (swap_row a b) swap_local t i b p g (λ r. r a)
        (λ u e. let w = length-set u (i * 24 + a) (cell u i b) in get_or-set_same (half u i) (i * 24 + b) (cell u i a) (pos 0) (omega arith))

    pub swap_first : (i : ℕ) → i < 36 → i * 24 + a < length t → cell (swap_columns t a b) i a ≡ cell t i b
    swap_first i p l = elim (ℕ_discrete a b) [
      | yes e ↦ ap (cell (swap_columns t a b) i) e ∙ swap_second i p (omega arith) ∙ ap (cell t i) e
      | no d ↦ each_row-cell (swap_row a b) swap_local t i a p h (λ r. r b)
          (λ u e. get_or-set_other (half u i) (i * 24 + b) (i * 24 + a) (cell u i a) (pos 0) (omega arith) ∙ get_or-set_same u (i * 24 + a) (cell u i b) (pos 0) (omega arith))
    ]

    pub swap_other : (i j : ℕ) → i < 36 → j < 24 → (j ≡ a → ⊥) → (j ≡ b → ⊥) → cell (swap_columns t a b) i j ≡ cell t i j
    swap_other i j p l d e = each_row-cell (swap_row a b) swap_local t i j p l (λ r. r j)
        (λ u w. get_or-set_other (half u i) (i * 24 + b) (i * 24 + j) (cell u i a) (pos 0) (omega arith) ∙ get_or-set_other u (i * 24 + a) (i * 24 + j) (cell u i b) (pos 0) (omega arith))

pub swap_bounded : (a b : ℕ) (t : List ℤ) → Bounded t → Bounded (swap_columns t a b)
swap_bounded a b t h = each_row_keeps (swap_row a b)
    (λ i u k. bounded_set (set u (i * 24 + a) (cell u i b)) (i * 24 + b) (cell u i a) (k.place (i * 24 + a)) (bounded_set u (i * 24 + a) (cell u i b) (k.place (i * 24 + b)) k))
    36 t h

-- Negate ---------------------------------------------------------------------------------------------------------------

module _ (a : ℕ) (h : a < 24) where
  pub negate_local : Local (negate_row a)
  negate_local = record {
    long = λ i t. length-set t (i * 24 + a) (neg_ℤ (cell t i a));
    above = λ i t k p. get_or-set_other t (i * 24 + a) k (neg_ℤ (cell t i a)) (pos 0) (omega arith);
    below = λ i t k p. get_or-set_other t (i * 24 + a) k (neg_ℤ (cell t i a)) (pos 0) (omega arith);
  }

  module _ (t : List ℤ) where
    pub negate_length : length (negate_column t a) ≡ length t
    negate_length = each_row-length (negate_row a) negate_local t 36

    pub negate_cell : (i : ℕ) → i < 36 → i * 24 + a < length t → cell (negate_column t a) i a ≡ neg_ℤ (cell t i a)
    negate_cell i p l = each_row-cell (negate_row a) negate_local t i a p h (λ r. neg_ℤ (r a))
        (λ u e. get_or-set_same u (i * 24 + a) (neg_ℤ (cell u i a)) (pos 0) (omega arith))

    pub negate_other : (i j : ℕ) → i < 36 → j < 24 → (j ≡ a → ⊥) → cell (negate_column t a) i j ≡ cell t i j
    negate_other i j p g d = each_row-cell (negate_row a) negate_local t i j p g (λ r. r j)
        (λ u e. get_or-set_other u (i * 24 + a) (i * 24 + j) (neg_ℤ (cell u i a)) (pos 0) (omega arith))

pub negate_bounded : (a : ℕ) (t : List ℤ) → Bounded t → Bounded (negate_column t a)
negate_bounded a t h = each_row_keeps (negate_row a)
    (λ i u k. bounded_set u (i * 24 + a) (neg_ℤ (cell u i a)) (omega (arith, nat_abs_neg (cell u i a), k.place (i * 24 + a))) k)
    36 t h
