-- A list that holds the pieces of all patches is the slab that is made of them.
use Rattle.std.proofs.Common.{◌≡◌, inl, inr, ℕ, ◌+◌, ◌-◌, ◌*◌, ◌/◌, ◌%◌, ◌<◌, ◌≤◌, Bool, true, false, List, length, refl, sym, ap, ◌∙◌, subst, arith}
use Rattle.std.proofs.Math.Nat.{mod-add-div', mod-lt, div-lt_iff_lt-mul, mul_assoc}
use Rattle.std.proofs.lemmas.List.{same_lists, get_or_default}
use Rattle.std.specs.Prelude.{ℤ, pos, unsigned_abs, slice_index_or}
use Rattle.wf_model.specs.declared.layout.Layout.{Layout}
use Rattle.wf_model.specs.declared.plan.Plan.{Plan}
use Rattle.wf_model.specs.Plans.{domain_of, field_of, nx, ny, nz, extra}
use Rattle.wf_model.specs.Streams.{one_if, file_x, file_y}
use Rattle.wf_model.specs.Patches.{split_of, is_own, is_in_domain, owner_of}
use Rattle.wf_model.specs.Sound.{IsDomain, IsSoundLayout}
use Rattle.wf_model.specs.Agreement.{IsPatch}
use Rattle.wf_laws.proofs.Places.{IsRoom, room_of, own-domain, place-domain, range_x, range_y, owner_owns, some_nx, some_ny}
use Rattle.wf_laws.proofs.NestMail.{domain_x, domain_y}
use Rattle.wf_laws.proofs.Listing.{length-listed, get_or-listed}
use Rattle.wf_laws.proofs.BoxCells.{place_is}
use Rattle.wf_laws.proofs.Owners.{one_owner}
use Rattle.wf_held_laws.specs.Slabs.{IsFilePoint, file_place, row_of, column_of, piece_place, number_in_pieces, slab_of_pieces, HoldsAllPieces, SlabsHoldAllPieces, ListsThatHoldAllPiecesAreSlabs}
use Rattle.wf_held_laws.proofs.SlabPlaces.{columns_are_points, rows_are_points}
use Rattle.wf_held_laws.proofs.SlabNumbers.{back}

-- a place of a list in order k, j, i, by its plane, row and column
record PlaceOf (n zs ys xs : ℕ) : Type 0 where
  pub a : ℕ
  pub b : ℕ
  pub c : ℕ
  pub plane : a < zs
  pub row : b < ys
  pub column : c < xs
  pub is : n ≡ (a * ys + b) * xs + c

-- each place has them
place_of : (n zs ys xs : ℕ) → 0 < ys → 0 < xs → n < zs * (ys * xs) → PlaceOf n zs ys xs
place_of n zs ys xs sy sx h =
    let rows : n / xs < zs * ys = (div-lt_iff_lt-mul sx).1 (omega (arith, h, mul_assoc zs ys xs)) in
    let first : n % xs + n / xs * xs ≡ n = mod-add-div' n xs in
    let second : (n / xs) % ys + (n / xs) / ys * ys ≡ n / xs = mod-add-div' (n / xs) ys in
    let turned : (n / xs) / ys * ys + (n / xs) % ys ≡ n / xs = omega (arith, second) in
    record {
      a = (n / xs) / ys;
      b = (n / xs) % ys;
      c = n % xs;
      plane = (div-lt_iff_lt-mul sy).1 rows;
      row = mod-lt (n / xs) sy;
      column = mod-lt n sx;
      is = sym (ap (λ (m : ℕ). m * xs + n % xs) turned ∙ omega (arith, first));
    }

-- a place by numbers from 1
same_place : (n ys xs a b c : ℕ) → n ≡ (a * ys + b) * xs + c → ((a + 1 - 1) * ys + (b + 1 - 1)) * xs + (c + 1 - 1) ≡ n
same_place n ys xs a b c is = (λ m. (less a m * ys + less b m) * xs + less c m) ∙ sym is
  where
    less : (a : ℕ) → a + 1 - 1 ≡ a
    less a = omega arith

-- a file has no point less than the domain
extra_le : (s p : Bool) → extra s p ≤ one_if s
extra_le true true = omega arith
extra_le true false = omega arith
extra_le false true = omega arith
extra_le false false = omega arith

module _ (plan : Plan) (layout : Layout) (d f : ℕ) (laid : IsSoundLayout plan layout) (is : IsDomain plan d) where
  -- the domain has room for the patches
  room : IsRoom plan (split_of layout) d
  room = room_of plan layout laid d is

  -- a point of the domain is a point of the file
  of_point : (k j i : ℕ) → (1 ≤ k) × (k ≤ nz plan f) → (1 ≤ j) × (j ≤ ny plan d f) → (1 ≤ i) × (i ≤ nx plan d f) → IsFilePoint plan d f k j i
  of_point k j i hk hj hi = record {
    level = hk;
    row = (hj.0, omega (arith, hj.1, extra_le (field_of plan f).stag_y (domain_of plan d).periodic_y));
    column = (hi.0, omega (arith, hi.1, extra_le (field_of plan f).stag_x (domain_of plan d).periodic_x));
  }

  -- an own point is its own point of the domain
  record OwnPoint (y x : ℕ) : Type 0 where
    pub row : row_of plan d f y ≡ y
    pub column : column_of plan d f x ≡ x
    pub in_y : (1 ≤ y) × (y ≤ ny plan d f)
    pub in_x : (1 ≤ x) × (x ≤ nx plan d f)

  -- each own point
  own_point : (p y x : ℕ) → IsPatch layout p → is_own plan (split_of layout) d p f (pos y) (pos x) ≡ true → OwnPoint y x
  own_point p y x hp own =
      let inside : is_in_domain plan d f (pos y) (pos x) ≡ true = own-domain plan (split_of layout) d room p f (pos y) (pos x) hp own in
      let place = place-domain plan (split_of layout) d room f (pos y) (pos x) inside in
      let ey : row_of plan d f y ≡ y = ap unsigned_abs (domain_y plan d f (pos y) (pos x) inside) in
      let ex : column_of plan d f x ≡ x = ap unsigned_abs (domain_x plan d f (pos y) (pos x) inside) in
      let ry = range_y plan (split_of layout) d room f (pos y) (pos x) place in
      let rx = range_x plan (split_of layout) d room f (pos y) (pos x) place in
      record { row = ey; column = ex; in_y = subst (λ (n : ℕ). (1 ≤ n) × (n ≤ ny plan d f)) ey ry; in_x = subst (λ (n : ℕ). (1 ≤ n) × (n ≤ nx plan d f)) ex rx }

  module _ (pieces : ℕ → List ℤ) where
    -- the slab of the pieces
    slab : List ℤ
    slab = slab_of_pieces plan (split_of layout) d f pieces

    -- its length
    length-slab : length slab ≡ nz plan f * (file_y plan d f * file_x plan d f)
    unfolding slab slab_of_pieces
    length-slab = length-listed (nz plan f) (file_y plan d f) (file_x plan d f) (λ k j i. number_in_pieces plan (split_of layout) d f pieces k (row_of plan d f j) (column_of plan d f i))

    -- its number at a point of the file
    slab_number : (k j i : ℕ) → IsFilePoint plan d f k j i → slice_index_or slab (file_place plan d f k j i) (pos 0) ≡ number_in_pieces plan (split_of layout) d f pieces k (row_of plan d f j) (column_of plan d f i)
    unfolding slab slab_of_pieces
    slab_number k j i at =
        ap (λ (m : ℕ). slice_index_or (slab_of_pieces plan (split_of layout) d f pieces) m (pos 0)) (place_is (k - 1) (j - 1) (i - 1) (file_y plan d f) (file_x plan d f))
        ∙ get_or-listed (nz plan f) (file_y plan d f) (file_x plan d f) (λ k j i. number_in_pieces plan (split_of layout) d f pieces k (row_of plan d f j) (column_of plan d f i)) (k - 1) (j - 1) (i - 1)
        (omega (arith, (at.level).0, (at.level).1)) (omega (arith, (at.row).0, (at.row).1)) (omega (arith, (at.column).0, (at.column).1))
        ∙ (λ n. number_in_pieces plan (split_of layout) d f pieces (back k (at.level).0 n) (row_of plan d f (back j (at.row).0 n)) (column_of plan d f (back i (at.column).0 n)))

    -- the number of an own point is in its patch's piece
    pub in_owners : (p k y x : ℕ) → IsPatch layout p → is_own plan (split_of layout) d p f (pos y) (pos x) ≡ true →
        number_in_pieces plan (split_of layout) d f pieces k y x ≡ slice_index_or (pieces p) (piece_place plan (split_of layout) d p f k y x) (pos 0)
    in_owners p k y x hp own =
        let w : OwnPoint y x = own_point p y x hp own in
        let o = owner_owns plan (split_of layout) d room f y x (w.in_y).0 (w.in_y).1 (w.in_x).0 (w.in_x).1 in
        let same : owner_of plan (split_of layout) d f y x ≡ p = one_owner plan (split_of layout) d room (owner_of plan (split_of layout) d f y x) p f (pos y) (pos x) o.0 hp o.1 own in
        ap (λ (q : ℕ). slice_index_or (pieces q) (piece_place plan (split_of layout) d q f k y x) (pos 0)) same

    -- the first column and row are points
    first_x : (1 ≤ 1) × (1 ≤ nx plan d f)
    first_x = (omega arith, omega (arith, some_nx plan (split_of layout) d room f))

    -- the same in y
    first_y : (1 ≤ 1) × (1 ≤ ny plan d f)
    first_y = (omega arith, omega (arith, some_ny plan (split_of layout) d room f))

    -- of a column and row of the domain the numbers are themselves
    column_is : (i : ℕ) → (1 ≤ i) × (i ≤ file_x plan d f) → i ≤ nx plan d f → column_of plan d f i ≡ i
    column_is i h l = elim (columns_are_points plan layout d f i laid is h) [ inl w ↦ w.1 | inr w ↦ absurd (omega (arith, w.0, l)) ]

    -- the same of a row
    row_is : (j : ℕ) → (1 ≤ j) × (j ≤ file_y plan d f) → j ≤ ny plan d f → row_of plan d f j ≡ j
    row_is j h l = elim (rows_are_points plan layout d f j laid is h) [ inl w ↦ w.1 | inr w ↦ absurd (omega (arith, w.0, l)) ]

    -- of the column behind the last one it is 1
    column_first : (i : ℕ) → (1 ≤ i) × (i ≤ file_x plan d f) → i ≡ nx plan d f + 1 → column_of plan d f i ≡ 1
    column_first i h l = elim (columns_are_points plan layout d f i laid is h) [ inl w ↦ absurd (omega (arith, w.0, l)) | inr w ↦ w.1 ]

    -- the same of a row
    row_first : (j : ℕ) → (1 ≤ j) × (j ≤ file_y plan d f) → j ≡ ny plan d f + 1 → row_of plan d f j ≡ 1
    row_first j h l = elim (rows_are_points plan layout d f j laid is h) [ inl w ↦ absurd (omega (arith, w.0, l)) | inr w ↦ w.1 ]

    -- a point of the file in another column
    in_first_column : (k j i : ℕ) → IsFilePoint plan d f k j i → IsFilePoint plan d f k j 1
    in_first_column k j i at = record { level = at.level; row = at.row; column = (omega arith, omega (arith, (at.column).0, (at.column).1)) }

    -- and in another row
    in_first_row : (k j i : ℕ) → IsFilePoint plan d f k j i → IsFilePoint plan d f k 1 i
    in_first_row k j i at = record { level = at.level; row = (omega arith, omega (arith, (at.row).0, (at.row).1)); column = at.column }

    -- the slab holds all pieces
    pub slab_holds : HoldsAllPieces plan layout d f pieces (slab_of_pieces plan (split_of layout) d f pieces)
    unfolding slab
    slab_holds = record {
      long = length-slab;
      own = λ p k y x hp hk own.
          let w : OwnPoint y x = own_point p y x hp own in
          slab_number k y x (of_point k y x hk w.in_y w.in_x)
          ∙ (λ n. number_in_pieces plan (split_of layout) d f pieces k (w.row n) (w.column n))
          ∙ in_owners p k y x hp own;
      column = λ k j at.
          slab_number k j (nx plan d f + 1) at
          ∙ (λ n. number_in_pieces plan (split_of layout) d f pieces k (row_of plan d f j) (column_first (nx plan d f + 1) at.column refl n))
          ∙ sym (λ n. number_in_pieces plan (split_of layout) d f pieces k (row_of plan d f j) (column_is 1 (in_first_column k j (nx plan d f + 1) at).column first_x.1 n))
          ∙ sym (slab_number k j 1 (in_first_column k j (nx plan d f + 1) at));
      row = λ k i at l.
          slab_number k (ny plan d f + 1) i at
          ∙ (λ n. number_in_pieces plan (split_of layout) d f pieces k (row_first (ny plan d f + 1) at.row refl n) (column_of plan d f i))
          ∙ sym (λ n. number_in_pieces plan (split_of layout) d f pieces k (row_is 1 (in_first_row k (ny plan d f + 1) i at).row first_y.1 n) (column_of plan d f i))
          ∙ sym (slab_number k 1 i (in_first_row k (ny plan d f + 1) i at));
    }

    module _ (list : List ℤ) (long : length list ≡ nz plan f * (file_y plan d f * file_x plan d f))
        (each : (k j i : ℕ) → IsFilePoint plan d f k j i → slice_index_or list (file_place plan d f k j i) (pos 0) ≡ number_in_pieces plan (split_of layout) d f pieces k (row_of plan d f j) (column_of plan d f i)) where
      -- at a point of the file it has the slab's number
      at_both : (k j i : ℕ) → IsFilePoint plan d f k j i → slice_index_or list (file_place plan d f k j i) (pos 0) ≡ slice_index_or slab (file_place plan d f k j i) (pos 0)
      at_both k j i at = each k j i at ∙ sym (slab_number k j i at)

      -- so at a place by its plane, row and column
      at_parts : (n : ℕ) → PlaceOf n (nz plan f) (file_y plan d f) (file_x plan d f) → slice_index_or list n (pos 0) ≡ slice_index_or slab n (pos 0)
      at_parts n w =
          subst (λ (m : ℕ). slice_index_or list m (pos 0) ≡ slice_index_or slab m (pos 0)) (same_place n (file_y plan d f) (file_x plan d f) w.a w.b w.c w.is)
          (at_both (w.a + 1) (w.b + 1) (w.c + 1) (record { level = (omega arith, omega (arith, w.plane)); row = (omega arith, omega (arith, w.row)); column = (omega arith, omega (arith, w.column)) }))

      -- so at each place
      at_place : (n : ℕ) → n < length list → slice_index_or list n (pos 0) ≡ slice_index_or slab n (pos 0)
      at_place n h =
          at_parts n (place_of n (nz plan f) (file_y plan d f) (file_x plan d f) (omega (arith, room.some_y, room.room_y)) (omega (arith, room.some_x, room.room_x)) (omega (arith, h, long)))

      -- so it is the slab
      pub slab_by : list ≡ slab_of_pieces plan (split_of layout) d f pieces
      unfolding slab
      slab_by =
          let same : length list ≡ length slab = long ∙ sym length-slab in
          same_lists list slab same (λ n o h. get_or_default list n o (pos 0) h ∙ at_place n h ∙ get_or_default slab n (pos 0) o (omega (arith, h, same)))

    module _ (list : List ℤ) (holds : HoldsAllPieces plan layout d f pieces list) where
      -- the number of a point of the domain
      at_point : (k j i : ℕ) → (1 ≤ k) × (k ≤ nz plan f) → (1 ≤ j) × (j ≤ ny plan d f) → (1 ≤ i) × (i ≤ nx plan d f) →
          slice_index_or list (file_place plan d f k j i) (pos 0) ≡ number_in_pieces plan (split_of layout) d f pieces k j i
      at_point k j i hk hj hi =
          let o = owner_owns plan (split_of layout) d room f j i hj.0 hj.1 hi.0 hi.1 in
          holds.own (owner_of plan (split_of layout) d f j i) k j i o.0 hk o.1

      -- of a point in a column of the domain
      at_row : (k j i : ℕ) → IsFilePoint plan d f k j i → (1 ≤ i) × (i ≤ nx plan d f) →
          slice_index_or list (file_place plan d f k j i) (pos 0) ≡ number_in_pieces plan (split_of layout) d f pieces k (row_of plan d f j) i
      at_row k j i at hi = elim (rows_are_points plan layout d f j laid is at.row) [
        | inl w ↦ at_point k j i at.level ((at.row).0, w.0) hi ∙ sym (λ n. number_in_pieces plan (split_of layout) d f pieces k (w.1 n) i)
        | inr w ↦ ap (λ (m : ℕ). slice_index_or list (file_place plan d f k m i) (pos 0)) w.0
            ∙ holds.row k i (subst (λ (m : ℕ). IsFilePoint plan d f k m i) w.0 at) hi.1
            ∙ at_point k 1 i at.level first_y hi
            ∙ sym (λ n. number_in_pieces plan (split_of layout) d f pieces k (w.1 n) i)
      ]

      -- of any point of the file
      at_file : (k j i : ℕ) → IsFilePoint plan d f k j i →
          slice_index_or list (file_place plan d f k j i) (pos 0) ≡ number_in_pieces plan (split_of layout) d f pieces k (row_of plan d f j) (column_of plan d f i)
      at_file k j i at = elim (columns_are_points plan layout d f i laid is at.column) [
        | inl w ↦ at_row k j i at ((at.column).0, w.0) ∙ sym (λ n. number_in_pieces plan (split_of layout) d f pieces k (row_of plan d f j) (w.1 n))
        | inr w ↦ ap (λ (m : ℕ). slice_index_or list (file_place plan d f k j m) (pos 0)) w.0
            ∙ holds.column k j (subst (λ (m : ℕ). IsFilePoint plan d f k j m) w.0 at)
            ∙ at_row k j 1 (in_first_column k j i at) first_x
            ∙ sym (λ n. number_in_pieces plan (split_of layout) d f pieces k (row_of plan d f j) (w.1 n))
      ]

      -- so it is the slab
      pub is_slab : list ≡ slab_of_pieces plan (split_of layout) d f pieces
      is_slab = slab_by list holds.long at_file

-- the law on slabs
pub slabs_hold_all_pieces : SlabsHoldAllPieces
slabs_hold_all_pieces plan layout d f pieces laid is = slab_holds plan layout d f laid is pieces

-- the law on lists
pub lists_that_hold_all_pieces_are_slabs : ListsThatHoldAllPiecesAreSlabs
lists_that_hold_all_pieces_are_slabs plan layout d f pieces list laid is holds = is_slab plan layout d f laid is pieces list holds
