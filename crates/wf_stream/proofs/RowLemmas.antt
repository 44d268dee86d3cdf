-- Rows of a list moved to its front, and the list of a level's own points row by row.
use Rattle.std.proofs.Common.{◌≡◌, ◌∙◌, sym, ap, ap₂, refl, ℕ, zero, suc, ◌+◌, ◌-◌, ◌*◌, ◌<◌, ◌≤◌, List, [], ◌∷◌, ◌++◌, map, length, take, drop, get_or, arith, add-one, add-zero, append_assoc, length-append}
use Rattle.std.proofs.Math.Nat.{suc-mul, zero-mul, add-mul, mul_assoc, mul-le-mul_left, mul-le-mul_right}
use Rattle.std.proofs.lemmas.List.{append-nil, ext_get_or, get_or-take, get_or-drop, take_at, drop_at, drop-drop, take-append-drop, length-take-le, length-drop}
use Rattle.std.proofs.lemmas.List.Concat.{flat_map-append}
use Rattle.std.proofs.lemmas.List.FromFn.{length-map-range_with_len, get_or-map-range_with_len}
use Rattle.std.specs.Prelude.{flat_map, ℤ, pos}
use Rattle.std.specs.List.{range_with_len, copy_within}
use Rattle.wf_model.specs.Plans.{up_to}
use Rattle.wf_model.specs.Grids.{Grid, listed, grid_from}
use Rattle.wf_stream.specs.Levels.{rows_from}

-- ---- pieces one behind another

-- one number more at the end
pub range-more : (a n : ℕ) → range_with_len a (n + 1) ≡ range_with_len a n ++ (a + n) ∷ []
range-more a zero = ap (λ (k : ℕ). k ∷ []) (sym (add-zero a))
range-more a (suc n) =
    ap (λ (k : ℕ). range_with_len a k) (add-one (suc n))
    ∙ ap (λ (k : ℕ). a ∷ range_with_len (a + 1) k) (sym (add-one n))
    ∙ ap (λ (r : List ℕ). a ∷ r) (range-more (a + 1) n)
    ∙ ap (λ (k : ℕ). a ∷ (range_with_len (a + 1) n ++ k ∷ [])) (omega arith)

-- one piece more at the end
pub pieces-more : {X : Type 0} (f : ℕ → List X) (a n : ℕ) → flat_map f (range_with_len a (n + 1)) ≡ flat_map f (range_with_len a n) ++ f (a + n)
pieces-more {X} f a n =
    ap (λ (r : List ℕ). flat_map f r) (range-more a n) ∙ flat_map-append f (range_with_len a n) ((a + n) ∷ [])
    ∙ ap (λ (r : List X). flat_map f (range_with_len a n) ++ r) (append-nil (f (a + n)))

-- the length of pieces of one length
pub length-pieces : {X : Type 0} (f : ℕ → List X) (c a n : ℕ) → ((i : ℕ) → i < n → length (f (a + i)) ≡ c) → length (flat_map f (range_with_len a n)) ≡ n * c
length-pieces f c a zero each = sym (zero-mul c)
length-pieces f c a (suc n) each =
    let first : length (f a) ≡ c = ap (λ (k : ℕ). length (f k)) (sym (add-zero a)) ∙ each 0 (omega arith) in
    let rest : length (flat_map f (range_with_len (a + 1) n)) ≡ n * c =
    length-pieces f c (a + 1) n (λ i h. ap (λ (k : ℕ). length (f k)) (omega arith) ∙ each (i + 1) (omega arith)) in
    omega (arith, length-append (f a) (flat_map f (range_with_len (a + 1) n)), first, rest, suc-mul n c)

-- the same pieces, told by other numbers
pub same_pieces : {X : Type 0} (f g : ℕ → List X) (a b n : ℕ) → ((i : ℕ) → i < n → f (a + i) ≡ g (b + i)) → flat_map f (range_with_len a n) ≡ flat_map g (range_with_len b n)
same_pieces f g a b zero each = refl
same_pieces f g a b (suc n) each =
    let first : f a ≡ g b = ap f (sym (add-zero a)) ∙ each 0 (omega arith) ∙ ap g (add-zero b) in
    ap₂ (λ (x : List _) (y : List _). x ++ y) first
    (same_pieces f g (a + 1) (b + 1) n (λ i h. ap f (omega arith) ∙ each (i + 1) (omega arith) ∙ ap g (omega arith)))

-- ---- a list whose front was changed

module _ {X : Type 0} (done old : List X) (n : ℕ) (len : length done ≡ n) where
  -- behind the front it is as it was
  pub behind : (at : ℕ) → n ≤ at → drop at (done ++ drop n old) ≡ drop at old
  behind at le =
      let e : at ≡ n + (at - n) = omega arith in
      ap (λ (k : ℕ). drop k (done ++ drop n old)) e
      ∙ sym (drop-drop (at - n) n (done ++ drop n old))
      ∙ ap (λ (r : List X). drop (at - n) r) (drop_at done (drop n old) n len)
      ∙ drop-drop (at - n) n old
      ∙ ap (λ (k : ℕ). drop k old) (sym e)

  -- a piece of the rest is moved behind the front
  pub moved : (from c : ℕ) → n ≤ from → copy_within (done ++ drop n old) from (from + c) n ≡ (done ++ take c (drop from old)) ++ drop (n + c) old
  moved from c le =
      let count : from + c - from ≡ c = omega arith in
      ap (λ (k : ℕ). take n (done ++ drop n old) ++ take k (drop from (done ++ drop n old)) ++ drop (n + k) (done ++ drop n old)) count
      ∙ ap₂ (λ (x : List X) (y : List X). x ++ take c y ++ drop (n + c) (done ++ drop n old)) (take_at done (drop n old) n len) (behind from le)
      ∙ ap (λ (y : List X). done ++ take c (drop from old) ++ y) (behind (n + c) (omega arith))

-- ---- rows

module _ {X : Type 0} (list : List X) (at kept width : ℕ) where
  -- the length of rows
  pub length-rows_from : (n : ℕ) → kept ≤ width → at + n * width ≤ length list → length (rows_from list at n kept width) ≡ n * kept
  unfolding rows_from
  length-rows_from n narrow fits =
      length-pieces (λ j. take kept (drop (at + j * width) list)) kept 0 n
      (λ i h. let z : 0 + i ≡ i = omega arith in
      rw z (length-take-le kept (drop (at + i * width) list)
      (let more : suc i * width ≤ n * width = mul-le-mul_right width (omega arith) in omega (arith, length-drop (at + i * width) list, suc-mul i width, more))))

  -- one row more
  pub rows_from-more : (n : ℕ) → rows_from list at (n + 1) kept width ≡ rows_from list at n kept width ++ take kept (drop (at + n * width) list)
  unfolding rows_from
  rows_from-more n =
      pieces-more (λ j. take kept (drop (at + j * width) list)) 0 n
      ∙ ap (λ (k : ℕ). flat_map (λ j. take kept (drop (at + j * width) list)) (range_with_len 0 n) ++ take kept (drop (at + k * width) list)) (omega arith)

-- rows behind a changed front are those of the old list
pub same_rows : {X : Type 0} (list other : List X) (at n kept width : ℕ) → ((k : ℕ) → at ≤ k → drop k list ≡ drop k other)
    → rows_from list at n kept width ≡ rows_from other at n kept width
unfolding rows_from
same_rows list other at n kept width same =
    same_pieces (λ j. take kept (drop (at + j * width) list)) (λ j. take kept (drop (at + j * width) other)) 0 0 n
    (λ i h. ap (λ (r : List _). take kept r) (same (at + (0 + i) * width) (omega arith)))

-- ---- the list of a level's own points

-- so many numbers from a place on
row : (list : List ℤ) (at n : ℕ) → at + n ≤ length list → map (λ i. get_or list (at + (i - 1)) (pos 0)) (up_to n) ≡ take n (drop at list)
row list at n fits =
    ext_get_or (pos 0) (map (λ i. get_or list (at + (i - 1)) (pos 0)) (up_to n)) (take n (drop at list))
    (length-map-range_with_len (λ i. get_or list (at + (i - 1)) (pos 0)) 1 n ∙ sym (length-take-le n (drop at list) (omega (arith, length-drop at list))))
    (λ i h. let lt : i < n = omega (arith, length-map-range_with_len (λ i. get_or list (at + (i - 1)) (pos 0)) 1 n) in
    get_or-map-range_with_len (λ i. get_or list (at + (i - 1)) (pos 0)) 1 n i (1 + i) (pos 0) lt refl
    ∙ ap (λ (k : ℕ). get_or list (at + k) (pos 0)) (omega arith)
    ∙ sym (get_or-take n (drop at list) i (pos 0) lt ∙ get_or-drop at list i (pos 0)))

-- where a row begins
row_place : (k j ys xs : ℕ) → (((1 + k) - 1) * ys + ((1 + j) - 1)) * xs ≡ k * (ys * xs) + j * xs
row_place k j ys xs =
    let a : (1 + k) - 1 ≡ k = omega arith in
    let b : (1 + j) - 1 ≡ j = omega arith in
    rw (a, b) (add-mul (k * ys) j xs ∙ ap (λ (n : ℕ). n + j * xs) (mul_assoc k ys xs))

-- rows of a plane are within the list
within_list : (zs ys xs rows kept k j : ℕ) → rows ≤ ys → kept ≤ xs → k < zs → j < rows → k * (ys * xs) + j * xs + kept ≤ zs * (ys * xs)
within_list zs ys xs rows kept k j le narrow p q =
    let planes : suc k * (ys * xs) ≤ zs * (ys * xs) = mul-le-mul_right (ys * xs) p in
    let lines : suc j * xs ≤ ys * xs = mul-le-mul_right xs (omega arith) in
    omega (arith, planes, lines, suc-mul k (ys * xs), suc-mul j xs)

-- the planes of own points, before the n-th
unfoldable pub planes : List ℤ → ℕ → ℕ → ℕ → ℕ → ℕ → List ℤ
planes list n rows kept height width = flat_map (λ k. rows_from list (k * (height * width)) rows kept width) (range_with_len 0 n)

module _ (list : List ℤ) (zs rows kept height width : ℕ) (le : rows ≤ height) (narrow : kept ≤ width) (size : length list ≡ zs * (height * width)) where
  -- a level's own points are its planes
  pub planes_listed : planes list zs rows kept height width ≡ listed zs rows kept (grid_from height width list)
  unfolding planes rows_from listed grid_from
  planes_listed =
      same_pieces (λ k. rows_from list (k * (height * width)) rows kept width)
      (λ k. flat_map (λ j. map (λ i. grid_from height width list k j i) (up_to kept)) (up_to rows)) 0 1 zs
      (λ k p. let z : 0 + k ≡ k = omega arith in
      rw z (same_pieces (λ j. take kept (drop (k * (height * width) + j * width) list)) (λ j. map (λ i. grid_from height width list (1 + k) j i) (up_to kept)) 0 1 rows
      (λ j q. let y : 0 + j ≡ j = omega arith in
      rw y (sym (row list (k * (height * width) + j * width) kept (omega (arith, within_list zs height width rows kept k j le narrow p q, size)))
      ∙ ap (λ (at : ℕ). map (λ i. get_or list (at + (i - 1)) (pos 0)) (up_to kept)) (sym (row_place k j height width))))))

  -- a plane has its rows within the list
  pub plane_within : (k : ℕ) → k < zs → k * (height * width) + rows * width ≤ length list
  plane_within k p =
      let planes : suc k * (height * width) ≤ zs * (height * width) = mul-le-mul_right (height * width) p in
      let lines : rows * width ≤ height * width = mul-le-mul_right width le in
      omega (arith, planes, lines, suc-mul k (height * width), size)

  -- the length of the planes before one
  pub length-planes : (n : ℕ) → n ≤ zs → length (planes list n rows kept height width) ≡ n * (rows * kept)
  unfolding planes
  length-planes n h =
      length-pieces (λ k. rows_from list (k * (height * width)) rows kept width) (rows * kept) 0 n
      (λ i p. let z : 0 + i ≡ i = omega arith in
      rw z (length-rows_from list (i * (height * width)) kept width rows narrow (plane_within i (omega arith))))

-- one plane more
pub planes-more : (list : List ℤ) (n rows kept height width : ℕ)
    → planes list (n + 1) rows kept height width ≡ planes list n rows kept height width ++ rows_from list (n * (height * width)) rows kept width
unfolding planes
planes-more list n rows kept height width =
    pieces-more (λ k. rows_from list (k * (height * width)) rows kept width) 0 n
    ∙ ap (λ (k : ℕ). flat_map (λ k. rows_from list (k * (height * width)) rows kept width) (range_with_len 0 n) ++ rows_from list (k * (height * width)) rows kept width) (omega arith)

-- ---- the length of a level's list

-- a list of a level has a number for each of its points
pub length-listed : (zs ys xs : ℕ) (g : Grid) → length (listed zs ys xs g) ≡ zs * (ys * xs)
unfolding listed
length-listed zs ys xs g =
    length-pieces (λ k. flat_map (λ j. map (λ i. g k j i) (up_to xs)) (up_to ys)) (ys * xs) 1 zs
    (λ k p. length-pieces (λ j. map (λ i. g (1 + k) j i) (up_to xs)) xs 1 ys (λ j q. length-map-range_with_len (λ i. g (1 + k) (1 + j) i) 1 xs))

-- ---- the loops that move rows and planes

-- the next of places that are so far apart
pub next_place : (a b n c : ℕ) → b ≡ a + n * c → b + c ≡ a + (n + 1) * c
next_place a b n c is = let more : (n + 1) * c ≡ n * c + c = ap (λ (k : ℕ). k * c) (add-one n) ∙ suc-mul n c in omega (arith, is, more)

pub next_place_at : (b n c : ℕ) → b ≡ n * c → b + c ≡ (n + 1) * c
next_place_at b n c is = let more : (n + 1) * c ≡ n * c + c = ap (λ (k : ℕ). k * c) (add-one n) ∙ suc-mul n c in omega (arith, is, more)

-- no row is moved yet
pub move_start : {X : Type 0} (old : List X) (from place kept width : ℕ) → place ≤ from → old ≡ (take place old ++ rows_from old from 0 kept width) ++ drop place old
unfolding rows_from
move_start {X} old from place kept width le = sym (ap (λ (r : List X). r ++ drop place old) (append-nil (take place old)) ∙ take-append-drop place old)

-- one row more is moved
pub move_more : {X : Type 0} (old values new : List X) (from place row next kept width n rows : ℕ) → place ≤ from → kept ≤ width → n < rows → from + rows * width ≤ length old
    → row ≡ from + n * width → next ≡ place + n * kept → values ≡ (take place old ++ rows_from old from n kept width) ++ drop next old
    → new ≡ copy_within values row (row + kept) next → new ≡ (take place old ++ rows_from old from (n + 1) kept width) ++ drop (next + kept) old
move_more {X} old values new from place row next kept width n rows le narrow lt fits is_row is_next so_far written =
    let before : n * width ≤ rows * width = mul-le-mul_right width (omega arith) in
    let less : n * kept ≤ n * width = mul-le-mul_left n narrow in
    let done : List X = take place old ++ rows_from old from n kept width in
    let len : length done ≡ next = omega (
      arith,
      length-append (take place old) (rows_from old from n kept width),
      length-take-le place old (omega arith),
      length-rows_from old from kept width n narrow (omega arith),
      is_next,
    ) in
    written ∙ ap (λ (v : List X). copy_within v row (row + kept) next) so_far
    ∙ moved done old next len row kept (omega (arith, is_row, is_next, less))
    ∙ ap (λ (r : List X). r ++ drop (next + kept) old)
    (append_assoc (take place old) (rows_from old from n kept width) (take kept (drop row old))
    ∙ ap (λ (k : ℕ). take place old ++ (rows_from old from n kept width ++ take kept (drop k old))) is_row
    ∙ ap (λ (r : List X). take place old ++ r) (sym (rows_from-more old from kept width n)))

-- no plane is moved yet
pub planes-none : (list : List ℤ) (rows kept height width : ℕ) → list ≡ planes list 0 rows kept height width ++ list
unfolding planes
planes-none list rows kept height width = refl

-- so many planes of own points take no more than those in files
pub fewer : (n rows kept height width : ℕ) → rows ≤ height → kept ≤ width → n * (rows * kept) ≤ n * (height * width)
fewer n rows kept height width le narrow =
    let a : rows * kept ≤ height * kept = mul-le-mul_right kept le in
    let b : height * kept ≤ height * width = mul-le-mul_left height narrow in
    mul-le-mul_left n (omega (arith, a, b))

module _ (list values : List ℤ) (zs rows kept height width from place n : ℕ) (le : rows ≤ height) (narrow : kept ≤ width) (size : length list ≡ zs * (height * width))
    (is_from : from ≡ n * (height * width)) (is_place : place ≡ n * (rows * kept)) (within : n ≤ zs)
    (so_far : values ≡ planes list n rows kept height width ++ drop place list) where
  -- the planes that were moved end at the place
  pub moved_length : length (planes list n rows kept height width) ≡ place
  moved_length = length-planes list zs rows kept height width le narrow size n within ∙ sym is_place

  -- the place is not behind where the next plane begins
  pub place_before : place ≤ from
  place_before = omega (arith, fewer n rows kept height width le narrow, is_from, is_place)

  -- nothing is lost
  pub length_kept : length values ≡ length list
  length_kept =
      let all : n * (height * width) ≤ zs * (height * width) = mul-le-mul_right (height * width) within in
      ap (λ (v : List ℤ). length v) so_far
      ∙ omega (arith, length-append (planes list n rows kept height width) (drop place list), moved_length, length-drop place list, all, place_before, is_from, size)

  -- the next plane lies within
  pub next_within : n < zs → from + rows * width ≤ length values
  next_within lt = omega (arith, plane_within list zs rows kept height width le narrow size n lt, length_kept, is_from)

  -- the plane after it begins within, or at the end
  pub after_within : n < zs → from + height * width ≤ length list
  after_within lt =
      let all : (n + 1) * (height * width) ≤ zs * (height * width) = mul-le-mul_right (height * width) (omega arith) in
      omega (arith, all, next_place_at (n * (height * width)) n (height * width) refl, is_from, size)

  -- and so does its place
  pub place_within : n < zs → place + rows * kept ≤ length list
  place_within lt =
      let all : (n + 1) * (height * width) ≤ zs * (height * width) = mul-le-mul_right (height * width) (omega arith) in
      omega (arith, all, fewer (n + 1) rows kept height width le narrow, next_place_at (n * (rows * kept)) n (rows * kept) refl, is_place, size)

  -- one plane more is moved
  pub plane_more : (new : List ℤ) → new ≡ take place values ++ rows_from values from rows kept width ++ drop (place + rows * kept) values
      → new ≡ planes list (n + 1) rows kept height width ++ drop (place + rows * kept) list
  plane_more new written =
      let done = planes list n rows kept height width in
      let same : (k : ℕ) → place ≤ k → drop k values ≡ drop k list = λ k h. ap (λ (v : List ℤ). drop k v) so_far ∙ behind done list place moved_length k h in
      written
      ∙ ap (λ (r : List ℤ). r ++ rows_from values from rows kept width ++ drop (place + rows * kept) values) (ap (λ (v : List ℤ). take place v) so_far ∙ take_at done (drop place list) place moved_length)
      ∙ ap (λ (r : List ℤ). done ++ r ++ drop (place + rows * kept) values) (same_rows values list from rows kept width (λ k h. same k (omega (arith, place_before))))
      ∙ ap (λ (r : List ℤ). done ++ rows_from list from rows kept width ++ r) (same (place + rows * kept) (omega arith))
      ∙ ap (λ (k : ℕ). done ++ rows_from list k rows kept width ++ drop (place + rows * kept) list) is_from
      ∙ ap (λ (r : List ℤ). r ++ drop (place + rows * kept) list) (sym (planes-more list n rows kept height width))

  -- all planes are moved
  pub all_moved : n ≡ zs → (new : List ℤ) → new ≡ take place values → new ≡ listed zs rows kept (grid_from height width list)
  all_moved all new cut =
      cut ∙ ap (λ (v : List ℤ). take place v) so_far ∙ take_at (planes list n rows kept height width) (drop place list) place moved_length
      ∙ ap (λ (k : ℕ). planes list k rows kept height width) all ∙ planes_listed list zs rows kept height width le narrow size
