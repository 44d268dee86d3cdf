-- The frames of files are read again.
use Rattle.std.proofs.Common.{◌≡◌, inl, inr, ⊎_elim, ℕ, ◌+◌, ◌*◌, ◌<◌, Bool, true, false, not, cond, List, [], ◌∷◌, ◌++◌, length, map, ℤ, Some, Ok, codes, refl, sym, ap, ◌∙◌, subst, append_assoc, length-append, add-zero, arith}
use Rattle.std.specs.Prelude.{nat_lt, find, flat_map, sum_by}
use Rattle.std.specs.List.{AllByRecursion, IsDistinct}
use Rattle.std.specs.Str.{bytes_eq}
use Rattle.std.proofs.lemmas.Bool.Decides.{nat_tests}
use Rattle.std.proofs.lemmas.List.Concat.{flat_map-append}
use Rattle.std.proofs.lemmas.Slice.Eq.{bytes_eq-Decides}
use Rattle.wf_model.specs.declared.header.Header.{Header}
use Rattle.wf_model.specs.declared.header.Dim.{Dim}
use Rattle.wf_model.specs.declared.header.Var.{Var}
use Rattle.wf_model.specs.declared.plan.Plan.{Plan}
use Rattle.wf_model.specs.Bytes.{slab_bytes, char_bytes, header_bytes}
use Rattle.wf_model.specs.CdfRead.{has_name, slab_at, chars_at}
use Rattle.wf_model.specs.Headers.{dims_of, level_var, times_var, placed_var, placed_from, placed, file_header}
use Rattle.wf_model.specs.InputOf.{shape_of}
use Rattle.wf_model.specs.Letters.{Text}
use Rattle.wf_model.specs.Sizes.{is_record_dim, dim_of, is_record_var, rest_of, lengths, product, rounded, padded_size, record_size}
use Rattle.wf_model.specs.Streams.{stream_levels, variable_name}
use Rattle.wf_laws.proofs.Members.{In, In-map_out, In-Contains, Contains-In, filter-none}
use Rattle.wf_cdf.proofs.Lengths.{length_header_bytes}
use Rattle.wf_cdf.proofs.Placed.{fixed_of, length_placed}
use Rattle.wf_cdf_laws.specs.FileNames.{HasFileVariables}
use Rattle.wf_cdf_laws.specs.FilesAgain.{header_with, IsFile, frame_bytes, FramesAreReadAgain}
use Rattle.wf_cdf_laws.specs.SlabsAgain.{IsRecorded}
use Rattle.wf_cdf_laws.proofs.Fields.{padded-length}
use Rattle.wf_cdf_laws.proofs.FileDims.{first_two}
use Rattle.wf_cdf_laws.proofs.FileHeaders.{level_shape}
use Rattle.wf_cdf_laws.proofs.Slabs.{all_bytes, slabs_again, texts_again}

-- ---- members

-- a member splits its list
pub record Splits (d : ℕ) (ds : List ℕ) : Type 0 where
  pub before : List ℕ
  pub after : List ℕ
  pub is : ds ≡ before ++ (d ∷ after)
  pub earlier : (e : ℕ) → In e before → In e ds

pub splits : (d : ℕ) (ds : List ℕ) → In d ds → Splits d ds
splits d [] i = absurd i
splits d (e ∷ ds) i = ⊎_elim
    (λ w. record { before = []; after = ds; is = ap (λ (x : ℕ). x ∷ ds) (sym w); earlier = λ x j. absurd j })
    (λ j. let s : Splits d ds = splits d ds j in record { before = e ∷ s.before; after = s.after; is = ap (λ (xs : List ℕ). e ∷ xs) s.is; earlier = λ x k. ⊎_elim (λ w. inl w) (λ l. inr (s.earlier x l)) k }) i

-- a name that is none of others is not that of a member
not_named : (word : Text) (name : ℕ → Text) (f : ℕ) (xs : List ℕ) → AllByRecursion (λ y. bytes_eq word y ≡ false) (map name xs) → In f xs → bytes_eq word (name f) ≡ false
not_named word name f [] all i = absurd i
not_named word name f (x ∷ xs) all i = ⊎_elim (λ e. ap (λ y. bytes_eq word (name y)) e ∙ all.0) (λ j. not_named word name f xs all.1 j) i

-- nor is that of an earlier member that of a later one
earlier_apart : (name : ℕ → Text) (f : ℕ) (bs xs : List ℕ) → IsDistinct bytes_eq (map name (xs ++ (f ∷ bs))) → (g : ℕ) → In g xs → bytes_eq (name g) (name f) ≡ false
unfolding IsDistinct
earlier_apart name f bs [] d g i = absurd i
earlier_apart name f bs (x ∷ xs) d g i = ⊎_elim (λ e. ap (λ y. bytes_eq (name y) (name f)) e ∙ behind xs d.0) (λ j. earlier_apart name f bs xs d.1 g j) i
  where
    behind : (cs : List ℕ) → AllByRecursion (λ y. bytes_eq (name x) y ≡ false) (map name (cs ++ (f ∷ bs))) → bytes_eq (name x) (name f) ≡ false
    behind [] all = all.0
    behind (c ∷ cs) all = behind cs all.1

-- ---- record variables

-- a variable of which each record has a slab, and so many bytes of it
pub record IsPut (dims : List Dim) (v : Var) (n : ℕ) : Type 0 where
  pub recorded : is_record_var dims v ≡ true
  pub size : padded_size dims v ≡ n

-- the first of its name stands behind the bytes of those before it
found_behind : (dims : List Dim) (fixed : ℕ) (var : ℕ → Var) (bytes : ℕ → List ℕ) (f : ℕ) (bs xs : List ℕ) (moving : ℕ) →
    ((g : ℕ) → In g xs → IsPut dims (var g) (length (bytes g))) → ((g : ℕ) → In g xs → bytes_eq (var g).name (var f).name ≡ false) → is_record_var dims (var f) ≡ true →
    find (has_name (var f).name) (placed_from dims fixed moving (map var (xs ++ (f ∷ bs)))) ≡ Some (placed_var dims (moving + length (flat_map bytes xs)) (var f))
found_behind dims fixed var bytes f bs [] moving put other recorded =
    ap (λ b. find (has_name (var f).name) (cond b (placed_var dims moving (var f) ∷ placed_from dims fixed (moving + padded_size dims (var f)) (map var bs))
    (placed_var dims fixed (var f) ∷ placed_from dims (fixed + padded_size dims (var f)) moving (map var bs)))) recorded
    ∙ ap (λ b. cond b (Some (placed_var dims moving (var f))) (find (has_name (var f).name) (placed_from dims fixed (moving + padded_size dims (var f)) (map var bs)))) ((bytes_eq-Decides (var f).name (var f).name).1 refl)
    ∙ ap (λ n. Some (placed_var dims n (var f))) (sym (add-zero moving))
found_behind dims fixed var bytes f bs (g ∷ xs) moving put other recorded =
    let first = put g (inl refl) in
    let sum : moving + padded_size dims (var g) + length (flat_map bytes xs) ≡ moving + length (bytes g ++ flat_map bytes xs) = (let size = first.size in omega (arith, size, length-append (bytes g) (flat_map bytes xs))) in
    ap (λ b. find (has_name (var f).name) (cond b (placed_var dims moving (var g) ∷ placed_from dims fixed (moving + padded_size dims (var g)) (map var (xs ++ (f ∷ bs))))
    (placed_var dims fixed (var g) ∷ placed_from dims (fixed + padded_size dims (var g)) moving (map var (xs ++ (f ∷ bs)))))) first.recorded
    ∙ ap (λ b. cond b (Some (placed_var dims moving (var g))) (find (has_name (var f).name) (placed_from dims fixed (moving + padded_size dims (var g)) (map var (xs ++ (f ∷ bs)))))) (other g (inl refl))
    ∙ found_behind dims fixed var bytes f bs xs (moving + padded_size dims (var g)) (λ h i. put h (inr i)) (λ h i. other h (inr i)) recorded
    ∙ ap (λ n. Some (placed_var dims n (var f))) sum

-- ---- a file

-- the record dimension is the first
record_first : (plan : Plan) (d stream : ℕ) → is_record_dim (dim_of (dims_of plan d stream) 0) ≡ true
record_first plan d stream = ap (λ (ds : List Dim). is_record_dim (dim_of ds 0)) (first_two plan d stream).1

module _ (plan : Plan) (d stream steps records : ℕ) (start : Text) (is : IsFile plan d stream start) where
  abbrev dims : List Dim
  dims = dims_of plan d stream

  abbrev levels : List ℕ
  levels = stream_levels plan stream

  abbrev var : ℕ → Var
  var = level_var plan d stream dims

  abbrev whole : Header
  whole = header_with plan d stream start steps records

  -- the bytes of its header
  abbrev front : ℕ
  front = length (header_bytes (file_header plan d stream start steps))

  front_is : length (header_bytes whole) ≡ front
  front_is = length_header_bytes whole ∙ sym (length_header_bytes (placed (file_header plan d stream start steps))) ∙ length_placed (file_header plan d stream start steps)

  -- its variables are record variables, and stand behind it
  vars_are : whole.vars ≡ placed_from dims front front (times_var ∷ map var levels)
  unfolding file_header placed
  vars_are =
      let none : fixed_of dims (times_var ∷ map var levels) ≡ 0 = fixed_none in
      let there : front + fixed_of dims (times_var ∷ map var levels) ≡ front = omega (arith, none) in
      ap (λ n. placed_from dims front n (times_var ∷ map var levels)) there
    where
      each : (v : Var) → In v (times_var ∷ map var levels) → is_record_var dims v ≡ true
      each v i = ⊎_elim (λ e. ap (is_record_var dims) e ∙ record_first plan d stream) (λ j. let w = In-map_out var v levels j in ap (is_record_var dims) w.2 ∙ record_first plan d stream) i

      fixed_none : fixed_of dims (times_var ∷ map var levels) ≡ 0
      fixed_none = ap (sum_by (padded_size dims)) (filter-none (λ (v : Var). not (is_record_var dims v)) (times_var ∷ map var levels) (λ v i. ap not (each v i)))

  dims_are : whole.dims ≡ dims
  unfolding file_header placed
  dims_are = refl

  times_put : IsPut dims times_var 20
  times_put = record { recorded = record_first plan d stream; size = ap (λ (ds : List Dim). padded_size ds times_var) (first_two plan d stream).1 }

  -- the times
  times_found : find (has_name (codes "Times")) whole.vars ≡ Some (placed_var dims front times_var)
  times_found =
      ap (find (has_name (codes "Times"))) vars_are
      ∙ ap (λ b. find (has_name (codes "Times")) (cond b (placed_var dims front times_var ∷ placed_from dims front (front + padded_size dims times_var) (map var levels))
      (placed_var dims front times_var ∷ placed_from dims (front + padded_size dims times_var) front (map var levels)))) times_put.recorded

  -- a level
  module _ (f : ℕ) (level : In f levels) (s : Splits f levels) (names : HasFileVariables plan stream) (values : ℕ → List ℤ) (shaped : (g : ℕ) → In g levels → product (shape_of plan d g) ≡ length (values g)) where
    abbrev bytes : ℕ → List ℕ
    bytes g = slab_bytes (values g)

    level_put : (g : ℕ) → In g levels → IsPut dims (var g) (length (bytes g))
    unfolding slab_bytes
    level_put g i = record {
      recorded = record_first plan d stream;
      size = ap (λ b. rounded (product (lengths dims (cond b (rest_of (var g).dims) (var g).dims)) * 4)) (record_first plan d stream)
          ∙ ap (λ ns. rounded (product ns * 4)) (level_shape plan d stream g is.ranged is.domain i is.dims)
          ∙ ap (λ n. rounded (n * 4)) (shaped g i) ∙ whole_words (length (values g)) ∙ sym (all_bytes (values g));
    }
      where
        whole_words : (n : ℕ) → rounded (n * 4) ≡ 4 * n
        whole_words n = omega arith

    level_found : find (has_name (variable_name plan stream f)) whole.vars ≡ Some (placed_var dims (front + 20 + length (flat_map bytes s.before)) (var f))
    unfolding IsDistinct
    level_found =
        ap (find (has_name (variable_name plan stream f))) vars_are
        ∙ ap (λ b. find (has_name (variable_name plan stream f)) (cond b (placed_var dims front times_var ∷ placed_from dims front (front + padded_size dims times_var) (map var levels))
        (placed_var dims front times_var ∷ placed_from dims (front + padded_size dims times_var) front (map var levels)))) times_put.recorded
        ∙ ap (λ b. cond b (Some (placed_var dims front times_var)) (find (has_name (variable_name plan stream f)) (placed_from dims front (front + padded_size dims times_var) (map var levels)))) (not_named (codes "Times") (variable_name plan stream) f levels names.0 level)
        ∙ (λ i. find (has_name (variable_name plan stream f)) (placed_from dims front (front + times_put.size i) (map var (s.is i))))
        ∙ found_behind dims front var bytes f s.after s.before (front + 20) (λ g i. level_put g (s.earlier g i))
        (earlier_apart (variable_name plan stream) f s.after s.before (subst (λ (xs : List ℕ). IsDistinct bytes_eq (map (variable_name plan stream) xs)) s.is names.1)) (record_first plan d stream)

-- parts one after another, grouped about one of them
regroup : (a b c x e r : List ℕ) → a ++ ((b ++ (c ++ (x ++ e))) ++ r) ≡ ((a ++ b) ++ c) ++ (x ++ (e ++ r))
regroup a b c x e r = simp append_assoc

-- a padded time
padded_time : (levels : List ℕ) (time : Text) → 0 < length levels → length time ≡ 19 → length (char_bytes (nat_lt 0 (length levels)) time) ≡ 20
padded_time levels time some chars = ap (λ b. length (char_bytes b time)) (is_less (length levels) some) ∙ padded-length time ∙ ap rounded chars
  where
    is_less : (n : ℕ) → 0 < n → nat_lt 0 n ≡ true
    is_less n h = grind (arith, nat_tests)

pub frames_again : FramesAreReadAgain
frames_again plan d stream steps records rec start time values front rest is names shown within place = record { times = times_read; levels = λ f c. level_read f (Contains-In f (stream_levels plan stream) c) }
  where
    place_is : length front ≡ length (header_bytes (file_header plan d stream start steps)) + rec * record_size (header_with plan d stream start steps records)
    place_is = place ∙ ap (λ n. n + rec * record_size (header_with plan d stream start steps records)) (front_is plan d stream steps records start is)

    times_read : chars_at (front ++ (frame_bytes plan stream time values ++ rest)) (header_with plan d stream start steps records) (codes "Times") 19 rec ≡ Ok time
    times_read =
        let h : Header = header_with plan d stream start steps records in
        let v : Var = placed_var (dims_of plan d stream) (length (header_bytes (file_header plan d stream start steps))) times_var in
        let body : List ℕ = flat_map (λ f. slab_bytes (values f)) (stream_levels plan stream) in
        let pads : Bool = nat_lt 0 (length (stream_levels plan stream)) in
        let same = dims_are plan d stream steps records start is in
        let recorded : IsRecorded h v 2 (length time ∷ []) rec = record {
          found = times_found plan d stream steps records start is;
          kind = refl;
          recorded = ap (λ (ds : List Dim). is_record_var ds v) same ∙ record_first plan d stream;
          shaped = ap (λ (ds : List Dim). lengths ds (1 ∷ [])) (same ∙ (first_two plan d stream).1) ∙ ap (λ n. n ∷ []) (sym shown.chars);
          within = within;
        } in
        ap (λ (bs : List ℕ). chars_at (front ++ bs) h (codes "Times") 19 rec) (append_assoc (char_bytes pads time) body rest)
        ∙ ap (λ n. chars_at (front ++ (char_bytes pads time ++ (body ++ rest))) h (codes "Times") n rec) (sym shown.chars)
        ∙ texts_again h v rec pads time front (body ++ rest) recorded place_is

    level_read : (f : ℕ) → In f (stream_levels plan stream) → slab_at (front ++ (frame_bytes plan stream time values ++ rest)) (header_with plan d stream start steps records) (variable_name plan stream f) (shape_of plan d f) rec ≡ Ok (values f)
    level_read f level =
        let h : Header = header_with plan d stream start steps records in
        let dims : List Dim = dims_of plan d stream in
        let bytes : ℕ → List ℕ = λ g. slab_bytes (values g) in
        let s : Splits f (stream_levels plan stream) = splits f (stream_levels plan stream) level in
        let v : Var = placed_var dims (length (header_bytes (file_header plan d stream start steps)) + 20 + length (flat_map bytes s.before)) (level_var plan d stream dims f) in
        let times : List ℕ = char_bytes (nat_lt 0 (length (stream_levels plan stream))) time in
        let same = dims_are plan d stream steps records start is in
        let shaped : (g : ℕ) → In g (stream_levels plan stream) → product (shape_of plan d g) ≡ length (values g) = λ g i. shown.shaped g (In-Contains g (stream_levels plan stream) i) in
        let recorded : IsRecorded h v 4 (shape_of plan d f) rec = record {
          found = level_found plan d stream steps records start is f level s names values shaped;
          kind = refl;
          recorded = ap (λ (ds : List Dim). is_record_var ds v) same ∙ record_first plan d stream;
          shaped = ap (λ (ds : List Dim). lengths ds (rest_of v.dims)) same ∙ level_shape plan d stream f is.ranged is.domain level is.dims;
          within = within;
        } in
        let some : 0 < length (stream_levels plan stream) = subst (λ (xs : List ℕ). 0 < length xs) (sym s.is) (behind_some s.before f s.after) in
        let times_long : length times ≡ 20 = padded_time (stream_levels plan stream) time some shown.chars in
        let at : length ((front ++ times) ++ flat_map bytes s.before) ≡ length (header_bytes (file_header plan d stream start steps)) + 20 + length (flat_map bytes s.before) + rec * record_size h
        = omega (arith, length-append (front ++ times) (flat_map bytes s.before), length-append front times, times_long, place_is) in
        ap (λ (xs : List ℕ). slab_at (front ++ ((times ++ xs) ++ rest)) h (variable_name plan stream f) (shape_of plan d f) rec) (ap (flat_map bytes) s.is ∙ flat_map-append bytes s.before (f ∷ s.after))
        ∙ ap (λ (bs : List ℕ). slab_at bs h (variable_name plan stream f) (shape_of plan d f) rec) (regroup front times (flat_map bytes s.before) (bytes f) (flat_map bytes s.after) rest)
        ∙ slabs_again h v (shape_of plan d f) rec (values f) ((front ++ times) ++ flat_map bytes s.before) (flat_map bytes s.after ++ rest) recorded (shaped f level) (shown.fits f (In-Contains f (stream_levels plan stream) level)) at
      where
        behind_some : (xs : List ℕ) (f : ℕ) (ys : List ℕ) → 0 < length (xs ++ (f ∷ ys))
        behind_some xs f ys = omega (arith, length-append xs (f ∷ ys))
