-- The headers of files are sound, and are read again.
use Rattle.std.proofs.Common.{◌≡◌, inl, inr, ⊎_elim, ℕ, suc, ◌+◌, ◌-◌, ◌^◌, ◌<◌, ◌≤◌, Bool, true, false, not, List, [], ◌∷◌, ◌++◌, length, map, All, IsTrue, codes, refl, sym, ap, ◌∙◌, subst, lit<, lit≤, length-append, arith}
use Rattle.std.specs.Prelude.{◌==◌, nat_lt, min, if◌then◌else◌}
use Rattle.std.proofs.lemmas.Bool.Decides.{nat_tests}
use Rattle.std.proofs.lemmas.List.{length-map}
use Rattle.std.proofs.lemmas.List.Elements.{All-nil, All-cons, All-append, All-map, All-get_or, All-from_recursion}
use Rattle.wf_model.specs.declared.header.Header.{Header}
use Rattle.wf_model.specs.declared.header.Dim.{Dim}
use Rattle.wf_model.specs.declared.header.Att.{Att}
use Rattle.wf_model.specs.declared.header.Var.{Var}
use Rattle.wf_model.specs.declared.plan.Plan.{Plan}
use Rattle.wf_model.specs.Bytes.{header_bytes}
use Rattle.wf_model.specs.Counts.{file_records}
use Rattle.wf_model.specs.Headers.{text_att, int_att, dim, dim_name, dim_x, dim_y, dim_z, dims_of_level, dims_of, dim_number, letters, level_atts, level_var, times_var, vsize_of, placed, file_header}
use Rattle.wf_model.specs.InputOf.{shape_of}
use Rattle.wf_model.specs.Letters.{Text, is_name}
use Rattle.wf_model.specs.Plans.{no_domain, domain_of, field_of, nz}
use Rattle.wf_model.specs.Ranges.{IsRangedDomain, IsRangedField}
use Rattle.wf_model.specs.Script.{restart_stream}
use Rattle.wf_model.specs.Sizes.{is_record_dim, dim_of, rest_of, lengths, padded_size, file_size, most_bytes}
use Rattle.wf_model.specs.Sound.{IsDomain, IsLevel, IsRangedPlan}
use Rattle.wf_model.specs.SoundHeader.{IsCount, IsSoundDim, IsSoundAtt, IsSoundVar, IsSoundHeader}
use Rattle.wf_model.specs.Streams.{one_if, file_x, file_y, level_suffix, stream_levels, variable_name}
use Rattle.wf_laws.proofs.Members.{In, In-flat_map_out, In-get_or, All-In}
use Rattle.wf_cdf.specs.StreamLevels.{first_dims}
use Rattle.wf_cdf.proofs.LevelLoops.{ranged, levels_within, levels_few}
use Rattle.wf_cdf.proofs.Limits.{most_bytes_small, one_record_le, BeginsFit_within_limit}
use Rattle.wf_cdf.proofs.Placed.{All_placed, begins_below, fixed_of, moving_of, IsSoundHeader_placed}
use Rattle.wf_cdf.proofs.SoundParts.{text_sound, int_sound}
use Rattle.wf_cdf.proofs.StreamSizes.{one_record_fits, stamp_length}
use Rattle.wf_cdf_laws.specs.FileNames.{HasFileDims}
use Rattle.wf_cdf_laws.specs.FilesAgain.{header_with, IsFile, FileHeadersAreReadAgain}
use Rattle.wf_cdf_laws.specs.ReadAgain.{NumbersFit}
use Rattle.wf_cdf_laws.proofs.FileDims.{found, first_two, come_from, used_dims, few_dims, one_record}
use Rattle.wf_cdf_laws.proofs.Headers.{read_again}

-- ---- dimensions

-- a dimension that can be written, and is not the record's
pub record IsPlain (x : Dim) : Type 0 where
  pub sound : IsSoundDim x
  pub fixed : is_record_dim x ≡ false

short_name : (name : Text) → IsTrue (is_name name) → length name ≤ 64
short_name name is = grind (arith, nat_tests)

plain : (name : Text) (staggered : Bool) (n : ℕ) → length name ≤ 64 → 1 ≤ n → n ≤ 2001 → IsPlain (dim (dim_name name staggered) n)
plain name staggered n short some few = record { sound = record { name = named staggered; len = omega arith }; fixed = not_none n some }
  where
    named : (b : Bool) → IsCount (length (dim_name name b))
    named true = omega (arith, length-append name (codes "_stag"))
    named false = omega arith

    not_none : (n : ℕ) → 1 ≤ n → (n == 0) ≡ false
    not_none n some = grind (arith, nat_tests)

few_points : (e : ℕ) (staggered : Bool) → 2 ≤ e → e ≤ 2000 → (1 ≤ e - 1 + one_if staggered) × (e - 1 + one_if staggered ≤ 2001)
few_points e true low high = (omega arith, omega arith)
few_points e false low high = (omega arith, omega arith)

ranged_domain : (plan : Plan) (d : ℕ) → IsDomain plan d → All IsRangedDomain plan.domains → IsRangedDomain (domain_of plan d)
unfolding domain_of
ranged_domain plan d is all = All-get_or IsRangedDomain plan.domains (d - 1) no_domain (omega (arith, is)) all

-- ---- a level

module _ (plan : Plan) (d stream f : ℕ) (keeps : IsRangedPlan plan) (domain : IsDomain plan d) (level : In f (stream_levels plan stream)) where
  field_is : IsRangedField (field_of plan f)
  field_is = ranged plan f (All-In (IsLevel plan) f (stream_levels plan stream) (levels_within plan stream) level) keeps.fields

  pub level_dims : (x : Dim) → In x (dims_of_level plan d f) → IsPlain x
  level_dims x among = ⊎_elim (λ e. subst IsPlain (sym e) in_x) (λ i. ⊎_elim (λ e. subst IsPlain (sym e) in_y) (λ j. in_z (field_of plan f).z refl j) i) among
    where
      own : IsRangedDomain (domain_of plan d)
      own = ranged_domain plan d domain keeps.domains

      in_x : IsPlain (dim_x plan d f)
      in_x =
          let few = few_points (domain_of plan d).ide (field_of plan f).stag_x (own.ide).0 (own.ide).1 in
          plain (field_of plan f).x_name (field_of plan f).stag_x (file_x plan d f) (short_name (field_of plan f).x_name field_is.x_name) few.0 few.1

      in_y : IsPlain (dim_y plan d f)
      in_y =
          let few = few_points (domain_of plan d).jde (field_of plan f).stag_y (own.jde).0 (own.jde).1 in
          plain (field_of plan f).y_name (field_of plan f).stag_y (file_y plan d f) (short_name (field_of plan f).y_name field_is.y_name) few.0 few.1

      in_z : (b : Bool) → (field_of plan f).z ≡ b → In x (if b then dim_z plan f ∷ [] else []) → IsPlain x
      in_z true h i = ⊎_elim
          (λ e. subst IsPlain (sym e) (plain (field_of plan f).z_name (field_of plan f).stag_z (nz plan f) (short_name (field_of plan f).z_name (field_is.z_name h)) (field_is.nz).0 (let top = (field_is.nz).1 in omega (arith, top))))
          (λ e. absurd e) i
      in_z false h i = absurd i

  -- its attributes
  few_letters : (a b c : Bool) → length ((if a then codes "X" else []) ++ (if b then codes "Y" else []) ++ (if c then codes "Z" else [])) ≤ 3
  few_letters true true true = lit≤ tt
  few_letters true true false = lit≤ tt
  few_letters true false true = lit≤ tt
  few_letters true false false = lit≤ tt
  few_letters false true true = lit≤ tt
  few_letters false true false = lit≤ tt
  few_letters false false true = lit≤ tt
  few_letters false false false = lit≤ tt

  atts_sound : All IsSoundAtt (level_atts (field_of plan f))
  atts_sound = All-from_recursion IsSoundAtt (level_atts (field_of plan f)) (
    int_sound (codes "FieldType") 106 (lit< tt),
    (
      order (field_of plan f).z,
      (
        text_sound (codes "description") (field_of plan f).description (lit< tt) (let few = field_is.description in omega (arith, few)),
        (
          text_sound (codes "units") (field_of plan f).units (lit< tt) (let few = field_is.units in omega (arith, few)),
          (text_sound (codes "stagger") (letters (field_of plan f)) (lit< tt) (omega (arith, few_letters (field_of plan f).stag_x (field_of plan f).stag_y (field_of plan f).stag_z)), tt),
        ),
      ),
    ),
  )
    where
      order : (b : Bool) → IsSoundAtt (text_att (codes "MemoryOrder") (if b then codes "XYZ" else codes "XY "))
      order true = text_sound (codes "MemoryOrder") (codes "XYZ") (lit< tt) (lit< tt)
      order false = text_sound (codes "MemoryOrder") (codes "XY ") (lit< tt) (lit< tt)

  -- its name
  name_short : IsCount (length (variable_name plan stream f))
  name_short = omega (arith, short_name (field_of plan f).dname field_is.dname, length-append (field_of plan f).dname (if stream == restart_stream then level_suffix (field_of plan f) f else []), behind (stream == restart_stream) ((field_of plan f).pair == f) (field_of plan f).last)
    where
      behind : (a b c : Bool) → length (if a then (if b then [] else (if c then codes "_2" else codes "_1")) else []) ≤ 2
      behind true true c = omega arith
      behind true false true = lit≤ tt
      behind true false false = lit≤ tt
      behind false b c = omega arith

  -- the numbers of its dimensions behind the record's
  abbrev pub own_numbers : List Dim → List ℕ
  own_numbers dims = (if (field_of plan f).z then dim_number dims (dim_z plan f) ∷ [] else []) ++ dim_number dims (dim_y plan d f) ∷ dim_number dims (dim_x plan d f) ∷ []

  all_numbers : (P : ℕ → Type 0) (dims : List Dim) → ((x : Dim) → In x (dims_of_level plan d f) → P (dim_number dims x)) → All P (own_numbers dims)
  all_numbers P dims h =
      All-append P (if (field_of plan f).z then dim_number dims (dim_z plan f) ∷ [] else []) (dim_number dims (dim_y plan d f) ∷ dim_number dims (dim_x plan d f) ∷ [])
      (in_z (field_of plan f).z refl) (All-cons P (dim_number dims (dim_y plan d f)) (dim_number dims (dim_x plan d f) ∷ []) (h (dim_y plan d f) (inr (inl refl))) (All-cons P (dim_number dims (dim_x plan d f)) [] (h (dim_x plan d f) (inl refl)) (All-nil P)))
    where
      in_z : (b : Bool) → (field_of plan f).z ≡ b → All P (if b then dim_number dims (dim_z plan f) ∷ [] else [])
      in_z true e = All-cons P (dim_number dims (dim_z plan f)) [] (h (dim_z plan f) (inr (inr (subst (λ b. In (dim_z plan f) (if b then dim_z plan f ∷ [] else [])) (sym e) (inl refl))))) (All-nil P)
      in_z false e = All-nil P

  module _ (has : HasFileDims plan d stream) where
    abbrev dims : List Dim
    dims = dims_of plan d stream

    pub level_sound : IsSoundVar dims (level_var plan d stream dims f)
    level_sound = record {
      name = name_short;
      kind = (lit≤ tt, lit≤ tt);
      rank = few_numbers (field_of plan f).z (dim_number dims (dim_z plan f)) (dim_number dims (dim_y plan d f)) (dim_number dims (dim_x plan d f));
      dims_are = All-cons (λ n. n < length dims) 0 (own_numbers dims) (subst (λ (ds : List Dim). 0 < length ds) (sym (first_two plan d stream).1) (omega arith)) (all_numbers (λ n. n < length dims) dims (λ x i. (found plan d stream f x has level i).there));
      record_first = all_numbers (λ n. IsTrue (not (is_record_dim (dim_of dims n)))) dims (λ x i. ap (λ n. not (n == 0)) (found plan d stream f x has level i).len ∙ ap not (level_dims x i).fixed);
      count = lit< tt;
      atts = atts_sound;
    }
      where
        few_numbers : (b : Bool) (z y x : ℕ) → IsCount (length (0 ∷ (if b then z ∷ [] else []) ++ y ∷ x ∷ []))
        few_numbers true z y x = lit< tt
        few_numbers false z y x = lit< tt

    -- its slabs have its shape
    pub level_shape : lengths dims (rest_of (level_var plan d stream dims f).dims) ≡ shape_of plan d f
    level_shape = of (field_of plan f).z refl (nz plan f)
      where
        y_is : (dim_of dims (dim_number dims (dim_y plan d f))).len ≡ file_y plan d f
        y_is = (found plan d stream f (dim_y plan d f) has level (inr (inl refl))).len

        x_is : (dim_of dims (dim_number dims (dim_x plan d f))).len ≡ file_x plan d f
        x_is = (found plan d stream f (dim_x plan d f) has level (inl refl)).len

        of : (b : Bool) → (field_of plan f).z ≡ b → (n : ℕ) → lengths dims ((if b then dim_number dims (dim_z plan f) ∷ [] else []) ++ dim_number dims (dim_y plan d f) ∷ dim_number dims (dim_x plan d f) ∷ []) ≡ (if b then nz plan f ∷ [] else []) ++ (file_y plan d f ∷ file_x plan d f ∷ [])
        of true e n = λ i. (found plan d stream f (dim_z plan f) has level (inr (inr (subst (λ b. In (dim_z plan f) (if b then dim_z plan f ∷ [] else [])) (sym e) (inl refl))))).len i ∷ y_is i ∷ x_is i ∷ []
        of false e n = λ i. y_is i ∷ x_is i ∷ []

-- ---- the header

times_sound : (more : List Dim) → IsSoundVar (dim (codes "Time") 0 ∷ dim (codes "DateStrLen") 19 ∷ more) times_var
times_sound more = record {
  name = lit< tt;
  kind = (lit≤ tt, lit≤ tt);
  rank = lit< tt;
  dims_are = All-from_recursion (λ n. n < suc (suc (length more))) (0 ∷ 1 ∷ []) (omega arith, (omega arith, tt));
  record_first = All-from_recursion (λ n. IsTrue (not (is_record_dim (dim_of (dim (codes "Time") 0 ∷ dim (codes "DateStrLen") 19 ∷ more) n)))) (1 ∷ []) (refl, tt);
  count = lit< tt;
  atts = All-nil IsSoundAtt;
}

-- what holds of each member holds of all
all_in : {X : Type 0} (P : X → Type 0) (xs : List X) → ((x : X) → In x xs → P x) → All P xs
all_in P xs h = λ n x lt. h _ (In-get_or xs n x lt)

file_atts_sound : (d : ℕ) (start : Text) (steps : ℕ) (b : Bool) → length start ≡ 19 → All IsSoundAtt (text_att (codes "START_DATE") start ∷ int_att (codes "GRID_ID") d ∷ (if b then int_att (codes "STEPS") steps ∷ [] else []))
file_atts_sound d start steps true long = All-from_recursion IsSoundAtt (text_att (codes "START_DATE") start ∷ int_att (codes "GRID_ID") d ∷ int_att (codes "STEPS") steps ∷ []) (text_sound (codes "START_DATE") start (lit< tt) (omega (arith, long)), (int_sound (codes "GRID_ID") d (lit< tt), (int_sound (codes "STEPS") steps (lit< tt), tt)))
file_atts_sound d start steps false long = All-from_recursion IsSoundAtt (text_att (codes "START_DATE") start ∷ int_att (codes "GRID_ID") d ∷ []) (text_sound (codes "START_DATE") start (lit< tt) (omega (arith, long)), (int_sound (codes "GRID_ID") d (lit< tt), tt))

pub header_sound : (plan : Plan) (d stream steps : ℕ) (start : Text) → IsFile plan d stream start → IsSoundHeader (file_header plan d stream start steps)
unfolding file_header dims_of
header_sound plan d stream steps start is = record {
  version = keeps.version;
  numrecs = lit< tt;
  dim_count = let few = few_dims plan d (stream_levels plan stream) in omega (arith, few, few_levels);
  dims = all_in IsSoundDim (dims_of plan d stream) (λ y i. ⊎_elim (λ j. first_sound y j) (λ j. (used_plain y j).sound) (come_from first_dims (used_dims plan d stream) y i));
  one_record = one_record plan d stream (λ x i. (used_plain x i).fixed);
  att_count = few_atts (stream == restart_stream) (text_att (codes "START_DATE") start) (int_att (codes "GRID_ID") d) (int_att (codes "STEPS") (min steps 2147483647));
  atts = file_atts_sound d start (min steps 2147483647) (stream == restart_stream) (stamp_length start is.stamp);
  var_count = omega (arith, length-map (stream_levels plan stream) (level_var plan d stream (dims_of plan d stream)), few_levels);
  vars = All-cons (IsSoundVar (dims_of plan d stream)) times_var (map (level_var plan d stream (dims_of plan d stream)) (stream_levels plan stream))
      (subst (λ (ds : List Dim). IsSoundVar ds times_var) (sym (first_two plan d stream).1) (times_sound (first_two plan d stream).0))
      (All-map (IsSoundVar (dims_of plan d stream)) (level_var plan d stream (dims_of plan d stream)) (stream_levels plan stream) (all_in (λ f. IsSoundVar (dims_of plan d stream) (level_var plan d stream (dims_of plan d stream) f)) (stream_levels plan stream) (λ f i. level_sound plan d stream f keeps is.domain i is.dims)));
}
  where
    keeps : IsRangedPlan plan
    keeps = is.ranged

    few_levels : length (stream_levels plan stream) ≤ 64
    few_levels = let most = (keeps.limits).levels in omega (arith, levels_few plan stream, most)

    used_plain : (x : Dim) → In x (used_dims plan d stream) → IsPlain x
    used_plain x i = let w = In-flat_map_out (dims_of_level plan d) x (stream_levels plan stream) i in level_dims plan d stream w.0 keeps is.domain w.1 x w.2

    first_sound : (y : Dim) → In y first_dims → IsSoundDim y
    first_sound y i = ⊎_elim (λ e. subst IsSoundDim (sym e) (record { name = lit< tt; len = lit< tt })) (λ j. ⊎_elim (λ e. subst IsSoundDim (sym e) (record { name = lit< tt; len = lit< tt })) (λ e. absurd e) j) i

    few_atts : (b : Bool) (x y z : Att) → IsCount (length (x ∷ y ∷ (if b then z ∷ [] else [])))
    few_atts true x y z = lit< tt
    few_atts false x y z = lit< tt

-- a file with one record fits
pub file_fits : (plan : Plan) (d stream steps : ℕ) (start : Text) → IsFile plan d stream start → file_size (file_header plan d stream start steps) 1 ≤ most_bytes (file_header plan d stream start steps).version
unfolding file_header
file_fits plan d stream steps start is =
    one_record_fits plan d stream start plan.start steps 0 (file_records plan d stream) (most_bytes plan.version)
    (stamp_length start is.stamp ∙ sym (stamp_length plan.start ((is.ranged).time).start)) (is.fits d stream is.domain is.held)

-- nothing is placed in it
unplaced : (plan : Plan) (d stream steps : ℕ) (start : Text) → All (λ (v : Var). v.vsize < 2 ^ 32) (file_header plan d stream start steps).vars
unfolding file_header
unplaced plan d stream steps start =
    All-cons (λ (v : Var). v.vsize < 2 ^ 32) times_var (map (level_var plan d stream (dims_of plan d stream)) (stream_levels plan stream)) (lit< tt)
    (All-map (λ (v : Var). v.vsize < 2 ^ 32) (level_var plan d stream (dims_of plan d stream)) (stream_levels plan stream) (λ n f lt. lit< tt))

-- sizes have 32 bits and begins 64 where a file with one record fits
small_size : (n : ℕ) → vsize_of n < 2 ^ 32
small_size n = of (nat_lt 4294967292 n) (λ e. at_most n e)
  where
    at_most : (n : ℕ) → nat_lt 4294967292 n ≡ false → n < 2 ^ 32
    at_most n e = grind (arith, nat_tests)

    of : (b : Bool) → (b ≡ false → n < 2 ^ 32) → (if b then 4294967295 else n) < 2 ^ 32
    of true h = lit< tt
    of false h = h refl

numbers_fit : (h : Header) → All (λ (v : Var). v.vsize < 2 ^ 32) h.vars → file_size h 1 ≤ most_bytes h.version → NumbersFit (placed h)
unfolding placed
numbers_fit h sizes fits = λ n v lt. (
  All_placed (λ (w : Var). w.vsize < 2 ^ 32) h.dims front (front + fixed_of h.dims h.vars) h.vars (λ w at s. small_size (padded_size h.dims w)) sizes n v lt,
  begins_below h.dims front (front + fixed_of h.dims h.vars) h.vars (2 ^ 64) (omega (arith, end)) (omega (arith, end)) n v lt,
)
  where
    front : ℕ
    front = length (header_bytes h)

    end : length (header_bytes h) + fixed_of h.dims h.vars + moving_of h.dims h.vars ≤ 2 ^ 40 + 3
    end = omega (arith, one_record_le h 1, fits, most_bytes_small h.version)

pub headers_again : FileHeadersAreReadAgain
headers_again plan d stream steps records start rest is few =
    let fits = file_fits plan d stream steps start is in
    read_again (header_with plan d stream start steps records) rest sound
    (BeginsFit_within_limit (file_header plan d stream start steps) 1 fits)
    (numbers_fit (file_header plan d stream start steps) (unplaced plan d stream steps start) fits)
  where
    sound : IsSoundHeader (header_with plan d stream start steps records)
    sound = let s = IsSoundHeader_placed (file_header plan d stream start steps) (header_sound plan d stream steps start is) in record {
      version = s.version;
      numrecs = few;
      dim_count = s.dim_count;
      dims = s.dims;
      one_record = s.one_record;
      att_count = s.att_count;
      atts = s.atts;
      var_count = s.var_count;
      vars = s.vars;
    }
