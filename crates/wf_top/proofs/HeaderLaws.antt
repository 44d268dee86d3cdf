-- The demo's header: it is the plan's, it is sound, and its file is not too long.
use Rattle.std.proofs.Common.{◌≡◌, ℕ, ◌+◌, ◌-◌, ◌*◌, ◌<◌, ◌≤◌, ◌^◌, List, [], ◌∷◌, length, filter, All, refl, ap, ◌∙◌, arith, inl, codes, lit<, lit≤, max, false, not, IsTrue}
use Rattle.std.proofs.lemmas.List.Elements.{All-from_recursion}
use Rattle.std.proofs.lemmas.Bool.Decides.{nat_tests}
use Rattle.wf_model.specs.Plans.{field_of, domain_of}
use Rattle.wf_model.specs.Bytes.{header_bytes}
use Rattle.wf_model.specs.Streams.{stream_levels}
use Rattle.wf_model.specs.Headers.{file_header, dims_of, dim, times_var}
use Rattle.wf_model.specs.Sizes.{file_size, record_size, most_bytes, is_record_dim, dim_of}
use Rattle.wf_model.specs.SoundHeader.{IsSoundDim, IsSoundAtt, IsSoundVar, IsSoundHeader}
use Rattle.wf_model.specs.DemoCase.{demo_plan, case_start}
use Rattle.wf_cdf.proofs.SoundParts.{text_sound, int_sound, dim_sound}
use Rattle.wf_top.specs.DemoHeader.{demo_dims, demo_atts, field_atts, field_var, demo_vars, unplaced}

levels_are : (nx ny steps : ℕ) → stream_levels (demo_plan nx ny steps) 0 ≡ 0 ∷ []
unfolding stream_levels field_of
levels_are nx ny steps = refl

dims_are : (nx ny steps : ℕ) → dims_of (demo_plan nx ny steps) 1 0 ≡ demo_dims (nx + 1 - 1 + 0) (ny + 1 - 1 + 0)
unfolding dims_of stream_levels field_of domain_of
dims_are nx ny steps = refl

-- it is the header of the demo's plan
pub header_is : (nx ny steps : ℕ) → unplaced nx ny ≡ file_header (demo_plan nx ny steps) 1 0 case_start 0
unfolding file_header dims_of stream_levels field_of domain_of
header_is nx ny steps =
    let x : nx ≡ nx + 1 - 1 + 0 = omega arith in
    let y : ny ≡ ny + 1 - 1 + 0 = omega arith in
    ap (λ n. unplaced n ny) x ∙ ap (λ n. unplaced (nx + 1 - 1 + 0) n) y

-- a length that is not zero is not the record's
fixed_dim : (name : List ℕ) (n : ℕ) → 0 < n → is_record_dim (dim name n) ≡ false
fixed_dim name n p = grind (arith, nat_tests)

field_atts_sound : All IsSoundAtt field_atts
field_atts_sound = All-from_recursion IsSoundAtt field_atts (
  int_sound (codes "FieldType") 106 (lit< tt),
  (
    text_sound (codes "MemoryOrder") (codes "XY ") (lit< tt) (lit< tt),
    (
      text_sound (codes "description") [] (lit< tt) (lit< tt),
      (text_sound (codes "units") [] (lit< tt) (lit< tt), (text_sound (codes "stagger") [] (lit< tt) (lit< tt), tt)),
    ),
  ),
)

demo_atts_sound : All IsSoundAtt demo_atts
demo_atts_sound = All-from_recursion IsSoundAtt demo_atts (text_sound (codes "START_DATE") case_start (lit< tt) (lit< tt), (int_sound (codes "GRID_ID") 1 (lit< tt), tt))

demo_dims_sound : (nx ny : ℕ) → nx ≤ 200 → ny ≤ 200 → All IsSoundDim (demo_dims nx ny)
demo_dims_sound nx ny p q = All-from_recursion IsSoundDim (demo_dims nx ny) (
  dim_sound (codes "Time") 0 (lit< tt) (lit< tt),
  (
    dim_sound (codes "DateStrLen") 19 (lit< tt) (lit< tt),
    (dim_sound (codes "west_east") nx (lit< tt) (omega arith), (dim_sound (codes "south_north") ny (lit< tt) (omega arith), tt)),
  ),
)

times_sound : (nx ny : ℕ) → IsSoundVar (demo_dims nx ny) times_var
times_sound nx ny = record {
  name = lit< tt;
  kind = (lit≤ tt, lit≤ tt);
  rank = lit< tt;
  dims_are = All-from_recursion (λ n. n < 4) (0 ∷ 1 ∷ []) (lit< tt, (lit< tt, tt));
  record_first = All-from_recursion (λ n. IsTrue (not (is_record_dim (dim_of (demo_dims nx ny) n)))) (1 ∷ []) (refl, tt);
  count = lit< tt;
  atts = All-from_recursion IsSoundAtt [] tt;
}

field_sound : (nx ny : ℕ) → 0 < nx → 0 < ny → IsSoundVar (demo_dims nx ny) field_var
field_sound nx ny p q = record {
  name = lit< tt;
  kind = (lit≤ tt, lit≤ tt);
  rank = lit< tt;
  dims_are = All-from_recursion (λ n. n < 4) (0 ∷ 3 ∷ 2 ∷ []) (lit< tt, (lit< tt, (lit< tt, tt)));
  record_first = All-from_recursion (λ n. IsTrue (not (is_record_dim (dim_of (demo_dims nx ny) n)))) (3 ∷ 2 ∷ [])
      (ap not (fixed_dim (codes "south_north") ny q), (ap not (fixed_dim (codes "west_east") nx p), tt));
  count = lit< tt;
  atts = field_atts_sound;
}

one_record : (nx ny : ℕ) → 0 < nx → 0 < ny → length (filter is_record_dim (demo_dims nx ny)) ≤ 1
one_record nx ny p q =
    let x = fixed_dim (codes "west_east") nx p in
    let y = fixed_dim (codes "south_north") ny q in
    rw (x, y) (lit≤ tt)

-- it is sound
pub header_sound : (nx ny : ℕ) → 0 < nx → nx ≤ 200 → 0 < ny → ny ≤ 200 → IsSoundHeader (unplaced nx ny)
header_sound nx ny p q s t = record {
  version = inl refl;
  numrecs = lit< tt;
  dim_count = lit< tt;
  dims = demo_dims_sound nx ny q t;
  one_record = one_record nx ny p s;
  att_count = lit< tt;
  atts = demo_atts_sound;
  var_count = lit< tt;
  vars = All-from_recursion (IsSoundVar (demo_dims nx ny)) demo_vars (times_sound nx ny, (field_sound nx ny p s, tt));
}

-- its length
pub header_length : (nx ny : ℕ) → length (header_bytes (unplaced nx ny)) ≡ 380
unfolding header_bytes
header_length nx ny = refl

records_small : (a b : ℕ) → a ≤ 101 → b ≤ 160100 → a * b ≤ 16170100
records_small a b p q = grind arith

area_small : (nx ny : ℕ) → nx ≤ 200 → ny ≤ 200 → 1 * ny * nx ≤ 40000
area_small nx ny p q = grind arith

-- its file is not too long
pub header_fits : (nx ny records : ℕ) → nx ≤ 200 → ny ≤ 200 → records ≤ 101 → file_size (unplaced nx ny) records ≤ most_bytes 1
header_fits nx ny records q t h =
    let area : 1 * ny * nx ≤ 40000 = area_small nx ny q t in
    let one : record_size (unplaced nx ny) ≤ 160100 = omega arith in
    let most : max 1 records ≤ 101 = omega arith in
    omega (arith, records_small (max 1 records) (record_size (unplaced nx ny)) most one, header_length nx ny)
