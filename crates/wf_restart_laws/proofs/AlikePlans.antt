-- Plans that are alike mean the same by each item.
use Rattle.std.proofs.Common.{◌≡◌, ℕ, ◌+◌, ◌-◌, ◌*◌, ◌/◌, ◌%◌, ◌^◌, Bool, true, false, List, [], ◌∷◌, ◌++◌, length, ℤ, pos, ◌+ℤ◌, Some, refl, ap, ◌∙◌}
use Rattle.std.specs.Prelude.{◌==◌, ◌&&◌, ◌||◌, is_some, min, fold, codes, filter, flat_map, map, slice_index_or, unsigned_abs, if◌then◌else◌, replicate, Ok}
use Rattle.std.specs.List.{range_with_len}
use Rattle.wf_model.specs.declared.plan.Domain.{Domain}
use Rattle.wf_model.specs.declared.plan.Field.{Field}
use Rattle.wf_model.specs.declared.plan.Item.{Item}
use Rattle.wf_model.specs.declared.plan.Item.TheVariants as item
use Rattle.wf_model.specs.declared.plan.Phase.{Phase}
use Rattle.wf_model.specs.declared.plan.Plan.{Plan}
use Rattle.wf_model.specs.Plans.{domain_of, field_of, item_of, up_to, nx, ny, nz, extra, wrapped, point_x, point_y, level_at, is_within, is_inside, no_field, no_item}
use Rattle.wf_model.specs.Numbers.{in_i32, and_then}
use Rattle.wf_model.specs.Value.{Answers, value_of}
use Rattle.wf_model.specs.Grids.{Grid, Grids, listed, grid_from}
use Rattle.wf_model.specs.Changes.{spots, in_region, sight_at, table_change}
use Rattle.wf_model.specs.Nests.{offset, held_at, between_points, or_old, start_change, is_outer, force_change, is_fed, nest_points, digest, behind, feedback_change}
use Rattle.wf_model.specs.Streams.{one_if, file_list, level_suffix, stream_levels}
use Rattle.wf_model.specs.Script.{restart_stream}
use Rattle.wf_model.specs.declared.header.Dim.{Dim}
use Rattle.wf_model.specs.Headers.{dim, dim_name, dims_of_level, add_dim, dims_of, dim_number, level_atts, level_var, times_var, text_att, int_att, file_header}
use Rattle.std.specs.Str.{bytes_eq}
use Rattle.wf_model.specs.declared.header.Header.{Header}
use Rattle.wf_model.specs.declared.plan_fault.InputKind.TheVariants as kind
use Rattle.wf_model.specs.CdfRead.{ints}
use Rattle.wf_model.specs.Files.{Files}
use Rattle.wf_model.specs.Reading.{◌>>=◌, fault_unless, first_fault, unless_fault}
use Rattle.wf_model.specs.Sizes.{product}
use Rattle.wf_model.specs.InputOf.{slab_read, bytes_read, times, time_read, level_asked, zeros, level_read, grids_read, all_slabs, slabs_fault, header_read, is_input, is_restored, domain_stamp, with_zeros, input_read, input_file, from_file, started}
use Rattle.wf_restart_laws.specs.Shifted.{AreAlike}

module _ (p q : Plan) (a : AreAlike p q) where
  -- a part of a domain
  abbrev part : {X : Type 0} (f : Domain → X) (d : ℕ) → Type 0
  part f d = f (domain_of q d) ≡ f (domain_of p d)

  pub field_is : (f : ℕ) → field_of q f ≡ field_of p f
  unfolding field_of
  field_is f = λ n. slice_index_or (a.fields n) f no_field

  pub item_is : (k : ℕ) → item_of q k ≡ item_of p k
  unfolding item_of
  item_is k = λ n. slice_index_or (a.items n) k no_item

  parent_is : (d : ℕ) → part (λ x. x.parent) d
  parent_is d = ap (λ (x : Domain). x.parent) (a.domains d)

  ide_is : (d : ℕ) → part (λ x. x.ide) d
  ide_is d = ap (λ (x : Domain). x.ide) (a.domains d)

  jde_is : (d : ℕ) → part (λ x. x.jde) d
  jde_is d = ap (λ (x : Domain). x.jde) (a.domains d)

  ratio_is : (d : ℕ) → part (λ x. x.ratio) d
  ratio_is d = ap (λ (x : Domain). x.ratio) (a.domains d)

  i_start_is : (d : ℕ) → part (λ x. x.i_start) d
  i_start_is d = ap (λ (x : Domain). x.i_start) (a.domains d)

  j_start_is : (d : ℕ) → part (λ x. x.j_start) d
  j_start_is d = ap (λ (x : Domain). x.j_start) (a.domains d)

  periodic_x_is : (d : ℕ) → part (λ x. x.periodic_x) d
  periodic_x_is d = ap (λ (x : Domain). x.periodic_x) (a.domains d)

  periodic_y_is : (d : ℕ) → part (λ x. x.periodic_y) d
  periodic_y_is d = ap (λ (x : Domain). x.periodic_y) (a.domains d)

  from_file_is : (d : ℕ) → part (λ x. x.from_file) d
  from_file_is d = ap (λ (x : Domain). x.from_file) (a.domains d)

  -- ---- extents

  pub nx_is : (d f : ℕ) → nx q d f ≡ nx p d f
  nx_is d f = λ n. ide_is d n - 1 + extra (field_is f n).stag_x (periodic_x_is d n)

  pub ny_is : (d f : ℕ) → ny q d f ≡ ny p d f
  ny_is d f = λ n. jde_is d n - 1 + extra (field_is f n).stag_y (periodic_y_is d n)

  pub nz_is : (f : ℕ) → nz q f ≡ nz p f
  nz_is f = λ n. (field_is f n).nz

  point_x_is : (d f : ℕ) (c : ℤ) → point_x q d f c ≡ point_x p d f c
  point_x_is d f c = λ n. wrapped (periodic_x_is d n) (nx_is d f n) c

  point_y_is : (d f : ℕ) (c : ℤ) → point_y q d f c ≡ point_y p d f c
  point_y_is d f c = λ n. wrapped (periodic_y_is d n) (ny_is d f n) c

  level_at_is : (f k : ℕ) (dk : ℤ) → level_at q f k dk ≡ level_at p f k dk
  level_at_is f k dk = ap (λ (x : Field). if x.z then unsigned_abs (pos k +ℤ dk) else 1) (field_is f)

  pub spots_are : (d : ℕ) → spots q d ≡ spots p d
  unfolding spots
  spots_are d =
      λ n. flat_map (λ f. flat_map (λ k. flat_map (λ j. map (λ i. record { field = f; k = k; j = j; i = i }) (up_to (nx_is d f n))) (up_to (ny_is d f n))) (up_to (nz_is f n))) (range_with_len 0 (length (a.fields n)))

  -- ---- items of the table

  region_is : (d : ℕ) (ph : Phase) (k j i : ℕ) → in_region q d ph k j i ≡ in_region p d ph k j i
  unfolding in_region
  region_is d ph k j i =
      λ n. (if ph.from == 0 then is_within 1 (nz_is ph.writes n) k else is_within ph.from ph.to k)
      && is_inside (periodic_y_is d n) ph.my (ny_is d ph.writes n) j && is_inside (periodic_x_is d n) ph.mx (nx_is d ph.writes n) i

  sight_is : (g : Grids) (d step k j i : ℕ) → sight_at q g d step k j i ≡ sight_at p g d step k j i
  sight_is g d step k j i = λ n. record {
    i = i;
    j = j;
    k = k;
    step = step;
    read = λ f di dk dj. g d f (level_at_is f k dk n) (point_y_is d f (pos j +ℤ dj) n) (point_x_is d f (pos i +ℤ di) n);
  }

  pub table_change_is : (m : Answers) (g : Grids) (d step : ℕ) (it : Item) → table_change q m g d step it ≡ table_change p m g d step it
  unfolding table_change
  table_change_is m g d step (item.Halo parts) = refl
  table_change_is m g d step (item.Period parts) = refl
  table_change_is m g d step (item.Swap one two) = refl
  table_change_is m g d step (item.Phase ph) = λ n. record {
    domain = d;
    sets = λ f k j i. (f == ph.writes) && region_is d ph k j i n;
    value = λ f k j i. value_of m (sight_is g d step k j i n) ph.expr;
  }

  -- ---- nests

  held_is : (g : Grids) (d f k j i : ℕ) → held_at q g d f k j i ≡ held_at p g d f k j i
  held_is g d f k j i = λ n. if is_within 1 (ny_is d f n) j && is_within 1 (nx_is d f n) i then g d f k j i else pos 0

  between_is : (m : Answers) (g : Grids) (c f id k j i : ℕ) → between_points q m g c f id k j i ≡ between_points p m g c f id k j i
  unfolding between_points
  between_is m g c f id k j i = λ n.
      (let x = offset (field_is f n).stag_x (i_start_is c n) (ratio_is c n) i in
      let y = offset (field_is f n).stag_y (j_start_is c n) (ratio_is c n) j in
      let at : ℕ → ℕ → ℤ = λ dj di. held_is g (parent_is c n) f k (y.at + dj) (x.at + di) n in
      in_i32 (m id (at 0 0 ∷ at 0 1 ∷ at 1 0 ∷ at 1 1 ∷ pos x.past ∷ pos y.past ∷ pos (ratio_is c n) ∷ [])))

  pub start_change_is : (m : Answers) (input : ℕ → ℕ → Grid) (g : Grids) (c : ℕ) → start_change q m input g c ≡ start_change p m input g c
  start_change_is m input g c = λ n. record {
    domain = c;
    sets = λ f k j i. is_some (field_is f n).down || ((field_is f n).input && from_file_is c n);
    value = λ f k j i.
        (let parents = or_old (λ id. between_is m g c f id k j i n) (g c f k j i) (field_is f n).down in
        if (field_is f n).input && from_file_is c n then and_then parents (λ v. Some (input c f k j i)) else parents);
  }

  pub force_change_is : (m : Answers) (g : Grids) (c : ℕ) → force_change q m g c ≡ force_change p m g c
  force_change_is m g c = λ n. record {
    domain = c;
    sets = λ f k j i. is_some (field_is f n).edge && (is_outer (a.bdy_width n) (ny_is c f n) j || is_outer (a.bdy_width n) (nx_is c f n) i);
    value = λ f k j i. or_old (λ id. between_is m g c f id k j i n) (pos 0) (field_is f n).edge;
  }

  behind_is : (g : Grids) (c f k j i : ℕ) → behind q g c f k j i ≡ behind p g c f k j i
  unfolding behind
  behind_is g c f k j i = λ n.
      flat_map (λ y. map (λ x. g c f k y x) (nest_points (field_is f n).stag_x (i_start_is c n) (ratio_is c n) i))
      (nest_points (field_is f n).stag_y (j_start_is c n) (ratio_is c n) j)

  pub feedback_change_is : (m : Answers) (g : Grids) (c : ℕ) → feedback_change q m g c ≡ feedback_change p m g c
  feedback_change_is m g c = λ n. record {
    domain = parent_is c n;
    sets = λ f k j i. is_some (field_is f n).up
        && is_fed (field_is f n).stag_y (j_start_is c n) ((jde_is c n - 1) / ratio_is c n) j
        && is_fed (field_is f n).stag_x (i_start_is c n) ((ide_is c n - 1) / ratio_is c n) i;
    value = λ f k j i. or_old (λ id. in_i32 (m id (digest (behind_is g c f k j i n)))) (pos 0) (field_is f n).up;
  }

  -- ---- streams

  pub file_list_is : (d f : ℕ) (g : Grids) → file_list q d f g ≡ file_list p d f g
  unfolding file_list
  file_list_is d f g =
      λ n. listed (nz_is f n) (jde_is d n - 1 + one_if (field_is f n).stag_y) (ide_is d n - 1 + one_if (field_is f n).stag_x) (λ k j i. g d f k (point_y_is d f (pos j) n) (point_x_is d f (pos i) n))

  pub stream_levels_are : (stream : ℕ) → stream_levels q stream ≡ stream_levels p stream
  unfolding stream_levels
  stream_levels_are stream =
      λ n. filter (λ f. if stream == restart_stream then (field_is f n).restart else ((field_is f n).last && (((field_is f n).streams / 2 ^ stream) % 2 == 1))) (range_with_len 0 (length (a.fields n)))

  -- ---- headers

  dims_of_level_is : (d f : ℕ) → dims_of_level q d f ≡ dims_of_level p d f
  dims_of_level_is d f = λ n.
      dim (dim_name (field_is f n).x_name (field_is f n).stag_x) (ide_is d n - 1 + one_if (field_is f n).stag_x)
      ∷ dim (dim_name (field_is f n).y_name (field_is f n).stag_y) (jde_is d n - 1 + one_if (field_is f n).stag_y)
      ∷ (if (field_is f n).z then dim (dim_name (field_is f n).z_name (field_is f n).stag_z) (nz_is f n) ∷ [] else [])

  dims_are : (d stream : ℕ) → dims_of q d stream ≡ dims_of p d stream
  unfolding dims_of
  dims_are d stream = λ n. fold add_dim (dim (codes "Time") 0 ∷ dim (codes "DateStrLen") 19 ∷ []) (flat_map (λ f. dims_of_level_is d f n) (stream_levels_are stream n))

  level_var_is : (d stream : ℕ) (dims : List Dim) (f : ℕ) → level_var q d stream dims f ≡ level_var p d stream dims f
  level_var_is d stream dims f = λ n. record {
    name = (field_is f n).dname ++ (if stream == restart_stream then level_suffix (field_is f n) f else []);
    dims = 0 ∷ (if (field_is f n).z then dim_number dims (dim (dim_name (field_is f n).z_name (field_is f n).stag_z) (nz_is f n)) ∷ [] else [])
        ++ dim_number dims (dim (dim_name (field_is f n).y_name (field_is f n).stag_y) (jde_is d n - 1 + one_if (field_is f n).stag_y))
        ∷ dim_number dims (dim (dim_name (field_is f n).x_name (field_is f n).stag_x) (ide_is d n - 1 + one_if (field_is f n).stag_x)) ∷ [];
    atts = level_atts (field_is f n);
    kind = 4;
    vsize = 0;
    begin = 0;
  }

  pub file_header_is : q.version ≡ p.version → (d stream : ℕ) (start : List ℕ) (steps : ℕ) → file_header q d stream start steps ≡ file_header p d stream start steps
  unfolding file_header
  file_header_is version d stream start steps = λ n. record {
    version = version n;
    numrecs = 0;
    dims = dims_are d stream n;
    atts = text_att (codes "START_DATE") start ∷ int_att (codes "GRID_ID") d ∷ (if stream == restart_stream then int_att (codes "STEPS") (min steps 2147483647) ∷ [] else []);
    vars = times_var ∷ map (λ f. level_var_is d stream (dims_are d stream n) f n) (stream_levels_are stream n);
  }

  -- ---- what is read

  asked_is : (d stream f : ℕ) → level_asked q d stream f ≡ level_asked p d stream f
  asked_is d stream f = λ n. record {
    name = (field_is f n).dname ++ (if stream == restart_stream then level_suffix (field_is f n) f else []);
    type = 4;
    shape = (if (field_is f n).z then nz_is f n ∷ [] else []) ++ ((jde_is d n - 1 + one_if (field_is f n).stag_y) ∷ (ide_is d n - 1 + one_if (field_is f n).stag_x) ∷ []);
  }

  pub zeros_are : (d f : ℕ) → zeros q d f ≡ zeros p d f
  zeros_are d f = λ n. replicate (nz_is f n * (ny_is d f n * nx_is d f n)) (pos 0)

  pub level_read_is : (d stream : ℕ) (bytes : List ℕ) (h : Header) (f : ℕ) → level_read q d stream bytes h f ≡ level_read p d stream bytes h f
  level_read_is d stream bytes h f = λ n. listed (nz_is f n) (ny_is d f n) (nx_is d f n) (grid_from (jde_is d n - 1 + one_if (field_is f n).stag_y) (ide_is d n - 1 + one_if (field_is f n).stag_x)
      (ints (product (asked_is d stream f n).shape) (bytes_read (slab_read bytes h (asked_is d stream f n)))))

  pub slabs_are : (d stream : ℕ) (gives other : ℕ → Bool) (bytes : List ℕ) (h : Header) → gives ≡ other → all_slabs q d stream gives bytes h ≡ all_slabs p d stream other bytes h
  slabs_are d stream gives other bytes h e = λ n. map (slab_read bytes h) (times ∷ map (λ f. asked_is d stream f n) (filter (e n) (range_with_len 0 (length (a.fields n)))))

  pub grids_are : (d stream : ℕ) (gives other : ℕ → Bool) (bytes : List ℕ) (h : Header) → gives ≡ other → grids_read q d stream gives bytes h ≡ grids_read p d stream other bytes h
  grids_are d stream gives other bytes h e = λ n. map (λ f. if e n f then level_read_is d stream bytes h f n else zeros_are d f n) (range_with_len 0 (length (a.fields n)))

  pub inputs_are : is_input q ≡ is_input p
  inputs_are = λ n f. (field_is f n).input

  pub restored_are : is_restored q ≡ is_restored p
  restored_are = λ n f. (field_is f n).restart

  -- an input file, where the domain starts at the same time
  pub input_is : (d : ℕ) (bytes : List ℕ) → domain_stamp q d ≡ domain_stamp p d → input_read q d bytes ≡ input_read p d bytes
  input_is d bytes stamp = λ n.
      header_read bytes >>= λ h.
      unless_fault (first_fault (
      slabs_fault bytes (slabs_are d 0 (is_input q) (is_input p) bytes h inputs_are n)
      ∷ fault_unless (bytes_eq (time_read bytes h) (stamp n)) kind.WrongTime
      ∷ [])) (record { begin = record { steps = 0; start_text = stamp n; resumed = false }; grids = grids_are d 0 (is_input q) (is_input p) bytes h inputs_are n })

  pub zeros_is : (d : ℕ) → domain_stamp q d ≡ domain_stamp p d → with_zeros q d ≡ with_zeros p d
  zeros_is d stamp = λ n. record { begin = record { steps = 0; start_text = stamp n; resumed = false }; grids = map (λ f. zeros_are d f n) (range_with_len 0 (length (a.fields n))) }

  -- a domain that starts, where its input file is the same
  pub started_is : (d : ℕ) (files old : Files) → domain_stamp q d ≡ domain_stamp p d → ((domain_of p d).from_file ≡ true → files (input_file d) ≡ old (input_file d)) → started files q d ≡ started old p d
  started_is d files old stamp same =
      (λ n. if from_file_is d n then from_file (input_read q d) (input_file d) (files (input_file d)) else Ok (with_zeros q d))
      ∙ of (domain_of p d).from_file same
    where
      of : (b : Bool) → (b ≡ true → files (input_file d) ≡ old (input_file d)) → (if b then from_file (input_read q d) (input_file d) (files (input_file d)) else Ok (with_zeros q d)) ≡ (if b then from_file (input_read p d) (input_file d) (old (input_file d)) else Ok (with_zeros p d))
      of true e = λ n. from_file (λ bytes. input_is d bytes stamp n) (input_file d) (e refl n)
      of false e = λ n. Ok (zeros_is d stamp n)
