-- What is read of the bytes of a restart file.
use Rattle.std.proofs.Common.{◌≡◌, ℕ, ◌+◌, ◌*◌, Bool, true, false, List, [], ◌∷◌, ◌++◌, map, length, ℤ, pos, Result, Ok, Err, IsTrue, refl, sym, ap, ◌∙◌, subst, lit<, lit≤, arith}
use Rattle.std.proofs.lemmas.List.{append-nil}
use Rattle.std.proofs.lemmas.List.Folds.{flat_map-map}
use Rattle.std.proofs.lemmas.List.Elements.{All-contains}
use Rattle.std.specs.Prelude.{flat_map, nat_lt, Contains, if◌then◌else◌}
use Rattle.wf_model.specs.declared.cdf_error.SlabError.{SlabError}
use Rattle.wf_model.specs.declared.frame.Frame.{Frame}
use Rattle.wf_model.specs.declared.header.Header.{Header}
use Rattle.wf_model.specs.declared.plan.Plan.{Plan}
use Rattle.wf_model.specs.Bytes.{slab_bytes, char_bytes, header_bytes}
use Rattle.wf_model.specs.Calendar.{time_text}
use Rattle.wf_model.specs.CdfRead.{ints, ints_of, slab_at, chars_at}
use Rattle.wf_model.specs.InputOf.{slab_read, shape_of, level_asked, own_points, bytes_read, is_restored}
use Rattle.wf_model.specs.Letters.{Text}
use Rattle.wf_model.specs.Plans.{begin_of, field_of, nz, point_x, point_y}
use Rattle.wf_model.specs.Script.{restart_stream}
use Rattle.wf_model.specs.Sizes.{product, record_size}
use Rattle.wf_model.specs.Streams.{file_x, file_y, file_list, is_in_stream, stream_levels}
use Rattle.wf_model.specs.Outcome.{RunData, grids_at}
use Rattle.wf_model.specs.Continued.{time_after, place_after, steps_after, IsRestartTime}
use Rattle.wf_model.specs.Sound.{IsDomain, IsLevel}
use Rattle.wf_model.specs.SoundRun.{IsSoundRun}
use Rattle.wf_model.specs.Writes.{record_of}
use Rattle.wf_laws.proofs.Listing.{length-listed}
use Rattle.wf_laws.proofs.Members.{In-range, In-filter, In-Contains}
use Rattle.wf_cdf.proofs.LevelLoops.{ranged, levels_within}
use Rattle.wf_cdf.proofs.StreamSizes.{stamp_length}
use Rattle.wf_cdf_laws.specs.FileNames.{HasFileNames}
use Rattle.wf_cdf_laws.specs.FilesAgain.{IsFile, frame_bytes, IsShown, IsFrameRead}
use Rattle.wf_cdf_laws.proofs.FileHeaders.{headers_again}
use Rattle.wf_cdf_laws.proofs.Frames.{frames_again}
use Rattle.wf_restart_laws.specs.ReadBack.{HasInts}
use Rattle.wf_restart_laws.specs.Filed.{restart_header, one_frame_bytes, IsRestartFrame, RestartHeadersAreRead, IsReadBack, RestartFramesAreReadBack}
use Rattle.wf_restart_laws.proofs.Ints.{file_ints}
use Rattle.wf_restart_laws.proofs.LaterFrames.{in_years}
use Rattle.wf_restart_laws.proofs.Leads.{same_ok, not_ok}
use Rattle.wf_restart_laws.proofs.OwnPoints.{own_back}
use Rattle.wf_restart_laws.proofs.Texts.{stamps}

-- the restart file of a domain
restart_is : (r : RunData) (d : ℕ) → IsSoundRun r → HasFileNames r.plan restart_stream → IsDomain r.plan d → IsFile r.plan d restart_stream (begin_of r.initial.begins d).start_text
restart_is r d sound names dom = record {
  ranged = sound.ranged;
  fits = sound.files;
  domain = dom;
  held = lit≤ tt;
  dims = names.dims d dom;
  stamp = ((sound.fitting).sound d dom).start_text;
}

pub headers_read : RestartHeadersAreRead
headers_read r m d rest sound names dom = headers_again r.plan d restart_stream (steps_after r m d) 1 (begin_of r.initial.begins d).start_text rest (restart_is r d sound names dom) (lit< tt)

-- the numbers of a shape
shape_product : (b : Bool) (z y x : ℕ) → (b ≡ false → z ≡ 1) → product ((if b then z ∷ [] else []) ++ (y ∷ x ∷ [])) ≡ z * (y * x)
shape_product true z y x flat = all z y x
  where
    all : (z y x : ℕ) → 1 * z * y * x ≡ z * (y * x)
    all z y x = grind arith
shape_product false z y x flat = plane y x ∙ ap (λ n. n * (y * x)) (sym (flat refl))
  where
    plane : (y x : ℕ) → 1 * y * x ≡ 1 * (y * x)
    plane y x = grind arith

-- numbers that are read stand in bytes that are found
found_bytes : (n : ℕ) (x : Result (List ℕ) SlabError) (values : List ℤ) → ints_of n x ≡ Ok values → (found : List ℕ) × (x ≡ Ok found) × (ints n found ≡ values)
found_bytes n (Ok found) values e = (found, refl, same_ok (ints n found) values e)
found_bytes n (Err fault) values e = absurd (not_ok fault values e)

-- a restart file holds the levels with `r`
held_level : (plan : Plan) (f : ℕ) → IsLevel plan f → IsTrue (is_restored plan f) → Contains (stream_levels plan restart_stream) f
unfolding stream_levels
held_level plan f level restored =
    In-Contains f (stream_levels plan restart_stream)
    (In-filter (is_in_stream plan restart_stream) f _ (In-range f 0 (length plan.fields) (omega arith) (omega (arith, level))) restored)

module _ (r : RunData) (m d : ℕ) (sound : IsSoundRun r) (ints_are : HasInts r.initial) (names : HasFileNames r.plan restart_stream) (time : IsRestartTime r m) (dom : IsDomain r.plan d) where
  abbrev values : ℕ → List ℤ
  values f = file_list r.plan d f (grids_at r (place_after r m))

  abbrev stamp : Text
  stamp = time_text r.plan.start (time_after r m)

  abbrev header : Header
  header = restart_header r m d

  abbrev bytes : List ℕ
  bytes = header_bytes header ++ (frame_bytes r.plan restart_stream stamp values ++ [])

  -- the frame's bytes are those of its time and its levels
  same_bytes : (frame : Frame) → IsRestartFrame r m d frame → one_frame_bytes r header frame ≡ bytes
  unfolding record_of
  same_bytes frame is =
      (λ i. header_bytes header ++ (char_bytes (nat_lt 0 (length (stream_levels r.plan (is.stream i)))) (is.time i) ++ flat_map (λ (b : List ℕ). b) (map (λ f. slab_bytes (is.slabs f i)) (stream_levels r.plan (is.stream i)))))
      ∙ ap (λ (bs : List ℕ). header_bytes header ++ (char_bytes (nat_lt 0 (length (stream_levels r.plan restart_stream))) stamp ++ bs)) (flat_map-map (λ (b : List ℕ). b) (λ f. slab_bytes (values f)) (stream_levels r.plan restart_stream))
      ∙ ap (λ (bs : List ℕ). header_bytes header ++ bs) (sym (append-nil (frame_bytes r.plan restart_stream stamp values)))

  -- what it shows
  shown : IsShown r.plan d restart_stream stamp values
  unfolding file_list
  shown = record {
    chars = stamp_length stamp (stamps r.plan.start (time_after r m) (in_years r m sound time.within)).0;
    shaped = λ f c. shape_product (field_of r.plan f).z (nz r.plan f) (file_y r.plan d f) (file_x r.plan d f) (ranged r.plan f (is_level f c) (sound.ranged).fields).flat
        ∙ sym (length-listed (nz r.plan f) (file_y r.plan d f) (file_x r.plan d f) (λ k j i. grids_at r (place_after r m) d f k (point_y r.plan d f (pos j)) (point_x r.plan d f (pos i))));
    fits = λ f c. file_ints r (place_after r m) d f ints_are;
  }
    where
      is_level : (f : ℕ) → Contains (stream_levels r.plan restart_stream) f → IsLevel r.plan f
      is_level f c = All-contains (IsLevel r.plan) (stream_levels r.plan restart_stream) f (levels_within r.plan restart_stream) c

  read : IsFrameRead r.plan d restart_stream header bytes 0 stamp values
  read =
      frames_again r.plan d restart_stream (steps_after r m d) 1 0 (begin_of r.initial.begins d).start_text stamp values (header_bytes header) []
      (restart_is r d sound names dom) names.variables shown (lit< tt) (none (length (header_bytes header)) (record_size header))
    where
      none : (a b : ℕ) → a ≡ a + 0 * b
      none a b = grind arith

  found_level : (f : ℕ) → IsLevel r.plan f → IsTrue (is_restored r.plan f) → (found : List ℕ) × (slab_read bytes header (level_asked r.plan d restart_stream f) ≡ Ok found) × (ints (product (shape_of r.plan d f)) found ≡ values f)
  unfolding slab_at
  found_level f level restored = found_bytes (product (shape_of r.plan d f)) (slab_read bytes header (level_asked r.plan d restart_stream f)) (values f) (read.levels f (held_level r.plan f level restored))

  read_back : IsReadBack r m d bytes
  unfolding chars_at
  read_back = record {
    header = headers_read r m d (frame_bytes r.plan restart_stream stamp values ++ []) sound names dom;
    time = read.times;
    there = λ f level restored. let w = found_level f level restored in (w.0, w.1);
    levels = λ f level restored. let w = found_level f level restored in
        ap (λ (x : Result (List ℕ) SlabError). own_points r.plan d f (ints (product (shape_of r.plan d f)) (bytes_read x))) w.1
        ∙ ap (own_points r.plan d f) w.2 ∙ own_back r.plan d f (grids_at r (place_after r m)) sound.sound dom level;
  }

pub frames_back : RestartFramesAreReadBack
frames_back r m d frame sound ints_are names time dom is = subst (IsReadBack r m d) (sym (same_bytes r m d sound ints_are names time dom frame is)) (read_back r m d sound ints_are names time dom)
