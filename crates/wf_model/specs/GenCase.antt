-- The generated case: four files by number.
use Rattle.std.specs.Prelude.{ℕ, ◌+◌, ◌%◌, List, [], ◌∷◌, ◌++◌, flat_map, codes, decimal}
use Rattle.wf_model.specs.declared.header.Header.{Header}
use Rattle.wf_model.specs.Letters.{Text}
use Rattle.wf_model.specs.Bytes.{header_bytes, padded, slab_bytes}
use Rattle.wf_model.specs.Headers.{file_header, placed}
use Rattle.wf_model.specs.DemoCase.{case_start, case_field, case_plan, case_values}
use Rattle.wf_model.specs.Files.{StoreCall, create, append}

-- each line with its line feed
abbrev pub lines : List Text → Text
lines ls = flat_map (λ l. l ++ 10 ∷ []) ls

unfoldable pub case_registry : Text
case_registry = lines (
    codes "dimspec i 1 standard_domain x west_east" ∷
    codes "dimspec k 2 standard_domain z bottom_top" ∷
    codes "dimspec j 3 standard_domain y south_north" ∷
    codes "state integer a ij misc 1 - i0rhudf \"A\" \"\" \"\"" ∷
    codes "state integer b ij misc 1 - rh \"B\" \"\" \"\"" ∷
    codes "halo h4 misc 4:a,b" ∷
    codes "halo h8 misc 8:a,b" ∷
    codes "halo h24 misc 24:a,b" ∷
    codes "halo h48 misc 48:a,b" ∷
    codes "period p1 misc 1:a,b" ∷ [])

-- run_minutes, history_interval, nproc_x, nproc_y, numtiles, e_we, e_sn
unfoldable pub case_namelist : ℕ → ℕ → ℕ → ℕ → ℕ → ℕ → ℕ → Text
case_namelist run history px py tiles we sn = lines (
    codes "&time_control" ∷
    (codes " run_minutes = " ++ decimal run
    ++ codes ", start_year = 2000, start_month = 1, start_day = 1,") ∷
    (codes " history_interval = " ++ decimal history ++ codes ", frames_per_outfile = 10,") ∷
    codes "/" ∷
    codes "&domains" ∷
    (codes " time_step = 60, max_dom = 1, nproc_x = " ++ decimal px ++ codes ", nproc_y = "
    ++ decimal py ++ codes ", numtiles = " ++ decimal tiles ++ codes ",") ∷
    (codes " e_we = " ++ decimal we ++ codes ", e_sn = " ++ decimal sn ++ codes ", e_vert = 2,") ∷
    codes "/" ∷
    codes "&bdy_control" ∷
    codes " spec_bdy_width = 1, periodic_x = .false.," ∷
    codes "/" ∷ [])

unfoldable pub case_table : Text
case_table = lines (
    codes "halo h24" ∷
    codes "phase q writes a margin 1 1 extend 1 = (4*a[0,0,0] + a[-1,0,0] \\" ∷
    codes "  + a[1,0,0] + a[0,0,-1] + a[0,0,1]) div 8" ∷
    codes "phase p writes b margin 2 1 = a[-1,0,0] + a[1,0,0]" ∷ [])

-- with one record
abbrev pub one_record : Header → Header
one_record h =
    record { version = h.version; numrecs = 1; dims = h.dims; atts = h.atts; vars = h.vars }

-- the input of x by y points: one variable A, one record of (a(i-1) + 53(j-1)) mod m
unfoldable pub case_input : ℕ → ℕ → ℕ → ℕ → Text
case_input a m x y =
    header_bytes (one_record (placed
    (file_header (case_plan x y 1 (case_field (codes "a") (codes "A")) []) 1 0 case_start 0)))
    ++ padded case_start ++ slab_bytes (case_values a m x y)

-- a file by two calls
abbrev pub place : Text → Text → List StoreCall
place name text = create name ∷ append name text ∷ []

-- the four files, in order
unfoldable pub gen_calls : ℕ → List StoreCall
gen_calls n =
    place (codes "Registry") case_registry
    ++ place (codes "namelist.input") (case_namelist 10 5 4 2 4 (1001 + n % 100) 501)
    ++ place (codes "stencil.table") case_table
    ++ place (codes "wrfinput_d01") (case_input (37 + n) 1000 (1000 + n % 100) 500)
