-- Worked cases of input and restart files.
use Rattle.std.specs.Prelude.{ℕ, ◌≡◌, ◌+◌, true, List, [], ◌∷◌, ◌++◌, length, take, drop, replicate}
use Rattle.std.specs.Prelude.{Result, Ok, Err, codes}
use Rattle.wf_model.specs.declared.plan.Plan.{Plan}
use Rattle.wf_model.specs.declared.header.Header.{Header}
use Rattle.wf_model.specs.declared.header.Att.{Att}
use Rattle.wf_model.specs.declared.initial.Initial.{Initial}
use Rattle.wf_model.specs.declared.cdf_error.CdfError.TheVariants as cdf
use Rattle.wf_model.specs.declared.plan_fault.InputFault.{InputFault}
use Rattle.wf_model.specs.declared.plan_fault.InputKind.{InputKind}
use Rattle.wf_model.specs.declared.plan_fault.InputKind.TheVariants as kind
use Rattle.wf_model.specs.Bytes.{four_bytes, header_bytes, padded, slab_bytes}
use Rattle.wf_model.specs.Headers.{file_header, placed, text_att, int_att}
use Rattle.wf_model.specs.Files.{with_file}
use Rattle.wf_model.specs.InputOf.{input_of}
use Rattle.wf_model.specs.DemoCase.{case_plan, case_field, case_start, case_values, demo_initial}
use Rattle.wf_model.specs.GenCase.{case_input, one_record}
use Rattle.wf_cases.specs.Texts.{no_files}

-- 3 by 3 points of one field a, which the input file gives
abbrev pub plan : Plan
plan = case_plan 3 3 1 (case_field (codes "a") (codes "A")) []

abbrev pub input : List ℕ
input = case_input 37 100 3 3

abbrev pub file : List ℕ
file = codes "wrfinput_d01"

abbrev pub read : List ℕ → Result Initial InputFault
read bytes = input_of (with_file no_files file bytes) plan

abbrev pub refused : InputKind → Result Initial InputFault
refused k = Err (record { file = file; kind = k })

-- 64 bytes between the header and the data, and each begin raised by 64
abbrev pub moved : List ℕ
moved = take 212 input ++ four_bytes 444 ++ take 160 (drop 216 input) ++ four_bytes 464
    ++ replicate 64 170 ++ drop 380 input

pub record CutInput : Type 0 where
  pub size : length input ≡ 436
  pub whole : read input ≡ Ok (demo_initial 3 3)
  pub cut : read (take 435 input) ≡ refused (kind.Truncated 435)
  pub cut_in_the_header : read (take 100 input) ≡ refused (kind.Cdf (cdf.Truncated 100))
  pub missing : input_of no_files plan ≡ refused kind.Missing
  pub moved_data : read moved ≡ Ok (demo_initial 3 3)

-- ---- hostile bytes: the input with a number of four bytes, or a byte, replaced at a place

abbrev pub with_bytes : ℕ → List ℕ → Result Initial InputFault
with_bytes at new = read (take at input ++ new ++ drop (at + length new) input)

abbrev pub with_number : ℕ → ℕ → Result Initial InputFault
with_number at n = with_bytes at (four_bytes n)

pub record HostileBytes : Type 0 where
  pub not_cdf : with_bytes 0 (0x44 ∷ []) ≡ refused (kind.Cdf cdf.NotCdf)
  pub version : with_bytes 3 (5 ∷ []) ≡ refused (kind.Cdf cdf.Version)
  pub streaming : with_number 4 0xFFFFFFFF ≡ refused (kind.Cdf cdf.Streaming)
  pub no_records : with_number 4 0 ≡ refused kind.WrongShape
  pub dimensions_tag : with_number 8 0x0000000B ≡ refused (kind.Cdf (cdf.BadTag 8))
  pub dimensions_count : with_number 12 0x80000000 ≡ refused (kind.Cdf (cdf.Overlong 12))
  pub second_record_dimension : with_number 44 0 ≡ refused (kind.Cdf (cdf.BadDim 44))
  pub attributes_count : with_number 168 0x7FFFFFFF ≡ refused (kind.Cdf (cdf.Truncated 436))
  pub other_name : with_bytes 220 (0x5A ∷ []) ≡ refused kind.NoVariable
  pub other_length : with_number 228 3 ≡ refused kind.WrongShape
  pub record_dimension_later : with_number 232 0 ≡ refused (kind.Cdf (cdf.BadDim 232))
  pub no_such_dimension : with_number 236 9 ≡ refused (kind.Cdf (cdf.BadDim 236))
  pub variable_type : with_number 368 7 ≡ refused (kind.Cdf (cdf.BadType 368))
  pub far_begin : with_number 376 0x7FFFFFFF ≡ refused (kind.Truncated 436)
  pub other_time : with_bytes 380 (0x33 ∷ []) ≡ refused kind.WrongTime

-- ---- a restart at 00:02 of a run that began at 00:00, with a restart file of these attributes

abbrev pub restart_time : List ℕ
restart_time = codes "2000-01-01_00:02:00"

abbrev pub restarted : Plan
restarted = record plan {
  fields = record (case_field (codes "a") (codes "A")) { restart = true } ∷ [];
  start = restart_time;
  restart = true;
}

abbrev pub with_atts : Header → List Att → Header
with_atts h atts = record h { atts = atts }

abbrev pub restart_bytes : List Att → List ℕ
restart_bytes atts =
    header_bytes (placed (with_atts (one_record (file_header restarted 1 10 case_start 0)) atts))
    ++ padded restart_time ++ slab_bytes (case_values 37 100 3 3)

abbrev pub restart_file : List ℕ
restart_file = codes "wrfrst_d01_2000-01-01_00:02:00"

abbrev pub resume : List Att → Result Initial InputFault
resume atts = input_of (with_file no_files restart_file (restart_bytes atts)) restarted

abbrev pub restart_refused : InputKind → Result Initial InputFault
restart_refused k = Err (record { file = restart_file; kind = k })

abbrev pub start_att : Att
start_att = text_att (codes "START_DATE") case_start

abbrev pub two_steps : Att
two_steps =
    record { name = codes "STEPS"; kind = 4; count = 2; bytes = four_bytes 2 ++ four_bytes 2 }

pub record RestartInput : Type 0 where
  pub resumed : resume (start_att ∷ int_att (codes "STEPS") 2 ∷ [])
      ≡ Ok (record {
        grids = (case_values 37 100 3 3 ∷ []) ∷ [];
        begins = record { steps = 2; start_text = case_start; resumed = true } ∷ [];
      })
  -- the start and three steps lead past the restart's time
  pub other_steps : resume (start_att ∷ int_att (codes "STEPS") 3 ∷ [])
      ≡ restart_refused kind.WrongTime
  pub steps_twice : resume (start_att ∷ two_steps ∷ []) ≡ restart_refused kind.WrongAttribute
  pub no_start : resume (int_att (codes "STEPS") 2 ∷ []) ≡ restart_refused kind.WrongAttribute
  pub missing : input_of no_files restarted ≡ restart_refused kind.Missing
