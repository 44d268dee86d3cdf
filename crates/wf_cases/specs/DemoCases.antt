-- The demo on 3 by 3 points, one step: its grid, the bytes of its file, its summary and
-- its memories.
use Rattle.std.specs.Prelude.{ℕ, ◌≡◌, true, List, [], ◌∷◌, ◌++◌, flat_map, length, pos, Some, None}
use Rattle.std.specs.Prelude.{codes}
use Rattle.wf_model.specs.declared.demo.Demo.{Demo}
use Rattle.wf_model.specs.Outcome.{RunData, grids_at}
use Rattle.wf_model.specs.Grids.{level_list}
use Rattle.wf_model.specs.Bytes.{four_bytes, header_bytes}
use Rattle.wf_model.specs.Headers.{file_header, placed}
use Rattle.wf_model.specs.Files.{files_after}
use Rattle.wf_model.specs.Writes.{writes_of, summary_of}
use Rattle.wf_model.specs.DemoCase.{case_start, demo_plan, demo_initial}
use Rattle.wf_model.specs.Demo.{demo_file, demo_of, demo_memories, demo_summary}
use Rattle.wf_cases.specs.Texts.{no_files}

abbrev pub run : RunData
run = record { plan = demo_plan 3 3 1; initial = demo_initial 3 3; answers = λ id xs. pos 0 }

-- the file, as numbers of four bytes each: the header, and the two records
abbrev pub header_words : ℕ → List ℕ
header_words numrecs =
    0x43444601 ∷ numrecs ∷ 0x0000000a ∷ 0x00000004 ∷
    0x00000004 ∷ 0x54696d65 ∷ 0x00000000 ∷
    0x0000000a ∷ 0x44617465 ∷ 0x5374724c ∷ 0x656e0000 ∷ 0x00000013 ∷
    0x00000009 ∷ 0x77657374 ∷ 0x5f656173 ∷ 0x74000000 ∷ 0x00000003 ∷
    0x0000000b ∷ 0x736f7574 ∷ 0x685f6e6f ∷ 0x72746800 ∷ 0x00000003 ∷
    0x0000000c ∷ 0x00000002 ∷
    0x0000000a ∷ 0x53544152 ∷ 0x545f4441 ∷ 0x54450000 ∷ 0x00000002 ∷ 0x00000013 ∷
    0x32303030 ∷ 0x2d30312d ∷ 0x30315f30 ∷ 0x303a3030 ∷ 0x3a303000 ∷
    0x00000007 ∷ 0x47524944 ∷ 0x5f494400 ∷ 0x00000004 ∷ 0x00000001 ∷ 0x00000001 ∷
    0x0000000b ∷ 0x00000002 ∷
    0x00000005 ∷ 0x54696d65 ∷ 0x73000000 ∷ 0x00000002 ∷ 0x00000000 ∷ 0x00000001 ∷
    0x00000000 ∷ 0x00000000 ∷ 0x00000002 ∷ 0x00000014 ∷ 0x0000017c ∷
    0x00000001 ∷ 0x54000000 ∷ 0x00000003 ∷ 0x00000000 ∷ 0x00000003 ∷ 0x00000002 ∷
    0x0000000c ∷ 0x00000005 ∷
    0x00000009 ∷ 0x4669656c ∷ 0x64547970 ∷ 0x65000000 ∷ 0x00000004 ∷ 0x00000001 ∷ 0x0000006a ∷
    0x0000000b ∷ 0x4d656d6f ∷ 0x72794f72 ∷ 0x64657200 ∷ 0x00000002 ∷ 0x00000003 ∷ 0x58592000 ∷
    0x0000000b ∷ 0x64657363 ∷ 0x72697074 ∷ 0x696f6e00 ∷ 0x00000002 ∷ 0x00000000 ∷
    0x00000005 ∷ 0x756e6974 ∷ 0x73000000 ∷ 0x00000002 ∷ 0x00000000 ∷
    0x00000007 ∷ 0x73746167 ∷ 0x67657200 ∷ 0x00000002 ∷ 0x00000000 ∷
    0x00000004 ∷ 0x00000024 ∷ 0x00000190 ∷ []

abbrev pub record_words : List ℕ
record_words =
    0x32303030 ∷ 0x2d30312d ∷ 0x30315f30 ∷ 0x303a3030 ∷ 0x3a303000 ∷
    0x00000000 ∷ 0x00000025 ∷ 0x0000004a ∷ 0x00000035 ∷ 0x0000005a ∷ 0x0000001b ∷ 0x00000006 ∷
    0x0000002b ∷ 0x00000050 ∷
    0x32303030 ∷ 0x2d30312d ∷ 0x30315f30 ∷ 0x303a3031 ∷ 0x3a303000 ∷
    0x00000000 ∷ 0x00000025 ∷ 0x0000004a ∷ 0x00000035 ∷ 0x00000041 ∷ 0x0000001b ∷ 0x00000006 ∷
    0x0000002b ∷ 0x00000050 ∷ []

abbrev pub bytes : List ℕ → List ℕ
bytes words = flat_map four_bytes words

pub record DemoOnePatch : Type 0 where
  -- the centre 90 becomes (4*90 + 53 + 27 + 37 + 43) div 8
  pub grid : level_list run.plan 1 0 (grids_at run 3)
      ≡ pos 0 ∷ pos 37 ∷ pos 74 ∷ pos 53 ∷ pos 65 ∷ pos 27 ∷ pos 6 ∷ pos 43 ∷ pos 80 ∷ []
  pub header : header_bytes (placed (file_header run.plan 1 0 case_start 0))
      ≡ bytes (header_words 0)
  pub calls : length (writes_of run) ≡ 8
  pub whole_file : files_after no_files (writes_of run) 8 demo_file
      ≡ Some (bytes (header_words 2 ++ record_words))
  pub summary : summary_of run ≡ record { files = 1; records = 2; bytes = 112; sum = 2750 }
  pub file_size : length (bytes (header_words 2 ++ record_words)) ≡ 492

-- ---- the demo in words of its own

abbrev pub asked : ℕ → Demo
asked px = record { nx = 3; ny = 3; steps = 1; px = px; each = true }

pub record DemoInItsOwnWords : Type 0 where
  pub words : demo_of (codes "demo" ∷ codes "3" ∷ codes "3" ∷ codes "1" ∷ codes "3"
      ∷ codes "--memory" ∷ []) ≡ Some (asked 3)
  pub too_few_words : demo_of (codes "demo" ∷ codes "3" ∷ codes "3" ∷ []) ≡ None
  pub leading_zero : demo_of
      (codes "demo" ∷ codes "03" ∷ codes "3" ∷ codes "1" ∷ codes "1" ∷ []) ≡ None
  pub out_of_range : demo_of
      (codes "demo" ∷ codes "201" ∷ codes "3" ∷ codes "1" ∷ codes "1" ∷ []) ≡ None
  pub summary : demo_summary (asked 1) ≡ record { files = 1; records = 2; bytes = 112; sum = 2750 }
  pub one_patch : demo_memories (asked 1)
      ≡ record { domain = 1; patch = 0; cells = 9; sum = pos 385 } ∷ []
  -- the outer patches keep the stale 90 beside their ends
  pub three_patches : demo_memories (asked 3) ≡
      record { domain = 1; patch = 0; cells = 6; sum = pos 229 }
      ∷ record { domain = 1; patch = 1; cells = 9; sum = pos 385 }
      ∷ record { domain = 1; patch = 2; cells = 6; sum = pos 351 } ∷ []
