-- What is counted of a plan before anything is read: cells, items of the script, bytes of
-- files, events.
use Rattle.std.specs.Prelude.{ℕ, ◌+◌, ◌-◌, ◌*◌, ◌/◌, ◌==◌, false, ◌&&◌, nat_lt, min, List, []}
use Rattle.std.specs.Prelude.{length, map, sum_by, pos, if◌then◌else◌, slice_index}
use Rattle.wf_model.specs.declared.plan.Plan.{Plan}
use Rattle.wf_model.specs.declared.initial.Begin.{Begin}
use Rattle.wf_model.specs.declared.script.Act.{Act}
use Rattle.wf_model.specs.declared.script.Act.TheVariants.{Emit}
use Rattle.wf_model.specs.declared.script.Entry.{Entry}
use Rattle.wf_model.specs.Plans.{domain_of, domains_of, levels_of, nx, ny, nz}
use Rattle.wf_model.specs.Script.{script_of, not_before, restart_stream}
use Rattle.wf_model.specs.Outcome.{RunData}
use Rattle.wf_model.specs.Streams.{stream_levels, frames_per_file}
use Rattle.wf_model.specs.Headers.{file_header}
use Rattle.wf_model.specs.Sizes.{file_size}
use Rattle.wf_model.specs.Patches.{Split, patches_of, memory_box, size_of}
use Rattle.wf_model.specs.Halves.{halves_of, emit_halves}

-- ---- cells

-- the points of a level
abbrev pub own_cells : Plan → ℕ → ℕ → ℕ
own_cells plan d f = nz plan f * (ny plan d f * nx plan d f)

-- of all whole domains and levels
abbrev pub all_cells : Plan → ℕ
all_cells plan = sum_by (λ d. sum_by (own_cells plan d) (levels_of plan)) (domains_of plan)

-- the cells of a patch's memory of a level
abbrev pub level_memory : Plan → Split → ℕ → ℕ → ℕ → ℕ
level_memory plan split d patch f =
    let b = memory_box plan split d patch f in nz plan f * (size_of b.y * size_of b.x)

-- of the memories of all patches
abbrev pub memory_cells : Plan → Split → ℕ
memory_cells plan split =
    sum_by (λ d. sum_by (λ p. sum_by (level_memory plan split d p) (levels_of plan))
    (patches_of split)) (domains_of plan)

-- ---- the script, where no domain resumes and each domain's steps begin at 0

abbrev pub fresh_begin : Begin
fresh_begin = record { steps = 0; start_text = []; resumed = false }

-- no domain resumes
abbrev pub fresh_begins : Plan → List Begin
fresh_begins plan = map (λ d. fresh_begin) (domains_of plan)

unfoldable pub fresh_script : Plan → List Entry
fresh_script plan = script_of plan (fresh_begins plan)

-- where a run is a restart and writes restart files, one more of each domain
abbrev pub more_restarts : Plan → ℕ
more_restarts plan = if plan.restart && nat_lt 0 plan.restart_steps then length plan.domains else 0

abbrev pub script_items : Plan → ℕ
script_items plan = length (fresh_script plan) + more_restarts plan

-- ---- files

-- the steps of a domain within the run
abbrev pub own_steps : Plan → ℕ → ℕ
own_steps plan d = (plan.steps * (domain_of plan 1).seconds - not_before (domain_of plan d).begins)
    / (domain_of plan d).seconds

-- how many of them are due
abbrev pub due_steps : ℕ → ℕ → ℕ
due_steps interval steps = if interval == 0 then 0 else steps / interval

-- the lesser of what a file takes and one more than the due steps
abbrev pub file_records : Plan → ℕ → ℕ → ℕ
file_records plan d stream =
    if stream == restart_stream then 1
    else min (frames_per_file plan d stream)
    (1 + due_steps (slice_index (domain_of plan d).intervals stream) (own_steps plan d))

-- the size of a file of a stream
abbrev pub stream_bytes : Plan → ℕ → ℕ → ℕ
stream_bytes plan d stream =
    file_size (file_header plan d stream plan.start 0) (file_records plan d stream)

-- ---- events: of each patch its halves, of each piece a gathering, and of each frame a writing

abbrev pub fresh_run : Plan → RunData
fresh_run plan = record {
  plan = plan;
  initial = record { grids = []; begins = fresh_begins plan };
  answers = λ id xs. pos 0;
}

-- of a frame: a gathering for each piece, and its writing
abbrev pub frame_events : Plan → ℕ → ℕ → ℕ
frame_events plan patches stream = length (stream_levels plan stream) * patches + 1

-- what the patches do of one more frame, and the frame
abbrev pub more_events : Plan → ℕ → ℕ → ℕ
more_events plan patches stream =
    length (emit_halves (stream_levels plan stream)) * patches + frame_events plan patches stream

abbrev pub emit_events : Plan → ℕ → Act → ℕ
emit_events plan patches (Emit stream) = frame_events plan patches stream
emit_events plan patches other = 0

-- the events of a full run in which nothing overflows
abbrev pub all_events : Plan → Split → ℕ
all_events plan split =
    let patches = split.in_x * split.in_y in
    sum_by (λ d. length (halves_of (fresh_run plan) d) * patches) (domains_of plan)
    + sum_by (λ (e : Entry). emit_events plan patches e.act) (fresh_script plan)
    + more_restarts plan * more_events plan patches restart_stream
