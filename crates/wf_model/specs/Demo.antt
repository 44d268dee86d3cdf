-- The built-in case in words of its own: the whole grid after so many steps, the store calls of its
-- run, and its answer.
use Rattle.std.specs.Prelude.{ℕ, zero, suc, ◌+◌, ◌-◌, ◌*◌, ◌/◌, ◌%◌, ◌==◌, Bool, not, ◌&&◌, ◌||◌}
use Rattle.std.specs.Prelude.{nat_lt, nat_le, List, [], ◌∷◌, ◌++◌, length, map, flat_map, sum}
use Rattle.std.specs.Prelude.{sum_by, ℤ, pos, Option, Some, None, if◌then◌else◌, codes}
use Rattle.std.specs.Prelude.{slice_index_or}
use Rattle.std.specs.List.{range_with_len}
use Rattle.std.specs.Str.{bytes_eq}
use Rattle.wf_model.specs.declared.demo.Demo.{Demo}
use Rattle.wf_model.specs.declared.plan_fault.LayoutFault.TheVariants.{TooManyPatches}
use Rattle.wf_model.specs.Numbers.{and_then}
use Rattle.wf_model.specs.Letters.{Text, is_digits, digits_value}
use Rattle.wf_model.specs.Lines.{begins_with}
use Rattle.wf_model.specs.Plans.{up_to}
use Rattle.wf_model.specs.Grids.{listed}
use Rattle.wf_model.specs.Calendar.{time_text}
use Rattle.wf_model.specs.Bytes.{four_bytes, padded, slab_bytes, header_bytes}
use Rattle.wf_model.specs.Headers.{file_header, placed}
use Rattle.wf_model.specs.Files.{StoreCall, create, append, write_at}
use Rattle.wf_model.specs.Writes.{Summary}
use Rattle.wf_model.specs.Lockstep.{MemoryLine}
use Rattle.wf_model.specs.Refusals.{layout_refusal, line}
use Rattle.wf_model.specs.DemoCase.{case_start, demo_plan}
use Rattle.wf_model.specs.Answer.{Answer, summary_line, memory_text, how, refused}

-- ---- the whole grid

-- not at the edge
abbrev pub is_inner : ℕ → ℕ → ℕ → ℕ → Bool
is_inner nx ny j i = nat_lt 1 i && nat_lt i nx && nat_lt 1 j && nat_lt j ny

-- four times a point and its neighbours in the west, east, south and north, by eight
abbrev pub weighted : ℕ → ℕ → ℕ → ℕ → ℕ → ℕ
weighted centre west east south north = (4 * centre + west + east + south + north) / 8

-- the value in row j and column i, each from 1, after n steps
unfoldable pub demo_value : ℕ → ℕ → ℕ → ℕ → ℕ → ℕ
demo_value nx ny zero j i = (37 * (i - 1) + 53 * (j - 1)) % 100
demo_value nx ny (suc n) j i =
    if is_inner nx ny j i
    then weighted (demo_value nx ny n j i) (demo_value nx ny n j (i - 1))
    (demo_value nx ny n j (i + 1)) (demo_value nx ny n (j - 1) i) (demo_value nx ny n (j + 1) i)
    else demo_value nx ny n j i

-- its list, row by row
abbrev pub demo_grid : ℕ → ℕ → ℕ → List ℤ
demo_grid nx ny n = listed 1 ny nx (λ k j i. pos (demo_value nx ny n j i))

-- ---- the store calls

-- the one file
abbrev pub demo_file : Text
demo_file = codes "wrfout_d01_2000-01-01_00:00:00"

-- the header of its file
abbrev pub demo_header : ℕ → ℕ → ℕ → List ℕ
demo_header nx ny steps =
    header_bytes (placed (file_header (demo_plan nx ny steps) 1 0 case_start 0))

-- the time text of the frame after n steps of 60 seconds
abbrev pub demo_time : ℕ → List ℕ
demo_time n = padded (time_text case_start (60 * n))

-- the frame after n steps: its time, its grid, and the new number of records
abbrev pub demo_frame : ℕ → ℕ → ℕ → List StoreCall
demo_frame nx ny n =
    append demo_file (demo_time n) ∷ append demo_file (slab_bytes (demo_grid nx ny n))
    ∷ write_at demo_file 4 (four_bytes (n + 1)) ∷ []

-- those of the first n frames
abbrev pub demo_frames : ℕ → ℕ → ℕ → List StoreCall
demo_frames nx ny n = flat_map (demo_frame nx ny) (range_with_len 0 n)

-- a frame at the start and after each step
abbrev pub demo_calls : Demo → List StoreCall
demo_calls d = create demo_file ∷ append demo_file (demo_header d.nx d.ny d.steps)
    ∷ demo_frames d.nx d.ny (d.steps + 1)

-- ---- the text

-- the bytes of a frame, as a sum of numbers
abbrev pub frame_sum : ℕ → ℕ → ℕ → ℕ
frame_sum nx ny n = sum (demo_time n) + sum (slab_bytes (demo_grid nx ny n))

-- one file, a record at the start and after each step, and their bytes
abbrev pub demo_summary : Demo → Summary
demo_summary d = record {
  files = 1;
  records = d.steps + 1;
  bytes = (d.steps + 1) * (20 + 4 * (d.nx * d.ny));
  sum = sum_by (frame_sum d.nx d.ny) (range_with_len 0 (d.steps + 1));
}

-- the first of a patch's own columns, which are blocks of all columns, and one past its last
abbrev pub first_column : ℕ → ℕ → ℕ → ℕ
first_column nx px p = p * nx / px + 1

-- one past its last column
abbrev pub end_column : ℕ → ℕ → ℕ → ℕ
end_column nx px p = (p + 1) * nx / px + 1

-- the sum of a column after n steps
abbrev pub column_sum : ℕ → ℕ → ℕ → ℕ → ℕ
column_sum nx ny n i = sum_by (λ j. demo_value nx ny n j i) (up_to ny)

-- a column after n steps, if the domain has it
abbrev pub if_column : ℕ → ℕ → ℕ → List (ℕ × ℕ)
if_column nx n i = if nat_lt 0 i && nat_le i nx then (n, i) ∷ [] else []

-- the columns that a patch holds, each with the steps that it has behind it: its own all of them,
-- and the one beside each end one less, or none where there are none
abbrev pub held_columns : Demo → ℕ → List (ℕ × ℕ)
held_columns d p =
    let first = first_column d.nx d.px p in
    let end = end_column d.nx d.px p in
    if_column d.nx (d.steps - 1) (first - 1) ++ map (λ i. (d.steps, i))
    (range_with_len first (end - first)) ++ if_column d.nx (d.steps - 1) end

-- a patch's line: its cells and their sum
abbrev pub demo_memory : Demo → ℕ → MemoryLine
demo_memory d p = record {
  domain = 1;
  patch = p;
  cells = length (held_columns d p) * d.ny;
  sum = pos (sum_by (λ c. column_sum d.nx d.ny c.0 c.1) (held_columns d p));
}

-- the lines of all patches
abbrev pub demo_memories : Demo → List MemoryLine
demo_memories d = map (demo_memory d) (range_with_len 0 d.px)

-- ---- the words

-- 1 to 4 digits, and no zero before another digit
abbrev pub is_word_number : Text → Bool
is_word_number word =
    is_digits word && nat_le (length word) 4 && (not (begins_with 48 word) || (length word == 1))

-- a number from `low` to `high`
abbrev pub word_number : ℕ → ℕ → Text → Option ℕ
word_number low high word =
    if is_word_number word && nat_le low (digits_value word) && nat_le (digits_value word) high
    then Some (digits_value word) else None

-- the word at a place, counted from 0
abbrev pub word_at : List Text → ℕ → Text
word_at words n = slice_index_or words n []

-- points in x and in y, steps, patches, and whether each patch has a line
abbrev pub demo_numbers : Text → Text → Text → Text → Bool → Option Demo
demo_numbers x y n p each =
    and_then (word_number 1 200 x) λ nx.
    and_then (word_number 1 200 y) λ ny.
    and_then (word_number 0 100 n) λ steps.
    and_then (word_number 1 256 p) λ px.
    Some (record { nx = nx; ny = ny; steps = steps; px = px; each = each })

-- the demo that the words ask for
unfoldable pub demo_of : List Text → Option Demo
demo_of words =
    if bytes_eq (word_at words 0) (codes "demo") && ((length words == 5)
    || ((length words == 6) && bytes_eq (word_at words 5) (codes "--memory")))
    then demo_numbers (word_at words 1) (word_at words 2) (word_at words 3) (word_at words 4)
    (length words == 6)
    else None

-- ---- the answer

-- the answer to any other words
abbrev pub usage : Answer
usage = record { status = 1; text = line (codes "usage: wrftool COMMAND [WORDS]" ∷ []); calls = [] }

-- more patches than columns are refused
unfoldable pub demo_answer : Demo → Answer
demo_answer d =
    if nat_lt d.nx d.px then refused (layout_refusal (TooManyPatches 1 d.px))
    else record {
      status = 0;
      text = summary_line (demo_summary d) ++ memory_text (how d.each) (demo_memories d);
      calls = demo_calls d;
    }

-- the answer to a demo that is asked for, or else the usage
abbrev pub asked_answer : Option Demo → Answer
asked_answer None = usage
asked_answer (Some d) = demo_answer d

-- of any words
unfoldable pub tool_answer : List Text → Answer
tool_answer words = asked_answer (demo_of words)
