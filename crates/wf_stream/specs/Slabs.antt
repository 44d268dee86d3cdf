-- Which faults the variables of an input file have, kind by kind.
use Rattle.std.specs.Prelude.{ℕ, true, List, ◌∷◌, map, filter, Result, Ok, Err}
use Rattle.std.specs.List.{list_any, range_with_len}
use Rattle.wf_model.specs.declared.header.Header.{Header}
use Rattle.wf_model.specs.declared.plan.Plan.{Plan}
use Rattle.wf_model.specs.declared.cdf_error.SlabError.{SlabError}
use Rattle.wf_model.specs.declared.cdf_error.SlabError.TheVariants as slab
use Rattle.wf_model.specs.InputOf.{slab_read, is_no_variable, is_wrong_type, is_wrong_shape}
use Rattle.wf_model.specs.InputOf.{is_truncated, times, level_asked, is_input}
use Rattle.wf_stream.specs.declared.slabs.SlabFaults.{SlabFaults}

-- with those of one variable more
abbrev pub with_slab : SlabFaults → Result (List ℕ) SlabError → SlabFaults
with_slab faults (Ok bs) = faults
with_slab faults (Err slab.NoVariable) = record faults { no_variable = true }
with_slab faults (Err slab.WrongType) = record faults { wrong_type = true }
with_slab faults (Err slab.WrongShape) = record faults { wrong_shape = true }
with_slab faults (Err (slab.Truncated at)) = record faults { truncated = true }

-- of all of these
abbrev pub faults_of : List (Result (List ℕ) SlabError) → SlabFaults
faults_of slabs = record {
  no_variable = list_any is_no_variable slabs;
  wrong_type = list_any is_wrong_type slabs;
  wrong_shape = list_any is_wrong_shape slabs;
  truncated = list_any is_truncated slabs;
}

-- `Times` and the variables of the first n levels, where an input file gives them
unfoldable pub slabs_up_to : Plan → ℕ → ℕ → List ℕ → Header → List (Result (List ℕ) SlabError)
slabs_up_to plan d n bytes h = map (slab_read bytes h)
    (times ∷ map (level_asked plan d 0) (filter (is_input plan) (range_with_len 0 n)))
