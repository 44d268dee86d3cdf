-- The worked cases of input and restart files, computed.
use Rattle.std.specs.Prelude.{refl}
use Rattle.wf_model.specs.Bytes.{header_bytes, slab_bytes}
use Rattle.wf_model.specs.Headers.{file_header, placed, dims_of}
use Rattle.wf_model.specs.CdfRead.{header_at, header_from}
use Rattle.wf_model.specs.Plans.{domain_of, field_of}
use Rattle.wf_model.specs.Streams.{stream_levels}
use Rattle.wf_model.specs.Calendar.{time_text, days_after, next_day}
use Rattle.wf_model.specs.Dates.{days_before}
use Rattle.wf_model.specs.Grids.{listed, grid_from}
use Rattle.wf_model.specs.InputOf.{input_of}
use Rattle.wf_model.specs.GenCase.{case_input}
use Rattle.wf_cases.specs.InputCases.{CutInput, HostileBytes, RestartInput}

pub cut_input : CutInput
unfolding case_input file_header dims_of placed header_bytes stream_levels domain_of field_of slab_bytes listed input_of header_at header_from time_text days_after next_day grid_from
cut_input = record { size = refl; whole = refl; cut = refl; cut_in_the_header = refl; missing = refl; moved_data = refl }

pub hostile_bytes : HostileBytes
unfolding case_input file_header dims_of placed header_bytes stream_levels domain_of field_of slab_bytes listed input_of header_at header_from time_text days_after next_day grid_from
hostile_bytes = record {
  not_cdf = refl;
  version = refl;
  streaming = refl;
  no_records = refl;
  dimensions_tag = refl;
  dimensions_count = refl;
  second_record_dimension = refl;
  attributes_count = refl;
  other_name = refl;
  other_length = refl;
  record_dimension_later = refl;
  no_such_dimension = refl;
  variable_type = refl;
  far_begin = refl;
  other_time = refl;
}

pub restart_input : RestartInput
unfolding file_header dims_of placed header_bytes stream_levels domain_of field_of slab_bytes listed input_of header_at header_from time_text days_after next_day grid_from days_before
restart_input = record { resumed = refl; other_steps = refl; steps_twice = refl; no_start = refl; missing = refl }
