-- The worked cases of namelists, computed.
use Rattle.std.specs.Prelude.{refl}
use Rattle.wf_model.specs.NamelistTokens.{namelist_tokens, scan, quoted}
use Rattle.wf_model.specs.Namelist.{namelist_of, groups, group_items, values, last_items}
use Rattle.wf_cases.specs.NamelistCases.{NamelistKinds, NamelistValues}

pub namelist_kinds : NamelistKinds
unfolding namelist_of namelist_tokens scan quoted groups group_items values last_items
namelist_kinds = record {
  no_group = refl;
  open_at_the_end = refl;
  open_with_a_line_feed = refl;
  open_at_a_group = refl;
  open_text = refl;
  two_commas = refl;
  no_value = refl;
  repeated_nothing = refl;
  subscript = refl;
  bare_word = refl;
  too_often = refl;
  only_a_point = refl;
  past_128_bits = refl;
}

pub namelist_values : NamelistValues
unfolding namelist_of namelist_tokens scan quoted groups group_items values last_items
namelist_values = record { numbers = refl; logicals = refl; texts = refl; repeated = refl; comments = refl; last_counts = refl }
