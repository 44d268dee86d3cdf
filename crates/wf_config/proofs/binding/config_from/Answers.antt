use Rattle.std.proofs.Common.{map, ap, ap₂, ◌∙◌}
use Rattle.std.specs.List.{filter, flat_map}
use Rattle.wf_config.specs.declared.active.Sort.TheVariants as sort
use Rattle.wf_config.specs.Active.{is_active_in, is_of_sort, listings, pair_of}
use Rattle.wf_config.proofs.Actives.{config_is}
use Rattle.wf_config.proofs.binding.config_from.Goals as goal

pub returns : goal.returns
returns c =
    config_is c.args.registry.now c.args.values.items (map pair_of c.in_ok-listings.listings.items) c.from_vec.result c.from_vec-2.result c.from_vec-3.result c.from_vec-4.result c.from_vec-5.result
    c.from_vec.ensures
    (c.from_vec-2.ensures ∙ c.in_ok-entries_of_sort.ensures ∙ ap (filter (is_of_sort sort.Dimspec)) c.as_slice-entries.ensures)
    (c.in_ok-listings.ensures ∙ ap₂ (λ v es. flat_map (listings v) es) c.as_slice.ensures.value c.as_slice-entries.ensures)
    (c.from_vec-3.ensures ∙ c.in_ok-fields.ensures ∙ ap₂ (λ ls es. filter (is_active_in (map pair_of ls)) es) c.as_slice-2.ensures.value c.as_slice-entries.ensures)
    (c.from_vec-4.ensures ∙ c.in_ok-entries_of_sort-2.ensures ∙ ap (filter (is_of_sort sort.Halo)) c.as_slice-entries.ensures)
    (c.from_vec-5.ensures ∙ c.in_ok-entries_of_sort-3.ensures ∙ ap (filter (is_of_sort sort.Period)) c.as_slice-entries.ensures)
