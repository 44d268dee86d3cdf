-- The kind that a line's kind stands for.
use Rattle.std.specs.Prelude.{List, [], ◌∷◌, codes}
use Rattle.wf_model.specs.Letters.{Text}
use Rattle.wf_model.specs.Entries.{Kind, dimspecs, states, rconfigs, packages, halos, periods}
use Rattle.wf_model.specs.Entries.{left_out, no_kind}
use Rattle.wf_registry_columns.specs.declared.kinds.LineKind.{LineKind}
use Rattle.wf_registry_columns.specs.declared.kinds.LineKind.TheVariants as line

abbrev pub kind_seen : LineKind → Kind
kind_seen line.Dimspec = dimspecs
kind_seen line.State = states
kind_seen line.Rconfig = rconfigs
kind_seen line.Package = packages
kind_seen line.Halo = halos
kind_seen line.Period = periods
kind_seen line.LeftOut = left_out
kind_seen line.Unknown = no_kind

-- kinds that WRF has and that are left out here
abbrev pub left_out_names : List (Text × Kind)
left_out_names =
    (codes "typedef", left_out) ∷ (codes "i1", left_out) ∷ (codes "xpose", left_out)
    ∷ (codes "define", left_out) ∷ (codes "ifndef", left_out) ∷ []
