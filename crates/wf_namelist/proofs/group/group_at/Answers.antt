use Rattle.std.proofs.Common.{◌∙◌, ap, sym}
use Rattle.wf_namelist.specs.Groups.{has_name}
use Rattle.wf_namelist.proofs.NamedGroups.{named_at}
use Rattle.wf_namelist.proofs.group.group_at.Goals as goal

pub named_group-requires : goal.named_group-requires
named_group-requires c =
    rw c.as_slice.ensures (sym (ap has_name (sym c.in-Some-GroupBegins.ensures ∙ c.in-Some-GroupBegins.field-0-is)) ∙ named_at c.args.at c.args.tokens.now c.requires)
