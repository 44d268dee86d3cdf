-- The group that begins at a token.
use Rattle.std.specs.Prelude.{Bool, true, List, length, Option, Some, None, Result, Ok}
use Rattle.wf_model.specs.declared.namelist.NamelistFault.{NamelistFault}
use Rattle.wf_model.specs.declared.namelist.NamelistKind.TheVariants.{NoGroup}
use Rattle.wf_model.specs.declared.namelist.NamelistToken.{NamelistToken}
use Rattle.wf_model.specs.declared.namelist.Sort.{Sort}
use Rattle.wf_model.specs.declared.namelist.Sort.TheVariants as sort
use Rattle.wf_model.specs.Letters.{is_name}
use Rattle.wf_model.specs.Namelist.{Item, Tokens, group_items, here, refuse, rest}
use Rattle.wf_model.specs.Reading.{◌>>=◌}

-- what begins a group has a name
abbrev pub has_name : Sort → Bool
has_name (sort.GroupBegins name) = is_name name
has_name other = true

abbrev pub is_named : NamelistToken → Bool
is_named t = has_name t.sort

abbrev pub group_of : Sort → Tokens → Result (Option (List Item × Tokens)) NamelistFault
group_of (sort.GroupBegins name) ts = group_items (length ts) name (rest ts) >>= λ is. Ok (Some is)
group_of sort.NoName ts = refuse ts NoGroup
group_of other ts = Ok None

-- the items of the group that begins here, and the tokens behind it; none where no group begins
abbrev pub group_at : Tokens → Result (Option (List Item × Tokens)) NamelistFault
group_at ts = group_of (here ts).sort ts
