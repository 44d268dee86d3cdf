-- What stands at a place of an item's values, one turn of their loop.
use Rattle.std.specs.Prelude.{Bool, false, not, List, [], ◌∷◌, Result, Ok, is_some, drop}
use Rattle.std.specs.Prelude.{if◌then◌else◌}
use Rattle.wf_model.specs.declared.namelist.Value.{Value}
use Rattle.wf_model.specs.declared.namelist.NamelistFault.{NamelistFault}
use Rattle.wf_model.specs.declared.namelist.NamelistKind.TheVariants.{UnclosedGroup, NullValue}
use Rattle.wf_model.specs.Letters.{Text}
use Rattle.wf_model.specs.Namelist.{Tokens, Found, Item, here, is_comma, is_outside, is_slash}
use Rattle.wf_model.specs.Namelist.{item_name, named_item, refuse, values_here}
use Rattle.wf_model.specs.Reading.{◌>>=◌}
use Rattle.wf_namelist.specs.declared.item.Turn.{Turn}
use Rattle.wf_namelist.specs.declared.item.Turn.TheVariants as turns

-- the end of the values, a comma, or values and the tokens behind them
pub data Seen : Type 0 where
  ends : Seen
  comma : Seen
  found : List Value × Tokens → Seen

abbrev pub seen : Tokens → Turn → Seen
seen ts turns.Ends = ends
seen ts turns.Comma = comma
seen ts (turns.Found vs next) = found (vs.items, drop next ts)

-- a value stands last among the values so far, and no comma after them
abbrev pub is_behind_value : List Value → Bool → Bool
is_behind_value [] after_comma = false
is_behind_value (v ∷ vs) after_comma = not after_comma

-- what stands here, where no item's name does
abbrev pub value_or_comma : Bool → Tokens → Result Seen NamelistFault
value_or_comma behind_value ts =
    if is_comma (here ts).sort then (if behind_value then Ok comma else refuse ts NullValue)
    else (values_here (here ts).sort ts >>= λ r. Ok (found r))

-- what stands here; a comma may stand only behind a value
abbrev pub turn_at : Bool → Tokens → Result Seen NamelistFault
turn_at behind_value ts =
    if is_outside (here ts).sort then refuse ts UnclosedGroup
    else (if is_slash (here ts).sort then Ok ends
    else (item_name ts >>= λ name.
    if is_some name then Ok ends else value_or_comma behind_value ts))

-- the item that begins here
abbrev pub item_at : Text → Tokens → Found Item
item_at group ts = item_name ts >>= λ name. named_item group name ts
