-- Tokens, and where reading stands, as the grammar sees them.
use Rattle.std.specs.Prelude.{map}
use Rattle.wf_model.specs.declared.table.Token.{Token}
use Rattle.wf_model.specs.Tokens.{At}
use Rattle.wf_table.specs.declared.place.Place.{Place}
use Rattle.wf_table.specs.declared.place.Token.{Token as Read}

abbrev pub token_of : Read → Token
token_of t = record { text = t.text.now; column = t.column }

abbrev pub at_of : Place → At
at_of p = record { tokens = map token_of p.tokens.now; nodes = p.nodes }
