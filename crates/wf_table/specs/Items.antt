-- The grammar of items in the parts that its reader takes.
use Rattle.std.specs.Prelude.{ℕ, Bool, false, List, Ok, codes}
use Rattle.std.specs.Str.{bytes_eq}
use Rattle.wf_model.specs.declared.plan.Item.{Item}
use Rattle.wf_model.specs.declared.plan.Item.TheVariants as item
use Rattle.wf_model.specs.declared.table.Names.{Names}
use Rattle.wf_model.specs.Reading.{◌>>=◌}
use Rattle.wf_model.specs.Letters.{Text}
use Rattle.wf_model.specs.Tokens.{Reader, expect, past}
use Rattle.wf_model.specs.ExprText.{Tree, whole_expr}
use Rattle.wf_model.specs.TableNames.{level}
use Rattle.wf_model.specs.Table.{extend, levels, margins, phase_name}
use Rattle.wf_table.specs.declared.item.Extent.{Extent}

-- NAME `writes` LEVEL
unfoldable pub target_of : Names → List Item → Reader (Text × ℕ)
target_of names before at =
    phase_name before at >>= λ name.
    expect (codes "writes") name.1 >>= λ a.
    level names a >>= λ f.
    Ok ((name.0, f.0), f.1)

-- [margin] [levels] [extend] =
unfoldable pub extent_of : Reader Extent
extent_of at =
    margins at >>= λ m.
    levels m.1 >>= λ l.
    extend l.1 >>= λ x.
    expect (codes "=") x.1 >>= λ a.
    Ok (record { mx = (m.0).0; my = (m.0).1; from = (l.0).0; to = (l.0).1; extend = x.0 }, a)

-- the phase of these parts
abbrev pub phase_made : Text × ℕ → Extent → Tree → Item
phase_made t x tree = item.Phase (record {
  name = t.0;
  writes = t.1;
  mx = x.mx;
  my = x.my;
  from = x.from;
  to = x.to;
  extend = x.extend;
  expr = tree.expr;
})

-- a phase
unfoldable pub phase_at : Names → List Item → Reader Item
phase_at names before at =
    target_of names before (past at) >>= λ t.
    extent_of t.1 >>= λ x.
    whole_expr names x.1 >>= λ tree.
    Ok (phase_made t.0 x.0 tree.0, tree.1)

-- the item is a phase of this name
abbrev pub is_named : Text → Item → Bool
is_named name (item.Phase ph) = bytes_eq name ph.name
is_named name other = false
