-- What the rules of the code stand for.
use Rattle.std.specs.Prelude.{ℕ, ℤ, pos, Bool, not, ◌&&◌, nat_lt, List, length, filter, map, Option}
use Rattle.std.specs.Prelude.{Some, None, is_some, if◌then◌else◌}
use Rattle.std.specs.List.{enumerate_from, list_all, list_any}
use Rattle.std.specs.Str.{bytes_eq}
use Rattle.wf_model.specs.declared.namelist.Value.{Value}
use Rattle.wf_model.specs.declared.namelist.Value.TheVariants.{Int}
use Rattle.wf_model.specs.declared.config.ConfigFault.{ConfigFault}
use Rattle.wf_model.specs.declared.config.ConfigFault.TheVariants.{WrongType, UnknownItem, TooMany}
use Rattle.wf_model.specs.Reading.{fault_if, first_fault}
use Rattle.wf_model.specs.Letters.{Text, is_dash, is_name}
use Rattle.wf_model.specs.ValueForms.{whole_value}
use Rattle.wf_model.specs.Namelist.{Item}
use Rattle.wf_model.specs.Config.{is_judged, is_of, out_of_range, rule_named, same_type}
use Rattle.wf_model.specs.Config.{with_default}
use Rattle.wf_model.specs.BuiltIns.{ValueType, an_integer, a_real, a_logical, a_character, NameRule}
use Rattle.wf_model.specs.BuiltIns.{row, words, to, minus_one_or, any, no, most_values}
use Rattle.wf_model.specs.BuiltIns.{first_domain_only}
use Rattle.wf_config.specs.declared.rule.ValueKind.{ValueKind}
use Rattle.wf_config.specs.declared.rule.ValueKind.TheVariants as kind
use Rattle.wf_config.specs.declared.rule.Range.{Range}
use Rattle.wf_config.specs.declared.rule.Range.TheVariants as range
use Rattle.wf_config.specs.declared.rule.DefaultValue.{DefaultValue}
use Rattle.wf_config.specs.declared.rule.DefaultValue.TheVariants as default
use Rattle.wf_config.specs.declared.rule.Rule.{Rule}
use Rattle.wf_config.specs.declared.built_ins.Row.{Row}
use Rattle.wf_config.specs.declared.built_ins.RowDefault.{RowDefault}
use Rattle.wf_config.specs.declared.built_ins.RowDefault.TheVariants as row_default

abbrev pub type_of_kind : ValueKind → ValueType
type_of_kind kind.Integer = an_integer
type_of_kind kind.Real = a_real
type_of_kind kind.Logical = a_logical
type_of_kind kind.Character = a_character

abbrev pub allowed_in : Range → ℤ → Bool
allowed_in range.Any = any
allowed_in (range.Between low high) = to low high
allowed_in (range.MinusOneOr low high) = minus_one_or (to low high)

-- by domain
abbrev pub default_in : DefaultValue → ℕ → Value
default_in default.FirstDomainOnly = first_domain_only
default_in (default.Always v) = λ d. v

-- what a name is held to
abbrev pub rule_of : Rule → NameRule
rule_of r = record {
  name = r.name;
  group = r.group;
  type = type_of_kind r.kind;
  each = r.each;
  most = r.most;
  default = default_in r.default;
  allowed = allowed_in r.range;
}

abbrev pub has_name : Text → Rule → Bool
has_name name r = bytes_eq r.name name

abbrev pub row_default_in : RowDefault → ℕ → Value
row_default_in (row_default.Int n) = λ d. Int n
row_default_in row_default.No = no
row_default_in row_default.FirstDomainOnly = first_domain_only

-- the rule of a name of a row
abbrev pub row_rule : Row → List ℕ → NameRule
row_rule r n = record {
  name = n;
  group = r.group.now;
  type = type_of_kind r.kind;
  each = r.each;
  most = if r.each then most_values else 1;
  default = row_default_in r.default;
  allowed = allowed_in r.range;
}

-- the rules of a row's names
abbrev pub row_of : Row → List NameRule
row_of r = row (words r.names.now) r.group.now r.each (type_of_kind r.kind)
    (row_default_in r.default) (allowed_in r.range)

-- ---- the Registry's names

-- `-` is 0
abbrev pub whole_default : Text → Value
whole_default word = if is_dash word then Int (pos 0) else Int (whole_value word)

-- rules with the default of the first of these declared rules that has their name
abbrev pub with_defaults : List NameRule → List NameRule → List NameRule
with_defaults declared rules =
    map (λ (b : NameRule). with_default (rule_named declared b.name) b) rules

-- the declared rules of which no name has a rule
abbrev pub others : List NameRule → List NameRule → List NameRule
others rules declared = filter (λ (r : NameRule). not (is_some (rule_named rules r.name))) declared

-- its words are names
abbrev pub has_names : Row → Bool
has_names r = list_all is_name (words r.names.now)

abbrev pub has_group : Text → Rule → Bool
has_group group r = bytes_eq r.group group

-- some name of the group has a rule
abbrev pub knows_group : List NameRule → Text → Bool
knows_group rules group = list_any (λ (r : NameRule). bytes_eq r.group group) rules

-- how many values a name has at least
abbrev pub wanted : ℕ → NameRule → ℕ
wanted domains r = if r.each then domains else 1

-- ---- faults

-- a rule of the same name, but of another group or type
abbrev pub contradicts : NameRule → NameRule → Bool
contradicts r b =
    bytes_eq b.name r.name && not (bytes_eq b.group r.group && same_type b.type r.type)

abbrev pub wrong_rule_in : List NameRule → NameRule → Option ConfigFault
wrong_rule_in rules r = fault_if (list_any (contradicts r) rules) (WrongType r.name)

-- a value that is judged and out of range
abbrev pub judged_fault : ℤ → NameRule → ℕ × Value → Option ConfigFault
judged_fault domains r p = if is_judged domains r p then out_of_range r p.1 else None

-- what is wrong with an item that has this rule
abbrev pub known_fault : ℤ → Item → NameRule → Option ConfigFault
known_fault domains i r =
    if bytes_eq r.group i.0
    then (if list_all (is_of r.type) i.2
    then (if nat_lt r.most (length i.2) then Some (TooMany i.1)
    else first_fault (map (judged_fault domains r) (enumerate_from 1 i.2)))
    else Some (WrongType i.1))
    else Some (UnknownItem i.1)
