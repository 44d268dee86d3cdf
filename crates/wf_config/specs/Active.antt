-- The symbols that packages list, one by one.
use Rattle.std.specs.Prelude.{ℤ, Bool, false, not, ◌&&◌, ◌||◌, List, [], flat_map, map}
use Rattle.std.specs.List.{list_any}
use Rattle.std.specs.Str.{bytes_eq}
use Rattle.wf_model.specs.declared.registry.Entry.{Entry}
use Rattle.wf_model.specs.declared.registry.Entry.TheVariants as entry
use Rattle.wf_model.specs.Letters.{Text, lower}
use Rattle.wf_model.specs.Groups.{groups_of, names_in}
use Rattle.wf_model.specs.Config.{Values, first_int, is_int, is_dimspec, is_halo, is_period}
use Rattle.wf_model.specs.Config.{values_of}
use Rattle.wf_config.specs.declared.active.Listing.{Listing}
use Rattle.wf_config.specs.declared.active.Sort.{Sort}
use Rattle.wf_config.specs.declared.active.Sort.TheVariants as sort

-- a symbol, and whether the package that lists it holds
abbrev pub Listed : Type 0
Listed = Text × Bool

abbrev pub pair_of : Listing → Listed
pair_of l = (l.symbol, l.holds)

-- a package of this name and value holds
abbrev pub holds : Values → Text → ℤ → Bool
holds values by value = is_int value (first_int (values_of values by))

abbrev pub group_listings : Bool → Text → List Listed
group_listings test group = map (λ name. (lower name, test)) (names_in group)

-- what an entry lists
abbrev pub listings : Values → Entry → List Listed
listings values (entry.Package name by value list) =
    flat_map (group_listings (holds values by value)) (groups_of list)
listings values other = []

abbrev pub is_listing : Text → Listed → Bool
is_listing symbol l = bytes_eq l.0 symbol

-- none of these lists the symbol, or one that does holds
abbrev pub active_in : List Listed → Text → Bool
active_in ls symbol =
    not (list_any (is_listing symbol) ls) || list_any (λ l. is_listing symbol l && l.1) ls

abbrev pub is_active_in : List Listed → Entry → Bool
is_active_in ls (entry.State kind symbol dims levels stagger io dname description units) =
    active_in ls symbol
is_active_in ls other = false

abbrev pub is_of_sort : Sort → Entry → Bool
is_of_sort sort.Dimspec e = is_dimspec e
is_of_sort sort.Halo e = is_halo e
is_of_sort sort.Period e = is_period e
