-- The levels of a field, by what they share.
use Rattle.std.proofs.Common.{◌≡◌, ◌∙◌, sym, ap, ap₂, refl, ℕ, suc, ◌+◌, ◌-◌, ◌<◌, ◌≤◌, add-one, append_assoc, drop, drop-cons, take, get_or, List, [], ◌∷◌, ◌++◌, Bool, true, false, length, arith, codes, map}
use Rattle.std.specs.Prelude.{◌==◌, ℤ, unsigned_abs, flat_map, slice_index, if◌then◌else◌}
use Rattle.std.specs.List.{enumerate_from}
use Rattle.std.proofs.lemmas.List.{append-nil, drop_all, take_more}
use Rattle.std.proofs.lemmas.Grind.{flat_map-append}
use Rattle.wf_model.specs.declared.config.Config.{Config}
use Rattle.wf_model.specs.declared.plan.Field.{Field}
use Rattle.wf_model.specs.declared.registry.Entry.{Entry}
use Rattle.wf_model.specs.declared.registry.Entry.TheVariants as entry
use Rattle.wf_model.specs.declared.table.HookName.{HookName}
use Rattle.wf_model.specs.Letters.{Text}
use Rattle.wf_model.specs.Entries.{is_two, suffixed, variable_of, level_names, entry_levels}
use Rattle.wf_model.specs.Io.{io_of, parts_of}
use Rattle.wf_model.specs.PlanFields.{dataset_of, dimspec_of, entry_extents, fields_from, has_letter, last_letter, level_field, shown, z_extent, z_letter}
use Rattle.wf_plan_fields.specs.declared.field_levels.Common.{Common}
use Rattle.wf_plan_fields.specs.LevelFields.{IsShape, extents_of, held_by, level_of, levels_of}

-- the first item and those behind it
drop_at : {A : Type 0} (xs : List A) (i : ℕ) (x : A) → i < length xs → x ≡ get_or xs i x → drop i xs ≡ x ∷ drop (i + 1) xs
drop_at xs i x within is = drop-cons xs i x within ∙ ap (λ y. y ∷ drop (suc i) xs) (sym is) ∙ rw add-one refl

-- a level by its place among these names
abbrev at : (Text → ℕ → Bool → Field) → ℕ → List Text → ℕ × Text → List Field
at make first names level = make level.1 (first + (length names - 1 - level.0)) (level.0 + 1 == length names) ∷ []

abbrev names_if : Bool → Text → List Text
names_if two symbol = if two then suffixed symbol else symbol ∷ []

levels_by : (make : Text → ℕ → Bool → Field) (first : ℕ) (symbol : Text) (two : Bool)
    → (if two then make (symbol ++ codes "_1") (first + 1) false ∷ make (symbol ++ codes "_2") first true ∷ [] else make symbol first true ∷ [])
    ≡ flat_map (at make first (names_if two symbol)) (enumerate_from 0 (names_if two symbol))
levels_by make first symbol true =
    let e : first ≡ first + 0 = omega arith in
    ap (λ p. make (symbol ++ codes "_1") (first + 1) false ∷ make (symbol ++ codes "_2") p true ∷ []) e
levels_by make first symbol false =
    let e : first ≡ first + 0 = omega arith in
    ap (λ p. make symbol p true ∷ []) e

extents_by : (z : ℤ) (symbol : Text) (two : Bool) → (if two then z ∷ z ∷ [] else z ∷ []) ≡ map (λ name. z) (names_if two symbol)
extents_by z symbol true = refl
extents_by z symbol false = refl

-- what a field's levels share is what its columns say
pub record IsShared (config : Config) (hooks : List HookName) (symbol dims stagger io dname description units : Text) (c : Common) : Type 0 where
  pub dname_is : c.dname.now ≡ variable_of symbol dname
  pub shape_is : IsShape config dims stagger c.shape
  pub held_is : c.held ≡ held_by hooks (parts_of (io_of io))
  pub description_is : c.description.now ≡ shown description
  pub units_is : c.units.now ≡ shown units

module _ (config : Config) (hooks : List HookName) (kind symbol dims levels stagger io dname description units : Text) where
  make : Text → ℕ → Bool → Field
  make name pair last = record {
    name = name;
    dname = variable_of symbol dname;
    pair = pair;
    last = last;
    z = length dims == 3;
    nz = unsigned_abs (z_extent config dims stagger);
    stag_x = has_letter 88 stagger;
    stag_y = has_letter 89 stagger;
    stag_z = has_letter 90 stagger;
    input = (held_by hooks (parts_of (io_of io))).input;
    restart = (held_by hooks (parts_of (io_of io))).restart;
    streams = (held_by hooks (parts_of (io_of io))).streams;
    up = (held_by hooks (parts_of (io_of io))).up;
    down = (held_by hooks (parts_of (io_of io))).down;
    edge = (held_by hooks (parts_of (io_of io))).edge;
    x_name = dataset_of (dimspec_of config (slice_index dims 0));
    y_name = dataset_of (dimspec_of config (last_letter dims));
    z_name = if length dims == 3 then dataset_of (dimspec_of config (z_letter dims)) else [];
    description = shown description;
    units = shown units;
  }

  made : (c : Common) → IsShared config hooks symbol dims stagger io dname description units c → level_of c ≡ make
  unfolding make
  made c s = λ i name pair last. record {
    name = name;
    dname = s.dname_is i;
    pair = pair;
    last = last;
    z = s.shape_is.z i;
    nz = unsigned_abs (s.shape_is.extent i);
    stag_x = s.shape_is.stag_x i;
    stag_y = s.shape_is.stag_y i;
    stag_z = s.shape_is.stag_z i;
    input = (s.held_is i).input;
    restart = (s.held_is i).restart;
    streams = (s.held_is i).streams;
    up = (s.held_is i).up;
    down = (s.held_is i).down;
    edge = (s.held_is i).edge;
    x_name = s.shape_is.x_name i;
    y_name = s.shape_is.y_name i;
    z_name = s.shape_is.z_name i;
    description = s.description_is i;
    units = s.units_is i;
  }

  -- the levels by what they share
  pub fields_are : (c : Common) (first : ℕ) (two : Bool) → IsShared config hooks symbol dims stagger io dname description units c → two ≡ is_two levels
      → levels_of c symbol first two ≡ flat_map (level_field config hooks (entry.State kind symbol dims levels stagger io dname description units) first) (enumerate_from 0 (level_names symbol levels))
  unfolding make
  fields_are c first two shared is =
      ap (λ (m : Text → ℕ → Bool → Field). if two then m (symbol ++ codes "_1") (first + 1) false ∷ m (symbol ++ codes "_2") first true ∷ [] else m symbol first true ∷ []) (made c shared)
      ∙ ap (λ t. if t then make (symbol ++ codes "_1") (first + 1) false ∷ make (symbol ++ codes "_2") first true ∷ [] else make symbol first true ∷ []) is
      ∙ levels_by make first symbol (is_two levels)

  pub extents_are : (c : Common) (two : Bool) → IsShared config hooks symbol dims stagger io dname description units c → two ≡ is_two levels
      → extents_of c two ≡ entry_extents config (entry.State kind symbol dims levels stagger io dname description units)
  extents_are c two shared is =
      ap (λ z. if two then z ∷ z ∷ [] else z ∷ []) shared.shape_is.extent
      ∙ ap (λ t. if t then z_extent config dims stagger ∷ z_extent config dims stagger ∷ [] else z_extent config dims stagger ∷ []) is
      ∙ extents_by (z_extent config dims stagger) symbol (is_two levels)

-- ---- a turn of the loop

-- one entry more
pub fields_more : (config : Config) (hooks : List HookName) (front more total : List Field) (entries : List Entry) (i first end : ℕ) (x : Entry)
    → i < length entries → x ≡ get_or entries i x → end ≡ first + length (entry_levels x)
    → more ≡ front ++ flat_map (level_field config hooks x first) (enumerate_from 0 (entry_levels x))
    → front ++ fields_from config hooks first (drop i entries) ≡ total → more ++ fields_from config hooks end (drop (i + 1) entries) ≡ total
unfolding fields_from
fields_more config hooks front more total entries i first end x within is next made so_far =
    let these = flat_map (level_field config hooks x first) (enumerate_from 0 (entry_levels x)) in
    ap₂ (λ r n. r ++ fields_from config hooks n (drop (i + 1) entries)) made next
    ∙ append_assoc front these (fields_from config hooks (first + length (entry_levels x)) (drop (i + 1) entries))
    ∙ ap (λ es. front ++ fields_from config hooks first es) (sym (drop_at entries i x within is))
    ∙ so_far

-- all entries were seen
pub fields_all : (config : Config) (hooks : List HookName) (front total : List Field) (entries : List Entry) (i first : ℕ) → length entries ≤ i
    → front ++ fields_from config hooks first (drop i entries) ≡ total → front ≡ total
unfolding fields_from
fields_all config hooks front total entries i first end so_far =
    sym (append-nil front) ∙ ap (λ es. front ++ fields_from config hooks first es) (sym (drop_all i entries end)) ∙ so_far

-- the extents of one entry more
pub extents_more : (config : Config) (made : List ℤ) (entries : List Entry) (i : ℕ) (x : Entry) → i < length entries → x ≡ get_or entries i x
    → made ≡ flat_map (entry_extents config) (take i entries) → made ++ entry_extents config x ≡ flat_map (entry_extents config) (take (i + 1) entries)
extents_more config made entries i x within is so_far =
    ap₂ (λ r e. r ++ e) so_far (ap (entry_extents config) is ∙ sym (append-nil (entry_extents config (get_or entries i x))))
    ∙ sym (flat_map-append (entry_extents config) (take i entries) (get_or entries i x ∷ []))
    ∙ ap (flat_map (entry_extents config)) (sym (take_more entries i x within))
