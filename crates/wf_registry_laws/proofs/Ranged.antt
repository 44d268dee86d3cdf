-- The levels of a sound config are in their ranges.
use Rattle.std.proofs.Common.{◌≡◌, ◌⊎◌, ⊎_elim, ℕ, ◌+◌, ◌-◌, ◌^◌, ◌<◌, ◌≤◌, Bool, true, false, cond, List, [], ◌∷◌, ◌++◌, map, length, get_or, Some, refl, sym, subst, eqb, eq-eqb, arith}
use Rattle.std.specs.Prelude.{◌||◌, flat_map, All, IsTrue, IsFalse, ℤ, pos, ◌≤ℤ◌, unsigned_abs, if◌then◌else◌, codes, find, sum_by, slice_index}
use Rattle.std.specs.List.{AllByRecursion, list_any, range_with_len}
use Rattle.std.proofs.lemmas.Bool.{false≢true, true_from_ne_false, both_ways, eqb-true}
use Rattle.std.proofs.lemmas.Int.{ints}
use Rattle.std.proofs.lemmas.List.Concat.{flat_map-cons}
use Rattle.std.proofs.lemmas.List.Elements.{All-from_recursion, recursion_from_All}
use Rattle.std.proofs.lemmas.List.Folds.{list_all_at}
use Rattle.std.proofs.lemmas.List.Sums.{sum_by-le-sum_by}
use Rattle.wf_model.specs.declared.registry.Entry.{Entry}
use Rattle.wf_model.specs.declared.registry.Entry.TheVariants.{Dimspec, State, Rconfig, Package, Halo, Period}
use Rattle.wf_model.specs.declared.config.Config.{Config}
use Rattle.wf_model.specs.declared.plan.Field.{Field}
use Rattle.wf_model.specs.declared.table.HookName.{HookName}
use Rattle.wf_model.specs.Letters.{Text, is_name, is_dash}
use Rattle.wf_model.specs.Entries.{dimspecs, is_entry, find_entry, entry_levels, level_names, suffixed, is_two}
use Rattle.wf_model.specs.Io.{io_of, parts_of, output_streams}
use Rattle.wf_model.specs.Judging.{is_known, all_known}
use Rattle.wf_model.specs.Ranges.{Within, most_levels, IsRangedField}
use Rattle.wf_model.specs.PlanFields.{dataset_of, dimspec_of, z_letter, z_extent, has_letter, stream_bits, fields_from, entry_extents, z_extents}
use Rattle.wf_registry_laws.specs.ConfigLaws.{IsSoundDimension, IsActive, IsSoundField}
use Rattle.wf_registry_laws.specs.FieldLaws.{IsRangedExtent, LevelsAreRanged}
use Rattle.wf_registry_laws.proofs.Names.{is_name-append}
use Rattle.wf_registry_laws.proofs.Distinct.{each-append, each-left, each-right}
use Rattle.wf_registry_laws.proofs.Shapes.{made, all_made, common, own_levels, by_levels}

-- ---- numbers

absolute : (z : ℤ) → IsRangedExtent z → Within 1 most_levels (unsigned_abs z)
absolute z h =
    let low : pos 1 ≤ℤ z = h.low in
    let high : z ≤ℤ pos most_levels = h.high in
    (omega (arith, ints), omega (arith, ints))

one_bit : (listed : Bool) (s : ℕ) → (if listed then 2 ^ s else 0) ≤ 2 ^ s
one_bit true s = omega arith
one_bit false s = omega arith

bits_below : (streams : List ℕ) → stream_bits streams < 2 ^ 10
bits_below streams =
    let most : stream_bits streams ≤ sum_by (λ s. 2 ^ s) (range_with_len 0 10) =
    sum_by-le-sum_by (λ s. if has_letter s streams then 2 ^ s else 0) (λ s. 2 ^ s) (range_with_len 0 10) (λ s. one_bit (has_letter s streams) s) in
    omega arith

flat : (three : Bool) (z : ℤ) → IsFalse three → unsigned_abs (if three then z else pos 1) ≡ 1
flat false z h = refl
flat true z h = absurd (false≢true (sym h))

shown_short : (dash : Bool) (word : Text) → length word ≤ 256 → length (if dash then [] else word) ≤ 256
shown_short true word h = omega arith
shown_short false word h = h

-- ---- datasets

dataset_named : (e : Entry) → IsSoundDimension e → is_name (dataset_of (Some e)) ≡ true
dataset_named (Dimspec letter how axis dataset) s = s.named
dataset_named (State kind symbol dims levels stagger io dname description units) s = absurd s
dataset_named (Rconfig kind symbol how entries default) s = absurd s
dataset_named (Package name symbol value list) s = absurd s
dataset_named (Halo name groups) s = absurd s
dataset_named (Period name groups) s = absurd s

found_named : (name : Text) (es : List Entry) → AllByRecursion IsSoundDimension es → list_any (is_entry dimspecs name) es ≡ true → is_name (dataset_of (find_entry dimspecs name es)) ≡ true
found_named name [] all e = absurd (false≢true e)
found_named name (x ∷ xs) all e = by (is_entry dimspecs name x) (found_named name xs all.1) e
  where
    by : (b : Bool) → (list_any (is_entry dimspecs name) xs ≡ true → is_name (dataset_of (find_entry dimspecs name xs)) ≡ true) → (b || list_any (is_entry dimspecs name) xs) ≡ true
        → is_name (dataset_of (cond b (Some x) (find (is_entry dimspecs name) xs))) ≡ true
    by true rest h = dataset_named x all.0
    by false rest h = rest h

letter_known : (es : List Entry) (dims : Text) (k : ℕ) → all_known es dims ≡ true → k < length dims → is_known es (get_or dims k 0) ≡ true
letter_known es dims k known within =
    true_from_ne_false (is_known es (get_or dims k 0)) (λ no. both_ways (all_known es dims) (list_all_at (is_known es) dims k 0 within no) known)

letter_named : (config : Config) (dims : Text) (k : ℕ) → All IsSoundDimension config.dims → all_known config.dims dims ≡ true → k < length dims
    → is_name (dataset_of (dimspec_of config (get_or dims k 0))) ≡ true
letter_named config dims k sound known within =
    found_named (get_or dims k 0 ∷ []) config.dims (recursion_from_All IsSoundDimension config.dims sound) (letter_known config.dims dims k known within)

-- the letter of z, where there is one
z_named : (config : Config) (dims : Text) → All IsSoundDimension config.dims → all_known config.dims dims ≡ true → eqb (length dims) 3 ≡ true
    → is_name (if eqb (length dims) 3 then dataset_of (dimspec_of config (z_letter dims)) else []) ≡ true
z_named config dims sound known three =
    let within : 1 < length dims = (let n : length dims ≡ 3 = eqb-true (length dims) 3 three in omega arith) in
    by (eqb (length dims) 3) three (letter_named config dims 1 sound known within)
  where
    by : (b : Bool) → b ≡ true → is_name (dataset_of (dimspec_of config (get_or dims 1 0))) ≡ true → is_name (if b then dataset_of (dimspec_of config (if b then slice_index dims 1 else 0)) else []) ≡ true
    by true h named = named
    by false h named = absurd (false≢true h)

-- ---- names of levels

names_by : (two : Bool) (symbol : Text) → is_name symbol ≡ true → (two ≡ true → length symbol ≤ 62) → AllByRecursion (λ n. IsTrue (is_name n)) (if two then suffixed symbol else symbol ∷ [])
names_by true symbol h short =
    let few : length symbol ≤ 62 = short refl in
    (is_name-append symbol (codes "_1") h refl (omega arith), (is_name-append symbol (codes "_2") h refl (omega arith), tt))
names_by false symbol h short = (h, tt)

-- ---- one level

count_at_least : (n : ℕ) → (n ≡ 2) ⊎ (n ≡ 3) → 2 ≤ n
count_at_least n h = ⊎_elim (λ e. omega arith) (λ e. omega arith) h

level_is_ranged : (config : Config) (hooks : List HookName) (kind symbol dims levels stagger io dname description units : Text) → IsActive config.dims kind symbol dims levels stagger io dname description units
    → All IsSoundDimension config.dims → IsRangedExtent (z_extent config dims stagger) → (names : List Text) (first : ℕ) (level : ℕ × Text) → is_name level.1 ≡ true
    → IsRangedField (made (common config hooks (State kind symbol dims levels stagger io dname description units)) names first level)
level_is_ranged config hooks kind symbol dims levels stagger io dname description units active sound extent names first level named =
    let columns = active.columns in
    let some : 2 ≤ length dims = count_at_least (length dims) columns.count in
    record {
      name = named;
      dname = columns.variable;
      nz = absolute (z_extent config dims stagger) extent;
      flat = λ h. flat (eqb (length dims) 3) _ h;
      stag_z = λ h. eq-eqb (length dims) 3 (columns.high h);
      streams = bits_below (flat_map output_streams (parts_of (io_of io)));
      x_name = letter_named config dims 0 sound columns.known (omega arith);
      y_name = letter_named config dims (length dims - 1) sound columns.known (omega arith);
      z_name = λ h. z_named config dims sound columns.known h;
      description = shown_short (is_dash description) description columns.described;
      units = shown_short (is_dash units) units columns.unit;
    }

-- ---- the levels of an entry

abbrev AreRanged : List Field → Type 0
AreRanged fs = AllByRecursion IsRangedField fs

made_ranged : (f : Field) (first : ℕ) (symbol levels : Text) → ((names : List Text) (level : ℕ × Text) → is_name level.1 ≡ true → IsRangedField (made f names first level))
    → AllByRecursion (λ n. IsTrue (is_name n)) (level_names symbol levels) → AreRanged (all_made f (level_names symbol levels) first)
made_ranged f first symbol levels each =
    by_levels (λ names. AllByRecursion (λ n. IsTrue (is_name n)) names → AreRanged (all_made f names first)) symbol levels
    (λ a b named. (each (a ∷ b ∷ []) (0, a) named.0, (each (a ∷ b ∷ []) (1, b) named.1.0, tt)))
    (λ a named. (each (a ∷ []) (0, a) named.0, tt))

-- one of its extents is the extent
own_extent : (symbol levels : Text) (z : ℤ) → AllByRecursion IsRangedExtent (map (λ name. z) (level_names symbol levels)) → IsRangedExtent z
own_extent symbol levels z = by_levels (λ names. AllByRecursion IsRangedExtent (map (λ name. z) names) → IsRangedExtent z) symbol levels (λ a b h. h.0) (λ a h. h.0)

own_ranged : (config : Config) (hooks : List HookName) (e : Entry) (first : ℕ) → All IsSoundDimension config.dims → IsSoundField config.dims e → AllByRecursion IsRangedExtent (entry_extents config e) → AreRanged (own_levels config hooks e first)
own_ranged config hooks (State kind symbol dims levels stagger io dname description units) first sound active extents =
    let e = State kind symbol dims levels stagger io dname description units in
    let extent = own_extent symbol levels (z_extent config dims stagger) extents in
    made_ranged (common config hooks e) first symbol levels
    (λ names level named. level_is_ranged config hooks kind symbol dims levels stagger io dname description units active sound extent names first level named)
    (names_by (is_two levels) symbol active.named active.columns.short)
own_ranged config hooks (Dimspec letter how axis dataset) first sound active extents = absurd active
own_ranged config hooks (Rconfig kind symbol how entries default) first sound active extents = absurd active
own_ranged config hooks (Package name symbol value list) first sound active extents = absurd active
own_ranged config hooks (Halo name groups) first sound active extents = absurd active
own_ranged config hooks (Period name groups) first sound active extents = absurd active

-- ---- all levels

all_ranged : (config : Config) (hooks : List HookName) (first : ℕ) (es : List Entry) → All IsSoundDimension config.dims → AllByRecursion (IsSoundField config.dims) es
    → AllByRecursion IsRangedExtent (flat_map (entry_extents config) es) → AreRanged (fields_from config hooks first es)
unfolding fields_from
all_ranged config hooks first [] sound active extents = tt
all_ranged config hooks first (e ∷ es) sound active extents =
    let parted : AllByRecursion IsRangedExtent (entry_extents config e ++ flat_map (entry_extents config) es) = subst (λ zs. AllByRecursion IsRangedExtent zs) (flat_map-cons (entry_extents config) e es) extents in
    each-append IsRangedField (own_levels config hooks e first) (fields_from config hooks (first + length (entry_levels e)) es)
    (own_ranged config hooks e first sound active.0 (each-left IsRangedExtent (entry_extents config e) (flat_map (entry_extents config) es) parted))
    (all_ranged config hooks (first + length (entry_levels e)) es sound active.1 (each-right IsRangedExtent (entry_extents config e) (flat_map (entry_extents config) es) parted))

pub levels_are_ranged : LevelsAreRanged
levels_are_ranged config hooks sound extents =
    All-from_recursion IsRangedField (fields_from config hooks 0 config.fields)
    (all_ranged config hooks 0 config.fields sound.dims (recursion_from_All (IsSoundField config.dims) config.fields sound.fields) (recursion_from_All IsRangedExtent (z_extents config) extents))
