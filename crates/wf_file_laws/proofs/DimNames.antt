-- In files the names of dimensions tell them apart: each is the name of a dimspec's dataset, staggered or not.
use Rattle.std.proofs.Common.{◌≡◌, inl, inr, ⊎_elim, ℕ, ◌+◌, ◌-◌, ◌<◌, ◌≤◌, Bool, true, false, List, [], ◌∷◌, map, length, get_or, Option, Some, refl, sym, ap, ◌∙◌, subst, length-append, codes, arith}
use Rattle.std.specs.Prelude.{◌||◌, ◌==◌, flat_map, All, Contains, pos, ◌+ℤ◌, unsigned_abs, slice_index, if◌then◌else◌}
use Rattle.std.specs.List.{AllByRecursion}
use Rattle.std.specs.Str.{bytes_eq}
use Rattle.std.proofs.lemmas.Bool.{false≢true, true_from_ne_false, both_ways, eqb-true}
use Rattle.std.proofs.lemmas.List.Folds.{list_all_at}
use Rattle.std.proofs.lemmas.List.Elements.{All-from_recursion, All-get_or, recursion_from_All}
use Rattle.std.proofs.lemmas.Slice.Eq.{bytes_eq-Decides}
use Rattle.wf_model.specs.declared.registry.Entry.{Entry}
use Rattle.wf_model.specs.declared.registry.Entry.TheVariants.{Dimspec, State, Rconfig, Package, Halo, Period}
use Rattle.wf_model.specs.declared.config.Config.{Config}
use Rattle.wf_model.specs.declared.header.Dim.{Dim}
use Rattle.wf_model.specs.declared.plan.Field.{Field}
use Rattle.wf_model.specs.declared.plan.Plan.{Plan}
use Rattle.wf_model.specs.declared.table.HookName.{HookName}
use Rattle.wf_model.specs.Letters.{Text, is_among, share}
use Rattle.wf_model.specs.Entries.{dimspecs, is_entry, entry_levels, entry_datasets, axis, axis_of}
use Rattle.wf_model.specs.Judging.{is_known, all_known, is_in_order, taken_datasets}
use Rattle.wf_model.specs.Headers.{dim_name, dim_x, dim_y, dim_z, dims_of_level}
use Rattle.wf_model.specs.Plans.{domain_of, field_of, no_field}
use Rattle.wf_model.specs.PlanFields.{dataset_of, dimspec_of, extent_of, has_letter, fields_from}
use Rattle.wf_model.specs.Sound.{IsLevel}
use Rattle.wf_model.specs.Streams.{one_if, stream_levels}
use Rattle.wf_laws.proofs.Members.{In, In-flat_map, Contains-In, list_any-In, In-list_any, find-In, find-Some, All-In}
use Rattle.wf_cdf.proofs.LevelLoops.{levels_within}
use Rattle.wf_registry_laws.specs.RegistryLaws.{AreDistinct}
use Rattle.wf_registry_laws.specs.ConfigLaws.{IsSoundDimension, IsActive, IsSoundField}
use Rattle.wf_file_laws.specs.FileNames.{PlansHaveFileNames}
use Rattle.wf_registry_laws.proofs.Tests.{same_text}
use Rattle.wf_registry_laws.proofs.Distinct.{each-append, distinct_right, distinct_apart}
use Rattle.wf_registry_laws.proofs.Shapes.{made, all_made, common, own_levels, by_levels}
use Rattle.wf_registry_laws.proofs.FileNames.{file_variables_are_distinct}

-- ---- the dimspecs of a field's letters

-- a dimspec of this axis and dataset
pub record IsAlong (config : Config) (ax : ℕ) (name : Text) : Type 0 where
  pub entry : Entry
  pub among : In entry config.dims
  pub along : axis (Some entry) ≡ ax
  pub is : name ≡ dataset_of (Some entry)

-- in z it tells the extent too
pub record IsUp (config : Config) (x : Field) : Type 0 where
  pub up : IsAlong config 122 x.z_name
  pub extent : x.nz ≡ unsigned_abs (extent_of config (Some up.entry) +ℤ pos (if x.stag_z then 1 else 0))

pub record HasDims (config : Config) (x : Field) : Type 0 where
  pub in_x : IsAlong config 120 x.x_name
  pub in_y : IsAlong config 121 x.y_name
  pub in_z : x.z ≡ true → IsUp config x

-- the dimspec that is found for a letter
pub record IsFor (config : Config) (letter : ℕ) : Type 0 where
  pub entry : Entry
  pub among : In entry config.dims
  pub found : dimspec_of config letter ≡ Some entry

entry_for : (config : Config) (letter : ℕ) → is_known config.dims letter ≡ true → IsFor config letter
entry_for config letter known =
    let some = In-list_any (is_entry dimspecs (letter ∷ [])) config.dims known in
    let first = find-In (is_entry dimspecs (letter ∷ [])) some.0 config.dims some.1 some.2 in
    record { entry = first.0; among = (find-Some (is_entry dimspecs (letter ∷ [])) first.0 config.dims first.1).0; found = first.1 }

-- axes in order
pub record AreAxes (axes : ℕ → ℕ) (dims : Text) : Type 0 where
  pub some : 2 ≤ length dims
  pub first : axes (get_or dims 0 0) ≡ 120
  pub last : axes (get_or dims (length dims - 1) 0) ≡ 121
  pub middle : length dims ≡ 3 → axes (get_or dims 1 0) ≡ 122

two_axes : (axes : ℕ → ℕ) (dims : Text) → map axes dims ≡ 120 ∷ 121 ∷ [] → AreAxes axes dims
two_axes axes [] e = absurd (cc)
two_axes axes (a ∷ []) e = absurd (cc)
two_axes axes (a ∷ b ∷ []) e = record { some = omega arith; first = cc; last = cc; middle = λ h. absurd (omega (arith, h)) }
two_axes axes (a ∷ b ∷ c ∷ cs) e = absurd (cc)

three_axes : (axes : ℕ → ℕ) (dims : Text) → map axes dims ≡ 120 ∷ 122 ∷ 121 ∷ [] → AreAxes axes dims
three_axes axes [] e = absurd (cc)
three_axes axes (a ∷ []) e = absurd (cc)
three_axes axes (a ∷ b ∷ []) e = absurd (cc)
three_axes axes (a ∷ b ∷ c ∷ []) e = record { some = omega arith; first = cc; last = cc; middle = λ h. cc }
three_axes axes (a ∷ b ∷ c ∷ d ∷ cs) e = absurd (cc)

axes_are : (es : List Entry) (dims : Text) → is_in_order es dims ≡ true → AreAxes (axis_of es) dims
axes_are es dims h = of (bytes_eq (map (axis_of es) dims) (120 ∷ 121 ∷ [])) refl h
  where
    of : (b : Bool) → bytes_eq (map (axis_of es) dims) (120 ∷ 121 ∷ []) ≡ b → (b || bytes_eq (map (axis_of es) dims) (120 ∷ 122 ∷ 121 ∷ [])) ≡ true → AreAxes (axis_of es) dims
    of true e k = two_axes (axis_of es) dims (same_text (map (axis_of es) dims) (120 ∷ 121 ∷ []) e)
    of false e k = three_axes (axis_of es) dims (same_text (map (axis_of es) dims) (120 ∷ 122 ∷ 121 ∷ []) k)

-- each letter of known ones has a dimspec
letter_for : (config : Config) (dims : Text) (k : ℕ) → all_known config.dims dims ≡ true → k < length dims → IsFor config (get_or dims k 0)
letter_for config dims k known within =
    entry_for config (get_or dims k 0)
    (true_from_ne_false (is_known config.dims (get_or dims k 0))
    (λ no. both_ways (all_known config.dims dims) (list_all_at (is_known config.dims) dims k 0 within no) known))

-- a letter's dimspec has its axis and gives its name
along : (config : Config) (dims : Text) (k ax : ℕ) → all_known config.dims dims ≡ true → k < length dims → axis_of config.dims (get_or dims k 0) ≡ ax → IsAlong config ax (dataset_of (dimspec_of config (get_or dims k 0)))
along config dims k ax known within is =
    let own : IsFor config (get_or dims k 0) = letter_for config dims k known within in
    record { entry = own.entry; among = own.among; along = ap axis (sym own.found) ∙ is; is = ap dataset_of own.found }

level_has : (config : Config) (hooks : List HookName) (kind symbol dims levels stagger io dname description units : Text) → IsActive config.dims kind symbol dims levels stagger io dname description units
    → HasDims config (common config hooks (State kind symbol dims levels stagger io dname description units))
level_has config hooks kind symbol dims levels stagger io dname description units active = record {
  in_x = along config dims 0 120 known (let some = axes.some in omega (arith, some)) axes.first;
  in_y = along config dims (length dims - 1) 121 known (let some = axes.some in omega (arith, some)) axes.last;
  in_z = up_is;
}
  where
    known : all_known config.dims dims ≡ true
    known = (active.columns).known

    axes : AreAxes (axis_of config.dims) dims
    axes = axes_are config.dims dims (active.columns).ordered

    up_is : (length dims == 3) ≡ true → IsUp config (common config hooks (State kind symbol dims levels stagger io dname description units))
    up_is three =
        let three_letters : length dims ≡ 3 = eqb-true (length dims) 3 three in
        let own : IsFor config (get_or dims 1 0) = letter_for config dims 1 known (omega (arith, three_letters)) in
        record {
          up = record {
            entry = own.entry;
            among = own.among;
            along = ap axis (sym own.found) ∙ axes.middle three_letters;
            is = (λ i. if three i then dataset_of (dimspec_of config (if three i then slice_index dims 1 else 0)) else []) ∙ ap dataset_of own.found;
          };
          extent = (λ i. unsigned_abs (if three i then extent_of config (dimspec_of config (if three i then slice_index dims 1 else 0)) +ℤ pos (if has_letter 90 stagger then 1 else 0) else pos 1))
              ∙ ap (λ (o : Option Entry). unsigned_abs (extent_of config o +ℤ pos (if has_letter 90 stagger then 1 else 0))) own.found;
        }

-- ---- all levels

own_have : (config : Config) (hooks : List HookName) (e : Entry) (first : ℕ) → IsSoundField config.dims e → AllByRecursion (HasDims config) (own_levels config hooks e first)
own_have config hooks (State kind symbol dims levels stagger io dname description units) first active =
    let e = State kind symbol dims levels stagger io dname description units in
    let has = level_has config hooks kind symbol dims levels stagger io dname description units active in
    let each = λ (names : List Text) (level : ℕ × Text). same_dims (common config hooks e) names first level has in
    by_levels (λ names. AllByRecursion (HasDims config) (all_made (common config hooks e) names first)) symbol levels
    (λ a b. (each (a ∷ b ∷ []) (0, a), (each (a ∷ b ∷ []) (1, b), tt))) (λ a. (each (a ∷ []) (0, a), tt))
  where
    same_dims : (f : Field) (names : List Text) (first : ℕ) (level : ℕ × Text) → HasDims config f → HasDims config (made f names first level)
    same_dims f names first level has = record { in_x = has.in_x; in_y = has.in_y; in_z = λ h. record { up = (has.in_z h).up; extent = (has.in_z h).extent } }
own_have config hooks (Dimspec letter how axis dataset) first active = absurd active
own_have config hooks (Rconfig kind symbol how entries default) first active = absurd active
own_have config hooks (Package name symbol value list) first active = absurd active
own_have config hooks (Halo name groups) first active = absurd active
own_have config hooks (Period name groups) first active = absurd active

all_have : (config : Config) (hooks : List HookName) (first : ℕ) (es : List Entry) → AllByRecursion (IsSoundField config.dims) es → AllByRecursion (HasDims config) (fields_from config hooks first es)
unfolding fields_from
all_have config hooks first [] active = tt
all_have config hooks first (e ∷ es) active =
    each-append (HasDims config) (own_levels config hooks e first) (fields_from config hooks (first + length (entry_levels e)) es)
    (own_have config hooks e first active.0) (all_have config hooks (first + length (entry_levels e)) es active.1)

-- ---- names of datasets

-- no text stands in both of two lists that share none
none_shared : (us vs : List Text) (u v : Text) → share vs us ≡ false → In u us → In v vs → v ≡ u → ⊥
none_shared us vs u v apart i j e =
    false≢true (sym apart ∙ list_any-In (λ w. is_among w us) v vs j (list_any-In (bytes_eq v) u us i ((bytes_eq-Decides v u).1 e)))

-- a dimspec's own names
own_name : (e : Entry) (b : Bool) → IsSoundDimension e → In (dim_name (dataset_of (Some e)) b) (entry_datasets e)
own_name (Dimspec letter how axis dataset) true s = inr (inl refl)
own_name (Dimspec letter how axis dataset) false s = inl refl
own_name (State kind symbol dims levels stagger io dname description units) b s = absurd s
own_name (Rconfig kind symbol how entries default) b s = absurd s
own_name (Package name symbol value list) b s = absurd s
own_name (Halo name groups) b s = absurd s
own_name (Period name groups) b s = absurd s

same_stagger : (name : Text) (b c : Bool) → dim_name name b ≡ dim_name name c → b ≡ c
same_stagger name true true e = refl
same_stagger name false false e = refl
same_stagger name true false e = absurd (let same = ap length e in omega (arith, same, length-append name (codes "_stag")))
same_stagger name false true e = absurd (let same = ap length e in omega (arith, same, length-append name (codes "_stag")))

-- one name is of one dimspec
same_entry : (es : List Entry) (e k : Entry) (b c : Bool) → AllByRecursion IsSoundDimension es → AreDistinct (flat_map entry_datasets es) → In e es → In k es → dim_name (dataset_of (Some e)) b ≡ dim_name (dataset_of (Some k)) c → e ≡ k
same_entry [] e k b c sound apart i j same = absurd i
same_entry (z ∷ zs) e k b c sound apart i j same =
    ⊎_elim (λ (p : e ≡ z). ⊎_elim (λ (q : k ≡ z). p ∙ sym q) (λ q. absurd (head_and_rest e k b c p q same)) j)
    (λ p. ⊎_elim (λ (q : k ≡ z). absurd (head_and_rest k e c b q p (sym same))) (λ q. same_entry zs e k b c sound.1 (distinct_right (entry_datasets z) (flat_map entry_datasets zs) apart) p q same) j) i
  where
    head_and_rest : (u v : Entry) (b c : Bool) → u ≡ z → In v zs → dim_name (dataset_of (Some u)) b ≡ dim_name (dataset_of (Some v)) c → ⊥
    head_and_rest u v b c p q same =
        none_shared (entry_datasets z) (flat_map entry_datasets zs) (dim_name (dataset_of (Some z)) b) (dim_name (dataset_of (Some v)) c)
        (distinct_apart (entry_datasets z) (flat_map entry_datasets zs) apart) (own_name z b sound.0)
        (In-flat_map entry_datasets (dim_name (dataset_of (Some v)) c) v zs q (own_name v c (each_sound zs sound.1 q)))
        (sym same ∙ ap (λ (x : Entry). dim_name (dataset_of (Some x)) b) p)
      where
        each_sound : (es : List Entry) → AllByRecursion IsSoundDimension es → In v es → IsSoundDimension v
        each_sound es all i = All-In IsSoundDimension v es (All-from_recursion IsSoundDimension es all) i

-- ---- the dimensions of a plan's files

-- how long a dimspec's dimension is
abbrev pub dim_len : Plan → Config → ℕ → Entry → Bool → ℕ
dim_len plan config d e staggered =
    if axis (Some e) == 120 then (domain_of plan d).ide - 1 + one_if staggered
    else (if axis (Some e) == 121 then (domain_of plan d).jde - 1 + one_if staggered
    else unsigned_abs (extent_of config (Some e) +ℤ pos (if staggered then 1 else 0)))

-- a dimension of a dimspec
pub record IsDimOf (plan : Plan) (config : Config) (d : ℕ) (x : Dim) : Type 0 where
  pub entry : Entry
  pub among : In entry config.dims
  pub staggered : Bool
  pub named : x.name ≡ dim_name (dataset_of (Some entry)) staggered
  pub long : x.len ≡ dim_len plan config d entry staggered

dim_of_level : (plan : Plan) (config : Config) (d f : ℕ) (x : Dim) → HasDims config (field_of plan f) → In x (dims_of_level plan d f) → IsDimOf plan config d x
dim_of_level plan config d f x has i = ⊎_elim (λ e. subst (IsDimOf plan config d) (sym e) in_x) (λ j. ⊎_elim (λ e. subst (IsDimOf plan config d) (sym e) in_y) (λ k. in_z (field_of plan f).z refl k) j) i
  where
    in_x : IsDimOf plan config d (dim_x plan d f)
    in_x = record {
      entry = (has.in_x).entry;
      among = (has.in_x).among;
      staggered = (field_of plan f).stag_x;
      named = ap (λ name. dim_name name (field_of plan f).stag_x) (has.in_x).is;
      long = sym (ap (λ ax. if ax == 120 then (domain_of plan d).ide - 1 + one_if (field_of plan f).stag_x else (if ax == 121 then (domain_of plan d).jde - 1 + one_if (field_of plan f).stag_x
          else unsigned_abs (extent_of config (Some (has.in_x).entry) +ℤ pos (if (field_of plan f).stag_x then 1 else 0)))) (has.in_x).along);
    }

    in_y : IsDimOf plan config d (dim_y plan d f)
    in_y = record {
      entry = (has.in_y).entry;
      among = (has.in_y).among;
      staggered = (field_of plan f).stag_y;
      named = ap (λ name. dim_name name (field_of plan f).stag_y) (has.in_y).is;
      long = sym (ap (λ ax. if ax == 120 then (domain_of plan d).ide - 1 + one_if (field_of plan f).stag_y else (if ax == 121 then (domain_of plan d).jde - 1 + one_if (field_of plan f).stag_y
          else unsigned_abs (extent_of config (Some (has.in_y).entry) +ℤ pos (if (field_of plan f).stag_y then 1 else 0)))) (has.in_y).along);
    }

    up_is : IsUp config (field_of plan f) → IsDimOf plan config d (dim_z plan f)
    up_is up = record {
      entry = (up.up).entry;
      among = (up.up).among;
      staggered = (field_of plan f).stag_z;
      named = ap (λ name. dim_name name (field_of plan f).stag_z) (up.up).is;
      long = up.extent ∙ sym (ap (λ ax. if ax == 120 then (domain_of plan d).ide - 1 + one_if (field_of plan f).stag_z else (if ax == 121 then (domain_of plan d).jde - 1 + one_if (field_of plan f).stag_z
          else unsigned_abs (extent_of config (Some (up.up).entry) +ℤ pos (if (field_of plan f).stag_z then 1 else 0)))) (up.up).along);
    }

    in_z : (b : Bool) → (field_of plan f).z ≡ b → In x (if b then dim_z plan f ∷ [] else []) → IsDimOf plan config d x
    in_z true h k = ⊎_elim (λ e. subst (IsDimOf plan config d) (sym e) (up_is (has.in_z h))) (λ e. absurd e) k
    in_z false h k = absurd k

pub plans_have_file_names : PlansHaveFileNames
unfolding field_of
plans_have_file_names config hooks plan sound same stream = record {
  variables = file_variables_are_distinct config hooks plan sound same stream;
  dims = λ d dom. record {
    alike = λ f g x y in_f in_g in_x in_y names. alike d x y (own d f x in_f in_x) (own d g y in_g in_y) names;
    free = λ f x in_f in_x. (taken d x (own d f x in_f in_x) (codes "Time") (inl refl), taken d x (own d f x in_f in_x) (codes "DateStrLen") (inr (inl refl)));
  };
}
  where
    have : All (HasDims config) plan.fields
    have = subst (λ (fs : List Field). All (HasDims config) fs) (sym same) (All-from_recursion (HasDims config) (fields_from config hooks 0 config.fields) (all_have config hooks 0 config.fields (recursion_from_All (IsSoundField config.dims) config.fields sound.fields)))

    own : (d f : ℕ) (x : Dim) → Contains (stream_levels plan stream) f → Contains (dims_of_level plan d f) x → IsDimOf plan config d x
    own d f x in_f in_x =
        dim_of_level plan config d f x (All-get_or (HasDims config) plan.fields f no_field (All-In (IsLevel plan) f (stream_levels plan stream) (levels_within plan stream) (Contains-In f (stream_levels plan stream) in_f)) have)
        (Contains-In x (dims_of_level plan d f) in_x)

    alike : (d : ℕ) (x y : Dim) → IsDimOf plan config d x → IsDimOf plan config d y → x.name ≡ y.name → x.len ≡ y.len
    alike d x y p q names =
        let one : p.entry ≡ q.entry = same_entry config.dims p.entry q.entry p.staggered q.staggered (recursion_from_All IsSoundDimension config.dims sound.dims)
        (distinct_right taken_datasets (flat_map entry_datasets config.dims) sound.datasets) p.among q.among (sym p.named ∙ names ∙ q.named) in
        let both : p.staggered ≡ q.staggered = same_stagger (dataset_of (Some q.entry)) p.staggered q.staggered (ap (λ (e : Entry). dim_name (dataset_of (Some e)) p.staggered) (sym one) ∙ sym p.named ∙ names ∙ q.named) in
        p.long ∙ (λ i. dim_len plan config d (one i) (both i)) ∙ sym q.long

    taken : (d : ℕ) (x : Dim) → IsDimOf plan config d x → (word : Text) → In word taken_datasets → x.name ≡ word → ⊥
    taken d x p word i e =
        none_shared taken_datasets (flat_map entry_datasets config.dims) word (dim_name (dataset_of (Some p.entry)) p.staggered) (distinct_apart taken_datasets (flat_map entry_datasets config.dims) sound.datasets) i
        (In-flat_map entry_datasets (dim_name (dataset_of (Some p.entry)) p.staggered) p.entry config.dims p.among (own_name p.entry p.staggered (All-In IsSoundDimension p.entry config.dims sound.dims p.among)))
        (sym p.named ∙ e)
