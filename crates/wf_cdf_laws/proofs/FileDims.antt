-- The dimensions of a file: each that a level has is there, with its length.
use Rattle.std.proofs.Common.{◌≡◌, ◌⊎◌, inl, inr, ⊎_elim, ℕ, ◌+◌, ◌*◌, ◌<◌, ◌≤◌, Bool, true, false, cond, List, [], ◌∷◌, ◌++◌, length, Some, codes, refl, sym, ap, ◌∙◌, subst, append_assoc, length-append, arith}
use Rattle.std.specs.Prelude.{fold, filter, flat_map, ◌||◌, if◌then◌else◌}
use Rattle.std.specs.List.{list_any, slice_get}
use Rattle.std.specs.Str.{bytes_eq}
use Rattle.std.proofs.lemmas.List.{append-nil}
use Rattle.std.proofs.lemmas.List.Elements.{filter-append}
use Rattle.std.proofs.lemmas.List.Folds.{find_at, list_any-append}
use Rattle.std.proofs.lemmas.Option.{slice_get_within, get_or_from_slice_get}
use Rattle.std.proofs.lemmas.Slice.Eq.{bytes_eq-Decides}
use Rattle.wf_model.specs.declared.header.Dim.{Dim}
use Rattle.wf_model.specs.declared.plan.Plan.{Plan}
use Rattle.wf_model.specs.Headers.{dim, dim_x, dim_y, dim_z, dims_of_level, add_dim, dims_of, dim_number}
use Rattle.wf_model.specs.Plans.{field_of}
use Rattle.wf_model.specs.Sizes.{is_record_dim, dim_of}
use Rattle.wf_model.specs.Streams.{stream_levels}
use Rattle.wf_laws.proofs.Bools.{or_left}
use Rattle.wf_laws.proofs.Members.{In, In-either, In-flat_map, In-flat_map_out, In-Contains, In-list_any, find-In, find-Some}
use Rattle.wf_cdf.specs.StreamLevels.{first_dims}
use Rattle.wf_cdf_laws.specs.FileNames.{HasFileDims}

-- ---- dimensions that are added

-- one more stands behind those that are there, or is one of them
one_behind : (known : List Dim) (x : Dim) → (more : List Dim) × (add_dim known x ≡ known ++ more)
one_behind known x = of (list_any (λ (y : Dim). bytes_eq y.name x.name) known)
  where
    of : (b : Bool) → (more : List Dim) × ((if b then known else (known ++ (x ∷ []))) ≡ known ++ more)
    of true = ([], sym (append-nil known))
    of false = (x ∷ [], refl)

pub all_behind : (known xs : List Dim) → (more : List Dim) × (fold add_dim known xs ≡ known ++ more)
all_behind known [] = ([], sym (append-nil known))
all_behind known (x ∷ xs) =
    let one = one_behind known x in
    let all = all_behind (add_dim known x) xs in
    (one.0 ++ all.0, all.1 ∙ ap (λ (ds : List Dim). ds ++ all.0) one.1 ∙ append_assoc known one.0 all.0)

-- each of them was there, or was added
pub come_from : (known xs : List Dim) (y : Dim) → In y (fold add_dim known xs) → In y known ⊎ In y xs
come_from known [] y i = inl i
come_from known (x ∷ xs) y i = ⊎_elim (λ j. of (list_any (λ (z : Dim). bytes_eq z.name x.name) known) j) (λ j. inr (inr j)) (come_from (add_dim known x) xs y i)
  where
    of : (b : Bool) → In y (if b then known else (known ++ (x ∷ []))) → In y known ⊎ In y (x ∷ xs)
    of true j = inl j
    of false j = ⊎_elim (λ k. inl k) (λ k. ⊎_elim (λ e. inr (inl e)) (λ e. absurd e) k) (In-either y known (x ∷ []) j)

-- of this name
abbrev is_named : List ℕ → Dim → Bool
is_named name y = bytes_eq y.name name

-- its name stays
name_stays : (name : List ℕ) (known xs : List Dim) → list_any (is_named name) known ≡ true → list_any (is_named name) (fold add_dim known xs) ≡ true
name_stays name known xs h =
    let all = all_behind known xs in
    ap (list_any (is_named name)) all.1 ∙ list_any-append (is_named name) known all.0 ∙ or_left (list_any (is_named name) known) (list_any (is_named name) all.0) h

-- the name of each that was added is there
name_there : (known xs : List Dim) (x : Dim) → In x xs → list_any (is_named x.name) (fold add_dim known xs) ≡ true
name_there known [] x i = absurd i
name_there known (z ∷ xs) x i = ⊎_elim
    (λ e. name_stays x.name (add_dim known z) xs (ap (λ (w : Dim). list_any (is_named w.name) (add_dim known z)) e ∙ of (list_any (is_named z.name) known) refl))
    (λ j. name_there (add_dim known z) xs x j) i
  where
    of : (b : Bool) → list_any (is_named z.name) known ≡ b → list_any (is_named z.name) (if b then known else (known ++ (z ∷ []))) ≡ true
    of true h = h
    of false h = list_any-append (is_named z.name) known (z ∷ []) ∙ (λ n. h n || ((bytes_eq-Decides z.name z.name).1 refl n || false))

-- the dimension of a name's number
pub record IsNumbered (ds : List Dim) (x : Dim) : Type 0 where
  pub there : dim_number ds x < length ds
  pub is : In (dim_of ds (dim_number ds x)) ds
  pub name : (dim_of ds (dim_number ds x)).name ≡ x.name

numbered : (ds : List Dim) (x : Dim) → list_any (is_named x.name) ds ≡ true → IsNumbered ds x
numbered ds x h =
    let some = In-list_any (is_named x.name) ds h in
    let first = find-In (is_named x.name) some.0 ds some.1 some.2 in
    let at : slice_get ds (dim_number ds x) ≡ Some first.0 = sym (find_at (is_named x.name) ds) ∙ first.1 in
    let is : dim_of ds (dim_number ds x) ≡ first.0 = get_or_from_slice_get ds (dim_number ds x) first.0 (record { name = []; len = 1 }) at in
    let found = find-Some (is_named x.name) first.0 ds first.1 in
    record {
      there = slice_get_within ds (dim_number ds x) first.0 at;
      is = subst (λ (y : Dim). In y ds) (sym is) found.0;
      name = ap (λ (y : Dim). y.name) is ∙ (bytes_eq-Decides (first.0).name x.name).0 found.1;
    }

-- ---- the dimensions of a file

-- those of all levels, as often as they are used
abbrev pub used_dims : Plan → ℕ → ℕ → List Dim
used_dims plan d stream = flat_map (dims_of_level plan d) (stream_levels plan stream)

-- a level's dimension is there, with its length
pub record IsFound (ds : List Dim) (x : Dim) : Type 0 where
  pub there : dim_number ds x < length ds
  pub len : (dim_of ds (dim_number ds x)).len ≡ x.len

pub found : (plan : Plan) (d stream f : ℕ) (x : Dim) → HasFileDims plan d stream → In f (stream_levels plan stream) → In x (dims_of_level plan d f) → IsFound (dims_of plan d stream) x
unfolding dims_of
found plan d stream f x has level among =
    let used : List Dim = used_dims plan d stream in
    let n = numbered (fold add_dim first_dims used) x (name_there first_dims used x (In-flat_map (dims_of_level plan d) x f (stream_levels plan stream) level among)) in
    record { there = n.there; len = ⊎_elim (λ i. absurd (none (dim_of (fold add_dim first_dims used) (dim_number (fold add_dim first_dims used) x)) n.name i)) (λ i. same (dim_of (fold add_dim first_dims used) (dim_number (fold add_dim first_dims used) x)) n.name i) (come_from first_dims used (dim_of (fold add_dim first_dims used) (dim_number (fold add_dim first_dims used) x)) n.is) }
  where
    own : (x.name ≡ codes "Time" → ⊥) × (x.name ≡ codes "DateStrLen" → ⊥)
    own = has.free f x (In-Contains f (stream_levels plan stream) level) (In-Contains x (dims_of_level plan d f) among)

    none : (y : Dim) → y.name ≡ x.name → In y first_dims → ⊥
    none y e i = ⊎_elim (λ k. own.0 (sym e ∙ ap (λ (z : Dim). z.name) k)) (λ j. ⊎_elim (λ k. own.1 (sym e ∙ ap (λ (z : Dim). z.name) k)) (λ k. absurd k) j) i

    same : (y : Dim) → y.name ≡ x.name → In y (used_dims plan d stream) → y.len ≡ x.len
    same y e i =
        let w = In-flat_map_out (dims_of_level plan d) y (stream_levels plan stream) i in
        has.alike w.0 f y x (In-Contains w.0 (stream_levels plan stream) w.1) (In-Contains f (stream_levels plan stream) level) (In-Contains y (dims_of_level plan d w.0) w.2) (In-Contains x (dims_of_level plan d f) among) e

-- the first two are those that each file has
pub first_two : (plan : Plan) (d stream : ℕ) → (more : List Dim) × (dims_of plan d stream ≡ dim (codes "Time") 0 ∷ dim (codes "DateStrLen") 19 ∷ more)
unfolding dims_of
first_two plan d stream = all_behind first_dims (used_dims plan d stream)

-- ---- there are few, and one record dimension

few_added : (known xs : List Dim) → length (fold add_dim known xs) ≤ length known + length xs
few_added known [] = omega arith
few_added known (x ∷ xs) =
    let rest = few_added (add_dim known x) xs in
    let one : length (add_dim known x) ≤ length known + 1 = of (list_any (λ (y : Dim). bytes_eq y.name x.name) known) in
    omega (arith, rest, one)
  where
    of : (b : Bool) → length (if b then known else (known ++ (x ∷ []))) ≤ length known + 1
    of true = omega arith
    of false = omega (arith, length-append known (x ∷ []))

pub few_dims : (plan : Plan) (d : ℕ) (levels : List ℕ) → length (fold add_dim first_dims (flat_map (dims_of_level plan d) levels)) ≤ 2 + 3 * length levels
few_dims plan d levels = let few = few_added first_dims (flat_map (dims_of_level plan d) levels) in omega (arith, few, three levels)
  where
    own : (b : Bool) (x y z : Dim) → length (x ∷ y ∷ (if b then z ∷ [] else [])) ≤ 3
    own true x y z = omega arith
    own false x y z = omega arith

    three : (fs : List ℕ) → length (flat_map (dims_of_level plan d) fs) ≤ 3 * length fs
    three [] = omega arith
    three (f ∷ fs) = omega (arith, three fs, own (field_of plan f).z (dim_x plan d f) (dim_y plan d f) (dim_z plan f), length-append (dims_of_level plan d f) (flat_map (dims_of_level plan d) fs))

-- a dimension that is not the record's adds none
same_records : (known xs : List Dim) → ((x : Dim) → In x xs → is_record_dim x ≡ false) → filter is_record_dim (fold add_dim known xs) ≡ filter is_record_dim known
same_records known [] h = refl
same_records known (x ∷ xs) h = same_records (add_dim known x) xs (λ y i. h y (inr i)) ∙ of (list_any (λ (y : Dim). bytes_eq y.name x.name) known)
  where
    of : (b : Bool) → filter is_record_dim (if b then known else (known ++ (x ∷ []))) ≡ filter is_record_dim known
    of true = refl
    of false =
        filter-append is_record_dim known (x ∷ [])
        ∙ ap (λ b. filter is_record_dim known ++ cond b (x ∷ []) []) (h x (inl refl))
        ∙ append-nil (filter is_record_dim known)

pub one_record : (plan : Plan) (d stream : ℕ) → ((x : Dim) → In x (used_dims plan d stream) → is_record_dim x ≡ false) → length (filter is_record_dim (dims_of plan d stream)) ≤ 1
unfolding dims_of
one_record plan d stream h = let same = ap length (same_records first_dims (used_dims plan d stream) h) in omega (arith, same)
