-- The variables of a stream have the names that the fields declare, each at most once.
use Rattle.std.proofs.Common.{◌≡◌, ◌⊎◌, inl, inr, ⊎_elim, ℕ, suc, ◌+◌, ◌^◌, Bool, true, false, cond, List, [], ◌∷◌, ◌++◌, map, length, get_or, refl, sym, ap, ap₂, ◌∙◌, subst, eqb, append_assoc, length-append, arith}
use Rattle.std.specs.Prelude.{◌&&◌, ◌/◌, ◌%◌, if◌then◌else◌, flat_map, filter, codes}
use Rattle.std.specs.List.{AllByRecursion, range_with_len, IsDistinct}
use Rattle.std.specs.Str.{bytes_eq}
use Rattle.std.proofs.lemmas.Bool.{eq-eqb, ne_eqb, false≢true}
use Rattle.std.proofs.lemmas.List.{append-nil}
use Rattle.std.proofs.lemmas.List.Concat.{flat_map-cons}
use Rattle.std.proofs.lemmas.List.Elements.{recursion_from_All}
use Rattle.std.proofs.Math.Seq.{get_or-append_seam}
use Rattle.wf_model.specs.declared.registry.Entry.{Entry}
use Rattle.wf_model.specs.declared.registry.Entry.TheVariants.{Dimspec, State, Rconfig, Package, Halo, Period}
use Rattle.wf_model.specs.declared.config.Config.{Config}
use Rattle.wf_model.specs.declared.plan.Field.{Field}
use Rattle.wf_model.specs.declared.plan.Plan.{Plan}
use Rattle.wf_model.specs.declared.table.HookName.{HookName}
use Rattle.wf_model.specs.Letters.{Text}
use Rattle.wf_model.specs.Entries.{entry_levels, entry_variables, variables_of, suffixed, is_two, is_integer}
use Rattle.wf_model.specs.Plans.{no_field, field_of}
use Rattle.wf_model.specs.PlanFields.{fields_from}
use Rattle.wf_model.specs.Script.{restart_stream}
use Rattle.wf_model.specs.Streams.{is_in_stream, stream_levels, level_suffix, variable_name}
use Rattle.wf_registry_laws.specs.RegistryLaws.{AreDistinct}
use Rattle.wf_registry_laws.specs.ConfigLaws.{IsSoundField}
use Rattle.wf_registry_laws.specs.FileLaws.{FileVariablesAreDistinct}
use Rattle.wf_registry_laws.proofs.Shapes.{all_made, common, own_levels}
use Rattle.wf_registry_laws.proofs.Pairs.{own_length}

-- ---- a part of a list, in its order

abbrev pub IsPart : List Text → List Text → Type 0
IsPart [] ys = Unit {0}
IsPart (x ∷ xs) [] = ⊥
IsPart (x ∷ xs) (y ∷ ys) = ((x ≡ y) × IsPart xs ys) ⊎ IsPart (x ∷ xs) ys

part_behind : (cs bs ys : List Text) → IsPart cs ys → IsPart cs (bs ++ ys)
part_behind [] bs ys h = tt
part_behind (a ∷ cs) [] ys h = h
part_behind (a ∷ cs) (b ∷ bs) ys h = inr (part_behind (a ∷ cs) bs ys h)

part_both : (cs bs xs ys : List Text) → IsPart cs xs → IsPart bs ys → IsPart (cs ++ bs) (xs ++ ys)
part_both [] bs xs ys h k = part_behind bs xs ys k
part_both (a ∷ cs) bs [] ys h k = absurd h
part_both (a ∷ cs) bs (x ∷ xs) ys h k = ⊎_elim (λ e. inl (e.0, part_both cs bs xs ys e.1 k)) (λ r. inr (part_both (a ∷ cs) bs xs ys r k)) h

each_part : (P : Text → Type 0) (cs xs : List Text) → IsPart cs xs → AllByRecursion P xs → AllByRecursion P cs
each_part P [] xs h all = tt
each_part P (a ∷ cs) [] h all = absurd h
each_part P (a ∷ cs) (x ∷ xs) h all = ⊎_elim (λ e. (subst P (sym e.0) all.0, each_part P cs xs e.1 all.1)) (λ r. each_part P (a ∷ cs) xs r all.1) h

part_distinct : (cs xs : List Text) → IsPart cs xs → AreDistinct xs → AreDistinct cs
unfolding IsDistinct
part_distinct [] xs h d = tt
part_distinct (a ∷ cs) [] h d = absurd h
part_distinct (a ∷ cs) (x ∷ xs) h d =
    ⊎_elim (λ e. (subst (λ w. AllByRecursion (λ y. bytes_eq w y ≡ false) cs) (sym e.0) (each_part (λ y. bytes_eq x y ≡ false) cs xs e.1 d.0), part_distinct cs xs e.1 d.1))
    (λ r. part_distinct (a ∷ cs) xs r d.1) h

-- ---- the names of levels in a stream, by the levels alone

in_stream : ℕ → Field → Bool
in_stream stream x = if eqb stream restart_stream then x.restart else (x.last && eqb ((x.streams / 2 ^ stream) % 2) 1)

file_name : ℕ → Field → ℕ → Text
file_name stream x f = x.dname ++ (if eqb stream restart_stream then level_suffix x f else [])

listed : ℕ → ℕ → List Field → List Text
listed stream first [] = []
listed stream first (x ∷ xs) = (if in_stream stream x then file_name stream x first ∷ [] else []) ++ listed stream (first + 1) xs

listed_both : (stream first : ℕ) (xs ys : List Field) → listed stream first (xs ++ ys) ≡ listed stream first xs ++ listed stream (first + length xs) ys
unfolding listed
listed_both stream first [] ys = ap (λ n. listed stream n ys) (let same : first ≡ first + 0 = omega arith in same)
listed_both stream first (x ∷ xs) ys =
    let one = if in_stream stream x then file_name stream x first ∷ [] else [] in
    ap (λ ns. one ++ ns) (listed_both stream (first + 1) xs ys)
    ∙ sym (append_assoc one (listed stream (first + 1) xs) (listed stream (first + 1 + length xs) ys))
    ∙ ap (λ n. (one ++ listed stream (first + 1) xs) ++ listed stream n ys) (let same : first + 1 + length xs ≡ first + suc (length xs) = omega arith in same)

-- the plan's names are those
one_listed : (stream first : ℕ) (x : Field) (test : Bool) (name : Text) (names : ℕ → Text) (rest : List ℕ) (others : List Text) → in_stream stream x ≡ test → names first ≡ name → map names rest ≡ others
    → map names (cond test (first ∷ rest) rest) ≡ (if test then name ∷ [] else []) ++ others
one_listed stream first x true name names rest others t n r = ap₂ (λ a b. a ∷ b) n r
one_listed stream first x false name names rest others t n r = r

names_are_listed : (plan : Plan) (stream : ℕ) (front xs : List Field) → plan.fields ≡ front ++ xs
    → map (variable_name plan stream) (filter (is_in_stream plan stream) (range_with_len (length front) (length xs))) ≡ listed stream (length front) xs
unfolding field_of in_stream file_name listed
names_are_listed plan stream front [] same = refl
names_are_listed plan stream front (x ∷ xs) same =
    let here : field_of plan (length front) ≡ x = ap (λ fs. get_or fs (length front) no_field) same ∙ get_or-append_seam front x xs no_field in
    let longer : length (front ++ x ∷ []) ≡ length front + 1 = length-append front (x ∷ []) in
    let parted : plan.fields ≡ (front ++ x ∷ []) ++ xs = same ∙ sym (append_assoc front (x ∷ []) xs) in
    let rest = subst (λ n. map (variable_name plan stream) (filter (is_in_stream plan stream) (range_with_len n (length xs))) ≡ listed stream n xs) longer (names_are_listed plan stream (front ++ x ∷ []) xs parted) in
    ap (λ b. map (variable_name plan stream) (cond b (length front ∷ filter (is_in_stream plan stream) (range_with_len (length front + 1) (length xs))) (filter (is_in_stream plan stream) (range_with_len (length front + 1) (length xs)))))
    (ap (in_stream stream) here)
    ∙ one_listed stream (length front) x (in_stream stream x) (file_name stream x (length front)) (variable_name plan stream) (filter (is_in_stream plan stream) (range_with_len (length front + 1) (length xs))) (listed stream (length front + 1) xs)
    refl (ap (λ f. file_name stream f (length front)) here) rest

-- ---- the levels of one entry

-- of a field with one level
one_part : (restart : Bool) (inside usual : Bool) (name suffix : Text) → (restart ≡ true → suffix ≡ []) →
    IsPart ((if (if restart then inside else (true && usual)) then (name ++ (if restart then suffix else [])) ∷ [] else []) ++ []) (name ∷ [])
one_part true true usual name suffix h = inl (ap (λ s. name ++ s) (h refl) ∙ append-nil name, tt)
one_part true false usual name suffix h = tt
one_part false inside true name suffix h = inl (append-nil name, tt)
one_part false inside false name suffix h = tt

-- of a field with two
two_parts : (restart : Bool) (inside usual : Bool) (name one two : Text) → one ≡ codes "_1" → two ≡ codes "_2" →
    IsPart ((if (if restart then inside else (false && usual)) then (name ++ (if restart then one else [])) ∷ [] else [])
    ++ ((if (if restart then inside else (true && usual)) then (name ++ (if restart then two else [])) ∷ [] else []) ++ []))
    (name ∷ suffixed name)
two_parts true true usual name one two e f = inr (inl (ap (λ s. name ++ s) e, inl (ap (λ s. name ++ s) f, tt)))
two_parts true false usual name one two e f = tt
two_parts false inside true name one two e f = inl (append-nil name, tt)
two_parts false inside false name one two e f = tt

levels_part : (stream first : ℕ) (f : Field) (two : Bool) (symbol : Text)
    → IsPart (listed stream first (all_made f (if two then suffixed symbol else symbol ∷ []) first)) (f.dname ∷ (if two then suffixed f.dname else []))
unfolding in_stream file_name listed
levels_part stream first f false symbol =
    one_part (eqb stream restart_stream) f.restart (eqb ((f.streams / 2 ^ stream) % 2) 1) f.dname _
    (λ h. ap (λ b. if b then [] else (if true then codes "_2" else codes "_1")) (eq-eqb (first + 0) first (omega arith)))
levels_part stream first f true symbol =
    two_parts (eqb stream restart_stream) f.restart (eqb ((f.streams / 2 ^ stream) % 2) 1) f.dname _ _
    (ap (λ b. if b then [] else (if false then codes "_2" else codes "_1")) (ne_eqb (first + 1) first (λ e. omega arith)))
    (ap (λ b. if b then [] else (if true then codes "_2" else codes "_1")) (ne_eqb (first + 0) (first + 1) (λ e. omega arith)))

where_integer : (b : Bool) (symbol levels dname : Text) (names : List Text) → b ≡ true → IsPart names (variables_of symbol levels dname) → IsPart names (if b then variables_of symbol levels dname else [])
where_integer true symbol levels dname names is h = h
where_integer false symbol levels dname names is h = absurd (false≢true is)

own_part : (config : Config) (hooks : List HookName) (stream first : ℕ) (e : Entry) → IsSoundField config.dims e → IsPart (listed stream first (own_levels config hooks e first)) (entry_variables e)
own_part config hooks stream first (State kind symbol dims levels stagger io dname description units) active =
    let e = State kind symbol dims levels stagger io dname description units in
    where_integer (is_integer kind) symbol levels dname (listed stream first (own_levels config hooks e first)) active.integer (levels_part stream first (common config hooks e) (is_two levels) symbol)
own_part config hooks stream first (Dimspec letter how axis dataset) active = absurd active
own_part config hooks stream first (Rconfig kind symbol how entries default) active = absurd active
own_part config hooks stream first (Package name symbol value list) active = absurd active
own_part config hooks stream first (Halo name groups) active = absurd active
own_part config hooks stream first (Period name groups) active = absurd active

-- ---- all levels

all_part : (config : Config) (hooks : List HookName) (stream first : ℕ) (es : List Entry) → AllByRecursion (IsSoundField config.dims) es
    → IsPart (listed stream first (fields_from config hooks first es)) (flat_map entry_variables es)
unfolding fields_from listed
all_part config hooks stream first [] active = tt
all_part config hooks stream first (e ∷ es) active =
    let own = own_levels config hooks e first in
    let next = first + length (entry_levels e) in
    let rest = fields_from config hooks next es in
    let both : listed stream first (own ++ rest) ≡ listed stream first own ++ listed stream next rest = listed_both stream first own rest ∙ ap (λ n. listed stream first own ++ listed stream (first + n) rest) (own_length config hooks e first) in
    subst (λ ns. IsPart ns (flat_map entry_variables (e ∷ es))) (sym both)
    (subst (λ vs. IsPart (listed stream first own ++ listed stream next rest) vs) (sym (flat_map-cons entry_variables e es))
    (part_both (listed stream first own) (listed stream next rest) (entry_variables e) (flat_map entry_variables es) (own_part config hooks stream first e active.0) (all_part config hooks stream next es active.1)))

pub file_variables_are_distinct : FileVariablesAreDistinct
unfolding stream_levels
file_variables_are_distinct config hooks plan sound same stream =
    let names = map (variable_name plan stream) (stream_levels plan stream) in
    let fs = fields_from config hooks 0 config.fields in
    let listed_names : names ≡ listed stream 0 plan.fields = names_are_listed plan stream [] plan.fields refl in
    let part : IsPart (listed stream 0 fs) (flat_map entry_variables config.fields) = all_part config hooks stream 0 config.fields (recursion_from_All (IsSoundField config.dims) config.fields sound.fields) in
    let named : IsPart names (flat_map entry_variables config.fields) = subst (λ ns. IsPart ns (flat_map entry_variables config.fields)) (sym (listed_names ∙ ap (listed stream 0) same)) part in
    part_distinct (codes "Times" ∷ names) (codes "Times" ∷ flat_map entry_variables config.fields) (inl (refl, named)) sound.variables
