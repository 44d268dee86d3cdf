-- A function that is found by its name is there.
use Rattle.std.proofs.Common.{◌≡◌, ℕ, suc, ◌+◌, ◌<◌, Bool, true, false, cond, List, [], ◌∷◌, length, get_or, Option, Some, None, refl, sym, ap, ◌∙◌, subst, arith}
use Rattle.std.specs.Prelude.{◌&&◌, find, option_map, All}
use Rattle.std.specs.List.{AllByRecursion}
use Rattle.std.specs.Str.{bytes_eq}
use Rattle.std.proofs.lemmas.Bool.{and_parts, false≢true}
use Rattle.std.proofs.lemmas.List.Elements.{All-from_recursion}
use Rattle.wf_model.specs.declared.registry.Entry.{Entry}
use Rattle.wf_model.specs.declared.registry.Entry.TheVariants.{Dimspec, State, Rconfig, Package, Halo, Period}
use Rattle.wf_model.specs.declared.config.Config.{Config}
use Rattle.wf_model.specs.declared.plan.Field.{Field}
use Rattle.wf_model.specs.declared.table.HookName.{HookName}
use Rattle.wf_model.specs.declared.table.HookKind.{HookKind}
use Rattle.wf_model.specs.declared.table.HookKind.TheVariants.{Call, Interp, Average}
use Rattle.wf_model.specs.Letters.{Text}
use Rattle.wf_model.specs.Entries.{entry_levels, level_names}
use Rattle.wf_model.specs.Io.{io_of, parts_of}
use Rattle.wf_model.specs.PlanFields.{is_average, is_interp, hook_named, hook_id, up_name, down_name, edge_name, fields_from}
use Rattle.wf_model.specs.Sound.{IsFunction, UsesHooks}
use Rattle.wf_registry_laws.specs.HookLaws.{HasUsualArity, LevelsUseHooks}
use Rattle.wf_registry_laws.proofs.Distinct.{each-append}
use Rattle.wf_registry_laws.proofs.Shapes.{all_made, common, own_levels, by_levels}

-- ---- what is found

pub record IsFoundIn {X : Type 0} (p : X → Bool) (xs : List X) (x : X) : Type 0 where
  pub at : ℕ
  pub within : at < length xs
  pub here : get_or xs at x ≡ x
  pub passes : p x ≡ true

found_in : {X : Type 0} (p : X → Bool) (xs : List X) (x : X) → find p xs ≡ Some x → IsFoundIn p xs x
found_in p [] x e = cc
found_in p (y ∷ ys) x e = by (p y) refl (found_in p ys x) e
  where
    first : y ≡ x → p y ≡ true → IsFoundIn p (y ∷ ys) x
    first same is = record { at = 0; within = omega arith; here = same; passes = sym (ap p same) ∙ is }

    later : IsFoundIn p ys x → IsFoundIn p (y ∷ ys) x
    later f = record { at = suc f.at; within = let w : f.at < length ys = f.within in omega arith; here = f.here; passes = f.passes }

    by : (b : Bool) → p y ≡ b → (find p ys ≡ Some x → IsFoundIn p ys x) → cond b (Some y) (find p ys) ≡ Some x → IsFoundIn p (y ∷ ys) x
    by true is rest h = let same : y ≡ x = cc in first same is
    by false is rest h = later (rest h)

-- ---- a function by its name

is_function : (hooks : List HookName) (kind : HookKind) (arity : ℕ) (is_kind : HookKind → Bool) → ((k : HookKind) → is_kind k ≡ true → k ≡ kind) → All (λ h. h.kind ≡ kind → h.arity ≡ arity) hooks
    → (name : Option Text) → IsFunction hooks kind arity (hook_id hooks is_kind name)
is_function hooks kind arity is_kind only all None = tt
is_function hooks kind arity is_kind only all (Some name) = by (hook_named hooks is_kind name) refl
  where
    by : (o : Option HookName) → hook_named hooks is_kind name ≡ o → IsFunction hooks kind arity (option_map (λ (h : HookName). h.id) o)
    by None is = tt
    by (Some h) is =
        let f = found_in (λ (g : HookName). bytes_eq g.name name && is_kind g.kind) hooks h is in
        let k = only h.kind (and_parts (bytes_eq h.name name) (is_kind h.kind) f.passes).1 in
        let usual : h.kind ≡ kind → h.arity ≡ arity = subst (λ (g : HookName). g.kind ≡ kind → g.arity ≡ arity) f.here (all f.at h f.within) in
        (f.at, h, f.within, f.here, (refl, k, usual k))

only_average : (k : HookKind) → is_average k ≡ true → k ≡ Average
only_average Average e = refl
only_average Interp e = absurd (false≢true e)
only_average Call e = absurd (false≢true e)

only_interp : (k : HookKind) → is_interp k ≡ true → k ≡ Interp
only_interp Interp e = refl
only_interp Average e = absurd (false≢true e)
only_interp Call e = absurd (false≢true e)

-- ---- levels

level_uses : (config : Config) (hooks : List HookName) (kind symbol dims levels stagger io dname description units : Text) → All HasUsualArity hooks → UsesHooks hooks (common config hooks (State kind symbol dims levels stagger io dname description units))
level_uses config hooks kind symbol dims levels stagger io dname description units all =
    let parts = parts_of (io_of io) in
    let interps : All (λ h. h.kind ≡ Interp → h.arity ≡ 7) hooks = λ k d within. (all k d within).interp in
    let averages : All (λ h. h.kind ≡ Average → h.arity ≡ 5) hooks = λ k d within. (all k d within).average in
    record {
      down = is_function hooks Interp 7 is_interp only_interp interps (down_name parts);
      edge = is_function hooks Interp 7 is_interp only_interp interps (edge_name parts);
      up = is_function hooks Average 5 is_average only_average averages (up_name parts);
    }

made_use : (hooks : List HookName) (f : Field) (first : ℕ) (symbol levels : Text) → UsesHooks hooks f → AllByRecursion (UsesHooks hooks) (all_made f (level_names symbol levels) first)
made_use hooks f first symbol levels h =
    by_levels (λ names. AllByRecursion (UsesHooks hooks) (all_made f names first)) symbol levels
    (λ a b. (record { down = h.down; edge = h.edge; up = h.up }, (record { down = h.down; edge = h.edge; up = h.up }, tt)))
    (λ a. (record { down = h.down; edge = h.edge; up = h.up }, tt))

own_use : (config : Config) (hooks : List HookName) (e : Entry) (first : ℕ) → All HasUsualArity hooks → AllByRecursion (UsesHooks hooks) (own_levels config hooks e first)
own_use config hooks (State kind symbol dims levels stagger io dname description units) first all =
    made_use hooks (common config hooks (State kind symbol dims levels stagger io dname description units)) first symbol levels (level_uses config hooks kind symbol dims levels stagger io dname description units all)
own_use config hooks (Dimspec letter how axis dataset) first all = tt
own_use config hooks (Rconfig kind symbol how entries default) first all = tt
own_use config hooks (Package name symbol value list) first all = tt
own_use config hooks (Halo name groups) first all = tt
own_use config hooks (Period name groups) first all = tt

all_use : (config : Config) (hooks : List HookName) (first : ℕ) (es : List Entry) → All HasUsualArity hooks → AllByRecursion (UsesHooks hooks) (fields_from config hooks first es)
unfolding fields_from
all_use config hooks first [] all = tt
all_use config hooks first (e ∷ es) all =
    each-append (UsesHooks hooks) (own_levels config hooks e first) (fields_from config hooks (first + length (entry_levels e)) es) (own_use config hooks e first all) (all_use config hooks (first + length (entry_levels e)) es all)

pub levels_use_hooks : LevelsUseHooks
levels_use_hooks config hooks all = All-from_recursion (UsesHooks hooks) (fields_from config hooks 0 config.fields) (all_use config hooks 0 config.fields all)
