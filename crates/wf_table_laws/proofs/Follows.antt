-- What follows for each item of a table that was read.
use Rattle.std.proofs.Common.{◌≡◌, ℕ, ◌<◌, ◌≤◌, true, List, [], ◌∷◌, length, get_or, refl, subst, arith}
use Rattle.std.specs.Prelude.{All, Any}
use Rattle.std.proofs.lemmas.List.Elements.{All-weaker, All-head}
use Rattle.wf_model.specs.declared.expr.Expr.{Expr}
use Rattle.wf_model.specs.declared.plan.HaloPart.{HaloPart}
use Rattle.wf_model.specs.declared.plan.PeriodPart.{PeriodPart}
use Rattle.wf_model.specs.declared.plan.Phase.{Phase}
use Rattle.wf_model.specs.declared.plan.Plan.{Plan}
use Rattle.wf_model.specs.declared.plan.Item.{Item}
use Rattle.wf_model.specs.declared.plan.Item.TheVariants as item
use Rattle.wf_model.specs.declared.table.Names.{Names}
use Rattle.wf_model.specs.declared.table.HookName.{HookName}
use Rattle.wf_model.specs.declared.table.HookKind.TheVariants.{Call}
use Rattle.wf_model.specs.Letters.{Text}
use Rattle.wf_model.specs.Reads.{Read, reads_of}
use Rattle.wf_model.specs.ExprFacts.{CallOf, parts_of, IsNearRead, IsRangedExpr}
use Rattle.wf_model.specs.Ranges.{Within, IsRangedItem, IsRangedPhase}
use Rattle.wf_model.specs.Sound.{CallsHooks}
use Rattle.wf_model.specs.Hooks.{HasFewArguments}
use Rattle.wf_table_laws.specs.Premises.{HasRangedParts, HasKnownLevels, IsRangedHaloPart, IsRangedPeriodPart}
use Rattle.wf_table_laws.specs.ItemLaws.{IsKnownRead, HasNarrowCrosses, IsOfNames, UsesLevels, CallsNothing, ItemsKeep, Anything, ItemsAreRanged, CrossesAreNarrow, ItemsAreFew, PhaseNamesDiffer, ItemsAreOfNames, ItemsUseLevels, IsSoundExchange, ExchangesAreSound, CallsAreHooks, NothingIsCalled}
use Rattle.wf_table_laws.proofs.Keeping.{Keeps, IsCallOf, IsReadOf}
use Rattle.wf_table_laws.proofs.Items.{IsItemOf, IsPhaseOf}
use Rattle.wf_table_laws.proofs.ItemLines.{Kept, IsItem, table-yields}

-- what holds of one that stands in a list of which it all holds
any_of : {X : Type 0} (P Q : X → Type 0) (xs : List X) (R : Type 0) → All P xs → Any Q xs → ((x : X) → P x → Q x → R) → R
any_of P Q xs R all any f = f any.1 (subst P any.3 (all any.0 any.1 any.2)) any.4

-- the expression of a phase, as its tree
phase_keeps : (names : Names) (before : List Item) (ph : Phase) → IsPhaseOf names before ph → Keeps names ph.expr
phase_keeps names before ph is = subst (Keeps names) is.tree.4 is.tree.3.keeps

-- ---- ranges

small_call : (names : Names) (c : CallOf) → HasRangedParts names → IsCallOf names c → c.arguments ≤ 8
small_call names c ranged is =
    any_of HasFewArguments (λ h. (HookName.id h ≡ c.id) × (HookName.kind h ≡ Call) × (HookName.arity h ≡ c.arguments)) names.hooks (c.arguments ≤ 8) ranged.hooks is
    (λ h small same. subst (λ n. n ≤ 8) same.2 (small same.1))

ranged_phase : (names : Names) (before : List Item) (ph : Phase) → HasRangedParts names → IsPhaseOf names before ph → IsRangedPhase ph
ranged_phase names before ph ranged is =
    let keeps = phase_keeps names before ph is in
    let t = is.tree.0 in
    let tree = is.tree.3 in
    record {
      name = is.name.word;
      mx = is.margins.0;
      my = is.margins.1;
      levels = is.levels.order;
      top = is.levels.top;
      named = is.levels.named;
      extend = is.extend;
      expr = subst IsRangedExpr is.tree.4 (record {
        nodes = omega (arith, tree.nodes, tree.most);
        depth = omega (arith, tree.depth, tree.within);
        divisors = tree.keeps.divisors;
        numbers = tree.keeps.numbers;
        calls = All-weaker (IsCallOf names) (λ (c : CallOf). c.arguments ≤ 8) (λ c h. small_call names c ranged h) (parts_of t.expr).calls tree.keeps.calls;
        reads = All-weaker (IsReadOf names) IsNearRead (λ r h. h.0) (reads_of t.expr) tree.keeps.reads;
      });
    }

ranged_item : (names : Names) (before : List Item) (i : Item) → HasRangedParts names → IsItemOf names before i → IsRangedItem i
ranged_item names before (item.Halo parts) ranged is =
    any_of (λ (halo : Text × List HaloPart). All IsRangedHaloPart halo.1) (λ (halo : Text × List HaloPart). halo.1 ≡ parts) names.halos (All (λ (p : HaloPart). Within 1 6 p.radius) parts) ranged.halos is
    (λ halo all same. subst (All (λ (p : HaloPart). Within 1 6 p.radius)) same (All-weaker IsRangedHaloPart (λ (p : HaloPart). Within 1 6 p.radius) (λ p h. h.radius) halo.1 all))
ranged_item names before (item.Period parts) ranged is =
    any_of (λ (period : Text × List PeriodPart). All IsRangedPeriodPart period.1) (λ (period : Text × List PeriodPart). period.1 ≡ parts) names.periods (All IsRangedPeriodPart parts) ranged.periods is
    (λ period all same. subst (All IsRangedPeriodPart) same all)
ranged_item names before (item.Swap one two) ranged is = tt
ranged_item names before (item.Phase ph) ranged is = ranged_phase names before ph ranged is

narrow_item : (names : Names) (before : List Item) (i : Item) → HasRangedParts names → IsItemOf names before i → HasNarrowCrosses i
narrow_item names before (item.Halo parts) ranged is =
    let Narrow : HaloPart → Type 0 = λ p. p.cross ≡ true → p.radius ≡ 1 in
    any_of (λ (halo : Text × List HaloPart). All IsRangedHaloPart halo.1) (λ (halo : Text × List HaloPart). halo.1 ≡ parts) names.halos (All Narrow parts) ranged.halos is
    (λ halo all same. subst (All Narrow) same (All-weaker IsRangedHaloPart Narrow (λ p h. h.cross) halo.1 all))
narrow_item names before (item.Period parts) ranged is = tt
narrow_item names before (item.Swap one two) ranged is = tt
narrow_item names before (item.Phase ph) ranged is = tt

-- ---- names

read_levels : (names : Names) (x : Expr) → Keeps names x → All (λ (r : Read). r.field < length names.levels) (reads_of x)
read_levels names x keeps = All-weaker (IsReadOf names) (λ (r : Read). r.field < length names.levels) (λ r h. h.1.level) (reads_of x) keeps.reads

item_of_names : (names : Names) (before : List Item) (i : Item) → IsItemOf names before i → IsOfNames names i
item_of_names names before (item.Halo parts) is = is
item_of_names names before (item.Period parts) is = is
item_of_names names before (item.Swap one two) is = is
item_of_names names before (item.Phase ph) is =
    (is.writes, All-weaker (IsReadOf names) (IsKnownRead names) (λ r h. h.1) (reads_of ph.expr) (phase_keeps names before ph is).reads)

item_levels : (names : Names) (before : List Item) (i : Item) → HasKnownLevels names → IsItemOf names before i → UsesLevels (length names.levels) i
item_levels names before (item.Halo parts) known is =
    let Known : HaloPart → Type 0 = λ p. p.field < length names.levels in
    any_of (λ (halo : Text × List HaloPart). All Known halo.1) (λ (halo : Text × List HaloPart). halo.1 ≡ parts) names.halos (All Known parts) known.halos is (λ halo all same. subst (All Known) same all)
item_levels names before (item.Period parts) known is =
    let Known : PeriodPart → Type 0 = λ p. p.field < length names.levels in
    any_of (λ (period : Text × List PeriodPart). All Known period.1) (λ (period : Text × List PeriodPart). period.1 ≡ parts) names.periods (All Known parts) known.periods is (λ period all same. subst (All Known) same all)
item_levels names before (item.Swap one two) known is =
    let n = length names.levels in
    any_of (λ (field : Text × ℕ × ℕ). (field.1 < n) × (field.2 < n)) (λ (field : Text × ℕ × ℕ). (field.1 ≡ one) × (field.2 ≡ two)) names.fields ((one < n) × (two < n)) known.fields is.0
    (λ field small same. (subst (λ f. f < n) same.0 small.0, subst (λ f. f < n) same.1 small.1))
item_levels names before (item.Phase ph) known is = (is.writes, read_levels names ph.expr (phase_keeps names before ph is))

-- ---- halos and periods of a plan

sound_exchange : (plan : Plan) (i : Item) → UsesLevels (length plan.fields) i → IsRangedItem i → HasNarrowCrosses i → IsSoundExchange plan i
sound_exchange plan (item.Halo parts) levels ranged narrow = λ k d lt.
    let radius = ranged k d lt in
    record { level = levels k d lt; some = radius.0; cross = λ is. radius.0; one = narrow k d lt }
sound_exchange plan (item.Period parts) levels ranged narrow = levels
sound_exchange plan (item.Swap one two) levels ranged narrow = tt
sound_exchange plan (item.Phase ph) levels ranged narrow = tt

pub exchanges_sound : ExchangesAreSound
exchanges_sound plan items levels ranged narrow k d lt = sound_exchange plan (get_or items k d) (levels k d lt) (ranged k d lt) (narrow k d lt)

-- ---- calls

item_calls : (names : Names) (before : List Item) (i : Item) → IsItemOf names before i → CallsHooks names.hooks i
item_calls names before (item.Halo parts) is = tt
item_calls names before (item.Period parts) is = tt
item_calls names before (item.Swap one two) is = tt
item_calls names before (item.Phase ph) is = (phase_keeps names before ph is).calls

-- a list of which nothing is possible is empty
empty_of : {X : Type 0} (P : X → Type 0) (xs : List X) → ((x : X) → P x → ⊥) → All P xs → xs ≡ []
empty_of P [] never all = refl
empty_of P (x ∷ xs) never all = absurd (never x (All-head P x xs all))

item_calls_nothing : (names : Names) (before : List Item) (i : Item) → names.hooks ≡ [] → IsItemOf names before i → CallsNothing i
item_calls_nothing names before (item.Halo parts) none is = tt
item_calls_nothing names before (item.Period parts) none is = tt
item_calls_nothing names before (item.Swap one two) none is = tt
item_calls_nothing names before (item.Phase ph) none is =
    empty_of (IsCallOf names) (parts_of ph.expr).calls (λ c call. nowhere call.0 (subst (λ hs. call.0 < length hs) none call.2)) (phase_keeps names before ph is).calls
  where
    nowhere : (k : ℕ) → k < 0 → ⊥
    nowhere k lt = omega (arith, lt)

-- ---- the laws

-- what follows for each item
each_item : (Premise : Names → Type 0) (P : Names → Item → Type 0) → ((names : Names) (before : List Item) (i : Item) → Premise names → IsItemOf names before i → P names i)
    → ItemsKeep Premise (λ names items. All (P names) items)
each_item Premise P follows text names items premise read =
    let kept : Kept names items = (table-yields names text).has items read in
    All-weaker (IsItem names) (P names) (λ i is. follows names is.0 i premise is.1) items kept.each

pub items_ranged : ItemsAreRanged
items_ranged = each_item HasRangedParts (λ names i. IsRangedItem i) ranged_item

pub crosses_narrow : CrossesAreNarrow
crosses_narrow = each_item HasRangedParts (λ names i. HasNarrowCrosses i) narrow_item

pub items_few : ItemsAreFew
items_few text names items premise read = ((table-yields names text).has items read).few

pub names_differ : PhaseNamesDiffer
names_differ text names items premise read = let kept : Kept names items = (table-yields names text).has items read in (kept.apart, kept.free)

pub items_of_names : ItemsAreOfNames
items_of_names = each_item Anything IsOfNames (λ names before i premise is. item_of_names names before i is)

pub items_levels : ItemsUseLevels
items_levels = each_item HasKnownLevels (λ names i. UsesLevels (length names.levels) i) item_levels

pub calls_hooks : CallsAreHooks
calls_hooks = each_item Anything (λ names i. CallsHooks names.hooks i) (λ names before i premise is. item_calls names before i is)

pub calls_nothing : NothingIsCalled
calls_nothing = each_item (λ names. names.hooks ≡ []) (λ names i. CallsNothing i) item_calls_nothing
