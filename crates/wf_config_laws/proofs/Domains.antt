-- The domains of a plan, by number: each is made of those before it.
use Rattle.std.proofs.Common.{◌≡◌, ⊎_elim, ℕ, zero, suc, ◌+◌, ◌-◌, ◌/◌, ◌<◌, ◌≤◌, List, [], ◌∷◌, ◌++◌, length, get_or, refl, sym, ap, ◌∙◌, arith, codes, slice_index_or}
use Rattle.std.proofs.lemmas.Bool.{cases_lt}
use Rattle.std.proofs.Math.Seq.{get_or-append_seam}
use Rattle.std.proofs.lemmas.List.{get_or_append_left, length-append}
use Rattle.wf_model.specs.declared.config.Config.{Config}
use Rattle.wf_model.specs.declared.plan.Domain.{Domain}
use Rattle.wf_model.specs.declared.plan.Item.{Item}
use Rattle.wf_model.specs.declared.plan.Plan.{Plan}
use Rattle.wf_model.specs.Calendar.{text_of}
use Rattle.wf_model.specs.declared.table.HookName.{HookName}
use Rattle.wf_model.specs.Plans.{domain_of, no_domain}
use Rattle.wf_model.specs.PlanDomains.{amount, domain_from, domains_to, domain_total, run_seconds, start_moment}
use Rattle.wf_model.specs.PlanOf.{plan_from}

pub length_to : (config : Config) (n : ℕ) → length (domains_to config n) ≡ n
unfolding domains_to
length_to config zero = refl
length_to config (suc n) = length-append (domains_to config n) (domain_from config (domains_to config n) (n + 1) ∷ []) ∙ omega (arith, length_to config n)

pub domain_at : (config : Config) (n k : ℕ) (d : Domain) → k < n → slice_index_or (domains_to config n) k d ≡ domain_from config (domains_to config k) (k + 1)
unfolding domains_to
domain_at config zero k d h = absurd (omega (arith, h))
domain_at config (suc n) k d h =
    let last = domain_from config (domains_to config n) (n + 1) in
    ⊎_elim
    (λ less. get_or_append_left (domains_to config n) (last ∷ []) d k (omega (arith, less, length_to config n)) ∙ domain_at config n k d less)
    (λ more.
    let same : k ≡ n = omega (arith, h, more) in
    ap (λ m. get_or (domains_to config n ++ last ∷ []) m d) (same ∙ sym (length_to config n)) ∙ get_or-append_seam (domains_to config n) last [] d
    ∙ ap (λ m. domain_from config (domains_to config m) (m + 1)) (sym same))
    (cases_lt k n)

pub domain_is : (config : Config) (hooks : List HookName) (items : List Item) (d : ℕ) → 1 ≤ d → d ≤ domain_total config
    → domain_of (plan_from config hooks items) d ≡ domain_from config (domains_to config (d - 1)) d
unfolding plan_from domain_of
domain_is config hooks items d from upto =
    domain_at config (domain_total config) (d - 1) no_domain (omega (arith, from, upto)) ∙ ap (domain_from config (domains_to config (d - 1))) (omega (arith, from))

pub count_is : (config : Config) (hooks : List HookName) (items : List Item) → length (plan_from config hooks items).domains ≡ domain_total config
unfolding plan_from
count_is config hooks items = length_to config (domain_total config)

-- a domain by its place
pub by_place : (plan : Plan) (i : ℕ) → domain_of plan (i + 1) ≡ get_or plan.domains i no_domain
unfolding domain_of
by_place plan i = ap (λ k. get_or plan.domains k no_domain) (omega arith)

-- ---- what else the plan has of the config

pub start_is : (config : Config) (hooks : List HookName) (items : List Item) → (plan_from config hooks items).start ≡ text_of (start_moment config 1)
unfolding plan_from
start_is config hooks items = refl

pub steps_are : (config : Config) (hooks : List HookName) (items : List Item) → (plan_from config hooks items).steps ≡ run_seconds config / amount config (codes "time_step") 1
unfolding plan_from
steps_are config hooks items = refl

pub width_is : (config : Config) (hooks : List HookName) (items : List Item) → (plan_from config hooks items).bdy_width ≡ amount config (codes "spec_bdy_width") 1
unfolding plan_from
width_is config hooks items = refl
