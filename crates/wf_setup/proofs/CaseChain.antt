-- The chain of config, table and plan.
use Rattle.std.proofs.Common.{◌≡◌, ◌∙◌, ap, List, [], ◌∷◌, Option, Result, Ok, Contains, codes}
use Rattle.std.proofs.lemmas.List.Elements.{Contains-append_left}
use Rattle.wf_model.specs.declared.config.Config.{Config}
use Rattle.wf_model.specs.declared.plan.Item.{Item}
use Rattle.wf_model.specs.declared.plan.Plan.{Plan}
use Rattle.wf_model.specs.declared.table.HookName.{HookName}
use Rattle.wf_model.specs.Reading.{◌>>=◌, Fails, told_as}
use Rattle.wf_model.specs.Letters.{Text}
use Rattle.wf_model.specs.KeptLines.{Defines}
use Rattle.wf_model.specs.Files.{Files}
use Rattle.wf_model.specs.Refusals.{Refusal, plan_refusal}
use Rattle.wf_model.specs.PlanOf.{plan_of}
use Rattle.wf_model.specs.FilesRead.{config_read, plan_made, table_text}
use Rattle.wf_model.proofs.ReadingLemmas.{Fails-chain}
use Rattle.wf_setup.specs.Asked.{config_names, case_names, unless_refused}
use Rattle.wf_setup.specs.Cases.{case_read}
use Rattle.wf_setup.proofs.ConfigChain.{second_fails, name_last}

-- ---- table and plan

pub plan_table_fails : (hooks : List HookName) (m : Files) (c : Config) (x : Option Refusal) → Fails x (table_text c hooks (m (codes "stencil.table"))) → Fails x (plan_made hooks m c)
unfolding plan_made
plan_table_fails hooks m c x fails = Fails-chain x (table_text c hooks (m (codes "stencil.table"))) (λ items. told_as plan_refusal (plan_of c hooks items)) fails

pub plan_with_table : (hooks : List HookName) (m : Files) (c : Config) (items : List Item) → table_text c hooks (m (codes "stencil.table")) ≡ Ok items → plan_made hooks m c ≡ told_as plan_refusal (plan_of c hooks items)
unfolding plan_made
plan_with_table hooks m c items is = ap (λ (r : Result (List Item) Refusal). r >>= λ found. told_as plan_refusal (plan_of c hooks found)) is

-- ---- config and plan

pub case_config_fails : (hooks : List HookName) (m : Files) (defines : Defines) (x : Option Refusal) → Fails x (config_read m defines) → Fails x (case_read hooks m defines)
unfolding case_read
case_config_fails hooks m defines x fails =
    Fails-chain x (config_read m defines) (λ config. plan_made hooks m config >>= λ plan. Ok (record { config = config; plan = plan })) fails

pub case_plan_fails : (hooks : List HookName) (m : Files) (defines : Defines) (x : Option Refusal) (c : Config) → config_read m defines ≡ Ok c → Fails x (plan_made hooks m c) → Fails x (case_read hooks m defines)
unfolding case_read
case_plan_fails hooks m defines x c is fails =
    second_fails x (config_read m defines) c (λ config. plan_made hooks m config >>= λ plan. Ok (record { config = config; plan = plan })) is
    (Fails-chain x (plan_made hooks m c) (λ plan. Ok (record { config = c; plan = plan })) fails)

pub case_given : (hooks : List HookName) (m : Files) (defines : Defines) (c : Config) (p : Plan) → config_read m defines ≡ Ok c → plan_made hooks m c ≡ Ok p
    → case_read hooks m defines ≡ Ok (record { config = c; plan = p })
unfolding case_read
case_given hooks m defines c p c_is p_is =
    ap (λ (r : Result Config Refusal). r >>= λ config. plan_made hooks m config >>= λ plan. Ok (record { config = config; plan = plan })) c_is
    ∙ ap (λ (r : Result Plan Refusal). r >>= λ plan. Ok (record { config = c; plan = plan })) p_is

pub config_among : (m : Files) (defines : Defines) (q : Text) → Contains (config_names m defines) q → Contains (case_names m defines) q
unfolding case_names
config_among m defines q there = Contains-append_left (config_names m defines) (unless_refused (config_read m defines) (codes "stencil.table" ∷ [])) q there

pub table_among : (m : Files) (defines : Defines) (c : Config) (q : Text) → config_read m defines ≡ Ok c → q ≡ codes "stencil.table" → Contains (case_names m defines) q
unfolding case_names
table_among m defines c q is same = name_last (config_names m defines) (config_read m defines) c (codes "stencil.table") q is same
