-- The chain of Registry, namelist and config.
use Rattle.std.proofs.Common.{◌≡◌, sym, ap, refl, subst, ℕ, Bool, true, false, List, [], ◌∷◌, ◌++◌, Option, Some, Result, Ok, Err, Contains, codes, arith, if◌then◌else◌}
use Rattle.std.proofs.lemmas.List.Elements.{Contains-append_left, Contains-append_right}
use Rattle.wf_model.specs.declared.registry.Registry.{Registry}
use Rattle.wf_model.specs.declared.namelist.Namelist.{Namelist}
use Rattle.wf_model.specs.declared.config.Config.{Config}
use Rattle.wf_model.specs.Reading.{◌>>=◌, Fails, Gives, told_as}
use Rattle.wf_model.specs.Letters.{Text}
use Rattle.wf_model.specs.KeptLines.{Defines}
use Rattle.wf_model.specs.Config.{config_of}
use Rattle.wf_model.specs.Namelist.{namelist_of}
use Rattle.std.specs.Str.{IsUtf8, is_utf8}
use Rattle.std.proofs.lemmas.Str.{IsUtf8-from_is_utf8, is_utf8-from_IsUtf8}
use Rattle.wf_model.specs.Files.{Files}
use Rattle.wf_model.specs.Refusals.{Refusal, config_refusal, numbered, namelist_refusal}
use Rattle.wf_model.specs.FilesRead.{registry_read, namelist_text, config_read}
use Rattle.wf_model.proofs.ReadingLemmas.{Fails-chain, Fails-along, Gives-chain}
use Rattle.wf_setup.specs.declared.error.SetupError.{SetupError}
use Rattle.wf_setup.specs.Errors.{refusal_of}
use Rattle.wf_setup.specs.Asked.{registry_names, config_names, unless_refused}

-- ---- a chain of two readings

-- the second one fails
pub second_fails : {A B : Type 0} (x : Option Refusal) (read : Result A Refusal) (a : A) (next : A → Result B Refusal) → read ≡ Ok a → Fails x (next a) → Fails x (read >>= next)
second_fails x read a next is fails = Fails-along x (next a) (read >>= next) (ap (λ (r : Result _ Refusal). r >>= next) (sym is)) fails

-- a name is asked for behind others
pub name_last : {A : Type 0} (names : List Text) (read : Result A Refusal) (a : A) (name q : Text) → read ≡ Ok a → q ≡ name → Contains (names ++ unless_refused read (name ∷ [])) q
name_last names read a name q is same =
    let last : Contains (unless_refused read (name ∷ [])) name = subst (λ (r : Result _ Refusal). Contains (unless_refused r (name ∷ [])) name) (sym is) (0, omega arith, refl) in
    Contains-append_right names (unless_refused read (name ∷ [])) q (subst (λ (t : Text). Contains (unless_refused read (name ∷ [])) t) (sym same) last)

-- ---- the config

pub config_registry_fails : (m : Files) (defines : Defines) (x : Option Refusal) → Fails x (registry_read m defines) → Fails x (config_read m defines)
unfolding config_read
config_registry_fails m defines x fails =
    Fails-chain x (registry_read m defines) (λ registry. namelist_text (m (codes "namelist.input")) >>= λ namelist. told_as config_refusal (config_of registry namelist)) fails

pub config_namelist_fails : (m : Files) (defines : Defines) (x : Option Refusal) (r : Registry) → registry_read m defines ≡ Ok r → Fails x (namelist_text (m (codes "namelist.input"))) → Fails x (config_read m defines)
unfolding config_read
config_namelist_fails m defines x r is fails =
    second_fails x (registry_read m defines) r (λ registry. namelist_text (m (codes "namelist.input")) >>= λ namelist. told_as config_refusal (config_of registry namelist)) is
    (Fails-chain x (namelist_text (m (codes "namelist.input"))) (λ namelist. told_as config_refusal (config_of r namelist)) fails)

pub config_given : (m : Files) (defines : Defines) (result : Result Config SetupError) (r : Registry) (n : Namelist) → registry_read m defines ≡ Ok r → namelist_text (m (codes "namelist.input")) ≡ Ok n
    → Gives (λ c. c) refusal_of result (told_as config_refusal (config_of r n)) → Gives (λ c. c) refusal_of result (config_read m defines)
unfolding config_read
config_given m defines result r n r_is n_is gives =
    Gives-chain (λ c. c) refusal_of result (registry_read m defines) r (λ registry. namelist_text (m (codes "namelist.input")) >>= λ namelist. told_as config_refusal (config_of registry namelist)) r_is
    (Gives-chain (λ c. c) refusal_of result (namelist_text (m (codes "namelist.input"))) n (λ namelist. told_as config_refusal (config_of r namelist)) n_is gives)

pub registry_among : (m : Files) (defines : Defines) (q : Text) → Contains (registry_names m defines) q → Contains (config_names m defines) q
unfolding config_names
registry_among m defines q there = Contains-append_left (registry_names m defines) (unless_refused (registry_read m defines) (codes "namelist.input" ∷ [])) q there

pub namelist_among : (m : Files) (defines : Defines) (r : Registry) (q : Text) → registry_read m defines ≡ Ok r → q ≡ codes "namelist.input" → Contains (config_names m defines) q
unfolding config_names
namelist_among m defines r q is same = name_last (registry_names m defines) (registry_read m defines) r (codes "namelist.input") q is same

-- ---- the namelist of a text

by_test : List ℕ → Bool → Result Namelist Refusal
by_test text test = if test then told_as namelist_refusal (namelist_of text) else Err (numbered 3 (codes "namelist") 0 (codes "NotText"))

-- the text is UTF-8
pub namelist_of_utf8 : (text : List ℕ) → IsUtf8 text → told_as namelist_refusal (namelist_of text) ≡ namelist_text (Some text)
unfolding by_test
namelist_of_utf8 text is = ap (by_test text) (sym (is_utf8-from_IsUtf8 text is))

-- it isn't
pub namelist_of_other : (text : List ℕ) → ¬ (IsUtf8 text) → namelist_text (Some text) ≡ Err (numbered 3 (codes "namelist") 0 (codes "NotText"))
unfolding by_test
namelist_of_other text is_not = ap (by_test text) (no_test (is_utf8 text) refl)
  where
    no_test : (test : Bool) → is_utf8 text ≡ test → is_utf8 text ≡ false
    no_test true is = absurd (is_not (IsUtf8-from_is_utf8 text is))
    no_test false is = is
