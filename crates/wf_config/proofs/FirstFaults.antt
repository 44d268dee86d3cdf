-- A loop that looks for the first fault.
use Rattle.std.proofs.Common.{◌≡◌, ℕ, ◌+◌, ◌<◌, true, List, map, length, drop, get_or, Option, Some, None, is_some, refl, sym, ap, ◌∙◌}
use Rattle.std.specs.List.{enumerate_from}
use Rattle.std.specs.Option.{option_or}
use Rattle.std.proofs.lemmas.Bool.{false≢true}
use Rattle.wf_model.specs.Reading.{first_fault}
use Rattle.wf_config.proofs.LookUps.{drop_at}

stays : {F : Type 0} (fault rest : Option F) → is_some fault ≡ true → fault ≡ option_or fault rest
stays None rest e = absurd (false≢true e)
stays (Some f) rest e = refl

pub or_none : {F : Type 0} (fault : Option F) → option_or fault None ≡ fault
or_none None = refl
or_none (Some f) = refl

-- ---- the same of items with their numbers

abbrev numbered : {A F : Type 0} → (ℕ × A → Option F) → ℕ → List A → Option F
numbered f n xs = first_fault (map f (enumerate_from n xs))

pub met_numbered : {A F : Type 0} (f : ℕ × A → Option F) (xs : List A) (i : ℕ) (x : A) (fault total : Option F)
    → i < length xs → x ≡ get_or xs i x → fault ≡ f (i + 1, x) → is_some fault ≡ true
    → numbered f (i + 1) (drop i xs) ≡ total → fault ≡ total
met_numbered f xs i x fault total within is same with_one so_far =
    stays fault (numbered f (i + 1 + 1) (drop (i + 1) xs)) with_one
    ∙ ap (λ o. option_or o (numbered f (i + 1 + 1) (drop (i + 1) xs))) same
    ∙ ap (numbered f (i + 1)) (sym (drop_at xs i x within is)) ∙ so_far
