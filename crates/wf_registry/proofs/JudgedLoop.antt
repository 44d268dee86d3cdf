-- Lines judged one after another, a turn of the loop.
use Rattle.std.proofs.Common.{◌≡◌, ◌∙◌, sym, ap, refl, ℕ, ◌+◌, ◌<◌, ◌≤◌, List, [], ◌∷◌, map, length, drop, get_or, Option, Some, None, Result, Ok, Err, subst, add-one, drop-cons}
use Rattle.std.proofs.lemmas.List.{drop_all}
use Rattle.wf_model.specs.declared.registry.Entry.{Entry}
use Rattle.wf_model.specs.declared.registry.SourceFile.{SourceFile}
use Rattle.wf_model.specs.declared.registry.RegistryFault.{RegistryFault}
use Rattle.wf_model.specs.declared.registry.RegistryKind.{RegistryKind}
use Rattle.wf_model.specs.Reading.{◌>>=◌, Fails, told_as}
use Rattle.wf_model.specs.KeptLines.{Kept}
use Rattle.wf_model.specs.Registry.{fault_at}
use Rattle.wf_registry_lines.specs.Kept.{kept_in}
use Rattle.wf_registry_lines.specs.declared.KeptLine.{KeptLine}
use Rattle.wf_registry.specs.Judged.{TellsAt, lines_judged, words_judged}

-- what is left of a list, where one of its items is met
drop_at : {X : Type 0} (xs : List X) (i : ℕ) (d : X) → i < length xs → drop i xs ≡ get_or xs i d ∷ drop (i + 1) xs
drop_at xs i d within = drop-cons xs i d within ∙ rw add-one refl

one_more : (all before after : List Entry) (k : Kept) (ls : List Kept) → words_judged all before k.words ≡ Ok after → lines_judged all before (k ∷ ls) ≡ lines_judged all after ls
unfolding lines_judged
one_more all before after k ls read = ap (λ (r : Result (List Entry) RegistryKind). told_as (fault_at k) r >>= λ es. lines_judged all es ls) read

one_wrong : (all before : List Entry) (k : Kept) (ls : List Kept) (kind : RegistryKind) → words_judged all before k.words ≡ Err kind → lines_judged all before (k ∷ ls) ≡ Err (fault_at k kind)
unfolding lines_judged
one_wrong all before k ls kind read = ap (λ (r : Result (List Entry) RegistryKind). told_as (fault_at k) r >>= λ es. lines_judged all es ls) read

no_more : (all before : List Entry) → lines_judged all before [] ≡ Ok before
unfolding lines_judged
no_more all before = refl

pub judged_more : (all before after : List Entry) (files : List SourceFile) (lines : List KeptLine) (i : ℕ) (d : KeptLine) (total : Result (List Entry) RegistryFault)
    → i < length lines → words_judged all before (kept_in files (get_or lines i d)).words ≡ Ok after
    → lines_judged all before (map (kept_in files) (drop i lines)) ≡ total → lines_judged all after (map (kept_in files) (drop (i + 1) lines)) ≡ total
judged_more all before after files lines i d total within read so_far =
    sym (one_more all before after (kept_in files (get_or lines i d)) (map (kept_in files) (drop (i + 1) lines)) read)
    ∙ ap (λ ls. lines_judged all before (map (kept_in files) ls)) (sym (drop_at lines i d within)) ∙ so_far

tells : (k : Kept) (rule : Option RegistryKind) (told : Option RegistryFault) (read : Result (List Entry) RegistryKind) (total : Result (List Entry) RegistryFault)
    → ((kind : RegistryKind) → read ≡ Err kind → total ≡ Err (fault_at k kind)) → Fails rule read → TellsAt k rule told → Fails told total
tells k None told read total wrong fails tell = subst (λ (t : Option RegistryFault). Fails t total) (sym tell) tt
tells k (Some kind) None read total wrong fails tell = tt
tells k (Some kind) (Some f) read total wrong fails tell = wrong kind fails ∙ ap (λ (x : RegistryFault). Err x) (sym tell)

pub judged_fails : (all before : List Entry) (files : List SourceFile) (lines : List KeptLine) (i : ℕ) (d : KeptLine) (total : Result (List Entry) RegistryFault) (rule : Option RegistryKind) (told : Option RegistryFault)
    → i < length lines → Fails rule (words_judged all before (kept_in files (get_or lines i d)).words) → TellsAt (kept_in files (get_or lines i d)) rule told
    → lines_judged all before (map (kept_in files) (drop i lines)) ≡ total → Fails told total
judged_fails all before files lines i d total rule told within fails tell so_far =
    tells (kept_in files (get_or lines i d)) rule told (words_judged all before (kept_in files (get_or lines i d)).words) total
    (λ kind read. sym so_far ∙ ap (λ ls. lines_judged all before (map (kept_in files) ls)) (drop_at lines i d within) ∙ one_wrong all before (kept_in files (get_or lines i d)) (map (kept_in files) (drop (i + 1) lines)) kind read)
    fails tell

pub all_judged : (all before : List Entry) (files : List SourceFile) (lines : List KeptLine) (i : ℕ) (total : Result (List Entry) RegistryFault)
    → length lines ≤ i → lines_judged all before (map (kept_in files) (drop i lines)) ≡ total → total ≡ Ok before
all_judged all before files lines i total end so_far =
    sym so_far ∙ ap (λ ls. lines_judged all before (map (kept_in files) ls)) (drop_all i lines end) ∙ no_more all before
