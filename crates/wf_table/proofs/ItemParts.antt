-- Items in the parts that they are read in.
use Rattle.std.proofs.Common.{◌≡◌, Bool, true, false, ◌||◌, if◌then◌else◌, sym, List, [], ◌∷◌, Result, refl, ap, ◌∙◌}
use Rattle.std.specs.Str.{bytes_eq}
use Rattle.std.specs.List.{list_any}
use Rattle.wf_model.specs.declared.plan.Item.{Item}
use Rattle.wf_model.specs.declared.plan.Item.TheVariants as item
use Rattle.wf_model.specs.declared.table.Names.{Names}
use Rattle.wf_model.specs.Letters.{Text, is_among}
use Rattle.std.specs.Prelude.{codes}
use Rattle.wf_model.specs.declared.table.TableKind.{TableKind}
use Rattle.wf_model.specs.Tokens.{At, is_next, syntax}
use Rattle.wf_model.specs.Table.{exchange, item_reader, phase, phase_names, swap}
use Rattle.wf_model.proofs.ReadingLemmas.{chain_assoc}
use Rattle.wf_table.specs.Items.{extent_of, is_named, phase_at, target_of}

-- a phase
phase_is : (names : Names) (before : List Item) (at : At) → phase names before at ≡ phase_at names before at
unfolding phase_at target_of extent_of
phase_is names before at = simp chain_assoc

-- an item by the tests of its first word
by_words : Names → List Item → At → Bool → Bool → Bool → Bool → Result (Item × At) TableKind
by_words names before at is_halo is_period is_swap is_phase =
    if is_halo then exchange names.halos item.Halo at
    else (if is_period then exchange names.periods item.Period at
    else (if is_swap then swap names at
    else (if is_phase then phase names before at else syntax at)))

-- the first word is `phase`
pub phase_item : (names : Names) (before : List Item) (at : At) → is_next (codes "halo") at ≡ false → is_next (codes "period") at ≡ false → is_next (codes "swap") at ≡ false
    → is_next (codes "phase") at ≡ true → phase_at names before at ≡ item_reader names before at
unfolding by_words
phase_item names before at no_halo no_period no_swap is =
    let words : item_reader names before at ≡ by_words names before at false false false true = λ i. by_words names before at (no_halo i) (no_period i) (no_swap i) (is i) in
    sym (words ∙ phase_is names before at)

-- a name among those of the phases
pub is_named_among : (name : Text) (before : List Item) → list_any (is_named name) before ≡ is_among name (phase_names before)
is_named_among name [] = refl
is_named_among name (item.Halo parts ∷ rest) = is_named_among name rest
is_named_among name (item.Period parts ∷ rest) = is_named_among name rest
is_named_among name (item.Swap m n ∷ rest) = is_named_among name rest
is_named_among name (item.Phase ph ∷ rest) = ap (λ b. bytes_eq name ph.name || b) (is_named_among name rest)
