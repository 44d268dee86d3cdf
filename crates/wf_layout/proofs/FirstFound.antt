-- A loop over domains that looks for the first fault, and tests in stages.
use Rattle.std.proofs.Common.{◌≡◌, ℕ, suc, ◌+◌, ◌-◌, ◌*◌, ◌<◌, ◌≤◌, true, false, List, ◌++◌, length, Option, Some, None, is_some, refl, sym, ap, ◌∙◌, arith}
use Rattle.std.specs.Prelude.{flat_map, nat_lt}
use Rattle.std.specs.List.{range_with_len}
use Rattle.std.specs.Option.{option_or}
use Rattle.std.proofs.lemmas.Bool.{false≢true}
use Rattle.std.proofs.lemmas.Bool.Decides.{nat_tests}
use Rattle.wf_model.specs.declared.plan.Plan.{Plan}
use Rattle.wf_model.specs.declared.layout.Layout.{Layout}
use Rattle.wf_model.specs.declared.plan_fault.LayoutFault.{LayoutFault}
use Rattle.wf_model.specs.declared.plan_fault.LayoutFault.TheVariants.{TooManyPatches}
use Rattle.wf_model.specs.Plans.{domain_of}
use Rattle.wf_model.specs.Reading.{fault_if, first_fault}
use Rattle.wf_model.specs.PlanOf.{patches_faults, layout_faults}
use Rattle.wf_model.proofs.ReadingLemmas.{first_fault-append}
use Rattle.wf_config_laws.proofs.Passed.{neither, both_passed, passed_if}
use Rattle.wf_layout.specs.Faults.{all_patches_faults, size_faults}

-- a fault that is found stays, and where there is none the rest decides
stays : {F : Type 0} (fault rest : Option F) → is_some fault ≡ true → fault ≡ option_or fault rest
stays None rest e = absurd (false≢true e)
stays (Some f) rest e = refl

goes : {F : Type 0} (fault rest : Option F) → is_some fault ≡ false → rest ≡ option_or fault rest
goes None rest e = refl
goes (Some f) rest e = absurd (false≢true (sym e))

is_none : {F : Type 0} (fault : Option F) → is_some fault ≡ false → fault ≡ None
is_none None e = refl
is_none (Some f) e = absurd (false≢true (sym e))

-- ---- over numbers, of which each has a list of tests

-- the first fault of those from one up to below another
abbrev pub first_from : {F : Type 0} → (ℕ → List (Option F)) → ℕ → ℕ → Option F
first_from f d end = first_fault (flat_map f (range_with_len d (end - d)))

more : {F : Type 0} (f : ℕ → List (Option F)) (d end : ℕ) → d < end → first_from f d end ≡ option_or (first_fault (f d)) (first_from f (d + 1) end)
more f d end within =
    let count : end - d ≡ suc (end - (d + 1)) = omega arith in
    ap (λ (n : ℕ). first_fault (flat_map f (range_with_len d n))) count ∙ first_fault-append (f d) (flat_map f (range_with_len (d + 1) (end - (d + 1))))

pub met : {F : Type 0} (f : ℕ → List (Option F)) (d end : ℕ) (fault total : Option F)
    → d < end → fault ≡ first_fault (f d) → is_some fault ≡ true → first_from f d end ≡ total → fault ≡ total
met f d end fault total within is some so_far =
    stays fault (first_from f (d + 1) end) some ∙ ap (λ o. option_or o (first_from f (d + 1) end)) is ∙ sym (more f d end within) ∙ so_far

pub passed : {F : Type 0} (f : ℕ → List (Option F)) (d end : ℕ) (fault total : Option F)
    → d < end → fault ≡ first_fault (f d) → is_some fault ≡ false → first_from f d end ≡ total → first_from f (d + 1) end ≡ total
passed f d end fault total within is none so_far =
    goes fault (first_from f (d + 1) end) none ∙ ap (λ o. option_or o (first_from f (d + 1) end)) is ∙ sym (more f d end within) ∙ so_far

pub none_left : {F : Type 0} (f : ℕ → List (Option F)) (d end : ℕ) (total : Option F) → end ≤ d → first_from f d end ≡ total → None ≡ total
none_left f d end total past so_far =
    let count : end - d ≡ 0 = omega arith in
    sym (ap (λ (n : ℕ). first_fault (flat_map f (range_with_len d n))) count) ∙ so_far

pub all_ahead : {F : Type 0} (f : ℕ → List (Option F)) (last n : ℕ) → last ≡ n → first_from f 1 (last + 1) ≡ first_fault (flat_map f (range_with_len 1 n))
all_ahead f last n is =
    let count : last + 1 - 1 ≡ n = omega arith in
    ap (λ (m : ℕ). first_fault (flat_map f (range_with_len 1 m))) count

-- ---- patches, and then what they come to

at_most : (n m : ℕ) → nat_lt n m ≡ false → m ≤ n
at_most n m e = grind (arith, nat_tests)

pub few_patches : (plan : Plan) (l : Layout) (fault : Option LayoutFault) → 1 ≤ length plan.domains → fault ≡ first_fault (all_patches_faults plan l) → is_some fault ≡ false → l.nproc_x * l.nproc_y ≤ 256
few_patches plan l fault some is none =
    let count : length plan.domains ≡ suc (length plan.domains - 1) = omega arith in
    let all : first_fault (patches_faults plan l 1 ++ flat_map (patches_faults plan l) (range_with_len 2 (length plan.domains - 1))) ≡ None
    = sym (ap (λ (n : ℕ). first_fault (flat_map (patches_faults plan l) (range_with_len 1 n))) count) ∙ sym is ∙ is_none fault none in
    let first = (both_passed (patches_faults plan l 1) (flat_map (patches_faults plan l) (range_with_len 2 (length plan.domains - 1))) all).0 in
    let one = neither (fault_if (nat_lt ((domain_of plan 1).ide - 1) l.nproc_x) (TooManyPatches 1 l.nproc_x)) _ first in
    let two = neither (fault_if (nat_lt ((domain_of plan 1).jde - 1) l.nproc_y) (TooManyPatches 1 l.nproc_y)) _ one.1 in
    let three = neither (fault_if (nat_lt 256 (l.nproc_x * l.nproc_y)) (TooManyPatches 1 (l.nproc_x * l.nproc_y))) None two.1 in
    at_most 256 (l.nproc_x * l.nproc_y) (passed_if _ _ three.0)

pub met_first : (plan : Plan) (l : Layout) (fault : Option LayoutFault) → fault ≡ first_fault (all_patches_faults plan l) → is_some fault ≡ true → fault ≡ first_fault (layout_faults plan l)
unfolding layout_faults
met_first plan l fault is some =
    stays fault (first_fault (size_faults plan l)) some ∙ ap (λ o. option_or o (first_fault (size_faults plan l))) is ∙ sym (first_fault-append (all_patches_faults plan l) (size_faults plan l))

pub met_later : (plan : Plan) (l : Layout) (fault : Option LayoutFault) → fault ≡ first_fault (all_patches_faults plan l) → is_some fault ≡ false → first_fault (size_faults plan l) ≡ first_fault (layout_faults plan l)
unfolding layout_faults
met_later plan l fault is none =
    goes fault (first_fault (size_faults plan l)) none ∙ ap (λ o. option_or o (first_fault (size_faults plan l))) is ∙ sym (first_fault-append (all_patches_faults plan l) (size_faults plan l))
