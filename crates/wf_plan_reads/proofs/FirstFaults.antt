-- Loops that look for the first fault, and the first fault of tests in order.
use Rattle.std.proofs.Common.{◌≡◌, ◌∙◌, sym, ap, refl, ℕ, suc, ◌+◌, ◌-◌, ◌<◌, ◌≤◌, List, [], ◌∷◌, ◌++◌, Bool, true, false, cond, drop, drop-cons, get_or, length, map, is_some, add-one, arith, Option, Some, None}
use Rattle.std.specs.Prelude.{ℤ, pos, int_lt, flat_map, find}
use Rattle.std.specs.Option.{option_map, option_or}
use Rattle.std.proofs.lemmas.Bool.{false≢true}
use Rattle.std.proofs.lemmas.List.{drop_all, get_or_default}
use Rattle.std.proofs.lemmas.List.FromFn.{get_or-range_with_len, length-range_with_len}
use Rattle.wf_model.specs.declared.plan.Domain.{Domain}
use Rattle.wf_model.specs.declared.plan.Item.{Item}
use Rattle.wf_model.specs.declared.plan.Item.TheVariants as item
use Rattle.wf_model.specs.declared.plan.Phase.{Phase}
use Rattle.wf_model.specs.declared.plan.Plan.{Plan}
use Rattle.wf_model.specs.declared.plan_fault.PlanFault.{PlanFault}
use Rattle.wf_model.specs.Plans.{domain_of, domains_of, no_domain}
use Rattle.wf_model.specs.PlanTests.{Faults, extent_at, phases, phase_edges, phase_levels, read_faults}
use Rattle.wf_model.specs.Reading.{fault_if, first_fault}
use Rattle.wf_model.specs.Reads.{Read, reads_of}
use Rattle.wf_model.proofs.ReadingLemmas.{first_fault-append}
use Rattle.wf_plan_reads.specs.Regions.{edges_in, first_of, has_region_in, leaves_edges, leaves_levels, levels_in, of_item, past_edge, past_levels}

-- ---- loops

-- the first item and those behind it
drop_at : {A : Type 0} (xs : List A) (i : ℕ) (x : A) → i < length xs → x ≡ get_or xs i x → drop i xs ≡ x ∷ drop (i + 1) xs
drop_at xs i x within is = drop-cons xs i x within ∙ ap (λ y. y ∷ drop (suc i) xs) (sym is) ∙ rw add-one refl

stays : {F : Type 0} (fault rest : Option F) → is_some fault ≡ true → fault ≡ option_or fault rest
stays None rest e = absurd (false≢true e)
stays (Some f) rest e = refl

pub none_is : {F : Type 0} (fault : Option F) → is_some fault ≡ false → None ≡ fault
none_is None e = refl
none_is (Some f) e = absurd (false≢true (sym e))

module _ {A F : Type 0} (tests : A → List (Option F)) (xs : List A) (i : ℕ) where
  -- the tests of one item, and then of those behind it
  next : (x : A) → i < length xs → x ≡ get_or xs i x → first_fault (flat_map tests (drop i xs)) ≡ option_or (first_fault (tests x)) (first_fault (flat_map tests (drop (i + 1) xs)))
  next x within is =
      ap (λ ys. first_fault (flat_map tests ys)) (drop_at xs i x within is) ∙ first_fault-append (tests x) (flat_map tests (drop (i + 1) xs))

  -- an item has no fault
  pub passed : (x : A) (total : Option F) → i < length xs → x ≡ get_or xs i x → None ≡ first_fault (tests x)
      → first_fault (flat_map tests (drop i xs)) ≡ total → first_fault (flat_map tests (drop (i + 1) xs)) ≡ total
  passed x total within is none so_far =
      ap (λ o. option_or o (first_fault (flat_map tests (drop (i + 1) xs)))) none ∙ sym (next x within is) ∙ so_far

  -- an item has a fault
  pub met : (x : A) (fault total : Option F) → i < length xs → x ≡ get_or xs i x → fault ≡ first_fault (tests x) → is_some fault ≡ true
      → first_fault (flat_map tests (drop i xs)) ≡ total → fault ≡ total
  met x fault total within is same with_one so_far =
      stays fault (first_fault (flat_map tests (drop (i + 1) xs))) with_one
      ∙ ap (λ o. option_or o (first_fault (flat_map tests (drop (i + 1) xs)))) same ∙ sym (next x within is) ∙ so_far

  -- no item has one
  pub all_passed : (total : Option F) → length xs ≤ i → first_fault (flat_map tests (drop i xs)) ≡ total → None ≡ total
  all_passed total end so_far = ap (λ ys. first_fault (flat_map tests ys)) (sym (drop_all i xs end)) ∙ so_far

-- ---- domains by their numbers

pub number_within : (plan : Plan) (i : ℕ) → i < length plan.domains → i < length (domains_of plan)
number_within plan i within = let same = length-range_with_len 1 (length plan.domains) in omega (arith, same)

pub number_end : (plan : Plan) (i : ℕ) → length plan.domains ≤ i → length (domains_of plan) ≤ i
number_end plan i end = let same = length-range_with_len 1 (length plan.domains) in omega (arith, same)

pub number_at : (plan : Plan) (i : ℕ) → i < length plan.domains → i + 1 ≡ get_or (domains_of plan) i (i + 1)
number_at plan i within = let here = get_or-range_with_len 1 (length plan.domains) i (i + 1) within in omega (arith, here)

pub domain_at : (plan : Plan) (i : ℕ) (x : Domain) → i < length plan.domains → x ≡ get_or plan.domains i x → x ≡ domain_of plan (i + 1)
unfolding domain_of
domain_at plan i x within is =
    let back : i + 1 - 1 ≡ i = omega arith in
    is ∙ get_or_default plan.domains i x no_domain within ∙ ap (λ k. get_or plan.domains k no_domain) (sym back)

-- ---- phases among items

of_phases : (test : Phase → Faults) (items : List Item) → flat_map test (phases items) ≡ flat_map (of_item test) items
of_phases test [] = refl
of_phases test (item.Phase ph ∷ rest) = ap (λ fs. test ph ++ fs) (of_phases test rest)
of_phases test (item.Halo parts ∷ rest) = of_phases test rest
of_phases test (item.Period parts ∷ rest) = of_phases test rest
of_phases test (item.Swap a b ∷ rest) = of_phases test rest

abbrev pub all_levels : Plan → List ℤ → Faults
all_levels plan zs = flat_map (λ d. flat_map (of_item (levels_in plan zs (domain_of plan d))) plan.items) (domains_of plan)

abbrev pub all_edges : Plan → List ℤ → Faults
all_edges plan zs = flat_map (λ d. flat_map (of_item (edges_in plan zs d (domain_of plan d))) plan.items) (domains_of plan)

faults_are : (plan : Plan) (zs : List ℤ) → first_fault (read_faults plan zs) ≡ option_or (first_fault (all_levels plan zs)) (first_fault (all_edges plan zs))
unfolding read_faults
faults_are plan zs =
    (λ n. first_fault (flat_map (λ d. of_phases (phase_levels plan zs d) plan.items n) (domains_of plan) ++ flat_map (λ d. of_phases (phase_edges plan zs d) plan.items n) (domains_of plan)))
    ∙ first_fault-append (all_levels plan zs) (all_edges plan zs)

-- ---- tests of reads

one_read : (fault : ℕ → PlanFault) (b : Bool) (r : Read) (rest : Option PlanFault) (o : Option Read) → rest ≡ option_map fault (option_map (λ (r : Read). r.field) o)
    → option_or (fault_if b (fault r.field)) rest ≡ option_map fault (option_map (λ (r : Read). r.field) (cond b (Some r) o))
one_read fault true r rest o e = refl
one_read fault false r rest o e = e

-- the fault is that of the first read that fails
pub first_read : (test : Read → Bool) (fault : ℕ → PlanFault) (rs : List Read) → first_fault (map (λ (r : Read). fault_if (test r) (fault r.field)) rs) ≡ option_map fault (first_of test rs)
first_read test fault [] = refl
first_read test fault (r ∷ rs) = one_read fault (test r) r _ (find test rs) (first_read test fault rs)

module _ (test : Read → Bool) (fault : ℕ → PlanFault) (rs : List Read) where
  -- the first read that fails reads this level
  pub read_found : (field : ℕ) (result : Option PlanFault) → first_of test rs ≡ Some field → result ≡ Some (fault field)
      → result ≡ first_fault (map (λ (r : Read). fault_if (test r) (fault r.field)) rs)
  read_found field result found is = is ∙ sym (first_read test fault rs ∙ ap (option_map fault) found)

  -- no read fails
  pub read_none : first_of test rs ≡ None → None ≡ first_fault (map (λ (r : Read). fault_if (test r) (fault r.field)) rs)
  read_none none = sym (first_read test fault rs ∙ ap (option_map fault) none)

-- ---- a phase

module _ (plan : Plan) (zs : List ℤ) (dom : Domain) (ph : Phase) (fits : int_lt (extent_at zs ph.writes) (pos ph.to) ≡ false) (has : has_region_in plan dom zs ph ≡ true) where
  levels_are : first_fault (levels_in plan zs dom ph) ≡ first_fault (map (λ (r : Read). fault_if (leaves_levels plan zs ph r) (past_levels plan ph r.field)) (reads_of ph.expr))
  levels_are =
      ap (λ b. first_fault (fault_if b (past_levels plan ph ph.writes) ∷ cond (has_region_in plan dom zs ph) (map (λ (r : Read). fault_if (leaves_levels plan zs ph r) (past_levels plan ph r.field)) (reads_of ph.expr)) [])) fits
      ∙ ap (λ b. first_fault (cond b (map (λ (r : Read). fault_if (leaves_levels plan zs ph r) (past_levels plan ph r.field)) (reads_of ph.expr)) [])) has

  pub levels_found : (field : ℕ) (result : Option PlanFault) → first_of (leaves_levels plan zs ph) (reads_of ph.expr) ≡ Some field → result ≡ Some (past_levels plan ph field)
      → result ≡ first_fault (levels_in plan zs dom ph)
  levels_found field result found is = read_found (leaves_levels plan zs ph) (past_levels plan ph) (reads_of ph.expr) field result found is ∙ sym levels_are

  pub levels_none : first_of (leaves_levels plan zs ph) (reads_of ph.expr) ≡ None → None ≡ first_fault (levels_in plan zs dom ph)
  levels_none none = read_none (leaves_levels plan zs ph) (past_levels plan ph) (reads_of ph.expr) none ∙ sym levels_are

module _ (plan : Plan) (zs : List ℤ) (d : ℕ) (dom : Domain) (ph : Phase) (has : has_region_in plan dom zs ph ≡ true) where
  edges_are : first_fault (edges_in plan zs d dom ph) ≡ first_fault (map (λ (r : Read). fault_if (leaves_edges plan dom ph r) (past_edge plan d ph r.field)) (reads_of ph.expr))
  edges_are = ap (λ b. first_fault (cond b (map (λ (r : Read). fault_if (leaves_edges plan dom ph r) (past_edge plan d ph r.field)) (reads_of ph.expr)) [])) has

  pub edges_found : (field : ℕ) (result : Option PlanFault) → first_of (leaves_edges plan dom ph) (reads_of ph.expr) ≡ Some field → result ≡ Some (past_edge plan d ph field)
      → result ≡ first_fault (edges_in plan zs d dom ph)
  edges_found field result found is = read_found (leaves_edges plan dom ph) (past_edge plan d ph) (reads_of ph.expr) field result found is ∙ sym edges_are

  pub edges_none : first_of (leaves_edges plan dom ph) (reads_of ph.expr) ≡ None → None ≡ first_fault (edges_in plan zs d dom ph)
  edges_none none = read_none (leaves_edges plan dom ph) (past_edge plan d ph) (reads_of ph.expr) none ∙ sym edges_are

-- ---- both tests

pub levels_first : (plan : Plan) (zs : List ℤ) (fault : Option PlanFault) → fault ≡ first_fault (all_levels plan zs) → is_some fault ≡ true → fault ≡ first_fault (read_faults plan zs)
levels_first plan zs fault is some =
    stays fault (first_fault (all_edges plan zs)) some ∙ ap (λ o. option_or o (first_fault (all_edges plan zs))) is ∙ sym (faults_are plan zs)

pub edges_then : (plan : Plan) (zs : List ℤ) (levels edges : Option PlanFault) → levels ≡ first_fault (all_levels plan zs) → is_some levels ≡ false → edges ≡ first_fault (all_edges plan zs)
    → edges ≡ first_fault (read_faults plan zs)
edges_then plan zs levels edges is none there =
    there ∙ ap (λ o. option_or o (first_fault (all_edges plan zs))) (none_is levels none ∙ is) ∙ sym (faults_are plan zs)
