-- What the domains begin with, put together.
use Rattle.std.proofs.Common.{◌≡◌, ◌∙◌, ⊎_elim, sym, ap, ap₂, refl, subst, ℕ, zero, suc, ◌+◌, ◌-◌, ◌*◌, ◌<◌, ◌≤◌, Bool, true, false, cond, List, [], ◌∷◌, ◌++◌, map, length, get_or, Result, Ok, Err, Option, IfErr, arith, append_assoc, add-zero}
use Rattle.std.specs.Prelude.{ℤ, pos, ◌≤ℤ◌, filter, IsTrue, IsFalse, Contains, ◌&&◌, ◌||◌, ◌==◌, int_le, slice_index_or}
use Rattle.std.specs.List.{range_with_len}
use Rattle.std.proofs.lemmas.Bool.{cases_lt}
use Rattle.std.proofs.lemmas.List.{append-nil, nil_from_length, get_or-map, length-map, get_or_past, get_or_push, length_push, map_push, get_or_append_left}
use Rattle.wf_model.specs.declared.initial.Begin.{Begin}
use Rattle.wf_model.specs.declared.initial.Initial.{Initial}
use Rattle.wf_model.specs.declared.plan.Plan.{Plan}
use Rattle.wf_model.specs.declared.plan_fault.InputFault.{InputFault}
use Rattle.wf_model.specs.Dates.{is_stamp}
use Rattle.wf_model.specs.Files.{Files}
use Rattle.wf_model.specs.InputOf.{DomainBegin, domain_begin, initial_from, input_file, input_of, restart_file, resumed_if, started}
use Rattle.wf_model.specs.Letters.{Text}
use Rattle.wf_model.specs.Outcome.{no_list, no_lists}
use Rattle.wf_model.specs.Plans.{begin_of, domain_of, domains_of, no_begin, nx, ny, nz}
use Rattle.wf_model.specs.Reading.{◌>>=◌, Fails, each}
use Rattle.wf_model.specs.Sound.{IsDomain, IsFittingInitial, IsLevel, IsRangedPlan, IsSoundBegin}
use Rattle.wf_model.proofs.ReadingLemmas.{with_front, with_front-nil, each-step, Fails-each, Fails-chain, Fails-along, with_front-end}
use Rattle.wf_stream.specs.declared.input.InputError.{InputError}
use Rattle.wf_stream.specs.declared.input.InputError.TheVariants as input
use Rattle.wf_stream.specs.declared.input_file.DomainStart.{DomainStart}
use Rattle.wf_stream.specs.Inputs.{FaultAmong, input_names}
use Rattle.wf_stream.specs.Starts.{FaultOn, FitDomains, FitsDomain, begin_in}

-- ---- parts of items, taken one by one

pub items_more : {X Y : Type 0} (part : X → Y) (front new : List Y) (rest later all : List X) (x : X) → rest ≡ x ∷ later → new ≡ front ++ part x ∷ []
    → front ++ map part rest ≡ map part all → new ++ map part later ≡ map part all
items_more {X} {Y} part front new rest later all x is pushed so_far =
    ap (λ (ys : List Y). ys ++ map part later) pushed ∙ append_assoc front (part x ∷ []) (map part later)
    ∙ ap (λ (xs : List X). front ++ map part xs) (sym is) ∙ so_far

pub items_all : {X Y : Type 0} (part : X → Y) (front : List Y) (rest all : List X) → length rest ≡ 0 → front ++ map part rest ≡ map part all → front ≡ map part all
items_all {X} {Y} part front rest all none so_far =
    sym (append-nil front) ∙ ap (λ (xs : List X). front ++ map part xs) (sym (nil_from_length rest none)) ∙ so_far

map_twice : {X Y Z : Type 0} (g : Y → Z) (f : X → Y) (xs : List X) → map g (map f xs) ≡ map (λ x. g (f x)) xs
map_twice g f [] = refl
map_twice g f (x ∷ xs) = ap (λ (zs : List _). g (f x) ∷ zs) (map_twice g f xs)

pub initial_is : (starts : List DomainStart) (grids : List (List (List ℤ))) (begins : List Begin) → grids ≡ map DomainStart.grids starts → begins ≡ map DomainStart.begin starts
    → (let i : Initial = record { grids = grids; begins = begins } in i) ≡ initial_from (map begin_in starts)
initial_is starts grids begins p q =
    ap₂ (λ (g : List (List (List ℤ))) (b : List Begin). let i : Initial = record { grids = g; begins = b } in i)
    (p ∙ sym (map_twice DomainBegin.grids begin_in starts)) (q ∙ sym (map_twice DomainBegin.begin begin_in starts))

-- ---- a plan without restart

-- no domain resumes
not_resumed : (files : Files) (plan : Plan) → IsFalse plan.restart → (d : ℕ) → domain_begin files plan d ≡ started files plan d
not_resumed files plan off d =
    ap (λ (b : Bool). cond (b && ((d == 1) || int_le (domain_of plan d).begins (pos 0))) (resumed_if files plan d (files (restart_file plan d))) (started files plan d)) off

-- the begin data are those of the domains that start
input_is : (files : Files) (plan : Plan) → IsFalse plan.restart → (each (started files plan) (domains_of plan) >>= λ ds. Ok (initial_from ds)) ≡ input_of files plan
unfolding input_of
input_is files plan off =
    let same : domain_begin files plan ≡ started files plan = λ i d. not_resumed files plan off d i in
    sym (ap (λ (begin : ℕ → Result DomainBegin InputFault). each begin (domains_of plan) >>= λ ds. Ok (initial_from ds)) same)

pub input_read : (files : Files) (plan : Plan) (ds : List DomainBegin) (initial : Initial) → IsFalse plan.restart → each (started files plan) (domains_of plan) ≡ Ok ds → initial ≡ initial_from ds
    → input_of files plan ≡ Ok initial
input_read files plan ds initial off read is =
    sym (input_is files plan off) ∙ ap (λ (r : Result (List DomainBegin) InputFault). r >>= λ xs. Ok (initial_from xs)) read ∙ ap (λ (i : Initial). Ok i) (sym is)

pub input_fails : (files : Files) (plan : Plan) (fault : Option InputFault) → IsFalse plan.restart → Fails fault (each (started files plan) (domains_of plan)) → Fails fault (input_of files plan)
input_fails files plan fault off fails =
    Fails-along fault _ (input_of files plan) (input_is files plan off) (Fails-chain fault (each (started files plan) (domains_of plan)) (λ ds. Ok (initial_from ds)) fails)

-- ---- one domain after another

module _ (read : ℕ → Result DomainBegin InputFault) (n : ℕ) where
  -- what is read from domain i + 1 on
  pub left : ℕ → Result (List DomainBegin) InputFault
  left i = each read (range_with_len (i + 1) (n - i))

  next_left : (i : ℕ) → i < n → range_with_len (i + 1) (n - i) ≡ (i + 1) ∷ range_with_len (i + 1 + 1) (n - (i + 1))
  next_left i lt = let e : n - i ≡ suc (n - (i + 1)) = omega arith in ap (λ (k : ℕ). range_with_len (i + 1) k) e

  pub none_read : with_front [] (left 0) ≡ each read (range_with_len 1 n)
  unfolding left
  none_read = let e : n - 0 ≡ n = omega arith in with_front-nil (each read (range_with_len 1 (n - 0))) ∙ ap (λ (k : ℕ). each read (range_with_len 1 k)) e

  pub one_read : (i : ℕ) (starts new : List DomainStart) (start : DomainStart) (total : Result (List DomainBegin) InputFault) → i < n → read (i + 1) ≡ Ok (begin_in start) → new ≡ starts ++ start ∷ []
      → with_front (map begin_in starts) (left i) ≡ total → with_front (map begin_in new) (left (i + 1)) ≡ total
  unfolding left
  one_read i starts new start total lt here pushed so_far =
      ap (λ (xs : List DomainStart). with_front (map begin_in xs) (each read (range_with_len (i + 1 + 1) (n - (i + 1))))) pushed
      ∙ ap (λ (ds : List DomainBegin). with_front ds (each read (range_with_len (i + 1 + 1) (n - (i + 1))))) (map_push begin_in starts start)
      ∙ each-step read (map begin_in starts) (i + 1) (range_with_len (i + 1 + 1) (n - (i + 1))) (begin_in start) total here
      (ap (λ (r : List ℕ). with_front (map begin_in starts) (each read r)) (sym (next_left i lt)) ∙ so_far)

  pub none_more : (fault : Option InputFault) (i : ℕ) (starts : List DomainStart) (total : Result (List DomainBegin) InputFault) → i < n → Fails fault (read (i + 1))
      → with_front (map begin_in starts) (left i) ≡ total → Fails fault total
  unfolding left
  none_more fault i starts total lt fails so_far =
      Fails-each fault read (map begin_in starts) (i + 1) (range_with_len (i + 1 + 1) (n - (i + 1))) total fails
      (ap (λ (r : List ℕ). with_front (map begin_in starts) (each read r)) (sym (next_left i lt)) ∙ so_far)

  pub all_read : (i : ℕ) (starts : List DomainStart) (total : Result (List DomainBegin) InputFault) → n ≤ i → with_front (map begin_in starts) (left i) ≡ total → total ≡ Ok (map begin_in starts)
  unfolding left
  all_read i starts total end so_far =
      let e : n - i ≡ 0 = omega arith in
      with_front-end (map begin_in starts) total (ap (λ (k : ℕ). with_front (map begin_in starts) (each read (range_with_len (i + 1) k))) (sym e) ∙ so_far)

-- ---- what fits

pub fit_more : (plan : Plan) (starts new : List DomainStart) (start : DomainStart) (i : ℕ) → length starts ≡ i → new ≡ starts ++ start ∷ [] → FitsDomain plan (i + 1) start → FitDomains plan starts
    → FitDomains plan new
fit_more plan starts new start i count pushed fits so_far =
    subst (λ (xs : List DomainStart). FitDomains plan xs) (sym pushed)
    (λ k none lt. ⊎_elim
    (λ (h : k < i). subst (λ (x : DomainStart). FitsDomain plan (k + 1) x) (sym (get_or_append_left starts (start ∷ []) none k (omega (arith, count)))) (so_far k none (omega (arith, count))))
    (λ (h : i ≤ k). let e : k ≡ i = omega (arith, count, length_push starts start) in
    subst (λ (x : DomainStart). FitsDomain plan (k + 1) x) (sym (get_or_push starts start none k (count ∙ sym e))) (subst (λ (m : ℕ). FitsDomain plan (m + 1) start) (sym e) fits))
    (cases_lt k i))

-- a start of nothing, which stands for a number past the end
no_start : DomainStart
no_start = record { begin = record { steps = 0; start_text = []; resumed = false }; grids = [] }

module _ (plan : Plan) (starts : List DomainStart) (count : length starts ≡ length plan.domains) (fits : FitDomains plan starts) where
  here : ℕ → DomainStart
  here d = get_or starts (d - 1) no_start

  fits_here : (d : ℕ) → d - 1 < length starts → FitsDomain plan (d - 1 + 1) (here d)
  unfolding here
  fits_here d lt = fits (d - 1) no_start lt

  fits_domain : (d : ℕ) → IsDomain plan d → FitsDomain plan d (here d)
  fits_domain d is = let e : d - 1 + 1 ≡ d = omega (arith, is.0) in subst (λ (n : ℕ). FitsDomain plan n (here d)) e (fits_here d (omega (arith, is.0, is.1, count)))

  grids_here : (d : ℕ) → d - 1 < length starts → slice_index_or (map DomainStart.grids starts) (d - 1) no_lists ≡ (here d).grids
  unfolding here
  grids_here d lt = get_or-map DomainStart.grids starts (d - 1) no_start no_lists lt

  begin_here : (d : ℕ) → d - 1 < length starts → begin_of (map DomainStart.begin starts) d ≡ (here d).begin
  unfolding here begin_of
  begin_here d lt = get_or-map DomainStart.begin starts (d - 1) no_start no_begin lt

  begin_past : (d : ℕ) → length starts ≤ d - 1 → begin_of (map DomainStart.begin starts) d ≡ no_begin
  unfolding begin_of
  begin_past d past = get_or_past (map DomainStart.begin starts) (d - 1) no_begin (omega (arith, length-map starts DomainStart.begin))

  sound_begin : (d : ℕ) → IsDomain plan d → IsSoundBegin plan d (begin_of (map DomainStart.begin starts) d)
  sound_begin d is =
      let f = fits_domain d is in
      let lt : d - 1 < length starts = omega (arith, is.0, is.1, count) in
      subst (λ (b : Begin). IsSoundBegin plan d b) (sym (begin_here d lt ∙ f.fresh))
      (record {
        steps = omega arith;
        start_text = subst (λ (b : Begin). IsTrue (is_stamp b.start_text)) f.fresh f.stamp;
        resumes = λ r. absurd (cc r);
        own_start = λ r. refl;
      })

  begun_fresh : (d : ℕ) → (begin_of (map DomainStart.begin starts) d).steps ≡ 0
  unfolding no_begin
  begun_fresh d =
      ⊎_elim
      (λ (lt : d - 1 < length starts). ap (λ (b : Begin). b.steps) (begin_here d lt ∙ (fits_here d lt).fresh))
      (λ (past : length starts ≤ d - 1). ap (λ (b : Begin). b.steps) (begin_past d past))
      (cases_lt (d - 1) (length starts))

  lists_here : (d f : ℕ) → IsDomain plan d → IsLevel plan f
      → length (slice_index_or (slice_index_or (map DomainStart.grids starts) (d - 1) no_lists) f no_list) ≡ nz plan f * (ny plan d f * nx plan d f)
  lists_here d f is level =
      ap (λ (lists : List (List ℤ)). length (slice_index_or lists f no_list)) (grids_here d (omega (arith, is.0, is.1, count))) ∙ (fits_domain d is).levels.sizes f level

  -- a domain that doesn't resume begins at the run's start or later
  begins_late : (d : ℕ) → IsRangedPlan plan → IsFalse plan.restart → IsDomain plan d → pos 0 ≤ℤ (domain_of plan d).begins
  begins_late d ranged off is =
      ⊎_elim
      (λ (nest : 1 < d). (ranged.nests d nest is).after_first off)
      (λ (first : d ≤ 1). let e : 1 ≡ d = omega (arith, is.0) in
      subst (λ (n : ℕ). pos 0 ≤ℤ (domain_of plan n).begins) e (subst (λ (t : ℤ). pos 0 ≤ℤ t) (sym ranged.first.begins) (omega arith)))
      (cases_lt 1 d)

  -- the begin data fit the plan
  pub fitting : IsRangedPlan plan → IsFalse plan.restart → IsFittingInitial plan (record { grids = map DomainStart.grids starts; begins = map DomainStart.begin starts })
  fitting ranged off = record {
    shape = record {
      domains = length-map starts DomainStart.grids ∙ count;
      levels = λ d is. ap (λ (lists : List (List ℤ)). length lists) (grids_here d (omega (arith, is.0, is.1, count))) ∙ (fits_domain d is).levels.count;
    };
    begins = length-map starts DomainStart.begin ∙ count;
    sound = sound_begin;
    first = λ on. absurd (cc (on, off));
    fresh = λ d f. begun_fresh d;
    started = λ d is f. begins_late d ranged off is;
    lists = lists_here;
  }

-- the same of the begin data that are made of them
pub fitting_initial : (plan : Plan) (starts : List DomainStart) (initial : Initial) → length starts ≡ length plan.domains → FitDomains plan starts → IsRangedPlan plan → IsFalse plan.restart
    → initial ≡ initial_from (map begin_in starts) → IsFittingInitial plan initial
fitting_initial plan starts initial count fits ranged off is =
    subst (λ (i : Initial). IsFittingInitial plan i) (initial_is starts (map DomainStart.grids starts) (map DomainStart.begin starts) refl refl ∙ sym is) (fitting plan starts count fits ranged off)

-- ---- names of input files

contains_next : {X : Type 0} (xs : List X) (y x : X) → Contains xs x → Contains (y ∷ xs) x
contains_next xs y x is = (suc is.0, omega (arith, is.1), is.2)

module _ (name : ℕ → Text) (test : ℕ → Bool) where
  picked_first : (a : ℕ) (rest : List ℕ) (b : Bool) → b ≡ true → Contains (map name (cond b (a ∷ rest) rest)) (name a)
  picked_first a rest true is = (0, omega arith, refl)
  picked_first a rest false is = absurd (cc is)

  picked_behind : (a : ℕ) (rest : List ℕ) (b : Bool) (x : Text) → Contains (map name rest) x → Contains (map name (cond b (a ∷ rest) rest)) x
  picked_behind a rest true x is = contains_next (map name rest) (name a) x is
  picked_behind a rest false x is = is

  -- the name of a number that is picked is among the names
  picked : (a n i : ℕ) → i < n → test (a + i) ≡ true → Contains (map name (filter test (range_with_len a n))) (name (a + i))
  picked a zero i lt is = absurd (omega arith)
  picked a (suc n) zero lt is =
      let z : a + 0 ≡ a = add-zero a in
      subst (λ (k : ℕ). Contains (map name (cond (test a) (a ∷ filter test (range_with_len (a + 1) n)) (filter test (range_with_len (a + 1) n)))) (name k)) (sym z)
      (picked_first a (filter test (range_with_len (a + 1) n)) (test a) (ap test (sym z) ∙ is))
  picked a (suc n) (suc i) lt is =
      let e : a + 1 + i ≡ a + suc i = omega arith in
      subst (λ (k : ℕ). Contains (map name (cond (test a) (a ∷ filter test (range_with_len (a + 1) n)) (filter test (range_with_len (a + 1) n)))) (name k)) e
      (picked_behind a (filter test (range_with_len (a + 1) n)) (test a) (name (a + 1 + i)) (picked (a + 1) n i (omega arith) (ap test e ∙ is)))

-- the input file of a domain is among the input files
input_named : (plan : Plan) (d : ℕ) → IsDomain plan d → IsTrue (domain_of plan d).from_file → Contains (input_names plan) (input_file d)
unfolding input_names
input_named plan d is from =
    let e : 1 + (d - 1) ≡ d = omega (arith, is.0) in
    subst (λ (k : ℕ). Contains (map input_file (filter (λ n. (domain_of plan n).from_file) (domains_of plan))) (input_file k)) e
    (picked input_file (λ n. (domain_of plan n).from_file) 1 (length plan.domains) (d - 1) (omega (arith, is.0, is.1)) (ap (λ (k : ℕ). (domain_of plan k).from_file) e ∙ from))

among_on : (e : InputError) (name : Text) (names : List Text) → Contains names name → FaultOn e name → FaultAmong e names
among_on (input.Fault f) name names there on = tt
among_on (input.Store other) name names there on = subst (λ (q : Text). Contains names q) (sym on) there
among_on input.Memory name names there on = tt

-- a fault on the input file of a domain is on one of them
pub among_inputs : {X : Type 0} (plan : Plan) (d : ℕ) (result : Result X InputError) → IsDomain plan d → IsTrue (domain_of plan d).from_file
    → IfErr result (λ e. FaultOn e (input_file d)) → IfErr result (λ e. FaultAmong e (input_names plan))
among_inputs plan d (Ok x) is from on = tt
among_inputs plan d (Err e) is from on = among_on e (input_file d) (input_names plan) (input_named plan d is from) on

-- ---- the loop over domains

pub fit_none : (plan : Plan) → FitDomains plan []
fit_none plan k none lt = absurd (omega arith)

pub pushed_length : (starts new : List DomainStart) (start : DomainStart) (i : ℕ) → length starts ≡ i → new ≡ starts ++ start ∷ [] → length new ≡ i + 1
pushed_length starts new start i count pushed = ap (λ (xs : List DomainStart). length xs) pushed ∙ length_push starts start ∙ ap (λ (n : ℕ). n + 1) count
