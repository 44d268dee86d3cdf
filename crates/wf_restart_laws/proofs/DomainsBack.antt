-- Each domain is read to what it begins with.
use Rattle.std.proofs.Common.{◌≡◌, inl, inr, ⊎_elim, ℕ, zero, suc, ◌+◌, ◌-◌, ◌*◌, ◌≤◌, ◌<◌, Bool, true, false, List, [], ◌∷◌, map, length, get_or, ℤ, pos, negsuc, ◌+ℤ◌, ◌≤ℤ◌, Option, Some, None, Result, Ok, Err, refl, sym, ap, ◌∙◌, subst, arith}
use Rattle.std.proofs.lemmas.Bool.Decides.{nat_tests}
use Rattle.std.proofs.lemmas.Int.{ints}
use Rattle.std.proofs.lemmas.List.{get_or-map}
use Rattle.std.proofs.lemmas.List.FromFn.{get_or-range_with_len, length-range_with_len}
use Rattle.std.specs.Prelude.{◌==◌, ◌&&◌, ◌||◌, not, nat_lt, nat_le, filter, int_le, int_lt, min, codes, if◌then◌else◌}
use Rattle.wf_model.specs.declared.initial.Initial.{Initial}
use Rattle.wf_model.specs.declared.plan.Plan.{Plan}
use Rattle.wf_model.specs.declared.plan_fault.InputKind.TheVariants as kind
use Rattle.wf_model.specs.Reading.{◌>>=◌, each}
use Rattle.wf_model.specs.Calendar.{moment_of, time_text}
use Rattle.wf_model.specs.Files.{Files, files_after_all}
use Rattle.wf_model.specs.Plans.{domain_of, begin_of, domains_of, levels_of, no_begin}
use Rattle.wf_model.specs.InputOf.{DomainBegin, domain_begin, resumed_if, started, fault_of, header_read, restart_read, must_resume, may_resume, restart_file, domain_stamp, initial_from, input_of}
use Rattle.wf_model.specs.Outcome.{RunData, no_lists}
use Rattle.wf_model.specs.Script.{not_before}
use Rattle.wf_model.specs.Sound.{IsDomain}
use Rattle.wf_model.specs.SoundRun.{IsSoundRun}
use Rattle.wf_laws.proofs.Bools.{split_bool, differ, if_false, equal_of, equal_test, and_false}
use Rattle.wf_model.specs.Continued.{time_after, steps_after, goes_on, begin_after, level_after, levels_after, initial_after, IsRestartTime, IsContinuedPlan, IsContinuedBy}
use Rattle.std.specs.Slice.Scan.{big_endian}
use Rattle.wf_model.specs.declared.cdf_error.SlabError.{SlabError}
use Rattle.wf_model.specs.Bytes.{four_bytes}
use Rattle.wf_model.specs.Headers.{text_att, int_att, file_header, placed}
use Rattle.std.specs.Str.{bytes_eq}
use Rattle.std.proofs.lemmas.Slice.Eq.{bytes_eq-Decides}
use Rattle.wf_model.specs.declared.header.Header.{Header}
use Rattle.wf_model.specs.declared.plan.Domain.{Domain}
use Rattle.wf_model.specs.Dates.{is_stamp, seconds_before}
use Rattle.wf_model.specs.Script.{restart_stream}
use Rattle.wf_model.specs.Streams.{file_name}
use Rattle.wf_model.specs.Writes.{writes_of}
use Rattle.wf_model.specs.Reading.{told_as, fault_if, fault_unless, first_fault, unless_fault}
use Rattle.wf_model.specs.InputOf.{slabs_fault, is_no_variable, is_wrong_type, is_wrong_shape, is_truncated, start_date, steps_att, is_start_date, is_steps, has_attributes, leads_to, all_slabs, is_restored, time_read, bytes_read, slab_read, level_asked, grids_read, level_read, zeros}
use Rattle.wf_laws.proofs.Members.{In, In-map_out, In-filter_out, In-range_out, list_any-none}
use Rattle.wf_restart_laws.specs.Filed.{restart_name, restart_header, one_frame_bytes, IsReadBack, RestartFramesAreReadBack, DomainsAreReadBack}
use Rattle.wf_cdf_laws.specs.FileNames.{HasFileNames}
use Rattle.wf_restart_laws.specs.ReadBack.{HasInts, HasFilesOf}
use Rattle.wf_restart_laws.specs.Shifted.{AreAlike}
use Rattle.wf_restart_laws.proofs.AlikePlans.{started_is, slabs_are, grids_are, restored_are}
use Rattle.wf_restart_laws.proofs.Leads.{bind-ok, unless-ok, told-ok, not_ok, same_ok, each-ok, each-length, leads}
use Rattle.wf_restart_laws.proofs.LaterFrames.{in_years}
use Rattle.wf_restart_laws.proofs.SameTimes.{alike, sooner, some_time}
use Rattle.wf_restart_laws.proofs.ShiftedSteps.{first_goes, map-same}
use Rattle.wf_restart_laws.proofs.RestartFrames.{frames_are_written}
use Rattle.wf_restart_laws.proofs.RestartFiles.{files_stand}
use Rattle.wf_restart_laws.proofs.Texts.{go_on, stamps}

-- what a run that was read begins with, with its lists
whole_read : (r : RunData) (old : Files) (d : ℕ) → input_of old r.plan ≡ Ok r.initial → IsDomain r.plan d → domain_begin old r.plan d ≡ Ok (record { begin = begin_of r.initial.begins d; grids = get_or r.initial.grids (d - 1) no_lists })
unfolding input_of begin_of
whole_read r old d read dom =
    let none : DomainBegin = record { begin = no_begin; grids = [] } in
    let w = bind-ok (each (domain_begin old r.plan) (domains_of r.plan)) (λ ds. Ok (initial_from ds)) r.initial read in
    let initial : initial_from w.0 ≡ r.initial = same_ok (initial_from w.0) r.initial w.2 in
    let long : length w.0 ≡ length r.plan.domains = each-length (domain_begin old r.plan) (domains_of r.plan) w.0 w.1 ∙ length-range_with_len 1 (length r.plan.domains) in
    let there : d - 1 < length (domains_of r.plan) = let l : length (domains_of r.plan) ≡ length r.plan.domains = length-range_with_len 1 (length r.plan.domains) in omega (arith, l, dom) in
    let number : get_or (domains_of r.plan) (d - 1) 0 ≡ d = get_or-range_with_len 1 (length r.plan.domains) (d - 1) 0 (omega (arith, dom)) ∙ up_again d dom.0 in
    let at : d - 1 < length w.0 = omega (arith, long, dom) in
    ap (domain_begin old r.plan) (sym number) ∙ each-ok (domain_begin old r.plan) (domains_of r.plan) w.0 (d - 1) 0 none w.1 there
    ∙ sym (λ z. Ok (record {
      begin = (ap (λ (y : Initial). get_or y.begins (d - 1) no_begin) (sym initial) ∙ get_or-map DomainBegin.begin w.0 (d - 1) none no_begin at) z;
      grids = (ap (λ (y : Initial). get_or y.grids (d - 1) no_lists) (sym initial) ∙ get_or-map DomainBegin.grids w.0 (d - 1) none no_lists at) z;
    }))
  where
    up_again : (n : ℕ) → 1 ≤ n → 1 + (n - 1) ≡ n
    up_again n h = omega arith

-- a domain that doesn't resume was started
was_started : (files : Files) (plan : Plan) (d : ℕ) (x : DomainBegin) → domain_begin files plan d ≡ Ok x → x.begin.resumed ≡ false → started files plan d ≡ Ok x
was_started files plan d x e off = of (may_resume plan d) e
  where
    read : (bytes : List ℕ) → restart_read plan d bytes ≡ Ok x → started files plan d ≡ Ok x
    read bytes h =
        let w = bind-ok (header_read bytes) _ x h in
        let v = unless-ok _ _ x w.2 in
        absurd (differ (ap (λ (y : DomainBegin). y.begin.resumed) v.1 ∙ off))

    missing : (b : Bool) → (if b then Err (fault_of (restart_file plan d) kind.Missing) else started files plan d) ≡ Ok x → started files plan d ≡ Ok x
    missing true k = absurd (not_ok (fault_of (restart_file plan d) kind.Missing) x k)
    missing false k = k

    file : (o : Option (List ℕ)) → resumed_if files plan d o ≡ Ok x → started files plan d ≡ Ok x
    file None h = missing (must_resume plan d) h
    file (Some bytes) h = read bytes (told-ok (fault_of (restart_file plan d)) (restart_read plan d bytes) x h)

    of : (b : Bool) → (if b then resumed_if files plan d (files (restart_file plan d)) else started files plan d) ≡ Ok x → started files plan d ≡ Ok x
    of true h = file (files (restart_file plan d)) h
    of false h = h

-- a domain that starts at the restart time or later, and finds no restart file
begins_by : (files : Files) (plan : Plan) (d : ℕ) (x y : ℤ) (t : ℕ) → (domain_of plan d).begins ≡ x → 1 ≤ t → (d == 1) ≡ false → x +ℤ pos t ≡ y → t ≤ not_before y → (x ≤ℤ pos 0 → files (restart_file plan d) ≡ None) → domain_begin files plan d ≡ started files plan d
begins_by files plan d (pos zero) y t b some first sum past none = at_time plan.restart refl
  where
    at_time : (re : Bool) → plan.restart ≡ re → domain_begin files plan d ≡ started files plan d
    at_time true e =
        (λ i. if e i && (first i || int_le (b i) (pos 0)) then resumed_if files plan d (files (restart_file plan d)) else started files plan d)
        ∙ ap (resumed_if files plan d) (none (omega (arith, ints)))
        ∙ (λ i. if e i && (first i || int_lt (b i) (pos 0)) then Err (fault_of (restart_file plan d) kind.Missing) else started files plan d)
    at_time false e = λ i. if e i && ((d == 1) || int_le (domain_of plan d).begins (pos 0)) then resumed_if files plan d (files (restart_file plan d)) else started files plan d
begins_by files plan d (pos (suc n)) y t b some first sum past none =
    (λ i. if plan.restart && (first i || int_le (b i) (pos 0)) then resumed_if files plan d (files (restart_file plan d)) else started files plan d)
    ∙ (λ i. if plan.restart && later n i then resumed_if files plan d (files (restart_file plan d)) else started files plan d)
    ∙ if_false (plan.restart && false) (resumed_if files plan d (files (restart_file plan d))) (started files plan d) (and_false plan.restart false refl)
  where
    later : (n : ℕ) → int_le (pos (suc n)) (pos 0) ≡ false
    later n = grind arith
begins_by files plan d (negsuc n) (pos k) t b some first sum past none = absurd (early n k t sum past)
  where
    early : (n k t : ℕ) → negsuc n +ℤ pos t ≡ pos k → t ≤ k → ⊥
    early n k t e le = omega (arith, ints, e, le)
begins_by files plan d (negsuc n) (negsuc k) t b some first sum past none = absurd (omega (arith, some, past))

-- a domain that waits is read as it was
pub waits_back : (r : RunData) (m : ℕ) (plan : Plan) (old files : Files) (d : ℕ) → IsSoundRun r → input_of old r.plan ≡ Ok r.initial → IsRestartTime r m → IsContinuedPlan r m plan → HasFilesOf r m plan old files → IsDomain r.plan d → goes_on r m d ≡ false
    → domain_begin files plan d ≡ Ok (record { begin = begin_after r m d; grids = levels_after r m d })
unfolding begin_after levels_after
waits_back r m plan old files d sound read time continued given dom off =
    let s : RunData = record { plan = plan; initial = initial_after r m; answers = r.answers } in
    let is : IsContinuedBy r m s = record { plan = continued; initial = refl; answers = refl } in
    let same : AreAlike r.plan plan = alike r s m is in
    let T : ℕ = time_after r m in
    let sec : 1 ≤ (domain_of r.plan 1).seconds = (sound.sound).steps 1 (omega arith, (sound.sound).some) in
    let fresh : (begin_of r.initial.begins d).resumed ≡ false = not_resumed (begin_of r.initial.begins d).resumed _ off in
    let nb : ℕ = not_before (domain_of r.plan d).begins in
    let mb : ℕ = not_before (domain_of plan d).begins in
    let past : T ≤ nb = at_least nb T (sym (λ i. fresh i || nat_lt (if fresh i then 0 else nb) T) ∙ off) in
    let at : mb + T ≡ nb = sooner (domain_of plan d).begins (domain_of r.plan d).begins T (continued.waiting d dom off) (some_time m (domain_of r.plan 1).seconds time.some sec) past in
    let stamp : domain_stamp plan d ≡ domain_stamp r.plan d
    = ap (λ x. time_text x mb) (ap (λ (p : Plan). p.start) continued.same) ∙ go_on r.plan.start T mb (in_years r m sound time.within) ∙ ap (time_text r.plan.start) (turned T mb ∙ at) in
    let old_start : started old r.plan d ≡ Ok (record { begin = begin_of r.initial.begins d; grids = get_or r.initial.grids (d - 1) no_lists }) = was_started old r.plan d _ (whole_read r old d read dom) fresh in
    let new_start : started files plan d ≡ Ok (record { begin = begin_of r.initial.begins d; grids = get_or r.initial.grids (d - 1) no_lists }) = started_is r.plan plan same d files old stamp (given.inputs d dom off) ∙ old_start in
    let no_file : (domain_of plan d).begins ≤ℤ pos 0 → files (restart_file plan d) ≡ None = given.others d dom off in
    let not_first : (d == 1) ≡ false = elim (split_bool (d == 1)) [
      | inl e ↦ absurd (differ (sym (ap (goes_on r m) (equal_of d 1 e) ∙ first_goes r m sound time.some) ∙ off))
      | inr e ↦ e
    ] in
    begins_by files plan d (domain_of plan d).begins (domain_of r.plan d).begins T refl (some_time m (domain_of r.plan 1).seconds time.some sec) not_first (continued.waiting d dom off) past no_file
    ∙ new_start
    ∙ (λ z. Ok (record { begin = (if sym off z then record { steps = steps_after r m d; start_text = (begin_of r.initial.begins d).start_text; resumed = true } else begin_of r.initial.begins d); grids = (if sym off z then map (level_after r m d) (levels_of r.plan) else get_or r.initial.grids (d - 1) no_lists) }))
  where
    not_resumed : (a b : Bool) → (a || b) ≡ false → a ≡ false
    not_resumed true b e = e
    not_resumed false b e = refl

    at_least : (a b : ℕ) → (false || nat_lt a b) ≡ false → b ≤ a
    at_least a b e = grind (arith, nat_tests)

    turned : (a b : ℕ) → a + b ≡ b + a
    turned a b = omega arith

-- ---- a domain that goes on

-- slabs that are all there have no fault
no_fault : (bytes : List ℕ) (xs : List (Result (List ℕ) SlabError)) → ((x : Result (List ℕ) SlabError) → In x xs → (b : List ℕ) × (x ≡ Ok b)) → slabs_fault bytes xs ≡ None
no_fault bytes xs h =
    λ z. first_fault (fault_if (list_any-none is_no_variable xs (λ x i. ap is_no_variable (h x i).1) z) kind.NoVariable
    ∷ fault_if (list_any-none is_wrong_type xs (λ x i. ap is_wrong_type (h x i).1) z) kind.WrongType
    ∷ fault_if (list_any-none is_wrong_shape xs (λ x i. ap is_wrong_shape (h x i).1) z) kind.WrongShape
    ∷ fault_if (list_any-none is_truncated xs (λ x i. ap is_truncated (h x i).1) z) (kind.Truncated (length bytes))
    ∷ [])

-- the attributes of a restart header
start_is : (r : RunData) (m d : ℕ) → start_date (restart_header r m d) ≡ text_att (codes "START_DATE") (begin_of r.initial.begins d).start_text
unfolding file_header placed
start_is r m d = refl

steps_are_there : (r : RunData) (m d : ℕ) → steps_att (restart_header r m d) ≡ int_att (codes "STEPS") (min (steps_after r m d) 2147483647)
unfolding file_header placed
steps_are_there r m d = refl

-- a number of at most a thousand million is read as it was written
read_number : (n : ℕ) → n ≤ 1000000000 → big_endian 0 (four_bytes (min n 2147483647)) ≡ n
read_number n h = let same : min n 2147483647 ≡ n = omega (arith, h) in ap (λ k. big_endian 0 (four_bytes k)) same ∙ bytes n (omega (arith, h))
  where
    bytes : (n : ℕ) → n < 4294967296 → big_endian 0 (four_bytes n) ≡ n
    bytes n h = omega (arith, h)

small : (a : ℕ) → a ≤ 1000000000 → nat_le a 1000000000 ≡ true
small a h = at_most a 1000000000 h
  where
    at_most : (a b : ℕ) → a ≤ b → nat_le a b ≡ true
    at_most a b h = grind (arith, nat_tests)

-- a start up to the restart time
not_later : (x : ℤ) → x ≤ℤ pos 0 → int_le x (pos 0) ≡ true
not_later (pos n) h = let none : n ≡ 0 = omega (arith, ints, h) in ap (λ k. int_le (pos k) (pos 0)) none
not_later (negsuc n) h = refl

started_by : (b : Bool) (x : ℤ) → x ≤ℤ pos 0 → (b || int_le x (pos 0)) ≡ true
started_by true x h = refl
started_by false x h = not_later x h

pub goes_back : RestartFramesAreReadBack → (r : RunData) (m : ℕ) (plan : Plan) (old files : Files) (d : ℕ) → IsSoundRun r → HasInts r.initial → HasFileNames r.plan restart_stream → input_of old r.plan ≡ Ok r.initial → IsRestartTime r m → IsContinuedPlan r m plan → HasFilesOf r m plan old files → IsDomain r.plan d → goes_on r m d ≡ true
    → domain_begin files plan d ≡ Ok (record { begin = begin_after r m d; grids = levels_after r m d })
unfolding begin_after levels_after
goes_back reads r m plan old files d sound ints_are names read time continued given dom on =
    let s : RunData = record { plan = plan; initial = initial_after r m; answers = r.answers } in
    let is : IsContinuedBy r m s = record { plan = continued; initial = refl; answers = refl } in
    let same : AreAlike r.plan plan = alike r s m is in
    let T : ℕ = time_after r m in
    let start : plan.start ≡ time_text r.plan.start T = ap (λ (p : Plan). p.start) continued.same in
    let again : plan.restart ≡ true = ap (λ (p : Plan). p.restart) continued.same in
    let name : restart_file plan d ≡ restart_name r m d = ap (file_name restart_stream d) start in
    let written = frames_are_written r m d sound time dom on in
    let h : Header = restart_header r m d in
    let bytes : List ℕ = one_frame_bytes r h written.0 in
    let file : files (restart_file plan d) ≡ Some bytes = given.written d dom on ∙ ap (files_after_all old (writes_of r)) name ∙ files_stand r m d old written.0 sound time dom written.1 in
    let back : IsReadBack r m d bytes = reads r m d written.0 sound ints_are names time dom written.1 in
    let text : List ℕ = (begin_of r.initial.begins d).start_text in
    let steps : big_endian 0 (four_bytes (min (steps_after r m d) 2147483647)) ≡ steps_after r m d = read_number (steps_after r m d) (time.counted d dom) in
    let has : has_attributes h ≡ true = (λ z. is_start_date (start_is r m d z) && is_steps (steps_are_there r m d z)) ∙ attributes text (min (steps_after r m d) 2147483647) ((sound.fitting).sound d dom).start_text (subst (λ n. n ≤ 1000000000) (sym steps) (time.counted d dom)) in
    let sum : seconds_before (moment_of text) + steps_after r m d * (domain_of r.plan d).seconds ≡ seconds_before (moment_of plan.start)
    = leads r m d old sound read time.some time.within dom on ∙ sym (ap (λ x. seconds_before (moment_of x)) start ∙ (stamps r.plan.start T (in_years r m sound time.within)).1) in
    let to : leads_to plan d h ≡ true
    = (λ z. seconds_before (moment_of (start_is r m d z).bytes) + big_endian 0 (steps_are_there r m d z).bytes * (domain_of plan d).seconds == seconds_before (moment_of plan.start))
    ∙ (λ z. seconds_before (moment_of text) + steps z * ap (λ (x : Domain). x.seconds) (same.domains d) z == seconds_before (moment_of plan.start))
    ∙ equal_test _ (seconds_before (moment_of plan.start)) sum in
    let slabs : slabs_fault bytes (all_slabs plan d restart_stream (is_restored plan) bytes h) ≡ None
    = ap (slabs_fault bytes) (slabs_are r.plan plan same d restart_stream (is_restored plan) (is_restored r.plan) bytes h (restored_are r.plan plan same)) ∙ no_fault bytes (all_slabs r.plan d restart_stream (is_restored r.plan) bytes h) (all_there r m d bytes back) in
    let at : bytes_eq (time_read bytes h) plan.start ≡ true = (λ z. bytes_eq (bytes_read (back.time z)) (start z)) ∙ (bytes_eq-Decides (time_text r.plan.start T) (time_text r.plan.start T)).1 refl in
    let faults : first_fault (slabs_fault bytes (all_slabs plan d restart_stream (is_restored plan) bytes h) ∷ fault_unless (bytes_eq (time_read bytes h) plan.start) kind.WrongTime ∷ fault_if (has_attributes h && not (leads_to plan d h)) kind.WrongTime ∷ fault_unless (has_attributes h) kind.WrongAttribute ∷ []) ≡ None
    = λ z. first_fault (slabs z ∷ fault_unless (at z) kind.WrongTime ∷ fault_if (has z && not (to z)) kind.WrongTime ∷ fault_unless (has z) kind.WrongAttribute ∷ []) in
    let grids : grids_read plan d restart_stream (is_restored plan) bytes h ≡ map (level_after r m d) (levels_of r.plan)
    = grids_are r.plan plan same d restart_stream (is_restored plan) (is_restored r.plan) bytes h (restored_are r.plan plan same)
    ∙ map-same (λ f. if is_restored r.plan f then level_read r.plan d restart_stream bytes h f else zeros r.plan d f) (level_after r m d) (levels_of r.plan)
    (λ f i. let l = In-range_out f 0 (length r.plan.fields) i in either (is_restored r.plan f) _ _ (zeros r.plan d f) (back.levels f (omega (arith, l.1)))) in
    (λ z. if again z && started_by (d == 1) (domain_of plan d).begins (continued.started d dom on) z then resumed_if files plan d (files (restart_file plan d)) else started files plan d)
    ∙ ap (resumed_if files plan d) file
    ∙ ap (told_as (fault_of (restart_file plan d)))
    ((λ z. told_as kind.Cdf (back.header z) >>= λ k. unless_fault (first_fault (
    slabs_fault bytes (all_slabs plan d restart_stream (is_restored plan) bytes k)
    ∷ fault_unless (bytes_eq (time_read bytes k) plan.start) kind.WrongTime
    ∷ fault_if (has_attributes k && not (leads_to plan d k)) kind.WrongTime
    ∷ fault_unless (has_attributes k) kind.WrongAttribute
    ∷ [])) (record { begin = record { steps = big_endian 0 (steps_att k).bytes; start_text = (start_date k).bytes; resumed = true }; grids = grids_read plan d restart_stream (is_restored plan) bytes k }))
    ∙ (λ z. unless_fault (faults z) (record { begin = record { steps = big_endian 0 (steps_are_there r m d z).bytes; start_text = (start_is r m d z).bytes; resumed = true }; grids = grids z })))
    ∙ (λ z. Ok (record { begin = record { steps = steps z; start_text = text; resumed = true }; grids = map (level_after r m d) (levels_of r.plan) }))
    ∙ sym (λ z. Ok (record {
      begin = (if on z then record { steps = steps_after r m d; start_text = text; resumed = true } else begin_of r.initial.begins d);
      grids = (if on z then map (level_after r m d) (levels_of r.plan) else get_or r.initial.grids (d - 1) no_lists);
    }))
  where
    either : (b : Bool) (x y z : List ℤ) → (b ≡ true → x ≡ y) → (if b then x else z) ≡ (if b then y else z)
    either true x y z h = h refl
    either false x y z h = refl

    attributes : (text : List ℕ) (n : ℕ) → is_stamp text ≡ true → big_endian 0 (four_bytes n) ≤ 1000000000 → (is_start_date (text_att (codes "START_DATE") text) && is_steps (int_att (codes "STEPS") n)) ≡ true
    attributes text n stamp le = λ z. stamp z && small (big_endian 0 (four_bytes n)) le z

    all_there : (r : RunData) (m d : ℕ) (bytes : List ℕ) → IsReadBack r m d bytes → (x : Result (List ℕ) SlabError) → In x (all_slabs r.plan d restart_stream (is_restored r.plan) bytes (restart_header r m d)) → (b : List ℕ) × (x ≡ Ok b)
    all_there r m d bytes back x i = ⊎_elim
        (λ e. (time_text r.plan.start (time_after r m), e ∙ back.time))
        (λ j.
        let w = In-map_out (slab_read bytes (restart_header r m d)) x (map (level_asked r.plan d restart_stream) (filter (is_restored r.plan) (levels_of r.plan))) j in
        let v = In-map_out (level_asked r.plan d restart_stream) w.0 (filter (is_restored r.plan) (levels_of r.plan)) w.1 in
        let u = In-filter_out (is_restored r.plan) v.0 (levels_of r.plan) v.1 in
        let l = In-range_out v.0 0 (length r.plan.fields) u.0 in
        let t = back.there v.0 (omega (arith, l.1)) u.1 in
        (t.0, w.2 ∙ ap (slab_read bytes (restart_header r m d)) v.2 ∙ t.1)) i

pub domains_back : RestartFramesAreReadBack → DomainsAreReadBack
domains_back reads r m plan old files d sound ints_are names read time continued given dom = elim (split_bool (goes_on r m d)) [
  | inl on ↦ goes_back reads r m plan old files d sound ints_are names read time continued given dom on
  | inr off ↦ waits_back r m plan old files d sound read time continued given dom off
]
