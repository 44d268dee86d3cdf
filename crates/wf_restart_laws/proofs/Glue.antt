-- The law as a whole, from its parts.
use Rattle.std.proofs.Common.{◌≡◌, inl, inr, ℕ, List, [], ◌∷◌, map, Result, Ok, refl, ap, ◌∙◌, arith}
use Rattle.std.specs.List.{range_with_len}
use Rattle.wf_model.specs.declared.initial.Initial.{Initial}
use Rattle.wf_model.specs.declared.plan.Plan.{Plan}
use Rattle.wf_model.specs.declared.plan_fault.InputFault.{InputFault}
use Rattle.wf_model.specs.Reading.{◌>>=◌, each}
use Rattle.wf_model.specs.Plans.{domains_of}
use Rattle.wf_model.specs.Outcome.{RunData}
use Rattle.wf_model.specs.InputOf.{DomainBegin, domain_begin, initial_from, input_of}
use Rattle.wf_laws.proofs.Members.{In, In-range_out}
use Rattle.wf_model.specs.Sound.{IsDomain}
use Rattle.wf_model.specs.Continued.{IsContinuedBy, initial_after, begin_after, levels_after}
use Rattle.wf_restart_laws.specs.SameFrames.{ContinuedRunsShowTheSameFrames, ContinuedRunsOverflowAlike, ContinuedRunsWriteTheSameCalls, ContinuedRunsWriteTheSameFiles}
use Rattle.wf_restart_laws.specs.ReadBack.{RestartFilesAreReadBack}
use Rattle.wf_restart_laws.specs.Filed.{DomainsAreReadBack}
use Rattle.wf_restart_laws.specs.Restarts.{run_with, GoesOnAs, RestartedRunsGoOn}

-- what is read is what the run that goes on begins with, and that goes on as the other did
pub restarted : RestartFilesAreReadBack → ContinuedRunsShowTheSameFrames → ContinuedRunsOverflowAlike → ContinuedRunsWriteTheSameCalls → ContinuedRunsWriteTheSameFiles → RestartedRunsGoOn
restarted read frames overflow calls files r m plan old given sound live ints names from time continued whole =
    let s : RunData = run_with r plan (initial_after r m) in
    let is : IsContinuedBy r m s = record { plan = continued; initial = refl; answers = refl } in
    let on : GoesOnAs r m s = record {
      frames = frames r s m sound live time is;
      overflow = overflow r s m sound live time is;
      calls = λ alike. calls r s m sound live time is alike;
      files = λ alike a b frame there. files r s m a b frame sound live time is alike there;
    } in
    (initial_after r m, read r m plan old given sound ints names from time continued whole, on)

-- where each item is read, all are
each-ok : {A B F : Type 0} (f : A → Result B F) (g : A → B) (xs : List A) → ((x : A) → In x xs → f x ≡ Ok (g x)) → each f xs ≡ Ok (map g xs)
each-ok f g [] h = refl
each-ok f g (x ∷ xs) h =
    ap (λ r. r >>= λ y. each f xs >>= λ ys. Ok (y ∷ ys)) (h x (inl refl))
    ∙ ap (λ r. r >>= λ ys. Ok (g x ∷ ys)) (each-ok f g xs (λ y i. h y (inr i)))

-- what a domain begins with
abbrev domain_after : RunData → ℕ → ℕ → DomainBegin
domain_after r m d = record { begin = begin_after r m d; grids = levels_after r m d }

-- parts of a map
parts : {A : Type 0} (r : RunData) (m : ℕ) (part : DomainBegin → A) (xs : List ℕ) → map part (map (domain_after r m) xs) ≡ map (λ d. part (domain_after r m d)) xs
parts r m part [] = refl
parts r m part (x ∷ xs) = ap (λ ys. part (domain_after r m x) ∷ ys) (parts r m part xs)

-- the files are read domain by domain
pub read_back : DomainsAreReadBack → RestartFilesAreReadBack
unfolding input_of initial_after
read_back read r m plan old files sound ints names from time continued whole =
    ap (λ n. each (domain_begin files plan) (range_with_len 1 n) >>= λ ds. Ok (initial_from ds)) continued.count
    ∙ ap (λ (x : Result (List DomainBegin) InputFault). x >>= λ ds. Ok (initial_from ds))
    (each-ok (domain_begin files plan) (domain_after r m) (domains_of r.plan) (λ d i. read r m plan old files d sound ints names from time continued whole (is_domain r.plan d i)))
    ∙ ap (λ (x : Initial). Ok x) (both (domains_of r.plan))
  where
    is_domain : (p : Plan) (d : ℕ) → In d (domains_of p) → IsDomain p d
    is_domain p d i = let l = In-range_out d 1 _ i in (l.0, omega (arith, l.1))

    both : (xs : List ℕ) → initial_from (map (domain_after r m) xs) ≡ record { grids = map (levels_after r m) xs; begins = map (begin_after r m) xs }
    both xs = λ i. record { grids = parts r m DomainBegin.grids xs i; begins = parts r m DomainBegin.begin xs i }
