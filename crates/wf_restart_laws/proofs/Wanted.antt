-- What is wanted of the levels from a moment of a step on.
use Rattle.std.proofs.Common.{◌≡◌, ℕ, ◌≤◌, Bool, true, false, List, [], ◌∷◌, ◌++◌, None, refl, sym, ◌∙◌, arith}
use Rattle.std.proofs.lemmas.Bool.Decides.{nat_tests}
use Rattle.std.specs.Prelude.{◌&&◌, ◌||◌, not, nat_lt}
use Rattle.wf_model.specs.declared.plan.Plan.{Plan}
use Rattle.wf_model.specs.Plans.{field_of, domains_of, levels_of}
use Rattle.wf_model.specs.Live.{Deed, Fate, used, overwritten, followed, fate, live_on, live_through, is_live, deeds_of}
use Rattle.wf_model.specs.Uncovered.{first_lost, uses_restart}
use Rattle.wf_model.specs.Sound.{IsDomain, IsLevel}
use Rattle.wf_laws.proofs.Bools.{differ, or_right}
use Rattle.wf_laws.proofs.Members.{In-range, list_any-In, find-None_In}
use Rattle.wf_restart_laws.specs.Agrees.{StepsWantWhatRestartsHold}

-- more deeds, more that is live
live_on-more : (t : Fate) (p q : ℕ → Bool) → ((f : ℕ) → p f ≡ true → q f ≡ true) → live_on t p ≡ true → live_on t q ≡ true
live_on-more used p q h l = refl
live_on-more overwritten p q h l = l
live_on-more (followed f) p q h l = h f l

pub live-more : (plan : Plan) (d : ℕ) (xs ys : List Deed) (f : ℕ) → live_through plan d xs f ≡ true → live_through plan d (xs ++ ys) f ≡ true
unfolding live_through
live-more plan d [] ys f l = absurd (differ (sym l))
live-more plan d (x ∷ xs) ys f l = live_on-more (fate plan d x f) (live_through plan d xs) (live_through plan d (xs ++ ys)) (live-more plan d xs ys) l

-- a level that is used in one step is live
live_in_step : (plan : Plan) (d f : ℕ) → IsDomain plan d → live_through plan d (deeds_of plan d) f ≡ true → is_live plan f ≡ true
unfolding is_live
live_in_step plan d f is l =
    list_any-In (λ e. live_through plan e (deeds_of plan e ++ deeds_of plan e) f) d (domains_of plan) (In-range d 1 _ is.0 (omega (arith, is.1))) (live-more plan d (deeds_of plan d) (deeds_of plan d) f l)

-- so where no live level is lost, restart files hold it
held : (plan : Plan) (f : ℕ) → first_lost plan ≡ None → uses_restart plan ≡ true → IsLevel plan f → is_live plan f ≡ true → (field_of plan f).restart ≡ true
unfolding first_lost
held plan f none uses is l =
    let not_lost = find-None_In (λ g. uses_restart plan && (is_live plan g && not (field_of plan g).restart)) f (levels_of plan) none (In-range f 0 _ (omega arith) (omega (arith, is))) in
    kept (uses_restart plan) (is_live plan f) (field_of plan f).restart uses l not_lost
  where
    kept : (u l r : Bool) → u ≡ true → l ≡ true → (u && (l && not r)) ≡ false → r ≡ true
    kept u l true hu hl h = refl
    kept u l false hu hl h = absurd (differ (sym (λ i. hu i && (hl i && true)) ∙ h))

pub step_wants : StepsWantWhatRestartsHold
step_wants plan d f none restarts is level wanted =
    let uses : uses_restart plan ≡ true = or_right plan.restart (nat_lt 0 plan.restart_steps) (above restarts) in
    choose (field_of plan f).restart (live_through plan d (deeds_of plan d) f) wanted (λ l. held plan f none uses level (live_in_step plan d f is l))
  where
    above : {n : ℕ} → 1 ≤ n → nat_lt 0 n ≡ true
    above h = grind (arith, nat_tests)

    choose : (r l : Bool) → (r || l) ≡ true → (l ≡ true → r ≡ true) → r ≡ true
    choose true l h k = refl
    choose false l h k = k h
