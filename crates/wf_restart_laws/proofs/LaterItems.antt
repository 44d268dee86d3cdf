-- The outcome and the frames of a run that goes on.
use Rattle.std.proofs.Common.{◌≡◌, ℕ, suc, ◌+◌, ◌<◌, true, false, List, [], ◌∷◌, ◌++◌, map, length, Option, Some, None, Result, refl, sym, ap, ◌∙◌, arith}
use Rattle.std.proofs.lemmas.Bool.Decides.{nat_tests}
use Rattle.std.specs.Prelude.{fold, nat_lt}
use Rattle.wf_model.specs.declared.point.Point.{Point}
use Rattle.wf_model.specs.declared.script.Entry.{Entry}
use Rattle.wf_model.specs.Grids.{Grids}
use Rattle.wf_model.specs.Held.{stands_past}
use Rattle.wf_model.specs.Outcome.{RunData, Overflow, script, begin_grids, grids_after, grids_at, overflow_of, change_of, or_go_on, outcome_from, outcome_of}
use Rattle.wf_model.specs.SoundRun.{IsSoundRun}
use Rattle.wf_laws.proofs.Bools.{differ}
use Rattle.wf_model.specs.Continued.{time_after, first_steps, place_after, IsRestartTime, IsContinuedBy}
use Rattle.wf_restart_laws.specs.Shifted.{later_by}
use Rattle.wf_restart_laws.specs.Agrees.{GoAlike}
use Rattle.wf_restart_laws.specs.SameFrames.{overflow_behind, overflow_in_all, ContinuedRunsOverflowAlike}
use Rattle.wf_restart_laws.proofs.ShiftedSteps.{scripts_are}
use Rattle.wf_restart_laws.proofs.RunsAlike.{go_alike}
use Rattle.wf_restart_laws.proofs.Untouched.{grids_are}

-- ---- the outcome

-- an item's time counts for nothing
pub later_overflow : (r : RunData) (n : ℕ) (e : Entry) (g : Grids) → overflow_of r (later_by n e) g ≡ overflow_of r e g
unfolding overflow_of change_of
later_overflow r n e g = refl

pub later_grids : (r : RunData) (n : ℕ) (e : Entry) (g : Grids) → grids_after r g (later_by n e) ≡ grids_after r g e
unfolding grids_after change_of
later_grids r n e g = refl

go_on_behind : (o : Option Point) (n k : ℕ) (x y : Result Grids Overflow) → overflow_behind n x ≡ overflow_in_all y → overflow_behind n (or_go_on o k x) ≡ overflow_in_all (or_go_on o (n + k) y)
go_on_behind None n k x y e = e
go_on_behind (Some o) n k x y e = refl

outcomes_alike : (r s : RunData) (t n k : ℕ) (es : List Entry) (g h : Grids) → GoAlike r s es g h → overflow_behind n (outcome_from s k es h) ≡ overflow_in_all (outcome_from r (n + k) (map (later_by t) es) g)
unfolding outcome_from
outcomes_alike r s t n k [] g h go = refl
outcomes_alike r s t n k (e ∷ es) g h go =
    let rest : overflow_behind n (outcome_from s (k + 1) es (grids_after s h e)) ≡ overflow_in_all (outcome_from r (n + k + 1) (map (later_by t) es) (grids_after r g (later_by t e)))
    = outcomes_alike r s t n (k + 1) es (grids_after r g e) (grids_after s h e) go.1
    ∙ (λ z. overflow_in_all (outcome_from r (moved n k z) (map (later_by t) es) (sym (later_grids r t e g) z))) in
    (λ z. overflow_behind n (or_go_on (sym go.0.overflow z) k (outcome_from s (k + 1) es (grids_after s h e))))
    ∙ go_on_behind (overflow_of r e g) n k (outcome_from s (k + 1) es (grids_after s h e)) (outcome_from r (n + k + 1) (map (later_by t) es) (grids_after r g (later_by t e))) rest
    ∙ (λ z. overflow_in_all (or_go_on (sym (later_overflow r t e g) z) (n + k) (outcome_from r (n + k + 1) (map (later_by t) es) (grids_after r g (later_by t e)))))
  where
    moved : (n k : ℕ) → n + (k + 1) ≡ n + k + 1
    moved n k = omega arith

-- items of which none overflows lead to those that follow
past_first : (r : RunData) (n : ℕ) (es fs : List Entry) (g : Grids) → stands_past (n + length es) (outcome_from r n (es ++ fs) g) ≡ false → outcome_from r n (es ++ fs) g ≡ outcome_from r (n + length es) fs (fold (grids_after r) g es)
unfolding outcome_from
past_first r n [] fs g h = ap (λ k. outcome_from r k fs g) (zero_right n)
  where
    zero_right : (n : ℕ) → n ≡ n + 0
    zero_right n = omega arith
past_first r n (e ∷ es) fs g h = cases (overflow_of r e g) h (past_first r (n + 1) es fs (grids_after r g e))
  where
    moved : (n k : ℕ) → n + 1 + k ≡ n + suc k
    moved n k = omega arith

    below : (n k : ℕ) → nat_lt n (n + suc k) ≡ true
    below n k = let lt : n < n + suc k = omega arith in grind (arith, nat_tests)

    cases : (o : Option Point) → stands_past (n + length (e ∷ es)) (or_go_on o n (outcome_from r (n + 1) (es ++ fs) (grids_after r g e))) ≡ false
        → (stands_past (n + 1 + length es) (outcome_from r (n + 1) (es ++ fs) (grids_after r g e)) ≡ false → outcome_from r (n + 1) (es ++ fs) (grids_after r g e) ≡ outcome_from r (n + 1 + length es) fs (fold (grids_after r) (grids_after r g e) es))
        → or_go_on o n (outcome_from r (n + 1) (es ++ fs) (grids_after r g e)) ≡ outcome_from r (n + length (e ∷ es)) fs (fold (grids_after r) (grids_after r g e) es)
    cases None h next =
        next (ap (λ k. stands_past k (outcome_from r (n + 1) (es ++ fs) (grids_after r g e))) (moved n (length es)) ∙ h)
        ∙ ap (λ k. outcome_from r k fs (fold (grids_after r) (grids_after r g e) es)) (moved n (length es))
    cases (Some o) h next = absurd (differ (sym (below n (length es)) ∙ h))

-- after the restart frames
outcome_there : (r s : RunData) (m : ℕ) → IsSoundRun r → IsRestartTime r m → IsContinuedBy r m s → outcome_of r ≡ outcome_from r (place_after r m) (map (later_by (time_after r m)) (script s)) (grids_at r (place_after r m))
unfolding outcome_of
outcome_there r s m sound time is =
    let split : script r ≡ first_steps r m ++ map (later_by (time_after r m)) (script s) = scripts_are r s m sound time.some time.within is in
    ap (λ es. outcome_from r 0 es (begin_grids r)) split
    ∙ past_first r 0 (first_steps r m) (map (later_by (time_after r m)) (script s)) (begin_grids r)
    (ap (λ es. stands_past (0 + length (first_steps r m)) (outcome_from r 0 es (begin_grids r))) (sym split) ∙ ap (λ k. stands_past k (outcome_from r 0 (script r) (begin_grids r))) (zero_left (length (first_steps r m))) ∙ time.reached)
    ∙ (λ z. outcome_from r (zero_left (length (first_steps r m)) z) (map (later_by (time_after r m)) (script s)) (sym (grids_are r m time.within) z))
  where
    zero_left : (n : ℕ) → 0 + n ≡ n
    zero_left n = omega arith

pub overflow_alike : ContinuedRunsOverflowAlike
unfolding outcome_of
overflow_alike r s m sound live time is =
    outcomes_alike r s (time_after r m) (place_after r m) 0 (script s) (grids_at r (place_after r m)) (begin_grids s) (go_alike r s m sound live time is)
    ∙ ap (λ n. overflow_in_all (outcome_from r n (map (later_by (time_after r m)) (script s)) (grids_at r (place_after r m)))) (zero_right (place_after r m))
    ∙ ap overflow_in_all (sym (outcome_there r s m sound time is))
  where
    zero_right : (n : ℕ) → n + 0 ≡ n
    zero_right n = omega arith
