-- What is left by all steps is what the outcome of the run tells.
use Rattle.std.proofs.Common.{◌≡◌, ℕ, List, [], ◌∷◌, map, set, refl, sym, ap, ◌∙◌, arith}
use Rattle.std.specs.Prelude.{ℤ}
use Rattle.wf_model.specs.Plans.{begin_of, up_to}
use Rattle.wf_model.specs.Value.{Answers}
use Rattle.wf_model.specs.Grids.{Grids}
use Rattle.wf_model.specs.Outcome.{outcome_of, begin_grids}
use Rattle.wf_grid.specs.Levels.{grids_of, lists_of}
use Rattle.wf_grid.specs.Stepped.{left_by_steps}
use Rattle.wf_grid.specs.Held.{Held, run_of, held_with, all_lists, point_at_end, grids_at_end, first_lists, IsReady}
use Rattle.wf_grid.proofs.Items.{lists_same}
use Rattle.wf_grid.proofs.Agreeing.{Agree, lists_agree}
use Rattle.wf_grid.proofs.Steps.{lists_of_are}
use Rattle.wf_grid.proofs.Ready.{only_one}
use Rattle.wf_grid.proofs.WholeScript.{steps-settle}

module _ (w : Held) (m : Answers) (scratch : List ℤ) (ready : IsReady w.plan w.initial scratch) where
  -- the grids that the run begins with are those of the lists
  begins-agree : Agree w.plan 1 (grids_of w.plan 1 (first_lists w.initial)) (begin_grids (run_of w m))
  unfolding grids_of begin_grids
  begins-agree = record { same = λ f k j i level inside. refl }

  -- so the lists are theirs
  begin-lists : first_lists w.initial ≡ lists_of w.plan 1 (begin_grids (run_of w m))
  begin-lists = lists_same w.plan 1 (first_lists w.initial) ready.lists ∙ lists_agree w.plan 1 (grids_of w.plan 1 (first_lists w.initial)) (begin_grids (run_of w m)) begins-agree

  -- the point and the lists at the end
  pub settled : left_by_steps w.plan m 1 (begin_of w.initial.begins 1).steps (first_lists w.initial)
      ≡ record { point = point_at_end (outcome_of (run_of w m)); lists = lists_of w.plan 1 (grids_at_end (run_of w m) (outcome_of (run_of w m))) }
  settled =
      ap (left_by_steps w.plan m 1 (begin_of w.initial.begins 1).steps) begin-lists
      ∙ steps-settle (run_of w m) ready.one_domain ready.first.begins (ready.sound.steps 1 ready.lists.domain) (λ g. lists_of_are w.plan 1 (first_lists w.initial) g ready.lists)
      (λ f h. (omega (arith, ready.lists.wide), omega (arith, ready.lists.high))) ready.table

  -- the lists of all domains, which is one
  one-list : (g : Grids) → lists_of w.plan 1 g ∷ [] ≡ all_lists w.plan g
  one-list g = ap (λ (n : ℕ). map (λ d. lists_of w.plan d g) (up_to n)) (sym ready.one_domain)

  -- what the code holds at the end
  pub holds : (grids : List (List (List ℤ))) → grids ≡ set w.initial.grids 0 (left_by_steps w.plan m 1 (begin_of w.initial.begins 1).steps (first_lists w.initial)).lists →
      record { plan = w.plan; initial = record { grids = grids; begins = w.initial.begins } } ≡ held_with w (all_lists w.plan (grids_at_end (run_of w m) (outcome_of (run_of w m))))
  holds grids e =
      let is : grids ≡ all_lists w.plan (grids_at_end (run_of w m) (outcome_of (run_of w m))) =
      e ∙ only_one w.initial.grids (left_by_steps w.plan m 1 (begin_of w.initial.begins 1).steps (first_lists w.initial)).lists ready.domains
      ∙ (λ i. (settled i).lists ∷ []) ∙ one-list (grids_at_end (run_of w m) (outcome_of (run_of w m))) in
      (λ i. record { plan = w.plan; initial = record { grids = is i; begins = w.initial.begins } })
