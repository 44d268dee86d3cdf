-- Worked cases of what is counted before a run.
use Rattle.std.specs.Prelude.{ℕ, ◌≡◌, true, false, List, length, ◌∷◌, [], ℤ, pos, codes, Some, None}
use Rattle.std.specs.Prelude.{sum_by}
use Rattle.wf_model.specs.declared.plan.Plan.{Plan}
use Rattle.wf_model.specs.declared.plan.Domain.{Domain}
use Rattle.wf_model.specs.declared.plan.Field.{Field}
use Rattle.wf_model.specs.declared.plan.Item.{Item}
use Rattle.wf_model.specs.declared.plan.Item.TheVariants as item
use Rattle.wf_model.specs.declared.layout.Layout.{Layout}
use Rattle.wf_model.specs.declared.plan_fault.LayoutFault.TheVariants.{TooManyPatches, TooManyTiles}
use Rattle.wf_model.specs.Reading.{first_fault}
use Rattle.wf_model.specs.Patches.{split_of}
use Rattle.wf_model.specs.Counts.{all_cells, memory_cells, script_items, stream_bytes, all_events}
use Rattle.wf_model.specs.Counts.{fresh_run}
use Rattle.wf_model.specs.Frames.{frames_of}
use Rattle.wf_model.specs.PlanOf.{layout_faults}
use Rattle.wf_model.specs.Plans.{domains_of}
use Rattle.wf_model.specs.Weights.{HasDomainsInTime}
use Rattle.wf_model.specs.DemoCase.{case_domain, case_field, case_plan, demo_plan, columns_layout}
use Rattle.wf_count_laws.specs.ByDomains.{domain_items, domain_frames, domain_events}

abbrev pub demo : Plan
demo = demo_plan 3 3 1

-- a halo of two rows
abbrev pub halo : List Item
halo = item.Halo (record { field = 0; cross = false; radius = 2 } ∷ []) ∷ []

-- 1001 by 500 points of a and b, and the halo
abbrev pub large : Plan
large = record (case_plan 1001 500 1 (case_field (codes "a") (codes "A")) halo) {
  fields = case_field (codes "a") (codes "A")
      ∷ record (case_field (codes "b") (codes "B")) { pair = 1 } ∷ [];
}

abbrev pub patches : ℕ → ℕ → Layout
patches x y = record (columns_layout x) { nproc_y = y }

pub record Counts : Type 0 where
  pub cells : all_cells demo ≡ 9
  -- a frame, the halo, the phase, a frame
  pub items : script_items demo ≡ 4
  pub file : stream_bytes demo 1 0 ≡ 492
  -- 1 patch: a frame is a step, a gathering and a writing, a halo two events and a phase one
  pub events_of_one_patch : all_events demo (split_of (columns_layout 1)) ≡ 9
  -- 3 patches: a frame is three steps, three gatherings and a writing
  pub events_of_three_patches : all_events demo (split_of (columns_layout 3)) ≡ 23
  -- (1001 + 3 * 4) by (500 + 4), of two fields
  pub memory : memory_cells large (split_of (patches 4 2)) ≡ 1021104

-- ---- three domains with steps of 60, 20 and 10 seconds: the third begins after 80 seconds, with a
-- step of the second. Three steps, with restart files after every second one, and feedback

abbrev pub nest : ℕ → ℕ → ℕ → ℤ → List ℕ → Domain
nest parent ratio seconds begins intervals = record (case_domain 3 3) {
  parent = parent;
  i_start = 2;
  j_start = 2;
  ratio = 3;
  time_ratio = ratio;
  seconds = seconds;
  begins = begins;
  intervals = intervals;
}

-- a frame of stream 0 after so many steps
abbrev pub every : ℕ → List ℕ
every n = n ∷ 0 ∷ 0 ∷ 0 ∷ 0 ∷ 0 ∷ 0 ∷ 0 ∷ 0 ∷ 0 ∷ []

-- a field that restart files hold
abbrev pub kept_field : Field
kept_field = record (case_field (codes "a") (codes "A")) { restart = true }

abbrev pub three : Plan
three = record (case_plan 4 4 3 kept_field halo) {
  domains = case_domain 4 4 ∷ nest 1 3 20 (pos 0) (every 2) ∷ nest 2 2 10 (pos 80) (every 1) ∷ [];
  restart_steps = 2;
  feedback = true;
}

-- the script as it is made, and the numbers of steps and frames of each domain
pub record ThreeDomains : Type 0 where
  pub in_time : HasDomainsInTime three
  pub items : script_items three ≡ 63
  -- 3 halos, 4 frames and a restart frame
  pub items_of_the_first : domain_items three 1 ≡ 8
  -- 9 halos, 5 frames, a restart frame, a start, 3 forces and 3 feedbacks
  pub items_of_the_second : domain_items three 2 ≡ 22
  -- 10 halos, 11 frames, a restart frame, a start, 5 forces and 5 feedbacks
  pub items_of_the_third : domain_items three 3 ≡ 33
  pub frames : length (frames_of (fresh_run three)) ≡ 23
  pub frames_of_domains : sum_by (domain_frames three) (domains_of three) ≡ 23
  -- 4 patches: a halo and a nest item are 8 events, a frame 9
  pub events : all_events three (split_of (patches 2 2)) ≡ 527
  pub events_of_the_first : domain_events three 4 1 ≡ 69
  pub events_of_the_second : domain_events three 4 2 ≡ 182
  pub events_of_the_third : domain_events three 4 3 ≡ 276
  -- a restart has one restart frame more of each domain
  pub items_of_restart : script_items (record three { restart = true }) ≡ 66
  pub events_of_restart : all_events (record three { restart = true })
      (split_of (patches 2 2)) ≡ 554

pub record LayoutRefusals : Type 0 where
  pub columns : first_fault (layout_faults demo (columns_layout 4)) ≡ Some (TooManyPatches 1 4)
  pub product : first_fault (layout_faults large (patches 17 16)) ≡ Some (TooManyPatches 1 272)
  pub tiles : first_fault (layout_faults large (record (patches 1 1) { tiles = 65 }))
      ≡ Some (TooManyTiles 65)
  pub accepted : first_fault (layout_faults large (patches 4 2)) ≡ None
