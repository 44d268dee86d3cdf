-- Worked cases of nests: rounding, offsets, the order of the script, a start.
use Rattle.std.specs.Prelude.{ℕ, ◌≡◌, ◌*◌, ◌%◌, ◌==◌, true, false, if◌then◌else◌, List, [], ◌∷◌}
use Rattle.std.specs.Prelude.{map, ℤ, pos, negsuc, unsigned_abs, Some, slice_index_or, codes}
use Rattle.std.specs.List.{range_with_len}
use Rattle.wf_model.specs.declared.plan.Domain.{Domain}
use Rattle.wf_model.specs.declared.plan.Item.TheVariants as item
use Rattle.wf_model.specs.declared.script.Act.{Act}
use Rattle.wf_model.specs.declared.script.Act.TheVariants.{Start, Force, Feedback, Table, Emit}
use Rattle.wf_model.specs.declared.script.Entry.{Entry}
use Rattle.wf_model.specs.declared.layout.Layout.{Layout}
use Rattle.wf_model.specs.Value.{Answers}
use Rattle.wf_model.specs.Grids.{level_list}
use Rattle.wf_model.specs.Nests.{bilin, mean, offset}
use Rattle.wf_model.specs.Outcome.{RunData, grids_at, script}
use Rattle.wf_model.specs.Lockstep.{lockstep_at}
use Rattle.wf_model.specs.DemoCase.{case_start, case_domain, case_field, case_plan}

pub record NestRounding : Type 0 where
  -- the mean of nine numbers with these sums; halves go up
  pub mean_of_less : mean 9 (negsuc 0) ≡ pos 0
  pub mean_of_minus_five : mean 9 (negsuc 4) ≡ negsuc 0
  pub mean_of_four : mean 9 (pos 4) ≡ pos 0
  pub mean_of_five : mean 9 (pos 5) ≡ pos 1
  -- along a row with parent values 0, 9, 27 and a ratio of 3: the three points of the middle cell
  pub west : bilin (pos 0) (pos 9) (pos 0) (pos 9) 2 0 3 ≡ pos 6
  pub middle : bilin (pos 9) (pos 27) (pos 9) (pos 27) 0 0 3 ≡ pos 9
  pub east : bilin (pos 9) (pos 27) (pos 9) (pos 27) 1 0 3 ≡ pos 15
  -- the first four points of a nest that begins at parent point 3
  pub offsets : map (offset false 3 3) (1 ∷ 2 ∷ 3 ∷ 4 ∷ []) ≡ record { at = 2; past = 2 }
      ∷ record { at = 3; past = 0 } ∷ record { at = 3; past = 1 } ∷ record { at = 3; past = 2 } ∷ []

-- ---- a domain of 4 by 4 points and a nest of 3 by 3 on its point (2, 2), with three steps for
-- each of its steps

-- bilin has the id 2, mean any other
abbrev pub shipped : Answers
shipped id xs =
    let at : ℕ → ℤ = λ n. slice_index_or xs n (pos 0) in
    let nat : ℕ → ℕ = λ n. unsigned_abs (slice_index_or xs n (pos 0)) in
    if id == 2 then bilin (at 0) (at 1) (at 2) (at 3) (nat 4) (nat 5) (nat 6)
    else mean (nat 0) (at 1)

abbrev pub nest : Domain
nest = record (case_domain 3 3) {
  parent = 1;
  i_start = 2;
  j_start = 2;
  ratio = 3;
  time_ratio = 3;
  seconds = 20;
  from_file = false;
}

-- one step of the outer domain, whose numbers are
-- 0 37 74 11 / 48 85 22 59 / 96 33 70 7 / 44 81 18 55
abbrev pub two : RunData
two = record {
  plan = record (case_plan 4 4 1 (case_field (codes "a") (codes "A"))
      (item.Halo (record { field = 0; cross = true; radius = 1 } ∷ []) ∷ [])) {
        domains = case_domain 4 4 ∷ nest ∷ [];
        fields = record (case_field (codes "a") (codes "A")) {
          down = Some 2;
          edge = Some 2;
          up = Some 4;
        } ∷ [];
        feedback = true;
        bdy_width = 1;
      };
  initial = record {
    grids = (map (λ n. pos ((37 * n) % 100)) (range_with_len 0 16) ∷ []) ∷ [];
    begins = record { steps = 0; start_text = case_start; resumed = false }
        ∷ record { steps = 0; start_text = case_start; resumed = false } ∷ [];
  };
  answers = shipped;
}

-- both domains resume, after 5 and 15 steps, and every third step of the outer one has
-- restart frames
abbrev pub resumed : RunData
resumed = record two {
  plan = record (two.plan) { restart_steps = 3 };
  initial = record {
    grids = [];
    begins = record { steps = 5; start_text = case_start; resumed = true }
        ∷ record { steps = 15; start_text = case_start; resumed = true } ∷ [];
  };
}

-- a domain, the number of its step, and what is done
pub record Seen : Type 0 where
  pub domain : ℕ
  pub step : ℕ
  pub act : Act

abbrev pub does : ℕ → ℕ → Act → Seen
does domain step act = record { domain = domain; step = step; act = act }

abbrev pub order : RunData → List Seen
order r = map (λ (e : Entry). does e.domain e.step e.act) (script r)

-- frames of stream 0 are Emit 0, the restart's Emit 10
pub record NestScript : Type 0 where
  pub from_the_start : order two ≡
      does 1 0 (Emit 0) ∷ does 2 0 Start ∷ does 2 0 (Emit 0) ∷ does 1 1 (Table 0)
      ∷ does 2 1 Force ∷ does 2 1 (Table 0) ∷ does 2 1 (Emit 0) ∷ does 2 2 (Table 0)
      ∷ does 2 2 (Emit 0) ∷ does 2 3 (Table 0) ∷ does 2 3 (Emit 0) ∷ does 2 1 Feedback
      ∷ does 1 1 (Emit 0) ∷ []
  -- no start and no start frames, and the numbers go on
  pub after_a_restart : order resumed ≡
      does 1 6 (Table 0)
      ∷ does 2 16 Force ∷ does 2 16 (Table 0) ∷ does 2 16 (Emit 0) ∷ does 2 17 (Table 0)
      ∷ does 2 17 (Emit 0) ∷ does 2 18 (Table 0) ∷ does 2 18 (Emit 0) ∷ does 2 6 Feedback
      ∷ does 1 6 (Emit 0) ∷ does 1 6 (Emit 10) ∷ does 2 18 (Emit 10) ∷ []

abbrev pub two_by_two : Layout
two_by_two =
    record { nproc_x = 2; nproc_y = 2; tiles = 1; groups = 1; servers = 1; depth = 8; workers = 1 }

pub record NestStart : Type 0 where
  pub grid : level_list two.plan 2 0 (grids_at two 2)
      ≡ pos 57 ∷ pos 69 ∷ pos 59 ∷ pos 73 ∷ pos 85 ∷ pos 64 ∷ pos 66 ∷ pos 68 ∷ pos 58 ∷ []
  -- the last of four patches has the same numbers at (1, 1), (2, 2) and (3, 3), from the messages
  -- of four patches of the outer domain
  pub last_patch : map (λ j. ((lockstep_at two two_by_two 2).patches 2 3).memory 0 1 (pos j)
      (pos j)) (1 ∷ 2 ∷ 3 ∷ []) ≡ pos 57 ∷ pos 85 ∷ pos 58 ∷ []
