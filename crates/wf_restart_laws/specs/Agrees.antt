-- Two runs whose grids agree where it counts go on alike: on each level that restart files hold,
-- and on each that is live from here to the step's end.
use Rattle.std.specs.Prelude.{◌≡◌, ℕ, ◌<◌, ◌≤◌, Bool, ◌||◌, List, [], ◌∷◌, length, IsTrue, Contains}
use Rattle.wf_model.specs.declared.plan.Plan.{Plan}
use Rattle.wf_model.specs.declared.script.Act.{Act}
use Rattle.wf_model.specs.declared.script.Act.TheVariants.{Start, Force, Feedback, Table, Emit}
use Rattle.wf_model.specs.declared.script.Entry.{Entry}
use Rattle.wf_model.specs.Plans.{domain_of, field_of, item_of, nx, ny, nz}
use Rattle.wf_model.specs.Ranges.{Within}
use Rattle.wf_model.specs.Value.{Answers}
use Rattle.wf_model.specs.Grids.{Grid, Grids}
use Rattle.wf_model.specs.Changes.{Change, changed, overflow_in, table_change}
use Rattle.wf_model.specs.Nests.{start_change, force_change, feedback_change}
use Rattle.wf_model.specs.Streams.{file_list, stream_levels}
use Rattle.wf_model.specs.Script.{restart_stream}
use Rattle.wf_model.specs.Live.{Deed, starts_nests, forces, feeds, item_done, emits, deeds_of}
use Rattle.wf_model.specs.Live.{live_through}
use Rattle.wf_model.specs.Outcome.{RunData, script, begin_grids, grids_at, grids_after, overflow_of}
use Rattle.wf_model.specs.Sound.{IsDomain, IsLevel, IsSoundPlan}
use Rattle.wf_model.specs.SoundRun.{IsSoundRun}
use Rattle.wf_model.specs.Continued.{place_after, IsRestartTime, HoldsLiveLevels, IsContinuedBy}

-- ---- agreement

-- the same numbers at each point of a level
abbrev pub AgreeOn : Plan → ℕ → ℕ → Grids → Grids → Type 0
AgreeOn plan d f g h =
    (k j i : ℕ) → Within 1 (nz plan f) k → Within 1 (ny plan d f) j → Within 1 (nx plan d f) i →
    g d f k j i ≡ h d f k j i

-- on all levels of a domain
abbrev pub AgreeWhole : Plan → ℕ → Grids → Grids → Type 0
AgreeWhole plan d g h = (f : ℕ) → IsLevel plan f → AgreeOn plan d f g h

-- restart files hold the level, or a use of it comes first among what is left of the step
abbrev pub is_wanted : Plan → ℕ → List Deed → ℕ → Bool
is_wanted plan d rest f = (field_of plan f).restart || live_through plan d rest f

-- on all levels that are wanted
abbrev pub AgreeWhereWanted : Plan → ℕ → List Deed → Grids → Grids → Type 0
AgreeWhereWanted plan d rest g h =
    (f : ℕ) → IsLevel plan f → IsTrue (is_wanted plan d rest f) → AgreeOn plan d f g h

-- where restart files hold each live level, no more is wanted at a step's start than at its end
abbrev pub StepsWantWhatRestartsHold : Type 0
StepsWantWhatRestartsHold =
    (plan : Plan) (d f : ℕ) → HoldsLiveLevels plan → 1 ≤ plan.restart_steps → IsDomain plan d →
    IsLevel plan f → IsTrue (is_wanted plan d (deeds_of plan d) f) →
    IsTrue ((field_of plan f).restart)

-- ---- one item

-- two changes overflow at the same point, or nowhere
abbrev pub OverflowAlike : Plan → Change → Change → Type 0
OverflowAlike plan c x = overflow_in plan c ≡ overflow_in plan x

-- an item of the table
pub record TableGoesAlike (plan : Plan) (m : Answers) (d step n : ℕ) (rest : List Deed)
    (g h : Grids) : Type 0 where
  pub overflow : OverflowAlike plan (table_change plan m g d step (item_of plan n))
      (table_change plan m h d step (item_of plan n))
  pub after : AgreeWhereWanted plan d rest
      (changed (table_change plan m g d step (item_of plan n)) g)
      (changed (table_change plan m h d step (item_of plan n)) h)

abbrev pub TableItemsGoAlike : Type 0
TableItemsGoAlike =
    (plan : Plan) (m : Answers) (d step n : ℕ) (rest : List Deed) (g h : Grids) → IsSoundPlan plan →
    IsDomain plan d → n < length plan.items →
    AgreeWhereWanted plan d (item_done (item_of plan n) ∷ rest) g h →
    TableGoesAlike plan m d step n rest g h

-- a nest's start: all of the nest
pub record StartGoesAlike (plan : Plan) (m : Answers) (x y : ℕ → ℕ → Grid) (c : ℕ)
    (g h : Grids) : Type 0 where
  pub overflow : OverflowAlike plan (start_change plan m x g c) (start_change plan m y h c)
  pub after : AgreeWhole plan c
      (changed (start_change plan m x g c) g) (changed (start_change plan m y h c) h)

abbrev pub StartsGoAlike : Type 0
StartsGoAlike =
    (plan : Plan) (m : Answers) (x y : ℕ → ℕ → Grid) (c : ℕ) (rest : List Deed) (g h : Grids) →
    IsSoundPlan plan → 1 < c → IsDomain plan c →
    AgreeWhereWanted plan (domain_of plan c).parent (starts_nests ∷ rest) g h →
    AgreeWhole plan c g h → AgreeWhole plan c (λ d f. x d f) (λ d f. y d f) →
    StartGoesAlike plan m x y c g h

-- a force
pub record ForceGoesAlike (plan : Plan) (m : Answers) (c : ℕ) (rest : List Deed)
    (g h : Grids) : Type 0 where
  pub overflow : OverflowAlike plan (force_change plan m g c) (force_change plan m h c)
  pub after : AgreeWhereWanted plan c rest
      (changed (force_change plan m g c) g) (changed (force_change plan m h c) h)

abbrev pub ForcesGoAlike : Type 0
ForcesGoAlike =
    (plan : Plan) (m : Answers) (c : ℕ) (above rest : List Deed) (g h : Grids) → IsSoundPlan plan →
    1 < c → IsDomain plan c →
    AgreeWhereWanted plan (domain_of plan c).parent (forces ∷ above) g h →
    AgreeWhereWanted plan c (forces ∷ rest) g h → ForceGoesAlike plan m c rest g h

-- a feedback, into the parent
pub record FeedbackGoesAlike (plan : Plan) (m : Answers) (c : ℕ) (above : List Deed)
    (g h : Grids) : Type 0 where
  pub overflow : OverflowAlike plan (feedback_change plan m g c) (feedback_change plan m h c)
  pub after : AgreeWhereWanted plan (domain_of plan c).parent above
      (changed (feedback_change plan m g c) g) (changed (feedback_change plan m h c) h)

abbrev pub FeedbacksGoAlike : Type 0
FeedbacksGoAlike =
    (plan : Plan) (m : Answers) (c : ℕ) (above rest : List Deed) (g h : Grids) → IsSoundPlan plan →
    1 < c → IsDomain plan c →
    AgreeWhereWanted plan (domain_of plan c).parent (feeds ∷ above) g h →
    AgreeWhereWanted plan c (feeds ∷ rest) g h → FeedbackGoesAlike plan m c above g h

-- a frame of a history or auxiliary stream, and one of restart files
abbrev pub FramesShowAlike : Type 0
FramesShowAlike =
    (plan : Plan) (d stream f : ℕ) (rest : List Deed) (g h : Grids) → IsSoundPlan plan →
    IsDomain plan d → Contains (stream_levels plan stream) f →
    AgreeWhereWanted plan d (emits stream ∷ rest) g h → file_list plan d f g ≡ file_list plan d f h

abbrev pub RestartFramesShowAlike : Type 0
RestartFramesShowAlike =
    (plan : Plan) (d f : ℕ) (rest : List Deed) (g h : Grids) → IsSoundPlan plan → IsDomain plan d →
    Contains (stream_levels plan restart_stream) f →
    AgreeWhereWanted plan d rest g h → file_list plan d f g ≡ file_list plan d f h

-- ---- items of a run

-- what is shown of a frame's levels; of other items nothing is shown
abbrev pub ShowAlike : RunData → RunData → Entry → Act → Grids → Grids → Type 0
ShowAlike r s e (Emit stream) g h =
    (f : ℕ) → Contains (stream_levels r.plan stream) f →
    file_list r.plan e.domain f g ≡ file_list s.plan e.domain f h
ShowAlike r s e Start g h = Unit {0}
ShowAlike r s e Force g h = Unit {0}
ShowAlike r s e Feedback g h = Unit {0}
ShowAlike r s e (Table n) g h = Unit {0}

-- an item does the same in both runs, each on its own grids: it overflows at the same point or
-- nowhere, and a frame shows the same
pub record GoesAlike (r s : RunData) (e : Entry) (g h : Grids) : Type 0 where
  pub overflow : overflow_of r e g ≡ overflow_of s e h
  pub frame : ShowAlike r s e e.act g h

-- and so do the items that follow, each on the grids that those before it leave
abbrev pub GoAlike : RunData → RunData → List Entry → Grids → Grids → Type 0
GoAlike r s [] g h = Unit {0}
GoAlike r s (e ∷ es) g h =
    GoesAlike r s e g h × GoAlike r s es (grids_after r g e) (grids_after s h e)

-- the items of a run that goes on do what they do in the run whose restart files it began with
abbrev pub ContinuedRunsGoAlike : Type 0
ContinuedRunsGoAlike =
    (r s : RunData) (m : ℕ) → IsSoundRun r → HoldsLiveLevels r.plan → IsRestartTime r m →
    IsContinuedBy r m s → GoAlike r s (script s) (grids_at r (place_after r m)) (begin_grids s)
