-- What a patch makes of the lists that it keeps is what the function that they hold becomes.
use Rattle.std.specs.Prelude.{◌≡◌, ℕ, List, map, ℤ}
use Rattle.wf_model.specs.declared.layout.Layout.{Layout}
use Rattle.wf_model.specs.declared.plan.Plan.{Plan}
use Rattle.wf_model.specs.declared.script.Entry.{Entry}
use Rattle.wf_model.specs.Outcome.{RunData}
use Rattle.wf_model.specs.Patches.{Split, split_of, own_box, cells_in, kept_at}
use Rattle.wf_model.specs.Exchange.{sender_of, receiver_of, carried}
use Rattle.wf_model.specs.PatchEffect.{Memory, Setting, Mail, after_setting, computing, taking}
use Rattle.wf_model.specs.PatchEffect.{least_failure}
use Rattle.wf_model.specs.Core.{memory_point}
use Rattle.wf_model.specs.Sound.{IsLevel}
use Rattle.wf_model.specs.Agreement.{IsPatch, cell_number}
use Rattle.wf_model.specs.Kept.{IsSoundPatch, ShowsMemory, SetsExactly}

-- by the lists a half names the same least point as by the function, or none; and lists that are
-- set as it says hold what it leaves of the function
pub record SetsAsShown (plan : Plan) (split : Split) (d p : ℕ) (half : Memory → Setting)
    (lists : List (List ℤ)) (m : Memory) : Type 0 where
  pub failure : least_failure plan split d p (half (kept_at plan split d p lists))
      ≡ least_failure plan split d p (half m)
  pub shown : (new : List (List ℤ)) →
      SetsExactly plan split d p (half (kept_at plan split d p lists)) lists new →
      ShowsMemory plan split d p new (after_setting (half m) m)

-- so it is of all that a patch computes
abbrev pub ListsComputeAsTheMemory : Type 0
ListsComputeAsTheMemory =
    (r : RunData) (layout : Layout) (e : Entry) (p : ℕ) (lists : List (List ℤ)) (m : Memory) →
    IsSoundPatch r.plan layout e.domain p →
    ShowsMemory r.plan (split_of layout) e.domain p lists m →
    SetsAsShown r.plan (split_of layout) e.domain p
    (computing r (split_of layout) e e.act p) lists m

-- and of all that it takes
abbrev pub ListsTakeAsTheMemory : Type 0
ListsTakeAsTheMemory =
    (r : RunData) (split : Split) (e : Entry) (p : ℕ) (mail : Mail) (lists : List (List ℤ))
    (m : Memory) → ShowsMemory r.plan split (receiver_of r.plan e e.act) p lists m →
    SetsAsShown r.plan split (receiver_of r.plan e e.act) p (taking r split e e.act p mail) lists m

-- a message that is made of the lists has the numbers of the function
abbrev pub ListsSendAsTheMemory : Type 0
ListsSendAsTheMemory =
    (plan : Plan) (layout : Layout) (e : Entry) (from to : ℕ) (lists : List (List ℤ)) (m : Memory) →
    let d : ℕ = sender_of plan e e.act in IsSoundPatch plan layout d from → IsPatch layout to →
    ShowsMemory plan (split_of layout) d from lists m →
    map (memory_point plan d (kept_at plan (split_of layout) d from lists))
    (carried plan (split_of layout) e e.act from to)
    ≡ map (memory_point plan d m) (carried plan (split_of layout) e e.act from to)

-- and so has a piece
abbrev pub ListsPostAsTheMemory : Type 0
ListsPostAsTheMemory =
    (plan : Plan) (layout : Layout) (d p f : ℕ) (lists : List (List ℤ)) (m : Memory) →
    IsSoundPatch plan layout d p → IsLevel plan f →
    ShowsMemory plan (split_of layout) d p lists m →
    map (cell_number (kept_at plan (split_of layout) d p lists))
    (cells_in plan f (own_box plan (split_of layout) d p f))
    ≡ map (cell_number m) (cells_in plan f (own_box plan (split_of layout) d p f))
