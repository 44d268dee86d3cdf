-- What a half sets depends on the cells that the patch keeps, and on no others.
use Rattle.std.specs.Prelude.{◌≡◌, ℕ}
use Rattle.wf_model.specs.declared.layout.Layout.{Layout}
use Rattle.wf_model.specs.declared.plan.Plan.{Plan}
use Rattle.wf_model.specs.declared.script.Entry.{Entry}
use Rattle.wf_model.specs.Outcome.{RunData}
use Rattle.wf_model.specs.Patches.{Split, split_of}
use Rattle.wf_model.specs.Exchange.{receiver_of}
use Rattle.wf_model.specs.PatchEffect.{Memory, Setting, Mail, after_setting, computing, taking}
use Rattle.wf_model.specs.PatchEffect.{least_failure}
use Rattle.wf_model.specs.Kept.{IsSoundPatch, HoldAlike, SetAlike}

-- a patch computes alike on memories that hold alike: phases and swaps (no other half computes)
abbrev pub PatchesComputeAlike : Type 0
PatchesComputeAlike =
    (r : RunData) (layout : Layout) (e : Entry) (p : ℕ) (m n : Memory) →
    IsSoundPatch r.plan layout e.domain p → HoldAlike r.plan (split_of layout) e.domain p m n →
    SetAlike r.plan (split_of layout) e.domain p (computing r (split_of layout) e e.act p m)
    (computing r (split_of layout) e e.act p n)

-- and takes the same mail alike: halos, periods, starts, forces and feedbacks
abbrev pub PatchesTakeAlike : Type 0
PatchesTakeAlike =
    (r : RunData) (split : Split) (e : Entry) (p : ℕ) (mail : Mail) (m n : Memory) →
    HoldAlike r.plan split (receiver_of r.plan e e.act) p m n →
    SetAlike r.plan split (receiver_of r.plan e e.act) p (taking r split e e.act p mail m)
    (taking r split e e.act p mail n)

-- settings that set alike name the same least point, or none
abbrev pub AlikeSettingsFailAlike : Type 0
AlikeSettingsFailAlike =
    (plan : Plan) (split : Split) (d p : ℕ) (a b : Setting) → SetAlike plan split d p a b →
    least_failure plan split d p a ≡ least_failure plan split d p b

-- and leave memories that hold alike so
abbrev pub AlikeSettingsLeaveAlike : Type 0
AlikeSettingsLeaveAlike =
    (plan : Plan) (split : Split) (d p : ℕ) (a b : Setting) (m n : Memory) →
    SetAlike plan split d p a b → HoldAlike plan split d p m n →
    HoldAlike plan split d p (after_setting a m) (after_setting b n)
