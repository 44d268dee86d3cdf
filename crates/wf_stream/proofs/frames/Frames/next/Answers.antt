use Rattle.std.proofs.Common.{ℕ, ◌+◌, ◌<◌, ◌∙◌, ap, sym, subst, get_or, set, length, drop, List, Some, arith}
use Rattle.std.specs.Prelude.{slice_get}
use Rattle.wf_model.specs.declared.frame.Frame.{Frame}
use Rattle.wf_model.specs.declared.plan.Plan.{Plan}
use Rattle.wf_model.specs.declared.script.Entry.{Entry}
use Rattle.wf_model.specs.Frames.{frames_of, outputs_from}
use Rattle.wf_model.specs.Outcome.{RunData}
use Rattle.wf_stream.specs.declared.frames.StreamFile.{StreamFile}
use Rattle.wf_stream.specs.FrameCounts.{IsKnownOutput, IsUnderWay, file_with, frame_in, output}
use Rattle.wf_stream.proofs.FrameSteps.{no_frame-left}
use Rattle.wf_stream.proofs.NextFrame.{place_in, known_here, file_within, GoesOn, goes_on}
use Rattle.wf_stream.proofs.frames.Frames.next.Given.{Over}
use Rattle.wf_stream.proofs.frames.Frames.next.Goals.{In-Some, After-index}
use Rattle.wf_stream.proofs.frames.Frames.next.Goals as goal

-- the run
abbrev run : Over → RunData
run g = g.N.RunName.run

-- the entry that was found is a frame of a domain and stream of the plan
known : (g : Over) (c : In-Some g) → IsKnownOutput (run g).plan (output c.in-Some.emitted)
known g c = known_here (run g) c.script.result.now c.in-Some.emitted c.requires.sound c.script.ensures c.in-Some.ensures.entry c.in-Some.ensures.act

-- its file is one of the table
within : (g : Over) (c : In-Some g) → place_in c.in-Some.emitted < length c.self.inside.files.items
within g c = file_within (run g) c.self.inside.number c.self.inside.place c.self.inside.files.items c.in-Some.emitted c.self.invariant (known g c)

-- what it gives with the file that was read
next : (g : Over) (c : After-index g) → GoesOn (run g) c.self.inside.number c.self.inside.place c.self.inside.files.items c.in-Some.emitted c.index.result.now
next g c = goes_on (run g) c.self.inside.number c.self.inside.place c.self.inside.files.items c.script.result.now c.in-Some.emitted c.index.result.now
    c.requires.sound c.self.invariant c.script.ensures c.in-Some.ensures.found c.in-Some.ensures.entry c.in-Some.ensures.act c.in-Some.ensures.behind
    (c.index.ensures ∙ ap (λ (k : ℕ). get_or c.self.inside.files.items k c.index.result.now) c.place_of-at.ensures)

pub returns-in_default-clause-frame : goal.returns-in_default-clause-frame
returns-in_default-clause-frame g c =
    let none = ap (λ (es : List Entry). outputs_from c.self.inside.place (drop c.self.inside.place es)) (sym c.script.ensures) ∙ c.in_default.ensures.none in
    sym (ap (slice_get (frames_of (run g))) (sym c.self.view_is) ∙ no_frame-left (run g) c.self.inside.number c.self.inside.place c.self.inside.files.items c.self.invariant none)

pub place_of-at-requires : goal.place_of-at-requires
place_of-at-requires g c = (known g (goal.at.place_of-at-requires g c).In-Some).domain.0

pub index-requires : goal.index-requires
index-requires g c = omega (arith, within g (goal.at.index-requires g c).In-Some, c.place_of-at.ensures, c.self.inside.files.ok.0)

pub frame_in-requires-clause-known : goal.frame_in-requires-clause-known
frame_in-requires-clause-known g c =
    subst (λ (plan : Plan). IsKnownOutput plan (output c.in-Some.emitted)) (sym c.plan.ensures) (known g (goal.at.frame_in-requires-clause-known g c).In-Some)

pub file_with-requires-clause-known : goal.file_with-requires-clause-known
file_with-requires-clause-known g c =
    subst (λ (plan : Plan). IsKnownOutput plan (output c.in-Some.emitted)) (sym c.plan-2.ensures) (known g (goal.at.file_with-requires-clause-known g c).In-Some)

pub file_with-requires-clause-room : goal.file_with-requires-clause-room
file_with-requires-clause-room g c = (next g (goal.at.file_with-requires-clause-room g c).After-index).room

pub index_mut-requires : goal.index_mut-requires
index_mut-requires g c = omega (arith, within g (goal.at.index_mut-requires g c).In-Some, c.place_of-at.ensures, c.self.inside.files.ok.0)

pub overflow_add-self : goal.overflow_add-self
overflow_add-self g c = omega (arith, (next g (goal.at.overflow_add-self g c).After-index).numbers)

pub overflow_add-self-2 : goal.overflow_add-self-2
overflow_add-self-2 g c = omega (arith, (next g (goal.at.overflow_add-self-2 g c).After-index).places)

pub invariant_of-self : goal.invariant_of-self
invariant_of-self g c =
    let on = next g (goal.at.invariant_of-self g c).After-index in
    let file = ap (λ (plan : Plan). file_with plan c.index.result.now (output c.in-Some.emitted)) (sym c.plan-2.ensures) ∙ sym c.file_with.ensures in
    subst (λ (k : ℕ). IsUnderWay (run g) (c.self.inside.number + 1) (c.in-Some.emitted.place + 1) (set c.self.inside.files.items k c.file_with.result)) (sym c.place_of-at.ensures)
    (subst (λ (x : StreamFile). IsUnderWay (run g) (c.self.inside.number + 1) (c.in-Some.emitted.place + 1) (set c.self.inside.files.items (place_in c.in-Some.emitted) x)) file on.under)

pub returns-clause-frame : goal.returns-clause-frame
returns-clause-frame g c =
    let on = next g (goal.at.returns-clause-frame g c).After-index in
    let frame = ap (λ (plan : Plan). frame_in plan c.self.inside.number c.index.result.now (output c.in-Some.emitted)) (sym c.plan.ensures) ∙ sym c.in_ok-frame.ensures in
    sym (ap (slice_get (frames_of (run g))) (sym c.self.view_is) ∙ on.frame ∙ ap (λ (f : Frame). Some f) frame)
