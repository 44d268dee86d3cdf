-- The frames of a sound run: their domains, streams and records.
use Rattle.std.proofs.Common.{◌≡◌, ℕ, ◌+◌, ◌*◌, ◌-◌, ◌<◌, ◌≤◌, ◌==◌, if◌then◌else◌, Bool, true, false, List, length, get_or, All, Some, refl, ap, sym, ◌∙◌, subst, arith}
use Rattle.std.specs.Prelude.{slice_get, slice_index}
use Rattle.std.proofs.lemmas.Bool.{eqb-false, ne_eqb}
use Rattle.std.proofs.lemmas.List.{get_or_default}
use Rattle.std.proofs.lemmas.List.Elements.{All-get_or}
use Rattle.std.proofs.lemmas.Option.{slice_get_within, get_or_from_slice_get}
use Rattle.wf_model.specs.declared.plan.Plan.{Plan}
use Rattle.wf_model.specs.declared.plan.Domain.{Domain}
use Rattle.wf_model.specs.declared.frame.Frame.{Frame}
use Rattle.wf_model.specs.declared.script.Act.TheVariants.{Emit}
use Rattle.wf_model.specs.Frames.{Output, frames_of}
use Rattle.wf_model.specs.Outcome.{RunData, script, entry_at, no_entry}
use Rattle.wf_model.specs.Plans.{domain_of, no_domain}
use Rattle.wf_model.specs.Ranges.{Within, IsRangedDomain}
use Rattle.wf_model.specs.Script.{restart_stream}
use Rattle.wf_model.specs.Sound.{IsDomain, IsSoundPlan}
use Rattle.wf_model.specs.Streams.{frames_per_file}
use Rattle.wf_stream.specs.FrameCounts.{IsKnownOutput}
use Rattle.wf_stream.proofs.FrameLaws.{frame_entry, frame_record}
use Rattle.wf_stream.proofs.ScriptEntries.{IsGoodEntry, good_script}

-- a domain's numbers are within their ranges
pub ranged_domain : (plan : Plan) (d : ℕ) → All IsRangedDomain plan.domains → IsDomain plan d → IsRangedDomain (domain_of plan d)
unfolding domain_of
ranged_domain plan d all is = All-get_or IsRangedDomain plan.domains (d - 1) no_domain (omega (arith, is.0, is.1)) all

-- by whether it is a restart file
by_test : (plan : Plan) (d stream : ℕ) → All IsRangedDomain plan.domains → IsDomain plan d → stream ≤ restart_stream → (b : Bool) → (stream == restart_stream) ≡ b
    → Within 1 100000 (if b then 1 else slice_index (domain_of plan d).frames stream)
by_test plan d stream all is known true e = (omega arith, omega arith)
by_test plan d stream all is known false e =
    let ranged = ranged_domain plan d all is in
    All-get_or (Within 1 100000) (domain_of plan d).frames stream 0 (omega (arith, ranged.frame_count, eqb-false stream restart_stream e, known)) ranged.frames

-- a file takes 1 to 100,000 frames
pub file_takes : (plan : Plan) (d stream : ℕ) → All IsRangedDomain plan.domains → IsDomain plan d → stream ≤ restart_stream → Within 1 100000 (frames_per_file plan d stream)
file_takes plan d stream all is known = by_test plan d stream all is known (stream == restart_stream) refl

-- of a stream that is none of restart files, by the list that the domain has
pub takes_other : (plan : Plan) (d stream : ℕ) (x : Domain) (takes : List ℕ) → (stream ≡ restart_stream → ⊥) → get_or plan.domains (d - 1) x ≡ x → d - 1 < length plan.domains → takes ≡ x.frames → get_or takes stream 0 ≡ frames_per_file plan d stream
unfolding domain_of
takes_other plan d stream x takes other at within same =
    let test : (stream == restart_stream) ≡ false = ne_eqb stream restart_stream other in
    let domain : x ≡ domain_of plan d = sym at ∙ get_or_default plan.domains (d - 1) x no_domain within in
    ap (λ (xs : List ℕ). get_or xs stream 0) same
    ∙ ap (λ (y : Domain). get_or y.frames stream 0) domain
    ∙ sym (ap (λ (b : Bool). if b then 1 else slice_index (domain_of plan d).frames stream) test)

module _ (r : RunData) (sound : IsSoundPlan r.plan) where
  -- an entry of the script
  pub good_entry : (n : ℕ) → n < length (script r) → IsGoodEntry r.plan ((r.plan).steps * (domain_of r.plan 1).seconds) (entry_at r n)
  unfolding entry_at
  good_entry n within = good_script r.plan r.initial.begins sound n no_entry within

  -- an output of the script
  pub known_output : (n : ℕ) (o : Output) → slice_get (script r) n ≡ Some o.entry → o.entry.act ≡ Emit o.stream → IsKnownOutput r.plan o
  known_output n o is act =
      let good = subst (IsGoodEntry r.plan ((r.plan).steps * (domain_of r.plan 1).seconds)) (get_or_from_slice_get (script r) n o.entry no_entry is) (good_script r.plan r.initial.begins sound n no_entry (slice_get_within (script r) n o.entry is)) in
      record { domain = good.domain; stream = good.stream o.stream act; time = good.time }

  -- the domain and the stream of a frame
  pub record IsKnown (f : Frame) : Type 0 where
    pub domain : IsDomain r.plan f.domain
    pub stream : f.stream ≤ restart_stream

  pub known_frame : (n : ℕ) (f : Frame) → slice_get (frames_of r) n ≡ Some f → IsKnown f
  known_frame n f h =
      let e = frame_entry r n f h in
      let good = good_entry f.place e.within in
      record { domain = subst (IsDomain r.plan) e.domain good.domain; stream = good.stream f.stream e.act }

  -- the record of a frame is at most the last that a file takes
  pub frame_record-ranged : (n : ℕ) (f : Frame) → All IsRangedDomain (r.plan).domains → slice_get (frames_of r) n ≡ Some f → f.rec + 1 ≤ 100000
  frame_record-ranged n f all h =
      let known = known_frame n f h in
      let takes = file_takes r.plan f.domain f.stream all known.domain known.stream in
      omega (arith, frame_record r n f h takes.0, takes.1)
