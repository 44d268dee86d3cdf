-- The run that some files ask for, and what it answers.
use Rattle.std.proofs.Common.{◌≡◌, ◌∙◌, sym, ap, refl, subst, [], Option, Some, None, Result, Ok, Err, Contains, append-nil}
use Rattle.std.proofs.lemmas.List.Elements.{Contains-append_left, Contains-append_right}
use Rattle.wf_model.specs.declared.plan.Plan.{Plan}
use Rattle.wf_model.specs.declared.initial.Initial.{Initial}
use Rattle.wf_model.specs.declared.point.Point.{Point}
use Rattle.wf_model.specs.Reading.{◌>>=◌, Fails}
use Rattle.wf_model.specs.Letters.{Text}
use Rattle.wf_model.specs.KeptLines.{Defines}
use Rattle.wf_model.specs.Files.{Files}
use Rattle.wf_model.specs.Refusals.{Refusal}
use Rattle.wf_model.specs.FilesRead.{Planned, plan_read, inputs_read}
use Rattle.wf_model.specs.Grids.{Grids}
use Rattle.wf_model.specs.Outcome.{RunData, Overflow, outcome_of}
use Rattle.wf_model.specs.Writes.{writes_of, summary_of}
use Rattle.wf_model.specs.Patches.{whole_domain}
use Rattle.wf_model.specs.Answer.{Answer, Outside, after, ended_as, run_answer, summary_line, overflow_line, unsaid}
use Rattle.wf_model.proofs.ReadingLemmas.{Fails-chain}
use Rattle.wf_grid.specs.Held.{point_at_end}
use Rattle.wf_stream.specs.Inputs.{input_names}
use Rattle.wf_setup.specs.declared.cases.Case.{Case}
use Rattle.wf_setup.specs.Asked.{case_names}
use Rattle.wf_setup.specs.Cases.{case_read}
use Rattle.wf_setup.proofs.ConfigChain.{second_fails}
use Rattle.wf_setup.proofs.PlansRead.{cases_are_plans_read}
use Rattle.wf_top.specs.Plain.{plain_answer, run_from, run_read, whole_answer, answer_to, inputs_asked, plain_names}

-- ---- what is read

-- the case of the texts, and the input files
pub run_given : (outside : Outside) (m : Files) (defines : Defines) (c : Case) (initial : Initial) → case_read outside.hooks m defines ≡ Ok c → inputs_read m c.plan ≡ Ok initial → run_read outside m defines ≡ Ok (run_from outside c.plan initial)
unfolding run_read
run_given outside m defines c initial c_is i_is =
    ap (λ (r : Result Planned Refusal). r >>= λ read. inputs_read m read.1 >>= λ i. Ok (run_from outside read.1 i)) ((cases_are_plans_read outside.hooks m defines).0 c c_is)
    ∙ ap (λ (r : Result Initial Refusal). r >>= λ i. Ok (run_from outside c.plan i)) i_is

-- a text is refused
pub texts_fail : (outside : Outside) (m : Files) (defines : Defines) (x : Option Refusal) → Fails x (case_read outside.hooks m defines) → Fails x (run_read outside m defines)
unfolding run_read
texts_fail outside m defines None fails = tt
texts_fail outside m defines (Some f) fails =
    Fails-chain (Some f) (plan_read outside.hooks m defines) (λ read. inputs_read m read.1 >>= λ i. Ok (run_from outside read.1 i)) ((cases_are_plans_read outside.hooks m defines).1 f fails)

-- an input file is refused
pub inputs_fail : (outside : Outside) (m : Files) (defines : Defines) (x : Option Refusal) (c : Case) → case_read outside.hooks m defines ≡ Ok c → Fails x (inputs_read m c.plan) → Fails x (run_read outside m defines)
unfolding run_read
inputs_fail outside m defines x c is fails =
    second_fails x (plan_read outside.hooks m defines) (c.config, c.plan) (λ read. inputs_read m read.1 >>= λ i. Ok (run_from outside read.1 i)) ((cases_are_plans_read outside.hooks m defines).0 c is)
    (Fails-chain x (inputs_read m c.plan) (λ i. Ok (run_from outside c.plan i)) fails)

-- ---- the files that are asked for

pub text_among : (outside : Outside) (m : Files) (defines : Defines) (q : Text) → Contains (case_names m defines) q → Contains (plain_names outside m defines) q
unfolding plain_names
text_among outside m defines q there = Contains-append_left (case_names m defines) (inputs_asked (plan_read outside.hooks m defines)) q there

pub input_among : (outside : Outside) (m : Files) (defines : Defines) (c : Case) (q : Text) → case_read outside.hooks m defines ≡ Ok c → Contains (input_names c.plan) q → Contains (plain_names outside m defines) q
unfolding plain_names
input_among outside m defines c q is there =
    Contains-append_right (case_names m defines) (inputs_asked (plan_read outside.hooks m defines)) q
    (subst (λ (r : Result Planned Refusal). Contains (inputs_asked r) q) (sym ((cases_are_plans_read outside.hooks m defines).0 c is)) there)

-- ---- the answer

with_inputs : (outside : Outside) (plan : Plan) (inputs : Result Initial Refusal) → answer_to (inputs >>= λ i. Ok (run_from outside plan i)) ≡ after inputs λ i. whole_answer (run_from outside plan i)
with_inputs outside plan (Ok i) = refl
with_inputs outside plan (Err x) = refl

with_texts : (outside : Outside) (texts : Result Planned Refusal) (inputs : Plan → Result Initial Refusal)
    → answer_to (texts >>= λ read. inputs read.1 >>= λ i. Ok (run_from outside read.1 i)) ≡ after texts λ read. after (inputs read.1) λ i. whole_answer (run_from outside read.1 i)
with_texts outside (Ok read) inputs = with_inputs outside read.1 (inputs read.1)
with_texts outside (Err x) inputs = refl

-- the answer to what is read of some files is theirs
pub answer_is : (outside : Outside) (m : Files) (defines : Defines) → answer_to (run_read outside m defines) ≡ plain_answer outside m defines
unfolding run_read
answer_is outside m defines = with_texts outside (plan_read outside.hooks m defines) (inputs_read m)

ran : (r : RunData) (outcome : Result Grids Overflow) → point_at_end outcome ≡ None
    → record { status = 0; text = summary_line (summary_of r); calls = writes_of r } ≡ ended_as r whole_domain unsaid outcome
ran r (Ok g) none =
    ap (λ (t : Text). let a : Answer = record { status = 0; text = t; calls = writes_of r } in a) (sym (append-nil (summary_line (summary_of r))))
ran r (Err o) none = absurd (cc none)

-- a run that ends
pub ran_whole : (r : RunData) → point_at_end (outcome_of r) ≡ None → record { status = 0; text = summary_line (summary_of r); calls = writes_of r } ≡ whole_answer r
unfolding run_answer
ran_whole r none = ran r (outcome_of r) none

overflowed : (r : RunData) (point : Point) (outcome : Result Grids Overflow) → point_at_end outcome ≡ Some point
    → record { status = 8; text = overflow_line r.plan point; calls = writes_of r } ≡ ended_as r whole_domain unsaid outcome
overflowed r point (Ok g) is = absurd (cc is)
overflowed r point (Err o) is =
    let same : point ≡ o.point = cc is in
    ap (λ (p : Point). let a : Answer = record { status = 8; text = overflow_line r.plan p; calls = writes_of r } in a) same

-- a run that overflows
pub ran_over : (r : RunData) (point : Point) → point_at_end (outcome_of r) ≡ Some point → record { status = 8; text = overflow_line r.plan point; calls = writes_of r } ≡ whole_answer r
unfolding run_answer
ran_over r point is = overflowed r point (outcome_of r) is

calls_of : (r : RunData) (outcome : Result Grids Overflow) → writes_of r ≡ (ended_as r whole_domain unsaid outcome).calls
calls_of r (Ok g) = refl
calls_of r (Err o) = refl

-- its calls, however it ends
pub calls_are : (r : RunData) → writes_of r ≡ (whole_answer r).calls
unfolding run_answer
calls_are r = calls_of r (outcome_of r)
