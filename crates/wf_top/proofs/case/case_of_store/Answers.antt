use Rattle.std.proofs.Common.{List, IfOk, sym, subst}
use Rattle.std.specs.List.{All}
use Rattle.wf_model.specs.declared.table.HookName.{HookName}
use Rattle.wf_model.specs.Reading.{Gives}
use Rattle.wf_model.specs.Sound.{CallsHooks}
use Rattle.wf_model.specs.Hooks.{HasFewArguments}
use Rattle.wf_setup.specs.Cases.{case_read}
use Rattle.wf_setup.specs.Errors.{refusal_of}
use Rattle.wf_top.proofs.case.case_of_store.Goals as goal

pub read_case-requires : goal.read_case-requires
read_case-requires g c = subst (All HasFewArguments) (sym c.names.ensures) c.requires.few

pub returns-clause-calls : goal.returns-clause-calls
returns-clause-calls g c = subst (λ (hooks : List HookName). IfOk c.read_case.result (λ it. All (CallsHooks hooks) it.plan.items)) c.names.ensures c.read_case.ensures.calls

pub returns-clause-case : goal.returns-clause-case
returns-clause-case g c = λ m told. subst (λ (hooks : List HookName). Gives (λ it. it) refusal_of c.read_case.result (case_read hooks m c.args.defines.now)) c.names.ensures (c.read_case.ensures.case m told)
