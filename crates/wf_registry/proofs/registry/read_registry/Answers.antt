use Rattle.std.proofs.Common.{◌≡◌, ◌<◌, ◌∙◌, sym, ap, subst, Ok, Some, None, [], arith, IfSome, IfNone, length, map, get_or}
use Rattle.std.specs.List.{All}
use Rattle.std.proofs.lemmas.Result.{err_from_is_err_and}
use Rattle.wf_model.specs.declared.registry.RegistryKind.TheVariants.{UnknownName}
use Rattle.wf_model.specs.Reading.{Fails}
use Rattle.wf_model.specs.Registry.{fault_at}
use Rattle.wf_registry_columns.specs.Axes.{HasAxesOf}
use Rattle.wf_registry_lines.specs.Kept.{IsThere, kept_in}
use Rattle.wf_registry.specs.Judged.{lines_judged}
use Rattle.wf_registry.specs.LineEntries.{lines_entries}
use Rattle.wf_registry.specs.RegistryErrors.{fault_of}
use Rattle.wf_registry.specs.Unknown.{AreKnownBelow, IsFirstUnknown}
use Rattle.wf_registry.proofs.LineReads.{no_line}
use Rattle.wf_registry.proofs.Registries.{IsRead, as_many, registry_accepted, registry_broken, registry_stopped, registry_unnamed}
use Rattle.wf_registry.proofs.registry.read_registry.Goals as goal

pub returns-in_err-declared : goal.returns-in_err-declared
returns-in_err-declared c =
    let files = c.args.files.now in
    let lines = c.in_ok-lines.field-0.lines.items in
    let all = c.in_ok-all.all in
    let read : IsRead files c.args.defines.now lines c.in_ok-lines.field-0.fault all = record {
      lines_are = c.in_ok-lines.ensures.lines;
      end_is = c.in_ok-lines.ensures.fault;
      letters = subst (λ ls. HasAxesOf all (lines_entries files ls)) c.deref.ensures.value c.in_ok-all.ensures;
    } in
    let told = fault_of c.in_err-declared.field-0.0 in
    let p = err_from_is_err_and c.from_residual-in_err-declared.result c.from_residual-in_err-declared.ensures.1 in
    rw (p.1, p.2) (registry_broken files c.args.defines.now lines c.in_ok-lines.field-0.fault all read told
    (subst (λ ls. Fails told (lines_judged all [] (map (kept_in files) ls))) c.deref-2.ensures.value c.in_err-declared.ensures))

pub returns-in-Some : goal.returns-in-Some
returns-in-Some c =
    let files = c.args.files.now in
    let lines = c.in_ok-lines.field-0.lines.items in
    let all = c.in_ok-all.all in
    let read : IsRead files c.args.defines.now lines c.in_ok-lines.field-0.fault all = record {
      lines_are = c.in_ok-lines.ensures.lines;
      end_is = c.in_ok-lines.ensures.fault;
      letters = subst (λ ls. HasAxesOf all (lines_entries files ls)) c.deref.ensures.value c.in_ok-all.ensures;
    } in
    let end : c.in_ok-lines.field-0.fault ≡ Some c.in-Some.fault = cc in
    registry_stopped files c.args.defines.now lines c.in_ok-lines.field-0.fault all read c.in-Some.fault c.in_ok-declared.declared end
    (subst (λ ls. lines_judged all [] (map (kept_in files) ls) ≡ Ok c.in_ok-declared.declared) c.deref-2.ensures.value c.in_ok-declared.ensures)

pub returns : goal.returns
returns c =
    let files = c.args.files.now in
    let lines = c.in_ok-lines.field-0.lines.items in
    let all = c.in_ok-all.all in
    let es = c.in_ok-declared.declared in
    let read : IsRead files c.args.defines.now lines c.in_ok-lines.field-0.fault all = record {
      lines_are = c.in_ok-lines.ensures.lines;
      end_is = c.in_ok-lines.ensures.fault;
      letters = subst (λ ls. HasAxesOf all (lines_entries files ls)) c.deref.ensures.value c.in_ok-all.ensures;
    } in
    let end : c.in_ok-lines.field-0.fault ≡ None = cc in
    let known : AreKnownBelow es es (length es) = subst (λ o. IfNone o (AreKnownBelow es es (length es))) c.in-None.is c.in_ok-at.ensures.none in
    rw (c.from_vec.ensures, c.into_entries.ensures) (registry_accepted files c.args.defines.now lines c.in_ok-lines.field-0.fault all read es end
    (subst (λ ls. lines_judged all [] (map (kept_in files) ls) ≡ Ok es) c.deref-2.ensures.value c.in_ok-declared.ensures) known)

pub unknown_name-requires-clause-place : goal.unknown_name-requires-clause-place
unknown_name-requires-clause-place c =
    let es = c.in_ok-declared.declared in
    let first : IsFirstUnknown es es c.in-Some-2.at = subst (λ o. IfSome o (IsFirstUnknown es es)) c.in-Some-2.is c.in_ok-at.ensures.found in
    let within : c.in-Some-2.at < length es = first.within in
    let many : length es ≡ length c.deref-2.result.now = as_many c.in_ok-all.all c.args.files.now c.deref-2.result.now es c.in_ok-declared.ensures in
    let same : length c.deref-in-Some-2.result.now ≡ length c.deref-2.result.now = ap length (c.deref-in-Some-2.ensures.value ∙ sym c.deref-2.ensures.value) in
    omega arith

pub unknown_name-requires-clause-there : goal.unknown_name-requires-clause-there
unknown_name-requires-clause-there c = subst (All (IsThere c.args.files.now)) (sym c.deref-in-Some-2.ensures.value) c.in_ok-lines.ensures.places

pub returns-in-Some-2 : goal.returns-in-Some-2
returns-in-Some-2 c =
    let files = c.args.files.now in
    let lines = c.in_ok-lines.field-0.lines.items in
    let all = c.in_ok-all.all in
    let es = c.in_ok-declared.declared in
    let at = c.in-Some-2.at in
    let read : IsRead files c.args.defines.now lines c.in_ok-lines.field-0.fault all = record {
      lines_are = c.in_ok-lines.ensures.lines;
      end_is = c.in_ok-lines.ensures.fault;
      letters = subst (λ ls. HasAxesOf all (lines_entries files ls)) c.deref.ensures.value c.in_ok-all.ensures;
    } in
    let end : c.in_ok-lines.field-0.fault ≡ None = cc in
    let first : IsFirstUnknown es es at = subst (λ o. IfSome o (IsFirstUnknown es es)) c.in-Some-2.is c.in_ok-at.ensures.found in
    registry_unnamed files c.args.defines.now lines c.in_ok-lines.field-0.fault all read es at no_line c.in_ok-fault-in-Some-2.fault end
    (subst (λ ls. lines_judged all [] (map (kept_in files) ls) ≡ Ok es) c.deref-2.ensures.value c.in_ok-declared.ensures) first
    (c.in_ok-fault-in-Some-2.ensures no_line ∙ ap (λ ls. fault_at (kept_in files (get_or ls at no_line)) UnknownName) c.deref-in-Some-2.ensures.value)
