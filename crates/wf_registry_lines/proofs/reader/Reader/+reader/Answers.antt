use Rattle.std.proofs.Common.{◌≡◌, ◌∙◌, ◌+◌, ◌-◌, ◌∷◌, [], length, map, length-append, ap, sym, arith, subst}
use Rattle.std.specs.Prelude.{Some, slice_get}
use Rattle.std.specs.List.{All}
use Rattle.std.specs.Str.{IsUtf8}
use Rattle.std.proofs.lemmas.List.{nil_from_length}
use Rattle.std.proofs.lemmas.List.Elements.{All-pop}
use Rattle.std.proofs.lemmas.Result.{err_from_is_err_and}
use Rattle.wf_model.proofs.ReadingLemmas.{Gives-along}
use Rattle.wf_model.specs.declared.registry.RegistryKind.TheVariants.{BadText, IncludeLoop, MissingInclude, NotText, TooLong}
use Rattle.wf_model.specs.Letters.{Text}
use Rattle.wf_model.specs.KeptLines.{one_file}
use Rattle.wf_registry_lines.specs.Ahead.{entered_met, file_at_met}
use Rattle.wf_registry_lines.specs.Kept.{name_at, text_at}
use Rattle.wf_registry_lines.specs.FileLines.{IsHeld}
use Rattle.wf_registry_lines.specs.declared.ahead.AheadLine.{AheadLine}
use Rattle.wf_registry_lines.specs.Met.{IsStop, entered_in, includes_at, met_in, seen_in, within_in}
use Rattle.wf_registry_lines.proofs.FileLines.{file_faulty, file_not_text, file_stops, file_whole, held_ahead}
use Rattle.wf_registry_lines.proofs.Held.{held_ifdef}
use Rattle.wf_registry_lines.proofs.Includes.{is_read, many_files, no_depth, not_there, there}
use Rattle.wf_registry_lines.proofs.LinesAhead.{all_read, next_fails, next_read}
use Rattle.wf_registry_lines.proofs.Places.{text_here}
use Rattle.wf_registry_lines.proofs.Stops.{stop_fails, stop_placed}
use Rattle.wf_registry_lines.proofs.reader.Reader.+reader.Goals as goal
use Rattle.wf_registry_lines.proofs.reader.Reader.+reader.Goals.{named-then-depth-eq0-via-then-depth-eq0, named-then-depth-eq0-via-else-depth-eq0+then-progress-ge-REGISTRY_FILES}

pub line-returns-in-Ifdef-clause-read : goal.line-returns-in-Ifdef-clause-read
line-returns-in-Ifdef-clause-read t c =
    let files = c.args.self.now.files.now in
    let defines = c.args.self.now.defines.now in
    Gives-along (entered_in files) (seen_in files) c.entered.result _ _
    (ap (entered_met _ (name_at files c.args.place) c.args.next.line.line.number) c.deeper-inside.ensures.conditions
    ∙ sym (held_ifdef defines (includes_at c.args.depth files defines c.args.reading.now) (name_at files c.args.place) (met_in files c.args.progress) c.args.within (text_at files c.args.place) c.args.next
    c.requires.held (omega arith) c.in-Ifdef.is))
    c.entered.ensures.read

pub lines-returns-in_err-after-clause-read : goal.lines-returns-in_err-after-clause-read
lines-returns-in_err-after-clause-read t c =
    let files = c.args.self.now.files.now in
    let defines = c.args.self.now.defines.now in
    let p = err_from_is_err_and c.from_residual.result c.from_residual.ensures.1 in
    rw (p.1, p.2) (next_fails (text_at files c.args.place) defines (includes_at c.args.depth files defines c.args.reading.now) (name_at files c.args.place) (met_in files c.loop-next.progress) (within_in c.loop-next.within) _
    (seen_in files c.in_err-after.field-0.0) c.loop-next.ahead.items c.pop.new.self.items c.in-Some.next c.in-Some.ensures.items c.in_err-after.ensures.read c.loop-next.invariant.same)

pub lines-loop-next-preserved : goal.lines-loop-next-preserved
lines-loop-next-preserved t c =
    let files = c.args.self.now.files.now in
    let defines = c.args.self.now.defines.now in
    let popped : length c.loop-next.ahead.items ≡ length c.pop.new.self.items + 1 = ap length c.in-Some.ensures.items ∙ length-append c.pop.new.self.items (c.in-Some.next ∷ []) in
    record {
      same = next_read (text_at files c.args.place) defines (includes_at c.args.depth files defines c.args.reading.now) (name_at files c.args.place) (met_in files c.loop-next.progress) (within_in c.loop-next.within) _
          c.loop-next.ahead.items c.pop.new.self.items c.in-Some.next (met_in files c.in_ok-after.after, within_in c.in_ok-after.inside) c.in-Some.ensures.items c.in_ok-after.ensures.read c.loop-next.invariant.same;
      held = (All-pop (λ (a : AheadLine). IsHeld (text_at files c.args.place) a.line) c.loop-next.ahead.items c.pop.new.self.items (Some c.in-Some.next) c.in-Some.ensures.items c.loop-next.invariant.held).0;
      placed = c.in_ok-after.ensures.placed;
      room = omega (arith, c.in_ok-after.ensures.within, c.loop-next.invariant.room);
    }

pub lines-returns-clause-read : goal.lines-returns-clause-read
lines-returns-clause-read t c =
    let files = c.args.self.now.files.now in
    let defines = c.args.self.now.defines.now in
    let none : c.loop-next.ahead.items ≡ [] = nil_from_length c.loop-next.ahead.items (omega (arith, c.in_default.ensures.cases.0, c.loop-next.ahead.ok.0)) in
    all_read (text_at files c.args.place) defines (includes_at c.args.depth files defines c.args.reading.now) (name_at files c.args.place) (met_in files c.loop-next.progress) (within_in c.loop-next.within) _
    c.loop-next.ahead.items none c.loop-next.invariant.same

pub file-lines-requires : goal.file-lines-requires
file-lines-requires t c =
    let files = c.args.self.now.files.now in
    let here : text_at files c.args.place ≡ c.as_slice.result.now = text_here files c.args.place c.index-self-place.result c.as_slice.result.now c.requires.place c.index-self-place.is c.as_slice.ensures in
    let same : c.as_bytes.result.now ≡ text_at files c.args.place = c.as_bytes.ensures.value ∙ c.in-Ok.ensures.cases.0 ∙ sym here in (
      omega arith,
      (
        c.requires.place,
        (
          c.requires.reading,
          (c.in_ok-ahead.ensures.held (text_at files c.args.place) (subst (λ (b : Text). All (IsHeld b) c.in_ok-read.read.lines.items) same c.in_ok-read.ensures.held), c.requires.placed),
        ),
      ),
    )

pub file-returns-in-Some-clause-placed : goal.file-returns-in-Some-clause-placed
file-returns-in-Some-clause-placed t c =
    let files = c.args.self.now.files.now in
    stop_placed files c.in_ok-progress.progress (name_at files c.args.place) c.fault_line.result BadText c.stop-in-Some.result c.stop-in-Some.ensures c.in_ok-progress.ensures.placed

pub file-returns-in_default-clause-read : goal.file-returns-in_default-clause-read
file-returns-in_default-clause-read t c =
    let files = c.args.self.now.files.now in
    let defines = c.args.self.now.defines.now in
    let here : text_at files c.args.place ≡ c.as_slice.result.now = text_here files c.args.place c.index-self-place.result c.as_slice.result.now c.requires.place c.index-self-place.is c.as_slice.ensures in
    stop_fails files c.args.progress (name_at files c.args.place) 0 NotText c.stop.result
    (file_at_met defines (includes_at c.args.depth files defines c.args.reading.now) (met_in files c.args.progress) (slice_get files c.args.place)) c.stop.ensures
    (file_not_text defines (includes_at c.args.depth files defines c.args.reading.now) (met_in files c.args.progress) files c.args.place c.index-self-place.result c.requires.place c.index-self-place.is
    (subst (λ (b : Text). IsUtf8 b → ⊥) (sym here) c.in_default.ensures.cases.0))

pub file-returns-in_err-progress-clause-read : goal.file-returns-in_err-progress-clause-read
file-returns-in_err-progress-clause-read t c =
    let files = c.args.self.now.files.now in
    let defines = c.args.self.now.defines.now in
    let here : text_at files c.args.place ≡ c.as_slice.result.now = text_here files c.args.place c.index-self-place.result c.as_slice.result.now c.requires.place c.index-self-place.is c.as_slice.ensures in
    let utf8 : IsUtf8 (text_at files c.args.place) = subst IsUtf8 (sym here) c.in-Ok.ensures.cases.1 in
    let ahead = held_ahead (text_at files c.args.place) c.as_bytes.result.now c.in_ok-read.read.lines.items c.in_ok-read.read.fault c.is_some.result c.in_ok-ahead.ahead.items
    (c.as_bytes.ensures.value ∙ c.in-Ok.ensures.cases.0 ∙ sym here) c.in_ok-read.ensures.lines c.in_ok-read.ensures.fault c.in_ok-read.ensures.held c.is_some.ensures c.in_ok-ahead.ensures.marked in
    let p = err_from_is_err_and c.from_residual-in_err-progress.result c.from_residual-in_err-progress.ensures.1 in
    rw (p.1, p.2) (file_stops defines (includes_at c.args.depth files defines c.args.reading.now) (met_in files c.args.progress) files c.args.place c.index-self-place.result c.requires.place c.index-self-place.is
    c.in_ok-read.read.fault _ utf8 ahead (seen_in files c.in_err-progress.field-0.0) c.in_err-progress.ensures.read)

pub file-returns-in-None-clause-read : goal.file-returns-in-None-clause-read
file-returns-in-None-clause-read t c =
    let files = c.args.self.now.files.now in
    let defines = c.args.self.now.defines.now in
    let here : text_at files c.args.place ≡ c.as_slice.result.now = text_here files c.args.place c.index-self-place.result c.as_slice.result.now c.requires.place c.index-self-place.is c.as_slice.ensures in
    let utf8 : IsUtf8 (text_at files c.args.place) = subst IsUtf8 (sym here) c.in-Ok.ensures.cases.1 in
    let ahead = held_ahead (text_at files c.args.place) c.as_bytes.result.now c.in_ok-read.read.lines.items c.in_ok-read.read.fault c.is_some.result c.in_ok-ahead.ahead.items
    (c.as_bytes.ensures.value ∙ c.in-Ok.ensures.cases.0 ∙ sym here) c.in_ok-read.ensures.lines c.in_ok-read.ensures.fault c.in_ok-read.ensures.held c.is_some.ensures c.in_ok-ahead.ensures.marked in
    file_whole defines (includes_at c.args.depth files defines c.args.reading.now) (met_in files c.args.progress) files c.args.place c.index-self-place.result c.requires.place c.index-self-place.is
    c.in_ok-read.read.fault _ utf8 ahead (met_in files c.in_ok-progress.progress) c.in_ok-progress.ensures.read c.in-None.is

pub file-returns-in-Some-clause-read : goal.file-returns-in-Some-clause-read
file-returns-in-Some-clause-read t c =
    let files = c.args.self.now.files.now in
    let defines = c.args.self.now.defines.now in
    let here : text_at files c.args.place ≡ c.as_slice.result.now = text_here files c.args.place c.index-self-place.result c.as_slice.result.now c.requires.place c.index-self-place.is c.as_slice.ensures in
    let utf8 : IsUtf8 (text_at files c.args.place) = subst IsUtf8 (sym here) c.in-Ok.ensures.cases.1 in
    let ahead = held_ahead (text_at files c.args.place) c.as_bytes.result.now c.in_ok-read.read.lines.items c.in_ok-read.read.fault c.is_some.result c.in_ok-ahead.ahead.items
    (c.as_bytes.ensures.value ∙ c.in-Ok.ensures.cases.0 ∙ sym here) c.in_ok-read.ensures.lines c.in_ok-read.ensures.fault c.in_ok-read.ensures.held c.is_some.ensures c.in_ok-ahead.ensures.marked in
    stop_fails files c.in_ok-progress.progress (name_at files c.args.place) c.fault_line.result BadText c.stop-in-Some.result
    (file_at_met defines (includes_at c.args.depth files defines c.args.reading.now) (met_in files c.args.progress) (slice_get files c.args.place)) c.stop-in-Some.ensures
    (file_faulty defines (includes_at c.args.depth files defines c.args.reading.now) (met_in files c.args.progress) files c.args.place c.index-self-place.result c.requires.place c.index-self-place.is
    c.in_ok-read.read.fault _ utf8 ahead (met_in files c.in_ok-progress.progress) c.in_ok-progress.ensures.read c.in-Some.fault c.fault_line.result c.in-Some.is c.fault_line.ensures)

pub named-returns-then-depth-eq0-clause-read : goal.named-returns-then-depth-eq0-clause-read
named-returns-then-depth-eq0-clause-read t c =
    let files = c.args.self.now.files.now in
    let defines = c.args.self.now.defines.now in
    let names = map (name_at files) c.args.reading.now in
    stop_fails files c.args.progress (name_at files c.args.place) c.args.line TooLong c.stop.result
    (includes_at c.args.depth files c.args.self.now.defines.now c.args.reading.now (met_in files c.args.progress) (name_at files c.args.place) c.args.line c.args.name.now) c.stop.ensures
    (elim c.then-depth-eq0.branch [
      | named-then-depth-eq0-via-then-depth-eq0 w ↦ no_depth c.args.depth files defines names (met_in files c.args.progress) (name_at files c.args.place) c.args.line c.args.name.now w.if-depth-eq0.true
      | named-then-depth-eq0-via-else-depth-eq0+then-progress-ge-REGISTRY_FILES w ↦ many_files c.args.depth files defines names (met_in files c.args.progress) (name_at files c.args.place) c.args.line c.args.name.now w.if-progress-ge-REGISTRY_FILES.true
    ])

pub named-returns-then-is_among-clause-read : goal.named-returns-then-is_among-clause-read
named-returns-then-is_among-clause-read t c =
    let files = c.args.self.now.files.now in
    stop_fails files c.args.progress (name_at files c.args.place) c.args.line IncludeLoop c.stop-then-is_among.result (includes_at c.args.depth files c.args.self.now.defines.now c.args.reading.now (met_in files c.args.progress) (name_at files c.args.place) c.args.line c.args.name.now) c.stop-then-is_among.ensures
    (is_read c.args.depth files c.args.self.now.defines.now (map (name_at files) c.args.reading.now) (met_in files c.args.progress) (name_at files c.args.place) c.args.line c.args.name.now
    (omega arith) (omega arith) (sym c.is_among.ensures ∙ c.if-is_among.true))

pub named-returns-in_ok-from_slice-in-None-clause-read : goal.named-returns-in_ok-from_slice-in-None-clause-read
named-returns-in_ok-from_slice-in-None-clause-read t c =
    let files = c.args.self.now.files.now in
    stop_fails files c.args.progress (name_at files c.args.place) c.args.line (MissingInclude c.args.name.now) c.stop-in-None.result (includes_at c.args.depth files c.args.self.now.defines.now c.args.reading.now (met_in files c.args.progress) (name_at files c.args.place) c.args.line c.args.name.now)
    (subst (λ (wanted : Text). IsStop c.args.progress (name_at files c.args.place) c.args.line (MissingInclude wanted) c.stop-in-None.result)
    (c.from_vec-wanted.ensures ∙ c.in_ok-from_slice-in-None.ensures.items) c.stop-in-None.ensures)
    (not_there c.args.depth files c.args.self.now.defines.now (map (name_at files) c.args.reading.now) (met_in files c.args.progress) (name_at files c.args.place) c.args.line c.args.name.now
    (omega arith) (omega arith) (sym c.is_among.ensures ∙ c.if-is_among.false) (sym c.place_of.ensures.place ∙ c.in-None.is))

pub named-returns-in_ok-reading-in-Some-clause-read : goal.named-returns-in_ok-reading-in-Some-clause-read
named-returns-in_ok-reading-in-Some-clause-read t c =
    let files = c.args.self.now.files.now in
    let defines = c.args.self.now.defines.now in
    Gives-along (met_in files) (seen_in files) c.file.result
    (file_at_met defines (includes_at (c.args.depth - 1) files defines c.deref.result.now) (one_file (met_in files c.args.progress)) (slice_get files c.in-Some.named))
    (includes_at c.args.depth files defines c.args.reading.now (met_in files c.args.progress) (name_at files c.args.place) c.args.line c.args.name.now)
    (sym (there c.args.depth files defines c.args.reading.now c.deref.result.now (met_in files c.args.progress) (name_at files c.args.place) c.args.line c.args.name.now c.in-Some.named
    (omega arith) (omega arith) (sym c.is_among.ensures ∙ c.if-is_among.false) (sym c.place_of.ensures.place ∙ c.in-Some.is) c.in-Some.ensures.bound
    (c.deref.ensures.value ∙ c.in_ok-reading-in-Some.ensures)))
    c.file.ensures.read
