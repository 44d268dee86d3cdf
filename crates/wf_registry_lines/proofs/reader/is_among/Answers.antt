use Rattle.std.proofs.Common.{◌<◌, length, get_or, sym, ◌∙◌, ap}
use Rattle.std.specs.Str.{bytes_eq}
use Rattle.std.proofs.lemmas.List.Elements.{All-get_or}
use Rattle.wf_registry_lines.specs.Kept.{name_at}
use Rattle.wf_registry_lines.proofs.Places.{among_here, among_later, name_here}
use Rattle.wf_registry_lines.proofs.reader.is_among.Goals as goal

pub returns-then-eq : goal.returns-then-eq
returns-then-eq c =
    let n = length c.args.files.now in
    let within = All-get_or (λ k. k < n) c.args.reading.now c.loop-place.place-index 0 c.loop-place-test.true c.requires in
    let e = name_here c.args.files.now (get_or c.args.reading.now c.loop-place.place-index 0) c.index-files-place.result c.as_slice.result.now within c.index-files-place.is c.as_slice.ensures in
    among_here c.args.name.now (name_at c.args.files.now) c.args.reading.now c.loop-place.place-index _ c.loop-place-test.true
    (ap (bytes_eq c.args.name.now) e ∙ sym c.eq.ensures ∙ c.if-eq.true) c.loop-place.invariant

pub loop-place-preserved : goal.loop-place-preserved
loop-place-preserved c =
    let n = length c.args.files.now in
    let within = All-get_or (λ k. k < n) c.args.reading.now c.loop-place.place-index 0 c.loop-place-test.true c.requires in
    let e = name_here c.args.files.now (get_or c.args.reading.now c.loop-place.place-index 0) c.index-files-place.result c.as_slice.result.now within c.index-files-place.is c.as_slice.ensures in
    among_later c.args.name.now (name_at c.args.files.now) c.args.reading.now c.loop-place.place-index _ c.loop-place-test.true
    (ap (bytes_eq c.args.name.now) e ∙ sym c.eq.ensures ∙ c.if-eq.false) c.loop-place.invariant
