use Rattle.std.proofs.Common.{◌≡◌, None, sym, ap, ◌∙◌}
use Rattle.wf_model.specs.Writes.{frame_calls}
use Rattle.wf_model.proofs.StoreRunLaws.{stopped_none}
use Rattle.wf_stream.specs.Writing.{totals_of}
use Rattle.wf_stream.proofs.WriterLaws.{in_range, parts_are, files_few, totals_next, records_next}
use Rattle.wf_stream.proofs.writer.Writer.write_frame.Goals as goal

pub returns-in-Some-clause-err : goal.returns-in-Some-clause-err
returns-in-Some-clause-err g c = stopped_none (frame_calls g.N.RunName.run c.args.frame.now) (g.S.Store.files c.args.store.now)

pub write_calls-requires-clause-frame : goal.write_calls-requires-clause-frame
write_calls-requires-clause-frame g c =
    let none : c.args.self.now.failed ≡ None = cc in
    in_range g.N.RunName.run c.args.self.now.number c.args.frame.now (c.requires.next none) c.requires.sound

pub write_calls-requires-clause-parts : goal.write_calls-requires-clause-parts
write_calls-requires-clause-parts g c =
    let none : c.args.self.now.failed ≡ None = cc in
    parts_are g.N.RunName.run c.args.self.now.number c.args.frame.now (c.requires.next none) g.N.RunName.layout (c.requires.reached none) c.args.slabs.now (c.requires.slabs none)

pub write_calls-requires-clause-files : goal.write_calls-requires-clause-files
write_calls-requires-clause-files g c =
    let none : c.args.self.now.failed ≡ None = cc in
    let number : c.self.inside.totals.records ≡ c.args.self.now.number = cc in
    files_few g.N.RunName.run c.args.self.now.number c.args.frame.now (c.requires.next none) c.self.inside.totals (c.self.invariant ∙ ap (totals_of g.N.RunName.run) number)

pub invariant_of-self : goal.invariant_of-self
invariant_of-self g c =
    let none : c.args.self.now.failed ≡ None = cc in
    let number : c.self.inside.totals.records ≡ c.args.self.now.number = cc in
    let next = c.requires.next none in
    let are = totals_next g.N.RunName.run c.args.self.now.number c.args.frame.now next c.self.inside.totals c.in-Ok.totals (c.self.invariant ∙ ap (totals_of g.N.RunName.run) number) c.in-Ok.ensures.totals in
    are ∙ ap (totals_of g.N.RunName.run) (sym (records_next g.N.RunName.run c.args.self.now.number c.args.frame.now next c.in-Ok.totals are))

pub returns-in-Ok-clause-written : goal.returns-in-Ok-clause-written
returns-in-Ok-clause-written g c =
    let none : c.args.self.now.failed ≡ None = cc in
    let is : c.self.inside.failed ≡ None = cc in
    let number : c.self.inside.totals.records ≡ c.args.self.now.number = cc in
    let next = c.requires.next none in
    let are = totals_next g.N.RunName.run c.args.self.now.number c.args.frame.now next c.self.inside.totals c.in-Ok.totals (c.self.invariant ∙ ap (totals_of g.N.RunName.run) number) c.in-Ok.ensures.totals in
    let count = records_next g.N.RunName.run c.args.self.now.number c.args.frame.now next c.in-Ok.totals are in
    λ i. record { number = count i; failed = is i }
