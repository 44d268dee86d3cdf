use Rattle.std.proofs.Common.{◌≡◌, ℕ, ◌+◌, ◌-◌, ◌<◌, length, None, sym, ap, ◌∙◌, arith}
use Rattle.wf_model.specs.Frames.{frames_of}
use Rattle.wf_model.specs.Writes.{writes_of}
use Rattle.wf_model.proofs.StoreRunLaws.{stopped_none}
use Rattle.wf_stream.specs.Writing.{Written, totals_of}
use Rattle.wf_grid.specs.Reached.{IsReached}
use Rattle.wf_grid.proofs.FrameRuns.{IsEnded, ended_ran, told_as}
use Rattle.wf_grid.proofs.Turns.{going_none, memory_ends, order, within, overflow_ends, ended, by_number, its_number, its_file, error_ends, going_on, fewer}
use Rattle.wf_grid.proofs.stepping.write_frames.Goals as goal

pub returns-in-Err-clause-error : goal.returns-in-Err-clause-error
returns-in-Err-clause-error g c = stopped_none (writes_of g.N.RunName.run) (g.S.Store.files c.args.store.now)

pub returns-in-Err-new-clause-error : goal.returns-in-Err-new-clause-error
returns-in-Err-new-clause-error g c = stopped_none (writes_of g.N.RunName.run) (g.S.Store.files c.args.store.now)

pub loop-next-init : goal.loop-next-init
loop-next-init g c = record {
  going = going_none g.N.RunName.run c.requires.steppable c.args.levels.now (g.S.Store.files c.args.store.now) c.requires.begins c.in-Ok.frames c.in-Ok.ensures;
  written = c.in-Ok-new.ensures ∙ (λ i. record { number = sym c.in-Ok.ensures i; failed = None });
  later = omega arith;
  room = c.requires.room;
}

pub returns-in-Err-next-clause-error : goal.returns-in-Err-next-clause-error
returns-in-Err-next-clause-error g c =
    let s = c.loop-next in
    memory_ends g.N.RunName.run s.frames s.place s.levels (g.S.Store.files c.args.store.now) (g.S.Store.files s.store) s.invariant.going

pub take_items-requires-clause-order : goal.take_items-requires-clause-order
take_items-requires-clause-order g c κs l =
    let s = c.loop-next in
    order g.N.RunName.run s.frames s.place s.levels (g.S.Store.files c.args.store.now) (g.S.Store.files s.store) s.invariant.going c.in-Ok-next.next c.in-Ok-next.ensures.frame c.place_of-end.result c.place_of-end.ensures

pub take_items-requires-clause-within : goal.take_items-requires-clause-within
take_items-requires-clause-within g c κs l =
    let s = c.loop-next in
    within g.N.RunName.run s.frames s.place s.levels (g.S.Store.files c.args.store.now) (g.S.Store.files s.store) s.invariant.going c.in-Ok-next.next c.in-Ok-next.ensures.frame c.place_of-end.result c.place_of-end.ensures

pub returns-in-Some-clause-error : goal.returns-in-Some-clause-error
returns-in-Some-clause-error g c =
    let s = c.loop-next in
    overflow_ends g.N.RunName.run s.frames s.place s.levels (g.S.Store.files c.args.store.now) (g.S.Store.files s.store) s.invariant.going c.in-Ok-next.next c.in-Ok-next.ensures.frame c.place_of-end.result c.place_of-end.ensures
    c.in-Some.point c.in-Some.ensures.over

pub returns-in-None-clause-settled : goal.returns-in-None-clause-settled
returns-in-None-clause-settled g c =
    let s = c.loop-next in
    let e : IsEnded g.N.RunName.run c.loop-next.frames
    = ended g.N.RunName.run s.frames s.place s.levels (g.S.Store.files c.args.store.now) (g.S.Store.files s.store) s.invariant.going c.in-Ok-next.next c.in-Ok-next.ensures.frame c.place_of-end.result c.place_of-end.ensures
    c.in-None.is c.take_items.new.levels (c.take_items.ensures.on c.in_default.is) in
    e.settled

pub returns-in-None-clause-written : goal.returns-in-None-clause-written
returns-in-None-clause-written g c =
    let s = c.loop-next in
    let e : IsEnded g.N.RunName.run c.loop-next.frames
    = ended g.N.RunName.run s.frames s.place s.levels (g.S.Store.files c.args.store.now) (g.S.Store.files s.store) s.invariant.going c.in-Ok-next.next c.in-Ok-next.ensures.frame c.place_of-end.result c.place_of-end.ensures
    c.in-None.is c.take_items.new.levels (c.take_items.ensures.on c.in_default.is) in
    ended_ran g.N.RunName.run s.frames (g.S.Store.files c.args.store.now) (g.S.Store.files s.store) e s.invariant.going.ran

pub returns-in-None-clause-finished : goal.returns-in-None-clause-finished
returns-in-None-clause-finished g c =
    let s = c.loop-next in
    let e : IsEnded g.N.RunName.run c.loop-next.frames
    = ended g.N.RunName.run s.frames s.place s.levels (g.S.Store.files c.args.store.now) (g.S.Store.files s.store) s.invariant.going c.in-Ok-next.next c.in-Ok-next.ensures.frame c.place_of-end.result c.place_of-end.ensures
    c.in-None.is c.take_items.new.levels (c.take_items.ensures.on c.in_default.is) in
    told_as g.N.RunName.run s.frames c.totals.result c.finished.result e (c.totals.ensures ∙ ap (λ (w : Written). totals_of g.N.RunName.run w.number) s.invariant.written) c.finished.ensures

pub write_next-requires-clause-frame : goal.write_next-requires-clause-frame
write_next-requires-clause-frame g c =
    let s = c.loop-next in
    by_number g.N.RunName.run s.frames s.place s.levels (g.S.Store.files c.args.store.now) (g.S.Store.files s.store) s.invariant.going c.in-Ok-next.next c.in-Ok-next.ensures.frame c.place_of-end.result c.place_of-end.ensures
    c.in-Some-next.frame c.in-Some-next.is

pub write_next-requires-clause-written : goal.write_next-requires-clause-written
write_next-requires-clause-written g c =
    let s = c.loop-next in
    let number : c.in-Some-next.frame.number ≡ c.loop-next.frames
    = its_number g.N.RunName.run s.frames s.place s.levels (g.S.Store.files c.args.store.now) (g.S.Store.files s.store) s.invariant.going c.in-Ok-next.next c.in-Ok-next.ensures.frame c.place_of-end.result c.place_of-end.ensures
    c.in-Some-next.frame c.in-Some-next.is in
    s.invariant.written ∙ (λ i. record { number = sym number i; failed = None })

pub write_next-requires-clause-there : goal.write_next-requires-clause-there
write_next-requires-clause-there g c =
    let s = c.loop-next in
    its_file g.N.RunName.run s.frames s.place s.levels (g.S.Store.files c.args.store.now) (g.S.Store.files s.store) s.invariant.going c.in-Ok-next.next c.in-Ok-next.ensures.frame c.place_of-end.result c.place_of-end.ensures
    c.in-Some-next.frame c.in-Some-next.is

pub returns-in-Err-write_next-clause-error : goal.returns-in-Err-write_next-clause-error
returns-in-Err-write_next-clause-error g c =
    let s = c.loop-next in
    error_ends g.N.RunName.run s.frames s.place s.levels (g.S.Store.files c.args.store.now) (g.S.Store.files s.store) s.invariant.going c.in-Ok-next.next c.in-Ok-next.ensures.frame c.place_of-end.result c.place_of-end.ensures
    c.in-Some-next.frame c.in-Some-next.is c.take_items.new.levels (c.take_items.ensures.on c.in_default.is) (g.S.Store.files c.write_next.new.store) (g.S.Store.faults c.args.store.now) (g.S.Store.faults s.store) (g.S.Store.faults c.write_next.new.store) (g.S.Store.failed c.write_next.new.store)
    c.in-Err-write_next.error s.invariant.later c.in-Err-write_next.ensures.error

pub loop-next-smaller : goal.loop-next-smaller
loop-next-smaller g c =
    let s = c.loop-next in
    let few = fewer g.N.RunName.run s.frames s.place s.levels (g.S.Store.files c.args.store.now) (g.S.Store.files s.store) s.invariant.going c.in-Ok-next.next c.in-Ok-next.ensures.frame c.place_of-end.result c.place_of-end.ensures
    c.in-Some-next.frame c.in-Some-next.is c.next.new.self c.in-Ok-next.ensures.number in
    let less : length (frames_of g.N.RunName.run) - c.next.new.self < length (frames_of g.N.RunName.run) - c.loop-next.frames = omega (arith, few.0, few.1) in
    less

pub loop-next-preserved : goal.loop-next-preserved
loop-next-preserved g c =
    let s = c.loop-next in
    let r = g.N.RunName.run in
    let reached : IsReached g.N.RunName.run c.place_of-end.result c.take_items.new.levels = c.take_items.ensures.on c.in_default.is in
    let few = fewer g.N.RunName.run s.frames s.place s.levels (g.S.Store.files c.args.store.now) (g.S.Store.files s.store) s.invariant.going c.in-Ok-next.next c.in-Ok-next.ensures.frame c.place_of-end.result c.place_of-end.ensures
    c.in-Some-next.frame c.in-Some-next.is c.next.new.self c.in-Ok-next.ensures.number in
    let number : c.in-Some-next.frame.number ≡ c.loop-next.frames
    = its_number g.N.RunName.run s.frames s.place s.levels (g.S.Store.files c.args.store.now) (g.S.Store.files s.store) s.invariant.going c.in-Ok-next.next c.in-Ok-next.ensures.frame c.place_of-end.result c.place_of-end.ensures
    c.in-Some-next.frame c.in-Some-next.is in
    record {
      going = going_on g.N.RunName.run s.frames s.place s.levels (g.S.Store.files c.args.store.now) (g.S.Store.files s.store) s.invariant.going c.in-Ok-next.next c.in-Ok-next.ensures.frame c.place_of-end.result c.place_of-end.ensures
          c.in-Some-next.frame c.in-Some-next.is c.take_items.new.levels (c.take_items.ensures.on c.in_default.is) (g.S.Store.files c.write_next.new.store) c.in-Ok-write_next.ensures.ok c.next.new.self c.in-Ok-next.ensures.number;
      written = c.in-Ok-write_next.ensures.written ∙ (λ i. record { number = (ap (λ (n : ℕ). n + 1) number ∙ sym few.0) i; failed = None });
      later = omega (arith, s.invariant.later, c.write_next.ensures.later);
      room = λ f h. omega (arith, s.invariant.room f h, c.take_items.ensures.scratch);
    }
