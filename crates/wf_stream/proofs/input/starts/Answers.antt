use Rattle.std.proofs.Common.{◌∙◌, sym, ap, subst, List, length, map, arith}
use Rattle.wf_model.specs.declared.plan.Domain.{Domain}
use Rattle.wf_model.specs.InputOf.{started}
use Rattle.wf_model.specs.Plans.{domains_of}
use Rattle.wf_model.specs.Reading.{each}
use Rattle.wf_model.proofs.ReadingLemmas.{with_front}
use Rattle.wf_stream.specs.declared.input_file.DomainStart.{DomainStart}
use Rattle.wf_stream.specs.Inputs.{fault_of}
use Rattle.wf_stream.specs.Starts.{FitDomains, begin_in}
use Rattle.wf_stream.proofs.FaultLemmas.{only_first, only_then, told_still}
use Rattle.wf_stream.proofs.StartLemmas.{all_read, fit_more, fit_none, left, none_more, none_read, one_read, pushed_length}
use Rattle.wf_stream.proofs.input.starts.Goals as goal

pub loop-i-init : goal.loop-i-init
loop-i-init g c = record {
  read = λ m told.
      ap (λ (xs : List DomainStart). with_front (map begin_in xs) (left (started m c.args.plan.now) (length c.args.plan.now.domains) 0)) c.new-starts.ensures.items
      ∙ none_read (started m c.args.plan.now) (length c.args.plan.now.domains);
  count = ap (λ (xs : List DomainStart). length xs) c.new-starts.ensures.items;
  fits = subst (λ (xs : List DomainStart). FitDomains c.args.plan.now xs) (sym c.new-starts.ensures.items) (fit_none c.args.plan.now);
  only = only_first (g.S.Store.files c.args.store.now) (g.S.Store.faults c.args.store.now);
}

pub returns-in-Err-clause-begins : goal.returns-in-Err-clause-begins
returns-in-Err-clause-begins g c = λ m told.
    let still = told_still (g.S.Store.files c.args.store.now) (g.S.Store.files c.loop-i.store) (g.S.Store.faults c.args.store.now) (g.S.Store.faults c.loop-i.store) c.loop-i.invariant.only m told in
    none_more (started m c.args.plan.now) (length c.args.plan.now.domains) (fault_of c.in-Err.error) c.loop-i.i c.loop-i.starts.items (each (started m c.args.plan.now) (domains_of c.args.plan.now))
    (omega (arith, ap (λ (ds : List Domain). length ds) c.as_slice-i-end.ensures)) (c.in-Err.ensures.begin m still) (c.loop-i.invariant.read m told)

pub loop-i-preserved : goal.loop-i-preserved
loop-i-preserved g c = record {
  read = λ m told.
      let still = told_still (g.S.Store.files c.args.store.now) (g.S.Store.files c.loop-i.store) (g.S.Store.faults c.args.store.now) (g.S.Store.faults c.loop-i.store) c.loop-i.invariant.only m told in
      one_read (started m c.args.plan.now) (length c.args.plan.now.domains) c.loop-i.i c.loop-i.starts.items c.push.new.self.items c.in-Ok.start (each (started m c.args.plan.now) (domains_of c.args.plan.now))
      (omega (arith, ap (λ (ds : List Domain). length ds) c.as_slice-i-end.ensures)) (c.in-Ok.ensures.begin m still) c.in-Ok-push.ensures.items (c.loop-i.invariant.read m told);
  count = pushed_length c.loop-i.starts.items c.push.new.self.items c.in-Ok.start c.loop-i.i c.loop-i.invariant.count c.in-Ok-push.ensures.items;
  fits = fit_more c.args.plan.now c.loop-i.starts.items c.push.new.self.items c.in-Ok.start c.loop-i.i c.loop-i.invariant.count c.in-Ok-push.ensures.items c.in-Ok.ensures.fits c.loop-i.invariant.fits;
  only = only_then (g.S.Store.files c.args.store.now) (g.S.Store.files c.loop-i.store) (g.S.Store.files c.start_of_domain.new.store) (g.S.Store.faults c.args.store.now) (g.S.Store.faults c.loop-i.store) (g.S.Store.faults c.start_of_domain.new.store)
      c.loop-i.invariant.only c.in-Ok.ensures.only;
}

pub returns-clause-begins : goal.returns-clause-begins
returns-clause-begins g c = λ m told.
    all_read (started m c.args.plan.now) (length c.args.plan.now.domains) c.loop-i.i c.loop-i.starts.items (each (started m c.args.plan.now) (domains_of c.args.plan.now))
    (omega (arith, ap (λ (ds : List Domain). length ds) c.as_slice-i-end.ensures)) (c.loop-i.invariant.read m told)
