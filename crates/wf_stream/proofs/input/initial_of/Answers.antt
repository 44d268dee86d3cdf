use Rattle.std.proofs.Common.{◌∙◌, sym, ap, List, map, ◌++◌}
use Rattle.std.specs.Vec.Iter.{into_iter_items}
use Rattle.wf_model.specs.declared.initial.Begin.{Begin}
use Rattle.wf_stream.specs.declared.input_file.DomainStart.{DomainStart}
use Rattle.wf_stream.proofs.StartLemmas.{initial_is, items_all, items_more}
use Rattle.wf_stream.proofs.input.initial_of.Goals as goal

pub loop-start-init : goal.loop-start-init
loop-start-init c = record {
  grids = ap (λ (front : List _). front ++ map DomainStart.grids (into_iter_items c.into_iter-start-iterator.result)) c.new-grids.ensures.items
      ∙ ap (λ (starts : List DomainStart). map DomainStart.grids starts) c.into_iter-start-iterator.ensures.into_iter_gives.0;
  begins = ap (λ (front : List Begin). front ++ map DomainStart.begin (into_iter_items c.into_iter-start-iterator.result)) c.new-begins.ensures.items
      ∙ ap (λ (starts : List DomainStart). map DomainStart.begin starts) c.into_iter-start-iterator.ensures.into_iter_gives.0;
}

pub loop-start-preserved : goal.loop-start-preserved
loop-start-preserved c = record {
  grids = items_more DomainStart.grids c.loop-start.grids.items c.push.new.self.items (into_iter_items c.loop-start.start-iterator) (into_iter_items c.next.new.self) c.args.starts.items c.in-Some.start
      c.in-Some.ensures.steps.0 c.in_ok-push.ensures.items c.loop-start.invariant.grids;
  begins = items_more DomainStart.begin c.loop-start.begins.items c.push-in-loop-start.new.self.items (into_iter_items c.loop-start.start-iterator) (into_iter_items c.next.new.self) c.args.starts.items c.in-Some.start
      c.in-Some.ensures.steps.0 c.in_ok-push-2.ensures.items c.loop-start.invariant.begins;
}

pub returns : goal.returns
returns c =
    let none = sym c.loop-start.start-iterator.rest.ok.0 ∙ c.in-None.ensures.steps.0 in
    initial_is c.args.starts.items c.from_vec.result c.from_vec-2.result
    (c.from_vec.ensures ∙ items_all DomainStart.grids c.loop-start.grids.items (into_iter_items c.loop-start.start-iterator) c.args.starts.items none c.loop-start.invariant.grids)
    (c.from_vec-2.ensures ∙ items_all DomainStart.begin c.loop-start.begins.items (into_iter_items c.loop-start.start-iterator) c.args.starts.items none c.loop-start.invariant.begins)
