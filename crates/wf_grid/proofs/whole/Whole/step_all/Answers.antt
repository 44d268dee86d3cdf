use Rattle.std.proofs.Common.{◌≡◌, None, IfOk, IfErr, OnOk, sym, subst}
use Rattle.std.specs.List.{All}
use Rattle.wf_model.specs.Outcome.{outcome_of}
use Rattle.wf_model.specs.Sound.{FilesFit}
use Rattle.wf_model.specs.StoreRuns.{Ran}
use Rattle.wf_model.specs.Writes.{writes_of, summary_of}
use Rattle.wf_grid.specs.Held.{Held, point_at_end, run_of}
use Rattle.wf_grid.specs.RunEnds.{EndsBy, finished_of}
use Rattle.wf_grid.specs.Takeable.{CallsAreAccepted}
use Rattle.wf_grid.proofs.whole.Whole.step_all.Goals as goal

pub run_all-requires-clause-steppable : goal.run_all-requires-clause-steppable
run_all-requires-clause-steppable g c κs l =
    let it = c.self.invariant in
    record {
      sound = record { sound = it.sound; ranged = it.ranged; files = subst (λ (w : Held). FilesFit w.plan) (sym c.self.view_is) c.requires.files; fitting = it.fitting };
      one_domain = it.one_domain;
      lists = it.lists;
      table = it.table;
    }

pub run_all-requires-clause-calls : goal.run_all-requires-clause-calls
run_all-requires-clause-calls g c κs l = subst (λ (w : Held). All (CallsAreAccepted g.M.Meanings.accepts) w.plan.items) (sym c.self.view_is) c.requires.calls

pub returns-clause-settled : goal.returns-clause-settled
returns-clause-settled g c = subst (λ (w : Held). OnOk c.run_all.result (point_at_end (outcome_of (run_of w g.M.Meanings.answer)) ≡ None)) c.self.view_is c.run_all.ensures.settled

pub returns-clause-written : goal.returns-clause-written
returns-clause-written g c =
    subst (λ (w : Held). OnOk c.run_all.result (Ran (writes_of (run_of w g.M.Meanings.answer)) (g.S.Store.files c.args.store.now) (g.S.Store.files c.run_all.new.store))) c.self.view_is c.run_all.ensures.written

pub returns-clause-finished : goal.returns-clause-finished
returns-clause-finished g c = subst (λ (w : Held). IfOk c.run_all.result (λ f. f ≡ finished_of (summary_of (run_of w g.M.Meanings.answer)))) c.self.view_is c.run_all.ensures.finished

pub returns-clause-error : goal.returns-clause-error
returns-clause-error g c =
    subst (λ (w : Held). IfErr c.run_all.result (EndsBy (run_of w g.M.Meanings.answer) (g.S.Store.files c.args.store.now) (g.S.Store.files c.run_all.new.store) (g.S.Store.faults c.args.store.now) (g.S.Store.faults c.run_all.new.store) (g.S.Store.failed c.run_all.new.store)))
    c.self.view_is c.run_all.ensures.error
