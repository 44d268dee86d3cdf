use Rattle.wf_model.specs.Entries.{dimspecs, rconfigs, packages, halos, periods, entry_datasets, entry_levels, entry_symbol, entry_variables}
use Rattle.wf_registry.specs.Indexing.{names_of}
use Rattle.wf_registry.proofs.IndexLemmas.{indexes_more}
use Rattle.wf_registry.proofs.IntegerLemmas.{integers_more}
use Rattle.wf_registry.proofs.indexing.Index.add.Goals as goal

pub returns : goal.returns
returns c es was =
    let e = c.args.entry.now in
    let kinds = c.in_ok-add.ensures in
    let fields = c.in_ok-add-2.ensures in
    record {
      dimspecs = indexes_more (names_of dimspecs) _ _ es e was.dimspecs kinds.dimspecs;
      rconfigs = indexes_more (names_of rconfigs) _ _ es e was.rconfigs kinds.rconfigs;
      integers = integers_more _ _ c.args.self.now.kinds.rconfigs es e was.integers was.rconfigs kinds.integers;
      packages = indexes_more (names_of packages) _ _ es e was.packages kinds.packages;
      halos = indexes_more (names_of halos) _ _ es e was.halos kinds.halos;
      periods = indexes_more (names_of periods) _ _ es e was.periods kinds.periods;
      symbols = indexes_more entry_symbol _ _ es e was.symbols fields.symbols;
      levels = indexes_more entry_levels _ _ es e was.levels fields.levels;
      variables = indexes_more entry_variables _ _ es e was.variables fields.variables;
      datasets = indexes_more entry_datasets _ _ es e was.datasets fields.datasets;
    }
