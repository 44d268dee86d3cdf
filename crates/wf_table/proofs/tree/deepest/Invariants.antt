use Rattle.std.proofs.Common.{◌≡◌, ◌<◌, take}
use Rattle.wf_table.proofs.Trees.{deepest_read}
use Rattle.wf_table.proofs.tree.deepest.Given as goal

abbrev pub invariant-loop-tree : goal.invariant-loop-tree
invariant-loop-tree l = record {
  value : l.deepest ≡ deepest_read 0 (take l.tree-index l.trees);
  bound : l.deepest < 64;
}
