use Rattle.std.proofs.Common.{refl}
use Rattle.wf_io.specs.StoreState.{files_of, kept_of_next}
use Rattle.wf_io.proofs.Calls.{append_err, write_at_err}
use Rattle.wf_io.proofs.memory_store.MemStoreStore.TheImpl.Goals as goal

pub append-asks : goal.append-asks
append-asks c = record { name = c.requires.name; there = c.requires.there _ refl }

pub append-tells : goal.append-tells
append-tells c = record {
  ok = c.ensures.ok;
  err = append_err c.result (kept_of_next c.args.self.now) (files_of c.args.self.now.files) (files_of c.new.self.now.files) c.args.name.now c.args.bytes.now
      (c.requires.there _ refl) c.ensures.listed c.ensures.kept c.ensures.memory;
  faults = c.ensures.faults;
  failed = c.ensures.failed;
}

pub write_at-asks : goal.write_at-asks
write_at-asks c = record { name = c.requires.name; there = c.requires.there _ refl; within = c.requires.within _ refl }

pub write_at-tells : goal.write_at-tells
write_at-tells c = record {
  ok = c.ensures.ok;
  err = write_at_err c.result (kept_of_next c.args.self.now) (files_of c.args.self.now.files) (files_of c.new.self.now.files) c.args.name.now c.args.bytes.now c.args.at
      (c.requires.within _ refl) c.ensures.listed.0 c.ensures.memory c.ensures.kept;
  faults = c.ensures.faults;
  failed = c.ensures.failed;
}
