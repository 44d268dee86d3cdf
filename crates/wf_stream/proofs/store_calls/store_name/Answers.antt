use Rattle.wf_stream.proofs.StoreNames.{store_name_text}
use Rattle.wf_stream.proofs.store_calls.store_name.Goals as goal

pub unreachable-requires : goal.unreachable-requires
unreachable-requires c = c.in-Err.ensures.cases.0 (store_name_text c.args.name.now c.requires)
