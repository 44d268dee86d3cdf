use Rattle.std.proofs.Common.{◌≡◌, ◌&&◌, map, drop}
use Rattle.std.specs.Str.{bytes_eq}
use Rattle.wf_model.specs.Config.{given}
use Rattle.wf_config.proofs.LookUps.{look_up}
use Rattle.wf_config.proofs.given.given.Given as goal

abbrev pub invariant-loop-item : goal.invariant-loop-item
invariant-loop-item l = look_up (λ i. bytes_eq i.now.0 l.group && bytes_eq i.now.1 l.name) (λ i. i.now.2) (drop l.item-index l.items) ≡ given (map (λ i. i.now) l.items) l.group l.name
