use Rattle.std.proofs.Common.{◌&&◌, Bor}
use Rattle.std.specs.Str.{bytes_eq}
use Rattle.wf_model.specs.Namelist.{Item}
use Rattle.wf_config.proofs.LookUps.{look_up_map}
use Rattle.wf_config.proofs.given.given.Goals as goal

pub loop-item-init : goal.loop-item-init
loop-item-init c = look_up_map (λ (i : Item). bytes_eq i.0 c.args.group.now && bytes_eq i.1 c.args.name.now) (λ i. i.2) (λ (i : Bor Item). i.now) c.args.items.now
