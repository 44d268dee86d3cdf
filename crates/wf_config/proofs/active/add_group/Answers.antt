use Rattle.std.proofs.Common.{List, ℕ, Bor, map, ap, ◌∙◌}
use Rattle.wf_model.specs.Letters.{lower}
use Rattle.wf_model.specs.Groups.{names_in}
use Rattle.wf_config.specs.Active.{pair_of}
use Rattle.wf_config.proofs.Loops.{made_all}
use Rattle.wf_config.proofs.active.add_group.Goals as goal

pub returns : goal.returns
returns c =
    made_all pair_of (λ name. (lower name, c.args.holds)) (λ (w : Bor (List ℕ)). w.now) (map pair_of c.args.listings.now.items) c.loop-name.listings.items c.as_slice-name-items.result.now (names_in c.args.group.now) c.loop-name.name-index c.loop-name-test.false
    (ap (map (λ (w : Bor (List ℕ)). w.now)) c.as_slice-name-items.ensures.value ∙ c.in_ok-names.ensures) c.loop-name.invariant
