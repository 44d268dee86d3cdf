use Rattle.std.proofs.Common.{◌≡◌, ◌++◌, List, ℕ, Bor, map, ap, sym, ◌∙◌, rules}
use Rattle.std.specs.List.{flat_map}
use Rattle.wf_model.specs.Groups.{groups_of}
use Rattle.wf_config.specs.Active.{group_listings, holds, listings, pair_of}
use Rattle.wf_config.proofs.Loops.{joined_all}
use Rattle.wf_config.proofs.active.add_listings.Goals as goal

pub returns : goal.returns
returns c =
    let test : c.package_holds-holds.result ≡ holds c.args.values.now c.in-Package.symbol c.in-Package.value = search rules in
    let groups : map (λ (w : Bor (List ℕ)). w.now) c.as_slice-group-items.result.now ≡ groups_of c.in-Package.list = ap (map (λ (w : Bor (List ℕ)). w.now)) c.as_slice-group-items.ensures.value ∙ c.in_ok-groups.ensures ∙ ap groups_of c.as_slice-2.ensures in
    joined_all (group_listings c.package_holds-holds.result) (λ (w : Bor (List ℕ)). w.now) (map pair_of c.args.made.now.items) (map pair_of c.loop-group.made.items) c.as_slice-group-items.result.now (groups_of c.in-Package.list) c.loop-group.group-index c.loop-group-test.false groups c.loop-group.invariant
    ∙ ap (λ h. map pair_of c.args.made.now.items ++ flat_map (group_listings h) (groups_of c.in-Package.list)) test
    ∙ ap (λ e. map pair_of c.args.made.now.items ++ listings c.args.values.now e) (sym c.in-Package.is)
