use Rattle.std.proofs.Common.{◌&&◌, ◌||◌, not, sym, ap₂, ◌∙◌}
use Rattle.wf_config.specs.Active.{Listed, is_listing, pair_of}
use Rattle.wf_config.proofs.Actives.{any_map}
use Rattle.wf_config.proofs.active.is_active_symbol.Goals as goal

pub returns : goal.returns
returns c =
    c.is_free_or_held.ensures
    ∙ ap₂ (λ a b. not a || b) (sym (any_map (is_listing c.args.symbol.now) pair_of c.args.listings.now)) (sym (any_map (λ (l : Listed). is_listing c.args.symbol.now l && l.1) pair_of c.args.listings.now))
