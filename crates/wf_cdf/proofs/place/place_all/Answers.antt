use Rattle.std.proofs.Common.{◌≡◌, ◌+◌, List, length, ap, ◌∙◌}
use Rattle.wf_model.specs.declared.header.Header.{Header}
use Rattle.wf_model.specs.declared.header.Var.{Var}
use Rattle.wf_model.specs.Bytes.{header_bytes}
use Rattle.wf_model.specs.Sizes.{fixed_size}
use Rattle.wf_model.specs.Headers.{placed, placed_from}
use Rattle.wf_cdf.proofs.Limits.{with_items_all}
use Rattle.wf_cdf.proofs.Placed.{length_placed_from}
use Rattle.wf_cdf.proofs.place.place_all.Goals as goal

pub returns : goal.returns
unfolding placed
returns c =
    let h = c.args.header.now in
    let vars = placed_from h.dims (length (header_bytes h)) (length (header_bytes h) + fixed_size h) h.vars in
    let made : c.place_each.new.vars ≡ placed_from c.args.header.now.dims (length (header_bytes c.args.header.now)) (length (header_bytes c.args.header.now) + fixed_size c.args.header.now) c.args.header.now.vars = cc in
    ap (λ (vs : List Var). let p : Header = record { version = h.version; numrecs = h.numrecs; dims = h.dims; atts = h.atts; vars = vs } in p)
    (with_items_all h.vars c.place_each.new.vars
    (ap length made ∙ length_placed_from h.dims (length (header_bytes h)) (length (header_bytes h) + fixed_size h) h.vars) ∙ made)
