use Rattle.std.proofs.Common.{arith, sym, ap, subst, ◌∙◌, ◌≡◌, ℕ, ◌+◌, ◌-◌, ◌++◌, List, length, take, drop, get_or, pos}
use Rattle.std.specs.Vec.{with_items}
use Rattle.std.proofs.lemmas.List.{get_or_default}
use Rattle.wf_top.specs.declared.patch.Patch.{Patch}
use Rattle.wf_top.specs.Memories.{Holds, Each, IsPatch, KeepsShape, Took, column_of, block_start}
use Rattle.wf_top.proofs.PatchLaws.{took_west, block_after}
use Rattle.wf_top.proofs.DomainLaws.{given_back, domain_with, each_kept, last_column}
use Rattle.wf_top.proofs.patches.Patches.take_from_west.Goals as goal

pub returns-clause-domain : goal.returns-clause-domain
returns-clause-domain c =
    let all = c.args.self.now in
    let before = all.patches.items in
    let after = c.pass_column.new.patches in
    let row = c.pass_column.new.column in
    let lent : c.deref_mut.result.now ≡ before = c.deref_mut.ensures.value in
    let size : length after ≡ length before = c.pass_column.auto.patches ∙ ap length lent in
    let count : all.patches.len ≡ length after = grind arith in
    let row_size : length row ≡ all.ny = c.pass_column.auto.column ∙ ap length c.deref_mut-2.ensures.value ∙ c.requires.domain.column in
    let row_count : all.column.len ≡ length row = grind (arith, c.requires.domain.column) in
    let whole : take all.patches.len (after ++ drop (length after) before) ≡ after = given_back all.patches.len before after count in
    let row_whole : take all.column.len (row ++ drop (length row) all.column.items) ≡ row = given_back all.column.len all.column.items row row_count in
    domain_with all (with_items all.patches after) (with_items all.column row) c.requires.domain (ap length whole ∙ size) (ap length row_whole ∙ row_size)
    (subst (Each (IsPatch all.nx all.ny (length before))) (sym whole)
    (each_kept all.nx all.ny (length before) c.args.p before after size (omega arith)
    (λ q other ne. c.pass_column.ensures.others q other ne ∙ ap (λ (xs : List Patch). get_or xs q other) lent)
    (λ other. subst (λ (xs : List Patch). KeepsShape (get_or xs c.args.p other) (get_or after c.args.p other)) lent (c.pass_column.ensures.shape other))
    c.requires.domain.each))

pub returns-clause-taken : goal.returns-clause-taken
returns-clause-taken c = λ own west east other inside holds.
    let all = c.args.self.now in
    let p = c.args.p in
    let before = all.patches.items in
    let after = c.pass_column.new.patches in
    let lent : c.deref_mut.result.now ≡ before = c.deref_mut.ensures.value in
    let size : length after ≡ length before = c.pass_column.auto.patches ∙ ap length lent in
    let count : all.patches.len ≡ length after = grind arith in
    let whole : take all.patches.len (after ++ drop (length after) before) ≡ after = given_back all.patches.len before after count in
    let rows : length c.deref_mut-2.result.now ≡ all.ny = ap length c.deref_mut-2.ensures.value ∙ c.requires.domain.column in
    let neighbour = get_or before (c.args.p - 1) other in
    let patch = get_or before p other in
    let made = get_or after p other in
    let is = c.requires.domain.each p (omega arith) other in
    let beside = c.requires.domain.each (c.args.p - 1) (omega arith) other in
    let px = length before in
    let shape : KeepsShape patch made = subst (λ (xs : List Patch). KeepsShape (get_or xs p other) made) lent (c.pass_column.ensures.shape other) in
    let same_neighbour : c.index-neighbour.result.now ≡ neighbour = c.index-neighbour.ensures ∙ get_or_default before (c.args.p - 1) _ other (omega arith) in
    let last = neighbour.west + neighbour.own - 1 in
    let took1 = subst (λ (xs : List Patch). Took 0 (length c.deref_mut-2.result.now) (column_of (get_or xs (c.args.p - 1) other) (c.index-neighbour.result.now.west + c.index-neighbour.result.now.own - 1)) (get_or xs p other) made) lent (c.pass_column.ensures.took other) in
    let took2 = subst (λ (n : ℕ). Took 0 n (column_of neighbour (c.index-neighbour.result.now.west + c.index-neighbour.result.now.own - 1)) patch made) rows took1 in
    let took3 = subst (λ (x : Patch). Took 0 all.ny (column_of neighbour (x.west + x.own - 1)) patch made) same_neighbour took2 in
    subst (λ (xs : List Patch). Holds all.ny own own east (get_or xs p other)) (sym whole)
    (took_west all.nx all.ny (block_start all.nx px p) (block_start all.nx px (p + 1)) own west east (column_of neighbour last) patch made is.block
    (block_after all.nx px p c.requires.domain.some c.requires.domain.most c.requires.place.0) shape took3
    (λ r hr. inside r last hr (omega (arith, beside.block.from, beside.block.west, beside.block.own, beside.block.some)) (omega (arith, beside.block.west, beside.block.own, beside.block.some))
    ∙ ap (λ i. pos (own (r + 1) i)) (last_column all.nx all.ny px p neighbour patch c.requires.place.0 c.requires.domain.some c.requires.domain.most beside is))
    holds)
