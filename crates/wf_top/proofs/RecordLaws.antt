-- A row of the domain from the rows of all patches.
use Rattle.std.proofs.Common.{◌≡◌, ℕ, ◌+◌, ◌-◌, ◌*◌, ◌<◌, ◌≤◌, List, ◌++◌, length, map, take, drop, get_or, ℤ, pos, sym, ap, ◌∙◌, arith, append_assoc, length-take, length-drop}
use Rattle.std.specs.List.{range_with_len}
use Rattle.std.proofs.lemmas.List.{ext_get_or, get_or-take, get_or-drop}
use Rattle.std.proofs.lemmas.List.FromFn.{get_or-map-range_with_len, length-map-range_with_len}
use Rattle.wf_top.specs.declared.patch.Patch.{Patch}
use Rattle.wf_top.specs.Memories.{Inside, IsPatch, block_start}
use Rattle.wf_top.proofs.CellLaws.{place_within}
use Rattle.wf_top.proofs.RangeLaws.{map_split}

-- a patch's own part of a row
abbrev pub own_part : Patch → ℕ → List ℤ
own_part patch r =
    take (r * patch.width + patch.west + patch.own - (r * patch.width + patch.west)) (drop (r * patch.width + patch.west) patch.values.items)

pub own_part_is : (nx ny px p r : ℕ) (own : ℕ → ℕ → ℕ) (patch : Patch) → IsPatch nx ny px p patch → Inside own ny patch → r < ny
    → own_part patch r ≡ map (λ i. pos (own (r + 1) i)) (range_with_len (1 + block_start nx px p) patch.own)
own_part_is nx ny px p r own patch is inside hr =
    let f : ℕ → ℤ = λ i. pos (own (r + 1) i) in
    let start = r * patch.width + patch.west in
    let count : start + patch.own - start ≡ patch.own = omega arith in
    let in_row : patch.west + patch.own ≤ patch.width = omega (arith, is.block.from, is.block.west, is.block.own, is.block.width, is.block.within) in
    let last : r * patch.width + (patch.west + patch.own - 1) < ny * patch.width = place_within patch.width r (patch.west + patch.own - 1) ny hr (omega (arith, is.block.own, is.block.some)) in
    let enough : patch.own ≤ length (drop start patch.values.items) = omega (arith, length-drop start patch.values.items, is.rows.values, last, is.block.own, is.block.some) in
    let size : length (own_part patch r) ≡ patch.own = omega (arith, length-take (start + patch.own - start) (drop start patch.values.items), enough, count) in
    ext_get_or (pos 0) (own_part patch r) (map f (range_with_len (1 + block_start nx px p) patch.own)) (size ∙ sym (length-map-range_with_len f (1 + block_start nx px p) patch.own))
    (λ i hi.
    let in_own : i < patch.own = omega (arith, size, hi) in
    let place : start + i ≡ r * patch.width + (patch.west + i) = omega arith in
    get_or-take (start + patch.own - start) (drop start patch.values.items) i (pos 0) (omega (arith, count, in_own))
    ∙ get_or-drop start patch.values.items i (pos 0)
    ∙ ap (λ k. get_or patch.values.items k (pos 0)) place
    ∙ inside r (patch.west + i) hr (omega arith) (omega (arith, in_own))
    ∙ sym (get_or-map-range_with_len f (1 + block_start nx px p) patch.own i (patch.from + (patch.west + i) + 1) (pos 0) in_own (omega (arith, is.block.west))))

-- a row, with one patch more
pub row_more : (nx ny px p r : ℕ) (own : ℕ → ℕ → ℕ) (patch : Patch) (values old new : List ℤ) → IsPatch nx ny px p patch → Inside own ny patch → r < ny
    → values ≡ old ++ map (λ i. pos (own (r + 1) i)) (range_with_len 1 (block_start nx px p))
    → new ≡ values ++ own_part patch r
    → new ≡ old ++ map (λ i. pos (own (r + 1) i)) (range_with_len 1 (block_start nx px (p + 1)))
row_more nx ny px p r own patch values old new is inside hr before added =
    let f : ℕ → ℤ = λ i. pos (own (r + 1) i) in
    let end : block_start nx px p + patch.own ≡ block_start nx px (p + 1) = is.block.own in
    added ∙ ap (λ (xs : List ℤ). xs ++ own_part patch r) before
    ∙ ap (λ (xs : List ℤ). (old ++ map f (range_with_len 1 (block_start nx px p))) ++ xs) (own_part_is nx ny px p r own patch is inside hr)
    ∙ append_assoc old (map f (range_with_len 1 (block_start nx px p))) (map f (range_with_len (1 + block_start nx px p) patch.own))
    ∙ ap (λ (xs : List ℤ). old ++ xs) (sym (map_split f 1 (block_start nx px p) patch.own) ∙ ap (λ n. map f (range_with_len 1 n)) end)
