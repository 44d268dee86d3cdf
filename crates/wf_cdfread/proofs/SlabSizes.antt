-- Products of lengths and places of slabs, by numbers that stay at their greatest value.
use Rattle.std.proofs.Common.{◌≡◌, ◌⊎◌, ℕ, ◌+◌, ◌-◌, ◌*◌, ◌^◌, ◌<◌, ◌≤◌, min, Bool, true, false, cond, ltb, List, length, take, drop, get_or, Some, Result, Ok, Err, Bor, refl, sym, ap, subst, ◌∙◌, inl, inr, arith}
use Rattle.std.specs.Prelude.{IfOk}
use Rattle.std.proofs.lemmas.Bool.{cases_lt, lt-ltb, ltb-false}
use Rattle.std.proofs.lemmas.List.{length-take, length-drop}
use Rattle.std.specs.List.{fold}
use Rattle.std.proofs.lemmas.List.Sums.{fold_more}
use Rattle.std.proofs.lemmas.List.Folds.{fold-map}
use Rattle.std.proofs.Math.Nat.{mul_comm}
use Rattle.wf_model.specs.declared.header.Header.{Header}
use Rattle.wf_model.specs.declared.header.Dim.{Dim}
use Rattle.wf_model.specs.declared.cdf_error.SlabError.{SlabError}
use Rattle.wf_model.specs.declared.cdf_error.SlabError.TheVariants as slab
use Rattle.wf_model.specs.Reading.{Gives}
use Rattle.wf_model.specs.Sizes.{dim_of, lengths, product, record_size}
use Rattle.wf_cdf.specs.Capped.{capped}
use Rattle.wf_cdf.proofs.CappedSums.{capped_mul, capped_add_left}
use Rattle.wf_cdfread.specs.Parts.{part_at}

-- a product of what a function gives, with one more
capped_fold_more : (f : ℕ → ℕ) (ns : List ℕ) (i p : ℕ) → i < length ns → p ≡ capped (fold (λ a n. a * f n) 1 (take i ns)) →
    min (p * f (get_or ns i 0)) (2 ^ 128 - 1) ≡ capped (fold (λ a n. a * f n) 1 (take (i + 1) ns))
capped_fold_more f ns i p h e =
    ap (λ a. min (a * f (get_or ns i 0)) (2 ^ 128 - 1)) e ∙ capped_mul (fold (λ a n. a * f n) 1 (take i ns)) (f (get_or ns i 0))
    ∙ ap capped (sym (fold_more (λ a n. a * f n) 1 ns i 0 h))

-- a product of lengths with one more
pub capped_product_more : (ns : List ℕ) (i p : ℕ) → i < length ns → p ≡ capped (product (take i ns)) →
    min (p * get_or ns i 0) (2 ^ 128 - 1) ≡ capped (product (take (i + 1) ns))
capped_product_more ns i p h e = capped_fold_more (λ n. n) ns i p h e

product_fold : (dims : List Dim) (ns : List ℕ) → product (lengths dims ns) ≡ fold (λ a n. a * (dim_of dims n).len) 1 ns
product_fold dims ns = fold-map (λ a n. a * n) (λ n. (dim_of dims n).len) 1 ns

-- the same of dimensions
pub capped_lengths_more : (dims : List Dim) (ns : List ℕ) (i p : ℕ) → i < length ns → p ≡ capped (product (lengths dims (take i ns))) →
    min (p * (dim_of dims (get_or ns i 0)).len) (2 ^ 128 - 1) ≡ capped (product (lengths dims (take (i + 1) ns)))
capped_lengths_more dims ns i p h e =
    capped_fold_more (λ n. (dim_of dims n).len) ns i p h (e ∙ ap capped (product_fold dims (take i ns)))
    ∙ ap capped (sym (product_fold dims (take (i + 1) ns)))

-- where a slab begins
pub capped_place : (h : Header) (begin rec one : ℕ) → one ≡ capped (record_size h) →
    min (begin + min (one * rec) (2 ^ 128 - 1)) (2 ^ 128 - 1) ≡ capped (begin + rec * record_size h)
capped_place h begin rec one e =
    ap (λ n. min (begin + min (n * rec) (2 ^ 128 - 1)) (2 ^ 128 - 1)) e
    ∙ ap (λ n. min (begin + n) (2 ^ 128 - 1)) (capped_mul (record_size h) rec ∙ ap capped (mul_comm (record_size h) rec))
    ∙ capped_add_left begin (rec * record_size h)

-- a part of a file, by its exact place and size or by the greatest numbers
capped_part : (bytes : List ℕ) (at size : ℕ) → length bytes < 2 ^ 64 → (length bytes < at + size) ⊎ (at + size ≤ length bytes) →
    part_at bytes (capped at) (capped size) ≡ part_at bytes at size
unfolding capped
capped_part bytes at size short (inl past) =
    let whole : ltb (length bytes) (at + size) ≡ true = lt-ltb _ _ past in
    let greatest : ltb (length bytes) (min at (2 ^ 128 - 1) + min size (2 ^ 128 - 1)) ≡ true = lt-ltb _ _ (omega arith) in
    ap (λ b. cond b (Err (slab.Truncated (length bytes))) (Ok (take (min size (2 ^ 128 - 1)) (drop (min at (2 ^ 128 - 1)) bytes)))) greatest
    ∙ sym (ap (λ b. cond b (Err (slab.Truncated (length bytes))) (Ok (take size (drop at bytes)))) whole)
capped_part bytes at size short (inr within) =
    let place : min at (2 ^ 128 - 1) ≡ at = omega arith in
    let exact : min size (2 ^ 128 - 1) ≡ size = omega arith in
    ap (λ n. part_at bytes n (min size (2 ^ 128 - 1))) place ∙ ap (part_at bytes at) exact

-- what a call gives of the greatest numbers it gives of the exact ones
pub part_exact : (given : Result (Bor (List ℕ)) SlabError) (bytes : List ℕ) (at size place room : ℕ) → length bytes < 2 ^ 64 →
    place ≡ capped at → room ≡ capped size → Gives (λ x. x.now) Some given (part_at bytes place room) → Gives (λ x. x.now) Some given (part_at bytes at size)
part_exact given bytes at size place room short p r gives =
    let same : part_at bytes place room ≡ part_at bytes at size =
    ap (λ n. part_at bytes n room) p ∙ ap (part_at bytes (capped at)) r ∙ capped_part bytes at size short (cases_lt (length bytes) (at + size)) in
    subst (λ read. Gives (λ x. x.now) Some given read) same gives

-- a part has its size
part_size : (bytes : List ℕ) (at size : ℕ) (past : Bool) (part : List ℕ) → ltb (length bytes) (at + size) ≡ past →
    cond past (Err (slab.Truncated (length bytes))) (Ok (take size (drop at bytes))) ≡ Ok part → length part ≡ size
part_size bytes at size true part e found = absurd cc
part_size bytes at size false part e found =
    let within : at + size ≤ length bytes = ltb-false _ _ e in
    let same : take size (drop at bytes) ≡ part = cc in
    sym (ap length same) ∙ omega (arith, length-take size (drop at bytes), length-drop at bytes)

pub part_fits : (given : Result (Bor (List ℕ)) SlabError) (bytes : List ℕ) (at size : ℕ) → Gives (λ x. x.now) Some given (part_at bytes at size) →
    IfOk given (λ x. length x.now ≡ size)
part_fits (Ok x) bytes at size gives = part_size bytes at size (ltb (length bytes) (at + size)) x.now refl gives
part_fits (Err e) bytes at size gives = tt
