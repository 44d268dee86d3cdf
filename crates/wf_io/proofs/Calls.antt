-- What the calls of a store in memory leave after an error.
use Rattle.std.proofs.Common.{◌≡◌, ◌≢◌, ℕ, ◌+◌, ◌-◌, ◌≤◌, true, false, cond, List, [], ◌++◌, length, take, drop, Option, Some, None, IsSome, IfSome, Result, Ok, Err, OnErr, unwrap_or, refl, sym, ap, ◌∙◌, arith, append-nil, length-append, length-take, length-drop, append_assoc}
use Rattle.std.proofs.lemmas.List.{take-append-drop, drop-drop}
use Rattle.std.specs.Str.{bytes_eq}
use Rattle.std.proofs.lemmas.Slice.Eq.{bytes_eq-Decides}
use Rattle.wf_io.specs.Files.{Files, with_file, bytes_at, patched}
use Rattle.wf_io.specs.declared.store.IoError.{IoError}
use Rattle.wf_io.specs.declared.store.IoError.TheVariants.{Fault, Memory}

-- an option that is there is its value
is_its_value : (o : Option (List ℕ)) → IsSome o → o ≡ Some (unwrap_or o [])
is_its_value (Some x) there = refl
is_its_value None there = absurd (cc there)

-- to give a name what it holds changes nothing, at each name
same_at : (m : Files) (name b : List ℕ) → m name ≡ Some b → (q : List ℕ) → m q ≡ with_file m name b q
same_at m name b is q = elim (bytes_eq q name) as (λ t. bytes_eq q name ≡ t → m q ≡ cond t (Some b) (m q)) [ true ↦ λ e. let same : q ≡ name = (bytes_eq-Decides q name).0 e in ap m same ∙ is | false ↦ λ e. refl ] refl

with_file-same : (m : Files) (name : List ℕ) → IsSome (m name) → m ≡ with_file m name (bytes_at m name)
with_file-same m name there = λ i q. same_at m name (bytes_at m name) (is_its_value (m name) there) q i

-- an append that failed left some bytes behind the old ones
pub append_err : {X : Type 0} (r : Result X IoError) (kept : Option ℕ) (old new : Files) (name bytes : List ℕ) → IsSome (old name)
    → (r ≡ Err Fault → IsSome kept) → IfSome kept (λ k. r ≡ Err Fault → new ≡ with_file old name (bytes_at old name ++ take k bytes)) → (r ≡ Err Memory → new ≡ old)
    → OnErr r ((rest : List ℕ) × (new ≡ with_file old name (bytes_at old name ++ rest)))
append_err (Ok x) kept old new name bytes there listed fault memory = tt
append_err (Err Fault) (Some k) old new name bytes there listed fault memory = (take k bytes, fault refl)
append_err (Err Fault) None old new name bytes there listed fault memory = absurd (cc (listed refl))
append_err (Err Memory) kept old new name bytes there listed fault memory =
    ([], memory refl ∙ with_file-same old name there ∙ ap (with_file old name) (sym (append-nil (bytes_at old name))))

-- a write of a part is the write of that part and of the old bytes behind it
same_patch : (old part : List ℕ) (at n : ℕ) → at + length part + n ≤ length old → patched old at part ≡ patched old at (part ++ take n (drop (at + length part) old))
same_patch old part at n within =
    let a = at + length part in
    let rest = drop a old in
    let l : at + length (part ++ take n rest) ≡ a + n = omega (arith, length-append part (take n rest), length-take n rest, length-drop a old) in
    let d : drop (at + length (part ++ take n rest)) old ≡ drop n rest = ap (λ k. drop k old) l ∙ sym (drop-drop n a old) in
    rw d (simp append_assoc (ap (λ r. take at old ++ (part ++ r)) (sym (take-append-drop n rest))))

-- a part of a write leaves some bytes in the range of the whole
part_of : (old bytes part : List ℕ) (at : ℕ) → at + length bytes ≤ length old → length part ≤ length bytes
    → (other : List ℕ) × (length other ≡ length bytes) × (patched old at part ≡ patched old at other)
part_of old bytes part at within fits =
    let n = length bytes - length part in
    let rest = drop (at + length part) old in
    (part ++ take n rest, omega (arith, length-append part (take n rest), length-take n rest, length-drop (at + length part) old), same_patch old part at n (omega arith))

-- a write that failed left some bytes in its range
pub write_at_err : {X : Type 0} (r : Result X IoError) (kept : Option ℕ) (old new : Files) (name bytes : List ℕ) (at : ℕ) → at + length bytes ≤ length (bytes_at old name)
    → (r ≡ Err Fault → IsSome kept) → r ≢ Err Memory → IfSome kept (λ k. new ≡ with_file old name (patched (bytes_at old name) at (take k bytes)))
    → OnErr r ((other : List ℕ) × (length other ≡ length bytes) × (new ≡ with_file old name (patched (bytes_at old name) at other)))
write_at_err (Ok x) kept old new name bytes at within listed memory left = tt
write_at_err (Err Memory) kept old new name bytes at within listed memory left = absurd (memory refl)
write_at_err (Err Fault) None old new name bytes at within listed memory left = absurd (cc (listed refl))
write_at_err (Err Fault) (Some k) old new name bytes at within listed memory left =
    let p = part_of (bytes_at old name) bytes (take k bytes) at within (omega (arith, length-take k bytes)) in
    (p.0, p.1, left ∙ ap (with_file old name) p.2)
