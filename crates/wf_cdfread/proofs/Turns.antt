-- Lists that are read an item at a time: what was read stands before what is left.
use Rattle.std.proofs.Common.{◌≡◌, ℕ, suc, ◌+◌, ◌-◌, ◌<◌, Bool, true, false, cond, eqb, List, [], ◌∷◌, ◌++◌, Result, Ok, Err, refl, sym, ap, ◌∙◌, append_assoc, arith}
use Rattle.std.specs.Prelude.{◌&&◌, ◌||◌, ◌==◌}
use Rattle.std.proofs.lemmas.Bool.{ne_eqb}
use Rattle.wf_model.specs.declared.header.Dim.{Dim}
use Rattle.wf_model.specs.declared.cdf_error.CdfError.{CdfError}
use Rattle.wf_model.specs.declared.cdf_error.CdfError.TheVariants as cdf
use Rattle.wf_model.specs.CdfRead.{Reading, then_read, items, name, count, dims, dim_number, dim_numbers}
use Rattle.wf_model.specs.Reading.{Fails}
use Rattle.wf_cdfread.specs.Faults.{fault_of}
use Rattle.wf_cdfread.specs.Parts.{dim}
use Rattle.wf_cdfread.specs.declared.error.HeaderError.{HeaderError}
use Rattle.wf_cdfread.specs.declared.error.HeaderError.TheVariants as header

-- what was read before, and what is read from here on
abbrev pub with_front : {A : Type 0} → List A → Result (List A × ℕ) CdfError → Result (List A × ℕ) CdfError
with_front front read = then_read read λ xs last. Ok (front ++ xs, last)

-- an item and the rest of the list
abbrev pub first_and_rest : {A : Type 0} → Result (A × ℕ) CdfError → (A → ℕ → Result (List A × ℕ) CdfError) → Result (List A × ℕ) CdfError
first_and_rest one rest = then_read one λ x next. then_read (rest x next) λ xs last. Ok (x ∷ xs, last)

-- an item moves from the rest to the front
regroup : {A : Type 0} (front : List A) (x : A) (read : Result (List A × ℕ) CdfError) →
    with_front front (then_read read λ xs last. Ok (x ∷ xs, last)) ≡ with_front (front ++ x ∷ []) read
regroup front x (Ok p) = ap (λ xs. Ok (xs, p.1)) (sym (append_assoc front (x ∷ []) p.0))
regroup front x (Err e) = refl

-- an item was read
pub one_more : {A : Type 0} (front : List A) (x : A) (next : ℕ) (one : Result (A × ℕ) CdfError) (rest : A → ℕ → Result (List A × ℕ) CdfError)
    (whole : Result (List A × ℕ) CdfError) → one ≡ Ok (x, next) → with_front front (first_and_rest one rest) ≡ whole →
    with_front (front ++ x ∷ []) (rest x next) ≡ whole
one_more front x next one rest whole read so_far =
    sym (regroup front x (rest x next)) ∙ ap (λ o. with_front front (first_and_rest o rest)) (sym read) ∙ so_far

-- an item could not be read
pub none_more : {A : Type 0} (e : HeaderError) (front : List A) (one : Result (A × ℕ) CdfError) (rest : A → ℕ → Result (List A × ℕ) CdfError)
    (whole : Result (List A × ℕ) CdfError) → Fails (fault_of e) one → with_front front (first_and_rest one rest) ≡ whole → Fails (fault_of e) whole
none_more header.Memory front one rest whole failed so_far = tt
none_more (header.Fault f) front one rest whole failed so_far =
    sym so_far ∙ ap (λ o. with_front front (first_and_rest o rest)) failed

-- reading on after what was read in two steps
pub read_on : {A B C : Type 0} (read : Result (A × ℕ) CdfError) (f : A → ℕ → Result (B × ℕ) CdfError) (g : B → ℕ → Result (C × ℕ) CdfError) →
    then_read (then_read read f) g ≡ then_read read λ x next. then_read (f x next) g
read_on (Ok p) f g = refl
read_on (Err e) f g = refl

-- ---- items alike

pub items_more : {A : Type 0} (each : Reading A) (front : List A) (x : A) (n i : ℕ) (bytes : List ℕ) (at next : ℕ) (whole : Result (List A × ℕ) CdfError) →
    i < n → each bytes at ≡ Ok (x, next) → with_front front (items each (n - i) bytes at) ≡ whole →
    with_front (front ++ x ∷ []) (items each (n - (i + 1)) bytes next) ≡ whole
items_more each front x n i bytes at next whole lt read so_far =
    let left : n - i ≡ suc (n - (i + 1)) = omega arith in
    one_more front x next (each bytes at) (λ _ after. items each (n - (i + 1)) bytes after) whole read
    (ap (λ k. with_front front (items each k bytes at)) (sym left) ∙ so_far)

pub items_fail : {A : Type 0} (each : Reading A) (e : HeaderError) (front : List A) (n i : ℕ) (bytes : List ℕ) (at : ℕ) (whole : Result (List A × ℕ) CdfError) →
    i < n → Fails (fault_of e) (each bytes at) → with_front front (items each (n - i) bytes at) ≡ whole → Fails (fault_of e) whole
items_fail each e front n i bytes at whole lt failed so_far =
    let left : n - i ≡ suc (n - (i + 1)) = omega arith in
    none_more e front (each bytes at) (λ _ after. items each (n - (i + 1)) bytes after) whole failed
    (ap (λ k. with_front front (items each k bytes at)) (sym left) ∙ so_far)

-- ---- dimensions

dim_test : (b : Bool) (e : CdfError) (d : Dim) (last : ℕ) (rest : Dim → ℕ → Result (List Dim × ℕ) CdfError) →
    cond b (Err e) (then_read (rest d last) λ ds end. Ok (d ∷ ds, end)) ≡ first_and_rest (cond b (Err e) (Ok (d, last))) rest
dim_test true e d last rest = refl
dim_test false e d last rest = refl

dim_length : (m : List ℕ) (next : ℕ) (seen : Bool) (counted : Result (ℕ × ℕ) CdfError) (rest : Bool → ℕ → Result (List Dim × ℕ) CdfError) →
    (then_read counted λ l last. cond ((l == 0) && seen) (Err (cdf.BadDim next)) (then_read (rest (seen || (l == 0)) last) λ ds end. Ok (record { name = m; len = l } ∷ ds, end)))
    ≡ first_and_rest (then_read counted λ l last. cond ((l == 0) && seen) (Err (cdf.BadDim next)) (Ok (record { name = m; len = l }, last))) (λ d last. rest (seen || (d.len == 0)) last)
dim_length m next seen (Ok p) rest = dim_test ((p.0 == 0) && seen) (cdf.BadDim next) (record { name = m; len = p.0 }) p.1 (λ d last. rest (seen || (d.len == 0)) last)
dim_length m next seen (Err e) rest = refl

dim_name : (named : Result (List ℕ × ℕ) CdfError) (seen : Bool) (counted : ℕ → Result (ℕ × ℕ) CdfError) (rest : Bool → ℕ → Result (List Dim × ℕ) CdfError) →
    (then_read named λ m next. then_read (counted next) λ l last. cond ((l == 0) && seen) (Err (cdf.BadDim next)) (then_read (rest (seen || (l == 0)) last) λ ds end. Ok (record { name = m; len = l } ∷ ds, end)))
    ≡ first_and_rest (then_read named λ m next. then_read (counted next) λ l last. cond ((l == 0) && seen) (Err (cdf.BadDim next)) (Ok (record { name = m; len = l }, last))) (λ d last. rest (seen || (d.len == 0)) last)
dim_name (Ok p) seen counted rest = dim_length p.0 p.1 seen (counted p.1) rest
dim_name (Err e) seen counted rest = refl

-- dimensions are one dimension and the others
dims_first : (n : ℕ) (seen : Bool) (bytes : List ℕ) (at : ℕ) →
    dims (suc n) seen bytes at ≡ first_and_rest (dim seen bytes at) (λ d last. dims n (seen || (d.len == 0)) bytes last)
dims_first n seen bytes at = dim_name (name bytes at) seen (count bytes) (λ s last. dims n s bytes last)

pub dims_more : (front : List Dim) (d : Dim) (n i : ℕ) (seen : Bool) (bytes : List ℕ) (at next : ℕ) (whole : Result (List Dim × ℕ) CdfError) →
    i < n → dim seen bytes at ≡ Ok (d, next) → with_front front (dims (n - i) seen bytes at) ≡ whole →
    with_front (front ++ d ∷ []) (dims (n - (i + 1)) (seen || (d.len == 0)) bytes next) ≡ whole
dims_more front d n i seen bytes at next whole lt read so_far =
    let left : n - i ≡ suc (n - (i + 1)) = omega arith in
    one_more front d next (dim seen bytes at) (λ x last. dims (n - (i + 1)) (seen || (x.len == 0)) bytes last) whole read
    (ap (with_front front) (sym (dims_first (n - (i + 1)) seen bytes at)) ∙ ap (λ k. with_front front (dims k seen bytes at)) (sym left) ∙ so_far)

pub dims_fail : (e : HeaderError) (front : List Dim) (n i : ℕ) (seen : Bool) (bytes : List ℕ) (at : ℕ) (whole : Result (List Dim × ℕ) CdfError) →
    i < n → Fails (fault_of e) (dim seen bytes at) → with_front front (dims (n - i) seen bytes at) ≡ whole → Fails (fault_of e) whole
dims_fail e front n i seen bytes at whole lt failed so_far =
    let left : n - i ≡ suc (n - (i + 1)) = omega arith in
    none_more e front (dim seen bytes at) (λ x last. dims (n - (i + 1)) (seen || (x.len == 0)) bytes last) whole failed
    (ap (with_front front) (sym (dims_first (n - (i + 1)) seen bytes at)) ∙ ap (λ k. with_front front (dims k seen bytes at)) (sym left) ∙ so_far)

-- ---- numbers of dimensions

pub numbers_more : (ds : List Dim) (front : List ℕ) (x : ℕ) (n i : ℕ) (bytes : List ℕ) (at next : ℕ) (whole : Result (List ℕ × ℕ) CdfError) →
    i < n → dim_number ds (eqb i 0) bytes at ≡ Ok (x, next) → with_front front (dim_numbers ds (eqb i 0) (n - i) bytes at) ≡ whole →
    with_front (front ++ x ∷ []) (dim_numbers ds (eqb (i + 1) 0) (n - (i + 1)) bytes next) ≡ whole
numbers_more ds front x n i bytes at next whole lt read so_far =
    let left : n - i ≡ suc (n - (i + 1)) = omega arith in
    let later : eqb (i + 1) 0 ≡ false = ne_eqb (i + 1) 0 (λ e. omega arith) in
    ap (λ b. with_front (front ++ x ∷ []) (dim_numbers ds b (n - (i + 1)) bytes next)) later
    ∙ one_more front x next (dim_number ds (eqb i 0) bytes at) (λ _ after. dim_numbers ds false (n - (i + 1)) bytes after) whole read
    (ap (λ k. with_front front (dim_numbers ds (eqb i 0) k bytes at)) (sym left) ∙ so_far)

pub numbers_fail : (ds : List Dim) (e : HeaderError) (front : List ℕ) (n i : ℕ) (bytes : List ℕ) (at : ℕ) (whole : Result (List ℕ × ℕ) CdfError) →
    i < n → Fails (fault_of e) (dim_number ds (eqb i 0) bytes at) → with_front front (dim_numbers ds (eqb i 0) (n - i) bytes at) ≡ whole → Fails (fault_of e) whole
numbers_fail ds e front n i bytes at whole lt failed so_far =
    let left : n - i ≡ suc (n - (i + 1)) = omega arith in
    none_more e front (dim_number ds (eqb i 0) bytes at) (λ _ after. dim_numbers ds false (n - (i + 1)) bytes after) whole failed
    (ap (λ k. with_front front (dim_numbers ds (eqb i 0) k bytes at)) (sym left) ∙ so_far)
