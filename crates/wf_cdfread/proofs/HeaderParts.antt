-- A header is read part by part.
use Rattle.std.proofs.Common.{◌≡◌, ℕ, false, List, Result, Ok, Err, refl, sym, ap, ◌∙◌}
use Rattle.wf_model.specs.declared.header.Header.{Header}
use Rattle.wf_model.specs.declared.cdf_error.CdfError.{CdfError}
use Rattle.wf_model.specs.CdfRead.{then_read, letters, version_byte, record_count, list_size, dims, atts, items, var, header_from, only_header, header_at}
use Rattle.wf_cdfread.specs.Parts.{magic, front, dim_list, att_list, var_list, header_by_parts}
use Rattle.wf_cdfread.proofs.Turns.{read_on}

-- what is read next may be told in another way
same_next : {A B : Type 0} (read : Result (A × ℕ) CdfError) (f g : A → ℕ → Result (B × ℕ) CdfError) → ((x : A) (next : ℕ) → f x next ≡ g x next) →
    then_read read f ≡ then_read read g
same_next (Ok p) f g same = same p.0 p.1
same_next (Err e) f g same = refl

-- both numbers, and the place behind them
abbrev both : ℕ → ℕ → ℕ → Result ((ℕ × ℕ) × ℕ) CdfError
both v n at = Ok ((v, n), at)

-- the number of records, the version and the letters, with anything behind them
numrecs_joined : {A : Type 0} (v : ℕ) (numrecs : Result (ℕ × ℕ) CdfError) (rest : ℕ → ℕ → ℕ → Result (A × ℕ) CdfError) →
    (then_read numrecs λ n a3. rest v n a3) ≡ then_read (then_read numrecs λ n a3. both v n a3) (λ p a3. rest p.0 p.1 a3)
numrecs_joined v (Ok n) rest = refl
numrecs_joined v (Err e) rest = refl

version_joined : {A : Type 0} (version : Result (ℕ × ℕ) CdfError) (numrecs : ℕ → Result (ℕ × ℕ) CdfError) (rest : ℕ → ℕ → ℕ → Result (A × ℕ) CdfError) →
    (then_read version λ v a2. then_read (numrecs a2) λ n a3. rest v n a3)
    ≡ then_read (then_read version λ v a2. then_read (numrecs a2) λ n a3. both v n a3) (λ p a3. rest p.0 p.1 a3)
version_joined (Ok v) numrecs rest = numrecs_joined v.0 (numrecs v.1) rest
version_joined (Err e) numrecs rest = refl

front_joined : {A : Type 0} (magic : Result (List ℕ × ℕ) CdfError) (version : ℕ → Result (ℕ × ℕ) CdfError) (numrecs : ℕ → Result (ℕ × ℕ) CdfError)
    (rest : ℕ → ℕ → ℕ → Result (A × ℕ) CdfError) →
    (then_read magic λ m a1. then_read (version a1) λ v a2. then_read (numrecs a2) λ n a3. rest v n a3)
    ≡ then_read (then_read magic λ m a1. then_read (version a1) λ v a2. then_read (numrecs a2) λ n a3. both v n a3) (λ p a3. rest p.0 p.1 a3)
front_joined (Ok m) version numrecs rest = version_joined (version m.1) numrecs rest
front_joined (Err e) version numrecs rest = refl

-- what follows the front, read one by one and part by part
abbrev behind : List ℕ → ℕ → ℕ → ℕ → Result (Header × ℕ) CdfError
behind bytes version numrecs a3 =
    then_read (list_size 10 bytes a3) λ n a4.
    then_read (dims n false bytes a4) λ ds a5.
    then_read (atts bytes a5) λ as_ a6.
    then_read (list_size 11 bytes a6) λ m a7.
    then_read (items (var version ds) m bytes a7) λ vs a8.
    Ok (record { version = version; numrecs = numrecs; dims = ds; atts = as_; vars = vs }, a8)

abbrev parts_behind : List ℕ → ℕ → ℕ → ℕ → Result (Header × ℕ) CdfError
parts_behind bytes version numrecs a1 =
    then_read (dim_list bytes a1) λ ds a2.
    then_read (att_list bytes a2) λ as_ a3.
    then_read (var_list version ds bytes a3) λ vs a4.
    Ok (record { version = version; numrecs = numrecs; dims = ds; atts = as_; vars = vs }, a4)

behind_parts : (bytes : List ℕ) (version numrecs at : ℕ) → behind bytes version numrecs at ≡ parts_behind bytes version numrecs at
unfolding dim_list att_list var_list
behind_parts bytes version numrecs at =
    sym (read_on (list_size 10 bytes at) (λ n a4. dims n false bytes a4) (λ ds a5. then_read (atts bytes a5) λ as_ a6. then_read (list_size 11 bytes a6) λ m a7. then_read (items (var version ds) m bytes a7) λ vs a8. Ok (record { version = version; numrecs = numrecs; dims = ds; atts = as_; vars = vs }, a8)))
    ∙ same_next (dim_list bytes at) (λ ds a5. then_read (atts bytes a5) λ as_ a6. then_read (list_size 11 bytes a6) λ m a7. then_read (items (var version ds) m bytes a7) λ vs a8. Ok (record { version = version; numrecs = numrecs; dims = ds; atts = as_; vars = vs }, a8))
    (λ ds a5. then_read (atts bytes a5) λ as_ a6. then_read (var_list version ds bytes a6) λ vs a8. Ok (record { version = version; numrecs = numrecs; dims = ds; atts = as_; vars = vs }, a8))
    (λ ds a5. same_next (atts bytes a5) (λ as_ a6. then_read (list_size 11 bytes a6) λ m a7. then_read (items (var version ds) m bytes a7) λ vs a8. Ok (record { version = version; numrecs = numrecs; dims = ds; atts = as_; vars = vs }, a8))
    (λ as_ a6. then_read (var_list version ds bytes a6) λ vs a8. Ok (record { version = version; numrecs = numrecs; dims = ds; atts = as_; vars = vs }, a8))
    (λ as_ a6. sym (read_on (list_size 11 bytes a6) (λ m a7. items (var version ds) m bytes a7) (λ vs a8. Ok (record { version = version; numrecs = numrecs; dims = ds; atts = as_; vars = vs }, a8)))))

-- the whole header
header_from-parts : (bytes : List ℕ) → header_from bytes ≡ header_by_parts bytes 0
unfolding header_from front
header_from-parts bytes =
    front_joined (letters magic bytes 0) (version_byte bytes) (record_count bytes) (behind bytes)
    ∙ same_next (front bytes 0) (λ p a3. behind bytes p.0 p.1 a3) (λ p a3. parts_behind bytes p.0 p.1 a3) (λ p a3. behind_parts bytes p.0 p.1 a3)

-- without its length
pub header_at_parts : (bytes : List ℕ) → header_at bytes ≡ only_header (header_by_parts bytes 0)
unfolding header_at
header_at_parts bytes = ap only_header (header_from-parts bytes)
