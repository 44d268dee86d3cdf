-- Levels read from a file.
use Rattle.std.proofs.Common.{◌≡◌, ◌∙◌, sym, ap, ap₂, refl, subst, ℕ, ◌+◌, ◌-◌, ◌*◌, ◌≤◌, Bool, true, false, cond, List, [], ◌∷◌, ◌++◌, map, length, Result, Ok, Err, arith}
use Rattle.std.specs.Prelude.{ℤ, pos, find, IsOk, IsFalse, if◌then◌else◌}
use Rattle.std.specs.List.{range_with_len}
use Rattle.std.proofs.Math.Nat.{mul_assoc, one-mul}
use Rattle.std.proofs.lemmas.List.{length-replicate}
use Rattle.std.proofs.lemmas.List.FromFn.{length-map-range_with_len, get_or-map-range_with_len, map-range_with_len_more}
use Rattle.wf_model.specs.declared.header.Header.{Header}
use Rattle.wf_model.specs.declared.plan.Plan.{Plan}
use Rattle.wf_model.specs.declared.plan.Domain.{Domain}
use Rattle.wf_model.specs.declared.plan.Field.{Field}
use Rattle.wf_model.specs.declared.cdf_error.SlabError.{SlabError}
use Rattle.wf_model.specs.CdfRead.{has_name, ints, ints_of, slab_at, slab_bytes_of}
use Rattle.wf_model.specs.Grids.{listed, grid_from}
use Rattle.wf_model.specs.InputOf.{Asked, slab_read, bytes_read, is_input, level_read, own_points, zeros}
use Rattle.wf_model.specs.Outcome.{no_list}
use Rattle.wf_model.specs.Plans.{domain_of, field_of, levels_of, extra, nx, ny, nz}
use Rattle.wf_model.specs.Ranges.{IsRangedField}
use Rattle.wf_model.specs.Sizes.{product}
use Rattle.wf_model.specs.Streams.{file_y, one_if}
use Rattle.wf_stream.specs.Levels.{HasLevels, asked_in, level_begin, shape_in}
use Rattle.wf_stream.proofs.RowLemmas.{length-listed}
use Rattle.wf_stream.proofs.SlabLemmas.{asked_is}

-- ---- numbers of a variable

given : (n : ℕ) (read : Result (List ℕ) SlabError) (vs : List ℤ) → ints_of n read ≡ Ok vs → vs ≡ ints n (bytes_read read)
given n (Ok bs) vs e = cc
given n (Err x) vs e = absurd (cc e)

refused : (n : ℕ) (read : Result (List ℕ) SlabError) (x : SlabError) → IsOk read → ints_of n read ≡ Err x → ⊥
refused n (Ok bs) x found e = cc
refused n (Err y) x found e = cc

-- the numbers of a slab that was read
pub numbers_given : (bytes : List ℕ) (h : Header) (a : Asked) (name shape : List ℕ) (vs : List ℤ) → a.type ≡ 4 → name ≡ a.name → shape ≡ a.shape
    → slab_at bytes h name shape 0 ≡ Ok vs → vs ≡ ints (product a.shape) (bytes_read (slab_read bytes h a))
unfolding slab_at
numbers_given bytes h a name shape vs type is same e =
    given (product a.shape) (slab_read bytes h a) vs
    (ap (λ (t : ℕ). ints_of (product a.shape) (slab_bytes_of bytes h (find (has_name a.name) h.vars) t a.shape 0)) type
    ∙ ap (λ (n : List ℕ). ints_of (product a.shape) (slab_bytes_of bytes h (find (has_name n) h.vars) 4 a.shape 0)) (sym is)
    ∙ ap (λ (s : List ℕ). ints_of (product s) (slab_bytes_of bytes h (find (has_name name) h.vars) 4 s 0)) (sym same)
    ∙ e)

-- a slab that is there is not refused
pub numbers_there : (bytes : List ℕ) (h : Header) (a : Asked) (name shape : List ℕ) (x : SlabError) → a.type ≡ 4 → name ≡ a.name → shape ≡ a.shape
    → IsOk (slab_read bytes h a) → slab_at bytes h name shape 0 ≡ Err x → ⊥
unfolding slab_at
numbers_there bytes h a name shape x type is same found e =
    refused (product a.shape) (slab_read bytes h a) x found
    (ap (λ (t : ℕ). ints_of (product a.shape) (slab_bytes_of bytes h (find (has_name a.name) h.vars) t a.shape 0)) type
    ∙ ap (λ (n : List ℕ). ints_of (product a.shape) (slab_bytes_of bytes h (find (has_name n) h.vars) 4 a.shape 0)) (sym is)
    ∙ ap (λ (s : List ℕ). ints_of (product s) (slab_bytes_of bytes h (find (has_name name) h.vars) 4 s 0)) (sym same)
    ∙ e)

-- there are as many as were asked for
pub length-ints : (n : ℕ) (bytes : List ℕ) → length (ints n bytes) ≡ n
length-ints n bytes = length-map-range_with_len _ 0 n

-- ---- extents

-- a level has no more points of its own than in files
pub extra_fits : (staggered periodic : Bool) → extra staggered periodic ≤ one_if staggered
extra_fits true true = omega arith
extra_fits true false = omega arith
extra_fits false periodic = omega arith

size_in : (z : Bool) (nz y x : ℕ) → (IsFalse z → nz ≡ 1) → product ((if z then nz ∷ [] else []) ++ (y ∷ (x ∷ []))) ≡ nz * (y * x)
size_in true nz y x flat = ap (λ (n : ℕ). n * y * x) (one-mul nz) ∙ mul_assoc nz y x
size_in false nz y x flat =
    let one : nz ≡ 1 = flat refl in
    ap (λ (n : ℕ). n * x) (one-mul y) ∙ sym (ap (λ (n : ℕ). n * (y * x)) one ∙ one-mul (y * x))

-- the numbers of a level in files
pub size_of_shape : (domain : Domain) (field : Field) → IsRangedField field
    → product (shape_in domain field) ≡ field.nz * ((domain.jde - 1 + one_if field.stag_y) * (domain.ide - 1 + one_if field.stag_x))
size_of_shape domain field ranged = size_in field.z field.nz (domain.jde - 1 + one_if field.stag_y) (domain.ide - 1 + one_if field.stag_x) ranged.flat

-- ---- lists of all levels

length-begin : (plan : Plan) (d : ℕ) (bytes : List ℕ) (h : Header) (f : ℕ) (b : Bool)
    → length (cond b (level_read plan d 0 bytes h f) (zeros plan d f)) ≡ nz plan f * (ny plan d f * nx plan d f)
length-begin plan d bytes h f true = length-listed (nz plan f) (ny plan d f) (nx plan d f) _
length-begin plan d bytes h f false = length-replicate _ (pos 0)

-- the levels of a domain with an input file
pub levels_read : (plan : Plan) (d : ℕ) (bytes : List ℕ) (h : Header) → HasLevels plan d (map (level_begin plan d bytes h) (levels_of plan))
levels_read plan d bytes h = record {
  count = length-map-range_with_len (level_begin plan d bytes h) 0 (length plan.fields);
  sizes = λ f level. ap length (get_or-map-range_with_len (level_begin plan d bytes h) 0 (length plan.fields) f f no_list level (omega arith)) ∙ length-begin plan d bytes h f (is_input plan f);
}

-- and of one without
pub levels_zero : (plan : Plan) (d : ℕ) → HasLevels plan d (map (zeros plan d) (levels_of plan))
levels_zero plan d = record {
  count = length-map-range_with_len (zeros plan d) 0 (length plan.fields);
  sizes = λ f level. ap length (get_or-map-range_with_len (zeros plan d) 0 (length plan.fields) f f no_list level (omega arith)) ∙ length-replicate _ (pos 0);
}

-- ---- a level read

-- a level's own points of the numbers that were read
pub level_given : (plan : Plan) (d f : ℕ) (bytes : List ℕ) (h : Header) (zs ys xs fy fx : ℕ) (vs : List ℤ) (domain : Domain) (field : Field)
    → domain ≡ domain_of plan d → field ≡ field_of plan f → zs ≡ field.nz
    → ys ≡ domain.jde - 1 + extra field.stag_y domain.periodic_y → xs ≡ domain.ide - 1 + extra field.stag_x domain.periodic_x
    → fy ≡ domain.jde - 1 + one_if field.stag_y → fx ≡ domain.ide - 1 + one_if field.stag_x
    → vs ≡ ints (product (shape_in domain field)) (bytes_read (slab_read bytes h (asked_in domain field)))
    → listed zs ys xs (grid_from fy fx vs) ≡ level_read plan d 0 bytes h f
level_given plan d f bytes h zs ys xs fy fx vs domain field is_domain is_field z y x file_y_is file_x_is read =
    ap (λ (n : ℕ). listed n ys xs (grid_from fy fx vs)) (z ∙ ap (λ (q : Field). q.nz) is_field)
    ∙ ap (λ (n : ℕ). listed (nz plan f) n xs (grid_from fy fx vs)) (y ∙ ap₂ (λ (p : Domain) (q : Field). p.jde - 1 + extra q.stag_y p.periodic_y) is_domain is_field)
    ∙ ap (λ (n : ℕ). listed (nz plan f) (ny plan d f) n (grid_from fy fx vs)) (x ∙ ap₂ (λ (p : Domain) (q : Field). p.ide - 1 + extra q.stag_x p.periodic_x) is_domain is_field)
    ∙ ap (λ (n : ℕ). listed (nz plan f) (ny plan d f) (nx plan d f) (grid_from n fx vs)) (file_y_is ∙ ap₂ (λ (p : Domain) (q : Field). p.jde - 1 + one_if q.stag_y) is_domain is_field)
    ∙ ap (λ (n : ℕ). listed (nz plan f) (ny plan d f) (nx plan d f) (grid_from (file_y plan d f) n vs)) (file_x_is ∙ ap₂ (λ (p : Domain) (q : Field). p.ide - 1 + one_if q.stag_x) is_domain is_field)
    ∙ ap (λ (v : List ℤ). own_points plan d f v)
    (read ∙ ap₂ (λ (p : Domain) (q : Field). ints (product (shape_in p q)) (bytes_read (slab_read bytes h (asked_in p q)))) is_domain is_field
    ∙ ap (λ (a : Asked). ints (product a.shape) (bytes_read (slab_read bytes h a))) (sym (asked_is plan d f)))

-- as many numbers as the level has in files
pub size_given : (domain : Domain) (field found : Field) (zs fy fx : ℕ) (vs : List ℤ) → found ≡ field → IsRangedField field
    → zs ≡ found.nz → fy ≡ domain.jde - 1 + one_if found.stag_y → fx ≡ domain.ide - 1 + one_if found.stag_x
    → length vs ≡ product (shape_in domain found) → length vs ≡ zs * (fy * fx)
size_given domain field found zs fy fx vs is ranged z y x size =
    size ∙ size_of_shape domain found (subst (λ (q : Field). IsRangedField q) (sym is) ranged)
    ∙ ap (λ (n : ℕ). n * ((domain.jde - 1 + one_if found.stag_y) * (domain.ide - 1 + one_if found.stag_x))) (sym z)
    ∙ ap (λ (n : ℕ). zs * (n * (domain.ide - 1 + one_if found.stag_x))) (sym y)
    ∙ ap (λ (n : ℕ). zs * (fy * n)) (sym x)

-- one level more
pub one_list_more : {X : Type 0} (f : ℕ → X) (items new : List X) (x : X) (n : ℕ) → items ≡ map f (range_with_len 0 n) → x ≡ f n → new ≡ items ++ x ∷ []
    → new ≡ map f (range_with_len 0 (n + 1))
one_list_more {X} f items new x n so_far is pushed =
    pushed ∙ ap₂ (λ (xs : List X) (y : X). xs ++ y ∷ []) so_far is ∙ sym (map-range_with_len_more f 0 n n (omega arith))
