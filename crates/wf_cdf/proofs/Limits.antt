-- What holds of the sizes of a file that is not too long.
use Rattle.std.proofs.Common.{◌≡◌, ℕ, zero, suc, ◌+◌, ◌*◌, ◌^◌, ◌<◌, ◌≤◌, max, true, false, cond, eqb, List, ◌++◌, length, take, drop, arith, ap, ◌∙◌}
use Rattle.std.proofs.lemmas.List.{drop_all, append-nil, take_all}
use Rattle.wf_model.specs.declared.header.Header.{Header}
use Rattle.wf_model.specs.Bytes.{header_bytes}
use Rattle.wf_model.specs.Sizes.{fixed_size, record_vars, record_size, file_size, most_bytes}
use Rattle.wf_model.specs.Headers.{placed}
use Rattle.wf_model.specs.SoundHeader.{BeginsFit}
use Rattle.wf_cdf.specs.Capped.{capped}
use Rattle.wf_cdf.proofs.CappedSums.{capped_small}
use Rattle.wf_cdf.proofs.Sizes.{padded_slabs_le}
use Rattle.wf_cdf.proofs.Placed.{moving_of, BeginsFit_placed}

-- each version's limit is at most 2 to the 40
pub most_bytes_small : (version : ℕ) → most_bytes version ≤ 2 ^ 40
most_bytes_small version = elim (eqb version 1) as (λ b. cond b 2147483644 1099511627776 ≤ 2 ^ 40) [ true ↦ omega arith | false ↦ omega arith ]

-- a capped size is above the limit exactly where the size is
pub above_limit : (version n bytes : ℕ) → bytes ≡ capped n → most_bytes version < bytes → most_bytes version < n
unfolding capped
above_limit version n bytes e h = omega arith

within_limit : (version n bytes : ℕ) → bytes ≡ capped n → bytes ≤ most_bytes version → n ≤ most_bytes version
unfolding capped
within_limit version n bytes e h = omega (arith, most_bytes_small version)

at_least : (k n : ℕ) → 1 ≤ k → n ≤ k * n
at_least zero n h = omega arith
at_least (suc k) n h = omega arith

-- the header and all variables of one record are within a file, but for three bytes of padding
pub one_record_le : (h : Header) (records : ℕ) →
    length (header_bytes h) + fixed_size h + moving_of h.dims h.vars ≤ file_size h records + 3
one_record_le h records =
    let one : record_size h ≤ max 1 records * record_size h = at_least (max 1 records) (record_size h) (omega arith) in
    omega (arith, padded_slabs_le h.dims (record_vars h))

-- the parts of a file that is not too long are exact
capped_within : (h : Header) (records n m : ℕ) → m ≡ capped n → n ≤ file_size h records → file_size h records ≤ most_bytes h.version → m ≡ n
capped_within h records n m e part small = e ∙ capped_small n (omega (arith, most_bytes_small h.version))

header_within : (h : Header) (records : ℕ) → length (header_bytes h) ≤ file_size h records
header_within h records = omega arith

fixed_within : (h : Header) (records : ℕ) → length (header_bytes h) + fixed_size h ≤ file_size h records
fixed_within h records = omega arith

-- so the begins of a file that is not too long fit its version
pub BeginsFit_within_limit : (h : Header) (records : ℕ) → file_size h records ≤ most_bytes h.version → BeginsFit (placed h)
BeginsFit_within_limit h records small =
    BeginsFit_placed h (λ e.
    let limit : most_bytes h.version ≡ 2147483644 = ap most_bytes e in
    omega (arith, one_record_le h records))

-- what a loan of all items leaves, of the same length
pub with_items_all : {A : Type 0} (xs ys : List A) → length ys ≡ length xs → take (length xs) (ys ++ drop (length ys) xs) ≡ ys
with_items_all xs ys e =
    ap (λ zs. take (length xs) (ys ++ zs)) (drop_all (length ys) xs (omega arith)) ∙ ap (take (length xs)) (append-nil ys)
    ∙ take_all (length xs) ys (omega arith)

-- the sizes of a file that is not too long, as they are counted
pub record AreExact (h : Header) (records before standing : ℕ) : Type 0 where
  pub header : before ≡ length (header_bytes h)
  pub fixed : standing ≡ fixed_size h
  pub small : file_size h records ≤ most_bytes h.version
  pub end : length (header_bytes h) + fixed_size h + moving_of h.dims h.vars ≤ 2 ^ 40 + 3

pub are_exact : (h : Header) (records bytes limit header fixed : ℕ) → bytes ≡ capped (file_size h records) → limit ≡ most_bytes h.version →
    bytes ≤ limit → header ≡ capped (length (header_bytes h)) → fixed ≡ capped (fixed_size h) → AreExact h records header fixed
are_exact h records bytes limit header fixed b l below e f =
    let small : file_size h records ≤ most_bytes h.version = within_limit h.version (file_size h records) bytes b (omega arith) in
    record {
      header = capped_within h records (length (header_bytes h)) header e (header_within h records) small;
      fixed = capped_within h records (fixed_size h) fixed f (let part = fixed_within h records in omega arith) small;
      small = small;
      end = omega (arith, one_record_le h records, most_bytes_small h.version);
    }
