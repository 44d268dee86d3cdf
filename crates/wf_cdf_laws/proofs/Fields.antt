-- Numbers, names and lists are read again.
use Rattle.std.proofs.Common.{◌≡◌, ℕ, ◌+◌, ◌-◌, ◌%◌, ◌^◌, ◌<◌, cond, List, length, take, drop, replicate, Ok, Err, refl, sym, ap, ◌∙◌, length-append, arith}
use Rattle.std.specs.Slice.Scan.{big_endian}
use Rattle.std.proofs.lemmas.List.{take_at, length-replicate}
use Rattle.std.proofs.lemmas.Bool.{le-leb}
use Rattle.std.proofs.Math.Dec.{leb}
use Rattle.wf_model.specs.declared.cdf_error.CdfError.TheVariants as cdf
use Rattle.wf_model.specs.Bytes.{four_bytes, eight_bytes, padded, name_bytes}
use Rattle.wf_model.specs.CdfRead.{then_read, raw, number, most, count, padded_bytes, name}
use Rattle.wf_model.specs.Sizes.{rounded}
use Rattle.wf_model.specs.SoundHeader.{IsCount}
use Rattle.wf_cdf_laws.proofs.Standing.{ReadsAgain, stands-length, then_again, made_again}

-- bytes as they are
pub raw_again : (text : List ℕ) → ReadsAgain (raw (length text)) text text
raw_again text bytes at rest s =
    ap (λ b. cond b (Ok (take (length text) (drop at bytes), at + length text)) (Err (cdf.Truncated (length bytes))))
    (le-leb (at + length text) (length bytes) (stands-length bytes at text rest s))
    ∙ ap (λ t. Ok (t, at + length text)) (ap (take (length text)) s.parts ∙ take_at text rest (length text) refl)

-- numbers of four and of eight bytes
pub four_big : (n : ℕ) → n < 2 ^ 32 → big_endian 0 (four_bytes n) ≡ n
four_big n h = omega arith

pub number_again : (n : ℕ) → n < 2 ^ 32 → ReadsAgain (number 4) (four_bytes n) n
number_again n h bytes at rest s =
    made_again (raw 4) (big_endian 0) (four_bytes n) (four_bytes n) (raw_again (four_bytes n)) bytes at rest s ∙ ap (λ m. Ok (m, at + 4)) (four_big n h)

eight_big : (n : ℕ) → n < 2 ^ 64 → big_endian 0 (eight_bytes n) ≡ n
eight_big n h = omega arith

pub long_again : (n : ℕ) → n < 2 ^ 64 → ReadsAgain (number 8) (eight_bytes n) n
long_again n h bytes at rest s =
    made_again (raw 8) (big_endian 0) (eight_bytes n) (eight_bytes n) (raw_again (eight_bytes n)) bytes at rest s ∙ ap (λ m. Ok (m, at + 8)) (eight_big n h)

-- a count
pub count_again : (n : ℕ) → IsCount n → ReadsAgain count (four_bytes n) n
count_again n h bytes at rest s =
    ap (λ r. then_read r λ m next. cond (leb m most) (Ok (m, next)) (Err (cdf.Overlong at))) (number_again n (omega arith) bytes at rest s)
    ∙ ap (λ b. cond b (Ok (n, at + 4)) (Err (cdf.Overlong at))) (le-leb n most (omega arith))

-- bytes with their padding
pub padded-length : (text : List ℕ) → length (padded text) ≡ rounded (length text)
padded-length text = omega (arith, length-append text (replicate ((4 - length text % 4) % 4) 0), length-replicate {A = ℕ} ((4 - length text % 4) % 4) 0)

pub padded_again : (text : List ℕ) → ReadsAgain (padded_bytes (length text)) (padded text) text
padded_again text bytes at rest s =
    ap (λ n. then_read (raw n bytes at) λ bs next. Ok (take (length text) bs, next)) (sym (padded-length text))
    ∙ made_again (raw (length (padded text))) (take (length text)) (padded text) (padded text) (raw_again (padded text)) bytes at rest s
    ∙ ap (λ t. Ok (t, at + length (padded text))) (take_at text (replicate ((4 - length text % 4) % 4) 0) (length text) refl)

-- a name
pub name_again : (text : List ℕ) → IsCount (length text) → ReadsAgain name (name_bytes text) text
name_again text h = then_again count (λ n. padded_bytes n) (four_bytes (length text)) (padded text) (length text) text (count_again (length text) h) (padded_again text)
