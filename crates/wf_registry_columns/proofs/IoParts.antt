-- The parts of the IO column, one after another.
use Rattle.std.proofs.Common.{◌≡◌, ◌∙◌, sym, ap, ap₂, refl, ℕ, zero, suc, ◌+◌, ◌-◌, ◌≤◌, get_or, true≢false, Bool, true, false, [], ◌∷◌, drop, take, length, Some, None, Result, Ok, Err, arith, subst}
use Rattle.std.specs.Prelude.{◌==◌, ◌||◌, ◌&&◌, not, if◌then◌else◌, nat_lt}
use Rattle.std.specs.List.{before_first, prefix_len, take_while}
use Rattle.std.specs.Char.{is_ascii_digit}
use Rattle.std.proofs.lemmas.Bool.{eqb-true}
use Rattle.std.proofs.Math.Dec.{eqb-suc-zero}
use Rattle.std.proofs.Math.Seq.{take-length}
use Rattle.std.proofs.lemmas.Bool.Decides.{nat_tests}
use Rattle.wf_model.specs.declared.registry.RegistryKind.{RegistryKind}
use Rattle.wf_model.specs.declared.registry.RegistryKind.TheVariants.{Columns, Unsupported}
use Rattle.wf_model.specs.Reading.{◌>>=◌}
use Rattle.wf_model.specs.Letters.{Text, lower, is_name, is_dash}
use Rattle.wf_model.specs.ValueForms.{has}
use Rattle.wf_model.specs.Io.{IoPart, Sized, fed, input, output, restarted, smoothed, streams_part, io_from, io_of, io_part, letter_part, function_part, is_closing, is_colon}
use Rattle.wf_model.specs.Judging.{fault_of_result}
use Rattle.wf_registry_columns.specs.IoLengths.{function_len, letter_len, part_len}

-- bytes that belong to a part before are passed over
io_from-drop : (k : ℕ) (bs : Text) → io_from k bs ≡ io_from 0 (drop k bs)
unfolding io_from
io_from-drop zero bs = refl
io_from-drop (suc k) [] = refl
io_from-drop (suc k) (b ∷ bs) = io_from-drop k bs

-- ---- how many bytes a part has

abbrev pub len_of : Result Sized RegistryKind → Result ℕ RegistryKind
len_of (Ok p) = Ok p.1
len_of (Err k) = Err k

len_of-if : (t : Bool) (x y : Result Sized RegistryKind) → len_of (if t then x else y) ≡ (if t then len_of x else len_of y)
len_of-if true x y = refl
len_of-if false x y = refl

-- a `(` is no `)`
before_closing : (bs : Text) → before_first is_closing (40 ∷ bs) ≡ 40 ∷ before_first is_closing bs
before_closing bs = ap (λ k. take k (40 ∷ bs)) (one_more (prefix_len (λ b. not (is_closing b)) bs))
  where
    one_more : (n : ℕ) → 1 + n ≡ suc n
    one_more n = omega arith

lt-suc : (m n : ℕ) → nat_lt (suc m) (suc n) ≡ nat_lt m n
lt-suc m n = grind (arith, nat_tests)

has_closing : (bs : Text) → has is_closing (40 ∷ bs) ≡ has is_closing bs
has_closing bs = ap (λ (t : Text). nat_lt (length t) (suc (length bs))) (before_closing bs) ∙ lt-suc (length (before_first is_closing bs)) (length bs)

two_more : (bs : Text) → length (before_first is_closing (40 ∷ bs)) + 2 ≡ length (before_first is_closing bs) + 3
two_more bs = ap (λ (t : Text). length t + 2) (before_closing bs) ∙ sum (length (before_first is_closing bs))
  where
    sum : (n : ℕ) → suc n + 2 ≡ n + 3
    sum n = omega arith

function_part-len : (letter : ℕ) (bs : Text) → len_of (function_part letter bs) ≡ function_len bs
function_part-len letter [] = refl
function_part-len letter (b ∷ bs) = by (b == 40) refl
  where
    len-if : (t : Bool) (x : IoPart) (m n : ℕ) → m ≡ n → len_of (if t then Ok (x, m) else Err Columns) ≡ (let r : Result ℕ RegistryKind = if t then Ok n else Err Columns in r)
    len-if true x m n e = ap (λ (k : ℕ). Ok k) e
    len-if false x m n e = refl

    opened : len_of (function_part letter (40 ∷ bs)) ≡ function_len (40 ∷ bs)
    opened =
        len_of-if _ _ _
        ∙ ap₂ (λ (s : Bool) (n : ℕ). let r : Result ℕ RegistryKind = if s && is_name (before_first is_colon (before_first is_closing bs)) then Ok n else Err Columns in r) (has_closing bs) (two_more bs)

    by : (t : Bool) → (b == 40) ≡ t → len_of (function_part letter (b ∷ bs)) ≡ function_len (b ∷ bs)
    by false e =
        ap (λ (s : Bool). len_of (if s && has is_closing (b ∷ bs) && is_name (before_first is_colon (before_first is_closing bs)) then Ok (fed letter (Some (lower (before_first is_colon (before_first is_closing bs)))), length (before_first is_closing (b ∷ bs)) + 2) else Err Columns)) e
        ∙ sym (ap (λ (s : Bool). let r : Result ℕ RegistryKind = if s && has is_closing bs && is_name (before_first is_colon (before_first is_closing bs)) then Ok (length (before_first is_closing bs) + 3) else Err Columns in r) e)
    by true e = subst (λ x. len_of (function_part letter (x ∷ bs)) ≡ function_len (x ∷ bs)) (sym (eqb-true b 40 e)) opened

letter_part-len : (letter : ℕ) (bs : Text) → len_of (letter_part letter bs) ≡ letter_len bs
letter_part-len letter [] = refl
letter_part-len letter (b ∷ bs) = len_of-if (b == 61) (function_part letter bs) (Ok (fed letter None, 0))
    ∙ ap (λ (r : Result ℕ RegistryKind). if b == 61 then r else Ok 0) (function_part-len letter bs)

-- the parts by their tests
parts-len : (i h r s f : Bool) (u v w x p q : Result Sized RegistryKind) (m k n o : Result ℕ RegistryKind)
    → len_of u ≡ m → len_of v ≡ m → len_of w ≡ k → len_of x ≡ k → len_of p ≡ n → len_of q ≡ o
    → len_of (if i then u else (if h then v else (if r then w else (if s then x else (if f then p else q)))))
    ≡ (if i || h then m else (if r || s then k else (if f then n else o)))
parts-len true h r s f u v w x p q m k n o a b c d e g = a
parts-len false true r s f u v w x p q m k n o a b c d e g = b
parts-len false false true s f u v w x p q m k n o a b c d e g = c
parts-len false false false true f u v w x p q m k n o a b c d e g = d
parts-len false false false false true u v w x p q m k n o a b c d e g = e
parts-len false false false false false u v w x p q m k n o a b c d e g = g

io_part-len : (b : ℕ) (bs : Text) → len_of (io_part b bs) ≡ part_len b bs
io_part-len b bs =
    parts-len (b == 105) (b == 104) (b == 114) (b == 115) ((b == 117) || (b == 100) || (b == 102))
    (streams_part input (take_while is_ascii_digit bs)) (streams_part output (take_while is_ascii_digit bs)) (Ok (restarted, 0)) (Ok (smoothed, 0)) (letter_part b bs) (if b == 123 then Err Unsupported else Err Columns)
    (Ok (length (take_while is_ascii_digit bs))) (Ok 0) (letter_len bs) (if b == 123 then Err Unsupported else Err Columns)
    refl refl refl refl (letter_part-len b bs) (len_of-if (b == 123) (Err Unsupported) (Err Columns))

-- ---- a part and what follows

told : {A B : Type 0} (read : Result A RegistryKind) (f : A → B) → fault_of_result (read >>= λ x. Ok (f x)) ≡ fault_of_result read
told (Ok x) f = refl
told (Err k) f = refl

after_part : (read : Result Sized RegistryKind) (bs : Text) (n : ℕ) → len_of read ≡ Ok n
    → fault_of_result (read >>= λ p. io_from p.1 bs >>= λ ps. Ok (p.0 ∷ ps)) ≡ fault_of_result (io_from 0 (drop n bs))
after_part (Ok p) bs n e =
    let len : p.1 ≡ n = cc in
    told (io_from p.1 bs) (λ ps. p.0 ∷ ps) ∙ ap (λ (r : Result _ RegistryKind). fault_of_result r) (io_from-drop p.1 bs) ∙ ap (λ k. fault_of_result (io_from 0 (drop k bs))) len
after_part (Err k) bs n e = cc

wrong_part : (read : Result Sized RegistryKind) (bs : Text) (k : RegistryKind) → len_of read ≡ Err k
    → fault_of_result (read >>= λ p. io_from p.1 bs >>= λ ps. Ok (p.0 ∷ ps)) ≡ Some k
wrong_part (Ok p) bs k e = cc
wrong_part (Err l) bs k e = let same : l ≡ k = cc in ap (λ (x : RegistryKind). Some x) same

-- a part was read
pub part_read : (b : ℕ) (bs : Text) (n : ℕ) → part_len b bs ≡ Ok n → fault_of_result (io_from 0 (b ∷ bs)) ≡ fault_of_result (io_from 0 (drop n bs))
unfolding io_from
part_read b bs n e = after_part (io_part b bs) bs n (io_part-len b bs ∙ e)

-- a part is wrong
pub part_wrong : (b : ℕ) (bs : Text) (k : RegistryKind) → part_len b bs ≡ Err k → fault_of_result (io_from 0 (b ∷ bs)) ≡ Some k
unfolding io_from
part_wrong b bs k e = wrong_part (io_part b bs) bs k (io_part-len b bs ∙ e)

-- nothing is left
pub no_part : fault_of_result (io_from 0 []) ≡ None
unfolding io_from
no_part = refl

-- ---- a turn of the loop

-- the first byte and the bytes behind it
parted : (l : Text) → 1 ≤ length l → l ≡ get_or l 0 0 ∷ take (length l - 1) (drop 1 l)
parted [] some = absurd (omega arith)
parted (b ∷ bs) some = ap (λ (t : Text). b ∷ t) (sym (ap (λ n. take n bs) (one_less (length bs)) ∙ take-length bs))
  where
    one_less : (n : ℕ) → suc n - 1 ≡ n
    one_less n = omega arith

pub behind_read : (l rest : Text) (n : ℕ) → 1 ≤ length l → part_len (get_or l 0 0) (take (length l - 1) (drop 1 l)) ≡ Ok n → rest ≡ drop n (take (length l - 1) (drop 1 l))
    → fault_of_result (io_from 0 rest) ≡ fault_of_result (io_from 0 l)
behind_read l rest n some len behind =
    ap (λ t. fault_of_result (io_from 0 t)) behind
    ∙ sym (part_read (get_or l 0 0) (take (length l - 1) (drop 1 l)) n len)
    ∙ ap (λ t. fault_of_result (io_from 0 t)) (sym (parted l some))

pub behind_wrong : (l : Text) (k : RegistryKind) → 1 ≤ length l → part_len (get_or l 0 0) (take (length l - 1) (drop 1 l)) ≡ Err k → fault_of_result (io_from 0 l) ≡ Some k
behind_wrong l k some len =
    ap (λ t. fault_of_result (io_from 0 t)) (parted l some) ∙ part_wrong (get_or l 0 0) (take (length l - 1) (drop 1 l)) k len

pub all_read : (rest word : Text) → (length rest == 0) ≡ true → fault_of_result (io_from 0 rest) ≡ fault_of_result (io_from 0 word) → is_dash word ≡ false
    → None ≡ fault_of_result (io_of word)
all_read [] word none same bare = sym no_part ∙ same ∙ ap (λ (t : Bool). fault_of_result (if t then Ok [] else io_from 0 word)) (sym bare)
all_read (b ∷ bs) word none same bare = absurd (true≢false (sym none ∙ eqb-suc-zero (length bs)))
