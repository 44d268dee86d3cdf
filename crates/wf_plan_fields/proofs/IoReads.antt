-- The parts of an IO column, one after another.
use Rattle.std.proofs.Common.{◌≡◌, ◌∙◌, sym, ap, refl, ℕ, zero, suc, List, [], ◌∷◌, ◌++◌, ◌-◌, ◌≤◌, drop, take, get_or, map, length, arith, Some, None, Result, Ok, Err, Bool, true, false, true≢false}
use Rattle.std.specs.Prelude.{◌==◌, ◌||◌}
use Rattle.std.specs.List.{list_any}
use Rattle.std.specs.Result.{result_ok}
use Rattle.std.proofs.Math.Dec.{eqb-suc-zero}
use Rattle.std.proofs.Math.Seq.{take-length}
use Rattle.wf_model.specs.declared.registry.RegistryKind.{RegistryKind}
use Rattle.wf_model.specs.Reading.{◌>>=◌}
use Rattle.wf_model.specs.Letters.{Text}
use Rattle.wf_model.specs.Io.{IoPart, Sized, io_from, io_part, parts_of, streams}
use Rattle.wf_model.proofs.ReadingLemmas.{with_front, with_front-cons, with_front-end}
use Rattle.wf_plan_fields.specs.IoParts.{first_part}

abbrev Read : Type 0
Read = Result (List IoPart) RegistryKind

-- bytes that belong to a part before are passed over
io_from-drop : (k : ℕ) (bs : Text) → io_from k bs ≡ io_from 0 (drop k bs)
unfolding io_from
io_from-drop zero bs = refl
io_from-drop (suc k) [] = refl
io_from-drop (suc k) (b ∷ bs) = io_from-drop k bs

abbrev and_more : IoPart × Text → Read
and_more p = io_from 0 p.1 >>= λ ps. Ok (p.0 ∷ ps)

after_part : (read : Result Sized RegistryKind) (bs : Text) → (read >>= λ p. io_from p.1 bs >>= λ ps. Ok (p.0 ∷ ps)) ≡ (read >>= (λ p. Ok (p.0, drop p.1 bs)) >>= and_more)
after_part (Ok p) bs = ap (λ (r : Read). r >>= λ ps. Ok (p.0 ∷ ps)) (io_from-drop p.1 bs)
after_part (Err k) bs = refl

-- the part at the front, and then the others
io_from-cons : (b : ℕ) (bs : Text) → io_from 0 (b ∷ bs) ≡ (first_part (b ∷ bs) >>= and_more)
unfolding io_from
io_from-cons b bs = after_part (io_part b bs) bs

-- ---- a turn of the loop

more : (front : List IoPart) (read : Result (IoPart × Text) RegistryKind) (p : IoPart × Text) (total : Read) → Some p ≡ result_ok read
    → with_front front (read >>= and_more) ≡ total → with_front (front ++ p.0 ∷ []) (io_from 0 p.1) ≡ total
more front (Ok q) p total is so_far =
    let same : q ≡ p = cc in
    sym (with_front-cons front p.0 (io_from 0 p.1)) ∙ ap (λ q. with_front front (and_more q)) (sym same) ∙ so_far
more front (Err k) p total is so_far = cc

-- one part more is read
pub part_more : (front : List IoPart) (rest : Text) (p : IoPart × Text) (total : Read) → Some p ≡ result_ok (first_part rest)
    → with_front front (io_from 0 rest) ≡ total → with_front (front ++ p.0 ∷ []) (io_from 0 p.1) ≡ total
part_more front [] p total is so_far = cc
part_more front (b ∷ bs) p total is so_far = more front (first_part (b ∷ bs)) p total is (ap (with_front front) (sym (io_from-cons b bs)) ∙ so_far)

no_more : (front : List IoPart) (read : Result (IoPart × Text) RegistryKind) (total : Read) → None ≡ result_ok read
    → with_front front (read >>= and_more) ≡ total → [] ≡ parts_of total
no_more front (Ok q) total is so_far = cc
no_more front (Err k) total is so_far = ap parts_of so_far

-- no part stands at the front of what is left
pub part_none : (front : List IoPart) (rest : Text) (total : Read) → (length rest == 0) ≡ false → None ≡ result_ok (first_part rest)
    → with_front front (io_from 0 rest) ≡ total → [] ≡ parts_of total
part_none front [] total some is so_far = absurd (true≢false some)
part_none front (b ∷ bs) total some is so_far = no_more front (first_part (b ∷ bs)) total is (ap (with_front front) (sym (io_from-cons b bs)) ∙ so_far)

-- nothing is left
pub all_read : (front : List IoPart) (rest : Text) (total : Read) → (length rest == 0) ≡ true
    → with_front front (io_from 0 rest) ≡ total → front ≡ parts_of total
unfolding io_from
all_read front [] total none so_far = ap parts_of (sym (with_front-end front total so_far))
all_read front (b ∷ bs) total none so_far = absurd (true≢false (sym none ∙ eqb-suc-zero (length bs)))

-- ---- the part at the front

abbrev front_of : Sized → Text → IoPart × Text
front_of q rest = (q.0, rest)

seen : (read : Result Sized RegistryKind) (bs : Text) (q : Sized) (rest : Text) → Some q ≡ result_ok read → rest ≡ drop q.1 bs
    → Some (front_of q rest) ≡ result_ok (read >>= λ p. Ok (p.0, drop p.1 bs))
seen (Ok p) bs q rest is behind =
    let same : q ≡ p = cc in
    ap (λ (t : Text). Some (front_of q t)) behind ∙ ap (λ (p : Sized). Some (front_of p (drop p.1 bs))) same
seen (Err k) bs q rest is behind = cc

-- of the bytes of l, the first and those behind it
pub at_front : (l : Text) (q : Sized) (rest : Text) → 1 ≤ length l → Some q ≡ result_ok (io_part (get_or l 0 0) (take (length l - 1) (drop 1 l)))
    → rest ≡ drop q.1 (take (length l - 1) (drop 1 l)) → Some (front_of q rest) ≡ result_ok (first_part l)
at_front [] q rest some is behind = absurd (omega arith)
at_front (b ∷ bs) q rest some is behind =
    let all : take (length (b ∷ bs) - 1) bs ≡ bs = ap (λ n. take n bs) (one_less (length bs)) ∙ take-length bs in
    seen (io_part b bs) bs q rest (is ∙ ap (λ t. result_ok (io_part b t)) all) (behind ∙ ap (drop q.1) all)
  where
    one_less : (n : ℕ) → suc n - 1 ≡ n
    one_less n = omega arith

-- ---- streams

pub streams_some : (digits : Text) → (length digits == 0) ≡ false → map (λ c. c - 48) digits ≡ streams digits
streams_some [] some = absurd (true≢false some)
streams_some (b ∷ bs) some = refl

-- ---- tests of parts

pub any_seen : {A B : Type 0} (test : B → Bool) (view : A → B) (xs : List A) → list_any (λ x. test (view x)) xs ≡ list_any test (map view xs)
any_seen test view [] = refl
any_seen test view (x ∷ xs) = ap (λ r. test (view x) || r) (any_seen test view xs)
