-- A scan, as a loop does it byte by byte.
use Rattle.std.proofs.Common.{◌≡◌, ℕ, zero, suc, ◌+◌, ◌<◌, ◌≤◌, Bool, true, false, cond, List, [], ◌∷◌, ◌++◌, length, get_or, drop, refl, sym, ap, ◌∙◌, add-one, drop-cons, drop-drop, append_assoc, arith}
use Rattle.std.proofs.lemmas.List.{append-nil}
use Rattle.std.proofs.Math.ListN.{drop_of_length-le}
use Rattle.std.specs.Prelude.{◌==◌}
use Rattle.wf_model.specs.declared.namelist.NamelistToken.{NamelistToken}
use Rattle.wf_model.specs.Letters.{Text}
use Rattle.wf_model.specs.Lines.{is_blank}
use Rattle.wf_model.specs.NamelistTokens.{Where, line_begins, passing, in_group, in_comment, Scanned, is_gap, scan, token}
use Rattle.wf_namelist.specs.Scanning.{Turn, line_ends, passes, begins, turn_at, apart_at}

-- the tokens from a byte on, after what it is
abbrev pub go_on : Where → ℕ → Bool → Text → Turn → List NamelistToken
go_on place line apart bs (line_ends next) = scan next (line + 1) true 0 bs
go_on place line apart bs (passes next) = scan next line true 0 bs
go_on place line apart bs (begins t) = token t.sort line (apart_at place apart) ∷ scan t.next line false t.size bs

-- one of two turns
either : (place : Where) (line : ℕ) (apart : Bool) (bs : Text) (b : Bool) (x y : Turn) → go_on place line apart bs (cond b x y) ≡ cond b (go_on place line apart bs x) (go_on place line apart bs y)
either place line apart bs true x y = refl
either place line apart bs false x y = refl

otherwise : {A : Type 0} (b : Bool) (x y z : A) → y ≡ z → cond b x y ≡ cond b x z
otherwise b x y z e = ap (cond b x) e

-- a byte that belongs to no token before
pub turn : (place : Where) (line : ℕ) (apart : Bool) (b : ℕ) (bs : Text) → scan place line apart 0 (b ∷ bs) ≡ go_on place line apart bs (turn_at place b bs)
unfolding scan
turn line_begins line apart b bs =
    let go = go_on line_begins line apart bs in
    sym (either line_begins line apart bs (b == 10) _ _
    ∙ otherwise (b == 10) _ _ _ (either line_begins line apart bs (is_blank b) _ _
    ∙ otherwise (is_blank b) _ _ _ (either line_begins line apart bs (b == 38) _ _)))
turn passing line apart b bs = sym (either passing line apart bs (b == 10) _ _)
turn in_comment line apart b bs = sym (either in_comment line apart bs (b == 10) _ _)
turn in_group line apart b bs =
    sym (either in_group line apart bs (b == 10) _ _
    ∙ otherwise (b == 10) _ _ _ (either in_group line apart bs (is_gap b bs) _ _
    ∙ otherwise (is_gap b bs) _ _ _ (either in_group line apart bs (b == 33) _ _)))

-- passing over the bytes of a token
passed : (place : Where) (line : ℕ) (apart : Bool) (n : ℕ) (bs : Text) → scan place line apart n bs ≡ scan place line apart 0 (drop n bs)
unfolding scan
passed place line apart zero bs = refl
passed place line apart (suc n) [] = refl
passed place line apart (suc n) (b ∷ bs) = passed place line apart n bs

-- the byte at a place, and those after it
here : (at : ℕ) (l : Text) → at < length l → drop at l ≡ get_or l at 0 ∷ drop (at + 1) l
here at l h = rw (add-one, drop-cons l at 0) refl

-- ---- as the loop stands at a place

-- what is read from a place on
at_place : (place : Where) (line : ℕ) (apart : Bool) (b at : ℕ) (l : Text) (t : Turn) → at < length l → b ≡ get_or l at 0 → turn_at place b (drop (at + 1) l) ≡ t
    → scan place line apart 0 (drop at l) ≡ go_on place line apart (drop (at + 1) l) t
at_place place line apart b at l t lt is found =
    ap (scan place line apart 0) (here at l lt ∙ ap (λ (x : ℕ). x ∷ drop (at + 1) l) (sym is)) ∙ turn place line apart b (drop (at + 1) l) ∙ ap (go_on place line apart (drop (at + 1) l)) found

pub line_ended : (front : List NamelistToken) (place next : Where) (line : ℕ) (apart : Bool) (b at : ℕ) (l : Text) (total : List NamelistToken)
    → at < length l → b ≡ get_or l at 0 → turn_at place b (drop (at + 1) l) ≡ line_ends next
    → front ++ scan place line apart 0 (drop at l) ≡ total → front ++ scan next (line + 1) true 0 (drop (at + 1) l) ≡ total
line_ended front place next line apart b at l total lt is found so_far =
    ap (λ (ts : List NamelistToken). front ++ ts) (sym (at_place place line apart b at l (line_ends next) lt is found)) ∙ so_far

pub passed_over : (front : List NamelistToken) (place next : Where) (line : ℕ) (apart : Bool) (b at : ℕ) (l : Text) (total : List NamelistToken)
    → at < length l → b ≡ get_or l at 0 → turn_at place b (drop (at + 1) l) ≡ passes next
    → front ++ scan place line apart 0 (drop at l) ≡ total → front ++ scan next line true 0 (drop (at + 1) l) ≡ total
passed_over front place next line apart b at l total lt is found so_far =
    ap (λ (ts : List NamelistToken). front ++ ts) (sym (at_place place line apart b at l (passes next) lt is found)) ∙ so_far

pub begun : (front : List NamelistToken) (place : Where) (line : ℕ) (apart : Bool) (b at : ℕ) (l : Text) (t : Scanned) (total : List NamelistToken)
    → at < length l → b ≡ get_or l at 0 → turn_at place b (drop (at + 1) l) ≡ begins t
    → front ++ scan place line apart 0 (drop at l) ≡ total → (front ++ token t.sort line (apart_at place apart) ∷ []) ++ scan t.next line false 0 (drop (at + (t.size + 1)) l) ≡ total
begun front place line apart b at l t total lt is found so_far =
    let place_after : at + 1 + t.size ≡ at + (t.size + 1) = omega arith in
    append_assoc front (token t.sort line (apart_at place apart) ∷ []) (scan t.next line false 0 (drop (at + (t.size + 1)) l))
    ∙ ap (λ (ts : List NamelistToken). front ++ token t.sort line (apart_at place apart) ∷ ts) (sym (passed t.next line false t.size (drop (at + 1) l) ∙ ap (scan t.next line false 0) (drop-drop t.size (at + 1) l ∙ ap (λ k. drop k l) place_after)))
    ∙ ap (λ (ts : List NamelistToken). front ++ ts) (sym (at_place place line apart b at l (begins t) lt is found)) ∙ so_far

pub scanned_all : (front : List NamelistToken) (place : Where) (line : ℕ) (apart : Bool) (at : ℕ) (l : Text) (total : List NamelistToken) → length l ≤ at
    → front ++ scan place line apart 0 (drop at l) ≡ total → front ≡ total
unfolding scan
scanned_all front place line apart at l total le so_far =
    let nothing : scan place line apart 0 [] ≡ [] = refl in
    sym (append-nil front) ∙ ap (λ (ts : List NamelistToken). front ++ ts) (sym (ap (scan place line apart 0) (drop_of_length-le l le) ∙ nothing)) ∙ so_far
