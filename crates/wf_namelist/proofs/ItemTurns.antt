-- The values of an item, as a loop reads them turn by turn.
use Rattle.std.proofs.Common.{◌≡◌, ℕ, suc, ◌+◌, ◌-◌, ◌<◌, ◌≤◌, Bool, true, false, cond, List, [], ◌∷◌, ◌++◌, Option, Some, None, Result, Ok, Err, refl, sym, ap, ap₂, ◌∙◌, arith}
use Rattle.std.specs.Prelude.{is_some}
use Rattle.wf_model.specs.declared.namelist.Value.{Value}
use Rattle.wf_model.specs.declared.namelist.NamelistFault.{NamelistFault}
use Rattle.wf_model.specs.declared.namelist.NamelistKind.TheVariants.{UnclosedGroup, NullValue}
use Rattle.wf_model.specs.Letters.{Text}
use Rattle.wf_model.specs.Namelist.{Tokens, Found, here, is_comma, is_outside, is_slash, item_name, refuse, rest, some_value, values, values_here}
use Rattle.wf_model.specs.Reading.{◌>>=◌, Fails}
use Rattle.wf_model.proofs.ReadingLemmas.{Fails-along, Fails-chain}
use Rattle.wf_namelist.specs.Turns.{Seen, ends, comma, found, is_behind_value, turn_at, value_or_comma}

-- a chain behind one of two readings
bind_cond : {A B F : Type 0} (b : Bool) (x y : Result A F) (f : A → Result B F) → (cond b x y >>= f) ≡ cond b (x >>= f) (y >>= f)
bind_cond true x y f = refl
bind_cond false x y f = refl

-- the values that follow, after what stands here
abbrev follow : ℕ → List Value → Tokens → Seen → Found (List Value)
follow n vs ts ends = some_value vs ts
follow n vs ts comma = values n vs true (rest ts)
follow n vs ts (found r) = values n (vs ++ r.0) false r.1

-- a comma
comma_turn : (n : ℕ) (vs : List Value) (after_comma : Bool) (ts : Tokens)
    → (cond (is_behind_value vs after_comma) (Ok comma) (refuse ts NullValue) >>= follow n vs ts) ≡ cond after_comma (refuse ts NullValue) (some_value vs ts >>= λ r. values n vs true (rest ts))
comma_turn n [] true ts = refl
comma_turn n [] false ts = refl
comma_turn n (v ∷ vs) true ts = refl
comma_turn n (v ∷ vs) false ts = refl

-- values
found_turn : (n : ℕ) (vs : List Value) (ts : Tokens) (read : Found (List Value)) → (read >>= (λ r. Ok (found r)) >>= follow n vs ts) ≡ (read >>= λ r. values n (vs ++ r.0) false r.1)
found_turn n vs ts (Ok r) = refl
found_turn n vs ts (Err f) = refl

-- what stands behind the values so far, where no name does
plain_turn : (n : ℕ) (vs : List Value) (after_comma : Bool) (ts : Tokens) → (value_or_comma (is_behind_value vs after_comma) ts >>= follow n vs ts)
    ≡ cond (is_comma (here ts).sort) (cond after_comma (refuse ts NullValue) (some_value vs ts >>= λ r. values n vs true (rest ts))) (values_here (here ts).sort ts >>= λ r. values n (vs ++ r.0) false r.1)
plain_turn n vs after_comma ts =
    bind_cond (is_comma (here ts).sort) _ _ (follow n vs ts)
    ∙ ap₂ (cond (is_comma (here ts).sort)) (comma_turn n vs after_comma ts) (found_turn n vs ts (values_here (here ts).sort ts))

named_turn : (n : ℕ) (vs : List Value) (after_comma : Bool) (ts : Tokens) (read : Result (Option Text) NamelistFault)
    → (read >>= (λ name. cond (is_some name) (Ok ends) (value_or_comma (is_behind_value vs after_comma) ts)) >>= follow n vs ts)
    ≡ (read >>= λ name. cond (is_some name) (some_value vs ts)
    (cond (is_comma (here ts).sort) (cond after_comma (refuse ts NullValue) (some_value vs ts >>= λ r. values n vs true (rest ts))) (values_here (here ts).sort ts >>= λ r. values n (vs ++ r.0) false r.1)))
named_turn n vs after_comma ts (Err f) = refl
named_turn n vs after_comma ts (Ok None) = plain_turn n vs after_comma ts
named_turn n vs after_comma ts (Ok (Some name)) = refl

-- one turn and those that follow
turn : (n : ℕ) (vs : List Value) (after_comma : Bool) (ts : Tokens) → values (suc n) vs after_comma ts ≡ (turn_at (is_behind_value vs after_comma) ts >>= follow n vs ts)
unfolding values
turn n vs after_comma ts =
    sym (bind_cond (is_outside (here ts).sort) _ _ (follow n vs ts)
    ∙ ap (cond (is_outside (here ts).sort) (refuse ts UnclosedGroup)) (bind_cond (is_slash (here ts).sort) _ _ (follow n vs ts)
    ∙ ap (cond (is_slash (here ts).sort) (some_value vs ts)) (named_turn n vs after_comma ts (item_name ts))))

-- ---- as the loop stands at a place, with so many turns behind it

left : (most i : ℕ) → i < most → most - i ≡ suc (most - (i + 1))
left most i lt = omega arith

-- what follows what stands here is all
on : (most i : ℕ) (vs : List Value) (after_comma : Bool) (ts : Tokens) (s : Seen) (total : Found (List Value)) → i < most → turn_at (is_behind_value vs after_comma) ts ≡ Ok s
    → values (most - i) vs after_comma ts ≡ total → follow (most - (i + 1)) vs ts s ≡ total
on most i vs after_comma ts s total lt here so_far =
    ap (λ (r : Result Seen NamelistFault). r >>= follow (most - (i + 1)) vs ts) (sym here) ∙ sym (turn (most - (i + 1)) vs after_comma ts) ∙ ap (λ n. values n vs after_comma ts) (sym (left most i lt)) ∙ so_far

pub after_values : (most i : ℕ) (vs more : List Value) (after_comma : Bool) (ts next : Tokens) (total : Found (List Value)) → i < most → turn_at (is_behind_value vs after_comma) ts ≡ Ok (found (more, next))
    → values (most - i) vs after_comma ts ≡ total → values (most - (i + 1)) (vs ++ more) false next ≡ total
after_values most i vs more after_comma ts next total lt here so_far = on most i vs after_comma ts (found (more, next)) total lt here so_far

pub after_a_comma : (most i : ℕ) (vs : List Value) (after_comma : Bool) (ts : Tokens) (total : Found (List Value)) → i < most → turn_at (is_behind_value vs after_comma) ts ≡ Ok comma
    → values (most - i) vs after_comma ts ≡ total → values (most - (i + 1)) vs true (rest ts) ≡ total
after_a_comma most i vs after_comma ts total lt here so_far = on most i vs after_comma ts comma total lt here so_far

pub ended : (most i : ℕ) (vs : List Value) (after_comma : Bool) (ts : Tokens) (total : Found (List Value)) → i < most → turn_at (is_behind_value vs after_comma) ts ≡ Ok ends
    → values (most - i) vs after_comma ts ≡ total → some_value vs ts ≡ total
ended most i vs after_comma ts total lt here so_far = on most i vs after_comma ts ends total lt here so_far

pub fails : (fault : Option NamelistFault) (most i : ℕ) (vs : List Value) (after_comma : Bool) (ts : Tokens) (total : Found (List Value)) → i < most → Fails fault (turn_at (is_behind_value vs after_comma) ts)
    → values (most - i) vs after_comma ts ≡ total → Fails fault total
fails fault most i vs after_comma ts total lt bad so_far =
    Fails-along fault _ total (sym (turn (most - (i + 1)) vs after_comma ts) ∙ ap (λ n. values n vs after_comma ts) (sym (left most i lt)) ∙ so_far)
    (Fails-chain fault (turn_at (is_behind_value vs after_comma) ts) (follow (most - (i + 1)) vs ts) bad)

pub used_up : (most i : ℕ) (vs : List Value) (after_comma : Bool) (ts : Tokens) (total : Found (List Value)) → most ≤ i → values (most - i) vs after_comma ts ≡ total → some_value vs ts ≡ total
unfolding values
used_up most i vs after_comma ts total le so_far =
    let none : most - i ≡ 0 = omega arith in
    ap (λ n. values n vs after_comma ts) (sym none) ∙ so_far
