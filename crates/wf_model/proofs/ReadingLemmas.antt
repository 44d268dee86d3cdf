-- Reading step by step: a fault ends a chain, and a loop keeps in front what it has read.
use Rattle.std.proofs.Common.{◌≡◌, ◌∙◌, sym, ap, refl, List, [], ◌∷◌, ◌++◌, Option, Some, None, Result, Ok, Err, append_assoc}
use Rattle.std.proofs.lemmas.List.{append-nil}
use Rattle.std.specs.Option.{option_or}
use Rattle.wf_model.specs.Reading.{◌>>=◌, Fails, Gives, each, first_fault}

-- ---- chains

-- what was read is one value
pub ok_is : {A F : Type 0} (x y : A) → (let read : Result A F = Ok x in read) ≡ Ok y → x ≡ y
ok_is x y e = cc

-- a chain in a chain
pub chain_assoc : {A B C F : Type 0} (read : Result A F) (f : A → Result B F) (g : B → Result C F) → (read >>= f >>= g) ≡ (read >>= λ x. f x >>= g)
chain_assoc (Ok x) f g = refl
chain_assoc (Err e) f g = refl

-- a chain that ends with what it has read
pub chain_end : {A F : Type 0} (read : Result A F) → (read >>= λ x. Ok x) ≡ read
chain_end (Ok x) = refl
chain_end (Err e) = refl

-- the fault of the first part is that of the chain
pub Fails-chain : {A B F : Type 0} (fault : Option F) (read : Result A F) (next : A → Result B F) → Fails fault read → Fails fault (read >>= next)
Fails-chain None read next fails = tt
Fails-chain (Some f) read next fails = ap (λ (r : Result _ _). r >>= next) fails

-- the fault of a reading is that of an equal one
pub Fails-along : {A F : Type 0} (fault : Option F) (read other : Result A F) → read ≡ other → Fails fault read → Fails fault other
Fails-along None read other same fails = tt
Fails-along (Some f) read other same fails = sym same ∙ fails

-- ---- loops: what was read before, and what is still read

abbrev pub with_front : {A F : Type 0} → List A → Result (List A) F → Result (List A) F
with_front front read = read >>= λ xs. Ok (front ++ xs)

-- nothing is read yet
pub with_front-nil : {A F : Type 0} (read : Result (List A) F) → with_front [] read ≡ read
with_front-nil (Ok xs) = refl
with_front-nil (Err f) = refl

-- one item more is read
pub with_front-cons : {A F : Type 0} (front : List A) (x : A) (read : Result (List A) F)
    → with_front front (read >>= λ xs. Ok (x ∷ xs)) ≡ with_front (front ++ x ∷ []) read
with_front-cons front x (Ok xs) = ap (λ (ys : List _). Ok ys) (sym (append_assoc front (x ∷ []) xs))
with_front-cons front x (Err f) = refl

-- the last item was read
pub with_front-end : {A F : Type 0} (front : List A) (total : Result (List A) F) → with_front front (Ok []) ≡ total → total ≡ Ok front
with_front-end front total so_far = sym so_far ∙ ap (λ (xs : List _). Ok xs) (append-nil front)

-- a fault is met
pub Fails-front : {A F : Type 0} (fault : Option F) (front : List A) (read total : Result (List A) F) → with_front front read ≡ total → Fails fault read → Fails fault total
Fails-front fault front read total so_far fails = Fails-along fault (with_front front read) total so_far (Fails-chain fault read (λ xs. Ok (front ++ xs)) fails)

-- the next of some items is read
pub each-step : {A B F : Type 0} (read : A → Result B F) (front : List B) (x : A) (xs : List A) (y : B) (total : Result (List B) F)
    → read x ≡ Ok y → with_front front (each read (x ∷ xs)) ≡ total → with_front (front ++ y ∷ []) (each read xs) ≡ total
each-step read front x xs y total here so_far =
    sym (with_front-cons front y (each read xs)) ∙ ap (λ (r : Result _ _). with_front front (r >>= λ y. each read xs >>= λ ys. Ok (y ∷ ys))) (sym here) ∙ so_far

-- the next of some items has a fault
pub Fails-each : {A B F : Type 0} (fault : Option F) (read : A → Result B F) (front : List B) (x : A) (xs : List A) (total : Result (List B) F)
    → Fails fault (read x) → with_front front (each read (x ∷ xs)) ≡ total → Fails fault total
Fails-each fault read front x xs total fails so_far =
    Fails-front fault front (each read (x ∷ xs)) total so_far (Fails-chain fault (read x) (λ y. each read xs >>= λ ys. Ok (y ∷ ys)) fails)

-- ---- what a call promises

-- a call that gives a reading gives an equal one
pub Gives-along : {X Y E F : Type 0} (view : X → Y) (seen : E → Option F) (result : Result X E) (read other : Result Y F)
    → read ≡ other → Gives view seen result read → Gives view seen result other
Gives-along view seen (Ok x) read other same gives = sym same ∙ gives
Gives-along view seen (Err e) read other same gives = Fails-along (seen e) read other same gives

-- a call that gives what follows gives the chain, where its first part is read
pub Gives-chain : {X Y Z E F : Type 0} (view : X → Y) (seen : E → Option F) (result : Result X E) (read : Result Z F) (z : Z) (next : Z → Result Y F)
    → read ≡ Ok z → Gives view seen result (next z) → Gives view seen result (read >>= next)
Gives-chain view seen result read z next here gives = Gives-along view seen result (next z) (read >>= next) (ap (λ (r : Result _ _). r >>= next) (sym here)) gives

-- ---- tests

-- the first fault of some tests and more
pub first_fault-append : {F : Type 0} (xs ys : List (Option F)) → first_fault (xs ++ ys) ≡ option_or (first_fault xs) (first_fault ys)
first_fault-append [] ys = refl
first_fault-append (None ∷ xs) ys = first_fault-append xs ys
first_fault-append (Some f ∷ xs) ys = refl
