-- One run of store calls after another, and runs that a failed call stopped.
use Rattle.std.proofs.Common.{◌≡◌, ◌⊎◌, ℕ, suc, ◌≤◌, List, [], ◌∷◌, ◌++◌, length, take, drop, Option, Some, None, Result, Ok, Err, OnErr, refl, sym, ap, ◌∙◌, subst, arith, length-append, inl, inr}
use Rattle.std.specs.Result.{IsErrOf}
use Rattle.std.proofs.lemmas.List.{take-append-le, drop-append-le}
use Rattle.std.proofs.Math.Seq.{take-length}
use Rattle.wf_model.specs.Files.{Files, StoreCall, after_call, files_after, files_after_all}
use Rattle.wf_model.specs.StoreRuns.{Told, MayLeave, FirstMayLeave, IsPrefix, Ran, Stopped}
use Rattle.wf_model.specs.Failed.{file_of, FirstFails, IsFailed, Failed}

-- ---- what is told

-- two changes one after the other
pub told_then : {X : Type 0} (a b c : Option X) (P Q R : X → X → Type 0) → Told a b P → Told b c Q → ((m n k : X) → P m n → Q n k → R m k) → Told a c R
told_then None None None P Q R p q h = tt
told_then None None (Some k) P Q R p q h = q
told_then None (Some n) c P Q R p q h = absurd p
told_then (Some m) None c P Q R p q h = absurd p
told_then (Some m) (Some n) None P Q R p q h = q
told_then (Some m) (Some n) (Some k) P Q R p q h = h m n k p q

-- a weaker fact of the same change
pub told_weaker : {X : Type 0} (a b : Option X) (P Q : X → X → Type 0) → Told a b P → ((m n : X) → P m n → Q m n) → Told a b Q
told_weaker None None P Q p h = tt
told_weaker None (Some n) P Q p h = p
told_weaker (Some m) None P Q p h = p
told_weaker (Some m) (Some n) P Q p h = h m n p

-- what is told afterwards was told before
pub told_back : {X : Type 0} (a b : Option X) (P : X → X → Type 0) → Told a b P → (n : X) → b ≡ Some n → (m : X) × (a ≡ Some m) × P m n
told_back None None P p n e = absurd (cc e)
told_back None (Some k) P p n e = absurd p
told_back (Some m) None P p n e = absurd p
told_back (Some m) (Some k) P p n e = let same : k ≡ n = cc in (m, refl, subst (P m) same p)

-- ---- prefixes

-- the files after some calls and then others
pub files_after_all-append : (cs ds : List StoreCall) (m : Files) → files_after_all m (cs ++ ds) ≡ files_after_all (files_after_all m cs) ds
files_after_all-append [] ds m = refl
files_after_all-append (c ∷ cs) ds m = files_after_all-append cs ds (after_call m c)

-- nothing was done
pub prefix_none : (cs : List StoreCall) (m n : Files) → n ≡ m → IsPrefix cs m n
unfolding files_after
prefix_none cs m n e = record { done = 0; within = omega arith; left = inl e }

-- all calls were made
pub prefix_whole : (cs : List StoreCall) (m n : Files) → n ≡ files_after_all m cs → IsPrefix cs m n
unfolding files_after
prefix_whole cs m n e = record { done = length cs; within = omega arith; left = inl (e ∙ ap (files_after_all m) (sym (take-length cs))) }

-- the first call failed
pub prefix_first : (c : StoreCall) (cs : List StoreCall) (m n : Files) → MayLeave c m n → IsPrefix (c ∷ cs) m n
unfolding files_after
prefix_first c cs m n l = record { done = 0; within = omega arith; left = inr l }

-- behind a call that was made
pub prefix_more : (c : StoreCall) (cs : List StoreCall) (m n : Files) → IsPrefix cs (after_call m c) n → IsPrefix (c ∷ cs) m n
unfolding files_after
prefix_more c cs m n p = record { done = suc p.done; within = omega (arith, p.within); left = p.left }

-- behind calls that were made
pub prefix_right : (cs ds : List StoreCall) (m n : Files) → IsPrefix ds (files_after_all m cs) n → IsPrefix (cs ++ ds) m n
prefix_right [] ds m n p = p
prefix_right (c ∷ cs) ds m n p = prefix_more c (cs ++ ds) m n (prefix_right cs ds (after_call m c) n p)

-- the first of more calls
first_of_more : (cs ds : List StoreCall) (m n : Files) → FirstMayLeave cs m n → FirstMayLeave (cs ++ ds) m n
first_of_more [] ds m n l = absurd l
first_of_more (c ∷ cs) ds m n l = l

left_more : (cs ds : List StoreCall) (m n : Files) (done : ℕ) → done ≤ length cs → (n ≡ files_after m cs done) ⊎ FirstMayLeave (drop done cs) (files_after m cs done) n
    → (n ≡ files_after m (cs ++ ds) done) ⊎ FirstMayLeave (drop done (cs ++ ds)) (files_after m (cs ++ ds) done) n
unfolding files_after
left_more cs ds m n done h (inl e) = inl (rw take-append-le e)
left_more cs ds m n done h (inr l) = inr (rw (take-append-le, drop-append-le) (first_of_more (drop done cs) ds (files_after_all m (take done cs)) n l))

-- a prefix of the first calls is one of all
pub prefix_left : (cs ds : List StoreCall) (m n : Files) → IsPrefix cs m n → IsPrefix (cs ++ ds) m n
prefix_left cs ds m n p = record { done = p.done; within = omega (arith, p.within, length-append cs ds); left = left_more cs ds m n p.done p.within p.left }

-- ---- runs

-- nothing was to be done
pub ran_none : (a : Option Files) → Ran [] a a
ran_none None = tt
ran_none (Some m) = refl

-- two runs one after the other
pub ran_then : (cs ds : List StoreCall) (a b c : Option Files) → Ran cs a b → Ran ds b c → Ran (cs ++ ds) a c
ran_then cs ds a b c p q = told_then a b c (λ m n. n ≡ files_after_all m cs) (λ m n. n ≡ files_after_all m ds) (λ m n. n ≡ files_after_all m (cs ++ ds)) p q (λ m n k e f. f ∙ ap (λ (x : Files). files_after_all x ds) e ∙ sym (files_after_all-append cs ds m))

-- stopped among the first calls
pub stopped_left : (cs ds : List StoreCall) (a b : Option Files) → Stopped cs a b → Stopped (cs ++ ds) a b
stopped_left cs ds a b p = told_weaker a b (IsPrefix cs) (IsPrefix (cs ++ ds)) p (prefix_left cs ds)

-- stopped behind calls that were made
pub stopped_right : (cs ds : List StoreCall) (a b c : Option Files) → Ran cs a b → Stopped ds b c → Stopped (cs ++ ds) a c
stopped_right cs ds a b c p q = told_then a b c (λ m n. n ≡ files_after_all m cs) (IsPrefix ds) (IsPrefix (cs ++ ds)) p q (λ m n k e f. prefix_right cs ds m k (subst (λ x. IsPrefix ds x k) e f))

-- stopped before the first call
pub stopped_none : (cs : List StoreCall) (a : Option Files) → Stopped cs a a
stopped_none cs None = tt
stopped_none cs (Some m) = prefix_none cs m m refl

-- stopped after the last call
pub stopped_whole : (cs : List StoreCall) (a b : Option Files) → Ran cs a b → Stopped cs a b
stopped_whole cs a b p = told_weaker a b (λ m n. n ≡ files_after_all m cs) (IsPrefix cs) p (prefix_whole cs)

-- stopped by the first call, which failed
pub stopped_one : (c : StoreCall) (cs : List StoreCall) (a b : Option Files) → Told a b (MayLeave c) → Stopped (c ∷ cs) a b
stopped_one c cs a b p = told_weaker a b (MayLeave c) (IsPrefix (c ∷ cs)) p (prefix_first c cs)

-- ---- runs of which a call failed

-- what an error leaves, at that error
pub at_error : {X E : Type 0} {P : Type 0} (r : Result X E) (e : E) → r ≡ Err e → OnErr r P → P
at_error {X} {E} {P} r e is h = subst (λ (x : Result X E). OnErr x P) is h

error_or : {X E : Type 0} → Result X E → E → E
error_or (Ok x) e = e
error_or (Err f) e = f

-- an error is the same one, whatever the value would have been
pub same_error : {X Y E : Type 0} (e f : E) → IsErrOf {T = X} {E = E} (Err e) f → IsErrOf {T = Y} {E = E} (Err e) f
unfolding error_or
same_error {X} {Y} {E} e f p = ap (λ (r : Result X E). Err (error_or r e)) p

-- the first call failed
failed_first : (c : StoreCall) (cs : List StoreCall) (name : List ℕ) (m n : Files) → file_of c ≡ name → MayLeave c m n → IsFailed (c ∷ cs) name m n
unfolding files_after
failed_first c cs name m n on l = record { done = 0; within = omega arith; left = (on, l) }

-- behind a call that was made
failed_more : (c : StoreCall) (cs : List StoreCall) (name : List ℕ) (m n : Files) → IsFailed cs name (after_call m c) n → IsFailed (c ∷ cs) name m n
unfolding files_after
failed_more c cs name m n p = record { done = suc p.done; within = omega (arith, p.within); left = p.left }

-- behind calls that were made
failed_behind : (cs ds : List StoreCall) (name : List ℕ) (m n : Files) → IsFailed ds name (files_after_all m cs) n → IsFailed (cs ++ ds) name m n
failed_behind [] ds name m n p = p
failed_behind (c ∷ cs) ds name m n p = failed_more c (cs ++ ds) name m n (failed_behind cs ds name (after_call m c) n p)

first_fails_of_more : (cs ds : List StoreCall) (name : List ℕ) (m n : Files) → FirstFails name cs m n → FirstFails name (cs ++ ds) m n
first_fails_of_more [] ds name m n l = absurd l
first_fails_of_more (c ∷ cs) ds name m n l = l

fails_more : (cs ds : List StoreCall) (name : List ℕ) (m n : Files) (done : ℕ) → done ≤ length cs → FirstFails name (drop done cs) (files_after m cs done) n
    → FirstFails name (drop done (cs ++ ds)) (files_after m (cs ++ ds) done) n
unfolding files_after
fails_more cs ds name m n done h l = rw (take-append-le, drop-append-le) (first_fails_of_more (drop done cs) ds name (files_after_all m (take done cs)) n l)

-- among the first calls
failed_before : (cs ds : List StoreCall) (name : List ℕ) (m n : Files) → IsFailed cs name m n → IsFailed (cs ++ ds) name m n
failed_before cs ds name m n p = record { done = p.done; within = omega (arith, p.within, length-append cs ds); left = fails_more cs ds name m n p.done (omega (arith, p.within)) p.left }

-- the first call of a run failed
pub failed_one : (c : StoreCall) (cs : List StoreCall) (name : List ℕ) (a b : Option Files) → file_of c ≡ name → Told a b (MayLeave c) → Failed (c ∷ cs) name a b
failed_one c cs name a b on p = told_weaker a b (MayLeave c) (IsFailed (c ∷ cs) name) p (λ m n l. failed_first c cs name m n on l)

-- a call failed among the first ones
pub failed_left : (cs ds : List StoreCall) (name : List ℕ) (a b : Option Files) → Failed cs name a b → Failed (cs ++ ds) name a b
failed_left cs ds name a b p = told_weaker a b (IsFailed cs name) (IsFailed (cs ++ ds) name) p (failed_before cs ds name)

-- a call failed behind calls that were made
pub failed_right : (cs ds : List StoreCall) (name : List ℕ) (a b c : Option Files) → Ran cs a b → Failed ds name b c → Failed (cs ++ ds) name a c
failed_right cs ds name a b c p q = told_then a b c (λ m n. n ≡ files_after_all m cs) (IsFailed ds name) (IsFailed (cs ++ ds) name) p q (λ m n k e f. failed_behind cs ds name m k (subst (λ x. IsFailed ds name x k) e f))
