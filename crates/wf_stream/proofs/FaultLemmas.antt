-- A store from which only was read, and faults told along a chain of reads.
use Rattle.std.proofs.Common.{◌≡◌, ◌∙◌, refl, ap, ℕ, ◌≤◌, ◌<◌, Option, Some, None, arith}
use Rattle.wf_io.specs.Files.{Rose, Told}
use Rattle.wf_model.specs.Files.{Files}
use Rattle.wf_model.specs.Letters.{Text}
use Rattle.wf_stream.specs.declared.input.InputError.{InputError}
use Rattle.wf_stream.specs.declared.input.InputError.TheVariants as input
use Rattle.wf_stream.specs.Inputs.{FaultTold}
use Rattle.wf_stream.specs.Starts.{OnlyRead}

told_same : (a : Option Files) → Told a a (λ m n. n ≡ m)
told_same None = tt
told_same (Some m) = refl

told_twice : (a b c : Option Files) → Told a b (λ m n. n ≡ m) → Told b c (λ m n. n ≡ m) → Told a c (λ m n. n ≡ m)
told_twice None None c p q = q
told_twice None (Some n) c p q = absurd p
told_twice (Some m) None c p q = absurd p
told_twice (Some m) (Some n) None p q = q
told_twice (Some m) (Some n) (Some k) p q = q ∙ p

-- nothing was read yet
pub only_first : (a : Option Files) (n : ℕ) → OnlyRead a a n n
only_first a n = record { same = told_same a; later = omega arith }

-- more was read
pub only_then : (a b c : Option Files) (i j k : ℕ) → OnlyRead a b i j → OnlyRead b c j k → OnlyRead a c i k
only_then a b c i j k p q = record { same = told_twice a b c p.same q.same; later = omega (arith, p.later, q.later) }

told_after : (a b : Option Files) → Told a b (λ m n. n ≡ m) → (m : Files) → a ≡ Some m → b ≡ Some m
told_after None b p m e = absurd (cc e)
told_after (Some k) None p m e = absurd p
told_after (Some k) (Some n) p m e = ap (λ (x : Files). Some x) p ∙ e

-- what a store told it still tells
pub told_still : (a b : Option Files) (i j : ℕ) → OnlyRead a b i j → (m : Files) → a ≡ Some m → b ≡ Some m
told_still a b i j p = told_after a b p.same

rose_later : (i j k : ℕ) → i ≤ j → Rose j k → Rose i k
rose_later i j k most rose small = let h : j < k = rose small in omega (arith, h, most)

-- a fault that was told later was told
pub told_later : (e : InputError) (i j k : ℕ) (f : Text) → i ≤ j → FaultTold e j k f → FaultTold e i k f
told_later (input.Fault x) i j k f most told = tt
told_later (input.Store name) i j k f most told = record { rose = rose_later i j k most told.rose; last = told.last }
told_later input.Memory i j k f most told = tt
