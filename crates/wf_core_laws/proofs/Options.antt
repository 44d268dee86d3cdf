-- Whether there is something, and what a choice gives.
use Rattle.std.proofs.Common.{◌≡◌, true, false, not, Option, Some, None, refl, ap}
use Rattle.std.specs.Prelude.{is_some, is_none, option_map}
use Rattle.std.specs.Option.{option_or}

-- nothing is there where the test of nothing holds
pub none_none : {A : Type 0} (o : Option A) → is_none o ≡ true → o ≡ None
none_none None h = refl
none_none (Some x) h = absurd (cc (h))

-- nothing is there where the test of something is denied
pub none_if : {A : Type 0} (o : Option A) → not (is_some o) ≡ true → o ≡ None
none_if None h = refl
none_if (Some x) h = absurd (cc (h))

-- where nothing is there the test of something fails
pub none_some : {A : Type 0} (o : Option A) → o ≡ None → is_some o ≡ false
none_some o h = rw h refl

-- where the test of nothing holds that of something fails
pub some_none : {A : Type 0} (o : Option A) → is_none o ≡ true → is_some o ≡ false
some_none None h = refl
some_none (Some x) h = absurd (cc (h))

-- where the test of nothing is denied that of something holds
pub some_some : {A : Type 0} (o : Option A) → not (is_none o) ≡ true → is_some o ≡ true
some_some None h = absurd (cc (h))
some_some (Some x) h = refl

-- the two tests do not both hold
pub some_and_none : {A : Type 0} (o : Option A) → is_some o ≡ true → is_none o ≡ true → ⊥
some_and_none None h k = cc (h)
some_and_none (Some x) h k = cc (k)

-- what a mapped choice shows is there
pub mapped_some : {A B : Type 0} (f : A → B) (o : Option A) (b : B) → option_map f o ≡ Some b → (a : A) × (o ≡ Some a)
mapped_some f None b h = absurd (cc (h))
mapped_some f (Some a) b h = (a, refl)

-- the first of two choices, where the second has nothing
pub or_none : {X : Type 0} (o p : Option X) → p ≡ None → option_or o p ≡ o
or_none None p e = e
or_none (Some x) p e = refl

-- the second, where the first has nothing
pub none_or : {X : Type 0} (o p : Option X) → o ≡ None → option_or o p ≡ p
none_or o p e = ap (λ (x : Option _). option_or x p) e
