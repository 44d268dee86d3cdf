-- Look-ups of the least stop: the first of a list of which there is something, and the domain of what overflows.
use Rattle.std.proofs.Common.{◌≡◌, inl, inr, ℕ, zero, suc, ◌+◌, ◌<◌, ◌≤◌, ◌==◌, ◌||◌, cond, Bool, List, [], ◌∷◌, Option, Some, None, refl, ap, sym, ◌∙◌, arith}
use Rattle.std.specs.Prelude.{find}
use Rattle.std.specs.Option.{option_or}
use Rattle.std.specs.List.{list_any, range_with_len}
use Rattle.wf_model.specs.declared.plan.Item.{Item}
use Rattle.wf_model.specs.declared.plan.Item.TheVariants as item
use Rattle.wf_model.specs.declared.script.Act.{Act}
use Rattle.wf_model.specs.declared.script.Act.TheVariants.{Start, Force, Feedback, Table, Emit}
use Rattle.wf_model.specs.declared.script.Entry.{Entry}
use Rattle.wf_model.specs.Plans.{item_of}
use Rattle.wf_model.specs.Grids.{Grids}
use Rattle.wf_model.specs.Changes.{Spot, spots, nothing, overflows_at, overflow_in, table_change}
use Rattle.wf_model.specs.Outcome.{RunData, entry_at, grids_at, act_change, change_of}
use Rattle.wf_model.specs.Exchange.{receiver_of}
use Rattle.wf_model.specs.LeastStop.{domain_at, first_some}
use Rattle.wf_laws.specs.Stops.{change_at}
use Rattle.wf_laws.proofs.Bools.{or_right}
use Rattle.wf_laws.proofs.Members.{find-None}
use Rattle.wf_core_laws.proofs.Places.{lt_or_le}
use Rattle.wf_core_laws.proofs.Members.{Has, has-here}

-- ---- the first of a list of which there is something

-- where there is nothing of each number there is no first
pub none-first : {A : Type 0} (f : ℕ → Option A) (a n : ℕ) → ((k : ℕ) → a ≤ k → k < a + n → f k ≡ None) → first_some f (range_with_len a n) ≡ None
unfolding first_some
none-first f a zero none = refl
none-first f a (suc n) none =
    ap (λ (o : Option _). option_or o (first_some f (range_with_len (a + 1) n))) (none a (omega arith) (omega arith))
    ∙ none-first f (a + 1) n (λ k low high. none k (omega (arith, low)) (omega (arith, high)))

-- the first number of which there is something
pub one-first : {A : Type 0} (f : ℕ → Option A) (a n k : ℕ) (x : A) → a ≤ k → k < a + n → f k ≡ Some x → ((j : ℕ) → a ≤ j → j < k → f j ≡ None) → first_some f (range_with_len a n) ≡ Some x
unfolding first_some
one-first f a zero k x low high is none = absurd (omega (arith, low, high))
one-first f a (suc n) k x low high is none =
    elim (lt_or_le a k) [
      | inl w ↦ ap (λ (o : Option _). option_or o (first_some f (range_with_len (a + 1) n))) (none a (omega arith) w)
          ∙ one-first f (a + 1) n k x (omega (arith, w)) (omega (arith, high)) is (λ j l h. none j (omega (arith, l)) h)
      | inr w ↦
          let e : k ≡ a = omega (arith, low, w) in
          ap (λ (o : Option _). option_or o (first_some f (range_with_len (a + 1) n))) (ap f (sym e) ∙ is)
    ]

-- tests that agree find the same
pub find-same : {A : Type 0} (f g : A → Bool) (xs : List A) → ((x : A) → f x ≡ g x) → find f xs ≡ find g xs
find-same f g [] same = refl
find-same f g (x ∷ xs) same = ap (λ b. cond b (Some x) (find f xs)) (same x) ∙ ap (λ o. cond (g x) (Some x) o) (find-same f g xs same)

-- tests that agree on the members pass alike
pub any-same : (f g : ℕ → Bool) (xs : List ℕ) → ((q : ℕ) → Has xs q → f q ≡ g q) → list_any f xs ≡ list_any g xs
any-same f g [] same = refl
any-same f g (x ∷ xs) same = ap (λ b. b || list_any f xs) (same x (has-here x xs)) ∙ ap (λ b. g x || b) (any-same f g xs (λ q is. same q (or_right (x == q) (list_any (λ y. y == q) xs) is)))

-- ---- the domain of what overflows

-- what sets nothing does not overflow
nothing_fine : (r : RunData) → overflow_in r.plan nothing ≡ None
unfolding nothing
nothing_fine r = find-None (overflows_at nothing) (spots r.plan 0) (λ x i. refl)

-- an item that overflows does so in its own domain
table_domain : (r : RunData) (g : Grids) (e : Entry) (it : Item) (x : Spot) → overflow_in r.plan (table_change r.plan r.answers g e.domain e.step it) ≡ Some x → (table_change r.plan r.answers g e.domain e.step it).domain ≡ e.domain
unfolding table_change
table_domain r g e (item.Halo parts) x h = let bad : None ≡ Some x = sym (nothing_fine r) ∙ h in absurd (cc (bad))
table_domain r g e (item.Period parts) x h = let bad : None ≡ Some x = sym (nothing_fine r) ∙ h in absurd (cc (bad))
table_domain r g e (item.Swap one two) x h = refl
table_domain r g e (item.Phase ph) x h = refl

-- an entry that overflows does so in the domain that computes or receives
act_domain : (r : RunData) (g : Grids) (e : Entry) (act : Act) (x : Spot) → overflow_in r.plan (act_change r g e act) ≡ Some x → (act_change r g e act).domain ≡ receiver_of r.plan e act
act_domain r g e Start x h = refl
act_domain r g e Force x h = refl
act_domain r g e Feedback x h = refl
act_domain r g e (Table n) x h = table_domain r g e (item_of r.plan n) x h
act_domain r g e (Emit s) x h = let bad : None ≡ Some x = sym (nothing_fine r) ∙ h in absurd (cc (bad))

-- the domain of what overflows at a place
pub change_domain : (r : RunData) (n : ℕ) (x : Spot) → overflow_in r.plan (change_at r n) ≡ Some x → (change_at r n).domain ≡ domain_at r n
unfolding change_of
change_domain r n x h = act_domain r (grids_at r n) (entry_at r n) (entry_at r n).act x h
