-- The point that a read meets, from the parts that the code computes.
use Rattle.std.proofs.Common.{◌≡◌, ℕ, ◌+◌, Bool, ◌∙◌}
use Rattle.std.specs.Prelude.{ℤ, pos, ◌||◌, IsTrue}
use Rattle.wf_model.specs.declared.plan.Plan.{Plan}
use Rattle.wf_model.specs.Plans.{domain_of, nx, ny, wrapped}
use Rattle.wf_model.specs.Patches.{in_span, is_place}
use Rattle.wf_laws.proofs.Bools.{and_left, and_right}

pub wrap_same : (p q : Bool) (m n : ℕ) (y z : ℤ) (r : ℕ) → r ≡ wrapped p m y → p ≡ q → m ≡ n → y ≡ z → r ≡ wrapped q n z
wrap_same p q m n y z r e ep em ey = e ∙ (λ i. wrapped (ep i) (em i) (ey i))

-- inside a direction, or anywhere in a periodic one
abbrev pub within_span : Bool → ℕ → ℤ → Bool
within_span p n z = p || in_span (record { low = pos 1; high = pos (n + 1) }) z

same_span : (p q : Bool) (m n : ℕ) (y z : ℤ) → p ≡ q → m ≡ n → y ≡ z → IsTrue (within_span q n z) → IsTrue (within_span p m y)
same_span p q m n y z ep em ey h = (λ i. within_span (ep i) (em i) (ey i)) ∙ h

pub inside_x : (plan : Plan) (d f : ℕ) (j i : ℤ) (p : Bool) (n : ℕ) (z : ℤ) → p ≡ (domain_of plan d).periodic_x → n ≡ nx plan d f → z ≡ i → IsTrue (is_place plan d f j i) → IsTrue (within_span p n z)
unfolding is_place
inside_x plan d f j i p n z ep en ez h =
    same_span p (domain_of plan d).periodic_x n (nx plan d f) z i ep en ez (and_right (within_span (domain_of plan d).periodic_y (ny plan d f) j) (within_span (domain_of plan d).periodic_x (nx plan d f) i) h)

pub inside_y : (plan : Plan) (d f : ℕ) (j i : ℤ) (p : Bool) (n : ℕ) (z : ℤ) → p ≡ (domain_of plan d).periodic_y → n ≡ ny plan d f → z ≡ j → IsTrue (is_place plan d f j i) → IsTrue (within_span p n z)
unfolding is_place
inside_y plan d f j i p n z ep en ez h =
    same_span p (domain_of plan d).periodic_y n (ny plan d f) z j ep en ez (and_left (within_span (domain_of plan d).periodic_y (ny plan d f) j) (within_span (domain_of plan d).periodic_x (nx plan d f) i) h)
