-- What is wrong with an item, and with a default.
use Rattle.std.proofs.Common.{◌≡◌, ℕ, zero, suc, ◌+◌, ◌-◌, ◌<◌, ◌≤◌, Bool, true, false, cond, not, List, [], ◌∷◌, map, length, Option, Some, None, ℤ, refl, sym, ap, ◌∙◌, nat_lt, arith}
use Rattle.std.specs.List.{enumerate_from, filter, list_all, range_with_len}
use Rattle.std.specs.Option.{option_or}
use Rattle.std.specs.Str.{bytes_eq}
use Rattle.wf_model.specs.declared.namelist.Value.{Value}
use Rattle.wf_model.specs.declared.config.ConfigFault.{ConfigFault}
use Rattle.wf_model.specs.declared.config.ConfigFault.TheVariants.{WrongType, UnknownItem, TooMany}
use Rattle.wf_model.specs.Reading.{fault_if, first_fault}
use Rattle.wf_model.specs.Namelist.{Item}
use Rattle.wf_model.specs.BuiltIns.{NameRule}
use Rattle.wf_model.specs.Config.{is_judged, is_of, missing_value, missing_values, out_of_range, range_fault, rule_fault}
use Rattle.wf_config.specs.Rules.{judged_fault, known_fault, wanted}
use Rattle.wf_config.proofs.FirstFaults.{or_none}
use Rattle.wf_config.proofs.Loops.{map_map}

-- ---- items

kept_or : {A F : Type 0} (g : A → Option F) (b : Bool) (x : A) (ys : List A) (r : Option F)
    → first_fault (map g ys) ≡ r → first_fault (map g (cond b (x ∷ ys) ys)) ≡ option_or (cond b (g x) None) r
kept_or g true x ys r e = ap (option_or (g x)) e
kept_or g false x ys r e = e

-- a test of what is kept
pub judged_all : {A F : Type 0} (g : A → Option F) (p : A → Bool) (xs : List A)
    → first_fault (map g (filter p xs)) ≡ first_fault (map (λ x. cond (p x) (g x) None) xs)
judged_all g p [] = refl
judged_all g p (x ∷ xs) = kept_or g (p x) x (filter p xs) _ (judged_all g p xs)

ranges : (domains : ℤ) (r : NameRule) (vs : List Value) → range_fault domains r vs ≡ first_fault (map (judged_fault domains r) (enumerate_from 1 vs))
ranges domains r vs = judged_all (λ (p : ℕ × Value). out_of_range r p.1) (is_judged domains r) (enumerate_from 1 vs)

three_tests : {F : Type 0} (a b c : Bool) (u w t : F) (rest : Option F)
    → first_fault (fault_if (not a) u ∷ fault_if (not b) w ∷ fault_if c t ∷ rest ∷ []) ≡ cond a (cond b (cond c (Some t) rest) (Some w)) (Some u)
three_tests false b c u w t rest = refl
three_tests true false c u w t rest = refl
three_tests true true true u w t rest = refl
three_tests true true false u w t rest = or_none rest

pub known_is : (domains : ℤ) (i : Item) (r : NameRule) → rule_fault domains i (Some r) ≡ known_fault domains i r
known_is domains i r =
    three_tests (bytes_eq r.group i.0) (list_all (is_of r.type) i.2) (nat_lt r.most (length i.2)) (UnknownItem i.1) (WrongType i.1) (TooMany i.1) (range_fault domains r i.2)
    ∙ ap (λ range. cond (bytes_eq r.group i.0) (cond (list_all (is_of r.type) i.2) (cond (nat_lt r.most (length i.2)) (Some (TooMany i.1)) range) (Some (WrongType i.1))) (Some (UnknownItem i.1))) (ranges domains r i.2)

-- ---- defaults

or_same : {F : Type 0} (f g : Option F) → f ≡ g → option_or f g ≡ g
or_same None g e = refl
or_same (Some f) g e = e

-- tests that all find the same
all_same : {F : Type 0} (f : ℕ → Option F) (fault : Option F) → ((d : ℕ) → fault ≡ f d) → (a n : ℕ) → first_fault (map f (range_with_len a (suc n))) ≡ fault
all_same f fault same a zero = or_none (f a) ∙ sym (same a)
all_same f fault same a (suc n) = ap (option_or (f a)) (all_same f fault same (a + 1) n) ∙ or_same (f a) fault (sym (same a))

some_number : (n : ℕ) → 0 < n → (m : ℕ) × (n ≡ suc m)
some_number zero above = absurd (omega arith)
some_number (suc m) above = (m, refl)

abbrev missing_of : ℕ → NameRule → List Value → ℕ
missing_of domains r vs = wanted domains r - length vs

faults_missing : (domains : ℕ) (r : NameRule) (vs : List Value) → first_fault (map (out_of_range r) (missing_values domains r vs)) ≡ first_fault (map (λ d. out_of_range r (missing_value r vs d)) (range_with_len (length vs + 1) (missing_of domains r vs)))
faults_missing domains r vs = ap first_fault (map_map (missing_value r vs) (out_of_range r) (range_with_len (length vs + 1) (missing_of domains r vs)))

-- each domain is given a value
pub none_missing : (domains : ℕ) (r : NameRule) (vs : List Value) → wanted domains r ≤ length vs → None ≡ first_fault (map (out_of_range r) (missing_values domains r vs))
none_missing domains r vs enough =
    let none : missing_of domains r vs ≡ 0 = omega arith in
    sym (faults_missing domains r vs ∙ ap (λ n. first_fault (map (λ d. out_of_range r (missing_value r vs d)) (range_with_len (length vs + 1) n))) none)

-- some domain is given none
pub some_missing : (domains : ℕ) (r : NameRule) (vs : List Value) (fault : Option ConfigFault) → length vs < wanted domains r
    → ((d : ℕ) → fault ≡ out_of_range r (missing_value r vs d)) → fault ≡ first_fault (map (out_of_range r) (missing_values domains r vs))
some_missing domains r vs fault few same =
    let more : 0 < missing_of domains r vs = omega arith in
    let number = some_number (missing_of domains r vs) more in
    sym (faults_missing domains r vs
    ∙ ap (λ n. first_fault (map (λ d. out_of_range r (missing_value r vs d)) (range_with_len (length vs + 1) n))) number.1
    ∙ all_same (λ d. out_of_range r (missing_value r vs d)) fault same (length vs + 1) number.0)
