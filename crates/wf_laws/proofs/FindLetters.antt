-- Which message is found in the mail of one sender.
use Rattle.std.proofs.Common.{◌≡◌, ⊎_elim, ℕ, Bool, true, false, cond, List, [], ◌∷◌, refl, sym, ap, ◌∙◌, Some, None}
use Rattle.std.specs.Prelude.{◌==◌, ◌&&◌, map, find}
use Rattle.wf_model.specs.Exchange.{Letter}
use Rattle.wf_model.specs.Core.{is_letter}
use Rattle.wf_laws.proofs.Bools.{equal_of, same_number, split_bool, differ}
use Rattle.wf_laws.proofs.Members.{In, In-map_out, find-None}

-- where letters are made, each stands under its receiver
pub find-letter : (make : ℕ → Letter) (place from to : ℕ) (rs : List ℕ) → ((x : ℕ) → (make x).place ≡ place) → ((x : ℕ) → (make x).from ≡ from) → ((x : ℕ) → (make x).to ≡ x) →
    In to rs → find (is_letter place from to) (map make rs) ≡ Some (make to)
find-letter make place from to [] a b c h = absurd h
find-letter make place from to (x ∷ xs) a b c h =
    let test : is_letter place from to (make x) ≡ (x == to) =
    (λ n. (a x n == place) && ((b x n == from) && (c x n == to))) ∙ (λ n. same_number place n && (same_number from n && (x == to))) in
    ⊎_elim
    (λ s. ap (λ t. cond t (Some (make x)) (find (is_letter place from to) (map make xs))) (test ∙ s) ∙ ap (λ (y : ℕ). Some (make y)) (equal_of x to s))
    (λ s. ap (λ t. cond t (Some (make x)) (find (is_letter place from to) (map make xs))) (test ∙ s)
    ∙ ⊎_elim (λ e. absurd (differ (sym (ap (λ (y : ℕ). y == to) (sym e) ∙ same_number to) ∙ s))) (λ t. find-letter make place from to xs a b c t) h)
    (split_bool (x == to))

-- and letters of another sender are not found
pub find-stranger : (make : ℕ → Letter) (place from from' to : ℕ) (rs : List ℕ) → ((x : ℕ) → (make x).from ≡ from') → (from' ≡ from → ⊥) → find (is_letter place from to) (map make rs) ≡ None
find-stranger make place from from' to rs b apart =
    find-None (is_letter place from to) (map make rs) (λ l h. let m = In-map_out make l rs h in
    not_from l (⊎_elim (λ s. absurd (apart (sym (b m.0) ∙ ap (λ (x : Letter). x.from) (sym m.2) ∙ equal_of l.from from s))) (λ s. s) (split_bool (l.from == from))))
  where
    not_from : (l : Letter) → (l.from == from) ≡ false → is_letter place from to l ≡ false
    not_from l s = ap (λ b. (l.place == place) && (b && (l.to == to))) s ∙ either (l.place == place)
      where
        either : (b : Bool) → (b && false) ≡ false
        either true = refl
        either false = refl
