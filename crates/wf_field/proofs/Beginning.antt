-- A memory whose levels are filled one after another.
use Rattle.std.proofs.Common.{◌≡◌, ◌⊎◌, ⊎_elim, inl, inr, ℕ, ◌+◌, ◌-◌, ◌<◌, Bool, true, false, List, length, refl, sym, ap, subst, ◌∙◌, arith}
use Rattle.std.specs.Prelude.{ℤ, pos, ◌==◌, ◌||◌, nat_lt, slice_index_or, if◌then◌else◌}
use Rattle.wf_model.specs.declared.layout.Layout.{Layout}
use Rattle.wf_model.specs.declared.plan.Plan.{Plan}
use Rattle.wf_model.specs.Core.{begin_patch}
use Rattle.wf_model.specs.Grids.{Grid}
use Rattle.wf_model.specs.Kept.{ShowsMemory, SetsExactly, level_kept}
use Rattle.wf_model.specs.Outcome.{RunData, begin_grids, input_grids, no_lists}
use Rattle.wf_model.specs.PatchEffect.{Memory}
use Rattle.wf_model.specs.Patches.{Split, Cell, split_of, kept_at}
use Rattle.wf_model.specs.Plans.{begin_of, point_x, point_y}
use Rattle.wf_laws.proofs.Bools.{equal_or_not, equal_test, unlike, less_of, less_test, differ, split_bool}
use Rattle.wf_field.specs.Settings.{cell_at, level_setting, levels_setting, point_number}

-- no level is filled
pub none_filled : (plan : Plan) (split : Split) (d p : ℕ) (lists old : List (List ℤ)) → SetsExactly plan split d p (levels_setting plan d lists 0) old old
none_filled plan split d p lists old = record { levels = refl; sizes = λ f l. refl; numbers = λ c k. sym (ap (λ (b : Bool). if b then point_number plan d c.field (level_kept lists c.field) c else kept_at plan split d p old c.field c.k c.j c.i) (none c.field)) }
  where
    none : (n : ℕ) → nat_lt n 0 ≡ false
    none n = grind arith

-- the test of one more
less_next : (a n : ℕ) → (a ≡ n → ⊥) → nat_lt a n ≡ nat_lt a (n + 1)
less_next a n apart =
    ⊎_elim
    (λ t. t ∙ sym (less_test a (n + 1) (let l = less_of a n t in omega (arith, l))))
    (λ t. t ∙ sym (⊎_elim (λ u. absurd (differ (sym (less_test a n (below a n apart (less_of a (n + 1) u))) ∙ t))) (λ u. u) (split_bool (nat_lt a (n + 1)))))
    (split_bool (nat_lt a n))
  where
    below : (a n : ℕ) → (a ≡ n → ⊥) → a < n + 1 → a < n
    below a n apart h = ⊎_elim (λ e. absurd (apart e)) (λ e. grind (arith, h, e)) (equal_or_not a n)

-- a level more
pub level_more :
    (plan : Plan) (split : Split) (d p n : ℕ) (lists old mid new : List (List ℤ)) (list : List ℤ) → list ≡ level_kept lists n
    → SetsExactly plan split d p (levels_setting plan d lists n) old mid → SetsExactly plan split d p (level_setting plan d n list) mid new
    → SetsExactly plan split d p (levels_setting plan d lists (n + 1)) old new
level_more plan split d p n lists old mid new list is one two = record {
  levels = two.levels ∙ one.levels;
  sizes = λ f l. two.sizes f l ∙ one.sizes f l;
  numbers = λ c k. two.numbers c k
      ∙ ap (λ (z : ℤ). if c.field == n then point_number plan d n list (cell_at c.field c.k c.j c.i) else z) (one.numbers c k)
      ∙ joined c (kept_at plan split d p old c.field c.k c.j c.i) (equal_or_not c.field n);
}
  where
    joined :
        (c : Cell) (old : ℤ) → (c.field ≡ n) ⊎ (c.field ≡ n → ⊥)
        → (if c.field == n then point_number plan d n list c else (if nat_lt c.field n then point_number plan d c.field (level_kept lists c.field) c else old))
        ≡ (if nat_lt c.field (n + 1) then point_number plan d c.field (level_kept lists c.field) c else old)
    joined c old (inl e) =
        let at : nat_lt c.field (n + 1) ≡ true = less_test c.field (n + 1) (omega arith) in
        ap (λ (b : Bool). if b then point_number plan d n list c else (if nat_lt c.field n then point_number plan d c.field (level_kept lists c.field) c else old)) (equal_test c.field n e)
        ∙ (λ m. point_number plan d n (is m) c) ∙ ap (λ (f : ℕ). point_number plan d f (level_kept lists f) c) (sym e)
        ∙ sym (ap (λ (b : Bool). if b then point_number plan d c.field (level_kept lists c.field) c else old) at)
    joined c old (inr apart) =
        let same : nat_lt c.field n ≡ nat_lt c.field (n + 1) = less_next c.field n apart in
        ap (λ (b : Bool). if b then point_number plan d n list c else (if nat_lt c.field n then point_number plan d c.field (level_kept lists c.field) c else old)) (unlike c.field n (λ e. apart (sym e)))
        ∙ ap (λ (b : Bool). if b then point_number plan d c.field (level_kept lists c.field) c else old) same

module _ (r : RunData) (layout : Layout) (d p : ℕ) (old : List (List ℤ)) (zeros : ShowsMemory r.plan (split_of layout) d p old (λ f k j i. pos 0)) where
  -- what a point begins with
  by_test : Bool → ℕ → Grid
  by_test b f = if b then input_grids r d f else (λ k j i. pos 0)

  -- a domain without numbers begins with 0
  pub begins_empty : ((d == 1) || (begin_of r.initial.begins d).resumed) ≡ false → ShowsMemory r.plan (split_of layout) d p old (begin_patch r layout d p).memory
  unfolding begin_grids by_test
  begins_empty none = record {
    levels = zeros.levels;
    sizes = zeros.sizes;
    holds = λ c h. zeros.holds c h ∙ sym (ap (λ (b : Bool). by_test b c.field c.k (point_y r.plan d c.field c.j) (point_x r.plan d c.field c.i)) none);
  }

  -- and one with numbers with those of its points
  pub begins_filled :
      (lists new : List (List ℤ)) → ((d == 1) || (begin_of r.initial.begins d).resumed) ≡ true → lists ≡ slice_index_or r.initial.grids (d - 1) no_lists
      → length lists ≡ length r.plan.fields → SetsExactly r.plan (split_of layout) d p (levels_setting r.plan d lists (length lists)) old new
      → ShowsMemory r.plan (split_of layout) d p new (begin_patch r layout d p).memory
  unfolding begin_grids by_test
  begins_filled lists new some is long set = record {
    levels = set.levels ∙ zeros.levels;
    sizes = λ f l. set.sizes f l ∙ zeros.sizes f l;
    holds = λ c h.
        let at : nat_lt c.field (length lists) ≡ true = less_test c.field (length lists) (subst (λ (n : ℕ). c.field < n) (sym long) h.field) in
        set.numbers c h
        ∙ ap (λ (b : Bool). if b then point_number r.plan d c.field (level_kept lists c.field) c else kept_at r.plan (split_of layout) d p old c.field c.k c.j c.i) at
        ∙ ap (λ (ls : List (List ℤ)). point_number r.plan d c.field (level_kept ls c.field) c) is
        ∙ sym (ap (λ (b : Bool). by_test b c.field c.k (point_y r.plan d c.field c.j) (point_x r.plan d c.field c.i)) some);
  }

-- of the same patch
pub exact_patch :
    {plan : Plan} {split : Split} {d e p q : ℕ} {a b : List (List ℤ)} (n : ℕ) (list : List ℤ) → d ≡ e → p ≡ q
    → SetsExactly plan split d p (level_setting plan d n list) a b → SetsExactly plan split e q (level_setting plan e n list) a b
exact_patch {plan} {split} {d} {e} {p} {q} {a} {b} n list domain patch h =
    subst (λ (m : ℕ). SetsExactly plan split m q (level_setting plan m n list) a b) domain
    (subst (λ (m : ℕ). SetsExactly plan split d m (level_setting plan d n list) a b) patch h)

pub exact_levels :
    {plan : Plan} {split : Split} {d e p q : ℕ} {a b : List (List ℤ)} (lists : List (List ℤ)) → d ≡ e → p ≡ q
    → SetsExactly plan split d p (levels_setting plan d lists (length lists)) a b → SetsExactly plan split e q (levels_setting plan e lists (length lists)) a b
exact_levels {plan} {split} {d} {e} {p} {q} {a} {b} lists domain patch h =
    subst (λ (m : ℕ). SetsExactly plan split m q (levels_setting plan m lists (length lists)) a b) domain
    (subst (λ (m : ℕ). SetsExactly plan split d m (levels_setting plan d lists (length lists)) a b) patch h)

pub shown_patch :
    {plan : Plan} {split : Split} {d e p q : ℕ} {lists : List (List ℤ)} (m : Memory) → d ≡ e → p ≡ q
    → ShowsMemory plan split d p lists m → ShowsMemory plan split e q lists m
shown_patch {plan} {split} {d} {e} {p} {q} {lists} m domain patch h =
    subst (λ (n : ℕ). ShowsMemory plan split n q lists m) domain (subst (λ (n : ℕ). ShowsMemory plan split d n lists m) patch h)
