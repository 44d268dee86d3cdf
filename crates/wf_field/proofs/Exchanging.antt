-- Two levels of a field, exchanged.
use Rattle.std.proofs.Common.{◌≡◌, ⊎_elim, ℕ, ◌+◌, ◌-◌, ◌*◌, ◌/◌, ◌%◌, Bool, false, List, [], length, get_or, sym, ap, subst, ◌∙◌}
use Rattle.std.specs.Prelude.{ℤ, pos, ◌-ℤ◌, ◌==◌, ◌||◌, unsigned_abs, if◌then◌else◌}
use Rattle.std.specs.List.{SwappedAt}
use Rattle.wf_model.specs.declared.layout.Layout.{Layout}
use Rattle.wf_model.specs.declared.plan.Plan.{Plan}
use Rattle.wf_model.specs.Plans.{domain_of, field_of, nz, extra}
use Rattle.wf_model.specs.Reads.{margin_of}
use Rattle.wf_model.specs.Changes.{swapped_with}
use Rattle.wf_model.specs.Patches.{Split, Box, split_of, size_of, block, grown, cut_unless, own_box, memory_box, kept_at}
use Rattle.wf_model.specs.PatchEffect.{swap_setting}
use Rattle.wf_model.specs.Sound.{IsLevel, IsSoundPair}
use Rattle.wf_laws.proofs.Bools.{equal_or_not, equal_test, unlike}
use Rattle.wf_boxes.specs.declared.places.LevelBox.{LevelBox}
use Rattle.wf_model.specs.Kept.{kept_size, level_kept, SetsExactly}
use Rattle.wf_field.specs.Kept.{IsMemory}

-- the memory box of a level by how it is staggered
box_by : Plan → Split → ℕ → ℕ → Bool → Bool → Box
box_by plan split d p x y =
    let lx : ℕ = (domain_of plan d).ide - 1 in
    let ly : ℕ = (domain_of plan d).jde - 1 in
    record {
      x = cut_unless (domain_of plan d).periodic_x 1 (lx + extra x (domain_of plan d).periodic_x) (grown (margin_of plan) (block (p % split.in_x) split.in_x lx (lx + extra x (domain_of plan d).periodic_x - lx)));
      y = cut_unless (domain_of plan d).periodic_y 1 (ly + extra y (domain_of plan d).periodic_y) (grown (margin_of plan) (block (p / split.in_x) split.in_y ly (ly + extra y (domain_of plan d).periodic_y - ly)));
    }

-- levels that are staggered alike have one box
same_box : (plan : Plan) (split : Split) (d p f g : ℕ) → (field_of plan f).stag_x ≡ (field_of plan g).stag_x → (field_of plan f).stag_y ≡ (field_of plan g).stag_y → memory_box plan split d p f ≡ memory_box plan split d p g
unfolding memory_box own_box box_by
same_box plan split d p f g x y = ap (λ (b : Bool). box_by plan split d p b (field_of plan f).stag_y) x ∙ ap (λ (b : Bool). box_by plan split d p (field_of plan g).stag_x b) y

-- the numbers of a level whose list is another one's, over the same box
kept_moved : (plan : Plan) (split : Split) (d p : ℕ) (lists new : List (List ℤ)) (a b k : ℕ) (j i : ℤ) → level_kept new a ≡ level_kept lists b → memory_box plan split d p a ≡ memory_box plan split d p b →
    kept_at plan split d p new a k j i ≡ kept_at plan split d p lists b k j i
unfolding kept_at
kept_moved plan split d p lists new a b k j i list box =
    λ n. get_or (list n) (((k - 1) * size_of (box n).y + unsigned_abs (j -ℤ (box n).y.low)) * size_of (box n).x + unsigned_abs (i -ℤ (box n).x.low)) (pos 0)

-- a level as high over the same box has as many cells
size_moved : (plan : Plan) (split : Split) (d p a b : ℕ) → nz plan a ≡ nz plan b → memory_box plan split d p a ≡ memory_box plan split d p b → kept_size plan split d p a ≡ kept_size plan split d p b
size_moved plan split d p a b high box = λ n. high n * size_of (box n).y * size_of (box n).x

module _ (plan : Plan) (layout : Layout) (d p : ℕ) (boxes : List LevelBox) (lists new : List (List ℤ)) (one two : ℕ) (is : IsMemory plan layout d p boxes lists) (level : IsLevel plan one) (pair : (field_of plan one).pair ≡ two)
    (long : length new ≡ length lists) (swapped : SwappedAt lists new one two) where
  sound : IsSoundPair plan one
  sound = ((is.sound).sound).pairs one level

  pub two_level : IsLevel plan two
  two_level = subst (λ (n : ℕ). IsLevel plan n) pair sound.is

  box : memory_box plan (split_of layout) d p one ≡ memory_box plan (split_of layout) d p two
  box = same_box plan (split_of layout) d p one two
      (sym sound.stag_x ∙ ap (λ (n : ℕ). (field_of plan n).stag_x) pair) (sym sound.stag_y ∙ ap (λ (n : ℕ). (field_of plan n).stag_y) pair)

  high : nz plan one ≡ nz plan two
  high = sym sound.levels ∙ ap (λ (n : ℕ). nz plan n) pair

  size : kept_size plan (split_of layout) d p one ≡ kept_size plan (split_of layout) d p two
  size = size_moved plan (split_of layout) d p one two high box

  -- the lengths stay
  lengths : (g : ℕ) → IsLevel plan g → length (level_kept new g) ≡ length (level_kept lists g)
  lengths g l =
      ⊎_elim
      (λ e. subst (λ (n : ℕ). length (level_kept new n) ≡ length (level_kept lists n)) (sym e)
      (ap (λ (xs : List ℤ). length xs) (swapped.0 []) ∙ is.sizes two two_level ∙ sym size ∙ sym (is.sizes one level)))
      (λ e. ⊎_elim
      (λ f. subst (λ (n : ℕ). length (level_kept new n) ≡ length (level_kept lists n)) (sym f)
      (ap (λ (xs : List ℤ). length xs) (swapped.1 []) ∙ is.sizes one level ∙ size ∙ sym (is.sizes two two_level)))
      (λ f. ap (λ (xs : List ℤ). length xs) (swapped.2 g [] e f))
      (equal_or_not g two))
      (equal_or_not g one)

  -- the number that the exchange leaves at a cell
  abbrev after : ℕ → ℕ → ℤ → ℤ → ℤ
  after f k j i =
      if (f == one) || (f == two) then kept_at plan (split_of layout) d p lists (swapped_with one two f) k j i else kept_at plan (split_of layout) d p lists f k j i

  -- by the tests
  abbrev after_by : Bool → Bool → ℕ → ℕ → ℤ → ℤ → ℤ
  after_by a b f k j i =
      if a || b then kept_at plan (split_of layout) d p lists (if a then two else one) k j i else kept_at plan (split_of layout) d p lists f k j i

  numbers : (f k : ℕ) (j i : ℤ) → kept_at plan (split_of layout) d p new f k j i ≡ after f k j i
  numbers f k j i =
      ⊎_elim
      (λ e. ap (λ (n : ℕ). kept_at plan (split_of layout) d p new n k j i) e ∙ kept_moved plan (split_of layout) d p lists new one two k j i (swapped.0 []) box
      ∙ ap (λ (a : Bool). after_by a (f == two) f k j i) (sym (equal_test f one e)))
      (λ e. ⊎_elim
      (λ g. ap (λ (n : ℕ). kept_at plan (split_of layout) d p new n k j i) g ∙ kept_moved plan (split_of layout) d p lists new two one k j i (swapped.1 []) (sym box)
      ∙ (λ n. after_by (sym (apart f one e) n) (sym (equal_test f two g) n) f k j i))
      (λ g. kept_moved plan (split_of layout) d p lists new f f k j i (swapped.2 f [] e g) (λ n. memory_box plan (split_of layout) d p f)
      ∙ (λ n. after_by (sym (apart f one e) n) (sym (apart f two g) n) f k j i))
      (equal_or_not f two))
      (equal_or_not f one)
    where
      apart : (a b : ℕ) → (a ≡ b → ⊥) → (a == b) ≡ false
      apart a b h = unlike a b (λ e. h (sym e))

  pub swap_exact : SetsExactly plan (split_of layout) d p (swap_setting one two (kept_at plan (split_of layout) d p lists)) lists new
  swap_exact = record { levels = long; sizes = lengths; numbers = λ c h. numbers c.field c.k c.j c.i }

  pub swap_memory : IsMemory plan layout d p boxes new
  swap_memory = record { sound = is.sound; bounds = is.bounds; few = is.few; levels = long ∙ is.levels; sizes = λ g l. lengths g l ∙ is.sizes g l }
