-- Lists of which one level's is replaced.
use Rattle.std.proofs.Common.{◌≡◌, ⊎_elim, ℕ, ◌≤◌, ◌<◌, Bool, false, List, [], length, get_or, set, take, drop, ◌++◌, sym, ap, subst, ◌∙◌, arith}
use Rattle.std.proofs.lemmas.List.{get_or-set_same, get_or-set_other, length-set, take_all, take-append-le, get_or_read}
use Rattle.std.specs.Prelude.{ℤ, pos, ◌==◌, ◌&&◌, unwrap_or, if◌then◌else◌}
use Rattle.wf_model.specs.declared.layout.Layout.{Layout}
use Rattle.wf_model.specs.declared.plan.Plan.{Plan}
use Rattle.wf_model.specs.Patches.{Split, Cell, kept_at}
use Rattle.wf_model.specs.PatchEffect.{Setting}
use Rattle.wf_model.specs.Sound.{IsLevel}
use Rattle.wf_model.specs.Exchange.{same_cell, int_same}
use Rattle.wf_laws.proofs.Bools.{equal_or_not, unlike, differ, split_bool}
use Rattle.wf_laws.proofs.Fetch.{same_cell-equal, same_cell-same}
use Rattle.wf_boxes.specs.declared.places.LevelBox.{LevelBox}
use Rattle.wf_model.specs.Kept.{IsKeptCell}
use Rattle.wf_model.specs.Kept.{kept_place, level_kept, SetsExactly}
use Rattle.wf_patch_laws.proofs.KeptLists.{tell_cells}
use Rattle.wf_field.specs.Kept.{IsMemory}
use Rattle.wf_field.specs.Settings.{cell_setting}

-- a list whose items were lent and came back
pub lent_back : {X : Type 0} (xs ys : List X) → length ys ≡ length xs → take (length xs) (ys ++ drop (length ys) xs) ≡ ys
lent_back xs ys e =
    let h : length xs ≤ length ys = omega (arith, e) in
    rw take-append-le (take_all (length xs) ys (omega (arith, e)))

-- the list of another level
pub level_other : (lists : List (List ℤ)) (f g : ℕ) (xs : List ℤ) → (g ≡ f → ⊥) → level_kept (set lists f xs) g ≡ level_kept lists g
level_other lists f g xs apart = get_or-set_other lists f g xs [] apart

-- and of the one that is replaced
pub level_same : (lists : List (List ℤ)) (f : ℕ) (xs : List ℤ) → f < length lists → level_kept (set lists f xs) f ≡ xs
level_same lists f xs h = get_or-set_same lists f xs [] h

-- the lengths stay
pub sizes_stay : (lists : List (List ℤ)) (f : ℕ) (new : List ℤ) → f < length lists → length new ≡ length (level_kept lists f) → (g : ℕ) → length (level_kept (set lists f new) g) ≡ length (level_kept lists g)
sizes_stay lists f new h same g =
    ⊎_elim
    (λ e. subst (λ (n : ℕ). length (level_kept (set lists f new) n) ≡ length (level_kept lists n)) (sym e) (ap (λ (xs : List ℤ). length xs) (level_same lists f new h) ∙ same))
    (λ e. ap (λ (xs : List ℤ). length xs) (level_other lists f g new e))
    (equal_or_not g f)

-- a memory of which one level's list is replaced by one as long
pub memory_set : (plan : Plan) (layout : Layout) (d p : ℕ) (boxes : List LevelBox) (lists : List (List ℤ)) (f : ℕ) (new : List ℤ) → IsMemory plan layout d p boxes lists → IsLevel plan f → length new ≡ length (level_kept lists f) →
    IsMemory plan layout d p boxes (set lists f new)
memory_set plan layout d p boxes lists f new is level same =
    let h : f < length lists = subst (λ (n : ℕ). f < n) (sym is.levels) level in
    record {
      sound = is.sound;
      bounds = is.bounds;
      few = is.few;
      levels = length-set lists f new ∙ is.levels;
      sizes = λ g l. sizes_stay lists f new h same g ∙ is.sizes g l;
    }

-- the number that a setting leaves at a cell
abbrev pub left_at : Setting → Cell → ℤ → ℤ
left_at s c old = if s.sets c.field c.k c.j c.i then unwrap_or (s.value c.field c.k c.j c.i) (pos 0) else old

-- the new list sets its level as the setting says, which sets no cell of another one
pub level_set : (plan : Plan) (split : Split) (d p : ℕ) (lists : List (List ℤ)) (f : ℕ) (new : List ℤ) (s : Setting) → f < length lists → length new ≡ length (level_kept lists f) →
    ((c : Cell) → IsKeptCell plan split d p c → c.field ≡ f → get_or new (kept_place plan split d p c) (pos 0) ≡ left_at s c (get_or (level_kept lists f) (kept_place plan split d p c) (pos 0))) →
    ((c : Cell) → (c.field ≡ f → ⊥) → s.sets c.field c.k c.j c.i ≡ false) →
    SetsExactly plan split d p s lists (set lists f new)
unfolding kept_at
level_set plan split d p lists f new s h same here there = record {
  levels = length-set lists f new;
  sizes = λ g l. sizes_stay lists f new h same g;
  numbers = λ c kept. ⊎_elim
      (λ e.
      let old : level_kept lists f ≡ level_kept lists c.field = ap (level_kept lists) (sym e) in
      ap (λ (xs : List ℤ). get_or xs (kept_place plan split d p c) (pos 0)) (ap (level_kept (set lists f new)) e ∙ level_same lists f new h)
      ∙ here c kept e ∙ ap (λ (xs : List ℤ). left_at s c (get_or xs (kept_place plan split d p c) (pos 0))) old)
      (λ e.
      ap (λ (xs : List ℤ). get_or xs (kept_place plan split d p c) (pos 0)) (level_other lists f c.field new e)
      ∙ sym (ap (λ (b : Bool). if b then unwrap_or (s.value c.field c.k c.j c.i) (pos 0) else get_or (level_kept lists c.field) (kept_place plan split d p c) (pos 0)) (there c e)))
      (equal_or_not c.field f);
}

-- the cells of other levels are not the same
other_level : (c x : Cell) → (x.field ≡ c.field → ⊥) → same_cell c x ≡ false
other_level c x apart =
    let none : (c.field == x.field) ≡ false = unlike c.field x.field apart in
    ap (λ (b : Bool). b && ((c.k == x.k) && (int_same c.j x.j && int_same c.i x.i))) none

-- one cell is set
pub one_cell : (plan : Plan) (split : Split) (d p : ℕ) (lists : List (List ℤ)) (c : Cell) (v : ℤ) → c.field < length lists → IsKeptCell plan split d p c → kept_place plan split d p c < length (level_kept lists c.field) →
    SetsExactly plan split d p (cell_setting c v) lists (set lists c.field (set (level_kept lists c.field) (kept_place plan split d p c) v))
one_cell plan split d p lists c v h kept at =
    let xs : List ℤ = level_kept lists c.field in
    let n : ℕ = kept_place plan split d p c in
    level_set plan split d p lists c.field (set xs n v) (cell_setting c v) h (length-set xs n v)
    (λ x k e. ⊎_elim
    (λ same. let is : c ≡ x = same_cell-equal c x same in
    subst (λ (y : Cell). get_or (set xs n v) (kept_place plan split d p y) (pos 0) ≡ left_at (cell_setting c v) y (get_or xs (kept_place plan split d p y) (pos 0))) is
    (get_or-set_same xs n v (pos 0) at ∙ sym (ap (λ (b : Bool). if b then v else get_or xs n (pos 0)) (same_cell-same c))))
    (λ other.
    get_or-set_other xs n (kept_place plan split d p x) v (pos 0) (λ w. differ (sym (ap (λ (y : Cell). same_cell c y) (tell_cells plan split d p x c k kept e w) ∙ same_cell-same c) ∙ other))
    ∙ sym (ap (λ (b : Bool). if b then v else get_or xs (kept_place plan split d p x) (pos 0)) other))
    (split_bool (same_cell c x)))
    (λ x apart. other_level c x apart)

-- what holds of a list holds where it was lent and came back
pub lent_kept : {X : Type 0} (P : List X → Type 0) (xs ys : List X) → length ys ≡ length xs → P ys → P (take (length xs) (ys ++ drop (length ys) xs))
lent_kept P xs ys e h = subst P (sym (lent_back xs ys e)) h

-- a level's list that was lent, and came back with a number set
pub lent_level : (lists : List (List ℤ)) (f : ℕ) (r m new : List ℤ) (at : ℕ) (v : ℤ) → f < length lists → r ≡ get_or lists f r → m ≡ get_or lists f r → new ≡ set m at v →
    set lists f (take (length (get_or lists f r)) (new ++ drop (length new) (get_or lists f r))) ≡ set lists f (set (level_kept lists f) at v)
lent_level lists f r m new at v h is same set_is =
    let level : get_or lists f r ≡ level_kept lists f = sym is ∙ get_or_read lists f r h is [] in
    let long : length new ≡ length (get_or lists f r) = ap (λ (xs : List ℤ). length xs) set_is ∙ length-set m at v ∙ ap (λ (xs : List ℤ). length xs) same in
    ap (set lists f) (lent_back (get_or lists f r) new long ∙ set_is ∙ ap (λ (xs : List ℤ). set xs at v) (same ∙ level))

-- and with a change that keeps its length
pub lent_level_by : (F : List ℤ → List ℤ) (lists : List (List ℤ)) (f : ℕ) (r m new : List ℤ) → f < length lists → r ≡ get_or lists f r → m ≡ get_or lists f r → length (F (level_kept lists f)) ≡ length (level_kept lists f) → new ≡ F m →
    set lists f (take (length (get_or lists f r)) (new ++ drop (length new) (get_or lists f r))) ≡ set lists f (F (level_kept lists f))
lent_level_by F lists f r m new h is same keeps set_is =
    let level : get_or lists f r ≡ level_kept lists f = sym is ∙ get_or_read lists f r h is [] in
    let now : new ≡ F (level_kept lists f) = set_is ∙ ap F (same ∙ level) in
    let long : length new ≡ length (get_or lists f r) = ap (λ (xs : List ℤ). length xs) now ∙ keeps ∙ ap (λ (xs : List ℤ). length xs) (sym level) in
    ap (set lists f) (lent_back (get_or lists f r) new long ∙ now)
