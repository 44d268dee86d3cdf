-- The numbers of a message, and what they set.
use Rattle.std.proofs.Common.{◌≡◌, ⊎_elim, ℕ, Bool, true, false, List, [], ◌∷◌, get_or, map, zip, refl, sym, ap, subst, ◌∙◌, All, cond, arith}
use Rattle.std.specs.Prelude.{ℤ, pos, ◌||◌, Option, Some, None, option_map, find, is_some, unwrap_or, if◌then◌else◌}
use Rattle.std.specs.List.{list_any}
use Rattle.wf_model.specs.declared.layout.Layout.{Layout}
use Rattle.wf_model.specs.declared.plan.Plan.{Plan}
use Rattle.wf_model.specs.declared.script.Entry.{Entry}
use Rattle.wf_model.specs.Agreement.{IsPatch, IsOwnCell}
use Rattle.wf_model.specs.Core.{memory_point}
use Rattle.wf_model.specs.Exchange.{carried, sender_of, same_cell}
use Rattle.wf_model.specs.Held.{message_numbers, numbers_at}
use Rattle.wf_model.specs.Kept.{IsKeptCell, IsSoundPatch, SetsExactly}
use Rattle.wf_model.specs.Outcome.{RunData, entry_at}
use Rattle.wf_model.specs.PatchEffect.{came, fetch_setting}
use Rattle.wf_model.specs.Patches.{Split, Cell, split_of, is_place, kept_at}
use Rattle.wf_model.specs.Shapes.{grid_cell}
use Rattle.wf_model.specs.Sound.{IsDomain}
use Rattle.wf_laws.proofs.Bools.{split_bool}
use Rattle.wf_laws.proofs.Fetch.{same_cell-equal}
use Rattle.wf_laws.proofs.Members.{In, In-Contains, In-All, map-same}
use Rattle.wf_laws.proofs.Places.{IsRoom, room_of, back_x, back_y}
use Rattle.wf_laws.proofs.Reach.{memory_place}
use Rattle.wf_patch_laws.specs.InMemory.{point_cell}
use Rattle.wf_patch_laws.proofs.KeptCells.{messages_kept}
use Rattle.wf_patch_laws.proofs.SentCells.{sent_own}
use Rattle.wf_field.specs.Kept.{KeptMemory, number_in}
use Rattle.wf_field.specs.Rows.{SetsKept}
use Rattle.wf_halo.specs.Exchange.{HoldsOwnNumbers, IsExchange}
use Rattle.wf_halo.specs.Walks.{Begins}

module _ (r : RunData) (layout : Layout) (place d from to : ℕ) (q : IsExchange r place d) (receives : IsSoundPatch r.plan layout d to) (sends : IsPatch layout from) where
  abbrev e : Entry
  e = entry_at r place

  abbrev cells : List Cell
  cells = carried r.plan (split_of layout) e e.act from to

  sender_is : sender_of r.plan e e.act ≡ d
  sender_is = ap (sender_of r.plan e) q.act ∙ q.domain

  there : IsSoundPatch r.plan layout e.domain to
  there = subst (λ (n : ℕ). IsSoundPatch r.plan layout n to) (sym q.domain) receives

  -- the receiver keeps each cell
  kept_one : (c : Cell) → In c cells → IsKeptCell r.plan (split_of layout) d to c
  kept_one c at = subst (λ (n : ℕ). IsKeptCell r.plan (split_of layout) n to c) q.domain (messages_kept r.plan layout e q.number from to c there q.act q.item (In-Contains c cells at))

  pub kept_all : All (IsKeptCell r.plan (split_of layout) d to) cells
  kept_all = In-All (IsKeptCell r.plan (split_of layout) d to) cells kept_one

  -- the sender owns the point of each
  own_one : (c : Cell) → In c cells → IsOwnCell r.plan (split_of layout) d from (point_cell r.plan d c)
  own_one c at =
      subst (λ (n : ℕ). IsOwnCell r.plan (split_of layout) n from (point_cell r.plan n c)) sender_is
      (sent_own r.plan layout e from to c receives.laid (subst (IsDomain r.plan) (sym sender_is) receives.domain) sends (In-Contains c cells at))

  -- so its memory has the run's number of it
  pub numbers_are : (m : KeptMemory) → m.domain ≡ d → m.patch ≡ from → HoldsOwnNumbers r layout place m → map (memory_point r.plan d (number_in r.plan layout m)) cells ≡ message_numbers r layout place from to
  unfolding message_numbers
  numbers_are m domain patch holds =
      map-same (memory_point r.plan d (number_in r.plan layout m)) (grid_cell r.plan d (numbers_at r layout place)) cells
      (λ c at.
      let kept = kept_one c at in
      let own = subst (λ (n : ℕ). IsOwnCell r.plan (split_of layout) n m.patch (point_cell r.plan d c)) (sym domain) (subst (λ (n : ℕ). IsOwnCell r.plan (split_of layout) d n (point_cell r.plan d c)) (sym patch) (own_one c at)) in
      let number = holds (point_cell r.plan d c) kept.field own in
      let room : IsRoom r.plan (split_of layout) d = room_of r.plan layout receives.laid d receives.domain in
      let stands : is_place r.plan d c.field c.j c.i ≡ true = memory_place r.plan (split_of layout) d room to c.field c.j c.i (kept.within).within in
      let y = back_y r.plan (split_of layout) d room c.field c.j c.i stands in
      let x = back_x r.plan (split_of layout) d room c.field c.j c.i stands in
      number ∙ ap (λ (n : ℕ). grid_cell r.plan n (numbers_at r layout place) (point_cell r.plan d c)) domain
      ∙ (λ n. numbers_at r layout place d c.field c.k (y n) (x n)))
      ∙ ap (λ (n : ℕ). map (grid_cell r.plan n (numbers_at r layout place)) cells) (sym sender_is)

-- ---- what came

-- of a list with the numbers by cell a cell has its number
came-map : (v : Cell → ℤ) (cells : List Cell) (c : Cell) → list_any (same_cell c) cells ≡ true → came (zip cells (map v cells)) c ≡ Some (v c)
came-map v [] c h = grind arith
came-map v (x ∷ xs) c h =
    (elim (same_cell c x) as (λ b. same_cell c x ≡ b → (b || list_any (same_cell c) xs) ≡ true →
    option_map (λ (q : Cell × ℤ). q.1) (cond b (Some (x, v x)) (find (λ (q : Cell × ℤ). same_cell c q.0) (zip xs (map v xs)))) ≡ Some (v c)) [
      | true ↦ λ is r. ap (λ (y : Cell). Some (v y)) (sym (same_cell-equal c x is))
      | false ↦ λ is r. came-map v xs c r
    ]) refl h

-- and a cell that is not in it has none
came-none : (v : Cell → ℤ) (cells : List Cell) (c : Cell) → list_any (same_cell c) cells ≡ false → came (zip cells (map v cells)) c ≡ None
came-none v [] c h = refl
came-none v (x ∷ xs) c h =
    (elim (same_cell c x) as (λ b. (b || list_any (same_cell c) xs) ≡ false →
    option_map (λ (q : Cell × ℤ). q.1) (cond b (Some (x, v x)) (find (λ (q : Cell × ℤ). same_cell c q.0) (zip xs (map v xs)))) ≡ None) [
      | true ↦ λ r. grind arith
      | false ↦ λ r. came-none v xs c r
    ]) h

-- cells that are set to the numbers by cell are set as they came
pub fetched : (plan : Plan) (split : Split) (d p : ℕ) (v : Cell → ℤ) (cells : List Cell) (values : List ℤ) (old new : List (List ℤ)) → values ≡ map v cells → SetsKept plan split d p v cells old new → SetsExactly plan split d p (fetch_setting (zip cells values)) old new
fetched plan split d p v cells values old new is h =
    subst (λ (xs : List ℤ). SetsExactly plan split d p (fetch_setting (zip cells xs)) old new) (sym is)
    (record {
      levels = h.levels;
      sizes = λ f l. h.sizes f;
      numbers = λ c k. h.numbers c k ∙ ⊎_elim
          (λ (t : list_any (same_cell c) cells ≡ true).
          ap (λ (b : Bool). if b then v c else kept_at plan split d p old c.field c.k c.j c.i) t
          ∙ sym (ap (λ (o : Option ℤ). if is_some o then unwrap_or o (pos 0) else kept_at plan split d p old c.field c.k c.j c.i) (came-map v cells c t)))
          (λ (t : list_any (same_cell c) cells ≡ false).
          ap (λ (b : Bool). if b then v c else kept_at plan split d p old c.field c.k c.j c.i) t
          ∙ sym (ap (λ (o : Option ℤ). if is_some o then unwrap_or o (pos 0) else kept_at plan split d p old c.field c.k c.j c.i) (came-none v cells c t)))
          (split_bool (list_any (same_cell c) cells));
    })

-- the numbers of a message, by cell
pub run_number : RunData → Layout → ℕ → Cell → ℤ
run_number r layout place = grid_cell r.plan (sender_of r.plan (entry_at r place) (entry_at r place).act) (numbers_at r layout place)

pub message_map : (r : RunData) (layout : Layout) (place from to : ℕ) → message_numbers r layout place from to ≡ map (run_number r layout place) (carried r.plan (split_of layout) (entry_at r place) (entry_at r place).act from to)
unfolding message_numbers run_number
message_map r layout place from to = refl

-- a list begins with itself
pub begins_same : (xs ys : List ℤ) → xs ≡ ys → Begins xs ys
begins_same xs ys e m h = ap (λ (zs : List ℤ). get_or zs m (pos 0)) e
