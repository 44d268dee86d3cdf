-- Numbers of 32 bits: where a run begins with such numbers, all numbers of its grids are, also past an overflow.
use Rattle.std.proofs.Common.{⊎_elim, ℕ, zero, suc, ◌-◌, Bool, true, false, List, [], ◌∷◌, refl, sym, subst, Option, Some, None, All, get_or}
use Rattle.std.proofs.lemmas.List.Elements.{All-head, All-tail}
use Rattle.std.specs.Prelude.{ℤ, pos, ◌&&◌, ◌||◌, ◌==◌, fold, take, unwrap_or, slice_index_or, if◌then◌else◌}
use Rattle.wf_model.specs.declared.plan.Item.{Item}
use Rattle.wf_model.specs.declared.plan.Item.TheVariants as item
use Rattle.wf_model.specs.declared.script.Act.{Act}
use Rattle.wf_model.specs.declared.script.Act.TheVariants.{Start, Force, Feedback, Table, Emit}
use Rattle.wf_model.specs.declared.script.Entry.{Entry}
use Rattle.wf_model.specs.Numbers.{fits_i32, in_i32, and_then}
use Rattle.wf_model.specs.Value.{number_of}
use Rattle.wf_model.specs.Grids.{Grids, grid_from}
use Rattle.wf_model.specs.Changes.{Change, nothing, changed, table_change, swapped_with, sight_at}
use Rattle.wf_model.specs.Nests.{or_old, between_points, behind, digest}
use Rattle.wf_model.specs.Plans.{domain_of, field_of, item_of}
use Rattle.wf_model.specs.Outcome.{RunData, no_list, no_lists, script, input_grids, begin_grids, act_change, change_of, grids_after, grids_at}
use Rattle.wf_model.specs.Hooks.{IsShort}
use Rattle.wf_laws.specs.Asked.{asked_between}
use Rattle.wf_laws.proofs.Bools.{split_bool}

-- what a choice gives, or 0
abbrev pub IsShortChoice : Option ℤ → Type 0
IsShortChoice o = IsShort (unwrap_or o (pos 0))

-- a number that fits, or 0
pub fit_short : (z : ℤ) → IsShortChoice (in_i32 z)
fit_short z =
    ⊎_elim
    (λ t. subst (λ (b : Bool). IsShortChoice (if b then Some z else None)) (sym t) t)
    (λ t. subst (λ (b : Bool). IsShortChoice (if b then Some z else None)) (sym t) refl)
    (split_bool (fits_i32 z))

-- a number of a choice that fits, or 0
pub fits_short : (o : Option ℤ) → IsShortChoice (and_then o in_i32)
fits_short None = refl
fits_short (Some z) = fit_short z

-- a function's number, or the old one
pub old_short : (made : ℕ → Option ℤ) (old : ℤ) (o : Option ℕ) → ((id : ℕ) → IsShortChoice (made id)) → IsShort old → IsShortChoice (or_old made old o)
old_short made old None h k = k
old_short made old (Some id) h k = h id

-- a start's number
pub start_short : (b : Bool) (parents : Option ℤ) (x : ℤ) → IsShortChoice parents → IsShort x → IsShortChoice (if b then and_then parents (λ v. Some x) else parents)
start_short true None x h k = refl
start_short true (Some v) x h k = k
start_short false parents x h k = h

-- one of two numbers
pub choice_short : (b : Bool) (x y : ℤ) → IsShort x → IsShort y → IsShort (if b then x else y)
choice_short true x y h k = h
choice_short false x y h k = k

-- the element of a list of such
pub at_short : {X : Type 0} (P : X → Type 0) (xs : List X) (n : ℕ) (d : X) → All P xs → P d → P (get_or xs n d)
at_short P [] n d h k = k
at_short P (x ∷ xs) zero d h k = All-head P x xs h
at_short P (x ∷ xs) (suc n) d h k = at_short P xs n d (All-tail P x xs h) k

-- all numbers of grids
abbrev pub AllShort : Grids → Type 0
AllShort g = (d f k j i : ℕ) → IsShort (g d f k j i)

module _ (r : RunData) (inputs : (d f : ℕ) → All IsShort (slice_index_or (slice_index_or r.initial.grids (d - 1) no_lists) f no_list)) where
  -- what is read
  pub input_short : (d f k j i : ℕ) → IsShort (input_grids r d f k j i)
  unfolding grid_from
  input_short d f k j i = at_short IsShort (slice_index_or (slice_index_or r.initial.grids (d - 1) no_lists) f no_list) _ (pos 0) (inputs d f) refl

  -- what each grid begins with
  pub begin_short : AllShort (begin_grids r)
  unfolding begin_grids
  begin_short d f k j i = by ((d == 1) || _)
    where
      by : (b : Bool) → IsShort ((if b then input_grids r d f else (λ k j i. pos 0)) k j i)
      by true = input_short d f k j i
      by false = refl

  -- what a change gives
  abbrev IsShortChange : Change → Type 0
  IsShortChange c = (f k j i : ℕ) → IsShortChoice (c.value f k j i)

  -- of an item of the table
  table_short : (g : Grids) (d step : ℕ) (it : Item) → AllShort g → IsShortChange (table_change r.plan r.answers g d step it)
  unfolding table_change nothing
  table_short g d step (item.Halo parts) short f k j i = refl
  table_short g d step (item.Period parts) short f k j i = refl
  table_short g d step (item.Swap one two) short f k j i = short d (swapped_with one two f) k j i
  table_short g d step (item.Phase ph) short f k j i = fits_short (number_of r.answers (sight_at r.plan g d step k j i) ph.expr)

  -- of an entry
  entry_short : (g : Grids) (e : Entry) (act : Act) → AllShort g → IsShortChange (act_change r g e act)
  unfolding nothing between_points
  entry_short g e Start short f k j i =
      start_short ((field_of r.plan f).input && (domain_of r.plan e.domain).from_file) _ _
      (old_short (λ id. between_points r.plan r.answers g e.domain f id k j i) (g e.domain f k j i) (field_of r.plan f).down (λ id. fit_short (r.answers id (asked_between r.plan g e.domain f k j i))) (short e.domain f k j i)) (input_short e.domain f k j i)
  entry_short g e Force short f k j i = old_short (λ id. between_points r.plan r.answers g e.domain f id k j i) (pos 0) (field_of r.plan f).edge (λ id. fit_short (r.answers id (asked_between r.plan g e.domain f k j i))) refl
  entry_short g e Feedback short f k j i = old_short (λ id. in_i32 (r.answers id (digest (behind r.plan g e.domain f k j i)))) (pos 0) (field_of r.plan f).up (λ id. fit_short (r.answers id (digest (behind r.plan g e.domain f k j i)))) refl
  entry_short g e (Table n) short f k j i = table_short g e.domain e.step (item_of r.plan n) short f k j i
  entry_short g e (Emit s) short f k j i = refl

  -- the grids after an entry
  after_short : (g : Grids) (e : Entry) → AllShort g → AllShort (grids_after r g e)
  unfolding grids_after changed change_of
  after_short g e short d f k j i =
      choice_short ((d == (act_change r g e e.act).domain) && (act_change r g e e.act).sets f k j i) _ _ (entry_short g e e.act short f k j i) (short d f k j i)

  -- after entries
  fold_short : (g : Grids) (es : List Entry) → AllShort g → AllShort (fold (grids_after r) g es)
  fold_short g [] short = short
  fold_short g (e ∷ es) short = fold_short (grids_after r g e) es (after_short g e short)

  -- the grids before each place
  pub run_short : (n : ℕ) → AllShort (grids_at r n)
  unfolding grids_at
  run_short n = fold_short (begin_grids r) (take n (script r)) begin_short
