-- Grids that begin with numbers of 32 bits hold such numbers.
use Rattle.std.proofs.Common.{◌≡◌, inl, inr, ℕ, ◌+◌, ◌-◌, ◌*◌, ◌^◌, ◌<◌, Bool, true, false, List, [], ◌∷◌, ◌++◌, length, get_or, take, ℤ, pos, negsuc, Option, Some, None, refl, sym, subst, arith}
use Rattle.std.proofs.lemmas.Bool.{cases_lt}
use Rattle.std.proofs.lemmas.Bool.Decides.{nat_tests}
use Rattle.std.proofs.lemmas.List.{get_or_past}
use Rattle.std.proofs.lemmas.List.Elements.{All-nil, All-cons, All-head, All-tail}
use Rattle.std.specs.Prelude.{fold, flat_map, map, All, FitsSigned, unwrap_or, nat_lt, ◌==◌, ◌&&◌, ◌||◌, if◌then◌else◌}
use Rattle.std.specs.Int.{w32}
use Rattle.wf_model.specs.declared.plan.Item.{Item}
use Rattle.wf_model.specs.declared.plan.Item.TheVariants as item
use Rattle.wf_model.specs.declared.plan.Plan.{Plan}
use Rattle.wf_model.specs.declared.script.Act.{Act}
use Rattle.wf_model.specs.declared.script.Act.TheVariants.{Start, Force, Feedback, Table, Emit}
use Rattle.wf_model.specs.declared.script.Entry.{Entry}
use Rattle.wf_model.specs.Numbers.{in_i32, and_then}
use Rattle.wf_model.specs.Value.{Answers, number_of}
use Rattle.wf_model.specs.Grids.{Grid, Grids, listed, grid_from}
use Rattle.wf_model.specs.Streams.{file_x, file_y, file_list}
use Rattle.wf_model.specs.Changes.{Change, changed, nothing, swapped_with, sight_at, table_change}
use Rattle.wf_model.specs.Nests.{offset, held_at, digest, behind, or_old, between_points}
use Rattle.wf_model.specs.Plans.{domain_of, field_of, item_of, begin_of, up_to, nx, ny, nz, point_x, point_y}
use Rattle.wf_model.specs.Outcome.{RunData, script, no_list, no_lists, input_grids, begin_grids, act_change, change_of, grids_after, grids_at}
use Rattle.wf_restart_laws.specs.ReadBack.{HasInts}
use Rattle.wf_restart_laws.specs.Filed.{GridsHaveInts, FileListsHaveInts}

abbrev pub IsInt : ℤ → Type 0
IsInt z = FitsSigned w32 z

-- no number, or one of 32 bits
abbrev MayBeInt : Option ℤ → Type 0
MayBeInt None = Unit {0}
MayBeInt (Some z) = IsInt z

zero_fits : IsInt (pos 0)
zero_fits = record { sfits = omega arith }

-- what fits is of 32 bits
fits : (z : ℤ) → MayBeInt (in_i32 z)
fits (pos n) = of (nat_lt n (2 ^ 31)) (λ e. record { sfits = below n e })
  where
    below : (n : ℕ) → nat_lt n (2 ^ 31) ≡ true → n < 2 ^ 31
    below n e = grind (arith, nat_tests)

    of : (b : Bool) → (b ≡ true → IsInt (pos n)) → MayBeInt (if b then Some (pos n) else None)
    of true k = k refl
    of false k = tt
fits (negsuc n) = of (nat_lt n (2 ^ 31)) (λ e. record { sfits = below n e })
  where
    below : (n : ℕ) → nat_lt n (2 ^ 31) ≡ true → n < 2 ^ 31
    below n e = grind (arith, nat_tests)

    of : (b : Bool) → (b ≡ true → IsInt (negsuc n)) → MayBeInt (if b then Some (negsuc n) else None)
    of true k = k refl
    of false k = tt

then_fits : (o : Option ℤ) → MayBeInt (and_then o in_i32)
then_fits None = tt
then_fits (Some z) = fits z

kept : (o : Option ℤ) → MayBeInt o → IsInt (unwrap_or o (pos 0))
kept None h = zero_fits
kept (Some z) h = h

or_old_fits : (made : ℕ → Option ℤ) (old : ℤ) (o : Option ℕ) → ((id : ℕ) → MayBeInt (made id)) → IsInt old → MayBeInt (or_old made old o)
or_old_fits made old None a b = b
or_old_fits made old (Some id) a b = a id

then_some : (o : Option ℤ) (v : ℤ) → IsInt v → MayBeInt (and_then o (λ (x : ℤ). Some v))
then_some None v h = tt
then_some (Some z) v h = h

choose : (b : Bool) (x y : Option ℤ) → MayBeInt x → MayBeInt y → MayBeInt (if b then x else y)
choose true x y a c = a
choose false x y a c = c

choose_int : (b : Bool) (x y : ℤ) → IsInt x → IsInt y → IsInt (if b then x else y)
choose_int true x y a c = a
choose_int false x y a c = c

-- all numbers of grids, whatever the point
abbrev pub AllInts : Grids → Type 0
AllInts g = (d f k j i : ℕ) → IsInt (g d f k j i)

-- a change to numbers of 32 bits
changed_ints : (c : Change) (g : Grids) → ((f k j i : ℕ) → MayBeInt (c.value f k j i)) → AllInts g → AllInts (changed c g)
unfolding changed
changed_ints c g h all d f k j i = choose_int ((d == c.domain) && c.sets f k j i) (unwrap_or (c.value f k j i) (pos 0)) (g d f k j i) (kept (c.value f k j i) (h f k j i)) (all d f k j i)

between_fits : (plan : Plan) (m : Answers) (g : Grids) (c f id k j i : ℕ) → MayBeInt (between_points plan m g c f id k j i)
unfolding between_points
between_fits plan m g c f id k j i =
    let dom = domain_of plan c in
    let x = offset (field_of plan f).stag_x dom.i_start dom.ratio i in
    let y = offset (field_of plan f).stag_y dom.j_start dom.ratio j in
    let at : ℕ → ℕ → ℤ = λ dj di. held_at plan g dom.parent f k (y.at + dj) (x.at + di) in
    fits (m id (at 0 0 ∷ at 0 1 ∷ at 1 0 ∷ at 1 1 ∷ pos x.past ∷ pos y.past ∷ pos dom.ratio ∷ []))

table_fits : (plan : Plan) (m : Answers) (g : Grids) (d step : ℕ) (it : Item) → AllInts g → (f k j i : ℕ) → MayBeInt ((table_change plan m g d step it).value f k j i)
unfolding table_change nothing
table_fits plan m g d step (item.Halo parts) all f k j i = tt
table_fits plan m g d step (item.Period parts) all f k j i = tt
table_fits plan m g d step (item.Swap one two) all f k j i = all d (swapped_with one two f) k j i
table_fits plan m g d step (item.Phase ph) all f k j i = then_fits (number_of m (sight_at plan g d step k j i) ph.expr)

-- a number of a list
listed_int : (ys xs : ℕ) (list : List ℤ) (k j i : ℕ) → All IsInt list → IsInt (grid_from ys xs list k j i)
unfolding grid_from
listed_int ys xs list k j i all = elim (cases_lt (((k - 1) * ys + (j - 1)) * xs + (i - 1)) (length list)) [
  | inl lt ↦ all (((k - 1) * ys + (j - 1)) * xs + (i - 1)) (pos 0) lt
  | inr past ↦ subst (λ z. IsInt z) (sym (get_or_past list (((k - 1) * ys + (j - 1)) * xs + (i - 1)) (pos 0) past)) zero_fits
]

module _ (r : RunData) (has : HasInts r.initial) where
  input_int : (d f k j i : ℕ) → IsInt (input_grids r d f k j i)
  input_int d f k j i = listed_int (ny r.plan d f) (nx r.plan d f) (get_or (get_or r.initial.grids (d - 1) no_lists) f no_list) k j i (has d f)

  begin_ints : AllInts (begin_grids r)
  unfolding begin_grids
  begin_ints d f k j i = of ((d == 1) || (begin_of r.initial.begins d).resumed)
    where
      of : (b : Bool) → IsInt ((if b then input_grids r d f else (λ k j i. pos 0)) k j i)
      of true = input_int d f k j i
      of false = zero_fits

  -- an item
  act_ints : (g : Grids) (e : Entry) (a : Act) → AllInts g → (f k j i : ℕ) → MayBeInt ((act_change r g e a).value f k j i)
  unfolding nothing
  act_ints g e Start all f k j i =
      let parents : Option ℤ = or_old (λ id. between_points r.plan r.answers g e.domain f id k j i) (g e.domain f k j i) (field_of r.plan f).down in
      choose ((field_of r.plan f).input && (domain_of r.plan e.domain).from_file) (and_then parents (λ (v : ℤ). Some (input_grids r e.domain f k j i))) parents
      (then_some parents (input_grids r e.domain f k j i) (input_int e.domain f k j i))
      (or_old_fits (λ id. between_points r.plan r.answers g e.domain f id k j i) (g e.domain f k j i) (field_of r.plan f).down (λ id. between_fits r.plan r.answers g e.domain f id k j i) (all e.domain f k j i))
  act_ints g e Force all f k j i = or_old_fits (λ id. between_points r.plan r.answers g e.domain f id k j i) (pos 0) (field_of r.plan f).edge (λ id. between_fits r.plan r.answers g e.domain f id k j i) zero_fits
  act_ints g e Feedback all f k j i = or_old_fits (λ id. in_i32 (r.answers id (digest (behind r.plan g e.domain f k j i)))) (pos 0) (field_of r.plan f).up (λ id. fits (r.answers id (digest (behind r.plan g e.domain f k j i)))) zero_fits
  act_ints g e (Table n) all f k j i = table_fits r.plan r.answers g e.domain e.step (item_of r.plan n) all f k j i
  act_ints g e (Emit s) all f k j i = tt

  after_ints : (g : Grids) (e : Entry) → AllInts g → AllInts (grids_after r g e)
  unfolding grids_after change_of
  after_ints g e all = changed_ints (act_change r g e e.act) g (act_ints g e e.act all) all

  fold_ints : (es : List Entry) (g : Grids) → AllInts g → AllInts (fold (grids_after r) g es)
  fold_ints [] g all = all
  fold_ints (e ∷ es) g all = fold_ints es (grids_after r g e) (after_ints g e all)

  pub grids_ints : (n : ℕ) → AllInts (grids_at r n)
  unfolding grids_at
  grids_ints n = fold_ints (take n (script r)) (begin_grids r) begin_ints

-- lists of numbers of 32 bits
all_both : (xs ys : List ℤ) → All IsInt xs → All IsInt ys → All IsInt (xs ++ ys)
all_both [] ys a b = b
all_both (x ∷ xs) ys a b = All-cons IsInt x (xs ++ ys) (All-head IsInt x xs a) (all_both xs ys (All-tail IsInt x xs a) b)

all_flat : (f : ℕ → List ℤ) (xs : List ℕ) → ((x : ℕ) → All IsInt (f x)) → All IsInt (flat_map f xs)
all_flat f [] h = All-nil IsInt
all_flat f (x ∷ xs) h = all_both (f x) (flat_map f xs) (h x) (all_flat f xs h)

all_map : (f : ℕ → ℤ) (xs : List ℕ) → ((x : ℕ) → IsInt (f x)) → All IsInt (map f xs)
all_map f [] h = All-nil IsInt
all_map f (x ∷ xs) h = All-cons IsInt (f x) (map f xs) (h x) (all_map f xs h)

pub listed_ints : (zs ys xs : ℕ) (g : Grid) → ((k j i : ℕ) → IsInt (g k j i)) → All IsInt (listed zs ys xs g)
unfolding listed
listed_ints zs ys xs g h = all_flat (λ k. flat_map (λ j. map (λ i. g k j i) (up_to xs)) (up_to ys)) (up_to zs) (λ k. all_flat (λ j. map (λ i. g k j i) (up_to xs)) (up_to ys) (λ j. all_map (λ i. g k j i) (up_to xs) (λ i. h k j i)))

pub level_ints : GridsHaveInts
level_ints r n d f has = listed_ints (nz r.plan f) (ny r.plan d f) (nx r.plan d f) (grids_at r n d f) (λ k j i. grids_ints r has n d f k j i)

-- so are those in file shape, at each place of a run
pub file_ints : FileListsHaveInts
unfolding file_list
file_ints r n d f has = listed_ints (nz r.plan f) (file_y r.plan d f) (file_x r.plan d f) (λ k j i. grids_at r n d f k (point_y r.plan d f (pos j)) (point_x r.plan d f (pos i))) (λ k j i. grids_ints r has n d f k (point_y r.plan d f (pos j)) (point_x r.plan d f (pos i)))
