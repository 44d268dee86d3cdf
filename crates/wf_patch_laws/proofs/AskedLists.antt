-- The lists that nest items give to stored functions are accepted.
use Rattle.std.proofs.Common.{◌≡◌, ⊎_elim, ℕ, ◌+◌, ◌-◌, ◌*◌, ◌/◌, ◌%◌, ◌<◌, ◌≤◌, Bool, true, false, List, [], ◌∷◌, length, map, refl, sym, ◌∙◌, subst, arith, Option, Some, None, All}
use Rattle.std.proofs.Math.Nat.{mod-lt, mul-le-mul_right, suc-mul, zero-mul}
use Rattle.std.proofs.lemmas.List.{length-append, length-map}
use Rattle.std.proofs.lemmas.List.Elements.{All-nil, All-cons}
use Rattle.std.proofs.lemmas.List.FromFn.{length-range_with_len}
use Rattle.std.specs.Prelude.{ℤ, pos, ◌&&◌, nat_le, find, option_map, unwrap_or, flat_map, if◌then◌else◌}
use Rattle.std.specs.List.{range_with_len}
use Rattle.wf_model.specs.declared.plan.Plan.{Plan}
use Rattle.wf_model.specs.Grids.{Grids}
use Rattle.wf_model.specs.Plans.{domain_of, field_of, no_domain, nx, ny, point_x, point_y, is_within}
use Rattle.wf_model.specs.Nests.{Offset, offset, held_at, between_points, nest_points, behind}
use Rattle.wf_model.specs.Patches.{Cell}
use Rattle.wf_model.specs.Exchange.{same_cell, cells_behind}
use Rattle.wf_model.specs.PatchEffect.{Mail, came}
use Rattle.wf_model.specs.Ranges.{IsRangedDomain}
use Rattle.wf_model.specs.Sound.{IsDomain, IsSoundNest}
use Rattle.wf_model.specs.Hooks.{IsShort}
use Rattle.wf_laws.proofs.Bools.{split_bool}
use Rattle.wf_laws.proofs.Members.{In, In-get_or, In-map_out, In-flat_map_out, All-In, find-Some, In-All}
use Rattle.wf_patch_laws.specs.Functions.{IsPlannedNest, AreShort, CameShort, StartsAskAccepted, PatchesAskAccepted, FeedbacksAskAccepted, PatchesFeedAccepted}

-- what is known of a nest's ratio
record IsRatio (n : ℕ) : Type 0 where
  some : 1 ≤ n
  odd : n % 2 ≡ 1
  most : n ≤ 15

-- the domain of a number is one of the plan's
domain_in : (plan : Plan) (c : ℕ) → IsDomain plan c → In (domain_of plan c) plan.domains
unfolding domain_of
domain_in plan c is = In-get_or plan.domains (c - 1) no_domain (omega (arith, is.0, is.1))

-- a nest's ratio
ratio_of : (plan : Plan) (c : ℕ) → IsPlannedNest plan c → IsRatio (domain_of plan c).ratio
ratio_of plan c is =
    let nest : IsSoundNest plan c = (is.sound).nests c is.nest is.domain in
    let range : IsRangedDomain (domain_of plan c) = All-In IsRangedDomain (domain_of plan c) plan.domains (is.ranged).domains (domain_in plan c is.domain) in
    record { some = (range.ratio).0; odd = nest.odd; most = (range.ratio).1 }

-- a point lies less than a whole cell past the parent's
past_below : (stag : Bool) (start ratio i : ℕ) → 1 ≤ ratio → (offset stag start ratio i).past < ratio
unfolding offset
past_below true start ratio i h = mod-lt (i - 1) h
past_below false start ratio i h =
    let within : (i - 1) % ratio < ratio = mod-lt (i - 1) h in
    by ((i - 1) % ratio) ((ratio - 1) / 2) within
  where
    by : (w half : ℕ) → w < ratio → (let o : Offset = if nat_le half w then record { at = start + (i - 1) / ratio; past = w - half } else record { at = start + (i - 1) / ratio - 1; past = w + ratio - half } in o).past < ratio
    by w half l = ⊎_elim
        (λ t. subst (λ (b : Bool). (let o : Offset = if b then record { at = start + (i - 1) / ratio; past = w - half } else record { at = start + (i - 1) / ratio - 1; past = w + ratio - half } in o).past < ratio) (sym t) (less w half ratio l))
        (λ t. subst (λ (b : Bool). (let o : Offset = if b then record { at = start + (i - 1) / ratio; past = w - half } else record { at = start + (i - 1) / ratio - 1; past = w + ratio - half } in o).past < ratio) (sym t) (behind_half w half ratio t l))
        (split_bool (nat_le half w))
      where
        less : (w half n : ℕ) → w < n → w - half < n
        less w half n h = omega arith

        behind_half : (w half n : ℕ) → nat_le half w ≡ false → w < n → w + n - half < n
        behind_half w half n t h = grind arith

-- 0 is of 32 bits
zero_short : IsShort (pos 0)
zero_short = refl

-- a number of the grids, or 0
held_short : (plan : Plan) (g : Grids) (d f k j i : ℕ) → AreShort g → IsShort (held_at plan g d f k j i)
held_short plan g d f k j i short = choice (is_within 1 (ny plan d f) j && is_within 1 (nx plan d f) i) (g d f k j i) (short d f k j i)
  where
    choice : (b : Bool) (z : ℤ) → IsShort z → IsShort (if b then z else pos 0)
    choice true z h = h
    choice false z h = refl

-- four numbers of 32 bits
four_short : (a b c e : ℤ) → IsShort a → IsShort b → IsShort c → IsShort e → All IsShort (a ∷ b ∷ c ∷ e ∷ [])
four_short a b c e h i j k = All-cons IsShort a (b ∷ c ∷ e ∷ []) h (All-cons IsShort b (c ∷ e ∷ []) i (All-cons IsShort c (e ∷ []) j (All-cons IsShort e [] k (All-nil IsShort))))

-- the law on starts and forces
pub start_asks : StartsAskAccepted
unfolding between_points
start_asks plan g c f k j i is short =
    let n : ℕ = (domain_of plan c).ratio in
    let known : IsRatio n = ratio_of plan c is in
    let x : Offset = offset (field_of plan f).stag_x (domain_of plan c).i_start n i in
    let y : Offset = offset (field_of plan f).stag_y (domain_of plan c).j_start n j in
    let d : ℕ = (domain_of plan c).parent in
    record {
      asks = λ m id. refl;
      accepted = record {
        p00 = held_at plan g d f k (y.at + 0) (x.at + 0);
        p10 = held_at plan g d f k (y.at + 0) (x.at + 1);
        p01 = held_at plan g d f k (y.at + 1) (x.at + 0);
        p11 = held_at plan g d f k (y.at + 1) (x.at + 1);
        a = x.past;
        b = y.past;
        ratio = n;
        is = refl;
        short = four_short _ _ _ _ (held_short plan g d f k (y.at + 0) (x.at + 0) short) (held_short plan g d f k (y.at + 0) (x.at + 1) short) (held_short plan g d f k (y.at + 1) (x.at + 0) short) (held_short plan g d f k (y.at + 1) (x.at + 1) short);
        past_x = past_below (field_of plan f).stag_x (domain_of plan c).i_start n i known.some;
        past_y = past_below (field_of plan f).stag_y (domain_of plan c).j_start n j known.some;
        odd = known.odd;
        most = known.most;
      };
    }

-- a number that came, or 0
pub came_short : (mail : Mail) (z : Cell) → CameShort mail → IsShort (unwrap_or (came mail z) (pos 0))
came_short mail z short = by (find (λ p. same_cell z p.0) mail) refl
  where
    by : (o : Option (Cell × ℤ)) → find (λ p. same_cell z p.0) mail ≡ o → IsShort (unwrap_or (option_map (λ p. p.1) o) (pos 0))
    by None is = refl
    by (Some x) is = All-In (λ (y : Cell × ℤ). IsShort y.1) x mail short (find-Some (λ p. same_cell z p.0) x mail is).0

-- the law on patches
pub patch_asks : PatchesAskAccepted
patch_asks r c mail z is short =
    let plan : Plan = r.plan in
    let n : ℕ = (domain_of plan c).ratio in
    let known : IsRatio n = ratio_of plan c is in
    let x : Offset = offset (field_of plan z.field).stag_x (domain_of plan c).i_start n (point_x plan c z.field z.i) in
    let y : Offset = offset (field_of plan z.field).stag_y (domain_of plan c).j_start n (point_y plan c z.field z.j) in
    let near : ℕ → ℕ → Cell = λ dj di. record { field = z.field; k = z.k; j = pos (y.at + dj); i = pos (x.at + di) } in
    let at : ℕ → ℕ → ℤ = λ dj di. unwrap_or (came mail (near dj di)) (pos 0) in
    record {
      asks = λ id. refl;
      accepted = record {
        p00 = at 0 0;
        p10 = at 0 1;
        p01 = at 1 0;
        p11 = at 1 1;
        a = x.past;
        b = y.past;
        ratio = n;
        is = refl;
        short = four_short _ _ _ _ (came_short mail (near 0 0) short) (came_short mail (near 0 1) short) (came_short mail (near 1 0) short) (came_short mail (near 1 1) short);
        past_x = past_below (field_of plan z.field).stag_x (domain_of plan c).i_start n (point_x plan c z.field z.i) known.some;
        past_y = past_below (field_of plan z.field).stag_y (domain_of plan c).j_start n (point_y plan c z.field z.j) known.some;
        odd = known.odd;
        most = known.most;
      };
    }

-- how many points of a nest lie behind one, in one direction
points_some : (stag : Bool) (start ratio x : ℕ) → IsRatio ratio → (1 ≤ length (nest_points stag start ratio x)) × (length (nest_points stag start ratio x) ≤ 15)
points_some true start ratio x h = (omega arith, omega arith)
points_some false start ratio x h =
    let l : length (range_with_len ((x - start) * ratio + 1) ratio) ≡ ratio = length-range_with_len ((x - start) * ratio + 1) ratio in
    (omega (arith, l, h.some), omega (arith, l, h.most))

-- as many as rows times columns
length_rows : {X : Type 0} (f : ℕ → ℕ → X) (ys xs : List ℕ) → length (flat_map (λ y. map (f y) xs) ys) ≡ length ys * length xs
length_rows f [] xs = sym (zero-mul (length xs))
length_rows f (y ∷ ys) xs = omega (arith, length-append (map (f y) xs) (flat_map (λ y. map (f y) xs) ys), length-map xs (f y), length_rows f ys xs, suc-mul (length ys) (length xs))

-- a product of some numbers is some
product_some : (a b : ℕ) → 1 ≤ a → 1 ≤ b → 1 ≤ a * b
product_some a b h k = let w : 1 * b ≤ a * b = mul-le-mul_right b h in omega (arith, w, suc-mul 0 b, zero-mul b, k)

-- and of two numbers to 15 at most 225
product_most : (a b : ℕ) → a ≤ 15 → b ≤ 15 → a * b ≤ 225
product_most a b h k = let w : a * b ≤ 15 * b = mul-le-mul_right b h in omega (arith, w, k)

-- the law on feedbacks
pub feedback_asks : FeedbacksAskAccepted
unfolding behind
feedback_asks plan g c f k j i is short =
    let n : ℕ = (domain_of plan c).ratio in
    let known : IsRatio n = ratio_of plan c is in
    let xs : List ℕ = nest_points (field_of plan f).stag_x (domain_of plan c).i_start n i in
    let ys : List ℕ = nest_points (field_of plan f).stag_y (domain_of plan c).j_start n j in
    let in_x = points_some (field_of plan f).stag_x (domain_of plan c).i_start n i known in
    let in_y = points_some (field_of plan f).stag_y (domain_of plan c).j_start n j known in
    let count : length (flat_map (λ y. map (λ x. g c f k y x) xs) ys) ≡ length ys * length xs = length_rows (λ y x. g c f k y x) ys xs in
    record {
      values = behind plan g c f k j i;
      is = refl;
      some = subst (λ (l : ℕ). 1 ≤ l) (sym count) (product_some (length ys) (length xs) in_y.0 in_x.0);
      most = subst (λ (l : ℕ). l ≤ 225) (sym count) (product_most (length ys) (length xs) in_y.1 in_x.1);
      short = In-All IsShort (flat_map (λ y. map (λ x. g c f k y x) xs) ys) (λ z h.
          let row = In-flat_map_out (λ y. map (λ x. g c f k y x) xs) z ys h in
          let at = In-map_out (λ x. g c f k row.0 x) z xs row.2 in
          subst IsShort (sym at.2) (short c f k row.0 at.0));
    }

-- the law on patches' feedbacks
pub patch_feeds : PatchesFeedAccepted
patch_feeds plan c mail z is short =
    let n : ℕ = (domain_of plan c).ratio in
    let p : ℕ = (domain_of plan c).parent in
    let known : IsRatio n = ratio_of plan c is in
    let xs : List ℕ = nest_points (field_of plan z.field).stag_x (domain_of plan c).i_start n (point_x plan p z.field z.i) in
    let ys : List ℕ = nest_points (field_of plan z.field).stag_y (domain_of plan c).j_start n (point_y plan p z.field z.j) in
    let in_x = points_some (field_of plan z.field).stag_x (domain_of plan c).i_start n (point_x plan p z.field z.i) known in
    let in_y = points_some (field_of plan z.field).stag_y (domain_of plan c).j_start n (point_y plan p z.field z.j) known in
    let number : Cell → ℤ = λ x. unwrap_or (came mail x) (pos 0) in
    let count : length (map number (cells_behind plan c z)) ≡ length ys * length xs =
    length-map (cells_behind plan c z) number ∙ length_rows (λ (y i : ℕ). let w : Cell = record { field = z.field; k = z.k; j = pos y; i = pos i } in w) ys xs in
    record {
      values = map number (cells_behind plan c z);
      is = refl;
      some = subst (λ (l : ℕ). 1 ≤ l) (sym count) (product_some (length ys) (length xs) in_y.0 in_x.0);
      most = subst (λ (l : ℕ). l ≤ 225) (sym count) (product_most (length ys) (length xs) in_y.1 in_x.1);
      short = In-All IsShort (map number (cells_behind plan c z)) (λ v h.
          let at = In-map_out number v (cells_behind plan c z) h in
          subst IsShort (sym at.2) (came_short mail at.0 short));
    }
