-- A nest's start, force and feedback on two grids that agree where it counts.
use Rattle.std.proofs.Common.{◌≡◌, ⊎_elim, ℕ, suc, ◌+◌, ◌-◌, ◌*◌, ◌/◌, ◌%◌, ◌≤◌, ◌<◌, Bool, true, false, List, [], ◌∷◌, ℤ, pos, Option, Some, None, refl, sym, ap, ◌∙◌, arith}
use Rattle.std.proofs.Math.Nat.{div-mul-le_self, mul-le-mul_right, suc-mul}
use Rattle.std.proofs.lemmas.Bool.Decides.{nat_tests}
use Rattle.std.specs.Prelude.{◌==◌, ◌&&◌, ◌||◌, is_some, if◌then◌else◌}
use Rattle.wf_model.specs.declared.plan.Plan.{Plan}
use Rattle.wf_model.specs.Plans.{domain_of, field_of, nx, ny, nz, is_within}
use Rattle.wf_model.specs.Numbers.{in_i32, and_then}
use Rattle.wf_model.specs.Ranges.{Within}
use Rattle.wf_model.specs.Value.{Answers}
use Rattle.wf_model.specs.Grids.{Grids}
use Rattle.wf_model.specs.Changes.{changed}
use Rattle.wf_model.specs.Nests.{offset, held_at, between_points, or_old, start_change, force_change, is_fed, nest_points, digest, behind, feedback_change}
use Rattle.wf_model.specs.Live.{used_if, live_on, live_through}
use Rattle.wf_model.specs.Sound.{IsDomain, IsLevel, IsSoundPlan, IsSoundNest}
use Rattle.wf_laws.proofs.Bools.{and_right, or_right, differ}
use Rattle.wf_laws.proofs.Members.{In, In-range_out, flat_map-same}
use Rattle.wf_restart_laws.specs.Agrees.{AgreeOn, StartsGoAlike, ForcesGoAlike, FeedbacksGoAlike}
use Rattle.wf_restart_laws.proofs.GoAlike.{overflow-same, choose-same}
use Rattle.wf_restart_laws.proofs.ShiftedSteps.{map-same}

-- ---- values

held-same : (plan : Plan) (p f k : ℕ) (g h : Grids) → AgreeOn plan p f g h → Within 1 (nz plan f) k → (j i : ℕ) → held_at plan g p f k j i ≡ held_at plan h p f k j i
held-same plan p f k g h agree a j i =
    at (is_within 1 (ny plan p f) j) (is_within 1 (nx plan p f) i) (λ y x. agree k j i a (range 1 (ny plan p f) j y) (range 1 (nx plan p f) i x))
  where
    range : (a b x : ℕ) → is_within a b x ≡ true → Within a b x
    range a b x h = (grind (arith, nat_tests), grind (arith, nat_tests))

    at : (y x : Bool) → (y ≡ true → x ≡ true → g p f k j i ≡ h p f k j i) → (if y && x then g p f k j i else pos 0) ≡ (if y && x then h p f k j i else pos 0)
    at true true e = e refl refl
    at true false e = refl
    at false x e = refl

between-same : (plan : Plan) (m : Answers) (c f id k : ℕ) (g h : Grids) → AgreeOn plan (domain_of plan c).parent f g h → Within 1 (nz plan f) k → (j i : ℕ) → between_points plan m g c f id k j i ≡ between_points plan m h c f id k j i
unfolding between_points
between-same plan m c f id k g h agree a j i = λ n.
    (let dom = domain_of plan c in
    let x = offset (field_of plan f).stag_x dom.i_start dom.ratio i in
    let y = offset (field_of plan f).stag_y dom.j_start dom.ratio j in
    let at : ℕ → ℕ → ℤ = λ dj di. held-same plan dom.parent f k g h agree a (y.at + dj) (x.at + di) n in
    in_i32 (m id (at 0 0 ∷ at 0 1 ∷ at 1 0 ∷ at 1 1 ∷ pos x.past ∷ pos y.past ∷ pos dom.ratio ∷ [])))

or_old-same : (made other : ℕ → Option ℤ) (x y : ℤ) (o : Option ℕ) → (is_some o ≡ true → (id : ℕ) → made id ≡ other id) → (is_some o ≡ false → x ≡ y) → or_old made x o ≡ or_old other y o
or_old-same made other x y None a b = ap (λ (v : ℤ). Some v) (b refl)
or_old-same made other x y (Some id) a b = a refl id

-- a level that is used is wanted
use_first : (kept b : Bool) (f : ℕ) (rest : ℕ → Bool) → b ≡ true → (kept || live_on (used_if b f) rest) ≡ true
use_first kept b f rest e = (λ n. kept || live_on (used_if (e n) f) rest) ∙ or_right kept true refl

-- what is wanted after is wanted before
pub used_then : (kept b l : Bool) (f : ℕ) (rest : ℕ → Bool) → rest f ≡ l → (kept || l) ≡ true → (kept || live_on (used_if b f) rest) ≡ true
used_then true b l f rest e h = refl
used_then false true l f rest e h = refl
used_then false false l f rest e h = e ∙ h

-- ---- a start

pub start_alike : StartsGoAlike
unfolding live_through changed
start_alike plan m x y c rest g h sound nest dom above whole given =
    let parents : (f k j i : ℕ) → IsLevel plan f → Within 1 (nz plan f) k → Within 1 (ny plan c f) j → Within 1 (nx plan c f) i →
    or_old (λ id. between_points plan m g c f id k j i) (g c f k j i) (field_of plan f).down ≡ or_old (λ id. between_points plan m h c f id k j i) (h c f k j i) (field_of plan f).down
    = λ f k j i level a b e. or_old-same (λ id. between_points plan m g c f id k j i) (λ id. between_points plan m h c f id k j i) (g c f k j i) (h c f k j i) (field_of plan f).down
    (λ s id. between-same plan m c f id k g h (above f level (use_first (field_of plan f).restart (is_some (field_of plan f).down) f (live_through plan (domain_of plan c).parent rest) s)) a j i)
    (λ s. whole f level k j i a b e) in
    let value : (f k j i : ℕ) → IsLevel plan f → Within 1 (nz plan f) k → Within 1 (ny plan c f) j → Within 1 (nx plan c f) i → (start_change plan m x g c).value f k j i ≡ (start_change plan m y h c).value f k j i
    = λ f k j i level a b e n. if (field_of plan f).input && (domain_of plan c).from_file then and_then (parents f k j i level a b e n) (λ v. Some (given f level k j i a b e n)) else parents f k j i level a b e n in
    record {
      overflow = overflow-same plan c (start_change plan m x g c).sets (start_change plan m x g c).value (start_change plan m y h c).value (λ f k j i level a b e t. value f k j i level a b e);
      after = λ f level k j i a b e.
          choose-same ((c == c) && (start_change plan m x g c).sets f k j i) ((start_change plan m x g c).value f k j i) ((start_change plan m y h c).value f k j i) (g c f k j i) (h c f k j i)
          (λ t. value f k j i level a b e) (λ t. whole f level k j i a b e);
    }

-- ---- a force

pub force_alike : ForcesGoAlike
unfolding live_through changed
force_alike plan m c above rest g h sound nest dom from own =
    let value : (f k j i : ℕ) → IsLevel plan f → Within 1 (nz plan f) k → (force_change plan m g c).value f k j i ≡ (force_change plan m h c).value f k j i
    = λ f k j i level a. or_old-same (λ id. between_points plan m g c f id k j i) (λ id. between_points plan m h c f id k j i) (pos 0) (pos 0) (field_of plan f).edge
    (λ s id. between-same plan m c f id k g h (from f level (use_first (field_of plan f).restart (is_some (field_of plan f).edge) f (live_through plan (domain_of plan c).parent above) s)) a j i)
    (λ s. refl) in
    record {
      overflow = overflow-same plan c (force_change plan m g c).sets (force_change plan m g c).value (force_change plan m h c).value (λ f k j i level a b e t. value f k j i level a);
      after = λ f level wanted k j i a b e.
          choose-same ((c == c) && (force_change plan m g c).sets f k j i) ((force_change plan m g c).value f k j i) ((force_change plan m h c).value f k j i) (g c f k j i) (h c f k j i)
          (λ t. value f k j i level a)
          (λ t. own f level (used_then (field_of plan f).restart (is_some (field_of plan f).edge) (live_through plan c rest f) f (live_through plan c rest) refl wanted) k j i a b e);
    }

-- ---- a feedback

-- the nest's points behind a parent's point lie in the nest
fed_points : (s : Bool) (start ratio len x m : ℕ) → 0 < ratio → is_fed s start (len / ratio) x ≡ true → In m (nest_points s start ratio x) → (1 ≤ m) × (m ≤ len)
fed_points true start ratio len x m h f i =
    let low : start + 1 ≤ x = low_of (start + 1) (start + len / ratio - 1) x f in
    let high : x ≤ start + len / ratio - 1 = high_of (start + 1) (start + len / ratio - 1) x f in
    let many : suc (x - start) * ratio ≤ len / ratio * ratio = mul-le-mul_right ratio (omega arith) in
    let back : len / ratio * ratio ≤ len = div-mul-le_self len ratio in
    let is : m ≡ (x - start) * ratio + 1 = ⊎_elim (λ e. e) (λ e. absurd e) i in
    (omega arith, omega (arith, many, back, is, suc-mul (x - start) ratio))
  where
    low_of : (a b x : ℕ) → is_within a b x ≡ true → a ≤ x
    low_of a b x h = grind arith

    high_of : (a b x : ℕ) → is_within a b x ≡ true → x ≤ b
    high_of a b x h = grind arith
fed_points false start ratio len x m h f i =
    let low : start + 1 ≤ x = low_of (start + 1) (start + len / ratio - 2) x f in
    let high : x ≤ start + len / ratio - 2 = high_of (start + 1) (start + len / ratio - 2) x f in
    let many : suc (x - start) * ratio ≤ len / ratio * ratio = mul-le-mul_right ratio (omega arith) in
    let back : len / ratio * ratio ≤ len = div-mul-le_self len ratio in
    let is = In-range_out m ((x - start) * ratio + 1) ratio i in
    (omega (arith, is.0), omega (arith, many, back, is.1, suc-mul (x - start) ratio))
  where
    low_of : (a b x : ℕ) → is_within a b x ≡ true → a ≤ x
    low_of a b x h = grind arith

    high_of : (a b x : ℕ) → is_within a b x ≡ true → x ≤ b
    high_of a b x h = grind arith

behind-same : (plan : Plan) (c f k j i : ℕ) (g h : Grids) → IsSoundPlan plan → 1 < c → IsDomain plan c → AgreeOn plan c f g h → Within 1 (nz plan f) k →
    is_fed (field_of plan f).stag_y (domain_of plan c).j_start (((domain_of plan c).jde - 1) / (domain_of plan c).ratio) j ≡ true →
    is_fed (field_of plan f).stag_x (domain_of plan c).i_start (((domain_of plan c).ide - 1) / (domain_of plan c).ratio) i ≡ true → behind plan g c f k j i ≡ behind plan h c f k j i
unfolding behind
behind-same plan c f k j i g h sound nest dom agree a y x =
    let s : IsSoundNest plan c = sound.nests c nest dom in
    let some : 0 < (domain_of plan c).ratio = odd_some (domain_of plan c).ratio s.odd in
    flat_map-same _ _ (nest_points (field_of plan f).stag_y (domain_of plan c).j_start (domain_of plan c).ratio j) (λ v iv.
    map-same (λ u. g c f k v u) (λ u. h c f k v u) (nest_points (field_of plan f).stag_x (domain_of plan c).i_start (domain_of plan c).ratio i) (λ u iu.
    let w = fed_points (field_of plan f).stag_y (domain_of plan c).j_start (domain_of plan c).ratio ((domain_of plan c).jde - 1) j v some y iv in
    let z = fed_points (field_of plan f).stag_x (domain_of plan c).i_start (domain_of plan c).ratio ((domain_of plan c).ide - 1) i u some x iu in
    agree k v u a (w.0, omega (arith, w.1)) (z.0, omega (arith, z.1))))
  where
    odd_some : (n : ℕ) → n % 2 ≡ 1 → 0 < n
    odd_some n h = omega arith

pub feedback_alike : FeedbacksGoAlike
unfolding live_through changed
feedback_alike plan m c above rest g h sound nest dom into own =
    let p : ℕ = (domain_of plan c).parent in
    let value : (f k j i : ℕ) → IsLevel plan f → Within 1 (nz plan f) k → (feedback_change plan m g c).sets f k j i ≡ true → (feedback_change plan m g c).value f k j i ≡ (feedback_change plan m h c).value f k j i
    = λ f k j i level a t. or_old-same _ _ (pos 0) (pos 0) (field_of plan f).up
    (λ s id. ap (λ (vs : List ℤ). in_i32 (m id (digest vs)))
    (behind-same plan c f k j i g h sound nest dom (own f level (use_first (field_of plan f).restart (is_some (field_of plan f).up) f (live_through plan c rest) s)) a
    (fed_y (is_some (field_of plan f).up) _ _ t) (fed_x (is_some (field_of plan f).up) _ _ t)))
    (λ s. refl) in
    record {
      overflow = overflow-same plan p (feedback_change plan m g c).sets (feedback_change plan m g c).value (feedback_change plan m h c).value (λ f k j i level a b e t. value f k j i level a t);
      after = λ f level wanted k j i a b e.
          choose-same ((p == p) && (feedback_change plan m g c).sets f k j i) ((feedback_change plan m g c).value f k j i) ((feedback_change plan m h c).value f k j i) (g p f k j i) (h p f k j i)
          (λ t. value f k j i level a (and_right (p == p) _ t))
          (λ t. into f level (used_then (field_of plan f).restart (is_some (field_of plan f).up) (live_through plan p above f) f (live_through plan p above) refl wanted) k j i a b e);
    }
  where
    fed_y : (a b c : Bool) → (a && b && c) ≡ true → b ≡ true
    fed_y true true c h = refl
    fed_y true false c h = h
    fed_y false b c h = absurd (differ (sym h))

    fed_x : (a b c : Bool) → (a && b && c) ≡ true → c ≡ true
    fed_x true true c h = h
    fed_x true false c h = absurd (differ (sym h))
    fed_x false b c h = absurd (differ (sym h))
