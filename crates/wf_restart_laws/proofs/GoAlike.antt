-- An item on two grids that agree where it counts.
use Rattle.std.proofs.Common.{◌≡◌, ◌⊎◌, inl, inr, ⊎_elim, ℕ, ◌+◌, ◌-◌, ◌≤◌, Bool, true, false, List, [], ◌∷◌, map, length, get_or, ℤ, pos, ◌+ℤ◌, Option, Some, refl, sym, ap, ◌∙◌, subst, arith}
use Rattle.std.proofs.lemmas.Bool.Decides.{nat_tests}
use Rattle.std.specs.Prelude.{◌==◌, ◌&&◌, ◌||◌, nat_le, is_none, unwrap_or, filter, flat_map, find, Contains, if◌then◌else◌}
use Rattle.std.specs.List.{All, list_any}
use Rattle.wf_model.specs.declared.plan.Item.{Item}
use Rattle.wf_model.specs.declared.plan.Item.TheVariants as item
use Rattle.wf_model.specs.declared.plan.Phase.{Phase}
use Rattle.wf_model.specs.declared.plan.Plan.{Plan}
use Rattle.wf_model.specs.Plans.{domain_of, field_of, item_of, no_item, up_to, levels_of, nx, ny, nz, extra, wrapped, point_x, point_y, level_at, is_within, is_inside}
use Rattle.wf_model.specs.Ranges.{Within}
use Rattle.wf_model.specs.Reads.{Read, reads_of}
use Rattle.wf_model.specs.Value.{Answers, value_of}
use Rattle.wf_model.specs.Grids.{Grid, Grids, listed}
use Rattle.wf_model.specs.Changes.{spots, overflow_in, overflows_at, changed, nothing, in_region, is_phase_level, sight_at, swapped_with, table_change}
use Rattle.wf_model.specs.Streams.{one_if, file_x, file_y, file_list, is_in_stream, stream_levels}
use Rattle.wf_model.specs.Script.{restart_stream}
use Rattle.wf_model.specs.Live.{Deed, used, overwritten, followed, used_if, item_done, emits, fate, live_on, live_through, writes_all, is_all_levels}
use Rattle.wf_model.specs.Sound.{IsDomain, IsLevel, IsSoundPlan, IsSoundItem, IsSoundPhase, IsSoundRead, IsSoundPair}
use Rattle.wf_laws.proofs.Bools.{split_bool, differ, and_left, and_right, and_both, and_false, or_left, or_right, equal_of, same_number, if_true, if_false}
use Rattle.wf_laws.proofs.Members.{In, In-range_out, In-filter_out, In-get_or, Contains-In, All-In, list_any-In, flat_map-same}
use Rattle.wf_laws.proofs.Least.{IsLevelSpot, spot_level}
use Rattle.wf_laws.proofs.Places.{IsRoom, point-range, range_x, range_y}
use Rattle.wf_laws.proofs.ValueLaws.{depends_on_reads}
use Rattle.wf_restart_laws.specs.Agrees.{AgreeOn, is_wanted, AgreeWhereWanted, OverflowAlike, TableItemsGoAlike, FramesShowAlike, RestartFramesShowAlike}
use Rattle.wf_restart_laws.proofs.ShiftedSteps.{map-same}

-- ---- lists

pub in_up_to : (n k : ℕ) → In k (up_to n) → Within 1 n k
in_up_to n k i = let l = In-range_out k 1 n i in (l.0, omega (arith, l.1))

pub listed-same : (zs ys xs : ℕ) (g h : Grid) → ((k j i : ℕ) → Within 1 zs k → Within 1 ys j → Within 1 xs i → g k j i ≡ h k j i) → listed zs ys xs g ≡ listed zs ys xs h
unfolding listed
listed-same zs ys xs g h e =
    flat_map-same (λ k. flat_map (λ j. map (λ i. g k j i) (up_to xs)) (up_to ys)) (λ k. flat_map (λ j. map (λ i. h k j i) (up_to xs)) (up_to ys)) (up_to zs)
    (λ k a. flat_map-same (λ j. map (λ i. g k j i) (up_to xs)) (λ j. map (λ i. h k j i) (up_to xs)) (up_to ys)
    (λ j b. map-same (λ i. g k j i) (λ i. h k j i) (up_to xs) (λ i c. e k j i (in_up_to zs k a) (in_up_to ys j b) (in_up_to xs i c))))

pub find-same : {X : Type 0} (p q : X → Bool) (xs : List X) → ((x : X) → In x xs → p x ≡ q x) → find p xs ≡ find q xs
find-same p q [] h = refl
find-same p q (x ∷ xs) h = λ n. if h x (inl refl) n then Some x else find-same p q xs (λ y i. h y (inr i)) n

all_of : {X : Type 0} (P : X → Type 0) (xs : List X) → ((x : X) → In x xs → P x) → All P xs
all_of P xs h = λ k d lt. h (get_or xs k d) (In-get_or xs k d lt)

and-same : (a b c : Bool) → (a ≡ true → b ≡ c) → (a && b) ≡ (a && c)
and-same true b c h = h refl
and-same false b c h = refl

pub choose-same : (t : Bool) (v w : Option ℤ) (x y : ℤ) → (t ≡ true → v ≡ w) → (t ≡ false → x ≡ y) → (if t then unwrap_or v (pos 0) else x) ≡ (if t then unwrap_or w (pos 0) else y)
choose-same true v w x y a b = ap (λ (o : Option ℤ). unwrap_or o (pos 0)) (a refl)
choose-same false v w x y a b = b refl

-- two changes of the same points of a domain, to the same numbers
pub overflow-same : (plan : Plan) (d : ℕ) (sets : ℕ → ℕ → ℕ → ℕ → Bool) (v w : ℕ → ℕ → ℕ → ℕ → Option ℤ) → ((f k j i : ℕ) → IsLevel plan f → Within 1 (nz plan f) k → Within 1 (ny plan d f) j → Within 1 (nx plan d f) i → sets f k j i ≡ true → v f k j i ≡ w f k j i) →
    overflow_in plan (record { domain = d; sets = sets; value = v }) ≡ overflow_in plan (record { domain = d; sets = sets; value = w })
overflow-same plan d sets v w e =
    find-same (overflows_at (record { domain = d; sets = sets; value = v })) (overflows_at (record { domain = d; sets = sets; value = w })) (spots plan d)
    (λ x i. let l : IsLevelSpot plan d x = spot_level plan d x i in
    and-same (sets x.field x.k x.j x.i) (is_none (v x.field x.k x.j x.i)) (is_none (w x.field x.k x.j x.i))
    (λ s. ap (λ (o : Option ℤ). is_none o) (e x.field x.k x.j x.i l.field (l.low, l.high) l.in_y l.in_x s)))

-- ---- frames

-- a place of a file stands for a point
file_point : (p s : Bool) (len j : ℕ) → 1 ≤ len → 1 ≤ j → j ≤ len + one_if s → Within 1 (len + extra s p) (wrapped p (len + extra s p) (pos j))
file_point true s len j some low high = point-range true (len + extra s true) (pos j) (omega (arith, some)) refl
file_point false true len j some low high = (low, high)
file_point false false len j some low high = (low, high)

pub file_lists_alike : (plan : Plan) (d f : ℕ) (g h : Grids) → IsSoundPlan plan → IsDomain plan d → AgreeOn plan d f g h → file_list plan d f g ≡ file_list plan d f h
unfolding file_list
file_lists_alike plan d f g h sound dom agree =
    let wide : 1 ≤ (domain_of plan d).ide - 1 = omega (arith, sound.wide d dom) in
    let high : 1 ≤ (domain_of plan d).jde - 1 = omega (arith, sound.high d dom) in
    listed-same (nz plan f) (file_y plan d f) (file_x plan d f) _ _ (λ k j i a b c. agree k (point_y plan d f (pos j)) (point_x plan d f (pos i)) a
    (file_point (domain_of plan d).periodic_y (field_of plan f).stag_y ((domain_of plan d).jde - 1) j high b.0 b.1)
    (file_point (domain_of plan d).periodic_x (field_of plan f).stag_x ((domain_of plan d).ide - 1) i wide c.0 c.1))

-- a level of a stream
in_stream : (plan : Plan) (stream f : ℕ) → Contains (stream_levels plan stream) f → IsLevel plan f × (is_in_stream plan stream f ≡ true)
unfolding stream_levels
in_stream plan stream f c =
    let i = In-filter_out (is_in_stream plan stream) f (levels_of plan) (Contains-In f (filter (is_in_stream plan stream) (levels_of plan)) c) in
    let l = In-range_out f 0 (length plan.fields) i.0 in
    (omega (arith, l.1), i.1)

pub frames_alike : FramesShowAlike
unfolding live_through
frames_alike plan d stream f rest g h sound dom c agree =
    let i = in_stream plan stream f c in
    let use_first : live_through plan d (emits stream ∷ rest) f ≡ true = sym (λ n. live_on (used_if (sym i.1 n) f) (live_through plan d rest)) in
    file_lists_alike plan d f g h sound dom (agree f i.0 (or_right (field_of plan f).restart (live_through plan d (emits stream ∷ rest) f) use_first))

pub restart_frames_alike : RestartFramesShowAlike
restart_frames_alike plan d f rest g h sound dom c agree =
    let i = in_stream plan restart_stream f c in
    file_lists_alike plan d f g h sound dom (agree f i.0 (or_left (field_of plan f).restart (live_through plan d rest f) i.1))

-- ---- items of the table

-- wanted by what is left: held by restart files, or live
pub wanted_by : (r l : Bool) {P : Type 0} → (r || l) ≡ true → (r ≡ true → P) → (l ≡ true → P) → P
wanted_by true l h a b = a refl
wanted_by false l h a b = b h

module _ (plan : Plan) (m : Answers) (d step : ℕ) (rest : List Deed) (g h : Grids) (sound : IsSoundPlan plan) (dom : IsDomain plan d) where
  abbrev Before : Item → Type 0
  Before it = AgreeWhereWanted plan d (item_done it ∷ rest) g h

  abbrev Alike : Item → Type 0
  Alike it = OverflowAlike plan (table_change plan m g d step it) (table_change plan m h d step it)
      × AgreeWhereWanted plan d rest (changed (table_change plan m g d step it) g) (changed (table_change plan m h d step it) h)

  -- what changes nothing
  unchanged : (x : Grids) (f k j i : ℕ) → changed nothing x d f k j i ≡ x d f k j i
  unfolding changed nothing
  unchanged x f k j i = if_false ((d == 0) && false) (pos 0) (x d f k j i) (and_false (d == 0) false refl)

  exchange_alike : (it : Item) → table_change plan m g d step it ≡ nothing → table_change plan m h d step it ≡ nothing → ((f : ℕ) → fate plan d (item_done it) f ≡ followed f) → Before it → Alike it
  unfolding live_through
  exchange_alike it a b follows before = (
    ap (overflow_in plan) (a ∙ sym b),
    λ f is wanted k j i x y z.
        (λ n. changed (a n) g d f k j i) ∙ unchanged g f k j i
        ∙ before f is (wanted_by (field_of plan f).restart (live_through plan d rest f) wanted (λ e. or_left (field_of plan f).restart _ e)
        (λ e. or_right (field_of plan f).restart (live_through plan d (item_done it ∷ rest) f) ((λ n. live_on (follows f n) (live_through plan d rest)) ∙ e))) k j i x y z
        ∙ sym (unchanged h f k j i) ∙ (λ n. changed (sym b n) h d f k j i),
  )

  -- ---- a swap

  -- the other of two
  other_back : (one two f : ℕ) → (one ≡ two → ⊥) → ((f == one) || (f == two)) ≡ true → swapped_with one two (swapped_with one two f) ≡ f
  other_back one two f apart either = elim (split_bool (f == one)) [
    | inl e ↦
        (λ n. swapped_with one two (if e n then two else one))
        ∙ if_false (two == one) two one (elim (split_bool (two == one)) [
          | inl x ↦ absurd (apart (sym (equal_of two one x)))
          | inr x ↦ x
        ]) ∙ sym (equal_of f one e)
    | inr e ↦
        let is : f ≡ two = equal_of f two (second (f == one) (f == two) e either) in
        (λ n. swapped_with one two (if e n then two else one)) ∙ if_true (one == one) two one (same_number one) ∙ sym is
  ]
    where
      second : (a b : Bool) → a ≡ false → (a || b) ≡ true → b ≡ true
      second true b e h = absurd (differ e)
      second false b e h = h

  other_too : (one two f : ℕ) → ((f == one) || (f == two)) ≡ true → ((swapped_with one two f == one) || (swapped_with one two f == two)) ≡ true
  other_too one two f either = elim (split_bool (f == one)) [
    | inl e ↦ (λ n. ((if e n then two else one) == one) || ((if e n then two else one) == two)) ∙ or_right (two == one) (two == two) (same_number two)
    | inr e ↦ (λ n. ((if e n then two else one) == one) || ((if e n then two else one) == two)) ∙ or_left (one == one) (one == two) (same_number one)
  ]

  -- the pair of a level that is swapped
  paired : (one two f : ℕ) → (field_of plan one).pair ≡ two → IsLevel plan one → ((f == one) || (f == two)) ≡ true → (field_of plan f).pair ≡ swapped_with one two f
  paired one two f pair level either = elim (split_bool (f == one)) [
    | inl e ↦ ap (λ x. (field_of plan x).pair) (equal_of f one e) ∙ pair ∙ sym (λ n. if e n then two else one)
    | inr e ↦
        let is : f ≡ two = equal_of f two (second (f == one) (f == two) e either) in
        ap (λ x. (field_of plan x).pair) (is ∙ sym pair) ∙ (sound.pairs one level).back ∙ sym (λ n. if e n then two else one)
  ]
    where
      second : (a b : Bool) → a ≡ false → (a || b) ≡ true → b ≡ true
      second true b e h = absurd (differ e)
      second false b e h = h

  swap_alike : (one two : ℕ) → IsSoundItem plan (item.Swap one two) → Before (item.Swap one two) → Alike (item.Swap one two)
  unfolding table_change changed live_through
  swap_alike one two is before = (
    refl,
    λ f level wanted k j i x y z.
        choose-same ((d == d) && ((f == one) || (f == two))) (Some (g d (swapped_with one two f) k j i)) (Some (h d (swapped_with one two f) k j i)) (g d f k j i) (h d f k j i)
        (λ t. ap (λ (v : ℤ). Some v) (swapped f level wanted (and_right (d == d) _ t) k j i x y z))
        (λ t. stays f level wanted t k j i x y z),
  )
    where
      swapped : (f : ℕ) → IsLevel plan f → is_wanted plan d rest f ≡ true → ((f == one) || (f == two)) ≡ true → (k j i : ℕ) → Within 1 (nz plan f) k → Within 1 (ny plan d f) j → Within 1 (nx plan d f) i → g d (swapped_with one two f) k j i ≡ h d (swapped_with one two f) k j i
      swapped f level wanted either k j i x y z =
          let o : ℕ = swapped_with one two f in
          let pair : (field_of plan f).pair ≡ o = paired one two f is.1 is.0 either in
          let of : IsSoundPair plan f = sound.pairs f level in
          let too : IsLevel plan o = subst (λ (a : ℕ). IsLevel plan a) pair of.is in
          let kept : (field_of plan o).restart ≡ (field_of plan f).restart = ap (λ a. (field_of plan a).restart) (sym pair) ∙ of.restart in
          let zs : nz plan o ≡ nz plan f = ap (nz plan) (sym pair) ∙ of.levels in
          let ys : ny plan d o ≡ ny plan d f = ap (ny plan d) (sym pair) ∙ ap (λ b. (domain_of plan d).jde - 1 + extra b (domain_of plan d).periodic_y) of.stag_y in
          let xs : nx plan d o ≡ nx plan d f = ap (nx plan d) (sym pair) ∙ ap (λ b. (domain_of plan d).ide - 1 + extra b (domain_of plan d).periodic_x) of.stag_x in
          let follows : live_through plan d (item_done (item.Swap one two) ∷ rest) o ≡ live_through plan d rest f
          = (λ n. live_through plan d rest (if other_too one two f either n then swapped_with one two o else o)) ∙ ap (live_through plan d rest) (other_back one two f is.2 either) in
          before o too (wanted_by (field_of plan f).restart (live_through plan d rest f) wanted (λ e. or_left (field_of plan o).restart _ (kept ∙ e)) (λ e. or_right (field_of plan o).restart _ (follows ∙ e)))
          k j i (subst (λ a. Within 1 a k) (sym zs) x) (subst (λ a. Within 1 a j) (sym ys) y) (subst (λ a. Within 1 a i) (sym xs) z)

      stays : (f : ℕ) → IsLevel plan f → is_wanted plan d rest f ≡ true → ((d == d) && ((f == one) || (f == two))) ≡ false → (k j i : ℕ) → Within 1 (nz plan f) k → Within 1 (ny plan d f) j → Within 1 (nx plan d f) i → g d f k j i ≡ h d f k j i
      stays f level wanted neither k j i x y z =
          let not_in : ((f == one) || (f == two)) ≡ false = sym (λ n. same_number d n && ((f == one) || (f == two))) ∙ neither in
          let follows : live_through plan d (item_done (item.Swap one two) ∷ rest) f ≡ live_through plan d rest f = λ n. live_through plan d rest (if not_in n then swapped_with one two f else f) in
          before f level (wanted_by (field_of plan f).restart (live_through plan d rest f) wanted (λ e. or_left (field_of plan f).restart _ e) (λ e. or_right (field_of plan f).restart _ (follows ∙ e))) k j i x y z

  -- ---- a phase

  within_test : (low high x : ℕ) → low ≤ x → x ≤ high → is_within low high x ≡ true
  within_test low high x a b = grind (arith, nat_tests)

  zero_of : (n : ℕ) → (n == 0) ≡ true → n ≡ 0
  zero_of n h = equal_of n 0 h

  all_inside : (p : Bool) (margin n x : ℕ) → (p || (margin == 0)) ≡ true → Within 1 n x → is_inside p margin n x ≡ true
  all_inside true margin n x h w = within_test 1 n x w.0 w.1
  all_inside false margin n x h w = let none : margin ≡ 0 = zero_of margin h in within_test (margin + 1) (n - margin) x (omega (arith, none, w.0)) (omega (arith, none, w.1))

  all_levels : (ph : Phase) (k : ℕ) → is_all_levels plan ph ≡ true → Within 1 (nz plan ph.writes) k → is_phase_level plan ph k ≡ true
  all_levels ph k h w = elim (split_bool (ph.from == 0)) [
    | inl e ↦ (λ n. if e n then is_within 1 (nz plan ph.writes) k else is_within ph.from ph.to k) ∙ within_test 1 (nz plan ph.writes) k w.0 w.1
    | inr e ↦
        let named : ((ph.from == 1) && nat_le (nz plan ph.writes) ph.to) ≡ true = other (ph.from == 0) _ e h in
        let first : ph.from ≡ 1 = equal_of ph.from 1 (and_left (ph.from == 1) _ named) in
        let top : nz plan ph.writes ≤ ph.to = above (nz plan ph.writes) ph.to (and_right (ph.from == 1) _ named) in
        (λ n. if e n then is_within 1 (nz plan ph.writes) k else is_within ph.from ph.to k) ∙ within_test ph.from ph.to k (omega (arith, first, w.0)) (omega (arith, top, w.1))
  ]
    where
      other : (a b : Bool) → a ≡ false → (a || b) ≡ true → b ≡ true
      other true b e h = absurd (differ e)
      other false b e h = h

      above : (a b : ℕ) → nat_le a b ≡ true → a ≤ b
      above a b h = grind (arith, nat_tests)

  -- a phase that writes all has each point in its region
  all_in_region : (ph : Phase) (k j i : ℕ) → writes_all plan d ph ≡ true → Within 1 (nz plan ph.writes) k → Within 1 (ny plan d ph.writes) j → Within 1 (nx plan d ph.writes) i → in_region plan d ph k j i ≡ true
  unfolding in_region
  all_in_region ph k j i h z y x =
      let levels : is_all_levels plan ph ≡ true = and_left (is_all_levels plan ph) _ h in
      let sides : (((domain_of plan d).periodic_x || (ph.mx == 0)) && ((domain_of plan d).periodic_y || (ph.my == 0))) ≡ true = and_right (is_all_levels plan ph) _ h in
      λ n. all_levels ph k levels z n && all_inside (domain_of plan d).periodic_y ph.my (ny plan d ph.writes) j (and_right ((domain_of plan d).periodic_x || (ph.mx == 0)) _ sides) y n
      && all_inside (domain_of plan d).periodic_x ph.mx (nx plan d ph.writes) i (and_left ((domain_of plan d).periodic_x || (ph.mx == 0)) _ sides) x n

  -- a level that is read is wanted
  read_wanted : (ph : Phase) (rd : Read) → In rd (reads_of ph.expr) → is_wanted plan d (item_done (item.Phase ph) ∷ rest) rd.field ≡ true
  unfolding live_through
  read_wanted ph rd there =
      let any : list_any (λ (x : Read). x.field == rd.field) (reads_of ph.expr) ≡ true = list_any-In (λ (x : Read). x.field == rd.field) rd (reads_of ph.expr) there (same_number rd.field) in
      or_right (field_of plan rd.field).restart _
      (λ n. live_on (if any n then used else (if (rd.field == ph.writes) && writes_all plan d ph then overwritten else followed rd.field)) (live_through plan d rest))

  one_room : IsRoom plan (record { in_x = 1; in_y = 1 }) d
  one_room = record { some_x = omega arith; some_y = omega arith; room_x = omega (arith, sound.wide d dom); room_y = omega (arith, sound.high d dom) }

  -- so the phase has the same value at each point of its region
  phase_value : (ph : Phase) → IsSoundPhase plan ph → Before (item.Phase ph) → (k j i : ℕ) → in_region plan d ph k j i ≡ true → value_of m (sight_at plan g d step k j i) ph.expr ≡ value_of m (sight_at plan h d step k j i) ph.expr
  phase_value ph is before k j i inside =
      depends_on_reads m ph.expr (sight_at plan g d step k j i) (sight_at plan h d step k j i) (record {
        i = refl;
        j = refl;
        k = refl;
        step = refl;
        reads = all_of _ (reads_of ph.expr) (λ rd there.
            let s : IsSoundRead plan d ph rd = All-In (IsSoundRead plan d ph) rd (reads_of ph.expr) (is.reads d dom) there in
            let place = s.inside k j i inside in
            before rd.field s.level (read_wanted ph rd there) (level_at plan rd.field k rd.dk) (point_y plan d rd.field (pos j +ℤ rd.dj)) (point_x plan d rd.field (pos i +ℤ rd.di)) (s.levels k j i inside)
            (range_y plan (record { in_x = 1; in_y = 1 }) d one_room rd.field (pos j +ℤ rd.dj) (pos i +ℤ rd.di) place)
            (range_x plan (record { in_x = 1; in_y = 1 }) d one_room rd.field (pos j +ℤ rd.dj) (pos i +ℤ rd.di) place));
      })

  -- what is wanted after the phase was wanted before it, or is all written
  wanted_then : (ph : Phase) (f : ℕ) → is_wanted plan d rest f ≡ true → ((is_wanted plan d (item_done (item.Phase ph) ∷ rest) f ≡ true) ⊎ (((f == ph.writes) && writes_all plan d ph) ≡ true))
  unfolding live_through
  wanted_then ph f wanted =
      wanted_by (field_of plan f).restart (live_through plan d rest f) wanted (λ e. inl (or_left (field_of plan f).restart _ e))
      (λ e. cases (list_any (λ (x : Read). x.field == f) (reads_of ph.expr)) ((f == ph.writes) && writes_all plan d ph) (field_of plan f).restart e)
    where
      cases : (reads all kept : Bool) → live_through plan d rest f ≡ true → ((kept || live_on (if reads then used else (if all then overwritten else followed f)) (live_through plan d rest)) ≡ true) ⊎ (all ≡ true)
      cases true all kept e = inl (or_right kept true refl)
      cases false true kept e = inr refl
      cases false false kept e = inl (or_right kept (live_through plan d rest f) e)

  phase_alike : (ph : Phase) → IsSoundPhase plan ph → Before (item.Phase ph) → Alike (item.Phase ph)
  unfolding table_change changed
  phase_alike ph is before = (
    overflow-same plan d (λ f k j i. (f == ph.writes) && in_region plan d ph k j i) (λ f k j i. value_of m (sight_at plan g d step k j i) ph.expr) (λ f k j i. value_of m (sight_at plan h d step k j i) ph.expr)
        (λ f k j i a b c e t. phase_value ph is before k j i (and_right (f == ph.writes) _ t)),
    λ f level wanted k j i x y z.
        choose-same ((d == d) && ((f == ph.writes) && in_region plan d ph k j i)) (value_of m (sight_at plan g d step k j i) ph.expr) (value_of m (sight_at plan h d step k j i) ph.expr) (g d f k j i) (h d f k j i)
        (λ t. phase_value ph is before k j i (and_right (f == ph.writes) _ (and_right (d == d) _ t)))
        (λ t. ⊎_elim (λ w. before f level w k j i x y z)
        (λ w. absurd (differ (sym (covers f w k j i x y z) ∙ t)))
        (wanted_then ph f wanted)),
  )
    where
      covers : (f : ℕ) → ((f == ph.writes) && writes_all plan d ph) ≡ true → (k j i : ℕ) → Within 1 (nz plan f) k → Within 1 (ny plan d f) j → Within 1 (nx plan d f) i → ((d == d) && ((f == ph.writes) && in_region plan d ph k j i)) ≡ true
      covers f w k j i x y z =
          let e : f ≡ ph.writes = equal_of f ph.writes (and_left (f == ph.writes) _ w) in
          and_both (d == d) _ (same_number d) (and_both (f == ph.writes) _ (and_left (f == ph.writes) _ w)
          (all_in_region ph k j i (and_right (f == ph.writes) _ w) (subst (λ a. Within 1 (nz plan a) k) e x) (subst (λ a. Within 1 (ny plan d a) j) e y) (subst (λ a. Within 1 (nx plan d a) i) e z)))

  pub item_alike : (it : Item) → IsSoundItem plan it → Before it → Alike it
  unfolding table_change
  item_alike (item.Halo parts) is before = exchange_alike (item.Halo parts) refl refl (λ f. refl) before
  item_alike (item.Period parts) is before = exchange_alike (item.Period parts) refl refl (λ f. refl) before
  item_alike (item.Swap one two) is before = swap_alike one two is before
  item_alike (item.Phase ph) is before = phase_alike ph is before

pub table_alike : TableItemsGoAlike
unfolding item_of
table_alike plan m d step n rest g h sound dom within before =
    let is : IsSoundItem plan (item_of plan n) = sound.items n no_item within in
    let both = item_alike plan m d step rest g h sound dom (item_of plan n) is before in
    record { overflow = both.0; after = both.1 }
