-- Items of two runs of which the second goes on from the first, on grids that agree where it counts.
use Rattle.std.proofs.Common.{◌≡◌, ⊎_elim, ℕ, ◌-◌, ◌<◌, Bool, true, false, List, ◌∷◌, map, length, get_or, pos, None, refl, sym, ap, ◌∙◌, arith}
use Rattle.std.proofs.lemmas.Bool.Decides.{nat_tests}
use Rattle.std.proofs.lemmas.List.FromFn.{get_or-map-range_with_len}
use Rattle.std.specs.Prelude.{◌==◌, ◌&&◌, ◌||◌, unwrap_or, find, Contains, option_map, if◌then◌else◌}
use Rattle.wf_model.specs.declared.plan.Item.{Item}
use Rattle.wf_model.specs.declared.plan.Item.TheVariants as item
use Rattle.wf_model.specs.declared.plan.Plan.{Plan}
use Rattle.wf_model.specs.declared.initial.Begin.{Begin}
use Rattle.wf_model.specs.declared.script.Act.TheVariants.{Start, Force, Feedback, Table, Emit}
use Rattle.wf_model.specs.declared.script.Entry.{Entry}
use Rattle.wf_model.specs.Plans.{field_of, item_of, begin_of, levels_of}
use Rattle.wf_model.specs.Value.{Answers}
use Rattle.wf_model.specs.Grids.{Grids, grid_from, level_list}
use Rattle.wf_model.specs.Changes.{Change, Spot, changed, nothing, overflow_in, overflows_at, spots, table_change}
use Rattle.wf_model.specs.Nests.{start_change, force_change, feedback_change}
use Rattle.wf_model.specs.Script.{entry, restart_stream}
use Rattle.wf_model.specs.Streams.{stream_levels, file_list}
use Rattle.wf_model.specs.Live.{Deed, emits}
use Rattle.wf_model.specs.Outcome.{RunData, no_list, no_lists, input_grids, begin_grids, change_of, point_of, what_of, overflow_of, grids_after, grids_at}
use Rattle.wf_model.specs.Sound.{IsDomain, IsLevel}
use Rattle.wf_model.specs.SoundRun.{IsSoundRun}
use Rattle.wf_model.specs.InputOf.{is_restored, zeros}
use Rattle.wf_laws.proofs.Bools.{equal_of, split_bool, if_true, if_false, and_false, or_right}
use Rattle.wf_laws.proofs.Members.{find-None}
use Rattle.wf_laws.proofs.ValueLaws.{grid_back}
use Rattle.wf_model.specs.Continued.{place_after, goes_on, level_after, levels_after, initial_after, IsContinuedBy}
use Rattle.wf_restart_laws.specs.Shifted.{AreAlike}
use Rattle.wf_restart_laws.specs.Agrees.{AgreeOn, AgreeWhole, AgreeWhereWanted, GoesAlike, TableGoesAlike, StartGoesAlike, ForceGoesAlike, FeedbackGoesAlike}
use Rattle.wf_restart_laws.proofs.AlikePlans.{item_is, nx_is, ny_is, spots_are, table_change_is, start_change_is, force_change_is, feedback_change_is, file_list_is}
use Rattle.wf_restart_laws.proofs.GoAlike.{frames_alike, restart_frames_alike}
use Rattle.wf_restart_laws.proofs.SameTimes.{alike, goes, waits}

-- an emit overflows nowhere
no_overflow : (plan : Plan) → overflow_in plan nothing ≡ None
unfolding nothing
no_overflow plan = find-None (overflows_at nothing) (spots plan 0) (λ x i. refl)

-- and changes nothing
pub emit_after : (r : RunData) (d step t stream : ℕ) (g : Grids) → grids_after r g (entry d step t (Emit stream)) ≡ g
unfolding grids_after change_of changed nothing
emit_after r d step t stream g = λ n x f k j i. if_false ((x == 0) && false) (pos 0) (g x f k j i) (and_false (x == 0) false refl) n

-- a change of another domain leaves a domain as it is
pub other_domain : (c : Change) (g : Grids) (d : ℕ) → (d ≡ c.domain → ⊥) → changed c g d ≡ g d
unfolding changed
other_domain c g d apart = λ n f k j i. if_false ((d == c.domain) && c.sets f k j i) (unwrap_or (c.value f k j i) (pos 0)) (g d f k j i) (λ z. no z && c.sets f k j i) n
  where
    no : (d == c.domain) ≡ false
    no = ⊎_elim (λ e. absurd (apart (equal_of d c.domain e))) (λ e. e) (split_bool (d == c.domain))

nothing_keeps : (g : Grids) (e : ℕ) → changed nothing g e ≡ g e
unfolding changed nothing
nothing_keeps g e = λ n f k j i. if_false ((e == 0) && false) (pos 0) (g e f k j i) (and_false (e == 0) false refl) n

-- an item of the table leaves other domains as they are
pub table_keeps : (plan : Plan) (m : Answers) (d step : ℕ) (g : Grids) (it : Item) (e : ℕ) → (e ≡ d → ⊥) → changed (table_change plan m g d step it) g e ≡ g e
unfolding table_change
table_keeps plan m d step g (item.Halo parts) e apart = nothing_keeps g e
table_keeps plan m d step g (item.Period parts) e apart = nothing_keeps g e
table_keeps plan m d step g (item.Swap one two) e apart = other_domain (table_change plan m g d step (item.Swap one two)) g e apart
table_keeps plan m d step g (item.Phase ph) e apart = other_domain (table_change plan m g d step (item.Phase ph)) g e apart

module _ (r s : RunData) (m : ℕ) (sound : IsSoundRun r) (is : IsContinuedBy r m s) where
  abbrev p : Plan
  p = r.plan

  abbrev q : Plan
  q = s.plan

  same : AreAlike p q
  same = alike r s m is

  -- what both runs set overflows at the same point
  goes_from : (e : Entry) (g h : Grids) (x y : Change) → change_of r g e ≡ x → change_of s h e ≡ y → x.domain ≡ y.domain → overflow_in p x ≡ overflow_in p y → overflow_of r e g ≡ overflow_of s e h
  unfolding overflow_of
  goes_from e g h x y a b d o =
      (λ n. option_map (point_of (a n) e) (overflow_in p (a n)))
      ∙ (λ n. option_map (λ (w : Spot). record { domain = d n; step = e.step; what = what_of e.act; field = w.field; k = w.k; j = w.j; i = w.i }) (o n))
      ∙ sym (λ n. option_map (point_of y e) (find (overflows_at y) (spots_are p q same y.domain n)))
      ∙ sym (λ n. option_map (point_of (b n) e) (overflow_in q (b n)))

  -- ---- an item of the table

  table_of : (h : Grids) (d step t n : ℕ) → change_of s h (entry d step t (Table n)) ≡ table_change p r.answers h d step (item_of p n)
  unfolding change_of
  table_of h d step t n = (λ z. table_change q (is.answers z) h d step (item_is p q same n z)) ∙ table_change_is p q same r.answers h d step (item_of p n)

  one_domain : (d step : ℕ) (g h : Grids) (it : Item) → (table_change p r.answers g d step it).domain ≡ (table_change p r.answers h d step it).domain
  unfolding table_change
  one_domain d step g h (item.Halo parts) = refl
  one_domain d step g h (item.Period parts) = refl
  one_domain d step g h (item.Swap one two) = refl
  one_domain d step g h (item.Phase ph) = refl

  pub table_goes : (d step t n : ℕ) (rest : List Deed) (g h : Grids) → TableGoesAlike p r.answers d step n rest g h → GoesAlike r s (entry d step t (Table n)) g h
  unfolding change_of
  table_goes d step t n rest g h x = record {
    overflow = goes_from (entry d step t (Table n)) g h (table_change p r.answers g d step (item_of p n)) (table_change p r.answers h d step (item_of p n)) refl (table_of h d step t n) (one_domain d step g h (item_of p n)) x.overflow;
    frame = tt;
  }

  pub table_then : (d step t n : ℕ) (h : Grids) → grids_after s h (entry d step t (Table n)) ≡ changed (table_change p r.answers h d step (item_of p n)) h
  unfolding grids_after
  table_then d step t n h = λ z. changed (table_of h d step t n z) h

  pub table_here : (d step t n : ℕ) (g : Grids) → grids_after r g (entry d step t (Table n)) ≡ changed (table_change p r.answers g d step (item_of p n)) g
  unfolding grids_after change_of
  table_here d step t n g = refl

  -- ---- a nest's start

  start_of : (h : Grids) (c t : ℕ) → change_of s h (entry c 0 t Start) ≡ start_change p r.answers (input_grids s) h c
  unfolding change_of
  start_of h c t = (λ z. start_change q (is.answers z) (input_grids s) h c) ∙ start_change_is p q same r.answers (input_grids s) h c

  pub start_goes : (c t : ℕ) (g h : Grids) → StartGoesAlike p r.answers (input_grids r) (input_grids s) c g h → GoesAlike r s (entry c 0 t Start) g h
  unfolding change_of
  start_goes c t g h x = record { overflow = goes_from (entry c 0 t Start) g h (start_change p r.answers (input_grids r) g c) (start_change p r.answers (input_grids s) h c) refl (start_of h c t) refl x.overflow; frame = tt }

  pub start_then : (c t : ℕ) (h : Grids) → grids_after s h (entry c 0 t Start) ≡ changed (start_change p r.answers (input_grids s) h c) h
  unfolding grids_after
  start_then c t h = λ z. changed (start_of h c t z) h

  pub start_here : (c t : ℕ) (g : Grids) → grids_after r g (entry c 0 t Start) ≡ changed (start_change p r.answers (input_grids r) g c) g
  unfolding grids_after change_of
  start_here c t g = refl

  -- ---- a force

  force_of : (h : Grids) (c step t : ℕ) → change_of s h (entry c step t Force) ≡ force_change p r.answers h c
  unfolding change_of
  force_of h c step t = (λ z. force_change q (is.answers z) h c) ∙ force_change_is p q same r.answers h c

  pub force_goes : (c step t : ℕ) (rest : List Deed) (g h : Grids) → ForceGoesAlike p r.answers c rest g h → GoesAlike r s (entry c step t Force) g h
  unfolding change_of
  force_goes c step t rest g h x = record { overflow = goes_from (entry c step t Force) g h (force_change p r.answers g c) (force_change p r.answers h c) refl (force_of h c step t) refl x.overflow; frame = tt }

  pub force_then : (c step t : ℕ) (h : Grids) → grids_after s h (entry c step t Force) ≡ changed (force_change p r.answers h c) h
  unfolding grids_after
  force_then c step t h = λ z. changed (force_of h c step t z) h

  pub force_here : (c step t : ℕ) (g : Grids) → grids_after r g (entry c step t Force) ≡ changed (force_change p r.answers g c) g
  unfolding grids_after change_of
  force_here c step t g = refl

  -- ---- a feedback

  feedback_of : (h : Grids) (c step t : ℕ) → change_of s h (entry c step t Feedback) ≡ feedback_change p r.answers h c
  unfolding change_of
  feedback_of h c step t = (λ z. feedback_change q (is.answers z) h c) ∙ feedback_change_is p q same r.answers h c

  pub feedback_goes : (c step t : ℕ) (above : List Deed) (g h : Grids) → FeedbackGoesAlike p r.answers c above g h → GoesAlike r s (entry c step t Feedback) g h
  unfolding change_of
  feedback_goes c step t above g h x = record { overflow = goes_from (entry c step t Feedback) g h (feedback_change p r.answers g c) (feedback_change p r.answers h c) refl (feedback_of h c step t) refl x.overflow; frame = tt }

  pub feedback_then : (c step t : ℕ) (h : Grids) → grids_after s h (entry c step t Feedback) ≡ changed (feedback_change p r.answers h c) h
  unfolding grids_after
  feedback_then c step t h = λ z. changed (feedback_of h c step t z) h

  pub feedback_here : (c step t : ℕ) (g : Grids) → grids_after r g (entry c step t Feedback) ≡ changed (feedback_change p r.answers g c) g
  unfolding grids_after change_of
  feedback_here c step t g = refl

  -- ---- a frame

  emit_goes : (d step t stream : ℕ) (g h : Grids) → ((f : ℕ) → Contains (stream_levels p stream) f → file_list p d f g ≡ file_list p d f h) → GoesAlike r s (entry d step t (Emit stream)) g h
  unfolding change_of
  emit_goes d step t stream g h e = record {
    overflow = goes_from (entry d step t (Emit stream)) g h nothing nothing refl refl refl refl;
    frame = λ f c. e f c ∙ sym (file_list_is p q same d f h);
  }

  -- a frame of a stream, where it is the next deed, and a restart frame anywhere
  pub frame_goes : (d step t stream : ℕ) (rest : List Deed) (g h : Grids) → IsDomain p d → AgreeWhereWanted p d (emits stream ∷ rest) g h → GoesAlike r s (entry d step t (Emit stream)) g h
  frame_goes d step t stream rest g h dom agree = emit_goes d step t stream g h (λ f c. frames_alike p d stream f rest g h sound.sound dom c agree)

  pub restart_goes : (d step t : ℕ) (rest : List Deed) (g h : Grids) → IsDomain p d → AgreeWhereWanted p d rest g h → GoesAlike r s (entry d step t (Emit restart_stream)) g h
  restart_goes d step t rest g h dom agree = emit_goes d step t restart_stream g h (λ f c. restart_frames_alike p d f rest g h sound.sound dom c agree)

  -- ---- where the second run begins

  -- a domain that goes on has on each level that restart files hold the numbers that it had
  pub restored : (d f : ℕ) → IsDomain p d → IsLevel p f → goes_on r m d ≡ true → (field_of p f).restart ≡ true → AgreeOn p d f (grids_at r (place_after r m)) (begin_grids s)
  unfolding begin_grids initial_after levels_after
  restored d f dom level on kept k j i a e x =
      let resumed : (begin_of s.initial.begins d).resumed ≡ true = ap (λ (b : Begin). b.resumed) (goes r s m d is dom on) in
      let lists : get_or s.initial.grids (d - 1) no_lists ≡ levels_after r m d
      = ap (λ z. get_or z.grids (d - 1) no_lists) is.initial ∙ get_or-map-range_with_len (levels_after r m) 1 (length p.domains) (d - 1) d no_lists (omega (arith, dom)) (omega (arith, dom)) in
      let whole : levels_after r m d ≡ map (level_after r m d) (levels_of p) = if_true (goes_on r m d) (map (level_after r m d) (levels_of p)) (get_or r.initial.grids (d - 1) no_lists) on in
      let list : get_or (get_or s.initial.grids (d - 1) no_lists) f no_list ≡ level_list p d f (grids_at r (place_after r m))
      = ap (λ z. get_or z f no_list) (lists ∙ whole) ∙ get_or-map-range_with_len (level_after r m d) 0 (length p.fields) f f no_list level (omega arith)
      ∙ if_true (is_restored p f) (level_list p d f (grids_at r (place_after r m))) (zeros p d f) kept in
      sym ((λ z. (if (d == 1) || resumed z then input_grids s d f else (λ k j i. pos 0)) k j i)
      ∙ (λ z. (if or_right (d == 1) true refl z then input_grids s d f else (λ k j i. pos 0)) k j i)
      ∙ (λ z. grid_from (ny_is p q same d f z) (nx_is p q same d f z) (list z) k j i)
      ∙ grid_back p d f (grids_at r (place_after r m)) k j i a e x)

  -- a domain that waits holds 0
  pub waiting : (d : ℕ) → IsDomain p d → 1 < d → goes_on r m d ≡ false → (f k j i : ℕ) → begin_grids s d f k j i ≡ pos 0
  unfolding begin_grids
  waiting d dom nest off f k j i =
      let resumed : (begin_of s.initial.begins d).resumed ≡ false = ap (λ (b : Begin). b.resumed) (waits r s m d is dom off) ∙ not_resumed (begin_of r.initial.begins d).resumed _ off in
      λ z. (if not_first d nest z || resumed z then input_grids s d f else (λ k j i. pos 0)) k j i
    where
      not_resumed : (a b : Bool) → (a || b) ≡ false → a ≡ false
      not_resumed true b h = h
      not_resumed false b h = refl

      not_first : (d : ℕ) → 1 < d → (d == 1) ≡ false
      not_first d h = grind (arith, nat_tests)

  -- and has the input that it had
  pub inputs : (d : ℕ) → IsDomain p d → goes_on r m d ≡ false → AgreeWhole p d (input_grids r) (input_grids s)
  unfolding initial_after levels_after
  inputs d dom off f level k j i a e x =
      let lists : get_or s.initial.grids (d - 1) no_lists ≡ get_or r.initial.grids (d - 1) no_lists
      = ap (λ z. get_or z.grids (d - 1) no_lists) is.initial ∙ get_or-map-range_with_len (levels_after r m) 1 (length p.domains) (d - 1) d no_lists (omega (arith, dom)) (omega (arith, dom))
      ∙ if_false (goes_on r m d) (map (level_after r m d) (levels_of p)) (get_or r.initial.grids (d - 1) no_lists) off in
      sym (λ z. grid_from (ny_is p q same d f z) (nx_is p q same d f z) (get_or (lists z) f no_list) k j i)
