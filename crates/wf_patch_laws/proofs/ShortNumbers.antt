-- All numbers of a run's grids, memories and messages are of 32 bits, where those are that it begins with.
use Rattle.std.proofs.Common.{ℕ, zero, suc, ◌-◌, Bool, true, false, List, [], ◌∷◌, map, refl, sym, subst, Option, Some, None, All}
use Rattle.std.proofs.lemmas.List.Elements.{All-nil, All-cons, All-head, All-tail}
use Rattle.std.specs.Prelude.{ℤ, pos, ◌&&◌, zip, unwrap_or, slice_get, slice_index_or}
use Rattle.wf_model.specs.declared.layout.Layout.{Layout}
use Rattle.wf_model.specs.declared.plan.Item.{Item}
use Rattle.wf_model.specs.declared.plan.Item.TheVariants as item
use Rattle.wf_model.specs.declared.script.Act.{Act}
use Rattle.wf_model.specs.declared.script.Act.TheVariants.{Start, Force, Feedback, Table, Emit}
use Rattle.wf_model.specs.declared.script.Entry.{Entry}
use Rattle.wf_model.specs.Numbers.{in_i32}
use Rattle.wf_model.specs.Value.{number_of}
use Rattle.wf_model.specs.Changes.{swapped_with}
use Rattle.wf_model.specs.Nests.{digest}
use Rattle.wf_model.specs.Plans.{domain_of, field_of, item_of, point_x, point_y}
use Rattle.wf_model.specs.Outcome.{RunData, no_list, no_lists, script}
use Rattle.wf_model.specs.Patches.{Split, Cell, split_of}
use Rattle.wf_model.specs.Exchange.{carried, senders_to, sender_of, cells_behind}
use Rattle.wf_model.specs.PatchEffect.{Memory, Setting, Mail, came, between_cells, item_setting, computing, taking, after_setting, patch_sight}
use Rattle.wf_model.specs.Halves.{Half, acts, sends, takes, posts, act_halves}
use Rattle.wf_model.specs.Core.{memory_point}
use Rattle.wf_model.specs.Front.{Stand, Stands, last_half, stand_after, unless_stopped, sent_numbers, mail_to, half_sets, half_stops, half_effect, place_effect, front}
use Rattle.wf_model.specs.Hooks.{IsShort}
use Rattle.wf_laws.proofs.Members.{In-map_out, In-flat_map_out, All-In, In-All}
use Rattle.wf_laws.proofs.I32Numbers.{IsShortChoice, fit_short, fits_short, old_short, start_short, choice_short, at_short, input_short, begin_short, run_short}
use Rattle.wf_patch_laws.specs.Functions.{CameShort, asked_by_cell}
use Rattle.wf_patch_laws.specs.Short.{BeginsShort, GridsStayShort, PatchesStayShort, MailStaysShort}
use Rattle.wf_patch_laws.proofs.AskedLists.{came_short}

-- each list that a run begins with
lists_short : (r : RunData) → BeginsShort r → (d f : ℕ) → All IsShort (slice_index_or (slice_index_or r.initial.grids (d - 1) no_lists) f no_list)
lists_short r begins d f =
    at_short (λ (numbers : List ℤ). All IsShort numbers) (slice_index_or r.initial.grids (d - 1) no_lists) f no_list
    (at_short (λ (levels : List (List ℤ)). All (λ (numbers : List ℤ). All IsShort numbers) levels) r.initial.grids (d - 1) no_lists begins (All-nil _)) (All-nil IsShort)

module _ (r : RunData) (begins : BeginsShort r) where
  -- all numbers of a memory
  abbrev IsShortMemory : Memory → Type 0
  IsShortMemory m = (f k : ℕ) (j i : ℤ) → IsShort (m f k j i)

  -- what a setting gives
  abbrev IsShortSetting : Setting → Type 0
  IsShortSetting c = (f k : ℕ) (j i : ℤ) → IsShortChoice (c.value f k j i)

  -- of an item
  item_short : (split : Split) (d p step : ℕ) (it : Item) (m : Memory) → IsShortMemory m → IsShortSetting (item_setting r split d p step it m)
  item_short split d p step (item.Halo parts) m short f k j i = refl
  item_short split d p step (item.Period parts) m short f k j i = refl
  item_short split d p step (item.Swap one two) m short f k j i = short (swapped_with one two f) k j i
  item_short split d p step (item.Phase ph) m short f k j i = fits_short (number_of r.answers (patch_sight r.plan d ph.writes m step k j i) ph.expr)

  -- of a computing half
  compute_short : (split : Split) (e : Entry) (act : Act) (p : ℕ) (m : Memory) → IsShortMemory m → IsShortSetting (computing r split e act p m)
  compute_short split e Start p m short f k j i = refl
  compute_short split e Force p m short f k j i = refl
  compute_short split e Feedback p m short f k j i = refl
  compute_short split e (Table n) p m short f k j i = item_short split e.domain p e.step (item_of r.plan n) m short f k j i
  compute_short split e (Emit s) p m short f k j i = refl

  -- what a cell asks in a feedback
  abbrev fed_list : Entry → Mail → Cell → List ℤ
  fed_list e mail c = digest (map (λ x. unwrap_or (came mail x) (pos 0)) (cells_behind r.plan e.domain c))

  -- of a receiving half
  take_short : (split : Split) (e : Entry) (act : Act) (p : ℕ) (mail : Mail) (m : Memory) → CameShort mail → IsShortMemory m → IsShortSetting (taking r split e act p mail m)
  take_short split e Start p mail m came_all short f k j i =
      start_short ((field_of r.plan f).input && (domain_of r.plan e.domain).from_file) _ _
      (old_short (λ id. between_cells r e.domain mail id (record { field = f; k = k; j = j; i = i })) (m f k j i) (field_of r.plan f).down (λ id. fit_short (r.answers id (asked_by_cell r.plan e.domain mail (record { field = f; k = k; j = j; i = i })))) (short f k j i))
      (input_short r (lists_short r begins) e.domain f k (point_y r.plan e.domain f j) (point_x r.plan e.domain f i))
  take_short split e Force p mail m came_all short f k j i = old_short (λ id. between_cells r e.domain mail id (record { field = f; k = k; j = j; i = i })) (pos 0) (field_of r.plan f).edge (λ id. fit_short (r.answers id (asked_by_cell r.plan e.domain mail (record { field = f; k = k; j = j; i = i })))) refl
  take_short split e Feedback p mail m came_all short f k j i = old_short (λ id. in_i32 (r.answers id (fed_list e mail (record { field = f; k = k; j = j; i = i })))) (pos 0) (field_of r.plan f).up (λ id. fit_short (r.answers id (fed_list e mail (record { field = f; k = k; j = j; i = i })))) refl
  take_short split e (Table n) p mail m came_all short f k j i = came_short mail (record { field = f; k = k; j = j; i = i }) came_all
  take_short split e (Emit s) p mail m came_all short f k j i = refl

  -- the memory after a setting
  set_short : (c : Setting) (m : Memory) → IsShortSetting c → IsShortMemory m → IsShortMemory (after_setting c m)
  unfolding after_setting
  set_short c m h short f k j i = choice_short (c.sets f k j i) _ _ (h f k j i) (short f k j i)

  -- cells with their numbers
  zip_short : (cs : List Cell) (vs : List ℤ) → All IsShort vs → All (λ (x : Cell × ℤ). IsShort x.1) (zip cs vs)
  zip_short [] vs h = All-nil (λ (x : Cell × ℤ). IsShort x.1)
  zip_short (c ∷ cs) [] h = All-nil (λ (x : Cell × ℤ). IsShort x.1)
  zip_short (c ∷ cs) (v ∷ vs) h = All-cons (λ (x : Cell × ℤ). IsShort x.1) (c, v) (zip cs vs) (All-head IsShort v vs h) (zip_short cs vs (All-tail IsShort v vs h))

  module _ (layout : Layout) where
    -- all numbers of all patches
    abbrev AllShort : Stands → Type 0
    AllShort s = (d p : ℕ) → IsShortMemory (s d p).memory

    -- the mail
    mail_short : (s : Stands) (e : Entry) (p : ℕ) → AllShort s → CameShort (mail_to r layout s e p)
    mail_short s e p short =
        In-All (λ (x : Cell × ℤ). IsShort x.1) (mail_to r layout s e p) (λ x h.
        let q = In-flat_map_out (λ q. zip (carried r.plan (split_of layout) e e.act q p) (sent_numbers r layout s e q p)) x (senders_to r.plan (split_of layout) e p) h in
        All-In (λ (y : Cell × ℤ). IsShort y.1) x (zip (carried r.plan (split_of layout) e e.act q.0 p) (sent_numbers r layout s e q.0 p))
        (zip_short (carried r.plan (split_of layout) e e.act q.0 p) (sent_numbers r layout s e q.0 p)
        (In-All IsShort (sent_numbers r layout s e q.0 p) (λ v k.
        let c = In-map_out (memory_point r.plan (sender_of r.plan e e.act) (s (sender_of r.plan e e.act) q.0).memory) v (carried r.plan (split_of layout) e e.act q.0 p) k in
        subst IsShort (sym c.2) (short (sender_of r.plan e e.act) q.0 _ _ _ _)))) q.2)

    -- what a half sets
    half_short : (s : Stands) (e : Entry) (p : ℕ) (m : Memory) (h : Half) → AllShort s → IsShortMemory m → IsShortSetting (half_sets r layout s e p m h)
    half_short s e p m acts all short = compute_short (split_of layout) e e.act p m short
    half_short s e p m sends all short = λ f k j i. refl
    half_short s e p m takes all short = take_short (split_of layout) e e.act p (mail_to r layout s e p) m (mail_short s e p all) short
    half_short s e p m (posts levels) all short = λ f k j i. refl

    -- where a patch stands
    stand_short : (a b : Bool) (old : Stand) (c : Setting) → IsShortMemory old.memory → IsShortSetting c → IsShortMemory (unless_stopped a old (stand_after b c old.memory)).memory
    stand_short true b old c h k = h
    stand_short false true old c h k = h
    stand_short false false old c h k = set_short c old.memory k h

    -- after a place
    place_short : (o : Option Entry) (s : Stands) → AllShort s → AllShort (λ d p. place_effect r layout o s d p)
    unfolding half_effect
    place_short None s all d p = all d p
    place_short (Some e) s all d p =
        let h : Half = last_half (act_halves r.plan d e e.act) in
        stand_short (s d p).is_stopped (half_stops r layout s e d p (s d p).memory h) (s d p) (half_sets r layout s e p (s d p).memory h) (all d p) (half_short s e p (s d p).memory h all (all d p))

    -- before each place
    front_short : (n : ℕ) → AllShort (front r layout n)
    unfolding front
    front_short zero = λ d p f k j i. begin_short r (lists_short r begins) d f k (point_y r.plan d f j) (point_x r.plan d f i)
    front_short (suc n) = place_short (slice_get (script r) n) (front r layout n) (front_short n)

-- the law on grids
pub grids_short : GridsStayShort
grids_short r n begins = run_short r (lists_short r begins) n

-- the law on patches
pub patches_short : PatchesStayShort
patches_short r layout n d p f k j i begins = front_short r begins layout n d p f k j i

-- the law on mail
pub mail_all_short : MailStaysShort
mail_all_short r layout n e p begins = mail_short r begins layout (front r layout n) e p (front_short r begins layout n)
