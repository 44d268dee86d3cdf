-- What a patch names at an entry of the script: nothing, or the least point at which a setting fails that agrees with the entry's change.
use Rattle.std.proofs.Common.{◌≡◌, ◌⊎◌, inl, inr, ⊎_elim, ℕ, ◌*◌, ◌<◌, false, List, [], refl, sym, ap, subst, ◌∙◌, Option, Some, None}
use Rattle.std.specs.Prelude.{◌==◌, ◌||◌, map, flat_map, filter, zip}
use Rattle.std.specs.Option.{option_or}
use Rattle.wf_model.specs.declared.plan.Plan.{Plan}
use Rattle.wf_model.specs.declared.plan.Item.{Item}
use Rattle.wf_model.specs.declared.plan.Item.TheVariants as item
use Rattle.wf_model.specs.declared.script.Act.{Act}
use Rattle.wf_model.specs.declared.script.Act.TheVariants.{Start, Force, Feedback, Table, Emit}
use Rattle.wf_model.specs.declared.script.Entry.{Entry}
use Rattle.wf_model.specs.Plans.{domain_of, item_of}
use Rattle.wf_model.specs.Grids.{Grids}
use Rattle.wf_model.specs.Changes.{Spot, nothing, spots, overflows_at, overflow_in, table_change, swap_change}
use Rattle.wf_model.specs.Outcome.{RunData, act_change}
use Rattle.wf_model.specs.Patches.{Split, patches_of}
use Rattle.wf_model.specs.Cycle.{Turn}
use Rattle.wf_model.specs.Marks.{all_fresh, marks_after}
use Rattle.wf_model.specs.Covered.{IsCovered}
use Rattle.wf_model.specs.Exchange.{sender_of, receiver_of, carried, has_cells}
use Rattle.wf_model.specs.PatchEffect.{Mail, Setting, computing, taking, item_setting, start_setting, force_setting, feedback_setting, least_failure}
use Rattle.wf_model.specs.Core.{memory_point}
use Rattle.wf_model.specs.Sound.{IsDomain, IsSoundItem, IsSoundPlan}
use Rattle.wf_laws.specs.Stops.{Memories}
use Rattle.wf_laws.proofs.Bools.{and_false}
use Rattle.wf_laws.proofs.Members.{find-None}
use Rattle.wf_laws.proofs.Places.{IsRoom}
use Rattle.wf_laws.proofs.Entries.{AllRight, IsNext, next_fresh, item_sound}
use Rattle.wf_laws.proofs.CentralAll.{EachRight}
use Rattle.wf_laws.proofs.AllDomains.{Kind, emit, item_at, start, force, feedback}
use Rattle.wf_laws.proofs.Least.{Agrees}
use Rattle.wf_laws.proofs.PhaseAgrees.{phase_agrees}
use Rattle.wf_laws.proofs.NestAgrees.{start_agrees, force_agrees, feedback_agrees}
use Rattle.wf_laws.proofs.GoOn.{fetch_goes, swap_goes, nothing_goes}

-- nothing overflows, and neither does a swap
nothing_fine : (plan : Plan) → overflow_in plan nothing ≡ None
unfolding nothing
nothing_fine plan = find-None (overflows_at nothing) (spots plan 0) (λ x i. refl)

-- a swap does not overflow
swap_fine : (plan : Plan) (g : Grids) (d one two : ℕ) → overflow_in plan (swap_change g d one two) ≡ None
swap_fine plan g d one two = find-None (overflows_at (swap_change g d one two)) (spots plan d) (λ x i. and_false ((x.field == one) || (x.field == two)) false refl)

-- the first of two, where the second is none
or_none : {X : Type 0} (o p : Option X) → p ≡ None → option_or o p ≡ o
or_none None p e = e
or_none (Some x) p e = refl

-- the second of two, where the first is none
none_or : {X : Type 0} (o p : Option X) → o ≡ None → option_or o p ≡ p
none_or o p e = ap (λ (x : _). option_or x p) e

module _ (r : RunData) (split : Split) (e : Entry) (g : Grids) (ms : Memories) (p : ℕ) where
  -- all that comes to the patch, by the entry's act
  abbrev pub mail_by : Act → Mail
  mail_by act =
      flat_map (λ q. zip (carried r.plan split e act q p) (map (memory_point r.plan (sender_of r.plan e act) (ms (sender_of r.plan e act) q)) (carried r.plan split e act q p)))
      (filter (λ q. has_cells (carried r.plan split e act q p)) (patches_of split))

  -- the least point that fails in what it computes
  abbrev pub computed_by : Act → Option Spot
  computed_by act = least_failure r.plan split e.domain p (computing r split e act p (ms e.domain p))

  -- and in what it makes of its mail
  abbrev pub taken_by : Act → Option Spot
  taken_by act = least_failure r.plan split (receiver_of r.plan e act) p (taking r split e act p (mail_by act) (ms (receiver_of r.plan e act) p))

  -- what the patch names, where the entry's act is this one
  pub data Names (act : Act) : Type 0 where
    silent : option_or (computed_by act) (taken_by act) ≡ None → overflow_in r.plan (act_change r g e act) ≡ None → Names act
    names : (s : Setting) → option_or (computed_by act) (taken_by act) ≡ least_failure r.plan split (receiver_of r.plan e act) p s → IsDomain r.plan (receiver_of r.plan e act) →
        Agrees r.plan split (receiver_of r.plan e act) p s (act_change r g e act) → Names act

  -- at an emit
  names_emit : (s : ℕ) → Names (Emit s)
  names_emit s = silent (none_or _ _ (nothing_goes r.plan split e.domain p) ∙ nothing_goes r.plan split e.domain p) (nothing_fine r.plan)

  module _ (sound : IsSoundPlan r.plan) (covered : IsCovered r.plan) (hp : p < split.in_x * split.in_y) where
    -- an item of the table, by its kind
    names_item : (n : ℕ) (ts : List Turn) → IsNext r split sound e.domain n ts → AllRight r split sound e.domain ts g (ms e.domain) → (it : Item) → item_of r.plan n ≡ it → IsSoundItem r.plan it →
        (s : Setting) → s ≡ item_setting r split e.domain p e.step it (ms e.domain p) → Agrees r.plan split e.domain p s (table_change r.plan r.answers g e.domain e.step it) ⊎ ((least_failure r.plan split e.domain p s ≡ None) × (overflow_in r.plan (table_change r.plan r.answers g e.domain e.step it) ≡ None))
    unfolding table_change
    names_item n ts next all (item.Halo parts) is s set q = inr (ap (least_failure r.plan split e.domain p) q ∙ nothing_goes r.plan split e.domain p, nothing_fine r.plan)
    names_item n ts next all (item.Period parts) is s set q = inr (ap (least_failure r.plan split e.domain p) q ∙ nothing_goes r.plan split e.domain p, nothing_fine r.plan)
    names_item n ts next all (item.Swap one two) is s set q = inr (ap (least_failure r.plan split e.domain p) q ∙ swap_goes r.plan split e.domain p one two (ms e.domain p), swap_fine r.plan g e.domain one two)
    names_item n ts next all (item.Phase ph) is s set q =
        inl (subst (λ (t : Setting). Agrees r.plan split e.domain p t (table_change r.plan r.answers g e.domain e.step (item.Phase ph))) (sym q)
        (phase_agrees r split e.domain next.room next.domain p e.step hp ph (marks_after r.plan split e.domain p ts all_fresh) g (ms e.domain p) s (all.right p hp) (next_fresh r split sound covered e.domain n ts next ph is p hp)))

    -- an item of the table: what is fetched never fails
    names_table : (n : ℕ) (ts : List Turn) → IsNext r split sound e.domain n ts → AllRight r split sound e.domain ts g (ms e.domain) → Names (Table n)
    names_table n ts next all =
        let taken = fetch_goes r.plan split e.domain p (mail_by (Table n)) in
        ⊎_elim
        (λ h. names (item_setting r split e.domain p e.step (item_of r.plan n) (ms e.domain p)) (or_none (computed_by (Table n)) (taken_by (Table n)) taken) next.domain h)
        (λ h. silent (or_none (computed_by (Table n)) (taken_by (Table n)) taken ∙ h.0) h.1)
        (names_item n ts next all (item_of r.plan n) refl (item_sound r split sound n next.within) (item_setting r split e.domain p e.step (item_of r.plan n) (ms e.domain p)) refl)

    module _ (rooms : (d : ℕ) → IsDomain r.plan d → IsRoom r.plan split d) (ts : ℕ → List Turn) (each : EachRight r split sound covered rooms ts g ms) (is : IsDomain r.plan e.domain) where
      -- the nest's parent
      abbrev parent : ℕ
      parent = (domain_of r.plan e.domain).parent

      names_start : 1 < e.domain → ts e.domain ≡ [] → Names Start
      unfolding carried
      names_start nest empty =
          let up : IsDomain r.plan (domain_of r.plan e.domain).parent = (sound.nests e.domain nest is).parent in
          names (start_setting r split e.domain p (mail_by Start) (ms e.domain p)) (none_or (computed_by Start) (taken_by Start) (nothing_goes r.plan split e.domain p)) is
          (start_agrees r split sound e.domain (rooms parent up) (ts parent) g (ms parent) (each.all parent up) (ms e.domain)
          (subst (λ (us : List Turn). AllRight r split sound e.domain us g (ms e.domain)) empty (each.all e.domain is)) (rooms e.domain is) p hp)

      names_force : 1 < e.domain → Names Force
      unfolding carried
      names_force nest =
          let up : IsDomain r.plan (domain_of r.plan e.domain).parent = (sound.nests e.domain nest is).parent in
          names (force_setting r split e.domain p (mail_by Force)) (none_or (computed_by Force) (taken_by Force) (nothing_goes r.plan split e.domain p)) is
          (force_agrees r split sound e.domain (rooms parent up) (ts parent) g (ms parent) (each.all parent up) (ms e.domain) p)

      names_feedback : 1 < e.domain → Names Feedback
      unfolding carried
      names_feedback nest =
          names (feedback_setting r split e.domain p (mail_by Feedback)) (none_or (computed_by Feedback) (taken_by Feedback) (nothing_goes r.plan split e.domain p)) (sound.nests e.domain nest is).parent
          (feedback_agrees r split sound e.domain (rooms e.domain is) (sound.nests e.domain nest is).odd (ts e.domain) g (ms e.domain) (each.all e.domain is) p)

-- at an entry of each kind
pub names_of : (r : RunData) (split : Split) (sound : IsSoundPlan r.plan) (covered : IsCovered r.plan) (rooms : (d : ℕ) → IsDomain r.plan d → IsRoom r.plan split d) (ts : ℕ → List Turn) (g : Grids) (ms : Memories)
    (each : EachRight r split sound covered rooms ts g ms) (e : Entry) → Kind r.plan ts e → (p : ℕ) → p < split.in_x * split.in_y → Names r split e g ms p e.act
names_of r split sound covered rooms ts g ms each e (emit s a) p hp = subst (Names r split e g ms p) (sym a) (names_emit r split e g ms p s)
names_of r split sound covered rooms ts g ms each e (item_at m is a w q) p hp =
    subst (Names r split e g ms p) (sym a)
    (names_table r split e g ms p sound covered hp m (ts e.domain) (record { domain = is; room = rooms e.domain is; within = w; rounds = q }) (each.all e.domain is))
names_of r split sound covered rooms ts g ms each e (start is nest a empty) p hp = subst (Names r split e g ms p) (sym a) (names_start r split e g ms p sound covered hp rooms ts each is nest empty)
names_of r split sound covered rooms ts g ms each e (force is nest a) p hp = subst (Names r split e g ms p) (sym a) (names_force r split e g ms p sound covered hp rooms ts each is nest)
names_of r split sound covered rooms ts g ms each e (feedback is nest a) p hp = subst (Names r split e g ms p) (sym a) (names_feedback r split e g ms p sound covered hp rooms ts each is nest)
