-- Up to the first overflow a patch stops at a place exactly where it names a point there.
use Rattle.std.proofs.Common.{◌≡◌, ℕ, suc, ◌<◌, ◌==◌, ◌||◌, if◌then◌else◌, Bool, true, false, [], ◌∷◌, ◌++◌, length, map, Option, Some, None, refl, ap, sym, ◌∙◌}
use Rattle.std.specs.Prelude.{slice_get, zip, is_some}
use Rattle.std.specs.Option.{option_or}
use Rattle.std.proofs.lemmas.Bool.{eq-eqb}
use Rattle.std.proofs.lemmas.Option.{slice_get-get_or}
use Rattle.wf_model.specs.declared.layout.Layout.{Layout}
use Rattle.wf_model.specs.declared.plan.Item.{Item}
use Rattle.wf_model.specs.declared.plan.Item.TheVariants as item
use Rattle.wf_model.specs.declared.script.Act.{Act}
use Rattle.wf_model.specs.declared.script.Act.TheVariants.{Start, Force, Feedback, Table, Emit}
use Rattle.wf_model.specs.declared.script.Entry.{Entry}
use Rattle.wf_model.specs.Plans.{domain_of, domains_of, item_of}
use Rattle.wf_model.specs.Changes.{Spot}
use Rattle.wf_model.specs.Outcome.{RunData, script, no_entry, entry_at}
use Rattle.wf_model.specs.Patches.{split_of, patches_of}
use Rattle.wf_model.specs.Streams.{stream_levels}
use Rattle.wf_model.specs.Exchange.{sender_of, receiver_of, carried, senders_to, is_expected}
use Rattle.wf_model.specs.PatchEffect.{Memory, Mail, Setting, sets_nothing, computing, taking, item_setting, fetch_setting, least_failure}
use Rattle.wf_model.specs.Halves.{Half, acts, sends, takes, posts, item_halves, act_halves}
use Rattle.wf_model.specs.Core.{memory_point}
use Rattle.wf_model.specs.Front.{Stand, Stands, stand_after, unless_stopped, last_half, mail_to, lacks_mail, half_sets, half_stops, half_effect, front}
use Rattle.wf_model.specs.Agreement.{IsAccepted, IsUpToOverflow, IsPatch, memory_at}
use Rattle.wf_model.specs.LeastStop.{domain_at}
use Rattle.wf_laws.specs.Stops.{mail_from, named_at}
use Rattle.wf_laws.proofs.Bools.{and_left}
use Rattle.wf_laws.proofs.GoOn.{nothing_goes, fetch_goes}
use Rattle.wf_laws.proofs.PatchLaws.{no_stop}
use Rattle.wf_core_laws.specs.Patches.{IsDomainPatch}
use Rattle.wf_core_laws.proofs.Options.{or_none, none_or}
use Rattle.wf_core_laws.proofs.Members.{Has, any-none, flat_map-same, has-filter}
use Rattle.wf_core_laws.proofs.FrontLaws.{front-next}
use Rattle.wf_core_laws.proofs.Progress.{There}
use Rattle.wf_core_laws.proofs.PatchForms.{there_of, patch_of, patch_has}
use Rattle.wf_core_laws.proofs.LockstepLaws.{lockstep_front}
use Rattle.wf_core_laws.proofs.ScriptLaws.{closed}

-- where a receiving half is, it is the last
last_takes : (a b : Bool) → b ≡ true → last_half ((if a then (sends ∷ []) else []) ++ (if b then (takes ∷ []) else [])) ≡ takes
last_takes true b h = rw h refl
last_takes false b h = rw h refl

-- and where it is not, the last half changes no memory
last_sends : (a b : Bool) → b ≡ false → last_half ((if a then (sends ∷ []) else []) ++ (if b then (takes ∷ []) else [])) ≡ (if a then sends else posts [])
last_sends true b h = rw h refl
last_sends false b h = rw h refl

module _ (r : RunData) (layout : Layout) (e : Entry) (p : ℕ) where
  -- the least point that overflows in a half, in an entry of this act
  abbrev pub half_fails : Act → Memory → Mail → ℕ → Half → Option Spot
  half_fails act m mail d acts = least_failure r.plan (split_of layout) d p (computing r (split_of layout) e act p m)
  half_fails act m mail d sends = None
  half_fails act m mail d takes = least_failure r.plan (split_of layout) d p (taking r (split_of layout) e act p mail m)
  half_fails act m mail d (posts levels) = None

  -- where no mail is lost a half stops exactly where it fails
  stops_failing : (f : Stands) (d : ℕ) (m : Memory) (h : Half) → lacks_mail r layout f e p ≡ false → half_stops r layout f e d p m h ≡ is_some (half_fails e.act m (mail_to r layout f e p) d h)
  stops_failing f d m acts full = refl
  stops_failing f d m sends full = refl
  stops_failing f d m takes full = ap (λ b. b || is_some (least_failure r.plan (split_of layout) d p (taking r (split_of layout) e e.act p (mail_to r layout f e p) m))) full
  stops_failing f d m (posts levels) full = refl

  -- what a patch names: where its computing half overflows, or else its receiving one
  abbrev both_fail : Act → (ℕ → Memory) → Mail → Option Spot
  both_fail act ms mail =
      option_or (least_failure r.plan (split_of layout) e.domain p (computing r (split_of layout) e act p (ms e.domain)))
      (least_failure r.plan (split_of layout) (receiver_of r.plan e act) p (taking r (split_of layout) e act p mail (ms (receiver_of r.plan e act))))

  -- a half that sets nothing names nothing
  silent : (o : Option Spot) (d : ℕ) → option_or (least_failure r.plan (split_of layout) d p sets_nothing) o ≡ o
  silent o d = none_or (least_failure r.plan (split_of layout) d p sets_nothing) o (nothing_goes r.plan (split_of layout) d p)

  -- an item of the table
  item_last : (it : Item) (m : Memory) (mail : Mail) (b : Bool) → b ≡ true → (name : Half → Option Spot)
      → name acts ≡ least_failure r.plan (split_of layout) e.domain p (item_setting r (split_of layout) e.domain p e.step it m) → name takes ≡ least_failure r.plan (split_of layout) e.domain p (fetch_setting mail)
      → name (last_half (if b then item_halves it else [])) ≡ option_or (least_failure r.plan (split_of layout) e.domain p (item_setting r (split_of layout) e.domain p e.step it m)) (least_failure r.plan (split_of layout) e.domain p (fetch_setting mail))
  item_last (item.Halo parts) m mail b on name first last = ap (λ (c : Bool). name (last_half (if c then item_halves (item.Halo parts) else []))) on ∙ last ∙ sym (silent (least_failure r.plan (split_of layout) e.domain p (fetch_setting mail)) e.domain)
  item_last (item.Period parts) m mail b on name first last = ap (λ (c : Bool). name (last_half (if c then item_halves (item.Period parts) else []))) on ∙ last ∙ sym (silent (least_failure r.plan (split_of layout) e.domain p (fetch_setting mail)) e.domain)
  item_last (item.Swap one two) m mail b on name first last = ap (λ (c : Bool). name (last_half (if c then item_halves (item.Swap one two) else []))) on ∙ first
      ∙ sym (or_none (least_failure r.plan (split_of layout) e.domain p (item_setting r (split_of layout) e.domain p e.step (item.Swap one two) m)) (least_failure r.plan (split_of layout) e.domain p (fetch_setting mail)) (fetch_goes r.plan (split_of layout) e.domain p mail))
  item_last (item.Phase ph) m mail b on name first last = ap (λ (c : Bool). name (last_half (if c then item_halves (item.Phase ph) else []))) on ∙ first
      ∙ sym (or_none (least_failure r.plan (split_of layout) e.domain p (item_setting r (split_of layout) e.domain p e.step (item.Phase ph) m)) (least_failure r.plan (split_of layout) e.domain p (fetch_setting mail)) (fetch_goes r.plan (split_of layout) e.domain p mail))

  -- at the domain that computes or receives the last half fails where the patch names a point
  pub last_fails : (act : Act) (ms : ℕ → Memory) (mail : Mail) → half_fails act (ms (receiver_of r.plan e act)) mail (receiver_of r.plan e act) (last_half (act_halves r.plan (receiver_of r.plan e act) e act)) ≡ both_fail act ms mail
  last_fails Start ms mail =
      ap (half_fails Start (ms e.domain) mail e.domain) (last_takes (e.domain == (domain_of r.plan e.domain).parent) (e.domain == e.domain) (eq-eqb e.domain e.domain refl)) ∙ sym (silent (half_fails Start (ms e.domain) mail e.domain takes) e.domain)
  last_fails Force ms mail =
      ap (half_fails Force (ms e.domain) mail e.domain) (last_takes (e.domain == (domain_of r.plan e.domain).parent) (e.domain == e.domain) (eq-eqb e.domain e.domain refl)) ∙ sym (silent (half_fails Force (ms e.domain) mail e.domain takes) e.domain)
  last_fails Feedback ms mail =
      let d = (domain_of r.plan e.domain).parent in
      ap (half_fails Feedback (ms d) mail d) (last_takes (d == e.domain) (d == d) (eq-eqb d d refl)) ∙ sym (silent (half_fails Feedback (ms d) mail d takes) e.domain)
  last_fails (Table n) ms mail = item_last (item_of r.plan n) (ms e.domain) mail (e.domain == e.domain) (eq-eqb e.domain e.domain refl) (half_fails (Table n) (ms e.domain) mail e.domain) refl refl
  last_fails (Emit s) ms mail =
      ap (λ (b : Bool). half_fails (Emit s) (ms e.domain) mail e.domain (last_half (if b then (posts (stream_levels r.plan s) ∷ []) else []))) (eq-eqb e.domain e.domain refl)
      ∙ sym (silent (least_failure r.plan (split_of layout) e.domain p sets_nothing) e.domain ∙ nothing_goes r.plan (split_of layout) e.domain p)

  -- a sending half and no half name nothing
  choose_quiet : (act : Act) (m : Memory) (mail : Mail) (d : ℕ) (b : Bool) → half_fails act m mail d (if b then sends else posts []) ≡ None
  choose_quiet act m mail d true = refl
  choose_quiet act m mail d false = refl

  -- elsewhere it does not
  pub none_fails : (act : Act) (m : Memory) (mail : Mail) (d : ℕ) → (d == receiver_of r.plan e act) ≡ false → half_fails act m mail d (last_half (act_halves r.plan d e act)) ≡ None
  none_fails Start m mail d off = ap (half_fails Start m mail d) (last_sends (d == (domain_of r.plan e.domain).parent) (d == e.domain) off) ∙ choose_quiet Start m mail d (d == (domain_of r.plan e.domain).parent)
  none_fails Force m mail d off = ap (half_fails Force m mail d) (last_sends (d == (domain_of r.plan e.domain).parent) (d == e.domain) off) ∙ choose_quiet Force m mail d (d == (domain_of r.plan e.domain).parent)
  none_fails Feedback m mail d off = ap (half_fails Feedback m mail d) (last_sends (d == e.domain) (d == (domain_of r.plan e.domain).parent) off) ∙ choose_quiet Feedback m mail d (d == e.domain)
  none_fails (Table n) m mail d off = ap (λ (b : Bool). half_fails (Table n) m mail d (last_half (if b then item_halves (item_of r.plan n) else []))) off
  none_fails (Emit s) m mail d off = ap (λ (b : Bool). half_fails (Emit s) m mail d (last_half (if b then (posts (stream_levels r.plan s) ∷ []) else []))) off

-- who stops is stopped, and who goes through is not
stopped_after : (b : Bool) (c : Setting) (m : Memory) → (stand_after b c m).is_stopped ≡ b
stopped_after true c m = refl
stopped_after false c m = refl

module _ (r : RunData) (layout : Layout) (ok : IsAccepted r layout) where
  -- up to the first overflow the front has stopped no patch
  pub going : (n d p : ℕ) → IsUpToOverflow r n → IsDomainPatch r.plan layout d p → (front r layout n d p).is_stopped ≡ false
  going n d p up is = sym (lockstep_front r layout n d p (closed r (ok.sound).some) (there_of r layout d p is)).1 ∙ (no_stop r layout n d p ok up is.domain is.patch).going

  module _ (n : ℕ) (up : IsUpToOverflow r n) (within : n < length (script r)) where
    -- the entry at the place
    abbrev e : Entry
    e = entry_at r n

    -- it is the script's there
    pub entry_here : slice_get (script r) n ≡ Some (entry_at r n)
    unfolding entry_at
    entry_here = slice_get-get_or (script r) n no_entry within

    -- who sends to a patch is a patch of a domain of the plan
    sender_there : (q p : ℕ) → Has (senders_to r.plan (split_of layout) (entry_at r n) p) q → There r layout (sender_of r.plan (entry_at r n) (entry_at r n).act) q
    sender_there q p is = record {
      domain = (closed r (ok.sound).some).sender n (entry_at r n) entry_here;
      patch = and_left _ _ (sym (has-filter (λ q. is_expected r.plan (split_of layout) (entry_at r n) q p) (patches_of (split_of layout)) q) ∙ is);
    }

    -- so no patch lacks mail there
    pub lacks_nothing : (p : ℕ) → lacks_mail r layout (front r layout n) (entry_at r n) p ≡ false
    lacks_nothing p =
        let sd = sender_of r.plan (entry_at r n) (entry_at r n).act in
        any-none (λ q. (front r layout n sd q).is_stopped) (senders_to r.plan (split_of layout) (entry_at r n) p) (λ q is. going n sd q up (patch_of r layout sd q (sender_there q p is)))

    -- the mail of the front is what the lockstep run sends
    pub mail_here : (p : ℕ) → mail_to r layout (front r layout n) (entry_at r n) p ≡ mail_from r.plan (split_of layout) (entry_at r n) (entry_at r n).act (memory_at r layout n (sender_of r.plan (entry_at r n) (entry_at r n).act)) p
    mail_here p =
        let sd = sender_of r.plan (entry_at r n) (entry_at r n).act in
        flat_map-same _ _ (senders_to r.plan (split_of layout) (entry_at r n) p) (λ q is.
        ap (λ (m : Memory). zip (carried r.plan (split_of layout) (entry_at r n) (entry_at r n).act q p) (map (memory_point r.plan sd m) (carried r.plan (split_of layout) (entry_at r n) (entry_at r n).act q p)))
        (sym (lockstep_front r layout n sd q (closed r (ok.sound).some) (sender_there q p is)).0))

    -- a patch is stopped after the place exactly where its last half fails there
    next_stopped : (d p : ℕ) → IsDomainPatch r.plan layout d p → (front r layout (suc n) d p).is_stopped
        ≡ is_some (half_fails r layout (entry_at r n) p (entry_at r n).act (front r layout n d p).memory (mail_to r layout (front r layout n) (entry_at r n) p) d (last_half (act_halves r.plan d (entry_at r n) (entry_at r n).act)))
    unfolding half_effect
    next_stopped d p is =
        let h = last_half (act_halves r.plan d (entry_at r n) (entry_at r n).act) in
        let f = front r layout n in
        let b = half_stops r layout f (entry_at r n) d p (f d p).memory h in
        let c = half_sets r layout f (entry_at r n) p (f d p).memory h in
        ap (λ (x : Stand). x.is_stopped) (front-next r layout n d p (entry_at r n) entry_here)
        ∙ ap (λ (x : Bool). (unless_stopped x (f d p) (stand_after b c (f d p).memory)).is_stopped) (going n d p up is)
        ∙ stopped_after b c (f d p).memory ∙ stops_failing r layout (entry_at r n) p f d (f d p).memory h (lacks_nothing p)

    -- the domain whose patches compute or receive there
    pub domain_here : Has (domains_of r.plan) (domain_at r n)
    domain_here = (closed r (ok.sound).some).receiver n (entry_at r n) entry_here

    -- where that half fails is what the patch names
    pub half_names : (p : ℕ) → IsPatch layout p → half_fails r layout (entry_at r n) p (entry_at r n).act (front r layout n (domain_at r n) p).memory (mail_to r layout (front r layout n) (entry_at r n) p) (domain_at r n) (last_half (act_halves r.plan (domain_at r n) (entry_at r n) (entry_at r n).act))
        ≡ named_at r layout n p
    half_names p hp =
        let d = domain_at r n in
        let h = last_half (act_halves r.plan d (entry_at r n) (entry_at r n).act) in
        let at : There r layout d p = record { domain = domain_here; patch = patch_has layout p hp } in
        ap (λ (m : Memory). half_fails r layout (entry_at r n) p (entry_at r n).act m (mail_to r layout (front r layout n) (entry_at r n) p) d h) (sym (lockstep_front r layout n d p (closed r (ok.sound).some) at).0)
        ∙ ap (λ (mail : Mail). half_fails r layout (entry_at r n) p (entry_at r n).act (memory_at r layout n d p) mail d h) (mail_here p)
        ∙ last_fails r layout (entry_at r n) p (entry_at r n).act (λ c. memory_at r layout n c p) (mail_from r.plan (split_of layout) (entry_at r n) (entry_at r n).act (memory_at r layout n (sender_of r.plan (entry_at r n) (entry_at r n).act)) p)

    -- there a patch stops exactly where it names a point
    pub stops_naming : (p : ℕ) → IsPatch layout p → (front r layout (suc n) (domain_at r n) p).is_stopped ≡ is_some (named_at r layout n p)
    stops_naming p hp =
        next_stopped (domain_at r n) p (patch_of r layout (domain_at r n) p (record { domain = domain_here; patch = patch_has layout p hp })) ∙ ap is_some (half_names p hp)

    -- and no patch of another domain does
    pub others_go : (d p : ℕ) → IsDomainPatch r.plan layout d p → (d == domain_at r n) ≡ false → (front r layout (suc n) d p).is_stopped ≡ false
    others_go d p is off = next_stopped d p is ∙ ap is_some (none_fails r layout (entry_at r n) p (entry_at r n).act (front r layout n d p).memory (mail_to r layout (front r layout n) (entry_at r n) p) d off)
