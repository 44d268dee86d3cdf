-- Each level has its pair, wherever the levels of its field stand.
use Rattle.std.proofs.Common.{◌≡◌, ⊎_elim, ℕ, zero, suc, ◌+◌, ◌-◌, ◌<◌, ◌≤◌, List, [], ◌∷◌, ◌++◌, length, refl, sym, ap, ◌∙◌, subst, length-append, arith}
use Rattle.std.proofs.lemmas.Bool.{cases_lt}
use Rattle.std.proofs.lemmas.List.{get_or_append_left, get_or-append-add}
use Rattle.wf_model.specs.declared.registry.Entry.{Entry}
use Rattle.wf_model.specs.declared.config.Config.{Config}
use Rattle.wf_model.specs.declared.plan.Field.{Field}
use Rattle.wf_model.specs.declared.plan.Plan.{Plan}
use Rattle.wf_model.specs.declared.table.HookName.{HookName}
use Rattle.wf_model.specs.Letters.{Text}
use Rattle.wf_model.specs.Plans.{no_field, field_of}
use Rattle.wf_model.specs.Entries.{entry_levels}
use Rattle.wf_model.specs.PlanFields.{fields_from}
use Rattle.wf_model.specs.Sound.{IsSoundPair}
use Rattle.wf_registry_laws.specs.FieldLaws.{level, PairsAreSound}
use Rattle.wf_registry_laws.proofs.Shapes.{all_made, common, own_levels, own_is_made, by_entry}

-- of levels that are numbered from `first` on, the one at place k has its pair at another
pub record IsPairedAt (fs : List Field) (first k : ℕ) : Type 0 where
  pub at : ℕ
  pub within : at < length fs
  pub pair : (level fs k).pair ≡ first + at
  pub back : (level fs at).pair ≡ first + k
  pub nz : (level fs at).nz ≡ (level fs k).nz
  pub stag_x : (level fs at).stag_x ≡ (level fs k).stag_x
  pub stag_y : (level fs at).stag_y ≡ (level fs k).stag_y
  pub restart : (level fs at).restart ≡ (level fs k).restart

abbrev pub ArePaired : List Field → ℕ → Type 0
ArePaired fs first = (k : ℕ) → k < length fs → IsPairedAt fs first k

-- ---- of one entry

two_paired : (f : Field) (first : ℕ) (a b : Text) → ArePaired (all_made f (a ∷ b ∷ []) first) first
two_paired f first a b zero within = record { at = 1; within = omega arith; pair = refl; back = refl; nz = refl; stag_x = refl; stag_y = refl; restart = refl }
two_paired f first a b (suc zero) within = record { at = 0; within = omega arith; pair = refl; back = refl; nz = refl; stag_x = refl; stag_y = refl; restart = refl }
two_paired f first a b (suc (suc k)) within = absurd (omega arith)

one_paired : (f : Field) (first : ℕ) (a : Text) → ArePaired (all_made f (a ∷ []) first) first
one_paired f first a zero within = record { at = 0; within = omega arith; pair = refl; back = refl; nz = refl; stag_x = refl; stag_y = refl; restart = refl }
one_paired f first a (suc k) within = absurd (omega arith)

own_paired : (config : Config) (hooks : List HookName) (e : Entry) (first : ℕ) → ArePaired (own_levels config hooks e first) first
own_paired config hooks e first =
    subst (λ fs. ArePaired fs first) (sym (own_is_made config hooks e first))
    (by_entry (λ names. ArePaired (all_made (common config hooks e) names first) first) e (λ a b. two_paired (common config hooks e) first a b) (λ a. one_paired (common config hooks e) first a) (λ k within. absurd (omega arith)))

pub own_length : (config : Config) (hooks : List HookName) (e : Entry) (first : ℕ) → length (own_levels config hooks e first) ≡ length (entry_levels e)
own_length config hooks e first =
    ap length (own_is_made config hooks e first) ∙ by_entry (λ names. length (all_made (common config hooks e) names first) ≡ length names) e (λ a b. refl) (λ a. refl) refl

-- ---- one entry's levels, and those behind

paired_left : (fs gs : List Field) (first k : ℕ) → k < length fs → IsPairedAt fs first k → IsPairedAt (fs ++ gs) first k
paired_left fs gs first k within h =
    let here = get_or_append_left fs gs no_field k within in
    let there = get_or_append_left fs gs no_field h.at h.within in
    record {
      at = h.at;
      within = let w : h.at < length fs = h.within in omega (arith, length-append fs gs);
      pair = ap (λ (f : Field). f.pair) here ∙ h.pair;
      back = ap (λ (f : Field). f.pair) there ∙ h.back;
      nz = ap (λ (f : Field). f.nz) there ∙ h.nz ∙ sym (ap (λ (f : Field). f.nz) here);
      stag_x = ap (λ (f : Field). f.stag_x) there ∙ h.stag_x ∙ sym (ap (λ (f : Field). f.stag_x) here);
      stag_y = ap (λ (f : Field). f.stag_y) there ∙ h.stag_y ∙ sym (ap (λ (f : Field). f.stag_y) here);
      restart = ap (λ (f : Field). f.restart) there ∙ h.restart ∙ sym (ap (λ (f : Field). f.restart) here);
    }

paired_right : (fs gs : List Field) (first k : ℕ) → IsPairedAt gs (first + length fs) k → IsPairedAt (fs ++ gs) first (length fs + k)
paired_right fs gs first k h =
    let here = get_or-append-add fs gs k no_field in
    let there = get_or-append-add fs gs h.at no_field in
    let pair : first + length fs + h.at ≡ first + (length fs + h.at) = omega arith in
    let back : first + length fs + k ≡ first + (length fs + k) = omega arith in
    record {
      at = length fs + h.at;
      within = let w : h.at < length gs = h.within in omega (arith, length-append fs gs);
      pair = ap (λ (f : Field). f.pair) here ∙ h.pair ∙ pair;
      back = ap (λ (f : Field). f.pair) there ∙ h.back ∙ back;
      nz = ap (λ (f : Field). f.nz) there ∙ h.nz ∙ sym (ap (λ (f : Field). f.nz) here);
      stag_x = ap (λ (f : Field). f.stag_x) there ∙ h.stag_x ∙ sym (ap (λ (f : Field). f.stag_x) here);
      stag_y = ap (λ (f : Field). f.stag_y) there ∙ h.stag_y ∙ sym (ap (λ (f : Field). f.stag_y) here);
      restart = ap (λ (f : Field). f.restart) there ∙ h.restart ∙ sym (ap (λ (f : Field). f.restart) here);
    }

paired_both : (fs gs : List Field) (first : ℕ) → ArePaired fs first → ArePaired gs (first + length fs) → ArePaired (fs ++ gs) first
paired_both fs gs first a b k within =
    ⊎_elim (λ (l : k < length fs). paired_left fs gs first k l (a k l))
    (λ (r : length fs ≤ k).
    let same : length fs + (k - length fs) ≡ k = omega arith in
    let below : k - length fs < length gs = omega (arith, length-append fs gs) in
    subst (λ n. IsPairedAt (fs ++ gs) first n) same (paired_right fs gs first (k - length fs) (b (k - length fs) below)))
    (cases_lt k (length fs))

pub levels_paired : (config : Config) (hooks : List HookName) (first : ℕ) (es : List Entry) → ArePaired (fields_from config hooks first es) first
unfolding fields_from
levels_paired config hooks first [] k within = absurd (omega arith)
levels_paired config hooks first (e ∷ es) k within =
    paired_both (own_levels config hooks e first) (fields_from config hooks (first + length (entry_levels e)) es) first (own_paired config hooks e first)
    (subst (λ n. ArePaired (fields_from config hooks (first + length (entry_levels e)) es) (first + n)) (sym (own_length config hooks e first)) (levels_paired config hooks (first + length (entry_levels e)) es))
    k within

-- ---- in a plan

sound_pair : (plan : Plan) (f : ℕ) → IsPairedAt plan.fields 0 f → IsSoundPair plan f
unfolding field_of
sound_pair plan f h =
    let pair : (level plan.fields f).pair ≡ h.at = h.pair ∙ (let same : 0 + h.at ≡ h.at = omega arith in same) in
    let back : (level plan.fields h.at).pair ≡ f = h.back ∙ (let same : 0 + f ≡ f = omega arith in same) in
    let moved : level plan.fields (level plan.fields f).pair ≡ level plan.fields h.at = ap (level plan.fields) pair in
    record {
      is = subst (λ n. n < length plan.fields) (sym pair) h.within;
      back = ap (λ (x : Field). x.pair) moved ∙ back;
      levels = ap (λ (x : Field). x.nz) moved ∙ h.nz;
      stag_x = ap (λ (x : Field). x.stag_x) moved ∙ h.stag_x;
      stag_y = ap (λ (x : Field). x.stag_y) moved ∙ h.stag_y;
      restart = ap (λ (x : Field). x.restart) moved ∙ h.restart;
    }

pub pairs_are_sound : PairsAreSound
pairs_are_sound config hooks plan same f is =
    sound_pair plan f (subst (λ fs. ArePaired fs 0) (sym same) (levels_paired config hooks 0 config.fields) f is)
