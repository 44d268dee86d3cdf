-- Agreement where it is wanted, after a deed and along equal grids.
use Rattle.std.proofs.Common.{◌≡◌, ℕ, true, false, List, [], ◌∷◌, refl, sym, ◌∙◌}
use Rattle.wf_model.specs.declared.plan.Plan.{Plan}
use Rattle.wf_model.specs.Grids.{Grids}
use Rattle.wf_model.specs.Live.{Deed, starts_nests, forces, feeds, emits, live_through}
use Rattle.wf_model.specs.Plans.{field_of}
use Rattle.wf_model.specs.Sound.{IsLevel}
use Rattle.wf_laws.proofs.Bools.{differ, or_left}
use Rattle.wf_restart_laws.specs.Agrees.{AgreeWhole, is_wanted, AgreeWhereWanted}
use Rattle.wf_restart_laws.proofs.GoAlike.{wanted_by}
use Rattle.wf_restart_laws.proofs.NestsAlike.{used_then}

-- a deed that isn't an item of the table writes nothing whole
pub data IsPlain : Deed → Type 0 where
  plain_starts : IsPlain starts_nests
  plain_forces : IsPlain forces
  plain_feeds : IsPlain feeds
  plain_emits : (n : ℕ) → IsPlain (emits n)

-- so what is wanted after it is wanted before it
pub fewer : (p : Plan) (d : ℕ) (x : Deed) (rest : List Deed) (g h : Grids) → IsPlain x → AgreeWhereWanted p d (x ∷ rest) g h → AgreeWhereWanted p d rest g h
unfolding live_through
fewer p d x rest g h plain_starts agree = λ f level w. agree f level (used_then (field_of p f).restart _ (live_through p d rest f) f (live_through p d rest) refl w)
fewer p d x rest g h plain_forces agree = λ f level w. agree f level (used_then (field_of p f).restart _ (live_through p d rest f) f (live_through p d rest) refl w)
fewer p d x rest g h plain_feeds agree = λ f level w. agree f level (used_then (field_of p f).restart _ (live_through p d rest f) f (live_through p d rest) refl w)
fewer p d x rest g h (plain_emits n) agree = λ f level w. agree f level (used_then (field_of p f).restart _ (live_through p d rest f) f (live_through p d rest) refl w)

-- where restart files hold it, it is wanted at all times
pub held : (p : Plan) (d : ℕ) (rest others : List Deed) (g h : Grids) → ((f : ℕ) → IsLevel p f → is_wanted p d others f ≡ true → (field_of p f).restart ≡ true) → AgreeWhereWanted p d rest g h → AgreeWhereWanted p d others g h
held p d rest others g h less agree = λ f level w. agree f level (or_left (field_of p f).restart (live_through p d rest f) (less f level w))

-- at a step's end nothing but these
pub none_more : (p : Plan) (d f : ℕ) → is_wanted p d [] f ≡ true → (field_of p f).restart ≡ true
unfolding live_through
none_more p d f w = wanted_by (field_of p f).restart false w (λ e. e) (λ e. absurd (differ (sym e)))

-- ---- along equal grids

pub along : (p : Plan) (d : ℕ) (rest : List Deed) (g h x y : Grids) → x d ≡ g d → y d ≡ h d → AgreeWhereWanted p d rest g h → AgreeWhereWanted p d rest x y
along p d rest g h x y a b agree = λ f level w k j i z u v. (λ n. a n f k j i) ∙ agree f level w k j i z u v ∙ sym (λ n. b n f k j i)

pub along_whole : (p : Plan) (d : ℕ) (g h x y : Grids) → x d ≡ g d → y d ≡ h d → AgreeWhole p d g h → AgreeWhole p d x y
along_whole p d g h x y a b agree = λ f level k j i z u v. (λ n. a n f k j i) ∙ agree f level k j i z u v ∙ sym (λ n. b n f k j i)
