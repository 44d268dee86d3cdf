-- The front: where each patch stands before each place of the script. It goes place by place, and
-- knows no events and no mail: what a patch does at a place is told by where all patches stood
-- before that place. Each list of events leads along it.
use Rattle.std.specs.Prelude.{ℕ, zero, suc, ◌+◌, Bool, true, false, ◌||◌, List, [], ◌∷◌, length}
use Rattle.std.specs.Prelude.{map, flat_map, zip, ℤ, is_some, Option, Some, None, slice_get}
use Rattle.std.specs.List.{list_any}
use Rattle.wf_model.specs.declared.plan.Plan.{Plan}
use Rattle.wf_model.specs.declared.layout.Layout.{Layout}
use Rattle.wf_model.specs.declared.script.Entry.{Entry}
use Rattle.wf_model.specs.Outcome.{RunData, script}
use Rattle.wf_model.specs.Patches.{split_of}
use Rattle.wf_model.specs.Exchange.{Letter, sender_of, carried, senders_to}
use Rattle.wf_model.specs.PatchEffect.{Memory, Setting, Mail, sets_nothing, after_setting, taking}
use Rattle.wf_model.specs.PatchEffect.{computing, least_failure}
use Rattle.wf_model.specs.Halves.{Half, acts, sends, takes, posts, act_halves}
use Rattle.wf_model.specs.Core.{begin_patch, memory_point}

-- where a patch stands: its memory, and whether it is stopped
pub record Stand : Type 0 where
  pub memory : Memory
  pub is_stopped : Bool

-- where all patches stand, by domain and patch
abbrev pub Stands : Type 0
Stands = ℕ → ℕ → Stand

-- a patch that stops keeps its memory; one that goes through sets what its half sets
abbrev pub stand_after : Bool → Setting → Memory → Stand
stand_after true c m = record { memory = m; is_stopped = true }
stand_after false c m = record { memory = after_setting c m; is_stopped = false }

-- a patch that is stopped stays as it is
abbrev pub unless_stopped : Bool → Stand → Stand → Stand
unless_stopped true old new = old
unless_stopped false old new = new

-- of a place's halves the last: sending and posting change no memory, so it alone tells where the
-- patch stands after the place
abbrev pub last_half : List Half → Half
last_half [] = posts []
last_half (h ∷ []) = h
last_half (h ∷ g ∷ hs) = last_half (g ∷ hs)

-- how many halves a domain's patches have at the first k entries
unfoldable pub halves_in : Plan → ℕ → List Entry → ℕ → ℕ
halves_in plan d [] k = 0
halves_in plan d (e ∷ es) zero = 0
halves_in plan d (e ∷ es) (suc k) = length (act_halves plan d e e.act) + halves_in plan d es k

-- how many they have before a place of the script
abbrev pub halves_before : RunData → ℕ → ℕ → ℕ
halves_before r d k = halves_in r.plan d (script r) k

module _ (r : RunData) (layout : Layout) where
  -- the numbers that a patch q sends to a patch p at an entry: those of its own cells
  abbrev pub sent_numbers : Stands → Entry → ℕ → ℕ → List ℤ
  sent_numbers f e q p =
      map (memory_point r.plan (sender_of r.plan e e.act) (f (sender_of r.plan e e.act) q).memory)
      (carried r.plan (split_of layout) e e.act q p)

  -- the message that it sends at place k
  abbrev pub letter_at : Stands → ℕ → Entry → ℕ → ℕ → Letter
  letter_at f k e q p = record { place = k; from = q; to = p; values = sent_numbers f e q p }

  -- all that comes to a patch at an entry: the cells of each message, and their numbers
  abbrev pub mail_to : Stands → Entry → ℕ → Mail
  mail_to f e p = flat_map (λ q. zip (carried r.plan (split_of layout) e e.act q p)
      (sent_numbers f e q p)) (senders_to r.plan (split_of layout) e p)

  -- one of the patches that should send to it is stopped
  abbrev pub lacks_mail : Stands → Entry → ℕ → Bool
  lacks_mail f e p = list_any (λ q. (f (sender_of r.plan e e.act) q).is_stopped)
      (senders_to r.plan (split_of layout) e p)

  -- what a half sets
  abbrev pub half_sets : Stands → Entry → ℕ → Memory → Half → Setting
  half_sets f e p m acts = computing r (split_of layout) e e.act p m
  half_sets f e p m sends = sets_nothing
  half_sets f e p m takes = taking r (split_of layout) e e.act p (mail_to f e p) m
  half_sets f e p m (posts levels) = sets_nothing

  -- a cell that a patch sets has no number
  abbrev pub overflows : ℕ → ℕ → Setting → Bool
  overflows d p c = is_some (least_failure r.plan (split_of layout) d p c)

  -- the patch stops in place of its half
  abbrev pub half_stops : Stands → Entry → ℕ → ℕ → Memory → Half → Bool
  half_stops f e d p m acts = overflows d p (half_sets f e p m acts)
  half_stops f e d p m sends = false
  half_stops f e d p m takes = lacks_mail f e p || overflows d p (half_sets f e p m takes)
  half_stops f e d p m (posts levels) = false

  -- where a patch stands after a half
  unfoldable pub half_effect : Stands → Entry → ℕ → ℕ → Half → Stand
  half_effect f e d p h =
      unless_stopped (f d p).is_stopped (f d p)
      (stand_after (half_stops f e d p (f d p).memory h)
      (half_sets f e p (f d p).memory h) (f d p).memory)

  -- where a patch stands after a place
  abbrev pub place_effect : Option Entry → Stands → Stands
  place_effect None f d p = f d p
  place_effect (Some e) f d p = half_effect f e d p (last_half (act_halves r.plan d e e.act))

  -- where each patch stands before a place
  unfoldable pub front : ℕ → Stands
  front zero d p = record { memory = (begin_patch r layout d p).memory; is_stopped = false }
  front (suc k) d p = place_effect (slice_get (script r) k) (front k) d p
