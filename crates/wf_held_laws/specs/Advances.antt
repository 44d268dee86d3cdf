-- What a patch sends, posts, receives and sets as it goes along the front.
use Rattle.std.specs.Prelude.{◌≡◌, ◌⊎◌, ℕ, true, false, List, map, flat_map, zip, Some, IsTrue}
use Rattle.std.specs.Prelude.{slice_get}
use Rattle.wf_model.specs.declared.layout.Layout.{Layout}
use Rattle.wf_model.specs.declared.frame.Frame.{Frame}
use Rattle.wf_model.specs.declared.script.Entry.{Entry}
use Rattle.wf_model.specs.declared.event.Event.TheVariants.{Step, Take, Stop}
use Rattle.wf_model.specs.Outcome.{RunData, script}
use Rattle.wf_model.specs.Frames.{frames_of, variables_of}
use Rattle.wf_model.specs.Patches.{split_of, own_box, cells_in}
use Rattle.wf_model.specs.Exchange.{carried, senders_to}
use Rattle.wf_model.specs.PatchEffect.{Memory, Mail, taking}
use Rattle.wf_model.specs.Halves.{sends, takes, posts, Due, due_after}
use Rattle.wf_model.specs.Core.{CoreState, due_of, has_mail, mail_at, frame_at, memory_point}
use Rattle.wf_model.specs.Core.{setting_at}
use Rattle.wf_model.specs.Replay.{IsEnabled, IsReachable}
use Rattle.wf_model.specs.Front.{front, mail_to, half_sets, half_stops}
use Rattle.wf_model.specs.Placed.{IsPlaced}
use Rattle.wf_model.specs.Held.{message_numbers, piece_numbers}
use Rattle.wf_model.specs.Agreement.{IsAccepted, IsPatch, cell_number}

-- the cells and numbers of all messages to a patch at a place
abbrev pub messages_to : RunData → Layout → ℕ → Entry → ℕ → Mail
messages_to r layout k e p =
    flat_map
    (λ q. zip (carried r.plan (split_of layout) e e.act q p) (message_numbers r layout k q p))
    (senders_to r.plan (split_of layout) e p)

-- they are all that comes to it in the front
abbrev pub FrontReceivesTheMessages : Type 0
FrontReceivesTheMessages =
    (r : RunData) (layout : Layout) (k : ℕ) (e : Entry) (p : ℕ) →
    IsAccepted r layout → slice_get (script r) k ≡ Some e →
    mail_to r layout (front r layout k) e p ≡ messages_to r layout k e p

-- a placed patch sends them
abbrev pub PlacedPatchesSendTheMessages : Type 0
PlacedPatchesSendTheMessages =
    (r : RunData) (layout : Layout) (d p n : ℕ) (due : Due) (m : Memory) (q : ℕ) →
    IsAccepted r layout → IsPatch layout p →
    due_after r d n ≡ Some due → due.half ≡ sends → IsPlaced r layout d p n m →
    map (memory_point r.plan d m) (carried r.plan (split_of layout) due.entry (due.entry).act p q)
    ≡ message_numbers r layout due.place p q

-- the frame at a place, of a domain and with these levels
pub record IsFrameAt (r : RunData) (layout : Layout) (place d : ℕ) (levels : List ℕ) : Type 0 where
  pub frame : Frame
  pub is : slice_get (frames_of r) (frame_at r layout place) ≡ Some frame
  pub place_is : frame.place ≡ place
  pub domain_is : frame.domain ≡ d
  pub levels_are : levels ≡ variables_of r frame

-- there is one where pieces are posted
abbrev pub PostsAreOfAFrame : Type 0
PostsAreOfAFrame =
    (r : RunData) (layout : Layout) (d n : ℕ) (due : Due) (levels : List ℕ) →
    due_after r d n ≡ Some due → due.half ≡ posts levels →
    IsFrameAt r layout due.place d levels

-- a placed patch posts its pieces
abbrev pub PlacedPatchesPostThePieces : Type 0
PlacedPatchesPostThePieces =
    (r : RunData) (layout : Layout) (d p n : ℕ) (due : Due) (m : Memory) (levels : List ℕ)
    (f : ℕ) →
    IsAccepted r layout → IsPatch layout p →
    due_after r d n ≡ Some due → due.half ≡ posts levels → IsPlaced r layout d p n m →
    map (cell_number m) (cells_in r.plan f (own_box r.plan (split_of layout) d p f))
    ≡ piece_numbers r layout (frame_at r layout due.place) f p

-- what a patch makes of the messages to it is what the front sets
abbrev pub ReceivedMessagesSetAsInTheFront : Type 0
ReceivedMessagesSetAsInTheFront =
    (r : RunData) (layout : Layout) (k : ℕ) (e : Entry) (p : ℕ) (m : Memory) →
    IsAccepted r layout → slice_get (script r) k ≡ Some e →
    taking r (split_of layout) e e.act p (messages_to r layout k e p) m
    ≡ half_sets r layout (front r layout k) e p m takes

-- where all messages to a patch are in the mail of a state, they have the messages' numbers
abbrev pub MailOfStatesIsTheMessages : Type 0
MailOfStatesIsTheMessages =
    (r : RunData) (layout : Layout) (s : CoreState) (d p : ℕ) (due : Due) →
    IsAccepted r layout → IsReachable r layout s → IsPatch layout p →
    due_of r layout s d p ≡ Some due → due.half ≡ takes → IsTrue (has_mail r layout s due p) →
    mail_at r layout s due p ≡ messages_to r layout due.place due.entry p

-- a half of a state goes through in the front, and sets what it sets there
pub record GoesAsInTheFront (r : RunData) (layout : Layout) (s : CoreState) (d p : ℕ) (due : Due)
    : Type 0 where
  pub goes :
      half_stops r layout (front r layout due.place) due.entry d p (s.patches d p).memory due.half
      ≡ false
  pub sets :
      setting_at r layout s d p due
      ≡ half_sets r layout (front r layout due.place) due.entry p (s.patches d p).memory due.half

-- so does each half that may come
abbrev pub EnabledHalvesGoAsInTheFront : Type 0
EnabledHalvesGoAsInTheFront =
    (r : RunData) (layout : Layout) (s : CoreState) (d p : ℕ) (due : Due) →
    IsReachable r layout s → due_of r layout s d p ≡ Some due →
    IsEnabled r layout s (Step d p) ⊎ IsEnabled r layout s (Take d p) →
    GoesAsInTheFront r layout s d p due

-- and where a patch may stop it stops in the front
abbrev pub EnabledStopsStopInTheFront : Type 0
EnabledStopsStopInTheFront =
    (r : RunData) (layout : Layout) (s : CoreState) (d p : ℕ) (due : Due) →
    IsReachable r layout s → due_of r layout s d p ≡ Some due →
    IsEnabled r layout s (Stop d p) →
    half_stops r layout (front r layout due.place) due.entry d p (s.patches d p).memory due.half
    ≡ true
