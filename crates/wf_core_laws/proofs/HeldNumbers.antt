-- Letters and pieces carry the numbers of their messages and frames: the grids' up to the first overflow, and past it those of the lockstep run.
use Rattle.std.proofs.Common.{◌≡◌, inl, inr, ℕ, ◌≤◌, true, List, map, All, Some, ap, sym, ◌∙◌, subst, arith, length}
use Rattle.std.specs.Prelude.{slice_get, pos, if◌then◌else◌}
use Rattle.std.proofs.lemmas.Option.{get_or_from_slice_get, slice_get_within}
use Rattle.std.proofs.lemmas.List.Elements.{All-weaker}
use Rattle.wf_model.specs.declared.layout.Layout.{Layout}
use Rattle.wf_model.specs.declared.frame.Frame.{Frame}
use Rattle.wf_model.specs.declared.script.Entry.{Entry}
use Rattle.wf_model.specs.Plans.{nz, point_x, point_y}
use Rattle.wf_model.specs.Outcome.{RunData, script, entry_at, no_entry, outcome_of, grids_at}
use Rattle.wf_model.specs.Frames.{frames_of, frame_of, no_frame}
use Rattle.wf_model.specs.Patches.{split_of, Cell, own_box, is_own, cells_in, in_box}
use Rattle.wf_model.specs.Shapes.{grid_cell}
use Rattle.wf_model.specs.Exchange.{Letter, sender_of, carried}
use Rattle.wf_model.specs.Core.{CoreState, Posted, memory_point}
use Rattle.wf_model.specs.Held.{stands_past, grids_in_patches, numbers_at, message_numbers, piece_numbers}
use Rattle.wf_model.specs.Agreement.{IsAccepted, IsPatch, IsOwnCell, memory_at, cell_number}
use Rattle.wf_laws.proofs.Bools.{split_bool}
use Rattle.wf_laws.proofs.Members.{In, map-same}
use Rattle.wf_laws.proofs.Cells.{IsCellIn, In-cells_out}
use Rattle.wf_laws.proofs.Places.{IsRoom, room_of, own-domain, place-domain}
use Rattle.wf_laws.proofs.NestMail.{domain_x, domain_y}
use Rattle.wf_laws.proofs.Senders.{owner_is}
use Rattle.wf_laws.proofs.PatchLaws.{own_hold}
use Rattle.wf_laws.proofs.MessageLaws.{senders_send}
use Rattle.wf_core_laws.specs.Patches.{IsDomainPatch, IsMessage}
use Rattle.wf_core_laws.specs.Carried.{IsLockstepLetter, IsLockstepPiece, HasMessageNumbers, HasFrameNumbers}
use Rattle.wf_core_laws.proofs.FrameLaws.{FrameAt, frame_here}

module _ (r : RunData) (layout : Layout) where
  -- the entry at a place, by its look-up
  pub entry_is : (k : ℕ) (e : Entry) → slice_get (script r) k ≡ Some e → entry_at r k ≡ e
  unfolding entry_at
  entry_is k e h = get_or_from_slice_get (script r) k e no_entry h

  -- the frame with a number, by its look-up
  pub frame_is : (n : ℕ) (f : Frame) → slice_get (frames_of r) n ≡ Some f → frame_of r n ≡ f
  unfolding frame_of
  frame_is n f h = get_or_from_slice_get (frames_of r) n f no_frame h

  -- a frame's place lies in the script
  pub frame_within : (n : ℕ) (f : Frame) → slice_get (frames_of r) n ≡ Some f → f.place ≤ length (script r)
  frame_within n f h =
      let fa : FrameAt (script r) 0 0 n f = frame_here r n f h in
      omega (arith, fa.place, slice_get_within (script r) fa.k fa.e fa.entry)

  -- a cell of the own box is an own cell
  cell_own : (d p f : ℕ) (c : Cell) → In c (cells_in r.plan f (own_box r.plan (split_of layout) d p f)) → IsOwnCell r.plan (split_of layout) d p c
  unfolding is_own
  cell_own d p f c h =
      let e : IsCellIn r.plan f (own_box r.plan (split_of layout) d p f) c = In-cells_out r.plan f (own_box r.plan (split_of layout) d p f) c h in
      record {
        level = (e.low, subst (λ (g : ℕ). c.k ≤ nz r.plan g) (sym e.field) e.high);
        own = subst (λ (g : ℕ). in_box (own_box r.plan (split_of layout) d p g) c.j c.i ≡ true) (sym e.field) e.box;
      }

module _ (r : RunData) (layout : Layout) (ok : IsAccepted r layout) where
  module _ (n d p : ℕ) (at : IsDomainPatch r.plan layout d p) where
    -- past the first overflow the number of an own cell is its owner's
    past_number : (c : Cell) → IsOwnCell r.plan (split_of layout) d p c → cell_number (memory_at r layout n d p) c ≡ grid_cell r.plan d (grids_in_patches r layout n) c
    past_number c cell =
        let room : IsRoom r.plan (split_of layout) d = room_of r.plan layout ok.laid d at.domain in
        let own = cell.own in
        let inside = own-domain r.plan (split_of layout) d room p c.field c.j c.i at.patch own in
        let y : pos (point_y r.plan d c.field c.j) ≡ c.j = domain_y r.plan d c.field c.j c.i inside in
        let x : pos (point_x r.plan d c.field c.i) ≡ c.i = domain_x r.plan d c.field c.j c.i inside in
        let own_point : is_own r.plan (split_of layout) d p c.field (pos (point_y r.plan d c.field c.j)) (pos (point_x r.plan d c.field c.i)) ≡ true = (λ m. is_own r.plan (split_of layout) d p c.field (y m) (x m)) ∙ own in
        (λ m. memory_at r layout n d p c.field c.k (sym y m) (sym x m))
        ∙ ap (λ (q : ℕ). memory_at r layout n d q c.field c.k (pos (point_y r.plan d c.field c.j)) (pos (point_x r.plan d c.field c.i)))
        (owner_is r.plan (split_of layout) d room c p at.patch (place-domain r.plan (split_of layout) d room c.field c.j c.i inside) own_point)

    -- an own cell holds its number: up to the first overflow the grids'
    pub own_number : n ≤ length (script r) → (c : Cell) → IsOwnCell r.plan (split_of layout) d p c → cell_number (memory_at r layout n d p) c ≡ grid_cell r.plan d (numbers_at r layout n) c
    unfolding numbers_at
    own_number within c own =
        elim (split_bool (stands_past n (outcome_of r))) [
          | inl past ↦ past_number c own
              ∙ ap (λ b. grid_cell r.plan d (if b then grids_in_patches r layout n else grids_at r n) c) (sym past)
          | inr up ↦ own_hold r layout n d p c ok (record { within = within; before = up }) at.domain at.patch own
              ∙ ap (λ b. grid_cell r.plan d (if b then grids_in_patches r layout n else grids_at r n) c) (sym up)
        ]

    -- so the own numbers are those of the frame
    own_numbers_are : (f : ℕ) → n ≤ length (script r) →
        map (cell_number (memory_at r layout n d p)) (cells_in r.plan f (own_box r.plan (split_of layout) d p f)) ≡ map (grid_cell r.plan d (numbers_at r layout n)) (cells_in r.plan f (own_box r.plan (split_of layout) d p f))
    own_numbers_are f within =
        map-same (cell_number (memory_at r layout n d p)) (grid_cell r.plan d (numbers_at r layout n)) (cells_in r.plan f (own_box r.plan (split_of layout) d p f))
        (λ c h. own_number within c (cell_own r layout d p f c h))

  -- the own numbers that a patch has at a frame's place are those of its piece
  pub frame_numbers : (i : ℕ) (frame : Frame) (p f : ℕ) → slice_get (frames_of r) i ≡ Some frame → IsDomainPatch r.plan layout frame.domain p →
      map (cell_number (memory_at r layout frame.place frame.domain p)) (cells_in r.plan f (own_box r.plan (split_of layout) frame.domain p f)) ≡ piece_numbers r layout i f p
  unfolding piece_numbers
  frame_numbers i frame p f is at =
      own_numbers_are frame.place frame.domain p at f (frame_within r layout i frame is)
      ∙ ap (λ (g : Frame). map (grid_cell r.plan g.domain (numbers_at r layout g.place)) (cells_in r.plan f (own_box r.plan (split_of layout) g.domain p f))) (sym (frame_is r layout i frame is))

  -- the numbers that a patch sends at a place are those of its message
  pub sent_are : (k : ℕ) (e : Entry) (q p : ℕ) → slice_get (script r) k ≡ Some e → IsPatch layout q →
      map (memory_point r.plan (sender_of r.plan e e.act) (memory_at r layout k (sender_of r.plan e e.act) q)) (carried r.plan (split_of layout) e e.act q p) ≡ message_numbers r layout k q p
  sent_are k e q p entry hq =
      ap (λ (x : Entry). map (memory_point r.plan (sender_of r.plan x x.act) (memory_at r layout k (sender_of r.plan x x.act) q)) (carried r.plan (split_of layout) x x.act q p)) (sym (entry_is r layout k e entry))
      ∙ senders_send r layout k q p ok (slice_get_within (script r) k e entry) hq

  -- a letter with the lockstep run's numbers has its message's
  letter_holds : (l : Letter) → IsLockstepLetter r layout l → HasMessageNumbers r layout l
  letter_holds l a =
      let m : IsMessage r layout l.place a.e l.from l.to = a.message in
      a.numbers ∙ sent_are l.place a.e l.from l.to m.entry m.from

  -- so have all letters
  pub letters_hold : (s : CoreState) → All (IsLockstepLetter r layout) s.mail → All (HasMessageNumbers r layout) s.mail
  letters_hold s all = All-weaker (IsLockstepLetter r layout) (HasMessageNumbers r layout) letter_holds s.mail all

  -- a piece with the lockstep run's numbers has its frame's
  piece_holds : (x : Posted) → IsLockstepPiece r layout x → HasFrameNumbers r layout x
  piece_holds x a = a.numbers ∙ frame_numbers x.frame a.f x.patch x.field a.frame a.patch

  -- so have all pieces
  pub pieces_hold : (xs : List Posted) → All (IsLockstepPiece r layout) xs → All (HasFrameNumbers r layout) xs
  pieces_hold xs all = All-weaker (IsLockstepPiece r layout) (HasFrameNumbers r layout) piece_holds xs all
