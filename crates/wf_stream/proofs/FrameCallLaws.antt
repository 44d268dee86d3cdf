-- The calls of a frame: its opening, its record and its count.
use Rattle.std.proofs.Common.{◌≡◌, ℕ, ◌+◌, cond, true, false, List, [], ◌∷◌, ◌++◌, Option, Result, Ok, Err, refl, sym, ◌∙◌, subst}
use Rattle.wf_model.specs.declared.frame.Frame.{Frame}
use Rattle.wf_model.specs.Bytes.{four_bytes}
use Rattle.wf_model.specs.Files.{Files, StoreCall, create, append, write_at}
use Rattle.wf_model.specs.Outcome.{RunData}
use Rattle.wf_model.specs.Writes.{frame_calls, header_of, record_of}
use Rattle.wf_stream.specs.StoreWrites.{Wrote, appends, opening, with_bytes, with_parts}
use Rattle.wf_stream.specs.declared.writer.StreamError.{StreamError}
use Rattle.wf_stream.specs.declared.writer.Totals.{Totals}
use Rattle.wf_stream.proofs.StoreWriteLaws.{wrote_all, wrote_then, wrote_left, wrote_as}

-- bytes make no file
pub files_kept : (t : Totals) (ps : List (List ℕ)) → (with_parts t ps).files ≡ t.files
files_kept t [] = refl
files_kept t (p ∷ ps) = files_kept (with_bytes t p) ps

-- ---- the opening

pub opening_none : (r : RunData) (frame : Frame) → frame.first ≡ false → [] ≡ opening r frame
unfolding opening
opening_none r frame other = λ i. cond (sym other i) (create frame.file ∷ append frame.file (header_of r frame) ∷ []) []

pub opening_some : (r : RunData) (frame : Frame) (name header : List ℕ) → frame.first ≡ true → name ≡ frame.file → header ≡ header_of r frame → ◌≡◌ {A = List StoreCall} (create name ∷ append name header ∷ []) (opening r frame)
unfolding opening
opening_some r frame name header first same is =
    (λ i. create (same i) ∷ append (same i) (is i) ∷ [])
    ∙ (λ i. cond (sym first i) (create frame.file ∷ append frame.file (header_of r frame) ∷ []) [])

-- ---- all of a frame

module _ (r : RunData) (frame : Frame) (name : List ℕ) (parts : List (List ℕ)) (same : name ≡ frame.file) (are : parts ≡ record_of r frame) where
  count : List StoreCall
  count = write_at frame.file 4 (four_bytes (frame.rec + 1)) ∷ []

  calls_are : (opening r frame ++ appends frame.file parts) ++ count ≡ frame_calls r frame
  unfolding opening frame_calls count
  calls_are = λ i. (opening r frame ++ appends frame.file (are i)) ++ count

  -- the opening failed
  pub opening_failed : (a b : Option Files) (l m : ℕ) (f : List ℕ) (e : StreamError) → Wrote {X = Unit {0}} (opening r frame) frame.file a b l m f (Err e) → Wrote {X = Totals} (frame_calls r frame) frame.file a b l m f (Err e)
  opening_failed a b l m f e p =
      subst (λ (cs : List StoreCall). Wrote {X = Totals} cs frame.file a b l m f (Err e)) calls_are
      (wrote_left {X = Totals} (opening r frame ++ appends frame.file parts) count frame.file a b l m f e (wrote_left {X = Unit {0}} (opening r frame) (appends frame.file parts) frame.file a b l m f e p))

  module _ (a b c : Option Files) (l m n : ℕ) (f g : List ℕ) (opened : Wrote {X = Unit {0}} (opening r frame) frame.file a b l m f (Ok tt)) where
    -- the calls up to the record's end
    behind : (t : Result Totals StreamError) → Wrote {X = Totals} (appends name parts) name b c m n g t → Wrote {X = Totals} (opening r frame ++ appends frame.file parts) frame.file a c l n g t
    behind t p = wrote_then (opening r frame) (appends frame.file parts) frame.file a b c l m n f g tt t opened (subst (λ (q : List ℕ). Wrote {X = Totals} (appends q parts) q b c m n g t) same p)

    -- the record failed
    pub record_failed : (e : StreamError) → Wrote {X = Totals} (appends name parts) name b c m n g (Err e) → Wrote {X = Totals} (frame_calls r frame) frame.file a c l n g (Err e)
    record_failed e p =
        subst (λ (cs : List StoreCall). Wrote {X = Totals} cs frame.file a c l n g (Err e)) calls_are
        (wrote_left {X = Totals} (opening r frame ++ appends frame.file parts) count frame.file a c l n g e (behind (Err e) p))

    module _ (d : Option Files) (k : ℕ) (h : List ℕ) (t : Totals) (recorded : Wrote {X = Totals} (appends name parts) name b c m n g (Ok t)) where
      all : (s : Result (Unit {0}) StreamError) → Wrote (write_at name 4 (four_bytes (frame.rec + 1)) ∷ []) name c d n k h s → Wrote (frame_calls r frame) frame.file a d l k h s
      unfolding count
      all s p =
          subst (λ (cs : List StoreCall). Wrote {X = Unit {0}} cs frame.file a d l k h s) calls_are
          (wrote_then (opening r frame ++ appends frame.file parts) count frame.file a c d l n k g h t s (behind (Ok t) recorded) (subst (λ (q : List ℕ). Wrote {X = Unit {0}} (write_at q 4 (four_bytes (frame.rec + 1)) ∷ []) q c d n k h s) same p))

      -- the count failed
      pub count_failed : (e : StreamError) → Wrote {X = Unit {0}} (write_at name 4 (four_bytes (frame.rec + 1)) ∷ []) name c d n k h (Err e) → Wrote {X = Totals} (frame_calls r frame) frame.file a d l k h (Err e)
      count_failed e p = wrote_as {X = Unit {0}} (frame_calls r frame) frame.file a d l k h e (all (Err e) p)

      -- and all went well
      pub all_written : (u : Totals) → Wrote {X = Unit {0}} (write_at name 4 (four_bytes (frame.rec + 1)) ∷ []) name c d n k h (Ok tt) → Wrote {X = Totals} (frame_calls r frame) frame.file a d l k h (Ok u)
      all_written u p = let w = all (Ok tt) p in wrote_all (frame_calls r frame) frame.file a d l k h u w.ok w.later
