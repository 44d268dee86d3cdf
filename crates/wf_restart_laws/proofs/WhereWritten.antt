-- Reading back in the store that a run left.
use Rattle.std.proofs.Common.{◌≡◌, ⊎_elim, ℕ, ◌+◌, false, List, [], ◌∷◌, ◌++◌, get_or, refl, sym, ap, ◌∙◌, subst, arith}
use Rattle.std.specs.Prelude.{◌==◌, flat_map, codes, if◌then◌else◌}
use Rattle.wf_model.specs.declared.frame.Frame.{Frame}
use Rattle.wf_model.specs.declared.plan.Plan.{Plan}
use Rattle.wf_model.specs.Calendar.{two_digits}
use Rattle.wf_model.specs.Files.{Files, files_after_all}
use Rattle.wf_model.specs.InputOf.{input_file, restart_file}
use Rattle.wf_model.specs.Outcome.{RunData, script, outcome_of}
use Rattle.wf_model.specs.Frames.{outputs_from, frames_from, frames_of, frames_written}
use Rattle.wf_model.specs.Script.{restart_stream}
use Rattle.wf_model.specs.Streams.{file_name}
use Rattle.wf_model.specs.SoundRun.{IsSoundRun}
use Rattle.wf_model.specs.Writes.{frame_calls, writes_of}
use Rattle.wf_laws.proofs.Bools.{split_bool, differ}
use Rattle.wf_laws.proofs.Members.{In, In-filter_out}
use Rattle.wf_model.specs.Continued.{goes_on, IsRestartTime}
use Rattle.wf_restart_laws.specs.SameFrames.{overflow_in_all}
use Rattle.wf_restart_laws.specs.ReadBack.{RestartFilesAreReadBack, RestartFilesAreReadBackWhereWritten}
use Rattle.wf_restart_laws.specs.Filed.{restart_name}
use Rattle.wf_restart_laws.proofs.LaterFrames.{written_are, comes_to}
use Rattle.wf_restart_laws.proofs.RestartFiles.{none_on}
use Rattle.wf_restart_laws.proofs.RestartNames.{frame_of_output, named}
use Rattle.wf_restart_laws.proofs.StoreFiles.{others}

-- no frame's file has the name of an input file
name_input : (stream d e : ℕ) (x : List ℕ) → file_name stream d x ≡ input_file e → ⊥
name_input stream d e x same = ⊎_elim
    (λ z. apart 111 105 refl refl (ap (λ l. get_or l 3 0) ((λ i. (if sym z i then codes "wrfout" else (if stream == restart_stream then codes "wrfrst" else (codes "auxhist" ++ ((48 + stream) ∷ [])))) ++ codes "_d" ++ two_digits d ++ codes "_" ++ x) ∙ same)))
    (λ z. ⊎_elim
    (λ y. rest 114 105 refl refl (ap (λ l. get_or l 3 0) ((λ i. (if sym z i then codes "wrfout" else (if sym y i then codes "wrfrst" else (codes "auxhist" ++ ((48 + stream) ∷ [])))) ++ codes "_d" ++ two_digits d ++ codes "_" ++ x) ∙ same)))
    (λ y. first 97 119 refl refl (ap (λ l. get_or l 0 0) ((λ i. (if sym z i then codes "wrfout" else (if sym y i then codes "wrfrst" else (codes "auxhist" ++ ((48 + stream) ∷ [])))) ++ codes "_d" ++ two_digits d ++ codes "_" ++ x) ∙ same)))
    (split_bool (stream == restart_stream)))
    (split_bool (stream == 0))
  where
    apart : (a b : ℕ) → a ≡ 111 → b ≡ 105 → a ≡ b → ⊥
    apart a b p q e = omega (arith, p, q, e)

    rest : (a b : ℕ) → a ≡ 114 → b ≡ 105 → a ≡ b → ⊥
    rest a b p q e = omega (arith, p, q, e)

    first : (a b : ℕ) → a ≡ 97 → b ≡ 119 → a ≡ b → ⊥
    first a b p q e = omega (arith, p, q, e)

module _ (r : RunData) (m : ℕ) (old : Files) (sound : IsSoundRun r) (time : IsRestartTime r m) where
  -- a frame that is written is of an output
  of_output : (f : Frame) → In f (frames_written r) → In f (frames_from r.plan [] (outputs_from 0 (script r)))
  unfolding frames_of
  of_output f i =
      (In-filter_out (λ (x : Frame). comes_to (overflow_in_all (outcome_of r)) x.place) f (frames_from r.plan [] (outputs_from 0 (script r)))
      (subst (λ (fs : List Frame). In f fs) (written_are (outcome_of r) (frames_from r.plan [] (outputs_from 0 (script r)))) i)).0

  -- a domain that doesn't go on: its restart file is as it was
  no_restart_file : (d : ℕ) → goes_on r m d ≡ false → files_after_all old (writes_of r) (restart_name r m d) ≡ old (restart_name r m d)
  unfolding writes_of
  no_restart_file d off = others old (flat_map (frame_calls r) (frames_written r)) (restart_name r m d) (none_on r (frames_written r) (restart_name r m d) (λ f i e.
      let w = frame_of_output r.plan [] (outputs_from 0 (script r)) f (of_output f i) in
      differ (sym (named r m d w.0 w.1 sound time.within w.2 (sym (ap (λ (g : Frame). g.file) w.3) ∙ e)).going ∙ off)))

  -- and so is each input file
  same_input : (d : ℕ) → files_after_all old (writes_of r) (input_file d) ≡ old (input_file d)
  unfolding writes_of
  same_input d = others old (flat_map (frame_calls r) (frames_written r)) (input_file d) (none_on r (frames_written r) (input_file d) (λ f i e.
      let w = frame_of_output r.plan [] (outputs_from 0 (script r)) f (of_output f i) in
      name_input (w.1).stream (w.1).entry.domain d _ (sym (ap (λ (g : Frame). g.file) w.3) ∙ e)))

pub where_written : RestartFilesAreReadBack → RestartFilesAreReadBackWhereWritten
where_written read r m plan old sound ints names from time continued none =
    read r m plan old (files_after_all old (writes_of r)) sound ints names from time continued (record {
      written = λ d dom on. refl;
      others = λ d dom off at. ap (files_after_all old (writes_of r)) (name d) ∙ no_restart_file r m old sound time d off ∙ ap old (sym (name d)) ∙ none d dom off at;
      inputs = λ d dom off file. same_input r m old sound time d;
    })
  where
    name : (d : ℕ) → restart_file plan d ≡ restart_name r m d
    name d = ap (file_name restart_stream d) (ap (λ (p : Plan). p.start) continued.same)
