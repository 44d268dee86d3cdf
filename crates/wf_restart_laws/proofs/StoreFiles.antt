-- What calls leave of a file.
use Rattle.std.proofs.Common.{◌≡◌, inl, inr, ℕ, ◌+◌, true, List, [], ◌∷◌, ◌++◌, map, Option, Some, refl, sym, ap, ◌∙◌, append_assoc}
use Rattle.std.proofs.lemmas.List.{append-nil}
use Rattle.std.proofs.lemmas.List.Elements.{All-head, All-tail}
use Rattle.std.proofs.lemmas.List.Sums.{fold-append}
use Rattle.std.proofs.lemmas.Slice.Eq.{bytes_eq-Decides}
use Rattle.std.specs.Prelude.{flat_map, unwrap_or, if◌then◌else◌}
use Rattle.std.specs.Str.{bytes_eq}
use Rattle.wf_model.specs.declared.header.Header.{Header}
use Rattle.wf_model.specs.Bytes.{four_bytes, header_bytes}
use Rattle.wf_model.specs.Files.{Files, StoreCall, create, append, write_at, with_file, bytes_at, patched, after_call, files_after_all}
use Rattle.wf_model.specs.Headers.{file_header, placed}
use Rattle.wf_model.specs.Plans.{begin_of}
use Rattle.wf_model.specs.Writes.{record_of, frame_calls, steps_at}
use Rattle.wf_laws.proofs.Bools.{if_false, split_bool}
use Rattle.wf_restart_laws.specs.Filed.{called, OtherCallsLeaveAFile, FirstFramesMakeTheirFiles}

-- another name's file
other-file : (m : Files) (name q bytes : List ℕ) → (name ≡ q → ⊥) → with_file m name bytes q ≡ m q
other-file m name q bytes h = if_false (bytes_eq q name) (Some bytes) (m q) (elim (split_bool (bytes_eq q name)) [
  | inl e ↦ absurd (h (sym ((bytes_eq-Decides q name).0 e)))
  | inr e ↦ e
])

-- a call on another file
other-call : (m : Files) (c : StoreCall) (q : List ℕ) → (called c ≡ q → ⊥) → after_call m c q ≡ m q
other-call m (create name) q h = other-file m name q [] h
other-call m (append name bytes) q h = other-file m name q (bytes_at m name ++ bytes) h
other-call m (write_at name at bytes) q h = other-file m name q (patched (bytes_at m name) at bytes) h

pub others : OtherCallsLeaveAFile
others m [] q h = refl
others m (c ∷ cs) q h = others (after_call m c) cs q (All-tail (λ (x : StoreCall). called x ≡ q → ⊥) c cs h) ∙ other-call m c q (All-head (λ (x : StoreCall). called x ≡ q → ⊥) c cs h)

-- the name's own file
own-file : (m : Files) (name bytes : List ℕ) → with_file m name bytes name ≡ Some bytes
own-file m name bytes = let same : bytes_eq name name ≡ true = (bytes_eq-Decides name name).1 refl in λ i. if same i then Some bytes else m name

module _ (name : List ℕ) where
  -- bytes are added to those that stand there
  appended : (m : Files) (b x : List ℕ) → m name ≡ Some b → after_call m (append name x) name ≡ Some (b ++ x)
  appended m b x h = own-file m name (bytes_at m name ++ x) ∙ ap (λ (o : Option (List ℕ)). Some (unwrap_or o [] ++ x)) h

  -- slab by slab
  all_appended : (m : Files) (b : List ℕ) (xs : List (List ℕ)) → m name ≡ Some b → files_after_all m (map (append name) xs) name ≡ Some (b ++ flat_map (λ (x : List ℕ). x) xs)
  all_appended m b [] h = h ∙ ap (λ (c : List ℕ). Some c) (sym (append-nil b))
  all_appended m b (x ∷ xs) h =
      all_appended (after_call m (append name x)) (b ++ x) xs (appended m b x h) ∙ ap (λ (c : List ℕ). Some c) (append_assoc b x (flat_map (λ (y : List ℕ). y) xs))

  -- and bytes are written over others
  written_over : (m : Files) (b : List ℕ) (at : ℕ) (x : List ℕ) → m name ≡ Some b → after_call m (write_at name at x) name ≡ Some (patched b at x)
  written_over m b at x h = own-file m name (patched (bytes_at m name) at x) ∙ ap (λ (o : Option (List ℕ)). Some (patched (unwrap_or o []) at x)) h

-- the number of records stands at 4
counted : (h : Header) (rest : List ℕ) → patched (header_bytes h ++ rest) 4 (four_bytes 1) ≡ header_bytes (record h { numrecs = 1 }) ++ rest
unfolding header_bytes
counted h rest = refl

pub made : FirstFramesMakeTheirFiles
unfolding frame_calls
made r frame m first rec =
    let name : List ℕ = frame.file in
    let h : Header = placed (file_header r.plan frame.domain frame.stream (begin_of r.initial.begins frame.domain).start_text (steps_at r frame)) in
    let slabs : List StoreCall = map (append name) (record_of r frame) in
    let begun : Files = files_after_all m (create name ∷ append name (header_bytes h) ∷ []) in
    let is_begun : begun name ≡ Some (header_bytes h) = appended name (with_file m name []) [] (header_bytes h) (own-file m name []) in
    ap (λ (calls : List StoreCall). files_after_all m calls name)
    (λ i. (if first i then create name ∷ append name (header_bytes h) ∷ [] else []) ++ slabs ++ write_at name 4 (four_bytes (rec i + 1)) ∷ [])
    ∙ ap (λ (x : Files). x name) (fold-append after_call begun slabs (write_at name 4 (four_bytes 1) ∷ []))
    ∙ written_over name (files_after_all begun slabs) (header_bytes h ++ flat_map (λ (x : List ℕ). x) (record_of r frame)) 4 (four_bytes 1) (all_appended name begun (header_bytes h) (record_of r frame) is_begun)
    ∙ ap (λ (b : List ℕ). Some b) (counted h (flat_map (λ (x : List ℕ). x) (record_of r frame)))
