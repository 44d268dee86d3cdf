-- Letters and axes, gathered line by line.
use Rattle.std.proofs.Common.{◌≡◌, ◌∙◌, sym, ap, refl, ℕ, ◌+◌, ◌<◌, ◌≤◌, Bool, true, false, cond, List, [], ◌∷◌, ◌++◌, take, length, get_or, Option, Some, None, subst, arith}
use Rattle.std.specs.Prelude.{◌||◌, nat_le, filter_map, is_some, if◌then◌else◌}
use Rattle.std.specs.Option.{option_or, option_to_list}
use Rattle.std.proofs.lemmas.List.{take_more, append-nil, length-map}
use Rattle.std.proofs.lemmas.Bool.Decides.{nat_tests}
use Rattle.std.proofs.lemmas.List.Elements.{filter_map-append}
use Rattle.std.proofs.lemmas.Grind.{common_steps}
use Rattle.std.proofs.lemmas.List.Folds.{find-append, list_any-append}
use Rattle.wf_model.specs.declared.registry.Entry.{Entry}
use Rattle.wf_model.specs.declared.registry.Entry.TheVariants.{Dimspec}
use Rattle.wf_model.specs.declared.registry.SourceFile.{SourceFile}
use Rattle.wf_model.specs.declared.text.Word.{Word}
use Rattle.wf_model.specs.Letters.{Text}
use Rattle.wf_model.specs.Entries.{Kind, dimspecs, states, rconfigs, packages, halos, periods, left_out, no_kind, axis, axis_of, is_entry, find_entry, entry_of_kind, least_columns, column, only_byte}
use Rattle.wf_model.specs.Judging.{is_known}
use Rattle.wf_registry_columns.specs.Axes.{HasAxesOf, bare_dimspec}
use Rattle.wf_registry_columns.specs.Words.{word_texts}
use Rattle.wf_registry_columns.proofs.AxisLemmas.{is_some-find}
use Rattle.wf_registry_lines.specs.Kept.{kept_in}
use Rattle.wf_registry_lines.specs.declared.KeptLine.{KeptLine}
use Rattle.wf_model.specs.KeptLines.{columns}
use Rattle.wf_registry.specs.Lines.{word_kind}
use Rattle.wf_registry.specs.LineEntries.{words_entry, lines_entries}
use Rattle.wf_registry.proofs.DimspecKinds.{IsOtherKind}

-- ---- entries put behind others

axis-or : (a b x : Option Entry) → is_some a ≡ is_some b → axis a ≡ axis b → axis (option_or a x) ≡ axis (option_or b x)
axis-or (Some a) (Some b) x known same = same
axis-or None None x known same = refl
axis-or (Some a) None x known same = cc
axis-or None (Some b) x known same = cc

axis-behind : (a x y : Option Entry) → axis x ≡ axis y → axis (option_or a x) ≡ axis (option_or a y)
axis-behind (Some a) x y same = refl
axis-behind None x y same = same

pub axes_along : (a b xs : List Entry) → HasAxesOf a b → HasAxesOf (a ++ xs) (b ++ xs)
axes_along a b xs h = record {
  known = λ c. list_any-append (is_entry dimspecs (c ∷ [])) a xs ∙ ap (λ t. t || is_known xs c) (h.known c) ∙ sym (list_any-append (is_entry dimspecs (c ∷ [])) b xs);
  axes = λ c. ap axis (find-append (is_entry dimspecs (c ∷ [])) a xs)
      ∙ axis-or (find_entry dimspecs (c ∷ []) a) (find_entry dimspecs (c ∷ []) b) (find_entry dimspecs (c ∷ []) xs)
      (is_some-find (is_entry dimspecs (c ∷ [])) a ∙ h.known c ∙ sym (is_some-find (is_entry dimspecs (c ∷ [])) b)) (h.axes c)
      ∙ sym (ap axis (find-append (is_entry dimspecs (c ∷ [])) b xs));
}

pub axes_chain : (a b c : List Entry) → HasAxesOf a b → HasAxesOf b c → HasAxesOf a c
axes_chain a b c h k = record { known = λ x. h.known x ∙ k.known x; axes = λ x. h.axes x ∙ k.axes x }

-- one list of entries or another, which have the same letters and axes by themselves
axes_behind : (es xs ys : List Entry) → HasAxesOf xs ys → HasAxesOf (es ++ xs) (es ++ ys)
axes_behind es xs ys h = record {
  known = λ c. list_any-append (is_entry dimspecs (c ∷ [])) es xs ∙ ap (λ t. is_known es c || t) (h.known c) ∙ sym (list_any-append (is_entry dimspecs (c ∷ [])) es ys);
  axes = λ c. ap axis (find-append (is_entry dimspecs (c ∷ [])) es xs)
      ∙ axis-behind (find_entry dimspecs (c ∷ []) es) (find_entry dimspecs (c ∷ []) xs) (find_entry dimspecs (c ∷ []) ys) (h.axes c)
      ∙ sym (ap axis (find-append (is_entry dimspecs (c ∷ [])) es ys));
}

axes_nil : (es xs : List Entry) → HasAxesOf [] xs → HasAxesOf es (es ++ xs)
axes_nil es xs h = record {
  known = λ c. ap (λ t. is_known t c) (sym (append-nil es)) ∙ (axes_behind es [] xs h).known c;
  axes = λ c. ap (λ t. axis_of t c) (sym (append-nil es)) ∙ (axes_behind es [] xs h).axes c;
}

-- ---- a line

axis-if : (t : Bool) (a b : Entry) → axis (Some a) ≡ axis (Some b) → axis (cond t (Some a) None) ≡ axis (cond t (Some b) None)
axis-if true a b same = same
axis-if false a b same = refl

-- the other columns of a dimspec have no part in it
full_dimspec : (letter ax : ℕ) (how dataset : Text) → HasAxesOf (bare_dimspec letter ax ∷ []) (Dimspec letter how ax dataset ∷ [])
full_dimspec letter ax how dataset = record {
  known = λ c. refl;
  axes = λ c. axis-if (is_entry dimspecs (c ∷ []) (bare_dimspec letter ax)) (bare_dimspec letter ax) (Dimspec letter how ax dataset) refl;
}

pub dimspec_line : (axes old : List Entry) (cols : List Text) → nat_le 5 (length cols) ≡ true
    → HasAxesOf axes (old ++ bare_dimspec (only_byte (column cols 0)) (only_byte (column cols 3)) ∷ [])
    → HasAxesOf axes (old ++ option_to_list (if nat_le 5 (length cols) then entry_of_kind dimspecs cols else None))
dimspec_line axes old cols enough h =
    let full = axes_chain axes _ _ h (axes_behind old _ _ (full_dimspec (only_byte (column cols 0)) (only_byte (column cols 3)) (column cols 2) (column cols 4))) in
    subst (λ (t : Bool). HasAxesOf axes (old ++ option_to_list (if t then entry_of_kind dimspecs cols else None))) (sym enough) full

no_letter : HasAxesOf [] []
no_letter = record { known = λ c. refl; axes = λ c. refl }

-- a line of another kind has no letter
other_entry : (kind : Kind) (cols : List Text) (t : Bool) → IsOtherKind kind → HasAxesOf [] (option_to_list (if t then entry_of_kind kind cols else None))
other_entry kind cols false other = no_letter
other_entry dimspecs cols true other = absurd other
other_entry states cols true other = record { known = λ c. refl; axes = λ c. refl }
other_entry rconfigs cols true other = record { known = λ c. refl; axes = λ c. refl }
other_entry packages cols true other = record { known = λ c. refl; axes = λ c. refl }
other_entry halos cols true other = record { known = λ c. refl; axes = λ c. refl }
other_entry periods cols true other = record { known = λ c. refl; axes = λ c. refl }
other_entry left_out cols true other = no_letter
other_entry no_kind cols true other = no_letter

pub other_line : (kind : Kind) (old : List Entry) (cols : List Text) → IsOtherKind kind → HasAxesOf old (old ++ option_to_list (if nat_le (least_columns kind) (length cols) then entry_of_kind kind cols else None))
other_line kind old cols other = axes_nil old _ (other_entry kind cols (nat_le (least_columns kind) (length cols)) other)

pub short_line : (old : List Entry) (cols : List Text) → nat_le 5 (length cols) ≡ false → HasAxesOf old (old ++ option_to_list (if nat_le 5 (length cols) then entry_of_kind dimspecs cols else None))
short_line old cols few = axes_nil old _ (subst (λ (t : Bool). HasAxesOf [] (option_to_list (if t then entry_of_kind dimspecs cols else None))) (sym few) no_letter)

-- ---- a line of words

pub dimspec_added : (axes old : List Entry) (words cols : List Text) (a b : ℕ) → word_kind words ≡ dimspecs → cols ≡ columns words → nat_le 5 (length cols) ≡ true
    → a ≡ only_byte (column cols 0) → b ≡ only_byte (column cols 3) → HasAxesOf axes (old ++ bare_dimspec a b ∷ []) → HasAxesOf axes (old ++ option_to_list (words_entry words))
dimspec_added axes old words cols a b kind behind enough first third h =
    subst (λ (k : Kind). HasAxesOf axes (old ++ option_to_list (if nat_le (least_columns k) (length (columns words)) then entry_of_kind k (columns words) else None))) (sym kind)
    (subst (λ (cs : List Text). HasAxesOf axes (old ++ option_to_list (if nat_le 5 (length cs) then entry_of_kind dimspecs cs else None))) behind
    (dimspec_line axes old cols enough (subst (λ n. HasAxesOf axes (old ++ bare_dimspec n (only_byte (column cols 3)) ∷ [])) first (subst (λ n. HasAxesOf axes (old ++ bare_dimspec a n ∷ [])) third h))))

pub short_added : (old : List Entry) (words cols : List Text) → word_kind words ≡ dimspecs → cols ≡ columns words → nat_le 5 (length cols) ≡ false → HasAxesOf old (old ++ option_to_list (words_entry words))
short_added old words cols kind behind few =
    subst (λ (k : Kind). HasAxesOf old (old ++ option_to_list (if nat_le (least_columns k) (length (columns words)) then entry_of_kind k (columns words) else None))) (sym kind)
    (subst (λ (cs : List Text). HasAxesOf old (old ++ option_to_list (if nat_le 5 (length cs) then entry_of_kind dimspecs cs else None))) behind (short_line old cols few))

pub other_added : (old : List Entry) (words : List Text) → IsOtherKind (word_kind words) → HasAxesOf old (old ++ option_to_list (words_entry words))
other_added old words other = other_line (word_kind words) old (columns words) other

-- ---- one line more

filter_map-one : {X Y : Type 0} (f : X → Option Y) (x : X) → filter_map f (x ∷ []) ≡ option_to_list (f x)
filter_map-one f x = grind (arith, common_steps)

pub axes_more : (files : List SourceFile) (old new : List Entry) (lines : List KeptLine) (i : ℕ) (d : KeptLine) → i < length lines
    → HasAxesOf old (lines_entries files (take i lines)) → HasAxesOf new (old ++ option_to_list (words_entry (kept_in files (get_or lines i d)).words)) → HasAxesOf new (lines_entries files (take (i + 1) lines))
axes_more files old new lines i d here so_far added =
    let entry : KeptLine → Option Entry = λ (l : KeptLine). words_entry (kept_in files l).words in
    let e : List Entry = option_to_list (entry (get_or lines i d)) in
    let both : HasAxesOf new (lines_entries files (take i lines) ++ e) = axes_chain new (old ++ e) _ added (axes_along old (lines_entries files (take i lines)) e so_far) in
    let same : lines_entries files (take i lines) ++ e ≡ lines_entries files (take (i + 1) lines) =
    ap (λ xs. lines_entries files (take i lines) ++ xs) (sym (filter_map-one entry (get_or lines i d)))
    ∙ sym (filter_map-append entry (take i lines) (get_or lines i d ∷ []))
    ∙ ap (lines_entries files) (sym (take_more lines i d here)) in
    subst (HasAxesOf new) same both

pub few_columns : (words : List Word) → length words < 5 → nat_le 5 (length (word_texts words)) ≡ false
few_columns words few = rw (length-map words (λ (w : Word). w.text)) (grind (arith, nat_tests))

pub enough_columns : (words : List Word) → 5 ≤ length words → nat_le 5 (length (word_texts words)) ≡ true
enough_columns words enough = rw (length-map words (λ (w : Word). w.text)) (grind (arith, nat_tests))
