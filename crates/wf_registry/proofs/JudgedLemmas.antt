-- Lines judged one after another are the lines without a broken one, and their entries.
use Rattle.std.proofs.Common.{◌≡◌, ◌∙◌, sym, ap, ap₂, refl, ℕ, Bool, true, false, List, [], ◌∷◌, ◌++◌, map, length, Option, Some, None, Result, Ok, Err, append_assoc, arith}
use Rattle.std.specs.Prelude.{nat_lt, nat_le, not, filter_map, if◌then◌else◌}
use Rattle.std.specs.Option.{option_or, option_map, option_to_list}
use Rattle.std.proofs.lemmas.List.{append-nil}
use Rattle.std.proofs.lemmas.Bool.Decides.{nat_tests}
use Rattle.std.proofs.lemmas.Grind.{common_steps}
use Rattle.wf_model.specs.declared.registry.Entry.{Entry}
use Rattle.wf_model.specs.declared.registry.RegistryFault.{RegistryFault}
use Rattle.wf_model.specs.declared.registry.RegistryKind.{RegistryKind}
use Rattle.wf_model.specs.declared.registry.RegistryKind.TheVariants.{Columns, Unsupported, UnknownEntry}
use Rattle.wf_model.specs.Reading.{◌>>=◌, fault_if, first_fault, told_as, unless_fault}
use Rattle.wf_model.specs.Letters.{Text}
use Rattle.wf_model.specs.KeptLines.{Kept, columns}
use Rattle.wf_model.specs.Entries.{Kind, dimspecs, states, rconfigs, packages, halos, periods, left_out, no_kind, least_columns, entry_of, entry_of_kind, entries_of}
use Rattle.wf_model.specs.Judging.{column_faults, line_fault}
use Rattle.wf_model.specs.Registry.{broken_line, fault_at}
use Rattle.wf_registry.specs.Lines.{column_entry, line_entry, word_kind}
use Rattle.wf_registry.specs.Judged.{lines_judged}

-- ---- a line

-- no fault, and this entry
pub record IsJudged (fault : Option RegistryKind) (found : Option Entry) (e : Entry) : Type 0 where
  pub sound : fault ≡ None
  pub entry : found ≡ Some e

unless_ok : (fault : Option RegistryKind) (made e : Entry) → (let r : Result Entry RegistryKind = unless_fault fault made in r) ≡ Ok e → IsJudged fault (Some made) e
unless_ok None made e is = let same : made ≡ e = cc in record { sound = refl; entry = ap (λ (x : Entry). Some x) same }
unless_ok (Some k) made e is = cc

unless_err : (fault : Option RegistryKind) (made : Entry) (k : RegistryKind) → (let r : Result Entry RegistryKind = unless_fault fault made in r) ≡ Err k → fault ≡ Some k
unless_err None made k is = cc
unless_err (Some f) made k is = let same : f ≡ k = cc in ap (λ (x : RegistryKind). Some x) same

kind_ok : (kind : Kind) (all before : List Entry) (cols : List Text) (e : Entry) → column_entry kind all before cols ≡ Ok e → IsJudged (first_fault (column_faults kind all before cols)) (entry_of_kind kind cols) e
unfolding column_entry
kind_ok dimspecs all before cols e is = unless_ok (first_fault (column_faults dimspecs all before cols)) _ e is
kind_ok states all before cols e is = unless_ok (first_fault (column_faults states all before cols)) _ e is
kind_ok rconfigs all before cols e is = unless_ok (first_fault (column_faults rconfigs all before cols)) _ e is
kind_ok packages all before cols e is = unless_ok (first_fault (column_faults packages all before cols)) _ e is
kind_ok halos all before cols e is = unless_ok (first_fault (column_faults halos all before cols)) _ e is
kind_ok periods all before cols e is = unless_ok (first_fault (column_faults periods all before cols)) _ e is
kind_ok left_out all before cols e is = cc
kind_ok no_kind all before cols e is = cc

err_is : (j k : RegistryKind) → (let r : Result Entry RegistryKind = Err j in r) ≡ Err k → Some j ≡ Some k
err_is j k is = let same : j ≡ k = cc in ap (λ (x : RegistryKind). Some x) same

kind_err : (kind : Kind) (all before : List Entry) (cols : List Text) (k : RegistryKind) → column_entry kind all before cols ≡ Err k → first_fault (column_faults kind all before cols) ≡ Some k
unfolding column_entry
kind_err dimspecs all before cols k is = unless_err (first_fault (column_faults dimspecs all before cols)) _ k is
kind_err states all before cols k is = unless_err (first_fault (column_faults states all before cols)) _ k is
kind_err rconfigs all before cols k is = unless_err (first_fault (column_faults rconfigs all before cols)) _ k is
kind_err packages all before cols k is = unless_err (first_fault (column_faults packages all before cols)) _ k is
kind_err halos all before cols k is = unless_err (first_fault (column_faults halos all before cols)) _ k is
kind_err periods all before cols k is = unless_err (first_fault (column_faults periods all before cols)) _ k is
kind_err left_out all before cols k is = err_is Unsupported k is
kind_err no_kind all before cols k is = err_is UnknownEntry k is

enough : (m n : ℕ) → nat_le m n ≡ not (nat_lt n m)
enough m n = grind (arith, nat_tests)

-- where it is tested whether there are enough columns
tested_ok : (few : Bool) (read : Result Entry RegistryKind) (faults : List (Option RegistryKind)) (found : Option Entry) (e : Entry)
    → (read ≡ Ok e → IsJudged (first_fault faults) found e) → (if few then Err Columns else read) ≡ Ok e
    → IsJudged (first_fault (fault_if few Columns ∷ faults)) (if not few then found else None) e
tested_ok true read faults found e rest is = cc
tested_ok false read faults found e rest is = rest is

tested_err : (few : Bool) (read : Result Entry RegistryKind) (faults : List (Option RegistryKind)) (k : RegistryKind)
    → (read ≡ Err k → first_fault faults ≡ Some k) → (if few then Err Columns else read) ≡ Err k → first_fault (fault_if few Columns ∷ faults) ≡ Some k
tested_err true read faults k rest is = err_is Columns k is
tested_err false read faults k rest is = rest is

pub line_ok : (all before : List Entry) (l : Kept) (e : Entry) → line_entry all before l.words ≡ Ok e → IsJudged (line_fault all before l) (entry_of l) e
unfolding line_entry line_fault
line_ok all before l e is =
    let kind = word_kind l.words in
    let cols = columns l.words in
    let j = tested_ok (nat_lt (length cols) (least_columns kind)) (column_entry kind all before cols) (column_faults kind all before cols) (entry_of_kind kind cols) e (kind_ok kind all before cols e) is in
    record { sound = j.sound; entry = ap (λ (t : Bool). if t then entry_of_kind kind cols else None) (enough (least_columns kind) (length cols)) ∙ j.entry }

pub line_err : (all before : List Entry) (l : Kept) (k : RegistryKind) → line_entry all before l.words ≡ Err k → line_fault all before l ≡ Some k
unfolding line_entry line_fault
line_err all before l k is =
    let kind = word_kind l.words in
    let cols = columns l.words in
    tested_err (nat_lt (length cols) (least_columns kind)) (column_entry kind all before cols) (column_faults kind all before cols) k (kind_err kind all before cols k) is

-- ---- all lines

-- none is broken, and these are the entries behind those before
pub record AreJudged (all before : List Entry) (ls : List Kept) (es : List Entry) : Type 0 where
  pub made : List Entry
  pub sound : broken_line all before ls ≡ None
  pub behind : es ≡ before ++ made
  pub entries : entries_of ls ≡ made
  pub each : map entry_of ls ≡ map (λ e. Some e) made

-- a line that is read, before others
one_ok : (all before : List Entry) (l : Kept) (ls : List Kept) (es : List Entry) (e : Entry) → line_entry all before l.words ≡ Ok e → AreJudged all (before ++ e ∷ []) ls es → AreJudged all before (l ∷ ls) es
unfolding entries_of
one_ok all before l ls es e is rest =
    let j = line_ok all before l e is in
    record {
      made = e ∷ rest.made;
      sound = ap₂ (λ (f : Option RegistryKind) (o : Option Entry). option_or (option_map (fault_at l) f) (broken_line all (before ++ option_to_list o) ls)) j.sound j.entry ∙ rest.sound;
      behind = rest.behind ∙ append_assoc before (e ∷ []) rest.made;
      entries = filter_map-cons l ls e j.entry ∙ ap (λ xs. e ∷ xs) rest.entries;
      each = ap₂ (λ (o : Option Entry) (os : List (Option Entry)). o ∷ os) j.entry rest.each;
    }
  where
    filter_map-cons : (x : Kept) (xs : List Kept) (y : Entry) → entry_of x ≡ Some y → filter_map entry_of (x ∷ xs) ≡ y ∷ filter_map entry_of xs
    filter_map-cons x xs y here = grind (arith, common_steps)

err_ok : (f : RegistryFault) (xs : List Entry) → (let r : Result (List Entry) RegistryFault = Err f in r) ≡ Ok xs → ⊥
err_ok f xs e = cc

pub judged_ok : (all before : List Entry) (ls : List Kept) (es : List Entry) → lines_judged all before ls ≡ Ok es → AreJudged all before ls es
unfolding lines_judged entries_of
judged_ok all before [] es is =
    let same : before ≡ es = cc in
    record { made = []; sound = refl; behind = sym same ∙ sym (append-nil before); entries = refl; each = refl }
judged_ok all before (l ∷ ls) es is = by (line_entry all before l.words) refl (λ e. judged_ok all (before ++ e ∷ []) ls es)
  where
    by : (r : Result Entry RegistryKind) → line_entry all before l.words ≡ r → ((e : Entry) → lines_judged all (before ++ e ∷ []) ls ≡ Ok es → AreJudged all (before ++ e ∷ []) ls es) → AreJudged all before (l ∷ ls) es
    by (Ok e) here rest = one_ok all before l ls es e here (rest e (sym (ap (λ (r : Result Entry RegistryKind). told_as (fault_at l) (r >>= (λ x. Ok (before ++ x ∷ []))) >>= (λ xs. lines_judged all xs ls)) here) ∙ is))
    by (Err k) here rest = absurd (err_ok (fault_at l k) es (sym (ap (λ (r : Result Entry RegistryKind). told_as (fault_at l) (r >>= (λ x. Ok (before ++ x ∷ []))) >>= (λ xs. lines_judged all xs ls)) here) ∙ is))

pub judged_err : (all before : List Entry) (ls : List Kept) (f : RegistryFault) → lines_judged all before ls ≡ Err f → broken_line all before ls ≡ Some f
unfolding lines_judged
judged_err all before [] f is = cc
judged_err all before (l ∷ ls) f is = by (line_entry all before l.words) refl (λ e. judged_err all (before ++ e ∷ []) ls f)
  where
    by : (r : Result Entry RegistryKind) → line_entry all before l.words ≡ r → ((e : Entry) → lines_judged all (before ++ e ∷ []) ls ≡ Err f → broken_line all (before ++ e ∷ []) ls ≡ Some f) → broken_line all before (l ∷ ls) ≡ Some f
    by (Ok e) here rest =
        let j = line_ok all before l e here in
        ap₂ (λ (g : Option RegistryKind) (o : Option Entry). option_or (option_map (fault_at l) g) (broken_line all (before ++ option_to_list o) ls)) j.sound j.entry
        ∙ rest e (sym (ap (λ (r : Result Entry RegistryKind). told_as (fault_at l) (r >>= (λ x. Ok (before ++ x ∷ []))) >>= (λ xs. lines_judged all xs ls)) here) ∙ is)
    by (Err k) here rest =
        let told : (let r : Result (List Entry) RegistryFault = Err (fault_at l k) in r) ≡ Err f = sym (ap (λ (r : Result Entry RegistryKind). told_as (fault_at l) (r >>= (λ x. Ok (before ++ x ∷ []))) >>= (λ xs. lines_judged all xs ls)) here) ∙ is in
        let same : fault_at l k ≡ f = cc in
        ap (λ (g : Option RegistryKind). option_or (option_map (fault_at l) g) (broken_line all (before ++ option_to_list (entry_of l)) ls)) (line_err all before l k here) ∙ ap (λ (x : RegistryFault). Some x) same
