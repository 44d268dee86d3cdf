-- Lines are judged alike beside entries that have the same letters and axes.
use Rattle.std.proofs.Common.{◌≡◌, ap, ap₂, refl, ℕ, Bool, List, [], ◌∷◌, ◌++◌, map, length, Option, None}
use Rattle.std.specs.Prelude.{◌==◌, ◌&&◌, ◌||◌, not, nat_lt, flat_map, codes, if◌then◌else◌}
use Rattle.std.specs.List.{list_all, list_any}
use Rattle.std.specs.Char.{is_ascii_alphabetic}
use Rattle.std.specs.Option.{option_or, option_map, option_to_list}
use Rattle.std.specs.Str.{bytes_eq}
use Rattle.wf_model.specs.declared.registry.Entry.{Entry}
use Rattle.wf_model.specs.declared.registry.RegistryFault.{RegistryFault}
use Rattle.wf_model.specs.declared.registry.RegistryKind.{RegistryKind}
use Rattle.wf_model.specs.declared.registry.RegistryKind.TheVariants.{Columns, Unsupported, Duplicate}
use Rattle.wf_model.specs.Reading.{fault_if, fault_unless, first_fault}
use Rattle.wf_model.specs.Letters.{Text, is_among, is_dash, is_name, is_number_within, share}
use Rattle.wf_model.specs.KeptLines.{Kept, columns}
use Rattle.wf_model.specs.Io.{io_of}
use Rattle.wf_model.specs.Groups.{Faults}
use Rattle.wf_model.specs.Entries.{Kind, dimspecs, states, rconfigs, packages, halos, periods, left_out, no_kind, column, entry_of, entry_variables, is_integer, is_two, kind_of, least_columns, variable_of, variables_of}
use Rattle.wf_model.specs.Judging.{all_known, column_faults, dims_fault, fault_of_result, has_z, integer_faults, is_in_order, is_letter_b, is_short, is_stagger, is_state_type, level_fault, line_fault, stagger_fault, state_faults, symbol_of, taken_names}
use Rattle.wf_model.specs.Registry.{broken_line, fault_at}
use Rattle.wf_registry_columns.specs.Axes.{HasAxesOf}

module _ (a b : List Entry) (h : HasAxesOf a b) where
  known_same : (dims : Text) → all_known a dims ≡ all_known b dims
  known_same dims = ap (λ (f : ℕ → Bool). list_all f dims) (λ i c. h.known c i)

  order_same : (dims : Text) → is_in_order a dims ≡ is_in_order b dims
  order_same dims = ap (λ (f : ℕ → ℕ). bytes_eq (map f dims) (120 ∷ 121 ∷ []) || bytes_eq (map f dims) (120 ∷ 122 ∷ 121 ∷ [])) (λ i c. h.axes c i)

  dims_same : (dims : Text) → dims_fault a dims ≡ dims_fault b dims
  dims_same dims = λ i. first_fault (
      fault_unless ((length dims == 2) || (length dims == 3)) Unsupported
      ∷ fault_unless (list_all is_ascii_alphabetic dims) (if list_any (λ c. c == 123) dims then Unsupported else Columns)
      ∷ fault_if (list_any is_letter_b dims && not (h.known 98 i)) Unsupported
      ∷ fault_if (known_same dims i && not (order_same dims i)) Unsupported
      ∷ [])

  stagger_same : (dims word : Text) → stagger_fault a dims word ≡ stagger_fault b dims word
  stagger_same dims word = ap (λ (t : Bool). if is_dash word then None else fault_unless (is_stagger word && not (has_z word && t && (length dims == 2))) Columns) (known_same dims)

  integer_same : (before : List Entry) (cols : List Text) → integer_faults a before cols ≡ integer_faults b before cols
  integer_same before cols = λ i.
      dims_same (column cols 2) i
      ∷ fault_unless (is_number_within 1 2 (column cols 4)) Unsupported
      ∷ fault_if (is_two (column cols 4) && nat_lt 62 (length (symbol_of cols))) Columns
      ∷ level_fault before cols
      ∷ stagger_same (column cols 2) (column cols 5) i
      ∷ fault_of_result (io_of (column cols 6))
      ∷ fault_unless (is_name (variable_of (symbol_of cols) (column cols 7))) Columns
      ∷ fault_if (share (variables_of (symbol_of cols) (column cols 4) (column cols 7)) (codes "Times" ∷ flat_map entry_variables before)) Duplicate
      ∷ fault_unless (is_short (column cols 8)) Columns
      ∷ fault_unless (is_short (column cols 9)) Columns
      ∷ []

  state_same : (before : List Entry) (cols : List Text) → state_faults a before cols ≡ state_faults b before cols
  state_same before cols = ap (λ (fs : Faults).
      fault_unless (is_state_type (column cols 0)) Columns
      ∷ fault_unless (is_name (symbol_of cols)) Columns
      ∷ fault_if (is_among (symbol_of cols) (taken_names before)) Duplicate
      ∷ (if is_integer (column cols 0) then fs else level_fault before cols ∷ [])) (integer_same before cols)

  column_same : (kind : Kind) (before : List Entry) (cols : List Text) → column_faults kind a before cols ≡ column_faults kind b before cols
  column_same dimspecs before cols = refl
  column_same states before cols = state_same before cols
  column_same rconfigs before cols = refl
  column_same packages before cols = refl
  column_same halos before cols = refl
  column_same periods before cols = refl
  column_same left_out before cols = refl
  column_same no_kind before cols = refl

  line_same : (before : List Entry) (l : Kept) → line_fault a before l ≡ line_fault b before l
  unfolding line_fault
  line_same before l = ap (λ (fs : Faults). first_fault (fault_if (nat_lt (length (columns l.words)) (least_columns (kind_of l))) Columns ∷ fs)) (column_same (kind_of l) before (columns l.words))

  pub broken_same : (before : List Entry) (ls : List Kept) → broken_line a before ls ≡ broken_line b before ls
  broken_same before [] = refl
  broken_same before (l ∷ ls) = ap₂ (λ (f : Option RegistryKind) (r : Option RegistryFault). option_or (option_map (fault_at l) f) r) (line_same before l) (broken_same (before ++ option_to_list (entry_of l)) ls)
