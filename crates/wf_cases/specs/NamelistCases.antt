-- Worked cases of namelists.
use Rattle.std.specs.Prelude.{ℕ, ◌≡◌, true, false, List, [], ◌∷◌, pos, negsuc, Result, Ok, Err}
use Rattle.std.specs.Prelude.{codes}
use Rattle.wf_model.specs.declared.namelist.Value.TheVariants.{Int, Decimal, Logical, Text}
use Rattle.wf_model.specs.declared.namelist.Namelist.{Namelist}
use Rattle.wf_model.specs.declared.namelist.NamelistKind.{NamelistKind}
use Rattle.wf_model.specs.declared.namelist.NamelistKind.TheVariants.{NoGroup, UnclosedGroup}
use Rattle.wf_model.specs.declared.namelist.NamelistKind.TheVariants.{UnclosedText, BadValue}
use Rattle.wf_model.specs.declared.namelist.NamelistKind.TheVariants.{NullValue, Subscript}
use Rattle.wf_model.specs.declared.namelist.NamelistFault.{NamelistFault}
use Rattle.wf_model.specs.Namelist.{namelist_of, Item}
use Rattle.wf_model.specs.GenCase.{lines}

abbrev pub refused : ℕ → NamelistKind → Result Namelist NamelistFault
refused n kind = Err (record { line = n; kind = kind })

-- the items of a group `g` with this line in it, which is the second
abbrev pub within : List ℕ → Result Namelist NamelistFault
within inside = namelist_of (lines (codes "&g" ∷ inside ∷ codes "/" ∷ []))

abbrev pub items : List Item → Result Namelist NamelistFault
items is = Ok (record { items = is })

pub record NamelistKinds : Type 0 where
  pub no_group : namelist_of (lines (codes "text" ∷ codes " & g" ∷ [])) ≡ refused 2 NoGroup
  -- the line is that of the last character, and a line feed belongs to the line that it ends
  pub open_at_the_end : namelist_of (codes "&domains") ≡ refused 1 UnclosedGroup
  pub open_with_a_line_feed : namelist_of (lines (codes "&domains" ∷ codes " a = 1" ∷ []))
      ≡ refused 2 UnclosedGroup
  pub open_at_a_group : namelist_of
      (lines (codes "&domains" ∷ codes " a = 1" ∷ codes "&physics" ∷ [])) ≡ refused 3 UnclosedGroup
  pub open_text : within (codes " a = 'it''s") ≡ refused 2 UnclosedText
  pub two_commas : within (codes " a = 4,,4") ≡ refused 2 NullValue
  pub no_value : within (codes " a = b = 1") ≡ refused 2 NullValue
  pub repeated_nothing : within (codes " a = 2*, 1") ≡ refused 2 NullValue
  pub subscript : within (codes " a(2) = 1") ≡ refused 2 Subscript
  pub bare_word : within (codes " a = yes") ≡ refused 2 BadValue
  pub too_often : within (codes " a = 22*1") ≡ refused 2 BadValue
  pub only_a_point : within (codes " a = .") ≡ refused 2 BadValue
  pub past_128_bits : within (codes " a = 170141183460469231731687303715884105728")
      ≡ refused 2 BadValue

pub record NamelistValues : Type 0 where
  pub numbers : within (codes " a = 007 -3, +4 1.5 -.5e3 2D-1") ≡
      items ((
        codes "g",
        codes "a",
        Int (pos 7) ∷ Int (negsuc 2) ∷ Int (pos 4)
            ∷ Decimal (codes "1.5") ∷ Decimal (codes "-.5e3") ∷ Decimal (codes "2D-1") ∷ [],
      ) ∷ [])
  pub logicals : within (codes " a = .TRUE. f .t., false") ≡ items ((
    codes "g",
    codes "a",
    Logical true ∷ Logical false ∷ Logical true ∷ Logical false ∷ [],
  ) ∷ [])
  pub texts : within (codes " a = 'it''s', \"/ ! &\"")
      ≡ items ((codes "g", codes "a", Text (codes "it's") ∷ Text (codes "/ ! &") ∷ []) ∷ [])
  pub repeated : within (codes " a = 2*4, 3*'x'") ≡
      items ((
        codes "g",
        codes "a",
        Int (pos 4) ∷ Int (pos 4) ∷ Text (codes "x") ∷ Text (codes "x")
            ∷ Text (codes "x") ∷ [],
      ) ∷ [])
  -- one comma may follow the last value; a comment ends with its line; names ignore case
  pub comments : namelist_of
      (lines (codes "&G a = 1, ! one, 2" ∷ codes " 3," ∷ codes " B = 4 /" ∷ [])) ≡
      items ((codes "g", codes "a", Int (pos 1) ∷ Int (pos 3) ∷ [])
      ∷ (codes "g", codes "b", Int (pos 4) ∷ []) ∷ [])
  -- text outside groups is passed over, and of a repeated item the last counts
  pub last_counts : namelist_of
      (lines (codes "a = 0 &g" ∷ codes "&g a = 1 b = 2 / a = 5" ∷ codes " &g a = 3 /" ∷ [])) ≡
      items ((codes "g", codes "b", Int (pos 2) ∷ [])
      ∷ (codes "g", codes "a", Int (pos 3) ∷ []) ∷ [])
