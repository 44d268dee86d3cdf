-- A table's text is UTF-8, or nothing of it is read.
use Rattle.std.proofs.Common.{◌≡◌, ℕ, Bool, true, false, List, Result, Err, refl, sym, ap, ◌∙◌, if◌then◌else◌}
use Rattle.std.specs.Str.{IsUtf8, is_utf8}
use Rattle.std.proofs.lemmas.Str.{IsUtf8-from_is_utf8, is_utf8-from_IsUtf8}
use Rattle.wf_model.specs.declared.plan.Item.{Item}
use Rattle.wf_model.specs.declared.table.Names.{Names}
use Rattle.wf_model.specs.declared.table.TableFault.{TableFault}
use Rattle.wf_model.specs.declared.table.TableKind.TheVariants.{NotText}
use Rattle.wf_model.specs.Table.{table_of}
use Rattle.wf_table.specs.Lines.{items_of_text}

-- the items of a text, or the refusal of all of it
by_text : List ℕ → Names → Bool → Result (List Item) TableFault
by_text text names test = if test then items_of_text text names else Err (record { line = 0; kind = NotText })

opened : (text : List ℕ) (names : Names) → table_of text names ≡ by_text text names (is_utf8 text)
unfolding table_of items_of_text by_text
opened text names = refl

-- the text is UTF-8
pub table_of_text : (text : List ℕ) (names : Names) → IsUtf8 text → items_of_text text names ≡ table_of text names
unfolding by_text
table_of_text text names is = sym (opened text names ∙ ap (by_text text names) (is_utf8-from_IsUtf8 text is))

-- it isn't
pub table_of_no_text : (text : List ℕ) (names : Names) → ¬ (IsUtf8 text) → table_of text names ≡ Err (record { line = 0; kind = NotText })
unfolding by_text
table_of_no_text text names is_not = opened text names ∙ ap (by_text text names) (no_test (is_utf8 text) refl)
  where
    no_test : (test : Bool) → is_utf8 text ≡ test → is_utf8 text ≡ false
    no_test true is = absurd (is_not (IsUtf8-from_is_utf8 text is))
    no_test false is = is
