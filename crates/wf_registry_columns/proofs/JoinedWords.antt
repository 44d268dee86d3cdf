-- Words joined without blanks, one more at a time.
use Rattle.std.proofs.Common.{◌≡◌, ◌∙◌, sym, ap, ℕ, ◌+◌, ◌<◌, List, [], ◌∷◌, ◌++◌, take, length, get_or}
use Rattle.std.specs.List.{concat}
use Rattle.std.proofs.lemmas.List.{take_more, map-append, append-nil}
use Rattle.std.proofs.lemmas.List.Folds.{concat-append}
use Rattle.wf_model.specs.declared.text.Word.{Word}
use Rattle.wf_registry_columns.specs.Words.{word_texts}

pub joined_more : (words : List Word) (i : ℕ) (w : Word) → i < length words → w ≡ get_or words i w
    → concat (word_texts (take (i + 1) words)) ≡ concat (word_texts (take i words)) ++ w.text
joined_more words i w here is =
    ap (λ ws. concat (word_texts ws)) (take_more words i w here ∙ ap (λ x. take i words ++ x ∷ []) (sym is))
    ∙ ap concat (map-append (λ (x : Word). x.text) (take i words) (w ∷ []))
    ∙ concat-append (word_texts (take i words)) (w.text ∷ [])
    ∙ ap (λ t. concat (word_texts (take i words)) ++ t) (append-nil w.text)
