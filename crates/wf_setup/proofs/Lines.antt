-- A printed line, word by word.
use Rattle.std.proofs.Common.{◌≡◌, ◌∙◌, ap, refl, sym, ℕ, ◌≤◌, List, [], ◌∷◌, ◌++◌, length, drop}
use Rattle.std.proofs.lemmas.List.{drop_all}
use Rattle.std.specs.Borrow.{Bor}
use Rattle.wf_model.specs.Letters.{Text}
use Rattle.wf_model.specs.Refusals.{line}
use Rattle.wf_setup.specs.Words.{texts_of}

-- what stands behind a word of a line
abbrev pub behind : List (Bor Text) → Text
behind [] = 10 ∷ []
behind (w ∷ ws) = 32 ∷ (w.now ++ behind ws)

-- a line is its first word and what stands behind it
pub line_begins : (first : Text) (words : List (Bor Text)) → line (first ∷ texts_of words) ≡ first ++ behind words
line_begins first [] = refl
line_begins first (w ∷ ws) = ap (λ (t : Text). first ++ (32 ∷ t)) (line_begins w.now ws)

-- all words were written
pub line_ends : (first text : Text) (words : List (Bor Text)) (k : ℕ) → length words ≤ k → first ++ behind words ≡ text ++ behind (drop k words)
    → text ++ (10 ∷ []) ≡ line (first ∷ texts_of words)
line_ends first text words k most so_far = sym (line_begins first words ∙ so_far ∙ ap (λ (ws : List (Bor Text)). text ++ behind ws) (drop_all k words most))
