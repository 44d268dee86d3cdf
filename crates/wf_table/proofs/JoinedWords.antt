-- The words of a line, joined one after the other.
use Rattle.std.proofs.Common.{◌≡◌, ℕ, zero, suc, ◌+◌, ◌<◌, List, [], ◌∷◌, ◌++◌, length, get_or, drop, map, refl, sym, ap, ◌∙◌, add-one, drop-cons, append_assoc}
use Rattle.std.proofs.lemmas.List.{append-nil}
use Rattle.std.specs.List.{join_with_byte}
use Rattle.wf_model.specs.declared.text.Word.{Word}
use Rattle.wf_table.specs.Joined.{behind_blank}

-- words behind others
abbrev pub others : List Word → List ℕ
others [] = []
others (w ∷ ws) = 32 ∷ (w.text ++ others ws)

-- words from this place on
abbrev pub rest : ℕ → List Word → List ℕ
rest zero ws = join_with_byte 32 (map (λ (w : Word). w.text) ws)
rest (suc i) ws = others ws

-- the first word, and the others behind it
first_word : (w : Word) (ws : List Word) → join_with_byte 32 (map (λ (x : Word). x.text) (w ∷ ws)) ≡ w.text ++ others ws
first_word w [] = sym (append-nil w.text)
first_word w (v ∷ vs) = ap (λ bs. w.text ++ (32 ∷ bs)) (first_word v vs)

-- a word, and those behind it
word_and : (i : ℕ) (w : Word) (ws : List Word) → rest i (w ∷ ws) ≡ behind_blank i w.text ++ rest (suc i) ws
word_and zero w ws = first_word w ws
word_and (suc i) w ws = refl

-- one word more
pub joined_more : (front total : List ℕ) (i : ℕ) (ws : List Word) (w : Word) → i < length ws → w ≡ get_or ws i w
    → front ++ rest i (drop i ws) ≡ total → (front ++ behind_blank i w.text) ++ rest (i + 1) (drop (i + 1) ws) ≡ total
joined_more front total i ws w lt is so_far =
    let here : drop i ws ≡ w ∷ drop (suc i) ws = drop-cons ws i w lt ∙ ap (λ x. x ∷ drop (suc i) ws) (sym is) in
    let one : rest i (drop i ws) ≡ behind_blank i w.text ++ rest (suc i) (drop (suc i) ws) = ap (rest i) here ∙ word_and i w (drop (suc i) ws) in
    rw add-one (append_assoc front (behind_blank i w.text) (rest (suc i) (drop (suc i) ws)) ∙ ap (λ bs. front ++ bs) (sym one) ∙ so_far)
