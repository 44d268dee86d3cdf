-- Places of the tokens.
use Rattle.std.proofs.Common.{◌≡◌, ℕ, zero, suc, ◌+◌, [], ◌∷◌, drop, refl, add-one}
use Rattle.wf_model.specs.Namelist.{Tokens, rest}

-- behind a place
pub rest_at : (at : ℕ) (ts : Tokens) → drop (at + 1) ts ≡ rest (drop at ts)
rest_at at ts = rw add-one (go at ts)
  where
    go : (at : ℕ) (ts : Tokens) → drop (suc at) ts ≡ rest (drop at ts)
    go zero [] = refl
    go zero (t ∷ ts) = refl
    go (suc at) [] = refl
    go (suc at) (t ∷ ts) = go at ts
