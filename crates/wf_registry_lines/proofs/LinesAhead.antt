-- The lines of a file that are still to be read, one after the other.
use Rattle.std.proofs.Common.{◌≡◌, ℕ, Bool, true, false, cond, List, [], ◌∷◌, ◌++◌, map, reverse, Option, Result, Ok, Err, refl, sym, ap, ◌∙◌}
use Rattle.std.specs.Prelude.{nat_le}
use Rattle.std.proofs.lemmas.List.{reverse-append}
use Rattle.wf_model.specs.declared.text.Line.{Line}
use Rattle.wf_model.specs.Letters.{Text}
use Rattle.wf_model.specs.Reading.{◌>>=◌, Fails}
use Rattle.wf_model.specs.KeptLines.{Defines, Includes, Met, Stop, Within, lines_met, most_lines}
use Rattle.wf_model.proofs.ReadingLemmas.{Fails-along, Fails-chain}
use Rattle.wf_registry_lines.specs.Ahead.{ahead_met, marks, next_met, seen}
use Rattle.wf_registry_lines.specs.declared.ahead.AheadLine.{AheadLine}

-- a test before a chain is a test before its first part
test_first : {A B F : Type 0} (b : Bool) (f : F) (read : Result A F) (next then_next : A → Result B F) → ((a : A) → next a ≡ then_next a)
    → (cond b (Err f) read >>= next) ≡ cond b (Err f) (read >>= then_next)
test_first true f read next then_next same = refl
test_first false f (Ok a) next then_next same = same a
test_first false f (Err e) next then_next same = refl

-- lines with their marks are read as the definition reads them
pub ahead_met-marks : (defines : Defines) (include : Includes) (file : Text) (faulty : Bool) (met : Met) (w : Within) (ls : List Line)
    → ahead_met defines include file met w (marks faulty ls) ≡ lines_met defines include file faulty met w ls
unfolding ahead_met lines_met
ahead_met-marks defines include file faulty met w [] = refl
ahead_met-marks defines include file faulty met w (l ∷ ls) =
    test_first (nat_le most_lines met.lines) _ _ _ _ (λ (p : Met × Within). ahead_met-marks defines include file faulty p.0 p.1 ls)

module _ (text : List ℕ) (defines : Defines) (include : Includes) (file : Text) (met : Met) (w : Within) (total : Result Met Stop) where
  -- the line on top is the next one
  next_is : (ahead rest : List AheadLine) (a : AheadLine) → ahead ≡ rest ++ a ∷ []
      → ahead_met defines include file met w (map (seen text) (reverse ahead)) ≡ (next_met defines include file met w (seen text a) >>= λ p. ahead_met defines include file p.0 p.1 (map (seen text) (reverse rest)))
  unfolding ahead_met
  next_is ahead rest a e =
      ap (λ (ls : List AheadLine). ahead_met defines include file met w (map (seen text) (reverse ls))) e
      ∙ ap (λ (ls : List AheadLine). ahead_met defines include file met w (map (seen text) ls)) (reverse-append rest (a ∷ []))

  pub next_read : (ahead rest : List AheadLine) (a : AheadLine) (p : Met × Within) → ahead ≡ rest ++ a ∷ [] → next_met defines include file met w (seen text a) ≡ Ok p
      → ahead_met defines include file met w (map (seen text) (reverse ahead)) ≡ total → ahead_met defines include file p.0 p.1 (map (seen text) (reverse rest)) ≡ total
  next_read ahead rest a p e read so_far =
      sym (ap (λ (r : Result (Met × Within) Stop). r >>= λ p. ahead_met defines include file p.0 p.1 (map (seen text) (reverse rest))) read) ∙ sym (next_is ahead rest a e) ∙ so_far

  pub next_fails : (fault : Option Stop) (ahead rest : List AheadLine) (a : AheadLine) → ahead ≡ rest ++ a ∷ [] → Fails fault (next_met defines include file met w (seen text a))
      → ahead_met defines include file met w (map (seen text) (reverse ahead)) ≡ total → Fails fault total
  next_fails fault ahead rest a e fails so_far =
      Fails-along fault (next_met defines include file met w (seen text a) >>= λ p. ahead_met defines include file p.0 p.1 (map (seen text) (reverse rest))) total (sym (next_is ahead rest a e) ∙ so_far)
      (Fails-chain fault (next_met defines include file met w (seen text a)) (λ p. ahead_met defines include file p.0 p.1 (map (seen text) (reverse rest))) fails)

  pub all_read : (ahead : List AheadLine) → ahead ≡ [] → ahead_met defines include file met w (map (seen text) (reverse ahead)) ≡ total → total ≡ Ok met
  unfolding ahead_met
  all_read ahead e so_far = sym so_far ∙ ap (λ (ls : List AheadLine). ahead_met defines include file met w (map (seen text) (reverse ls))) e
