-- What begins a group has a name.
use Rattle.std.proofs.Common.{◌≡◌, ℕ, zero, suc, ◌+◌, Bool, true, false, cond, [], ◌∷◌, drop, Option, Some, None, refl, sym, ap, ◌∙◌}
use Rattle.std.specs.Prelude.{◌==◌, ◌&&◌, ◌||◌}
use Rattle.std.specs.List.{list_all, take_while, prefix_len}
use Rattle.std.proofs.lemmas.List.Folds.{list_all-append}
use Rattle.wf_model.specs.declared.namelist.Sort.TheVariants as sort
use Rattle.wf_model.specs.Letters.{Text, is_name, is_name_byte, lower}
use Rattle.wf_model.specs.Lines.{is_blank}
use Rattle.wf_model.specs.Namelist.{Tokens, here}
use Rattle.wf_model.specs.NamelistTokens.{Where, line_begins, passing, in_group, in_comment, Scanned, begin_token, group_token, is_gap, namelist_tokens, quoted, scan, scanned, text_token}
use Rattle.wf_namelist.specs.Groups.{has_name, is_named}
use Rattle.wf_namelist.specs.Scanning.{Turn, line_ends, passes, begins, turn_at}
use Rattle.wf_namelist.proofs.Names.{is_name_lower}
use Rattle.wf_namelist.proofs.ScanTurns.{go_on, turn}

-- the token at a place
pub named_at : (at : ℕ) (ts : Tokens) → list_all is_named ts ≡ true → has_name (here (drop at ts)).sort ≡ true
named_at zero [] all = refl
named_at zero (t ∷ ts) all = first (is_named t) (list_all is_named ts) all
  where
    first : (a b : Bool) → (a && b) ≡ true → a ≡ true
    first true b e = refl
    first false b e = e
named_at (suc at) [] all = refl
named_at (suc at) (t ∷ ts) all = named_at at ts (second (is_named t) (list_all is_named ts) all)
  where
    second : (a b : Bool) → (a && b) ≡ true → b ≡ true
    second true b e = e
    second false b e = cc

-- ---- the tokens of a text

abbrev is_named_turn : Turn → Bool
is_named_turn (line_ends next) = true
is_named_turn (passes next) = true
is_named_turn (begins t) = has_name t.sort

either_turn : (b : Bool) (x y : Turn) → is_named_turn x ≡ true → is_named_turn y ≡ true → is_named_turn (cond b x y) ≡ true
either_turn true x y ex ey = ex
either_turn false x y ex ey = ey

either_token : (b : Bool) (x y : Scanned) → has_name x.sort ≡ true → has_name y.sort ≡ true → has_name (cond b x y).sort ≡ true
either_token true x y ex ey = ex
either_token false x y ex ey = ey

begin_named : (bs : Text) → has_name (begin_token bs).sort ≡ true
begin_named bs = by (is_name (take_while is_name_byte bs)) (sym (is_name_lower (take_while is_name_byte bs)))
  where
    by : (b : Bool) → b ≡ is_name (lower (take_while is_name_byte bs)) → has_name (cond b (scanned (sort.GroupBegins (lower (take_while is_name_byte bs))) (prefix_len is_name_byte bs) in_group) (scanned sort.NoName 0 passing)).sort ≡ true
    by true e = sym e
    by false e = refl

text_named : (t : Option (Text × ℕ)) → has_name (text_token t).sort ≡ true
text_named None = refl
text_named (Some t) = refl

group_named : (b : ℕ) (bs : Text) → has_name (group_token b bs).sort ≡ true
group_named b bs =
    either_token (b == 44) _ _ refl (either_token (b == 61) _ _ refl (either_token (b == 47) _ _ refl (either_token (b == 40) _ _ refl (either_token (b == 38) _ _ refl
    (either_token ((b == 39) || (b == 34)) _ _ (text_named (quoted b bs)) (either_token (b == 13) _ _ refl refl))))))

turn_named : (place : Where) (b : ℕ) (bs : Text) → is_named_turn (turn_at place b bs) ≡ true
turn_named line_begins b bs = either_turn (b == 10) _ _ refl (either_turn (is_blank b) _ _ refl (either_turn (b == 38) _ _ (begin_named bs) refl))
turn_named passing b bs = either_turn (b == 10) _ _ refl refl
turn_named in_comment b bs = either_turn (b == 10) _ _ refl refl
turn_named in_group b bs = either_turn (b == 10) _ _ refl (either_turn (is_gap b bs) _ _ refl (either_turn (b == 33) _ _ refl (group_named b bs)))

both : (a b : Bool) → a ≡ true → b ≡ true → (a && b) ≡ true
both true b ea eb = eb
both false b ea eb = ea

-- the tokens from a byte on, where those of the bytes after it are named
on_named : (place : Where) (line : ℕ) (apart : Bool) (bs : Text) (t : Turn) → is_named_turn t ≡ true
    → ((next : Where) (line : ℕ) (apart : Bool) (skip : ℕ) → list_all is_named (scan next line apart skip bs) ≡ true) → list_all is_named (go_on place line apart bs t) ≡ true
on_named place line apart bs (line_ends next) e others = others next (line + 1) true 0
on_named place line apart bs (passes next) e others = others next line true 0
on_named place line apart bs (begins t) e others = both (has_name t.sort) _ e (others t.next line false t.size)

scan_named : (place : Where) (line : ℕ) (apart : Bool) (skip : ℕ) (bs : Text) → list_all is_named (scan place line apart skip bs) ≡ true
unfolding scan
scan_named place line apart skip [] = refl
scan_named place line apart (suc skip) (b ∷ bs) = scan_named place line apart skip bs
scan_named place line apart zero (b ∷ bs) =
    ap (list_all is_named) (turn place line apart b bs) ∙ on_named place line apart bs (turn_at place b bs) (turn_named place b bs) (λ next l a skip. scan_named next l a skip bs)

-- the tokens of a text
pub tokens_named : (bytes : Text) → list_all is_named (namelist_tokens bytes) ≡ true
unfolding namelist_tokens
tokens_named bytes = list_all-append is_named (scan line_begins 1 true 0 bytes) _ ∙ both _ _ (scan_named line_begins 1 true 0 bytes) refl
