-- Scanning a namelist byte by byte.
use Rattle.std.specs.Prelude.{ℕ, ◌==◌, ◌≤◌, Bool, true, if◌then◌else◌}
use Rattle.wf_model.specs.Letters.{Text}
use Rattle.wf_model.specs.Lines.{is_blank}
use Rattle.wf_model.specs.NamelistTokens.{Where, line_begins, passing, in_group, in_comment}
use Rattle.wf_model.specs.NamelistTokens.{Scanned, begin_token, group_token, is_gap, scanned}
use Rattle.wf_namelist.specs.declared.place.Place.{Place}
use Rattle.wf_namelist.specs.declared.place.Place.TheVariants as places
use Rattle.wf_namelist.specs.declared.token.Begun.{Begun}
use Rattle.wf_namelist.specs.declared.step.Step.{Step}
use Rattle.wf_namelist.specs.declared.step.Step.TheVariants as steps

-- where scanning stands
abbrev pub where_of : Place → Where
where_of places.LineBegins = line_begins
where_of places.Passing = passing
where_of places.InGroup = in_group
where_of places.InComment = in_comment

-- a token that begins
abbrev pub token_of : Begun → Scanned
token_of t = scanned t.sort t.size (where_of t.next)

-- what a byte is that belongs to no token before
pub data Turn : Type 0 where
  line_ends : Where → Turn
  passes : Where → Turn
  begins : Scanned → Turn

abbrev pub turn_of : Step → Turn
turn_of (steps.LineEnds next) = line_ends (where_of next)
turn_of (steps.Passes next) = passes (where_of next)
turn_of (steps.Begins t) = begins (token_of t)

abbrev pub turn_at : Where → ℕ → Text → Turn
turn_at line_begins b bs =
    if b == 10 then line_ends line_begins
    else (if is_blank b then passes line_begins
    else (if b == 38 then begins (begin_token bs) else passes passing))
turn_at passing b bs = if b == 10 then line_ends line_begins else passes passing
turn_at in_comment b bs = if b == 10 then line_ends in_group else passes in_comment
turn_at in_group b bs =
    if b == 10 then line_ends in_group
    else (if is_gap b bs then passes in_group
    else (if b == 33 then passes in_comment else begins (group_token b bs)))

-- whether something parts a token from the one before: where a line begins, the line's end does
abbrev pub apart_at : Where → Bool → Bool
apart_at line_begins apart = true
apart_at other apart = apart

-- a token takes no more bytes than so many after its first
abbrev pub HasRoom : Step → ℕ → Type 0
HasRoom (steps.LineEnds next) n = Unit {0}
HasRoom (steps.Passes next) n = Unit {0}
HasRoom (steps.Begins t) n = t.size ≤ n
