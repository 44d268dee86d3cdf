-- Where a run begins with numbers of 32 bits, all its numbers are, on grids and on patches, and
-- past an overflow too.
use Rattle.std.specs.Prelude.{ℕ, List, ℤ, All}
use Rattle.wf_model.specs.declared.layout.Layout.{Layout}
use Rattle.wf_model.specs.declared.script.Entry.{Entry}
use Rattle.wf_model.specs.Outcome.{RunData, grids_at}
use Rattle.wf_model.specs.Front.{front, mail_to}
use Rattle.wf_model.specs.Hooks.{IsShort}
use Rattle.wf_patch_laws.specs.Functions.{AreShort, CameShort}

-- all numbers that the run begins with are of 32 bits
abbrev pub BeginsShort : RunData → Type 0
BeginsShort r = All (λ (levels : List (List ℤ)).
    All (λ (numbers : List ℤ). All IsShort numbers) levels) r.initial.grids

-- so are all numbers of the grids before each place
abbrev pub GridsStayShort : Type 0
GridsStayShort = (r : RunData) (n : ℕ) → BeginsShort r → AreShort (grids_at r n)

-- all numbers of each patch's memory
abbrev pub PatchesStayShort : Type 0
PatchesStayShort = (r : RunData) (layout : Layout) (n d p f k : ℕ) (j i : ℤ) → BeginsShort r →
    IsShort ((front r layout n d p).memory f k j i)

-- and all numbers of each message
abbrev pub MailStaysShort : Type 0
MailStaysShort = (r : RunData) (layout : Layout) (n : ℕ) (e : Entry) (p : ℕ) → BeginsShort r →
    CameShort (mail_to r layout (front r layout n) e p)
