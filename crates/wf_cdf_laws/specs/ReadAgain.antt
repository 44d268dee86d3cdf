-- What is written in the netCDF classic format is read again.
use Rattle.std.specs.Prelude.{◌≡◌, ℕ, ◌^◌, ◌<◌, List, ◌++◌, All, Ok}
use Rattle.wf_model.specs.declared.header.Header.{Header}
use Rattle.wf_model.specs.Bytes.{header_bytes}
use Rattle.wf_model.specs.CdfRead.{header_at}
use Rattle.wf_model.specs.SoundHeader.{IsSoundHeader, BeginsFit}

-- its variables' sizes have 32 bits, and their begins 64
abbrev pub NumbersFit : Header → Type 0
NumbersFit h = All (λ v. (v.vsize < 2 ^ 32) × (v.begin < 2 ^ 64)) h.vars

-- a sound header's bytes are read to the same header, whatever follows them
abbrev pub HeadersAreReadAgain : Type 0
HeadersAreReadAgain =
    (h : Header) (rest : List ℕ) → IsSoundHeader h → BeginsFit h → NumbersFit h →
    header_at (header_bytes h ++ rest) ≡ Ok h
