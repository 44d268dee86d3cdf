-- Attributes and dimensions that can be written.
use Rattle.std.proofs.Common.{ℕ, ◌<◌, ◌^◌, List, length, refl, lit<, arith}
use Rattle.wf_model.specs.Headers.{dim, text_att, int_att}
use Rattle.wf_model.specs.SoundHeader.{IsSoundDim, IsSoundAtt}

pub text_sound : (name text : List ℕ) → length name < 2 ^ 31 → length text < 2 ^ 31 → IsSoundAtt (text_att name text)
text_sound name text p q = record { name = p; kind = (omega arith, omega arith); count = q; bytes = omega arith }

pub int_sound : (name : List ℕ) (n : ℕ) → length name < 2 ^ 31 → IsSoundAtt (int_att name n)
int_sound name n p = record { name = p; kind = (omega arith, omega arith); count = lit< tt; bytes = refl }

pub dim_sound : (name : List ℕ) (n : ℕ) → length name < 2 ^ 31 → n < 2 ^ 31 → IsSoundDim (dim name n)
dim_sound name n p q = record { name = p; len = q }
