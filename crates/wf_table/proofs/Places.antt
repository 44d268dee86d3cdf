-- How many tokens are left at a place, as the grammar sees it.
use Rattle.std.proofs.Common.{◌<◌, ◌≤◌, length, arith}
use Rattle.std.proofs.lemmas.List.{length-map}
use Rattle.wf_table.specs.Place.{at_of, token_of}
use Rattle.wf_table.specs.declared.place.Place.{Place}

-- there is one
pub some_left : (p : Place) → 0 < length p.tokens.now → 0 < length (at_of p).tokens
some_left p some = omega (arith, length-map p.tokens.now token_of, some)

-- there are fewer
pub fewer_left : (p q : Place) → length p.tokens.now < length q.tokens.now → length (at_of p).tokens < length (at_of q).tokens
fewer_left p q less = omega (arith, length-map p.tokens.now token_of, length-map q.tokens.now token_of, less)

-- there are no more
pub no_more_left : (p q : Place) → length p.tokens.now < length q.tokens.now → length (at_of p).tokens ≤ length (at_of q).tokens
no_more_left p q less = omega (arith, length-map p.tokens.now token_of, length-map q.tokens.now token_of, less)
