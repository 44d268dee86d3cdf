use Rattle.std.proofs.Common.{◌+◌, ◌∷◌, [], map, ap, take, ◌∙◌, sym, arith}
use Rattle.std.proofs.lemmas.List.{map-append}
use Rattle.wf_model.specs.Tokens.{token}
use Rattle.wf_table.specs.Place.{token_of}
use Rattle.wf_table.proofs.TokenScan.{blank, token_read, ended}
use Rattle.wf_table.proofs.tokens.tokens_of.Goals as goal

pub loop-at-preserved-then-first-eq32 : goal.loop-at-preserved-then-first-eq32
loop-at-preserved-then-first-eq32 c = record {
  within = omega arith;
  same = blank (map token_of c.loop-at.tokens.items) _ c.loop-at.at c.args.text.now c.loop-at-test.true c.if-first-eq32.true c.loop-at.invariant.same;
}

pub loop-at-preserved : goal.loop-at-preserved
loop-at-preserved c = record {
  within = omega (arith, c.token_rest-size.ensures.bound, c.split_at-else-first-eq32.ensures.back_len);
  same = rw (c.in_ok-push.ensures.items, map-append token_of c.loop-at.tokens.items (c.in_ok-token.token ∷ [])) (token_read (map token_of c.loop-at.tokens.items) _ c.loop-at.at c.token_rest-size.result c.args.text.now (token_of c.in_ok-token.token) c.loop-at-test.true c.if-first-eq32.false
      (rw (sym c.split_at-else-first-eq32.ensures.back) c.token_rest-size.ensures.count)
      (omega (arith, c.token_rest-size.ensures.bound, c.split_at-else-first-eq32.ensures.back_len))
      (c.in_ok-token.ensures ∙ ap (λ bs. token bs (c.loop-at.at + 1)) (c.split_at-else-first-eq32-2.ensures.front ∙ ap (take (c.token_rest-size.result + 1)) c.split_at.ensures.back))
      c.loop-at.invariant.same);
}

pub returns : goal.returns
returns c =
    ap (map token_of) c.in_ok-push-2.ensures.items ∙ map-append token_of c.loop-at.tokens.items (c.in_ok-end.end ∷ [])
    ∙ ended (map token_of c.loop-at.tokens.items) _ c.loop-at.at c.args.text.now (token_of c.in_ok-end.end) c.loop-at-test.false c.in_ok-end.ensures c.loop-at.invariant.same
