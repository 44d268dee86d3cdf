use Rattle.std.proofs.Common.{◌+◌, length, ap, sym, refl, ◌∙◌, subst, arith}
use Rattle.wf_model.specs.declared.header.Header.{Header}
use Rattle.wf_model.specs.Bytes.{header_bytes}
use Rattle.wf_model.specs.Sizes.{file_size}
use Rattle.wf_model.specs.SoundHeader.{IsSoundHeader, BeginsFit}
use Rattle.wf_cdf.specs.Capped.{capped}
use Rattle.wf_cdf.proofs.Limits.{above_limit, AreExact, are_exact, BeginsFit_within_limit}
use Rattle.wf_cdf.proofs.Placed.{length_placed, IsSoundHeader_placed}
use Rattle.wf_cdf.proofs.place.place_vars.Goals as goal

pub returns-then-bytes-most_bytes-clause-too_long : goal.returns-then-bytes-most_bytes-clause-too_long
returns-then-bytes-most_bytes-clause-too_long c =
    (λ _. above_limit c.args.header.now.version (file_size c.args.header.now c.args.records) c.file_size-bytes.result c.file_size-bytes.ensures (omega arith), λ _. refl)

pub returns-then-bytes-most_bytes-clause-bytes : goal.returns-then-bytes-most_bytes-clause-bytes
unfolding capped
returns-then-bytes-most_bytes-clause-bytes c = c.file_size-bytes.ensures

pub overflow_cast-fixed : goal.overflow_cast-fixed
overflow_cast-fixed c =
    let exact : AreExact c.args.header.now c.args.records c.file_sizes-sizes.result.header c.file_sizes-sizes.result.fixed =
    are_exact c.args.header.now c.args.records c.file_size-bytes.result c.most_bytes.result c.file_sizes-sizes.result.header c.file_sizes-sizes.result.fixed
    c.file_size-bytes.ensures c.most_bytes.ensures c.if-bytes-most_bytes.false c.file_sizes-sizes.ensures.header c.file_sizes-sizes.ensures.fixed in
    omega arith

pub overflow_cast-sizes : goal.overflow_cast-sizes
overflow_cast-sizes c =
    let exact : AreExact c.args.header.now c.args.records c.file_sizes-sizes.result.header c.file_sizes-sizes.result.fixed =
    are_exact c.args.header.now c.args.records c.file_size-bytes.result c.most_bytes.result c.file_sizes-sizes.result.header c.file_sizes-sizes.result.fixed
    c.file_size-bytes.ensures c.most_bytes.ensures c.if-bytes-most_bytes.false c.file_sizes-sizes.ensures.header c.file_sizes-sizes.ensures.fixed in
    omega arith

pub overflow_add-fixed : goal.overflow_add-fixed
overflow_add-fixed c =
    let exact : AreExact c.args.header.now c.args.records c.file_sizes-sizes.result.header c.file_sizes-sizes.result.fixed =
    are_exact c.args.header.now c.args.records c.file_size-bytes.result c.most_bytes.result c.file_sizes-sizes.result.header c.file_sizes-sizes.result.fixed
    c.file_size-bytes.ensures c.most_bytes.ensures c.if-bytes-most_bytes.false c.file_sizes-sizes.ensures.header c.file_sizes-sizes.ensures.fixed in
    omega arith

pub place_all-requires-clause-fixed : goal.place_all-requires-clause-fixed
place_all-requires-clause-fixed c =
    let exact : AreExact c.args.header.now c.args.records c.file_sizes-sizes.result.header c.file_sizes-sizes.result.fixed =
    are_exact c.args.header.now c.args.records c.file_size-bytes.result c.most_bytes.result c.file_sizes-sizes.result.header c.file_sizes-sizes.result.fixed
    c.file_size-bytes.ensures c.most_bytes.ensures c.if-bytes-most_bytes.false c.file_sizes-sizes.ensures.header c.file_sizes-sizes.ensures.fixed in
    exact.header

pub place_all-requires-clause-moving : goal.place_all-requires-clause-moving
place_all-requires-clause-moving c =
    let exact : AreExact c.args.header.now c.args.records c.file_sizes-sizes.result.header c.file_sizes-sizes.result.fixed =
    are_exact c.args.header.now c.args.records c.file_size-bytes.result c.most_bytes.result c.file_sizes-sizes.result.header c.file_sizes-sizes.result.fixed
    c.file_size-bytes.ensures c.most_bytes.ensures c.if-bytes-most_bytes.false c.file_sizes-sizes.ensures.header c.file_sizes-sizes.ensures.fixed in
    ap (λ n. c.file_sizes-sizes.result.header + n) exact.fixed

pub place_all-requires-clause-end : goal.place_all-requires-clause-end
place_all-requires-clause-end c =
    let exact : AreExact c.args.header.now c.args.records c.file_sizes-sizes.result.header c.file_sizes-sizes.result.fixed =
    are_exact c.args.header.now c.args.records c.file_size-bytes.result c.most_bytes.result c.file_sizes-sizes.result.header c.file_sizes-sizes.result.fixed
    c.file_size-bytes.ensures c.most_bytes.ensures c.if-bytes-most_bytes.false c.file_sizes-sizes.ensures.header c.file_sizes-sizes.ensures.fixed in
    omega arith

pub returns-clause-length : goal.returns-clause-length
returns-clause-length c =
    let exact : AreExact c.args.header.now c.args.records c.file_sizes-sizes.result.header c.file_sizes-sizes.result.fixed =
    are_exact c.args.header.now c.args.records c.file_size-bytes.result c.most_bytes.result c.file_sizes-sizes.result.header c.file_sizes-sizes.result.fixed
    c.file_size-bytes.ensures c.most_bytes.ensures c.if-bytes-most_bytes.false c.file_sizes-sizes.ensures.header c.file_sizes-sizes.ensures.fixed in
    exact.header

pub returns-clause-same_length : goal.returns-clause-same_length
returns-clause-same_length c = ap (λ (h : Header). length (header_bytes h)) c.place_all.ensures ∙ length_placed c.args.header.now

pub returns-clause-sound : goal.returns-clause-sound
returns-clause-sound c = subst IsSoundHeader (sym c.place_all.ensures) (IsSoundHeader_placed c.args.header.now c.requires)

pub returns-clause-begins : goal.returns-clause-begins
returns-clause-begins c =
    let exact : AreExact c.args.header.now c.args.records c.file_sizes-sizes.result.header c.file_sizes-sizes.result.fixed =
    are_exact c.args.header.now c.args.records c.file_size-bytes.result c.most_bytes.result c.file_sizes-sizes.result.header c.file_sizes-sizes.result.fixed
    c.file_size-bytes.ensures c.most_bytes.ensures c.if-bytes-most_bytes.false c.file_sizes-sizes.ensures.header c.file_sizes-sizes.ensures.fixed in
    subst BeginsFit (sym c.place_all.ensures) (BeginsFit_within_limit c.args.header.now c.args.records exact.small)

pub returns-clause-too_long : goal.returns-clause-too_long
returns-clause-too_long c =
    let exact : AreExact c.args.header.now c.args.records c.file_sizes-sizes.result.header c.file_sizes-sizes.result.fixed =
    are_exact c.args.header.now c.args.records c.file_size-bytes.result c.most_bytes.result c.file_sizes-sizes.result.header c.file_sizes-sizes.result.fixed
    c.file_size-bytes.ensures c.most_bytes.ensures c.if-bytes-most_bytes.false c.file_sizes-sizes.ensures.header c.file_sizes-sizes.ensures.fixed in
    (λ e. cc, λ above. absurd (omega arith))
