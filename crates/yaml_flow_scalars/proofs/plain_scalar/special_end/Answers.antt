use Rattle.std.{proofs.Common.{◌<◌, ◌∙◌, ap, arith, get_or, length, subst}, specs.Prelude.{Bool, ◌&&◌, ◌||◌, ◌==◌, nat_lt}}
use Rattle.yaml_flow_scalars.proofs.{Prelude.{context_of, none_so, some_so}, PlainWords.{no_special, none_at_end}}
use Rattle.yaml_flow_scalars.specs.PlainPlaces.{is_content, IsPlainPiece, NoPlainPiece}
use Rattle.yaml_flow_scalars.proofs.plain_scalar.special_end.Goals as goal

pub returns-then-at-bytes-clause-none : goal.returns-then-at-bytes-clause-none
returns-then-at-bytes-clause-none c =
    none_at_end (context_of c.args.context)
    ((nat_lt c.args.end c.args.words || is_content c.args.before) && (c.args.at == c.args.words)) c.args.text.now
    c.args.at (omega (arith, c.as_bytes-bytes.ensures.len))

pub returns-then-byte-lt35-clause-none : goal.returns-then-byte-lt35-clause-none
returns-then-byte-lt35-clause-none c =
    let l : c.args.at < length c.args.text.now = omega (arith, c.as_bytes-bytes.ensures.len, c.if-at-bytes.false) in
    let byte = ap (λ t. get_or t c.args.at 0) c.as_bytes-bytes.ensures.value in
    no_special (context_of c.args.context)
    ((nat_lt c.args.end c.args.words || is_content c.args.before) && (c.args.at == c.args.words)) c.args.text.now
    c.args.at c.utf8.text l (omega (arith, byte, c.if-byte-lt35.true)) (c.requires.stop l)
    (λ e. c.if-byte-eq58.false (byte ∙ e)) (λ e. absurd (omega (arith, byte, e, c.if-byte-lt35.true)))

pub returns-then-byte-ne35-clause-none : goal.returns-then-byte-ne35-clause-none
returns-then-byte-ne35-clause-none c =
    let l : c.args.at < length c.args.text.now = omega (arith, c.as_bytes-bytes.ensures.len, c.if-at-bytes.false) in
    let byte = ap (λ t. get_or t c.args.at 0) c.as_bytes-bytes.ensures.value in
    no_special (context_of c.args.context)
    ((nat_lt c.args.end c.args.words || is_content c.args.before) && (c.args.at == c.args.words)) c.args.text.now
    c.args.at c.utf8.text l (omega (arith, byte, c.if-byte-lt128.true)) (c.requires.stop l)
    (λ e. c.if-byte-eq58.false (byte ∙ e)) (λ e. c.if-byte-ne35.true (byte ∙ e))

pub returns-then-byte-eq58-clause-found : goal.returns-then-byte-eq58-clause-found
returns-then-byte-eq58-clause-found c =
    let black = (nat_lt c.args.end c.args.words || is_content c.args.before) && (c.args.at == c.args.words) in
    some_so c.colon_end.result _ (IsPlainPiece (context_of c.args.context) black c.args.text.now c.args.at)
    (λ end piece. piece black) c.colon_end.ensures.found

pub returns-then-byte-eq58-clause-none : goal.returns-then-byte-eq58-clause-none
returns-then-byte-eq58-clause-none c =
    let black = (nat_lt c.args.end c.args.words || is_content c.args.before) && (c.args.at == c.args.words) in
    none_so c.colon_end.result _ (NoPlainPiece (context_of c.args.context) black c.args.text.now c.args.at)
    (λ piece. piece black) c.colon_end.ensures.none

pub returns-clause-found : goal.returns-clause-found
returns-clause-found c =
    some_so c.decoded_end.result _ _
    (λ end piece. subst (λ (b : Bool). IsPlainPiece (context_of c.args.context) b c.args.text.now c.args.at end)
    c.before_stop.ensures piece) c.decoded_end.ensures.found

pub returns-clause-none : goal.returns-clause-none
returns-clause-none c =
    none_so c.decoded_end.result _ _
    (λ piece. subst (λ (b : Bool). NoPlainPiece (context_of c.args.context) b c.args.text.now c.args.at)
    c.before_stop.ensures piece) c.decoded_end.ensures.none
