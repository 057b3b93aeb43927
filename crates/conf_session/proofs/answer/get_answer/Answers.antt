-- The name is looked at first, then the path's text, then the places on the path.
use Rattle.std.{proofs.Common.{◌≡◌, ⊎_elim, ap, sym, subst, ◌∙◌, refl}, specs.Prelude.{Ok, Err, IfOk, codes}}
use Rattle.conf_session.proofs.{Prelude.{chars, framed_text_bytes, tree_of, path_of, ascii, StoreView}, AnswerLemmas.value-shallow}
use Rattle.conf_session.proofs.RefusalLemmas.{OnlyMemory, named-memory, path-memory, placed-memory, refused-memory}
use Rattle.conf_session.{proofs.ReplyLemmas.{get-no_config, get-no_path, get-refused, get-value}, specs.{Requests.getting, Replies.Replies}}
use Rattle.conf_session.specs.{Replies.refused_as, Runs.stored_of, Answers.{one, answered, path_answered}}
use Rattle.{json_pointer.specs.declared.fault.PathFault.TheVariants.OutOfMemory, conf_store.specs.Calls.tree_at}
use Rattle.conf_session.proofs.answer.get_answer.Goals as goal

pub returns-in-Err-clause-ok : goal.returns-in-Err-clause-ok
returns-in-Err-clause-ok g c =
    let now = stored_of c.args.store.now in
    let request = getting (chars c.args.name.now) (chars c.args.path.now) in
    subst (λ r. IfOk r (Replies now request)) (sym c.refused.ensures)
    (get-no_config now (chars c.args.name.now) (chars c.args.path.now) c.in-Err.fault c.in-Err.ensures.refused)

pub returns-in-Err-clause-memory : goal.returns-in-Err-clause-memory
returns-in-Err-clause-memory g c =
    let f = c.in-Err.fault in
    subst OnlyMemory (sym c.refused.ensures) (refused-memory (answered f)
    (named-memory c.args.store.now.state (chars c.args.name.now) f c.in-Err.ensures.refused))

pub returns-in-Err-parse-clause-ok : goal.returns-in-Err-parse-clause-ok
returns-in-Err-parse-clause-ok g c =
    let now = stored_of c.args.store.now in
    let f = c.in-Err-parse.fault in
    let name = chars c.args.name.now in
    let path = chars c.args.path.now in
    let request = getting name path in
    subst (λ r. IfOk r (Replies now request)) (sym c.refused-in-Err-parse.ensures)
    (⊎_elim (λ memory. let same : f ≡ OutOfMemory = cc memory in
    subst (λ k. IfOk (refused_as (path_answered k)) (Replies now request)) (sym same) tt)
    (λ is. get-no_path now name path (tree_of c.in-Ok.config.now) f c.in-Ok.ensures.ok (sym is)) c.in-Err-parse.ensures.met)

pub returns-in-Err-parse-clause-memory : goal.returns-in-Err-parse-clause-memory
returns-in-Err-parse-clause-memory g c = subst OnlyMemory (sym c.refused-in-Err-parse.ensures)
    (refused-memory (path_answered c.in-Err-parse.fault) (path-memory c.in-Err-parse.fault))

-- ---- the store is the same where it was made ready

pub answer-requires : goal.answer-requires
answer-requires g c =
    let found = subst (λ (s : StoreView g.row.D.Denot). tree_at s.state (chars c.args.name.now) c.in-Ok-parse.path
    ≡ Ok (tree_of c.in-Ok-get.value.now)) c.index_if_large.ensures c.in-Ok-get.ensures.ok in
    value-shallow c.args.store.now.state (chars c.args.name.now) c.in-Ok-parse.path
    (tree_of c.in-Ok-get.value.now) c.in-Ok.ensures.limits found

pub returns-in-Ok-get-clause-ok : goal.returns-in-Ok-get-clause-ok
returns-in-Ok-get-clause-ok g c =
    let found = subst (λ (s : StoreView g.row.D.Denot). tree_at s.state (chars c.args.name.now) c.in-Ok-parse.path
    ≡ Ok (tree_of c.in-Ok-get.value.now)) c.index_if_large.ensures c.in-Ok-get.ensures.ok in
    let parsed : path_of (chars c.args.path.now) ≡ Ok c.in-Ok-parse.path =
    ⊎_elim (λ never. cc never) (λ is. sym is) c.in-Ok-parse.ensures.met in
    get-value (stored_of c.args.store.now) (chars c.args.name.now) (chars c.args.path.now) c.in-Ok-parse.path parsed
    (tree_of c.in-Ok-get.value.now) c.in_ok-answer-in-Ok-get.field-0 found
    (c.in_ok-answer-in-Ok-get.ensures ∙ ap (λ k. framed_text_bytes (one k (tree_of c.in-Ok-get.value.now)))
    (ascii (codes "value") refl)) c.in-Ok.ensures.limits

pub returns-clause-ok : goal.returns-clause-ok
returns-clause-ok g c =
    let now = stored_of c.args.store.now in
    let request = getting (chars c.args.name.now) (chars c.args.path.now) in
    let missed = subst (λ (s : StoreView g.row.D.Denot). tree_at s.state (chars c.args.name.now) c.in-Ok-parse.path
    ≡ Err c.in-Err-get.fault) c.index_if_large.ensures c.in-Err-get.ensures.refused in
    let parsed : path_of (chars c.args.path.now) ≡ Ok c.in-Ok-parse.path =
    ⊎_elim (λ never. cc never) (λ is. sym is) c.in-Ok-parse.ensures.met in
    subst (λ r. IfOk r (Replies now request)) (sym c.refused-in-Err-get.ensures)
    (get-refused now (chars c.args.name.now) (chars c.args.path.now) c.in-Ok-parse.path parsed c.in-Err-get.fault missed)

pub returns-clause-memory : goal.returns-clause-memory
returns-clause-memory g c =
    let f = c.in-Err-get.fault in
    let missed = subst (λ (s : StoreView g.row.D.Denot). tree_at s.state (chars c.args.name.now) c.in-Ok-parse.path ≡ Err f)
    c.index_if_large.ensures c.in-Err-get.ensures.refused in
    subst OnlyMemory (sym c.refused-in-Err-get.ensures)
    (refused-memory (answered f) (placed-memory c.args.store.now.state (chars c.args.name.now) c.in-Ok-parse.path f missed))
