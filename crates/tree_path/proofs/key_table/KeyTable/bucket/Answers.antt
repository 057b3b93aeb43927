use Rattle.std.proofs.{Common.{◌≡◌, ◌<◌, ◌∷◌, ◌++◌, [], ◌%◌, refl, sym, ap, subst, ◌∙◌, arith, length}, lemmas.Nat.mod_below}
use Rattle.tree_path.proofs.Prelude.{YieldsList-from_chars, YieldsList-turn, YieldsList-end, at_drop_all, length_push, chars}
use Rattle.tree_path.{proofs.TableLemmas.hash-turn, specs.Tables.{hash_after, bucket_of}}
use Rattle.tree_path.proofs.key_table.KeyTable.bucket.Goals as goal

pub loop-c-preserved : goal.loop-c-preserved
loop-c-preserved c =
    let turn = YieldsList-turn (YieldsList-from_chars c.args.key.now c.utf8.key cc) c.loop-c.yielded _
    c.loop-c.yielded_by _ _ c.in-Some.c c.in-Some.is c.next.ensures.steps in
    hash-turn 0x0100_0193 (chars c.args.key.now) (length c.loop-c.yielded)
    (length (c.loop-c.yielded ++ c.in-Some.c ∷ [])) c.in-Some.c c.loop-c.hash _ _
    turn (length_push c.loop-c.yielded c.in-Some.c) refl c.loop-c.invariant

pub returns-clause-bucket : goal.returns-clause-bucket
unfolding bucket_of
returns-clause-bucket c =
    let end = YieldsList-end (YieldsList-from_chars c.args.key.now c.utf8.key cc) c.loop-c.yielded _
    c.loop-c.yielded_by _ _ c.in-None.is c.next.ensures.steps in
    let all = sym (at_drop_all (hash_after 0x0100_0193 c.loop-c.hash) (chars c.args.key.now) (length c.loop-c.yielded)
    (omega (arith, end.1))) ∙ c.loop-c.invariant in
    let size : c.len.result ≡ length c.args.self.now.newest.items = c.len.ensures ∙ c.args.self.now.newest.ok.0 in
    ap (λ n. c.loop-c.hash % n) size ∙ ap (λ h. h % length c.args.self.now.newest.items) all

pub returns-clause-inside : goal.returns-clause-inside
returns-clause-inside c =
    let size : c.len.result ≡ length c.args.self.now.newest.items = c.len.ensures ∙ c.args.self.now.newest.ok.0 in
    subst (λ n. c.loop-c.hash % c.len.result < n) size (mod_below c.loop-c.hash c.len.result (subst (λ n. 0 < n) (sym size) c.requires))
