-- The first value that can't be shown is why none is written.
use Rattle.std.proofs.{Common.{sym, subst, refl, ap, ◌∙◌, ◌++◌, append-nil, []}, lemmas.List.drop_all}
use Rattle.conf_tools.{proofs.{Prelude.chars, ShowLemmas.{lacks_here, lacks_later, shows_more}}, specs.Reads.{ShowsAll, pointers_of}}
use Rattle.conf_tools.specs.Reads.{tree_found, value_or_in}
use Rattle.conf_tools.proofs.reads.values_text.Goals as goal

pub returns-in-Err-clause-refused : goal.returns-in-Err-clause-refused
returns-in-Err-clause-refused c =
    let value_at = value_or_in c.args.missing (tree_found c.args.found) (chars c.args.name.now) in
    c.loop-pointer.invariant.1 c.in-Err.fault
    (lacks_here value_at c.args.form c.args.pointers.now c.loop-pointer.pointer-index _ c.loop-pointer-test.true
    c.in-Err.fault c.in-Err.ensures.refused)

pub loop-pointer-preserved : goal.loop-pointer-preserved
loop-pointer-preserved c =
    let value_at = value_or_in c.args.missing (tree_found c.args.found) (chars c.args.name.now) in
    let all = c.args.pointers.now in
    let i = c.loop-pointer.pointer-index in
    let text = c.loop-pointer.text.items in
    let new = c.in_ok-extend_from_slice-in-Ok.ensures.items ∙ ap (λ bytes. text ++ bytes) c.as_bytes.ensures.value in (
      shows_more value_at c.args.form all i _ c.loop-pointer-test.true text _ c.extend_from_slice.new.self.items
          c.loop-pointer.invariant.0 c.in-Ok.ensures.ok new,
      λ fault lacks. c.loop-pointer.invariant.1 fault
          (lacks_later value_at c.args.form all i _ c.loop-pointer-test.true _ c.in-Ok.ensures.ok fault lacks),
    )

pub returns-clause-ok : goal.returns-clause-ok
returns-clause-ok c =
    let value_at = value_or_in c.args.missing (tree_found c.args.found) (chars c.args.name.now) in
    let all = c.args.pointers.now in
    subst (ShowsAll value_at c.args.form (pointers_of all)) (append-nil c.loop-pointer.text.items)
    (c.loop-pointer.invariant.0 [] (subst (λ ps. ShowsAll value_at c.args.form (pointers_of ps) [])
    (sym (drop_all c.loop-pointer.pointer-index all c.loop-pointer-test.false)) refl))
