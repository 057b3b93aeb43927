use Rattle.std.proofs.Common.{◌≡◌, ℕ, ◌<◌, min, option_copied, sym, ap, ◌∙◌, arith}
use Rattle.conf_state.proofs.{Prelude.{chars, byte_len, tree_of}, DraftLemmas.{named-cut_all-gone, named-cut_all-other}, DraftSteps.listed}
use Rattle.conf_state.{proofs.OriginLemmas.{held-there, not-held, there-length}, specs.Drafts.{drafted, texts_of}}
use Rattle.conf_state.specs.EntryTexts.{lines_if_there, entry_named}
use Rattle.conf_state.proofs.draft.Draft.length_of.Goals as goal

pub returns-in-Some : goal.returns-in-Some
returns-in-Some g c =
    let es = g.O.Origin.configs c.args.origin.now in
    let draft = c.args.self.now in
    let held = sym c.get.ensures ∙ ap option_copied c.in-Some.is in
    let there = held-there es draft c.requires c.args.name.now c.utf8.name c.in-Some.config.now held in
    c.entry_length.ensures
    ∙ ap (λ n. min n 18446744073709551615) (there-length es draft c.requires (chars c.args.name.now) (tree_of c.in-Some.config.now) there)

pub returns-then-contains : goal.returns-then-contains
returns-then-contains g c =
    let es = g.O.Origin.configs c.args.origin.now in
    let draft = c.args.self.now in
    let name = chars c.args.name.now in
    let missing = sym c.get.ensures ∙ ap option_copied c.in_default.is in
    let keys = draft.removed.keys in
    let among = sym (listed c.args.name.now c.utf8.name keys) ∙ sym c.contains.ensures ∙ c.if-contains.true in
    ap (λ found. min (byte_len (lines_if_there name found)) 18446744073709551615)
    (sym (not-held es draft c.requires c.args.name.now c.utf8.name missing
    ∙ named-cut_all-gone (texts_of keys) es name among c.requires.within.distinct))

fits : (n m : ℕ) → n < 18446744073709551616 → n ≡ m → n ≡ min m 18446744073709551615
fits n m small is = omega (arith, small, is)

pub returns : goal.returns
returns g c =
    let es = g.O.Origin.configs c.args.origin.now in
    let draft = c.args.self.now in
    let name = chars c.args.name.now in
    let missing = sym c.get.ensures ∙ ap option_copied c.in_default.is in
    let keys = draft.removed.keys in
    let other = sym (listed c.args.name.now c.utf8.name keys) ∙ sym c.contains.ensures ∙ c.if-contains.false in
    fits c.length_of.result (byte_len (entry_named (drafted es draft) name)) (omega arith)
    (c.length_of.ensures ∙ ap (λ found. byte_len (lines_if_there name found))
    (sym (not-held es draft c.requires c.args.name.now c.utf8.name missing ∙ named-cut_all-other (texts_of keys) es name other)))
