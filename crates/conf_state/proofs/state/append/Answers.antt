use Rattle.std.proofs.Common.{string_bytes, ap, sym, subst, ◌∙◌, min}
use Rattle.conf_state.proofs.{Prelude.{chars, IsUtf8-string_bytes, tree_of}, EntryLemmas.{put_under-named, plain_put_under}}
use Rattle.conf_state.{proofs.NameLemmas.good_name-ascii, specs.{BaseTexts.entry_length, Commands.text_of, Kept.{ArePlain, entries_of}}}
use Rattle.conf_state.specs.Kept.{IsFit, IsUnfit}
use Rattle.conf_state.proofs.state.append.Goals as goal

pub returns : goal.returns
returns c =
    let es = c.args.configs.now in
    let utf8 = IsUtf8-string_bytes c.args.name in
    let fit : IsFit (entries_of es) (text_of c.args.name) (tree_of c.args.config) =
    subst (λ bs. IsFit (entries_of es) (chars bs) (tree_of c.args.config)) c.deref.ensures (c.is_fit.ensures.fit c.if-not-is_fit.false) in
    let ok = c.in_ok-put.ensures.ok in
    record {
      named = fit.named;
      within = fit.within;
      absent = fit.absent;
      entries = ap entries_of ok ∙ put_under-named c.args.name utf8 c.args.config es c.requires;
      plain = subst ArePlain (sym ok) (plain_put_under c.args.name c.args.config es
          (good_name-ascii (string_bytes c.args.name) utf8 fit.named) c.requires);
      bytes = c.entry_length-length.ensures ∙ ap
          (λ bs. min (entry_length (chars bs) (tree_of c.args.config)) 18446744073709551615) c.deref-2.ensures;
    }

pub returns-then-not-is_fit : goal.returns-then-not-is_fit
returns-then-not-is_fit c =
    subst (λ bs. IsUnfit (entries_of c.args.configs.now) (chars bs) (tree_of c.args.config)) c.deref.ensures
    (c.is_fit.ensures.unfit c.if-not-is_fit.true)
