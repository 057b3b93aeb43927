use Rattle.std.proofs.Common.{◌≡◌, Ok, string_bytes, subst, sym, ap, ◌∙◌}
use Rattle.conf_state.proofs.{Prelude.{IsUtf8-string_bytes, chars, tree_of}, DraftSteps.{put-made, put-kept}, EntryLemmas.put_under-named}
use Rattle.conf_state.{proofs.{EntryLemmas.plain_put_under, NameLemmas.good_name-ascii}, specs.{BaseTexts.entries_length, Commands.text_of}}
use Rattle.conf_state.specs.{Drafts.drafted, Kept.{entries_of, ArePlain}, States.put_config}
use Rattle.conf_state.proofs.draft.OnDraftEditor.put.Goals as goal

pub returns : goal.returns
returns g c =
    let old = c.args.target.now in
    let touched = c.put.new.self in
    let length = c.in_ok-length.length in
    let es = g.O.Origin.configs c.args.self.now.origin.now in
    let name = text_of c.args.name in
    let t = tree_of c.args.config in
    let of = c.requires.ready in
    let utf8 = IsUtf8-string_bytes c.args.name in
    let ascii = good_name-ascii (string_bytes c.args.name) utf8 c.requires.named in
    let seen : entries_of touched ≡ put_config (entries_of old.touched) name t =
    ap entries_of c.in_ok-put.ensures.ok ∙ put_under-named c.args.name utf8 c.args.config old.touched of.good.plain in
    let made = put-made old touched length name t of.good seen es in
    record {
      ok = ap Ok (sym made);
      draft = record {
        good = put-kept old touched length name t of.good seen
            (subst ArePlain (sym c.in_ok-put.ensures.ok) (plain_put_under c.args.name c.args.config old.touched ascii of.good.plain))
            c.requires.named c.requires.within;
        counted = c.in_ok-length.ensures
            ∙ ap (λ bs. entries_length (put_config (drafted es old) (chars bs) t)) c.deref.ensures
            ∙ ap entries_length (sym made);
        within = of.within;
      };
      refused = tt;
    }
