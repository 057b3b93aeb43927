use Rattle.std.proofs.Common.{Ok, sym, ap, ◌∙◌}
use Rattle.conf_state.{proofs.{Prelude.chars, DraftSteps.is_cut}, specs.{BaseTexts.entries_length, Configs.cut_from, Drafts.drafted}}
use Rattle.conf_state.specs.States.{cut_config}
use Rattle.conf_state.proofs.draft.OnDraftEditor.remove.Goals as goal

pub returns : goal.returns
returns g c =
    let old = c.args.target.now in
    let es = g.O.Origin.configs c.args.self.now.origin.now in
    let cut = is_cut old (record {
      removed = c.insert.new.self;
      touched = c.remove.new.self;
      length = c.length_without-length.result;
    }) c.args.name
    c.requires.good (c.remove.ensures ∙ ap (λ bs. cut_from bs old.touched) c.deref-2.ensures) c.in_ok-insert.ensures.keys in
    let made = cut.made es c.requires.within.distinct in
    record {
      ok = ap Ok (sym made);
      draft = record {
        good = cut.draft;
        counted = c.length_without-length.ensures
            ∙ ap (λ bs. entries_length (cut_config (drafted es old) (chars bs))) c.deref.ensures
            ∙ ap entries_length (sym made);
        within = c.requires.within;
      };
      refused = tt;
    }
