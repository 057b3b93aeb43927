use Rattle.std.proofs.Common.{◌∙◌}
use Rattle.conf_state.specs.{Commands.text_of, Drafts.drafted}
use Rattle.conf_state.proofs.draft.OnDraftEditor.edit.Goals as goal

pub length_changed-requires : goal.length_changed-requires
length_changed-requires g c =
    let es = g.O.Origin.configs c.args.self.now.origin.now in (
      drafted es c.args.target.now,
      drafted es c.edit_uncounted.new.self,
      text_of c.args.name,
      c.in_ok-change.ensures.length ∙ c.requires.ready.counted,
      c.in_ok-change.ensures.changes,
    )

pub returns : goal.returns
returns g c =
    let es = g.O.Origin.configs c.args.self.now.origin.now in
    let good = c.in_ok-change.ensures.draft in
    record {
      ok = c.in_ok-change.ensures.ok;
      draft = record {
        good = record { plain = good.plain; configs = good.configs; distinct = good.distinct; removed = good.removed };
        counted = c.in_ok-target.ensures (drafted es c.args.target.now) (drafted es c.edit_uncounted.new.self) (text_of c.args.name)
            (c.in_ok-change.ensures.length ∙ c.requires.ready.counted) c.in_ok-change.ensures.changes;
        within = c.requires.ready.within;
      };
      refused = tt;
    }
