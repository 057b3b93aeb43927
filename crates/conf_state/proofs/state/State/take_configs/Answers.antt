use Rattle.std.proofs.Common.{◌≡◌, [], refl, sym, ap, subst, ◌∙◌}
use Rattle.conf_state.specs.{Drafts.{drafted, IsDraftOf}, Kept.{entries_of, IsKept}, declared.draft.Draft.Draft}
use Rattle.conf_state.proofs.{StateLemmas.kept_nothing, state.State.take_configs.Goals.After-new-2, TakeLemmas.{whole-draft, whole-drafted}}
use Rattle.conf_state.proofs.TakeLemmas.{whole-counted}
use Rattle.conf_state.proofs.state.State.take_configs.Goals as goal

abbrev taken : After-new-2 → Draft
taken c = record { removed = c.new-2.result; touched = c.replace-touched.result; length = c.replace-length.result }

nothing : (c : After-new-2) → c.replace-touched.new.dest ≡ []
nothing c = c.replace-touched.ensures.after ∙ c.new.ensures

pub invariant_of-self : goal.invariant_of-self
invariant_of-self c =
    subst (λ es. IsKept es c.self.inside.count c.replace-length.new.dest) (sym (nothing c))
    (subst (IsKept [] c.self.inside.count) (sym c.replace-length.ensures.after)
    (kept_nothing c.self.inside.count c.self.invariant.state.numbered))

pub returns-clause-draft : goal.returns-clause-draft
returns-clause-draft c =
    subst (λ es. IsDraftOf (entries_of es) (taken c)) (sym (nothing c))
    (record {
      good = whole-draft c.self.inside.configs c.self.inside.count c.self.inside.entries c.self.invariant
          (taken c) c.new-2.ensures.empty c.replace-touched.ensures.value;
      counted = whole-counted c.self.inside.configs c.self.inside.count c.self.inside.entries c.self.invariant
          (taken c) c.new-2.ensures.empty c.replace-touched.ensures.value
          c.replace-length.ensures.value;
      within = record { configs = tt; distinct = refl };
    })

pub returns-clause-same : goal.returns-clause-same
returns-clause-same c =
    ap (λ es. drafted (entries_of es) (taken c)) (nothing c)
    ∙ whole-drafted c.self.inside.configs c.self.inside.count c.self.inside.entries c.self.invariant
    (taken c) c.new-2.ensures.empty c.replace-touched.ensures.value
    ∙ ap (λ s. s.configs) c.self.view_is
