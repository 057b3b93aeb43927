-- What a log writes of an about as JSON.
use Rattle.std.proofs.Common.{◌≡◌, ◌≤◌, [], ◌∷◌, codes, refl, arith, ap, ◌∙◌}
use Rattle.{conf_history.{proofs.Prelude.{chars, ascii}, specs.AboutKeys.usual_keys}, conf_about.proofs.ReadLemmas.about-good}
use Rattle.{conf_about.specs.Abouts.IsAbout, yaml_grammar.specs.Trees.{Tree, depth}, yaml_data.specs.OwnLimits.own_limits}

-- the keys of the code are of ASCII, so their bytes are their characters
pub usual-chars : chars (codes "by") ∷ chars (codes "when") ∷ chars (codes "why") ∷ [] ≡ usual_keys
usual-chars =
    ap (λ by. by ∷ chars (codes "when") ∷ chars (codes "why") ∷ []) (ascii (codes "by") refl)
    ∙ ap (λ when. codes "by" ∷ when ∷ chars (codes "why") ∷ []) (ascii (codes "when") refl)
    ∙ ap (λ why. codes "by" ∷ codes "when" ∷ why ∷ []) (ascii (codes "why") refl)

-- an about has less depth than a configuration may have
pub about-deep : (t : Tree) → IsAbout t → depth t ≤ own_limits.depth
about-deep t about =
    let good = about-good t own_limits about (record { bytes = omega arith; depth = omega arith; style = omega arith }) in
    good.deep
