-- The files of an invocation fit.
use Rattle.std.{proofs.Common.{◌≡◌, false, subst, sym, map}, specs.Prelude.codes}
use Rattle.{command_line.specs.Matches.{Given, texts_of}, conf_words.specs.Invocations.{FilesAlwaysFit, FilesFit, HasFittingFiles, IsAsked}}
use Rattle.conf_words.specs.{Invocations.{formatting_in, is_wrong}, declared.invocation.Invocation.{Invocation, TheVariants.Format}}
use Rattle.conf_words.proofs.NameLemmas.{fitting}
use Rattle.conf_words.specs.declared.subcommand.Subcommand.TheVariants as word

fit_formatted : (given : Given) (invocation : Invocation) → is_wrong word.Format given ≡ false
    → IsAsked word.Format given invocation → HasFittingFiles invocation
fit_formatted given (Format formatting files reporting) right is =
    let fits = fitting (formatting_in given) (texts_of given (codes "FILE")) right in
    subst (λ f. FilesFit f (map (λ file. file.now) files.items)) (sym is.0)
    (subst (λ names. FilesFit (formatting_in given) names) (sym is.1) fits)
fit_formatted given _ right is = absurd is

pub always_fit : FilesAlwaysFit
always_fit word.Format given invocation right is = fit_formatted given invocation right is
always_fit subcommand given (Format formatting files reporting) right is = absurd is
always_fit subcommand given _ right is = tt
