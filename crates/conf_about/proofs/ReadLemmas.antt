-- The text of an about is read back.
use Rattle.std.{proofs.Common.{◌≡◌, ℕ, ◌≤◌, true, List, [], ◌∷◌, refl, sym, ap, subst, ◌∙◌, arith}, specs.Prelude.encode_utf8_all}
use lib.Utf8.{scalar}
use Rattle.{yaml_recognizers.specs.StyleLaws.StyleReads, conf_about.proofs.Prelude.{and_parts, and_from, nat_tests, chars-encodes}}
use Rattle.conf_about.proofs.Prelude.{list_all, all_scalars, code_point, members_distinct-parts, keys_differ, values_distinct, Limits, Good}
use Rattle.conf_about.proofs.{Prelude.{Gives, style_text, byte_len, IsText, Tree, depth, distinct, IsRead}, FaultLemmas.pairs-shallow}
use Rattle.conf_about.{proofs.FaultLemmas.pairs-distinct, specs.{Abouts.IsAbout, ReadBack.{AdmitsAbouts, AboutsAreRead}}}

text-scalars : (cs : List ℕ) → IsText cs → all_scalars cs ≡ true
text-scalars [] is = refl
text-scalars (c ∷ cs) is =
    let parts : (code_point c ≡ true) × (list_all code_point cs ≡ true) = and_parts _ _ is in
    and_from _ _ (here c parts.0) (text-scalars cs parts.1)
  where
    here : (c : ℕ) → code_point c ≡ true → scalar c ≡ true
    here c e = grind (arith, nat_tests)

-- an about is a good tree
pub about-good : (t : Tree) (limits : Limits) → IsAbout t → AdmitsAbouts limits → Good t limits
about-good t limits about admits =
    let ms = about.members in
    let shallow = pairs-shallow ms about.pairs in
    let deep = ap depth about.is in
    record {
      texts = about.texts;
      keys = ap distinct about.is ∙ members_distinct-parts ms ∙ and_from (keys_differ ms) (values_distinct ms) about.differ
          (pairs-distinct ms about.pairs);
      deep = omega (arith, shallow, deep, admits.depth);
      long = omega (arith, about.short, admits.style);
    }

-- bytes give one tree at most
abbrev pub BytesGiveOne : Type 0
BytesGiveOne = (bytes : List ℕ) (limits : Limits) (t u : Tree) → IsRead bytes limits t → IsRead bytes limits u → t ≡ u

pub abouts-read : StyleReads → BytesGiveOne → AboutsAreRead
abouts-read style_reads give_one t limits about admits =
    let short : byte_len (style_text t) ≤ limits.bytes = omega (arith, about.short, admits.bytes) in
    let gives : Gives (style_text t) limits t = style_reads t limits (about-good t limits about admits) short in
    let scalars = text-scalars (style_text t) gives.reads.source in
    let is : IsRead (encode_utf8_all (style_text t)) limits t = record {
      utf8 = (style_text t, (scalars, refl));
      gives = subst (λ cs. Gives cs limits t) (sym (chars-encodes (style_text t) scalars)) gives;
    } in
    record { reads = is; once = λ other reads. give_one (encode_utf8_all (style_text t)) limits other t reads is }
