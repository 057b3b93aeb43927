-- What was written, compared with all of the text.
use Rattle.std.proofs.Common.{◌≡◌, ℕ, suc, Bool, true, List, [], ◌++◌, Some, ap, sym, ◌∙◌, add-one}
use Rattle.yaml_style.proofs.{Prelude.{chars, false≢true, append_cancel_right, is_empty}, ComparingLemmas.{shares, in_style, not_in_style}}
use Rattle.yaml_style.proofs.{SplitLemmas.no_chars, findings.style_line.Goals.else-written-via-then-written+else-is_empty_text}
use Rattle.yaml_style.{proofs.findings.style_line.Goals.else-written-via-else-written, specs.{Lines.breaks, Findings.common}}
use Rattle.yaml_style.proofs.findings.style_line.Goals as goal

pub returns-then-is_empty_text : goal.returns-then-is_empty_text
returns-then-is_empty_text c = λ styled all.
    let none = no_chars _ (sym c.is_empty_text.ensures ∙ c.if-is_empty_text.true) in
    sym (in_style (chars c.args.text.now) styled _ _ all c.if-written.true none)

pub before-requires : goal.before-requires
before-requires c =
    let text = chars c.args.text.now in
    let styled = c.requires.written.0 in
    let all = c.requires.written.1 in
    (common text styled, sym (shares text styled) ∙ ap (λ (s : List ℕ × Bool). common text styled ++ s.0) (sym all))

pub returns : goal.returns
returns c = λ styled all.
    let text = chars c.args.text.now in
    let written = c.args.written.now in
    let left = chars written.rest.now in
    let differs : written.agrees ≡ true → left ≡ [] → ⊥ = λ held none. elim c.else-written.branch [
      | else-written-via-then-written+else-is_empty_text w ↦ absurd
          (false≢true (sym w.if-is_empty_text.false ∙ w.is_empty_text.ensures ∙ ap is_empty none))
      | else-written-via-else-written w ↦ absurd (false≢true (sym w.if-written.false ∙ held))
    ] in
    let parts : text ≡ common text styled ++ left = sym (shares text styled)
    ∙ ap (λ (s : List ℕ × Bool). common text styled ++ s.0) (sym all) in
    let same = append_cancel_right (chars c.before-2.result.now) (common text styled) left (sym c.before-2.ensures.parts ∙ parts) in
    ap (λ n. Some n) (add-one c.break_count.result ∙ ap suc (c.break_count.ensures.count ∙ ap breaks same))
    ∙ sym (not_in_style text styled left _ all differs)
