use Rattle.std.proofs.Common.{◌≡◌, ℕ, ◌+◌, ◌-◌, ◌<◌, ◌≤◌, List, arith, ap, sym, ◌∙◌, subst, get_or, length}
use Rattle.yaml_scan.specs.{Markers.sign_of, ScanPlaces.ends_word_byte}
use Rattle.yaml_scan.proofs.ByteSigns.{AreMarkerSigns, ascii_mark, marker_by_signs, marker_false, word_ends, word_ends_by}
use Rattle.yaml_scan.proofs.signs.is_marker_of.Goals as goal

pub returns-then-bytes-at-lt3 : goal.returns-then-bytes-at-lt3
returns-then-bytes-at-lt3 c =
    marker_false c.args.text.now c.args.at (sign_of c.args.marker) (ascii_mark c.args.marker) c.utf8.text c.requires
    (λ h. let within = h.within in omega (arith, c.as_bytes-bytes.ensures.len))

-- a sign of the marker is missing
missing : (bs text : List ℕ) (k sign marker : ℕ) → bs ≡ text → sign ≡ marker → (get_or bs k 0 ≡ sign → ⊥) → get_or text k 0 ≡ marker → ⊥
missing bs text k sign marker same is other h = other (ap (λ x. get_or x k 0) same ∙ h ∙ sym is)

pub returns-then-bytes-at : goal.returns-then-bytes-at
returns-then-bytes-at c =
    marker_false c.args.text.now c.args.at (sign_of c.args.marker) (ascii_mark c.args.marker) c.utf8.text c.requires
    (λ h. missing _ _ c.args.at _ _ c.as_bytes-bytes.ensures.value c.marker_sign-sign.ensures c.if-bytes-at.true h.one)

pub returns-then-bytes-at-2 : goal.returns-then-bytes-at-2
returns-then-bytes-at-2 c =
    marker_false c.args.text.now c.args.at (sign_of c.args.marker) (ascii_mark c.args.marker) c.utf8.text c.requires
    (λ h. missing _ _ (c.args.at + 1) _ _ c.as_bytes-bytes.ensures.value c.marker_sign-sign.ensures c.if-bytes-at-2.true h.two)

pub returns-then-bytes-at-3 : goal.returns-then-bytes-at-3
returns-then-bytes-at-3 c =
    marker_false c.args.text.now c.args.at (sign_of c.args.marker) (ascii_mark c.args.marker) c.utf8.text c.requires
    (λ h. missing _ _ (c.args.at + 2) _ _ c.as_bytes-bytes.ensures.value c.marker_sign-sign.ensures c.if-bytes-at-3.true h.three)

signs : (bs text : List ℕ) (at sign marker : ℕ) → bs ≡ text → sign ≡ marker → 3 ≤ length bs - at
    → get_or bs at 0 ≡ sign → get_or bs (at + 1) 0 ≡ sign → get_or bs (at + 2) 0 ≡ sign
    → AreMarkerSigns text at marker
signs bs text at sign marker same is size one two three =
    subst (λ x. AreMarkerSigns x at marker) same (record { within = omega arith; one = one ∙ is; two = two ∙ is; three = three ∙ is })

pub returns-then-end-bytes : goal.returns-then-end-bytes
returns-then-end-bytes c =
    let there = marker_by_signs c.args.text.now c.args.at (sign_of c.args.marker) (ascii_mark c.args.marker) c.utf8.text
    (signs _ _ c.args.at _ _ c.as_bytes-bytes.ensures.value c.marker_sign-sign.ensures c.if-bytes-at-lt3.false
    c.if-bytes-at.false c.if-bytes-at-2.false c.if-bytes-at-3.false) in
    sym (there.0 ∙ word_ends c.args.text.now (c.args.at + 3) (omega (arith, c.as_bytes-bytes.ensures.len)))

pub returns : goal.returns
returns c =
    let there = marker_by_signs c.args.text.now c.args.at (sign_of c.args.marker) (ascii_mark c.args.marker) c.utf8.text
    (signs _ _ c.args.at _ _ c.as_bytes-bytes.ensures.value c.marker_sign-sign.ensures c.if-bytes-at-lt3.false
    c.if-bytes-at.false c.if-bytes-at-2.false c.if-bytes-at-3.false) in
    let within : c.args.at + 3 < length c.args.text.now = omega (arith, c.as_bytes-bytes.ensures.len) in
    c.ends_word.ensures ∙ ap (λ x. ends_word_byte (get_or x (c.args.at + 3) 0)) c.as_bytes-bytes.ensures.value
    ∙ sym (there.0 ∙ word_ends_by c.args.text.now (c.args.at + 3) c.utf8.text there.1 within)
