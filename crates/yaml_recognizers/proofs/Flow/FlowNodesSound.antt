-- What the recognizer of flow nodes reads is at the start of the text, and fits.
use Rattle.std.{proofs.Common.{ap, append_assoc, inl, inr, refl, subst, sym, ◌∙◌, ◌≡◌}, specs.Prelude.{Bool, List, None, Option, Some, []}}
use Rattle.std.specs.Prelude.{cond, false, is_some, not, suc, true, zero, ℕ, ◌&&◌, ◌++◌, ◌==◌, ◌||◌, ◌∷◌}
use Rattle.yaml_recognizers.proofs.Prelude.{and_from, and_parts, eqb-true, false≢true, or_parts, Entries, Entry, Flow, Value, absent, empty}
use Rattle.yaml_recognizers.proofs.Prelude.{entries_text, entry, entry_text, flow_text, given, is_plain, last, map, next, none, scalar, seq}
use Rattle.yaml_recognizers.proofs.Prelude.{single_pair, value_text, FlowContext, Scalar, in_flow, one_line, safe, scalar_fits, scalar_text}
use Rattle.yaml_recognizers.proofs.{Prelude.{Sep, gap_text, first, starts_line}, Basics.{Prefixes.head_is, Reading.{chosen, closed_parts}}}
use Rattle.yaml_recognizers.proofs.{Basics.Reading.{if_fits_parts, none_some, on_parts, some_parts}, Separation.GapsSound.gap_sound}
use Rattle.yaml_recognizers.specs.{CanonicalComments.canonical_gap, Ends.is_colon, Prefixes.past, Reading.Read, Scalars.ReadsScalars}
use Rattle.yaml_recognizers.specs.CanonicalFlowNodes.{canonical_entries, canonical_entry, canonical_flow, canonical_value}
use Rattle.yaml_recognizers.specs.FlowNodes.{asked_with, ends_entry, flow_ends, is_asked, key_is_short, read_entries, read_entry, read_flow}
use Rattle.yaml_recognizers.specs.{FlowNodes.read_value, Gaps.{GapRead, read_gap}}

-- an asked key starts with `?`
pub asked_head : (d : FlowContext) (text : List ℕ) → is_asked d text ≡ true → text ≡ 63 ∷ past text
asked_head d [] h = absurd (false≢true h)
asked_head d (c ∷ cs) h = ap (λ x. x ∷ cs) (eqb-true c 63 (and_parts _ _ h).0)

-- the `:` of a value, and what comes after it
pub colon_parts : (d : FlowContext) (after_plain : Bool) (text : List ℕ) → is_colon d after_plain text ≡ true
    → (text ≡ 58 ∷ past text) × (not (after_plain && first (safe d) (past text)) ≡ true)
colon_parts d after_plain [] h = absurd (false≢true h)
colon_parts d after_plain (c ∷ cs) h = let p : (c == 58 ≡ true) × (not (after_plain && first (safe d) cs) ≡ true) =
    and_parts _ _ h in (ap (λ x. x ∷ cs) (eqb-true c 58 p.0), p.1)

-- nothing more is no change
or_false : (b : Bool) → b ≡ b || false
or_false true = refl
or_false false = refl

-- the tests of an entry hold, whether it is a single pair or not
pair_fits_all : (pair o a b : Bool) (v : Bool → Bool) → cond pair (a && v true) true ≡ true → b ≡ true → v o ≡ true
    → cond pair a b && v (o || pair) ≡ true
pair_fits_all true true a b v h k l = and_from _ _ (and_parts _ _ h).0 l
pair_fits_all true false a b v h k l = h
pair_fits_all false o a b v h k l = and_from _ _ k (subst (λ (x : Bool). v x ≡ true) (or_false o) l)

-- after a plain key comes whitespace, if a value does
has_white : (a p : Bool) → p && not a ≡ false → a || not p ≡ true
has_white true p h = refl
has_white false true h = absurd (false≢true (sym h))
has_white false false h = refl

-- the entries are canonical at the start of the text, before the rest
abbrev pub EntriesSound : ℕ → FlowContext → Bool → Bool → List ℕ → List ℕ → Entries → Type 0
EntriesSound n d in_seq bol text rest es = (text ≡ entries_text es ++ rest) × (canonical_entries es n d in_seq bol rest ≡ true)

-- the same of an entry
abbrev pub EntrySound : ℕ → FlowContext → Bool → Bool → List ℕ → List ℕ → Entry → Type 0
EntrySound n d in_seq bol text rest e = (text ≡ entry_text e ++ rest) × (canonical_entry e n d in_seq bol rest ≡ true)

-- the same of a value
abbrev pub ValueSound : ℕ → FlowContext → Bool → List ℕ → List ℕ → Value → Type 0
ValueSound n d after_plain text rest v = (text ≡ value_text v ++ rest) × (canonical_value v n d (one_line d) after_plain rest ≡ true)

-- what is read as a flow node
abbrev pub FlowOfAt : ℕ → FlowContext → Bool → List ℕ → Flow → List ℕ → Type 0
FlowOfAt n c bol text f rest = (text ≡ flow_text f ++ rest) × (canonical_flow f n c bol rest ≡ true)

module _ (read_scalar : ℕ → FlowContext → Bool → List ℕ → Read Scalar) (scalars : ReadsScalars read_scalar) where
  -- the same of a flow node
  abbrev pub FlowFound : ℕ → FlowContext → Bool → List ℕ → List ℕ → Flow → Type 0
  FlowFound n c bol text rest f = (text ≡ flow_text f ++ rest) × (canonical_flow f n c bol rest ≡ true)
      × (flow_ends scalars.ends n c f rest ≡ true)

  mutual
    unfolding read_flow

    -- a flow node that is read is canonical there
    pub flow_sound : (fuel n : ℕ) (c : FlowContext) (bol : Bool) (text : List ℕ) (f : Flow) (rest : List ℕ)
        → read_flow read_scalar fuel n c bol text ≡ Some (f, rest) → FlowFound n c bol text rest f
    flow_sound zero n c bol text f rest h = absurd (none_some _ h)
    flow_sound (suc fuel) n c bol text f rest h =
        let gap : GapRead = read_gap n (one_line c) (past text) in
        let g : (past text ≡ gap_text gap.0 ++ gap.1) × (canonical_gap n (one_line c) gap.0 gap.1 ≡ true) =
        gap_sound n (one_line c) (past text) in
        elim (chosen (first (λ x. x == 91) text) _ _ _ h) [
          | inl e ↦ (let p = on_parts (read_entries read_scalar fuel n (in_flow c) true
              (starts_line false (gap_text gap.0)) 93 gap.1) _ _ e.1 in
              let q = closed_parts 93 (seq gap.0 p.0) p.1 f rest p.3 in
              let j : EntriesSound n (in_flow c) true (starts_line false (gap_text gap.0)) gap.1 p.1 p.0 =
              entries_sound fuel n (in_flow c) true _ 93 gap.1 p.0 p.1 p.2 in
              let after : gap.1 ≡ entries_text p.0 ++ (93 ∷ rest) = j.0 ∙ ap (λ (t : List ℕ). entries_text p.0 ++ t) q.1 in
              let regrouped : flow_text (seq gap.0 p.0) ++ rest
              ≡ 91 ∷ (gap_text gap.0 ++ (entries_text p.0 ++ (93 ∷ rest))) = simp append_assoc in
              subst (FlowFound n c bol text rest) q.0 (
                head_is 91 text e.0 ∙ (ap (λ (t : List ℕ). 91 ∷ t) g.0
                    ∙ (ap (λ (t : List ℕ). 91 ∷ (gap_text gap.0 ++ t)) after ∙ sym regrouped)),
                and_from _ _ (subst (λ (t : List ℕ). canonical_gap n (one_line c) gap.0 t ≡ true) after g.1)
                    (subst (λ (t : List ℕ). canonical_entries p.0 n (in_flow c) true
                    (starts_line false (gap_text gap.0)) t ≡ true) q.1 j.1),
                refl,
              ))
          | inr i ↦ elim (chosen (first (λ x. x == 123) text) _ _ _ i.1) [
            | inl e ↦ (let p = on_parts (read_entries read_scalar fuel n (in_flow c) false
                (starts_line false (gap_text gap.0)) 125 gap.1) _ _ e.1 in
                let q = closed_parts 125 (map gap.0 p.0) p.1 f rest p.3 in
                let j : EntriesSound n (in_flow c) false (starts_line false (gap_text gap.0)) gap.1 p.1 p.0 =
                entries_sound fuel n (in_flow c) false _ 125 gap.1 p.0 p.1 p.2 in
                let after : gap.1 ≡ entries_text p.0 ++ (125 ∷ rest) = j.0 ∙ ap (λ (t : List ℕ). entries_text p.0 ++ t) q.1 in
                let regrouped : flow_text (map gap.0 p.0) ++ rest
                ≡ 123 ∷ (gap_text gap.0 ++ (entries_text p.0 ++ (125 ∷ rest))) = simp append_assoc in
                subst (FlowFound n c bol text rest) q.0 (
                  head_is 123 text e.0 ∙ (ap (λ (t : List ℕ). 123 ∷ t) g.0
                      ∙ (ap (λ (t : List ℕ). 123 ∷ (gap_text gap.0 ++ t)) after ∙ sym regrouped)),
                  and_from _ _ (subst (λ (t : List ℕ). canonical_gap n (one_line c) gap.0 t ≡ true) after g.1)
                      (subst (λ (t : List ℕ). canonical_entries p.0 n (in_flow c) false
                      (starts_line false (gap_text gap.0)) t ≡ true) q.1 j.1),
                  refl,
                ))
            | inr e ↦ (let p = on_parts (read_scalar n c bol text) _ _ e.1 in
                let q = some_parts (scalar p.0) f p.1 rest p.3 in
                let j = scalars.sound n c bol text p.0 p.1 p.2 in
                subst (FlowFound n c bol text rest) q.0 (
                  j.0 ∙ ap (λ (t : List ℕ). scalar_text p.0 ++ t) q.1,
                  subst (λ (t : List ℕ). scalar_fits n c bol p.0 t ≡ true) q.1 j.1,
                  subst (λ (t : List ℕ). scalars.ends n c p.0 t ≡ true) q.1 j.2,
                ))
          ]
        ]

    entries_sound : (fuel n : ℕ) (d : FlowContext) (in_seq bol : Bool) (close : ℕ) (text : List ℕ) (es : Entries) (rest : List ℕ)
        → read_entries read_scalar fuel n d in_seq bol close text ≡ Some (es, rest) → EntriesSound n d in_seq bol text rest es
    entries_sound zero n d in_seq bol close text es rest h = absurd (none_some _ h)
    entries_sound (suc fuel) n d in_seq bol close text es rest h =
        elim (chosen (first (λ x. x == close) text) _ _ _ h) [
          | inl e ↦ (let q = some_parts none es text rest e.1 in subst (EntriesSound n d in_seq bol text rest) q.0 (q.1, refl))
          | inr i ↦ (let p = on_parts (read_entry read_scalar fuel n d in_seq bol text) _ _ i.1 in
              let b : GapRead = read_gap n (one_line d) p.1 in
              let j : EntrySound n d in_seq bol text p.1 p.0 = entry_sound fuel n d in_seq bol text p.0 p.1 p.2 in
              let g : (p.1 ≡ gap_text b.0 ++ b.1) × (canonical_gap n (one_line d) b.0 b.1 ≡ true) = gap_sound n (one_line d) p.1 in
              elim (chosen (first (λ x. x == 44) b.1) _ _ _ p.3) [
                | inl e ↦ (let a : GapRead = read_gap n (one_line d) (past b.1) in
                    let g2 : (past b.1 ≡ gap_text a.0 ++ a.1) × (canonical_gap n (one_line d) a.0 a.1 ≡ true) =
                    gap_sound n (one_line d) (past b.1) in
                    let k = on_parts (read_entries read_scalar fuel n d in_seq (starts_line false (gap_text a.0)) close a.1) _ _ e.1 in
                    let q = some_parts (next p.0 b.0 a.0 k.0) es k.1 rest k.3 in
                    let m : EntriesSound n d in_seq (starts_line false (gap_text a.0)) a.1 k.1 k.0 =
                    entries_sound fuel n d in_seq _ close a.1 k.0 k.1 k.2 in
                    let rest_after : a.1 ≡ entries_text k.0 ++ rest = m.0 ∙ ap (λ (t : List ℕ). entries_text k.0 ++ t) q.1 in
                    let tail : List ℕ = gap_text a.0 ++ (entries_text k.0 ++ rest) in
                    let comma : b.1 ≡ 44 ∷ tail = head_is 44 b.1 e.0
                    ∙ (ap (λ (t : List ℕ). 44 ∷ t) g2.0 ∙ ap (λ (t : List ℕ). 44 ∷ (gap_text a.0 ++ t)) rest_after) in
                    let after : p.1 ≡ gap_text b.0 ++ (44 ∷ tail) = g.0 ∙ ap (λ (t : List ℕ). gap_text b.0 ++ t) comma in
                    let regrouped : entries_text (next p.0 b.0 a.0 k.0) ++ rest
                    ≡ entry_text p.0 ++ (gap_text b.0 ++ (44 ∷ tail)) = simp append_assoc in
                    subst (EntriesSound n d in_seq bol text rest) q.0 (
                      j.0 ∙ (ap (λ (t : List ℕ). entry_text p.0 ++ t) after ∙ sym regrouped),
                      and_from _ _ (and_from _ _ (and_from _ _
                          (subst (λ (t : List ℕ). canonical_entry p.0 n d in_seq bol t ≡ true) after j.1)
                          (subst (λ (t : List ℕ). canonical_gap n (one_line d) b.0 t ≡ true) comma g.1))
                          (subst (λ (t : List ℕ). canonical_gap n (one_line d) a.0 t ≡ true) rest_after g2.1))
                          (subst (λ (t : List ℕ). canonical_entries k.0 n d in_seq (starts_line false (gap_text a.0)) t ≡ true) q.1 m.1),
                    ))
                | inr e ↦ (let q = some_parts (last p.0 b.0) es b.1 rest e.1 in
                    let after : p.1 ≡ gap_text b.0 ++ rest = g.0 ∙ ap (λ (t : List ℕ). gap_text b.0 ++ t) q.1 in
                    let regrouped : entries_text (last p.0 b.0) ++ rest ≡ entry_text p.0 ++ (gap_text b.0 ++ rest) = simp append_assoc in
                    subst (EntriesSound n d in_seq bol text rest) q.0 (
                      j.0 ∙ (ap (λ (t : List ℕ). entry_text p.0 ++ t) after ∙ sym regrouped),
                      and_from _ _ (subst (λ (t : List ℕ). canonical_entry p.0 n d in_seq bol t ≡ true) after j.1)
                          (subst (λ (t : List ℕ). canonical_gap n (one_line d) b.0 t ≡ true) q.1 g.1),
                    ))
              ])
        ]

    -- so is an entry
    pub entry_sound : (fuel n : ℕ) (d : FlowContext) (in_seq bol : Bool) (text : List ℕ) (e : Entry) (rest : List ℕ)
        → read_entry read_scalar fuel n d in_seq bol text ≡ Some (e, rest) → EntrySound n d in_seq bol text rest e
    entry_sound zero n d in_seq bol text e rest h = absurd (none_some _ h)
    entry_sound (suc fuel) n d in_seq bol text e rest h =
        let a : GapRead = read_gap n (one_line d) (past text) in
        let g : (past text ≡ gap_text a.0 ++ a.1) × (canonical_gap n (one_line d) a.0 a.1 ≡ true) = gap_sound n (one_line d) (past text) in
        let value_at : Bool → List ℕ → Read Value = λ after_plain rest'. read_value read_scalar fuel n d after_plain rest' in
        let again : Option Sep → List ℕ → Read Flow =
        λ gap' rest'. read_flow read_scalar fuel n d (starts_line false (gap_text gap')) rest' in
        elim (chosen (is_asked d text) _ _ _ h) [
          | inl i ↦ (elim a.0 as (λ o. (past text ≡ gap_text o ++ a.1) → canonical_gap n (one_line d) o a.1 ≡ true
              → asked_with again value_at o a.1 ≡ Some (e, rest) → EntrySound n d in_seq bol text rest e) [
                | None ↦ λ x y z. absurd (none_some _ z)
                | Some sep ↦ λ x y z.
                    let p = on_parts (read_flow read_scalar fuel n d (starts_line false (gap_text (Some sep))) a.1) _ _ z in
                    let k = on_parts (read_value read_scalar fuel n d (is_plain p.0) p.1) _ _ p.3 in
                    let q = some_parts (entry (Some sep) p.0 k.0) e k.1 rest k.3 in
                    let j : FlowFound n d (starts_line false (gap_text (Some sep))) a.1 p.1 p.0 = flow_sound fuel n d _ a.1 p.0 p.1 p.2 in
                    let m : ValueSound n d (is_plain p.0) p.1 k.1 k.0 = value_sound fuel n d (is_plain p.0) p.1 k.0 k.1 k.2 in
                    let after : p.1 ≡ value_text k.0 ++ rest = m.0 ∙ ap (λ (t : List ℕ). value_text k.0 ++ t) q.1 in
                    let node : a.1 ≡ flow_text p.0 ++ (value_text k.0 ++ rest) = j.0 ∙ ap (λ (t : List ℕ). flow_text p.0 ++ t) after in
                    let regrouped : entry_text (entry (Some sep) p.0 k.0) ++ rest
                    ≡ 63 ∷ (gap_text (Some sep) ++ (flow_text p.0 ++ (value_text k.0 ++ rest))) = simp append_assoc in
                    subst (EntrySound n d in_seq bol text rest) q.0 (
                      asked_head d text i.0 ∙ (ap (λ (t : List ℕ). 63 ∷ t) x
                          ∙ (ap (λ (t : List ℕ). 63 ∷ (gap_text (Some sep) ++ t)) node ∙ sym regrouped)),
                      and_from _ _ (and_from _ _ (subst (λ (t : List ℕ). canonical_gap n (one_line d) (Some sep) t ≡ true) node y)
                          (subst (λ (t : List ℕ). canonical_flow p.0 n d (starts_line false (gap_text (Some sep))) t ≡ true) after j.1))
                          (subst (λ (b : Bool). canonical_value k.0 n d b (is_plain p.0) rest ≡ true)
                          (or_false (one_line d)) (subst (λ (t : List ℕ).
                          canonical_value k.0 n d (one_line d) (is_plain p.0) t ≡ true) q.1 m.1)),
                    )
              ]) g.0 g.1 i.1
          | inr i ↦ (let p = on_parts (read_flow read_scalar fuel n d bol text) _ _ i.1 in
              let k = on_parts (read_value read_scalar fuel n d (is_plain p.0) p.1) _ _ p.3 in
              let s = if_fits_parts (key_is_short n d in_seq bol None p.0 k.0 k.1) _ _ k.3 in
              let q = some_parts (entry None p.0 k.0) e k.1 rest s.1 in
              let j : FlowFound n d bol text p.1 p.0 = flow_sound fuel n d bol text p.0 p.1 p.2 in
              let m : ValueSound n d (is_plain p.0) p.1 k.1 k.0 = value_sound fuel n d (is_plain p.0) p.1 k.0 k.1 k.2 in
              let after : p.1 ≡ value_text k.0 ++ rest = m.0 ∙ ap (λ (t : List ℕ). value_text k.0 ++ t) q.1 in
              let regrouped : entry_text (entry None p.0 k.0) ++ rest ≡ flow_text p.0 ++ (value_text k.0 ++ rest) = simp append_assoc in
              let short : key_is_short n d in_seq bol None p.0 k.0 rest ≡ true =
              subst (λ (t : List ℕ). key_is_short n d in_seq bol None p.0 k.0 t ≡ true) q.1 s.0 in
              subst (EntrySound n d in_seq bol text rest) q.0 (
                j.0 ∙ (ap (λ (t : List ℕ). flow_text p.0 ++ t) after ∙ sym regrouped),
                pair_fits_all (single_pair in_seq None k.0) (one_line d) _ _ (λ b. canonical_value k.0 n d b (is_plain p.0) rest) short
                    (subst (λ (t : List ℕ). canonical_flow p.0 n d bol t ≡ true) after j.1)
                    (subst (λ (t : List ℕ). canonical_value k.0 n d (one_line d) (is_plain p.0) t ≡ true) q.1 m.1),
              ))
        ]

    value_sound : (fuel n : ℕ) (d : FlowContext) (after_plain : Bool) (text : List ℕ) (v : Value) (rest : List ℕ)
        → read_value read_scalar fuel n d after_plain text ≡ Some (v, rest) → ValueSound n d after_plain text rest v
    value_sound zero n d after_plain text v rest h = absurd (none_some _ h)
    value_sound (suc fuel) n d after_plain text v rest h =
        let b : GapRead = read_gap n (one_line d) text in
        let g : (text ≡ gap_text b.0 ++ b.1) × (canonical_gap n (one_line d) b.0 b.1 ≡ true) = gap_sound n (one_line d) text in
        elim (chosen (is_colon d after_plain b.1) _ _ _ h) [
          | inr i ↦ (let q = some_parts absent v text rest i.1 in subst (ValueSound n d after_plain text rest) q.0 (q.1, refl))
          | inl i ↦ (let a : GapRead = read_gap n (one_line d) (past b.1) in
              let g2 : (past b.1 ≡ gap_text a.0 ++ a.1) × (canonical_gap n (one_line d) a.0 a.1 ≡ true) =
              gap_sound n (one_line d) (past b.1) in
              let c : (b.1 ≡ 58 ∷ past b.1) × (not (after_plain && first (safe d) (past b.1)) ≡ true) = colon_parts d after_plain b.1 i.0 in
              elim (chosen (ends_entry a.1 || (after_plain && not (is_some a.0))) _ _ _ i.1) [
                | inl e ↦ (let q = some_parts (empty b.0) v (past b.1) rest e.1 in
                    let colon : b.1 ≡ 58 ∷ rest = c.0 ∙ ap (λ (t : List ℕ). 58 ∷ t) q.1 in
                    let regrouped : value_text (empty b.0) ++ rest ≡ gap_text b.0 ++ (58 ∷ rest) = simp append_assoc in
                    subst (ValueSound n d after_plain text rest) q.0 (
                      g.0 ∙ (ap (λ (t : List ℕ). gap_text b.0 ++ t) colon ∙ sym regrouped),
                      and_from _ _ (subst (λ (t : List ℕ). canonical_gap n (one_line d) b.0 t ≡ true) colon g.1)
                          (subst (λ (t : List ℕ). not (after_plain && first (safe d) t) ≡ true) q.1 c.1),
                    ))
                | inr e ↦ (let p = on_parts (read_flow read_scalar fuel n d (starts_line false (gap_text a.0)) a.1) _ _ e.1 in
                    let q = some_parts (given b.0 a.0 p.0) v p.1 rest p.3 in
                    let j : FlowFound n d (starts_line false (gap_text a.0)) a.1 p.1 p.0 = flow_sound fuel n d _ a.1 p.0 p.1 p.2 in
                    let node : a.1 ≡ flow_text p.0 ++ rest = j.0 ∙ ap (λ (t : List ℕ). flow_text p.0 ++ t) q.1 in
                    let colon : b.1 ≡ 58 ∷ (gap_text a.0 ++ (flow_text p.0 ++ rest)) = c.0
                    ∙ (ap (λ (t : List ℕ). 58 ∷ t) g2.0 ∙ ap (λ (t : List ℕ). 58 ∷ (gap_text a.0 ++ t)) node) in
                    let regrouped : value_text (given b.0 a.0 p.0) ++ rest
                    ≡ gap_text b.0 ++ (58 ∷ (gap_text a.0 ++ (flow_text p.0 ++ rest))) = simp append_assoc in
                    subst (ValueSound n d after_plain text rest) q.0 (
                      g.0 ∙ (ap (λ (t : List ℕ). gap_text b.0 ++ t) colon ∙ sym regrouped),
                      and_from _ _ (and_from _ _ (and_from _ _ (subst (λ (t : List ℕ). canonical_gap n (one_line d) b.0 t ≡ true) colon g.1)
                          (has_white (is_some a.0) after_plain (or_parts _ _ e.0).1))
                          (subst (λ (t : List ℕ). canonical_gap n (one_line d) a.0 t ≡ true) node g2.1))
                          (subst (λ (t : List ℕ). canonical_flow p.0 n d (starts_line false (gap_text a.0)) t ≡ true) q.1 j.1),
                    ))
              ])
        ]
