-- What is left of the records of commands that wait, with zeros in any places.
use Rattle.std.proofs.Common.{◌≡◌, inl, inr, refl, sym, ap, subst, arith, ◌≤◌, append_assoc, length-append}
use Rattle.std.{proofs.lemmas.List.Elements.All-weaker, specs.Prelude.{ℕ, suc, ◌+◌, Bool, true, false, List, [], ◌∷◌, ◌++◌, length, take}}
use Rattle.std.specs.Prelude.{Contains}
use Rattle.conf_store.proofs.Prelude.{All, All-nil, All-cons, All-head, All-tail, ClosesOnce, Pieces, SomePieces, Command, IsNoRecord}
use Rattle.conf_store.proofs.Prelude.{RecordsClose, record_pieces, record_bytes, NoZeroByte, no_zero, StartsWithHole}
use Rattle.conf_store.proofs.{HoleLemmas.zero-no-record, PieceLemmas.pieces-joined, MeaningLemmas.{after-prefix, pieces-mean-more}}
use Rattle.conf_store.{proofs.MeaningLemmas.records-prefix, specs.{Durable.{HolesMean, IsNoted}, Holes.MayBeDropped}}
use Rattle.yaml_recognizers.specs.Zeroed.{AreLeft, HoleAfter, HolesAfter, WholeBehind, Zeroed}

zeroed-short : (text left : List ℕ) → Zeroed text left → length left ≤ length text
zeroed-short text [] z = omega arith
zeroed-short [] (b ∷ bs) z = absurd z
zeroed-short (t ∷ ts) (b ∷ bs) z = (let more = zeroed-short ts bs z.1 in omega (arith, more))

-- behind the first piece with a zero there is no whole record, since only one waited
none-behind : NoZeroByte → WholeBehind → (further others : List (List ℕ)) (rest : List ℕ) → length further ≤ 1
    → StartsWithHole others → All ClosesOnce others → AreLeft further others rest → All IsNoRecord others
none-behind law behind further [] rest one hole closed left = All-nil IsNoRecord
none-behind law behind further (bad ∷ more) rest one hole closed left =
    All-cons IsNoRecord bad more (zero-no-record law bad hole)
    (All-weaker Later IsNoRecord none more (behind further more bad rest (All-head ClosesOnce bad more closed) left))
  where
    Later : List ℕ → Type 0
    Later piece = no_zero piece ≡ true → (first : List ℕ) × (later : List (List ℕ)) × (further ≡ first ∷ later) × Contains later piece

    none : (piece : List ℕ) → Later piece → IsNoRecord piece
    none piece whole = by (no_zero piece) refl
      where
        by : (b : Bool) → no_zero piece ≡ b → IsNoRecord piece
        by false zeroed = zero-no-record law piece zeroed
        by true clean =
            let found = whole clean in
            let empty : length found.1 ≡ 0 = omega (arith, one, ap length found.2) in
            absurd (let at = found.3 in omega (arith, at.1, empty))

closed-behind : (whole others : List (List ℕ)) → All ClosesOnce (whole ++ others) → All ClosesOnce others
closed-behind [] others a = a
closed-behind (w ∷ ws) others a = closed-behind ws others (All-tail ClosesOnce w (ws ++ others) a)

-- the whole records are those of the first commands
front-records : (count : ℕ) (commands : List Command) (whole further : List (List ℕ)) → record_pieces count commands ≡ whole ++ further
    → whole ≡ record_pieces count (take (length whole) commands)
front-records count commands [] further e = refl
front-records count [] (w ∷ ws) further e = absurd (cc e)
front-records count (command ∷ commands) (w ∷ ws) further e =
    let one : record_bytes command (count + 1) ≡ w = cc e in
    let more : record_pieces (count + 1) commands ≡ ws ++ further = cc e in
    λ i. sym one i ∷ front-records (count + 1) commands ws further more i

records-long : (count : ℕ) (commands : List Command) → length (record_pieces count commands) ≡ length commands
records-long count [] = refl
records-long count (command ∷ commands) = ap suc (records-long (count + 1) commands)

records-close : RecordsClose → (count : ℕ) (commands : List Command) → All ClosesOnce (record_pieces count commands)
records-close close count [] = All-nil ClosesOnce
records-close close count (command ∷ commands) =
    All-cons ClosesOnce (record_bytes command (count + 1)) (record_pieces (count + 1) commands) (close command (count + 1))
    (records-close close (count + 1) commands)

further-short : (pieces whole further : List (List ℕ)) → length pieces ≤ 1 → pieces ≡ whole ++ further → length further ≤ 1
further-short pieces whole further one e = omega (arith, one, ap length e, length-append whole further)

-- what stands behind the whole records may be dropped
behind-dropped : NoZeroByte → WholeBehind → (several : Bool) (count : ℕ) (commands : List Command) (whole further others : List (List ℕ))
    (rest : List ℕ) → IsNoted several commands → record_pieces count commands ≡ whole ++ further → StartsWithHole others
    → All ClosesOnce others → AreLeft further others rest → MayBeDropped several others
behind-dropped law behind true count commands whole further others rest noted all hole closed left = inl refl
behind-dropped law behind false count commands whole further others rest noted all hole closed left =
    let few : length commands ≤ 1 = noted refl in
    let one : length (record_pieces count commands) ≤ 1 = omega (arith, few, records-long count commands) in
    inr (none-behind law behind further others rest (further-short (record_pieces count commands) whole further one all) hole closed left)

pub journal-holed : NoZeroByte → WholeBehind → HolesAfter → RecordsClose → SomePieces → HolesMean
journal-holed law behind holes close some several file flushed end since left journal noted zeroed =
    let count = flushed.count in
    let texts : List (List ℕ) = record_pieces count since in
    let closed : All ClosesOnce texts = records-close close count since in
    let p : (pieces : List (List ℕ)) × (rest : List ℕ) × Pieces left pieces rest = some left in
    let h : HoleAfter texts p.0 p.1 = holes texts p.0 left p.1 closed (subst (λ l. Zeroed l left) journal.pending zeroed) p.2 in
    let front : h.whole ≡ record_pieces count (take (length h.whole) since) = front-records count since h.whole h.further h.all in
    let commands : List Command = take (length h.whole) since in
    let mid = after-prefix flushed end since (length h.whole) journal.leads in
    let cut : Pieces left (h.whole ++ h.others) p.1 = subst (λ ps. Pieces left ps p.1) h.found p.2 in
    let own : Pieces left (record_pieces count commands ++ h.others) p.1 = subst (λ ws. Pieces left (ws ++ h.others) p.1) front cut in
    let long = zeroed-short file.pending left zeroed in
    record {
      count = length h.whole;
      state = mid.0;
      leads = mid.1;
      means = record {
        short = omega (arith, length-append file.synced left, long, journal.short);
        pieces = journal.whole.pieces ++ record_pieces count commands;
        others = h.others;
        rest = p.1;
        cut = subst (λ ps. Pieces (file.synced ++ left) ps p.1)
            (sym (append_assoc journal.whole.pieces (record_pieces count commands) h.others))
            (pieces-joined file.synced left journal.whole.pieces (record_pieces count commands ++ h.others) p.1 journal.whole.cut own);
        mean = pieces-mean-more journal.whole.pieces (record_pieces count commands) flushed mid.0 commands journal.whole.mean
            (records-prefix count (length h.whole) since journal.are_records) mid.1;
        hole = h.hole;
        lost = behind-dropped law behind several count since h.whole h.further h.others p.1 noted h.all h.hole
            (closed-behind h.whole h.others cut.closed) h.left;
      };
    }
