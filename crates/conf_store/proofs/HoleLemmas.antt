-- Pieces that mean a state have no zero, so what comes before the first one with a zero is one list.
use Rattle.std.{proofs.Common.{◌≡◌, inl, refl, sym, ◌∙◌, ap, subst}, specs.Prelude.{ℕ, ◌+◌, true, false, List, [], ◌∷◌, ◌++◌}}
use Rattle.conf_store.proofs.Prelude.{All, All-nil, All-cons, All-head, All-tail, false≢true, NoZeroByte, no_zero, StartsWithHole, Command}
use Rattle.conf_store.{proofs.Prelude.{Contents, IsRecord, IsBase, IsNoRecord}, specs.Meaning.{AreRecords, PiecesMean, Means}}

abbrev Clean : List ℕ → Type 0
Clean piece = no_zero piece ≡ true

-- a record has no zero
pub record-clean : NoZeroByte → (bytes : List ℕ) (command : Command) (number : ℕ) → IsRecord bytes command number → Clean bytes
record-clean law bytes command number is =
    let some = is.reads.gives.reads.some in
    law some.presentation bytes is.utf8 some.presents

base-clean : NoZeroByte → (bytes : List ℕ) (s : Contents) → IsBase bytes s → Clean bytes
base-clean law bytes s is =
    let some = is.reads.gives.reads.some in
    law some.presentation bytes is.utf8 some.presents

-- what has a zero is no record
pub zero-no-record : NoZeroByte → (bytes : List ℕ) → no_zero bytes ≡ false → IsNoRecord bytes
zero-no-record law bytes zero command number is = false≢true (sym zero ∙ record-clean law bytes command number is)

records-clean : NoZeroByte → (count : ℕ) (pieces : List (List ℕ)) (commands : List Command) → AreRecords count pieces commands
    → All Clean pieces
records-clean law count [] [] are = All-nil Clean
records-clean law count [] (c ∷ cs) are = absurd are
records-clean law count (p ∷ ps) [] are = absurd are
records-clean law count (p ∷ ps) (c ∷ cs) are =
    All-cons Clean p ps (record-clean law p c (count + 1) are.0) (records-clean law (count + 1) ps cs are.1)

pieces-clean : NoZeroByte → (pieces : List (List ℕ)) (s : Contents) → PiecesMean pieces s → All Clean pieces
pieces-clean law pieces s mean =
    subst (All Clean) (sym mean.are)
    (All-cons Clean mean.base mean.records (base-clean law mean.base mean.start mean.is_base)
    (records-clean law mean.start.count mean.records mean.commands mean.are_records))

front-same : (ps qs os ts : List (List ℕ)) → All Clean ps → All Clean qs → StartsWithHole os → StartsWithHole ts
    → ps ++ os ≡ qs ++ ts → ps ≡ qs
front-same [] [] os ts a b h k e = refl
front-same [] (q ∷ qs) [] ts a b h k e = absurd (cc e)
front-same [] (q ∷ qs) (o ∷ os) ts a b h k e =
    let same : o ≡ q = cc e in
    absurd (false≢true (sym h ∙ (ap no_zero same ∙ All-head Clean q qs b)))
front-same (p ∷ ps) [] os [] a b h k e = absurd (cc e)
front-same (p ∷ ps) [] os (t ∷ ts) a b h k e =
    let same : p ≡ t = cc e in
    absurd (false≢true (sym k ∙ (ap no_zero (sym same) ∙ All-head Clean p ps a)))
front-same (p ∷ ps) (q ∷ qs) os ts a b h k e =
    let same : p ≡ q = cc e in
    let tail : ps ++ os ≡ qs ++ ts = cc e in
    let more : ps ≡ qs = front-same ps qs os ts (All-tail Clean p ps a) (All-tail Clean q qs b) h k tail in
    cc (same, more)

-- what comes before the first piece with a zero is one list
pub means-front : NoZeroByte → (ps qs os ts : List (List ℕ)) (s end : Contents) → PiecesMean ps s → PiecesMean qs end
    → StartsWithHole os → StartsWithHole ts → ps ++ os ≡ qs ++ ts → ps ≡ qs
means-front law ps qs os ts s end first second = front-same ps qs os ts (pieces-clean law ps s first) (pieces-clean law qs end second)

front-longer : (ps qs os ts : List (List ℕ)) → All Clean qs → StartsWithHole os → ps ++ os ≡ qs ++ ts
    → (more : List (List ℕ)) × (ps ≡ qs ++ more)
front-longer ps [] os ts b h e = (ps, refl)
front-longer [] (q ∷ qs) [] ts b h e = absurd (cc e)
front-longer [] (q ∷ qs) (o ∷ os) ts b h e =
    let same : o ≡ q = cc e in
    absurd (false≢true (sym h ∙ (ap no_zero same ∙ All-head Clean q qs b)))
front-longer (p ∷ ps) (q ∷ qs) os ts b h e =
    let same : p ≡ q = cc e in
    let tail : ps ++ os ≡ qs ++ ts = cc e in
    let more : (more : List (List ℕ)) × (ps ≡ qs ++ more) = front-longer ps qs os ts (All-tail Clean q qs b) h tail in
    (more.0, cc (same, more.1))

one-after : (qs : List (List ℕ)) (bad : List ℕ) → All Clean qs → Clean bad → All Clean (qs ++ (bad ∷ []))
one-after [] bad a c = All-cons Clean bad [] c (All-nil Clean)
one-after (q ∷ qs) bad a c = All-cons Clean q (qs ++ (bad ∷ [])) (All-head Clean q qs a) (one-after qs bad (All-tail Clean q qs a) c)

-- pieces that mean a state, and one without a zero behind them, come before the first with a zero
pub means-longer : NoZeroByte → (ps qs os ts : List (List ℕ)) (bad : List ℕ) (s : Contents) → PiecesMean qs s → Clean bad
    → StartsWithHole os → ps ++ os ≡ (qs ++ (bad ∷ [])) ++ ts → (more : List (List ℕ)) × (ps ≡ (qs ++ (bad ∷ [])) ++ more)
means-longer law ps qs os ts bad s mean clean =
    front-longer ps (qs ++ (bad ∷ [])) os ts (one-after qs bad (pieces-clean law qs s mean) clean)

-- what comes after equal pieces is the same
pub same-others : (ps os ts : List (List ℕ)) → ps ++ os ≡ ps ++ ts → os ≡ ts
same-others [] os ts e = e
same-others (p ∷ ps) os ts e = same-others ps os ts (cc e)

-- ---- with the note and without it

-- what means a state without the note means it with the note
pub noted-means : (bytes : List ℕ) (s : Contents) → Means false bytes s → Means true bytes s
noted-means bytes s m = record {
  short = m.short;
  pieces = m.pieces;
  others = m.others;
  rest = m.rest;
  cut = m.cut;
  mean = m.mean;
  hole = m.hole;
  lost = inl refl;
}
