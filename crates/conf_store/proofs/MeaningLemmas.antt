-- What bytes mean: at most one state.
use Rattle.std.{proofs.Common.{◌≡◌, inr, refl, sym, ◌∙◌, ap, subst, arith, ◌≤◌}, specs.Prelude.{ℕ, zero, suc, ◌+◌, Bool, List, [], ◌∷◌}}
use Rattle.std.specs.Prelude.{◌++◌, length, take, Result, Ok}
use Rattle.conf_store.proofs.Prelude.{All-nil, IsNoRecord, append-nil, NoZeroByte, ClosesOnce, Pieces, OnePieces, Command, Contents, step}
use Rattle.conf_store.proofs.Prelude.{after, and_then, StoreFault, after-append, after-count, and_then-Ok, Enough, IsRecord, IsBase}
use Rattle.conf_store.proofs.{Prelude.{record_pieces, OneBase, OneRecord, store_limit}, HoleLemmas.means-front, PieceLemmas.pieces-joined}
use Rattle.conf_store.{proofs.PieceLemmas.pieces-one, specs.{Meaning.{AreRecords, PiecesMean, Means}, Durable.IsWholeStore}}

-- ---- lists of records

records-count : (count : ℕ) (pieces : List (List ℕ)) (commands : List Command) → AreRecords count pieces commands
    → length pieces ≡ length commands
records-count count [] [] are = refl
records-count count [] (command ∷ commands) are = absurd are
records-count count (piece ∷ pieces) [] are = absurd are
records-count count (piece ∷ pieces) (command ∷ commands) are = ap suc (records-count (count + 1) pieces commands are.1)

pub records-joined : (count : ℕ) (ps qs : List (List ℕ)) (cs ds : List Command) → AreRecords count ps cs
    → AreRecords (count + length cs) qs ds → AreRecords count (ps ++ qs) (cs ++ ds)
records-joined count [] qs [] ds first second = subst (λ n. AreRecords n qs ds) (omega arith) second
records-joined count [] qs (c ∷ cs) ds first second = absurd first
records-joined count (p ∷ ps) qs [] ds first second = absurd first
records-joined count (p ∷ ps) qs (c ∷ cs) ds first second =
    (first.0, records-joined (count + 1) ps qs cs ds first.1 (subst (λ n. AreRecords n qs ds) (omega arith) second))

pub records-prefix : (count k : ℕ) (commands : List Command) → AreRecords count (record_pieces count commands) commands
    → AreRecords count (record_pieces count (take k commands)) (take k commands)
records-prefix count zero commands are = tt
records-prefix count (suc k) [] are = tt
records-prefix count (suc k) (c ∷ cs) are = (are.0, records-prefix (count + 1) k cs are.1)

-- ---- lists of commands

-- a prefix of accepted commands is accepted
pub after-prefix : (s end : Contents) (commands : List Command) (k : ℕ) → after s commands ≡ Ok end
    → (mid : Contents) × (after s (take k commands) ≡ Ok mid)
after-prefix s end commands zero leads = (s, refl)
after-prefix s end [] (suc k) leads = (s, refl)
after-prefix s end (c ∷ cs) (suc k) leads =
    let first = and_then-Ok (step s c Enough) (λ t. after t cs) end leads in
    let more = after-prefix first.0 end cs k first.2 in
    (more.0, ap (λ r. and_then r (λ t. after t (take k cs))) first.1 ∙ more.1)

-- commands that lead on from where others lead to are one list of commands
pub after-joined : (s mid end : Contents) (first second : List Command) → after s first ≡ Ok mid
    → after mid second ≡ Ok end → after s (first ++ second) ≡ Ok end
after-joined s mid end first second one two =
    after-append s first second ∙ ap (λ r. and_then r (λ between. after between second)) one ∙ two

-- ---- what pieces mean

-- pieces with records after them
pub pieces-mean-more : (pieces : List (List ℕ)) (more : List (List ℕ)) (s end : Contents) (commands : List Command) → PiecesMean pieces s
    → AreRecords s.count more commands → after s commands ≡ Ok end → PiecesMean (pieces ++ more) end
pieces-mean-more pieces more s end commands mean are_records leads =
    let count : s.count ≡ mean.start.count + length mean.commands = after-count mean.start s mean.commands mean.leads in
    record {
      base = mean.base;
      records = mean.records ++ more;
      are = ap (λ ps. ps ++ more) mean.are;
      start = mean.start;
      is_base = mean.is_base;
      commands = mean.commands ++ commands;
      are_records = records-joined mean.start.count mean.records more mean.commands commands mean.are_records
          (subst (λ n. AreRecords n more commands) count are_records);
      leads = after-joined mean.start s end mean.commands commands mean.leads leads;
    }

-- a base alone means its state
pub base-means : (base : List ℕ) (s : Contents) → IsBase base s → PiecesMean (base ∷ []) s
base-means base s is = record {
  base = base;
  records = [];
  are = refl;
  start = s;
  is_base = is;
  commands = [];
  are_records = tt;
  leads = refl;
}

-- pieces with one more record
pub record-means : (pieces : List (List ℕ)) (piece : List ℕ) (s end : Contents) (command : Command) → PiecesMean pieces s
    → IsRecord piece command (s.count + 1) → step s command Enough ≡ Ok end → PiecesMean (pieces ++ piece ∷ []) end
record-means pieces piece s end command mean is done =
    pieces-mean-more pieces (piece ∷ []) s end (command ∷ []) mean (is, tt) (ap (λ r. and_then r (λ t. after t [])) done)

pub one-list : (count : ℕ) → OneRecord → (pieces : List (List ℕ)) (cs ds : List Command) → AreRecords count pieces cs
    → AreRecords count pieces ds → cs ≡ ds
one-list count one [] [] [] first second = refl
one-list count one [] (c ∷ cs) ds first second = absurd first
one-list count one [] [] (d ∷ ds) first second = absurd second
one-list count one (p ∷ ps) [] ds first second = absurd first
one-list count one (p ∷ ps) (c ∷ cs) [] first second = absurd second
one-list count one (p ∷ ps) (c ∷ cs) (d ∷ ds) first second =
    let same = one p d c (count + 1) (count + 1) second.0 first.0 in
    let rest = one-list (count + 1) one ps cs ds first.1 second.1 in
    λ i. same.0 i ∷ rest i

-- a result is one state at most
pub ok-same : (s end : Contents) (r : Result Contents StoreFault) → r ≡ Ok s → r ≡ Ok end → s ≡ end
ok-same s end r first second = cc

-- pieces mean one state at most
pub pieces-mean-one : OneBase → OneRecord → (pieces : List (List ℕ)) (s end : Contents) → PiecesMean pieces s
    → PiecesMean pieces end → s ≡ end
pieces-mean-one one_base one_record pieces s end first second =
    let same : first.base ∷ first.records ≡ second.base ∷ second.records = sym first.are ∙ second.are in
    let bases : first.base ≡ second.base = cc in
    let records : first.records ≡ second.records = cc in
    let starts : first.start ≡ second.start = one_base second.base second.start first.start second.is_base
    (subst (λ b. IsBase b first.start) bases first.is_base) in
    let are_records : AreRecords second.start.count second.records first.commands =
    subst (λ n. AreRecords n second.records first.commands) (ap (λ t. t.count) starts)
    (subst (λ ps. AreRecords first.start.count ps first.commands) records first.are_records) in
    let commands : first.commands ≡ second.commands =
    one-list second.start.count one_record second.records first.commands second.commands are_records second.are_records in
    ok-same s end (after second.start second.commands) ((λ i. after (sym starts i) (sym commands i)) ∙ first.leads) second.leads

-- bytes mean at most one state, whatever the note
pub means-one : NoZeroByte → OnePieces → OneBase → OneRecord → (bytes : List ℕ) (several more : Bool) (s end : Contents)
    → Means several bytes s → Means more bytes end → s ≡ end
means-one no_zero_byte one_pieces one_base one_record bytes several more s end first second =
    let all = (one_pieces bytes (first.pieces ++ first.others) (second.pieces ++ second.others) first.rest second.rest
    first.cut second.cut).0 in
    let same = means-front no_zero_byte first.pieces second.pieces first.others second.others s end first.mean second.mean
    first.hole second.hole all in
    pieces-mean-one one_base one_record second.pieces s end (subst (λ ps. PiecesMean ps s) same first.mean) second.mean

-- pieces that no others follow
pub no-others : (bytes : List ℕ) (pieces : List (List ℕ)) (rest : List ℕ) → Pieces bytes pieces rest
    → Pieces bytes (pieces ++ []) rest
no-others bytes pieces rest cut = subst (λ ps. Pieces bytes ps rest) (sym (append-nil pieces)) cut

-- ---- files without a rest

-- a whole store means its state, if it is within the limit
pub whole-means : (several : Bool) (bytes : List ℕ) (s : Contents) → IsWholeStore bytes s → length bytes ≤ store_limit
    → Means several bytes s
whole-means several bytes s whole short = record {
  short = short;
  pieces = whole.pieces;
  others = [];
  rest = [];
  cut = no-others bytes whole.pieces [] whole.cut;
  mean = whole.mean;
  hole = tt;
  lost = inr (All-nil IsNoRecord);
}

-- a base that closes once is a whole store
pub base-whole : (base : List ℕ) (s : Contents) → ClosesOnce base → IsBase base s → IsWholeStore base s
base-whole base s closes is = record { pieces = base ∷ []; cut = pieces-one base closes; mean = base-means base s is }

-- a whole store and the record of the next command are a whole store
pub record-whole : (bytes piece : List ℕ) (s end : Contents) (command : Command) → IsWholeStore bytes s
    → ClosesOnce piece → IsRecord piece command (s.count + 1)
    → step s command Enough ≡ Ok end → IsWholeStore (bytes ++ piece) end
record-whole bytes piece s end command whole closes is done = record {
  pieces = whole.pieces ++ piece ∷ [];
  cut = pieces-joined bytes piece whole.pieces (piece ∷ []) [] whole.cut (pieces-one piece closes);
  mean = record-means whole.pieces piece s end command whole.mean is done;
}

-- the state after one command is the one after a list of it
pub after-done : (s end : Contents) (command : Command) → step s command Enough ≡ Ok end → after s (command ∷ []) ≡ Ok end
after-done s end command done = ap (λ r. and_then r (λ t. after t [])) done
