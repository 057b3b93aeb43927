-- A prefix of the bytes of a store's file.
use Rattle.std.proofs.Common.{◌≡◌, inl, inr, ⊎_elim, refl, sym, ◌∙◌, ap, subst, arith, ◌<◌, ◌≤◌, append_assoc, take-append-drop}
use Rattle.std.{proofs.{Common.{length-append, length-take}, lemmas.Bool.cases_lt}, specs.Prelude.{ℕ, ◌+◌, ◌-◌, zero, suc, List, [], ◌∷◌}}
use Rattle.std.specs.Prelude.{◌++◌, length, take, drop, replicate}
use Rattle.conf_history.proofs.Prelude.{All, concat, All-nil, All-cons, All-head, All-tail, ClosesAt, ClosesOnce, Pieces, File, Command}
use Rattle.conf_history.proofs.Prelude.{RecordsTear, TornRecords, records_bytes, record_pieces, AreRecords, after-prefix, IsNoRecord}
use Rattle.conf_history.proofs.Prelude.{StartsWithHole, HolesMean, length-replicate, no-others, pieces-joined, pieces-mean-more}
use Rattle.conf_history.{proofs.Prelude.records-prefix, specs.Beside.{PrefixesAreRead, AppendedRecordsAreRead, WornRecordsAreRead}}
use Rattle.yaml_docs.proofs.{ClosingLines.lies_within, CutLines.{closes-longer, closes-shorter}}

take-beyond : (k : ℕ) (xs ys : List ℕ) → take (length xs + k) (xs ++ ys) ≡ xs ++ take k ys
take-beyond k [] ys = let none : 0 + k ≡ k = omega arith in ap (λ n. take n ys) none
take-beyond k (x ∷ xs) ys =
    let more : length (x ∷ xs) + k ≡ suc (length xs + k) = omega arith in
    ap (λ n. take n (x ∷ (xs ++ ys))) more ∙ ap (λ l. x ∷ l) (take-beyond k xs ys)

-- more bytes than those of the first list
take-past : (kept : ℕ) (xs ys : List ℕ) → length xs ≤ kept → take kept (xs ++ ys) ≡ xs ++ take (kept - length xs) ys
take-past kept xs ys le =
    let whole : kept ≡ length xs + (kept - length xs) = omega (arith, le) in
    ap (λ n. take n (xs ++ ys)) whole ∙ take-beyond (kept - length xs) xs ys

-- a part of a piece is not closed
part-unclosed : (piece after : List ℕ) (kept : ℕ) → ClosesOnce piece → kept < length piece → (place : ℕ)
    → ClosesAt (take kept (piece ++ after)) place → ⊥
part-unclosed piece after kept closes short place c =
    let all = piece ++ after in
    let within : place ≤ kept = omega (arith, lies_within (take kept all) place c, length-take kept all) in
    let whole : ClosesAt all place = subst (λ l. ClosesAt l place) (take-append-drop kept all)
    (closes-longer (take kept all) (drop kept all) place c) in
    let own = closes-shorter piece after place whole (omega (arith, within, short)) in
    absurd (let end = closes.once place own in omega (arith, end, within, short))

-- a prefix of pieces and a rest is the first of the pieces and a rest
pub prefix-pieces : (pieces : List (List ℕ)) (rest : List ℕ) (kept : ℕ) → All ClosesOnce pieces → ((place : ℕ) → ClosesAt rest place → ⊥)
    → (k : ℕ) × (left : List ℕ) × Pieces (take kept (concat pieces ++ rest)) (take k pieces) left
prefix-pieces [] rest kept closed unclosed = (
  zero,
  take kept rest,
  record {
    joined = refl;
    closed = All-nil ClosesOnce;
    unclosed = λ place c. unclosed place (subst (λ l. ClosesAt l place) (take-append-drop kept rest)
        (closes-longer (take kept rest) (drop kept rest) place c));
  },
)
prefix-pieces (p ∷ ps) rest kept closed unclosed =
    let all = (p ++ concat ps) ++ rest in
    let grouped : all ≡ p ++ (concat ps ++ rest) = append_assoc p (concat ps) rest in
    let first = All-head ClosesOnce p ps closed in
    ⊎_elim
    (λ short. (
      zero,
      take kept all,
      record {
        joined = refl;
        closed = All-nil ClosesOnce;
        unclosed = λ place c. part-unclosed p (concat ps ++ rest) kept first short place
            (subst (λ l. ClosesAt (take kept l) place) grouped c);
      },
    ))
    (λ le. (let more = prefix-pieces ps rest (kept - length p) (All-tail ClosesOnce p ps closed) unclosed in (
      suc more.0,
      more.1,
      record {
        joined = ap (take kept) grouped ∙ take-past kept p (concat ps ++ rest) le ∙ ap (λ l. p ++ l) more.2.joined
            ∙ sym (append_assoc p (concat (take more.0 ps)) more.1);
        closed = All-cons ClosesOnce p (take more.0 ps) first more.2.closed;
        unclosed = more.2.unclosed;
      },
    )))
    (cases_lt kept (length p))

-- the first of some records are records
are-prefix : (k count : ℕ) (pieces : List (List ℕ)) (commands : List Command) → AreRecords count pieces commands
    → AreRecords count (take k pieces) (take k commands)
are-prefix zero count pieces commands are = tt
are-prefix (suc k) count [] [] are = tt
are-prefix (suc k) count [] (command ∷ commands) are = absurd are
are-prefix (suc k) count (piece ∷ pieces) [] are = absurd are
are-prefix (suc k) count (piece ∷ pieces) (command ∷ commands) are = (are.0, are-prefix k (count + 1) pieces commands are.1)

-- the first of two lists of pieces: some of the first, or all of them and some of the second
split-take : (k : ℕ) (ps qs : List (List ℕ)) → (a : ℕ) × (b : ℕ) × (take k (ps ++ qs) ≡ take a ps ++ take b qs)
split-take k [] qs = (zero, k, refl)
split-take zero (p ∷ ps) qs = (zero, zero, refl)
split-take (suc k) (p ∷ ps) qs = (let more = split-take k ps qs in (suc more.0, more.1, ap (λ l. p ∷ l) more.2))

take-hole : (k : ℕ) (others : List (List ℕ)) → StartsWithHole others → StartsWithHole (take k others)
take-hole zero others hole = tt
take-hole (suc k) [] hole = tt
take-hole (suc k) (other ∷ others) hole = hole

All-take : (P : List ℕ → Type 0) (k : ℕ) (ps : List (List ℕ)) → All P ps → All P (take k ps)
All-take P zero ps all = All-nil P
All-take P (suc k) [] all = All-nil P
All-take P (suc k) (p ∷ ps) all = All-cons P p (take k ps) (All-head P p ps all) (All-take P k ps (All-tail P p ps all))

pub prefixes-are-read : PrefixesAreRead
prefixes-are-read several bytes s m kept holds =
    let mean = m.mean in
    let behind = mean.records ++ m.others in
    let all : m.pieces ++ m.others ≡ mean.base ∷ behind = ap (λ ps. ps ++ m.others) mean.are in
    let closed : All ClosesOnce (mean.base ∷ behind) = subst (All ClosesOnce) all m.cut.closed in
    let first = All-head ClosesOnce mean.base behind closed in
    let left = kept - length mean.base in
    let cut = prefix-pieces behind m.rest left (All-tail ClosesOnce mean.base behind closed) m.cut.unclosed in
    let split = split-take cut.0 mean.records m.others in
    let mid = after-prefix mean.start s mean.commands split.0 mean.leads in
    let joined : bytes ≡ mean.base ++ (concat behind ++ m.rest) =
    m.cut.joined ∙ ap (λ ps. concat ps ++ m.rest) all ∙ append_assoc mean.base (concat behind) m.rest in
    let whole : Pieces (take kept bytes) (mean.base ∷ take cut.0 behind) cut.1 = record {
      joined = ap (take kept) joined ∙ take-past kept mean.base (concat behind ++ m.rest) holds
          ∙ ap (λ l. mean.base ++ l) cut.2.joined
          ∙ sym (append_assoc mean.base (concat (take cut.0 behind)) cut.1);
      closed = All-cons ClosesOnce mean.base (take cut.0 behind) first cut.2.closed;
      unclosed = cut.2.unclosed;
    } in
    record {
      count = split.0;
      state = mid.0;
      leads = mid.1;
      means = record {
        short = omega (arith, length-take kept bytes, m.short);
        pieces = mean.base ∷ take split.0 mean.records;
        others = take split.1 m.others;
        rest = cut.1;
        cut = subst (λ ps. Pieces (take kept bytes) (mean.base ∷ ps) cut.1) split.2 whole;
        mean = record {
          base = mean.base;
          records = take split.0 mean.records;
          are = refl;
          start = mean.start;
          is_base = mean.is_base;
          commands = take split.0 mean.commands;
          are_records = are-prefix split.0 mean.start.count mean.records mean.commands mean.are_records;
          leads = mid.1;
        };
        hole = take-hole split.1 m.others m.hole;
        lost = ⊎_elim (λ noted. inl noted) (λ none. inr (All-take IsNoRecord split.1 m.others none)) m.lost;
      };
    }

-- ---- records that are appended

pub appended-are-read : RecordsTear → AppendedRecordsAreRead
appended-are-read tear several bytes s commands kept zeros takes fits =
    let tail = take kept (records_bytes s.count commands) ++ replicate zeros 0 in
    let t : TornRecords s.count commands tail = tear s.count commands kept zeros in
    let records = record_pieces s.count (take t.whole commands) in
    let mid = after-prefix s takes.end commands t.whole takes.leads in
    let none : List ℕ = replicate zeros 0 in
    let all = bytes ++ take kept (records_bytes s.count commands) ++ none in
    let is : all ≡ bytes ++ tail = append_assoc bytes (take kept (records_bytes s.count commands)) none in
    record {
      count = t.whole;
      state = mid.0;
      leads = mid.1;
      means = record {
        short = omega (
          arith,
          fits,
          takes.short,
          ap length is,
          length-append bytes tail,
          length-append (take kept (records_bytes s.count commands)) none,
          length-replicate {A = ℕ} zeros 0,
          length-take kept (records_bytes s.count commands),
        );
        pieces = takes.whole.pieces ++ records;
        others = [];
        rest = t.rest;
        cut = no-others all (takes.whole.pieces ++ records) t.rest
            (subst (λ b. Pieces b (takes.whole.pieces ++ records) t.rest) (sym is)
            (pieces-joined bytes tail takes.whole.pieces records t.rest takes.whole.cut t.pieces));
        hole = tt;
        lost = inr (All-nil IsNoRecord);
        mean = pieces-mean-more takes.whole.pieces records s mid.0 (take t.whole commands) takes.whole.mean
            (records-prefix s.count t.whole commands takes.are) mid.1;
      };
    }

pub worn-are-read : HolesMean → WornRecordsAreRead
worn-are-read holes several bytes s commands left takes noted worn =
    let file : File = record { synced = bytes; pending = records_bytes s.count commands } in
    holes several file s takes.end commands left
    (record { whole = takes.whole; pending = refl; are_records = takes.are; leads = takes.leads; short = takes.short }) noted worn
