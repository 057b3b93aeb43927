-- A survey: what was gone past after a bad piece, and what was found.
use Rattle.std.proofs.Common.{◌≡◌, ◌⊎◌, inl, inr, refl, sym, ◌∙◌, ap, subst, arith, ◌<◌, ◌≤◌, append_assoc, length-append, length-take}
use Rattle.std.{proofs.lemmas.List.Elements.{Contains-append_left, Contains-append_right}, specs.Prelude.{Bool, true, false, ℕ, ◌+◌, ◌-◌}}
use Rattle.std.specs.Prelude.{suc, List, [], ◌∷◌, ◌++◌, length, drop, Option, Some, None, IfSome}
use Rattle.conf_history.proofs.Prelude.{IsAnyRecord, IsKept, IsNoRecord, MayBeDropped, no_zero, All, concat, Consumes, Consumes-nil}
use Rattle.conf_history.proofs.Prelude.{Consumes-trans, Consumes-whole, append-nil, All-nil, All-push, ClosesOnce, AdvancesToPiece, IsSound}
use Rattle.conf_history.proofs.Prelude.{ahead, bytes_read, piece_or_rest, store_limit, Command, Contents, IsState, after-count, AreRecords}
use Rattle.conf_history.{proofs.WalkLemmas.{moved, closed-some, some-map, all-read, cut-followed, bad-is}, specs.BadPieces.zeros_of}
use Rattle.conf_history.specs.{Following.Follow, Histories.{IsOfKind, IsSurvey, ReadsSurvey, RefusesSurvey}}
use Rattle.conf_history.specs.declared.{place.BadPiece.BadPiece, following.{BadKind.TheVariants.{Torn, Unexpected}, Following.Following}}
use Rattle.conf_history.specs.declared.fault.HistoryFault.{HistoryFault, TheVariants.{Input, Output, NotAStore, Damaged, NoSuchCommand}}
use Rattle.conf_history.specs.{declared.{fault.HistoryFault.TheVariants.OutOfMemory, survey.{Bad.Bad, Findings.Findings}}, Walks.IsAtPiece}
use Rattle.conf_history.specs.Walks.{IsAtEndOf, IsBadHere, ArePerformed, RefusesStart, Stops, Walked}
use Rattle.yaml_docs.specs.declared.pieces.Pieces.{Pieces as Reading}

-- ---- going past pieces

-- What was read since is pieces that were gone past, and bytes that are in no piece yet.
pub record CountsSoFar (given left : Option (List ℕ)) (old now : Reading) (count : ℕ) : Type 0 where
  pub further : List (List ℕ)
  pub more : List ℕ
  pub taken : Consumes given left more
  pub joined : ahead old ++ more ≡ concat further ++ ahead now
  pub limits : IsSound store_limit store_limit now
  pub total : bytes_read now ≡ bytes_read old + length more
  pub closed : All ClosesOnce further
  pub counted : length further ≡ count
  pub few : count ≤ length (concat further)

pub counts-none : (given : Option (List ℕ)) (old : Reading) → IsSound store_limit store_limit old → CountsSoFar given given old old 0
counts-none given old sound = record {
  further = [];
  more = [];
  taken = Consumes-nil given;
  joined = append-nil (ahead old);
  limits = sound;
  total = omega arith;
  closed = All-nil ClosesOnce;
  counted = refl;
  few = omega arith;
}

-- there are few pieces
pub counts-few : (given left : Option (List ℕ)) (old now : Reading) (count : ℕ) → IsSound store_limit store_limit old
    → CountsSoFar given left old now count → count ≤ store_limit + 65536
counts-few given left old now count sound s =
    let start : length (ahead old) ≤ 65536 = omega
    (arith, length-take (old.end - old.start) (drop old.start old.chunk.items), sound.within) in
    omega (
      arith,
      start,
      s.few,
      ap length s.joined,
      length-append (ahead old) s.more,
      length-append (concat s.further) (ahead now),
      s.total,
      s.limits.total,
    )

module _ (given mid left : Option (List ℕ)) (old now new : Reading) (count : ℕ) (s : CountsSoFar given mid old now count) where
  joined-on : (more after : List ℕ) → ahead now ++ more ≡ after → ahead old ++ (s.more ++ more) ≡ concat s.further ++ after
  joined-on more after e =
      sym (append_assoc (ahead old) s.more more) ∙ ap (λ l. l ++ more) s.joined
      ∙ append_assoc (concat s.further) (ahead now) more ∙ ap (λ l. concat s.further ++ l) e

  -- one more piece
  pub counts-more : AdvancesToPiece store_limit store_limit mid left now new → CountsSoFar given left old new (count + 1)
  counts-more a =
      let piece = piece_or_rest new in
      let size = length-append s.further (piece ∷ []) in
      let bytes = ap length (moved s.further piece []) in
      let apart = length-append (concat s.further) (piece ++ []) in
      let whole = ap length (append-nil piece) in
      let end = ap length (append-nil (concat (s.further ++ piece ∷ []))) in
      record {
        further = s.further ++ piece ∷ [];
        more = s.more ++ a.more;
        taken = Consumes-trans given mid left s.more a.more s.taken a.taken;
        joined = joined-on a.more (piece ++ ahead new) a.joined ∙ moved s.further piece (ahead new);
        limits = a.sound;
        total = (let both = length-append s.more a.more in omega (arith, both, a.total, s.total));
        closed = All-push ClosesOnce s.further piece s.closed a.piece;
        counted = omega (arith, size, s.counted);
        few = omega (arith, s.few, bytes, apart, whole, end, closed-some piece a.piece);
      }

  -- the measure falls
  pub counts-smaller : AdvancesToPiece store_limit store_limit mid left now new
      → (store_limit - bytes_read new) + length (ahead new) < (store_limit - bytes_read now) + length (ahead now)
  counts-smaller a =
      omega (
        arith,
        a.total,
        a.sound.total,
        closed-some (piece_or_rest new) a.piece,
        ap length a.joined,
        length-append (ahead now) a.more,
        length-append (piece_or_rest new) (ahead new),
      )

-- ---- whether a crash may have left a bad piece, by what follows so far

-- it has no zero, or a record follows; or it has one, and none does
abbrev pub IsKnown : Bool → Bool → List ℕ → List (List ℕ) → Type 0
IsKnown several true bad further = IsOfKind several Unexpected bad further
IsKnown several false bad further = IsOfKind several Torn bad further

known-first : (several : Bool) (bad : List ℕ) (is_kept : Bool) → no_zero bad ≡ is_kept → IsKnown several is_kept bad []
known-first several bad true is = inl is
known-first several bad false is = (is, inr (All-nil IsNoRecord))

kept-more : (several : Bool) (bad : List ℕ) (further : List (List ℕ)) (piece : List ℕ) → IsKept several bad further
    → IsKept several bad (further ++ piece ∷ [])
kept-more several bad further piece (inl clean) = inl clean
kept-more several bad further piece (inr (one, held)) =
    inr (one, (held.0, Contains-append_left further (piece ∷ []) held.0 held.1, held.2))

dropped-more : (several : Bool) (further : List (List ℕ)) (piece : List ℕ) → MayBeDropped several further
    → (several ≡ true) ⊎ IsNoRecord piece → MayBeDropped several (further ++ piece ∷ [])
dropped-more several further piece (inl noted) one = inl noted
dropped-more several further piece (inr all) (inl noted) = inl noted
dropped-more several further piece (inr all) (inr none) = inr (All-push IsNoRecord further piece all none)

known-more : (several : Bool) (bad : List ℕ) (further : List (List ℕ)) (piece : List ℕ) (found : Bool) → IsKnown several false bad further
    → (found ≡ true → (several ≡ false) × IsAnyRecord piece) → (found ≡ false → (several ≡ true) ⊎ IsNoRecord piece)
    → IsKnown several found bad (further ++ piece ∷ [])
known-more several bad further piece true known some none =
    let held = some refl in
    inr (held.0, (piece, Contains-append_right further (piece ∷ []) piece (0, omega arith, refl), held.1))
known-more several bad further piece false known some none = (known.0, dropped-more several further piece known.1 (none refl))

-- before any was gone past
pub known-none : (several : Bool) (given : Option (List ℕ)) (old : Reading) (sound : IsSound store_limit store_limit old) (bad : List ℕ)
    (is_kept : Bool) → no_zero bad ≡ is_kept → IsKnown several is_kept bad (counts-none given old sound).further
unfolding counts-none
known-none several given old sound = known-first several

-- one more, which was looked at where nothing was known
known-next : (several : Bool) (bad : List ℕ) (further : List (List ℕ)) (piece : List ℕ) (old new : Bool) → IsKnown several old bad further
    → (old ≡ true → new ≡ true) → (old ≡ false → new ≡ true → (several ≡ false) × IsAnyRecord piece)
    → (old ≡ false → new ≡ false → (several ≡ true) ⊎ IsNoRecord piece)
    → IsKnown several new bad (further ++ piece ∷ [])
known-next several bad further piece true new known still some none =
    subst (λ b. IsKnown several b bad (further ++ piece ∷ [])) (sym (still refl)) (kept-more several bad further piece known)
known-next several bad further piece false new known still some none =
    known-more several bad further piece new known (some refl) (none refl)

-- the same of what was gone past
pub known-counted : (several : Bool) (given mid left : Option (List ℕ)) (old now new : Reading) (count : ℕ)
    (s : CountsSoFar given mid old now count)
    (a : AdvancesToPiece store_limit store_limit mid left now new) (bad : List ℕ) (was is : Bool) → IsKnown several was bad s.further
    → (was ≡ true → is ≡ true) → (was ≡ false → is ≡ true → (several ≡ false) × IsAnyRecord (piece_or_rest new))
    → (was ≡ false → is ≡ false → (several ≡ true) ⊎ IsNoRecord (piece_or_rest new))
    → IsKnown several is bad (counts-more given mid left old now new count s a).further
unfolding counts-more
known-counted several given mid left old now new count s a bad = known-next several bad s.further (piece_or_rest new)

-- a piece that the walk is at was read too
pub past-piece : (given left : Option (List ℕ)) (walk : Walked) (pieces : List (List ℕ)) (start : Contents)
    (commands : List Command) → IsAtPiece given left walk pieces start commands
    → Consumes given left ((concat pieces ++ piece_or_rest walk.pieces) ++ ahead walk.pieces)
    × (bytes_read walk.pieces ≡ length ((concat pieces ++ piece_or_rest walk.pieces) ++ ahead walk.pieces))
past-piece given left walk pieces start commands p =
    let on = sym (append_assoc (concat pieces) (piece_or_rest walk.pieces) (ahead walk.pieces)) in
    (subst (Consumes given left) on p.read.taken, p.read.total ∙ ap length on)

-- ---- what was found

records-count : (count : ℕ) (pieces : List (List ℕ)) (commands : List Command) → AreRecords count pieces commands
    → length pieces ≡ length commands
records-count count [] [] are = refl
records-count count [] (command ∷ commands) are = absurd are
records-count count (piece ∷ pieces) [] are = absurd are
records-count count (piece ∷ pieces) (command ∷ commands) are = ap suc (records-count (count + 1) pieces commands are.1)

module _ (pieces : List (List ℕ)) (start : Contents) (commands : List Command) (s : Contents)
    (p : ArePerformed pieces start commands s) where
  -- the count grows from that of the base
  pub counted-from : (base : ℕ) → base ≡ start.count → base ≤ s.count
  counted-from base is =
      let begins : p.mean.start.count ≡ start.count = ap (λ (t : Contents). t.count) p.begins in
      omega (arith, after-count p.mean.start s p.mean.commands p.mean.leads, begins, is)

  -- there is one piece more than records
  pub counted-records : (base : ℕ) → base ≡ start.count → length pieces ≡ suc (s.count - base)
  counted-records base is =
      let begins : p.mean.start.count ≡ start.count = ap (λ (t : Contents). t.count) p.begins in
      let pieces_are = ap length p.mean.are in
      let records = records-count p.mean.start.count p.mean.records p.mean.commands p.mean.are_records in
      let counts = after-count p.mean.start s p.mean.commands p.mean.leads in
      omega (arith, begins, pieces_are, records, counts, is)

  pub base-count : (base : ℕ) → base ≡ start.count → base ≡ p.mean.start.count
  base-count base is = is ∙ sym (ap (λ (t : Contents). t.count) p.begins)

-- a file without a bad piece
module _ (several : Bool) (given left : Option (List ℕ)) (walk : Walked) (pieces : List (List ℕ)) (start : Contents)
    (commands : List Command) where
  pub surveyed-whole : IsAtEndOf given left walk pieces start commands → (base count : ℕ) → base ≡ start.count
      → count ≡ walk.state.count → IsState walk.state → (findings : Findings)
      → findings ≡ record {
        base = base;
        commands = count - base;
        kept = walk.place.byte;
        dropped = length (piece_or_rest walk.pieces);
        bad = None;
      }
      → ReadsSurvey several given left walk.state findings
  surveyed-whole e base count is all kept findings found =
      let rest = piece_or_rest walk.pieces in
      let none = sym (append-nil pieces) in
      record {
        holds = Consumes-whole given left (concat pieces ++ rest) (λ bytes. IsSurvey several bytes walk.state findings) e.taken e.at_end
            (subst (IsSurvey several (concat pieces ++ rest) walk.state) (sym found) (record {
              short = e.short;
              pieces = pieces;
              unread = [];
              rest = rest;
              cut = record {
                joined = ap (λ ps. concat ps ++ rest) none;
                closed = subst (All ClosesOnce) none e.performed.closed;
                unclosed = e.unclosed;
              };
              mean = e.performed.mean;
              base = base-count pieces start commands walk.state e.performed base is;
              commands = counted-records pieces start commands walk.state e.performed base is ∙ ap (λ n. suc (n - base)) (sym all);
              kept = e.place.byte;
              dropped = refl;
              bad = tt;
            }));
        kept = kept;
        at_end = e.at_end;
        read = (concat pieces ++ rest, e.taken, e.short);
      }

  -- a file with a bad piece
  pub surveyed-bad : (mid : Option (List ℕ)) (now : Reading) (bad : Bad)
      → IsAtPiece given mid walk pieces start commands → IsBadHere walk bad.piece
      → bad.zeros ≡ zeros_of walk.place.byte (piece_or_rest walk.pieces)
      → (following : Following) → following ≡ record { pieces = bad.following; kind = bad.kind }
      → Follow several given left (concat pieces ++ piece_or_rest walk.pieces) (piece_or_rest walk.pieces) now following → (base count : ℕ)
      → base ≡ start.count → count ≡ walk.state.count → IsState walk.state → (findings : Findings)
      → findings ≡ record {
        base = base;
        commands = count - base;
        kept = walk.place.byte;
        dropped = length (piece_or_rest now);
        bad = Some bad;
      }
      → ReadsSurvey several given left walk.state findings
  surveyed-bad mid now bad p here zeros following same f base count is all kept findings found =
      let piece = piece_or_rest walk.pieces in
      let read = p.read in
      let bytes = all-read several given mid left walk pieces start commands p now following f in
      record {
        holds = Consumes-whole given left bytes (λ bytes. IsSurvey several bytes walk.state findings) f.taken f.at_end
            (subst (IsSurvey several bytes walk.state) (sym found) (record {
              short = f.short;
              pieces = pieces;
              unread = piece ∷ f.further;
              rest = piece_or_rest now;
              cut = cut-followed several given mid left walk pieces start commands p now following f;
              mean = read.performed.mean;
              base = base-count pieces start commands walk.state read.performed base is;
              commands = counted-records pieces start commands walk.state read.performed base is ∙ ap (λ n. suc (n - base)) (sym all);
              kept = read.place.byte;
              dropped = refl;
              bad = (
                bad-is several given mid left walk pieces start commands p now following f bad.piece here,
                f.counted ∙ ap (λ (f : Following). f.pieces) same,
                subst (λ kind. IsOfKind several kind piece f.further) (ap (λ (f : Following). f.kind) same) f.kind,
                zeros ∙ ap (λ byte. zeros_of byte piece) here.byte,
              );
            }));
        kept = kept;
        at_end = f.at_end;
        read = (bytes, f.taken, f.short);
      }

-- a file whose base is not refused for a number
pub not-started : (given : Option (List ℕ)) (f : HistoryFault) → IfSome given (λ bytes. RefusesStart None bytes f)
    → IfSome given (λ bytes. RefusesSurvey bytes f)
not-started given f = some-map given (λ bytes. RefusesStart None bytes f) (λ bytes. RefusesSurvey bytes f) start
  where
    start : (bytes : List ℕ) → RefusesStart None bytes f → RefusesSurvey bytes f
    start bytes (inl r) = r
    start bytes (inr (is, number, asked, starts)) = absurd (cc asked)

-- a walk without a number that has stopped, and not at a bad piece
pub not-bad : (given left : Option (List ℕ)) (walk : Walked) (pieces : List (List ℕ)) (start : Contents) (commands : List Command)
    (f : HistoryFault) → ((bad : BadPiece) → f ≡ Damaged bad → ⊥) → Stops None given left walk pieces start commands f
    → IfSome given (λ bytes. RefusesSurvey bytes f)
not-bad given left walk pieces start commands (Damaged bad) other s = absurd (other bad refl)
not-bad given left walk pieces start commands NoSuchCommand other s = absurd (let asked = s.1 in cc asked)
not-bad given left walk pieces start commands NotAStore other s = s
not-bad given left walk pieces start commands Input other s = s
not-bad given left walk pieces start commands Output other s = s
not-bad given left walk pieces start commands OutOfMemory other s = s
