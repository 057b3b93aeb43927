-- The walk over a store's file: what each call makes of what was read, and what the bytes of the file are then.
use Rattle.std.proofs.Common.{◌≡◌, inl, inr, ⊎_elim, refl, sym, ◌∙◌, ap, subst, arith, ◌<◌, append_assoc, length-append}
use Rattle.std.{proofs.lemmas.List.Sums.{sum_by-append, count_by-le-length}, specs.Prelude.{ℕ, ◌+◌, Bool, true, false, List, [], ◌∷◌, ◌++◌}}
use Rattle.std.specs.Prelude.{length, ◌==◌, cond, Option, Some, None, Result, Ok, Err, IfSome}
use Rattle.conf_history.proofs.Prelude.{All, concat, Consumes, Consumes-trans, Consumes-whole, append-nil, concat-append, All-nil, All-cons}
use Rattle.conf_history.proofs.Prelude.{All-push, ClosesOnce, Pieces, SomePieces, Advances, AdvancesToPiece, AdvancesToEnd, FindsTooLong}
use Rattle.conf_history.proofs.Prelude.{FindsInputLong, IsSound, ahead, bytes_read, input_limit, piece_limit, piece_or_rest, store_limit}
use Rattle.conf_history.proofs.Prelude.{Command, Contents, after-count, IsBase, IsNoBase, AreRecords, Means, RefusesRecord, RecordFault}
use Rattle.conf_history.proofs.Prelude.{pieces-joined, no_closing, no-others, records-joined, after-joined, after-done, zero-no-record}
use Rattle.conf_history.{proofs.Prelude.{All-append, IsNoRecord, NoZeroByte}, specs.{BadPieces.{IsBadPiece, line_feeds}, Following.Follow}}
use Rattle.conf_history.specs.Histories.{IsOfKind, MeansUpTo, IsBadAt, StartsAfter, IsNoStore, RefusesSurvey, ReadsAtMost}
use Rattle.conf_history.specs.Walks.{IsTornBehind, IsBetween, IsAtPiece, IsAtEndOf, Performs, IsBadHere, RefusesPiece, HasRoom}
use Rattle.conf_history.specs.{Walks.{AfterAdvance, HasLimits, LacksPiece, Walked}, declared.following.BadKind.TheVariants.Torn}
use Rattle.conf_history.specs.declared.{following.{BadKind.TheVariants.Unexpected, Following.Following}, place.BadPiece.BadPiece}
use Rattle.{conf_history.specs.{declared.place.Place.Place, Faults.{fault_here, fault_of_pieces}}, yaml_chars.specs.Signs.line_feed}
use Rattle.yaml_docs.specs.declared.pieces.{Pieces.Pieces as Reading, PiecesFault.PiecesFault}
use Rattle.yaml_docs.specs.declared.pieces.PiecesFault.TheVariants as fault
use Rattle.conf_store.specs.declared.records.RecordFault.TheVariants as record_fault

-- ---- known bytes

-- known bytes begin with what was read of them
pub known : (given left : Option (List ℕ)) (read : List ℕ) (P : List ℕ → Type 0) → Consumes given left read
    → ((after : List ℕ) → P (read ++ after)) → IfSome given P
known None left read P taken all = tt
known (Some xs) None read P taken all = absurd taken
known (Some xs) (Some ys) read P taken all = subst P (sym taken) (all ys)

-- what holds of all bytes
pub any-bytes : (given : Option (List ℕ)) (P : List ℕ → Type 0) → ((bytes : List ℕ) → P bytes) → IfSome given P
any-bytes None P all = tt
any-bytes (Some xs) P all = all xs

pub some-map : (given : Option (List ℕ)) (P Q : List ℕ → Type 0) → ((bytes : List ℕ) → P bytes → Q bytes) → IfSome given P → IfSome given Q
some-map None P Q f p = tt
some-map (Some xs) P Q f p = f xs p

-- ---- lists of pieces

pub concat-last : (pieces : List (List ℕ)) (piece : List ℕ) → concat (pieces ++ piece ∷ []) ≡ concat pieces ++ piece
concat-last pieces piece = concat-append pieces (piece ∷ []) ∙ ap (λ l. concat pieces ++ l) (append-nil piece)

-- a piece is one of the pieces, or comes after them
pub moved : (pieces : List (List ℕ)) (piece more : List ℕ) → concat pieces ++ (piece ++ more) ≡ concat (pieces ++ piece ∷ []) ++ more
moved pieces piece more = sym (append_assoc (concat pieces) piece more) ∙ ap (λ l. l ++ more) (sym (concat-last pieces piece))

-- a piece is not empty
pub closed-some : (piece : List ℕ) → ClosesOnce piece → 0 < length piece
closed-some piece c = omega (arith, c.closes.ends)

-- bytes that begin with pieces have these pieces, and further ones
pub begins-with : SomePieces → (pieces : List (List ℕ)) (further after : List ℕ) → All ClosesOnce pieces
    → (more : List (List ℕ)) × (rest : List ℕ) × Pieces ((concat pieces ++ further) ++ after) (pieces ++ more) rest
begins-with some pieces further after closed =
    let left = some (further ++ after) in
    let prefix : Pieces (concat pieces) pieces [] =
    record { joined = sym (append-nil (concat pieces)); closed = closed; unclosed = no_closing } in
    let all = pieces-joined (concat pieces) (further ++ after) pieces left.0 left.1 prefix left.2 in
    (left.0, left.1, subst (λ b. Pieces b (pieces ++ left.0) left.1) (sym (append_assoc (concat pieces) further after)) all)

-- the same where a piece comes after the first pieces
pub begins-with-piece : SomePieces → (pieces : List (List ℕ)) (piece further after : List ℕ) → All ClosesOnce pieces → ClosesOnce piece
    → (more : List (List ℕ)) × (rest : List ℕ) × Pieces ((concat pieces ++ (piece ++ further)) ++ after) (pieces ++ piece ∷ more) rest
begins-with-piece some pieces piece further after closed closes =
    let all = begins-with some (pieces ++ piece ∷ []) further after (All-push ClosesOnce pieces piece closed closes) in
    let bytes = ap (λ l. l ++ after) (sym (moved pieces piece further)) in
    let joined = subst (λ b. Pieces b ((pieces ++ piece ∷ []) ++ all.0) all.1) bytes all.2 in (
      all.0,
      all.1,
      subst (λ ps. Pieces ((concat pieces ++ (piece ++ further)) ++ after) ps all.1)
          (append_assoc pieces (piece ∷ []) all.0) joined,
    )

-- ---- limits

module _ (given mid left : Option (List ℕ)) (old now : Reading) (prefix : List ℕ)
    (taken : Consumes given mid (prefix ++ ahead old)) (total : bytes_read old ≡ length (prefix ++ ahead old)) where
  too-long : FindsTooLong store_limit mid left old → IfSome given IsNoStore
  too-long f =
      let read = (prefix ++ ahead old) ++ f.more in
      known given left read IsNoStore (Consumes-trans given mid left (prefix ++ ahead old) f.more taken f.taken)
      (λ after. inl (omega (
        arith,
        length-append read after,
        length-append (prefix ++ ahead old) f.more,
        length-append prefix (ahead old),
        length-append (ahead old) f.more,
        f.overlong.long,
      )))

  input-long : FindsInputLong store_limit store_limit mid left old → IfSome given IsNoStore
  input-long f =
      let read = (prefix ++ ahead old) ++ (f.more ++ f.beyond) in
      known given left read IsNoStore (Consumes-trans given mid left (prefix ++ ahead old) (f.more ++ f.beyond) taken f.taken)
      (λ after. inl (omega (
        arith,
        length-append read after,
        length-append (prefix ++ ahead old) (f.more ++ f.beyond),
        length-append f.more f.beyond,
        total,
        f.full,
        f.some,
      )))

  -- where there is no next piece to be had, the fault is right
  pub refuses : (f : PiecesFault) → Advances store_limit store_limit mid left old now (Err f)
      → IfSome given (λ bytes. RefusesSurvey bytes (fault_of_pieces f))
  refuses fault.Read a = any-bytes given _ (λ bytes. tt)
  refuses fault.TooLong a = too-long a
  refuses fault.InputLong a = input-long a
  refuses fault.OutOfMemory a = any-bytes given _ (λ bytes. tt)

-- what was read within these limits
pub own-limits : (given left : Option (List ℕ)) (old now : Reading) (r : Result Bool PiecesFault) → IsSound store_limit store_limit old
    → Advances (piece_limit old) (input_limit old) given left old now r → Advances store_limit store_limit given left old now r
own-limits given left old now r s a =
    subst (λ n. Advances store_limit n given left old now r) s.whole
    (subst (λ n. Advances n (input_limit old) given left old now r) s.max a)

-- ---- the first piece

-- the place after the first piece
pub placed : (start place : Place) (piece bytes : List ℕ) → start ≡ record { number = 0; byte = 0; feeds = 0 } → bytes ≡ piece
    → place ≡ record { number = start.number + 1; byte = start.byte + length bytes; feeds = start.feeds + line_feeds bytes }
    → place ≡ record { number = 0 + 1; byte = 0 + length piece; feeds = 0 + line_feeds piece }
placed start place piece bytes zero same is =
    let from : Place → Place = λ t. record { number = t.number + 1; byte = t.byte + length bytes; feeds = t.feeds + line_feeds bytes } in
    let past : List ℕ → Place = λ l. record { number = 0 + 1; byte = 0 + length l; feeds = 0 + line_feeds l } in
    is ∙ ap from zero ∙ ap past same

module _ (given left : Option (List ℕ)) (old now : Reading) (none : ahead old ≡ []) (zero : bytes_read old ≡ 0) where
  first-piece : AdvancesToPiece store_limit store_limit given left old now → Consumes given left (piece_or_rest now ++ ahead now)
  first-piece a = subst (Consumes given left) (ap (λ l. l ++ a.more) (sym none) ∙ a.joined) a.taken

  -- without a piece there is no base
  pub no-piece : AdvancesToEnd store_limit store_limit given left old now → IfSome given IsNoStore
  no-piece a =
      Consumes-whole given left a.more IsNoStore a.taken a.at_end
      (inr (record {
        pieces = [];
        rest = piece_or_rest now;
        cut = record { joined = ap (λ l. l ++ a.more) (sym none) ∙ a.joined; closed = All-nil ClosesOnce; unclosed = a.unclosed };
        none = λ base records s is is_base. absurd (cc is);
      }))

  -- nor where the first piece is none
  pub no-base : SomePieces → AdvancesToPiece store_limit store_limit given left old now → IsNoBase (piece_or_rest now)
      → IfSome given IsNoStore
  no-base some a other =
      let piece = piece_or_rest now in
      known given left (piece ++ ahead now) IsNoStore (first-piece a)
      (λ after.
      (let all = begins-with-piece some [] piece (ahead now) after (All-nil ClosesOnce) a.piece in
      inr (record {
        pieces = piece ∷ all.0;
        rest = all.1;
        cut = all.2;
        none = λ base records s is is_base. (let same : base ≡ piece = cc is in other s (subst (λ b. IsBase b s) same is_base));
      })))

  -- a base begins the walk
  pub begun : (state : Contents) (place : Place) → AdvancesToPiece store_limit store_limit given left old now
      → IsBase (piece_or_rest now) state
      → place ≡ record { number = 0 + 1; byte = 0 + length (piece_or_rest now); feeds = 0 + line_feeds (piece_or_rest now) }
      → IsBetween given left (record { pieces = now; state = state; place = place }) (piece_or_rest now ∷ []) state []
  begun state place a is e =
      let piece = piece_or_rest now in
      let joined : a.more ≡ piece ++ ahead now = ap (λ l. l ++ a.more) (sym none) ∙ a.joined in
      let one : piece ++ ahead now ≡ (piece ++ []) ++ ahead now = ap (λ l. l ++ ahead now) (sym (append-nil piece)) in
      let number : place.number ≡ 0 + 1 = ap (λ (p : Place). p.number) e in
      let byte : place.byte ≡ 0 + length piece = ap (λ (p : Place). p.byte) e in
      let feeds : place.feeds ≡ 0 + line_feeds piece = ap (λ (p : Place). p.feeds) e in
      record {
        taken = subst (Consumes given left) (joined ∙ one) a.taken;
        total = (let size = ap length (joined ∙ one) in omega (arith, a.total, zero, size));
        limits = a.sound;
        performed = record {
          closed = All-cons ClosesOnce piece [] a.piece (All-nil ClosesOnce);
          mean = record {
            base = piece;
            records = [];
            are = refl;
            start = state;
            is_base = is;
            commands = [];
            are_records = tt;
            leads = refl;
          };
          begins = refl;
          performed = refl;
        };
        place = record {
          number = omega (arith, number);
          byte = ap length (append-nil piece) ∙ omega (arith, byte);
          feeds = ap line_feeds (append-nil piece) ∙ omega (arith, feeds);
          few = omega (arith, number, byte, closed-some piece a.piece);
        };
      }

-- the first piece was taken out of the reader
pub taken-out : (given left : Option (List ℕ)) (walk : Walked) (pieces : Reading) (done : List (List ℕ)) (start : Contents)
    (commands : List Command) → ahead pieces ≡ ahead walk.pieces → bytes_read pieces ≡ bytes_read walk.pieces
    → HasLimits pieces → IsBetween given left walk done start commands
    → IsBetween given left (record { pieces = pieces; state = walk.state; place = walk.place }) done start commands
taken-out given left walk pieces done start commands same read limits is = record {
  taken = subst (λ further. Consumes given left (concat done ++ further)) (sym same) is.taken;
  total = read ∙ is.total ∙ ap (λ further. length (concat done ++ further)) (sym same);
  limits = limits;
  performed = is.performed;
  place = is.place;
}

-- ---- the next piece

module _ (given mid left : Option (List ℕ)) (old : Walked) (now : Reading) (pieces : List (List ℕ)) (start : Contents)
    (commands : List Command) (b : IsBetween given mid old pieces start commands) where
  joined-on : (more after : List ℕ) → ahead old.pieces ++ more ≡ after
      → (concat pieces ++ ahead old.pieces) ++ more ≡ concat pieces ++ after
  joined-on more after e = append_assoc (concat pieces) (ahead old.pieces) more ∙ ap (λ l. concat pieces ++ l) e

  to-piece : AdvancesToPiece store_limit store_limit mid left old.pieces now
      → IsAtPiece given left (record old { pieces = now }) pieces start commands
  to-piece a =
      let on = joined-on a.more (piece_or_rest now ++ ahead now) a.joined in
      record {
        read = record {
          taken = subst (Consumes given left) on (Consumes-trans given mid left (concat pieces ++ ahead old.pieces) a.more b.taken a.taken);
          total = a.total ∙ ap (λ n. n + length a.more) b.total
              ∙ sym (length-append (concat pieces ++ ahead old.pieces) a.more) ∙ ap length on;
          limits = a.sound;
          performed = b.performed;
          place = b.place;
        };
        piece = a.piece;
      }

  to-end : AdvancesToEnd store_limit store_limit mid left old.pieces now
      → IsAtEndOf given left (record old { pieces = now }) pieces start commands
  to-end a =
      let on = joined-on a.more (piece_or_rest now) a.joined in
      record {
        taken = subst (Consumes given left) on (Consumes-trans given mid left (concat pieces ++ ahead old.pieces) a.more b.taken a.taken);
        at_end = a.at_end;
        short = (let size = sym (ap length on) ∙ length-append (concat pieces ++ ahead old.pieces) a.more in
            omega (arith, size, b.total, a.total));
        unclosed = a.unclosed;
        performed = b.performed;
        place = b.place;
      }

  pub advances : (found : Bool) → Advances store_limit store_limit mid left old.pieces now (Ok found)
      → AfterAdvance given left (record old { pieces = now }) pieces start commands (Ok found)
  advances true a = to-piece a
  advances false a = to-end a

  pub refuses-next : (f : PiecesFault) → Advances store_limit store_limit mid left old.pieces now (Err f)
      → LacksPiece given (fault_of_pieces f)
  refuses-next fault.Read a = any-bytes given _ (λ bytes. tt)
  refuses-next fault.TooLong a = too-long given mid left old.pieces now (concat pieces) b.taken b.total a
  refuses-next fault.InputLong a = input-long given mid left old.pieces now (concat pieces) b.taken b.total a
  refuses-next fault.OutOfMemory a = any-bytes given _ (λ bytes. tt)

-- ---- a piece

module _ (given left : Option (List ℕ)) (old : Walked) (pieces : List (List ℕ)) (start : Contents)
    (commands : List Command) (at : IsAtPiece given left old pieces start commands) where
  -- there is room for the numbers of the place
  pub has-room : HasRoom old.pieces old.place
  has-room =
      let piece = piece_or_rest old.pieces in
      record {
        few = at.read.place.few;
        lines = omega (arith, at.read.place.feeds, at.read.place.byte, count_by-le-length (λ b. b == line_feed) (concat pieces));
        short = omega (
          arith,
          at.read.place.byte,
          at.read.total,
          at.read.limits.total,
          length-append (concat pieces) (piece ++ ahead old.pieces),
          length-append piece (ahead old.pieces),
        );
      }

  -- a piece that is performed is one of those that were
  pub performs-on : (new : Walked) (command : Command) → Performs old new command
      → IsBetween given left new (pieces ++ piece_or_rest old.pieces ∷ []) start (commands ++ command ∷ [])
  performs-on new command done =
      let piece = piece_or_rest old.pieces in
      let m = at.read.performed.mean in
      let all = pieces ++ piece ∷ [] in
      let on = moved pieces piece (ahead old.pieces) in
      let count : old.state.count ≡ m.start.count + length m.commands = after-count m.start old.state m.commands m.leads in
      record {
        taken = subst (λ (p : Reading). Consumes given left (concat all ++ ahead p)) (sym done.pieces)
            (subst (Consumes given left) on at.read.taken);
        total = subst (λ (p : Reading). bytes_read p ≡ length (concat all ++ ahead p)) (sym done.pieces) (at.read.total ∙ ap length on);
        limits = subst (IsSound store_limit store_limit) (sym done.pieces) at.read.limits;
        performed = record {
          closed = All-push ClosesOnce pieces piece at.read.performed.closed at.piece;
          mean = record {
            base = m.base;
            records = m.records ++ piece ∷ [];
            are = ap (λ ps. ps ++ piece ∷ []) m.are;
            start = m.start;
            is_base = m.is_base;
            commands = m.commands ++ command ∷ [];
            are_records = records-joined m.start.count m.records (piece ∷ []) m.commands (command ∷ []) m.are_records
                (subst (λ n. AreRecords n (piece ∷ []) (command ∷ [])) count (done.is_record, tt));
            leads = after-joined m.start old.state new.state m.commands (command ∷ []) m.leads
                (after-done old.state new.state command done.done);
          };
          begins = at.read.performed.begins;
          performed = ap (λ cs. cs ++ command ∷ []) at.read.performed.performed;
        };
        place = record {
          number = (let more = length-append pieces (piece ∷ []) in omega (arith, more, at.read.place.number, done.number));
          byte = (let more = ap length (concat-last pieces piece) ∙ length-append (concat pieces) piece in
              omega (arith, more, at.read.place.byte, done.byte));
          feeds = (let more = ap line_feeds (concat-last pieces piece)
              ∙ sum_by-append (λ b. cond (b == line_feed) 1 0) (concat pieces) piece in
              omega (arith, more, at.read.place.feeds, done.feeds));
          few = omega (arith, at.read.place.few, done.number, done.byte, closed-some piece at.piece);
        };
      }

-- ---- a bad piece, and what follows it

module _ (several : Bool) (given mid left : Option (List ℕ)) (walk : Walked) (pieces : List (List ℕ)) (start : Contents)
    (commands : List Command) (at : IsAtPiece given mid walk pieces start commands) (now : Reading) (following : Following)
    (f : Follow several given left (concat pieces ++ piece_or_rest walk.pieces) (piece_or_rest walk.pieces) now following) where
  abbrev bad-piece : List ℕ
  bad-piece = piece_or_rest walk.pieces

  abbrev pub all-read : List ℕ
  all-read = (concat pieces ++ bad-piece) ++ (concat f.further ++ piece_or_rest now)

  pub cut-followed : Pieces all-read (pieces ++ bad-piece ∷ f.further) (piece_or_rest now)
  cut-followed =
      let rest = piece_or_rest now in
      record {
        joined = append_assoc (concat pieces) bad-piece (concat f.further ++ rest)
            ∙ ap (λ l. concat pieces ++ l) (sym (append_assoc bad-piece (concat f.further) rest))
            ∙ sym (append_assoc (concat pieces) (bad-piece ++ concat f.further) rest)
            ∙ ap (λ l. l ++ rest) (sym (concat-append pieces (bad-piece ∷ f.further)));
        closed = All-append ClosesOnce pieces (bad-piece ∷ f.further) at.read.performed.closed
            (All-cons ClosesOnce bad-piece f.further at.piece f.closed);
        unclosed = f.unclosed;
      }

  pub bad-is : (bad : BadPiece) → IsBadHere walk bad → IsBadPiece pieces bad-piece walk.state bad
  bad-is bad here = record {
    number = at.read.place.number ∙ here.number;
    byte = at.read.place.byte ∙ here.byte;
    line = ap (λ n. n + 1) at.read.place.feeds ∙ here.line;
    why = here.why;
  }

  -- one that no crash left is the first bad one
  pub bad-followed : following.kind ≡ Unexpected → (bad : BadPiece) → IsBadHere walk bad
      → IfSome given (λ bytes. (n : ℕ) × IsBadAt several bytes walk.state bad n)
  bad-followed is bad here =
      Consumes-whole given left all-read (λ bytes. (n : ℕ) × IsBadAt several bytes walk.state bad n) f.taken f.at_end (
        following.pieces,
        record {
          pieces = pieces;
          piece = bad-piece;
          further = f.further;
          rest = piece_or_rest now;
          cut = cut-followed;
          mean = at.read.performed.mean;
          is_bad = bad-is bad here;
          kept = subst (λ kind. IsOfKind several kind bad-piece f.further) is f.kind;
          counted = f.counted;
        },
      )

  -- before one that a crash may have left, the file means the state
  pub torn-followed : NoZeroByte → following.kind ≡ Torn → IsTornBehind several given left walk.state pieces start commands
  torn-followed law is =
      let kind : IsOfKind several Torn bad-piece f.further = subst (λ kind. IsOfKind several kind bad-piece f.further) is f.kind in
      record {
        bytes = all-read;
        others = bad-piece ∷ f.further;
        rest = piece_or_rest now;
        taken = f.taken;
        at_end = f.at_end;
        short = f.short;
        cut = cut-followed;
        hole = kind.0;
        lost = ⊎_elim (λ noted. inl noted)
            (λ none. inr (All-cons IsNoRecord bad-piece f.further (zero-no-record law bad-piece kind.0) none)) kind.1;
        performed = at.read.performed;
      }

pub torn-means : (several : Bool) (given left : Option (List ℕ)) (s : Contents) (pieces : List (List ℕ)) (start : Contents)
    (commands : List Command)
    → IsTornBehind several given left s pieces start commands → IfSome given (λ bytes. Means several bytes s)
torn-means several given left s pieces start commands t =
    Consumes-whole given left t.bytes (λ bytes. Means several bytes s) t.taken t.at_end
    (record {
      short = t.short;
      pieces = pieces;
      others = t.others;
      rest = t.rest;
      cut = t.cut;
      mean = t.performed.mean;
      hole = t.hole;
      lost = t.lost;
    })

-- the fault of a piece that is not performed
pub refuses-here : (walk : Walked) (f : RecordFault) → RefusesRecord (piece_or_rest walk.pieces) walk.state f
    → RefusesPiece walk (fault_here walk.place f)
refuses-here walk (record_fault.Bad why) refused = record { number = refl; byte = refl; line = refl; why = refused }
refuses-here walk record_fault.OutOfMemory refused = tt

-- ---- the end

module _ (given left : Option (List ℕ)) (walk : Walked) (pieces : List (List ℕ)) (start : Contents) (commands : List Command) where
  -- at the end, the bytes mean the state
  pub end-means : (several : Bool) → IsAtEndOf given left walk pieces start commands
      → IfSome given (λ bytes. Means several bytes walk.state)
  end-means several e =
      Consumes-whole given left (concat pieces ++ piece_or_rest walk.pieces) (λ bytes. Means several bytes walk.state) e.taken e.at_end
      (record {
        short = e.short;
        pieces = pieces;
        others = [];
        rest = piece_or_rest walk.pieces;
        cut = no-others (concat pieces ++ piece_or_rest walk.pieces) pieces (piece_or_rest walk.pieces)
            (record { joined = refl; closed = e.performed.closed; unclosed = e.unclosed });
        mean = e.performed.mean;
        hole = tt;
        lost = inr (All-nil IsNoRecord);
      })

  -- before the end, the bytes mean the state up to its count
  pub up-to : SomePieces → IsBetween given left walk pieces start commands → (number : ℕ) → walk.state.count ≡ number
      → IfSome given (λ bytes. MeansUpTo bytes number walk.state)
  up-to some b number is =
      known given left (concat pieces ++ ahead walk.pieces) (λ bytes. MeansUpTo bytes number walk.state) b.taken
      (λ after.
      (let all = begins-with some pieces (ahead walk.pieces) after b.performed.closed in
      record { pieces = pieces; further = all.0; rest = all.1; cut = all.2; mean = b.performed.mean; numbered = is }))

  -- a number before that of the base
  pub starts-after : SomePieces → IsBetween given left walk pieces start commands → (number : ℕ)
      → number < start.count → IfSome given (λ bytes. StartsAfter bytes number)
  starts-after some b number above =
      let m = b.performed.mean in
      known given left (concat pieces ++ ahead walk.pieces) (λ bytes. StartsAfter bytes number) b.taken
      (λ after.
      (let all = begins-with some pieces (ahead walk.pieces) after b.performed.closed in
      record {
        base = m.base;
        further = m.records ++ all.0;
        rest = all.1;
        cut = subst (λ ps. Pieces ((concat pieces ++ ahead walk.pieces) ++ after) (ps ++ all.0) all.1) m.are all.2;
        start = m.start;
        is_base = m.is_base;
        above = subst (λ (t : Contents). number < t.count) (sym b.performed.begins) above;
      }))

  -- how much was read
  pub end-read : IsAtEndOf given left walk pieces start commands → ReadsAtMost store_limit given left
  end-read e = (concat pieces ++ piece_or_rest walk.pieces, e.taken, e.short)

  pub between-read : IsBetween given left walk pieces start commands → ReadsAtMost store_limit given left
  between-read b = (concat pieces ++ ahead walk.pieces, b.taken, omega (arith, b.total, b.limits.total))
