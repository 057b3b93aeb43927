-- What a sink has taken at some moments, and what a crash leaves from then on.
use Rattle.std.proofs.{Common.{◌≡◌, ⊎_elim, refl, sym, ◌∙◌, ap, subst, arith, ◌≤◌, append_assoc, length-append}, Math.Seq.drop-append_seam}
use Rattle.std.{proofs.lemmas.List.Elements.{All-head, All-tail}, specs.Prelude.{ℕ, zero, suc, ◌+◌, ◌-◌, false, List, [], ◌∷◌, ◌++◌}}
use Rattle.std.specs.Prelude.{length, take, drop, All}
use Rattle.conf_session.proofs.Prelude.{append-nil, take_all, cases_lt, take-append-le, All-append, Image, IsImage, DiskModel, LeavesOnly}
use Rattle.conf_session.proofs.{Prelude.{Command, Contents, after, MeansPrefix, HasFlushed, StoreView}, SinkLemmas.further-kept}
use Rattle.conf_session.{proofs.TurnLemmas.{leads-performed, kept-after}, specs.Answers.{Stored, accepted_command}}
use Rattle.conf_session.specs.{Answers.{answer_bytes, stored_after}, Gathering.{HandsOut, PerformsTurns}, Runs.{AfterAtLeast, stored_of}}
use Rattle.conf_session.specs.Handings.{Handing, HoldsSince, accepted_within, handed_bytes, handings_of, moment_after, taken_in}
use Rattle.conf_session.specs.{Requests.Request, Groups.{Turn, all_asked, turn_accepted, turn_output, turns_accepted, turns_output}}
use Rattle.conf_session.specs.Groups.{turns_within, stored_after_turn}

-- ---- what is answered within so many bytes

-- no more than was accepted, where all these bytes are of the turns
pub few-within : (now : Stored) (ts us : List Turn) (bytes : ℕ) → bytes ≤ length (turns_output now ts)
    → turns_within now (ts ++ us) bytes ≤ length (turns_accepted now ts)
few-within now [] [] bytes few = omega arith
few-within now [] (u ∷ us) zero few = omega arith
few-within now [] (u ∷ us) (suc bytes) few = absurd (omega (arith, few))
few-within now (t ∷ ts) us zero few = omega arith
few-within now (t ∷ ts) us (suc bytes) few =
    let sum = length-append (turn_output now t) (turns_output (stored_after_turn now t) ts) in
    let all = length-append (turn_accepted now t) (turns_accepted (stored_after_turn now t) ts) in
    let more = few-within (stored_after_turn now t) ts us (suc bytes - length (turn_output now t)) (omega (arith, few, sum)) in
    omega (arith, more, all)

-- further turns answer nothing within them
pub within-joined : (now : Stored) (ts us : List Turn) (bytes : ℕ) → bytes ≤ length (turns_output now ts)
    → turns_within now (ts ++ us) bytes ≡ turns_within now ts bytes
within-joined now [] [] bytes few = refl
within-joined now [] (u ∷ us) zero few = refl
within-joined now [] (u ∷ us) (suc bytes) few = absurd (omega (arith, few))
within-joined now (t ∷ ts) us zero few = refl
within-joined now (t ∷ ts) us (suc bytes) few =
    let sum = length-append (turn_output now t) (turns_output (stored_after_turn now t) ts) in
    ap (λ n. length (turn_accepted now t) + n)
    (within-joined (stored_after_turn now t) ts us (suc bytes - length (turn_output now t)) (omega (arith, few, sum)))

-- requests as turns
pub asked-within : (now : Stored) (rs : List Request) (bytes : ℕ) → turns_within now (all_asked rs) bytes ≡ accepted_within now rs bytes
asked-within now [] bytes = refl
asked-within now (r ∷ rs) zero = refl
asked-within now (r ∷ rs) (suc bytes) =
    ap (λ n. length (accepted_command now r) + n) (asked-within (stored_after now r) rs (suc bytes - length (answer_bytes now r)))

-- an image after some commands is one after these and further ones
longer-kept : (start : Contents) (least : ℕ) (xs ys : List Command) (image : Image) → least ≤ length xs
    → AfterAtLeast start least xs image → AfterAtLeast start least (xs ++ ys) image
longer-kept start least xs ys image within some = ⊎_elim (λ all. (
    let whole : take some.count xs ≡ xs = take_all some.count xs (omega (arith, all)) in
    let upto : take (length xs) (xs ++ ys) ≡ xs = take-append-le (length xs) xs ys (omega arith)
    ∙ take_all (length xs) xs (omega arith) in
    record {
      count = length xs;
      enough = within;
      state = some.state;
      leads = ap (after start) (upto ∙ sym whole) ∙ some.leads;
      means = some.means;
    }))
    (λ few. (
    let fewer : take some.count (xs ++ ys) ≡ take some.count xs = take-append-le some.count xs ys (omega (arith, few)) in
    record {
      count = some.count;
      enough = some.enough;
      state = some.state;
      leads = ap (after start) fewer ∙ some.leads;
      means = some.means;
    }))
    (cases_lt (length xs) some.count)

-- ---- handings

bytes-joined : (hs ks : List Handing) → handed_bytes (hs ++ ks) ≡ handed_bytes hs + handed_bytes ks
bytes-joined [] ks = omega arith
bytes-joined (h ∷ hs) ks = let more = bytes-joined hs ks in omega (arith, more)

pub hands-both : (had mid has : List Handing) (moment first second most : ℕ) → HandsOut had mid moment first
    → HandsOut mid has moment second → first + second ≤ most → HandsOut had has moment most
hands-both had mid has moment first second most one two within = record {
  handings = one.handings ++ two.handings;
  noted = two.noted ∙ ap (λ l. l ++ two.handings) one.noted ∙ append_assoc had one.handings two.handings;
  now = All-append (λ (h : Handing). h.moment ≡ moment) one.handings two.handings one.now two.now;
  few = (let sum = bytes-joined one.handings two.handings in let a = one.few in let b = two.few in omega (arith, sum, a, b, within));
}

module _ {D : Type 0} (model : DiskModel D) where
  -- what holds since some handings holds on, after a step of the disk
  since-later : (now new : D) (taken : ℕ) (handings : List Handing) (P R : ℕ → Image → Type 0) (Q : Image → Type 0)
      → LeavesOnly model now new Q
      → ((bytes : ℕ) (image : Image) → bytes ≤ taken + handed_bytes handings → P bytes image → R bytes image)
      → ((bytes : ℕ) (image : Image) → bytes ≤ taken + handed_bytes handings → Q image → R bytes image)
      → HoldsSince model now taken handings P → HoldsSince model new taken handings R
  since-later now new taken [] P R Q leaves p q holds = tt
  since-later now new taken (h ∷ hs) P R Q leaves p q holds = (
    (let later = leaves.later in let was = holds.0 in omega (arith, later, was)),
    (λ image is. ⊎_elim (λ past. p (taken + h.bytes) image (omega arith) (holds.1 image past))
        (λ since. q (taken + h.bytes) image (omega arith) since) (leaves.before h.moment image holds.0 is)),
    since-later now new (taken + h.bytes) hs P R Q leaves
        (λ bytes image few. p bytes image (omega (arith, few)))
        (λ bytes image few. q bytes image (omega (arith, few))) holds.2,
  )

  -- and so does what follows from it
  pub since-weaker : (now : D) (taken : ℕ) (handings : List Handing) (P R : ℕ → Image → Type 0)
      → ((bytes : ℕ) (image : Image) → P bytes image → R bytes image)
      → HoldsSince model now taken handings P → HoldsSince model now taken handings R
  since-weaker now taken [] P R p holds = tt
  since-weaker now taken (h ∷ hs) P R p holds = (
    holds.0,
    (λ image is. p (taken + h.bytes) image (holds.1 image is)),
    since-weaker now (taken + h.bytes) hs P R p holds.2,
  )

  -- what holds of a moment, and since each handing after it, holds since so many handings
  pub since-some : (now : D) (taken : ℕ) (handings : List Handing) (P : ℕ → Image → Type 0) (moment count : ℕ)
      → ((image : Image) → model.left now moment image → P taken image) → HoldsSince model now taken handings P
      → (image : Image) → model.left now (moment_after moment handings count) image
      → P (taken + handed_bytes (take count handings)) image
  since-some now taken [] P moment count here holds image is =
      subst (λ (l : List Handing). P (taken + handed_bytes l) image) (sym (take_all count [] (omega arith)))
      (subst (λ (n : ℕ). P n image) (omega arith) (here image is))
  since-some now taken (h ∷ hs) P moment zero here holds image is =
      subst (λ (n : ℕ). P n image) (omega arith) (here image is)
  since-some now taken (h ∷ hs) P moment (suc count) here holds image is =
      subst (λ (n : ℕ). P n image) (omega arith)
      (since-some now (taken + h.bytes) hs P h.moment count holds.1 holds.2 image is)

  -- and of handings at this moment
  since-now : (now : D) (taken : ℕ) (hs ks : List Handing) (P : ℕ → Image → Type 0)
      → All (λ (h : Handing). h.moment ≡ model.moment now) ks
      → ((bytes : ℕ) (image : Image) → bytes ≤ taken + handed_bytes hs + handed_bytes ks
      → model.left now (model.moment now) image → P bytes image)
      → HoldsSince model now taken hs P → HoldsSince model now taken (hs ++ ks) P
  since-now now taken [] [] P all p holds = tt
  since-now now taken [] (k ∷ ks) P all p holds = (
    (let same = All-head (λ (h : Handing). h.moment ≡ model.moment now) k ks all in omega (arith, same)),
    (λ image is. p (taken + k.bytes) image (omega arith)
        (subst (λ (t : ℕ). model.left now t image) (All-head (λ (h : Handing). h.moment ≡ model.moment now) k ks all) is)),
    since-now now (taken + k.bytes) [] ks P (All-tail (λ (h : Handing). h.moment ≡ model.moment now) k ks all)
        (λ bytes image few. p bytes image (omega (arith, few))) tt,
  )
  since-now now taken (h ∷ hs) ks P all p holds = (
    holds.0,
    holds.1,
    since-now now (taken + h.bytes) hs ks P all (λ bytes image few. p bytes image (omega (arith, few))) holds.2,
  )

-- ---- handings in a session

-- A sink took no more than so many bytes since the session began. From each handing on, a crash leaves a state that has
-- each command whose answer was begun.
pub record Handed {D : Type 0} (model : DiskModel D) (had has : List Handing) (old now : StoreView D) (turns : List Turn) (most : ℕ)
    : Type 0 where
  pub handings : List Handing
  pub noted : has ≡ had ++ handings
  pub few : handed_bytes handings ≤ most
  pub none : turns ≡ [] → handings ≡ []
  pub holds : model.honest → old.reopen ≡ false → (flushed : Contents) (waiting : List Command)
      → HasFlushed (model.folder old.disk) flushed waiting old.state
      → HoldsSince model now.disk 0 handings (λ bytes image.
      AfterAtLeast flushed (length waiting + turns_within (stored_of old) turns bytes)
      (waiting ++ turns_accepted (stored_of old) turns) image)

module _ {D : Type 0} (model : DiskModel D) (had : List Handing) (old : StoreView D) where
  -- none yet
  pub handed-none : (now : StoreView D) (turns : List Turn) → Handed model had had old now turns 0
  handed-none now turns = record {
    handings = [];
    noted = sym (append-nil had);
    few = omega arith;
    none = λ e. refl;
    holds = λ h on flushed waiting has. tt;
  }

  -- the same, where there may be more
  pub handed-more : (has : List Handing) (now : StoreView D) (turns : List Turn) (most more : ℕ) → most ≤ more
      → Handed model had has old now turns most → Handed model had has old now turns more
  handed-more has now turns most more above s =
      let few = s.few in
      record { handings = s.handings; noted = s.noted; few = omega (arith, few, above); none = s.none; holds = s.holds }

  -- a list that begins with elements is not empty
  begun-none : (ts us : List Turn) → ts ++ us ≡ [] → ts ≡ []
  begun-none [] us e = refl
  begun-none (t ∷ ts) us e = absurd (cc e)

  -- further turns are performed after those that are flushed
  pub handed-later : (has : List Handing) (now new : StoreView D) (turns us : List Turn) (most : ℕ) (more : List Command)
      → turns_accepted (stored_of old) (turns ++ us) ≡ turns_accepted (stored_of old) turns ++ more
      → most ≤ length (turns_output (stored_of old) turns)
      → PerformsTurns model old now turns
      → (model.honest → LeavesOnly model now.disk new.disk (λ image. MeansPrefix now.state more image))
      → Handed model had has old now turns most → Handed model had has old new (turns ++ us) most
  handed-later has now new turns us most more all within performs leaves s = record {
    handings = s.handings;
    noted = s.noted;
    few = s.few;
    none = λ e. s.none (begun-none turns us e);
    holds = λ h on flushed waiting is.
        (let start = stored_of old in
        let first = waiting ++ turns_accepted start turns in
        let joined : first ++ more ≡ waiting ++ turns_accepted start (turns ++ us) =
        append_assoc waiting (turns_accepted start turns) more ∙ ap (λ l. waiting ++ l) (sym all) in
        let sum = length-append waiting (turns_accepted start turns) in
        let few = s.few in
        let leads = leads-performed model old now turns performs h flushed waiting is in
        since-later model now.disk new.disk 0 s.handings _ _ _ (leaves h)
        (λ bytes image upto some.
        (let least = within-joined start turns us bytes (omega (arith, upto, few, within)) in
        let below = few-within start turns us bytes (omega (arith, upto, few, within)) in
        subst (λ (l : List Command). AfterAtLeast flushed (length waiting + turns_within start (turns ++ us) bytes) l image) joined
        (subst (λ (n : ℕ). AfterAtLeast flushed (length waiting + n) (first ++ more) image) (sym least)
        (longer-kept flushed (length waiting + turns_within start turns bytes) first more image (omega (arith, sum, below, least)) some))))
        (λ bytes image upto some.
        (let below = few-within start turns us bytes (omega (arith, upto, few, within)) in
        let kept = further-kept flushed now.state first more image leads some in
        let enough = kept.enough in
        subst (λ (l : List Command). AfterAtLeast flushed (length waiting + turns_within start (turns ++ us) bytes) l image) joined
        (record {
          count = kept.count;
          enough = omega (arith, enough, sum, below);
          state = kept.state;
          leads = kept.leads;
          means = kept.means;
        })))
        (s.holds h on flushed waiting is));
  }

  -- answers are handed out, once their turns are flushed
  pub handed-now : (mid has : List Handing) (now : StoreView D) (turns : List Turn) (most more : ℕ) → (turns ≡ [] → ⊥)
      → PerformsTurns model old now turns → most + more ≤ length (turns_output (stored_of old) turns)
      → ((image : Image) → model.honest → model.left now.disk (model.moment now.disk) image → IsImage (model.folder now.disk) image)
      → HandsOut mid has (model.moment now.disk) more
      → Handed model had mid old now turns most → Handed model had has old now turns (most + more)
  handed-now mid has now turns most more some performs within only hands s = record {
    handings = s.handings ++ hands.handings;
    noted = hands.noted ∙ ap (λ l. l ++ hands.handings) s.noted ∙ append_assoc had s.handings hands.handings;
    few = (let sum = bytes-joined s.handings hands.handings in let a = s.few in let b = hands.few in omega (arith, sum, a, b));
    none = λ e. absurd (some e);
    holds = λ h on flushed waiting is.
        (let start = stored_of old in
        let a = s.few in
        let b = hands.few in
        let sum = length-append waiting (turns_accepted start turns) in
        since-now model now.disk 0 s.handings hands.handings _ hands.now
        (λ bytes image upto left.
        (let below = few-within start turns [] bytes (omega (arith, upto, a, b, within)) in
        let same = ap (λ l. turns_within start l bytes) (append-nil turns) in
        kept-after model old now turns performs h flushed waiting is (length waiting + turns_within start turns bytes)
        (omega (arith, sum, below, same)) image (only image h left)))
        (s.holds h on flushed waiting is));
  }

  -- nothing was taken before the first turn
  pub handed-empty : (has : List Handing) (now new : StoreView D) (turns us : List Turn) (most : ℕ) → turns ≡ []
      → Handed model had has old now turns most → Handed model had has old new us most
  handed-empty has now new turns us most empty s = record {
    handings = [];
    noted = s.noted ∙ ap (λ l. had ++ l) (s.none empty);
    few = omega arith;
    none = λ e. refl;
    holds = λ h on flushed waiting is. tt;
  }

-- what was taken during a session is what follows
module _ {D : Type 0} (model : DiskModel D) (had has : List Handing) (old new : StoreView D) (turns : List Turn) (most : ℕ)
    (s : Handed model had has old new turns most) where
  taken : s.handings ≡ taken_in (handings_of had has)
  taken = sym (drop-append_seam had s.handings) ∙ ap (drop (length had)) (sym s.noted)

  pub handed-after : has ≡ had ++ taken_in (handings_of had has)
  handed-after = s.noted ∙ ap (λ l. had ++ l) taken

  pub handed-since : model.honest → old.reopen ≡ false → (flushed : Contents) (waiting : List Command)
      → HasFlushed (model.folder old.disk) flushed waiting old.state
      → HoldsSince model new.disk 0 (taken_in (handings_of had has)) (λ bytes image.
      AfterAtLeast flushed (length waiting + turns_within (stored_of old) turns bytes)
      (waiting ++ turns_accepted (stored_of old) turns) image)
  handed-since h on flushed waiting is =
      subst (λ (l : List Handing). HoldsSince model new.disk 0 l (λ bytes image.
      AfterAtLeast flushed (length waiting + turns_within (stored_of old) turns bytes)
      (waiting ++ turns_accepted (stored_of old) turns) image)) taken (s.holds h on flushed waiting is)
