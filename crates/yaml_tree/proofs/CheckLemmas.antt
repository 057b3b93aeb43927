-- Open parts after one event more.
use Rattle.std.proofs.Common.{◌≡◌, Bool, List, Option, Some, None, Result, MatchResult, sym, ap, subst, ◌∙◌}
use Rattle.yaml_tree.proofs.Prelude.{MatchResult-weaker, ReadFault, TooLong, NotUtf8, Syntax, Documents, KeyNotText, KeyTwice, TooDeep}
use Rattle.yaml_tree.proofs.{Prelude.{LargeInStyle, OutOfMemory, Shape}, KeptLemmas.{Stepped, IsInner, inner_stepped, inner_none}}
use Rattle.yaml_tree.specs.{Building.HasNone, Frames.{Frame, step}, OpenParts.{Keeps, KeepsNext}, Kept.{Keep, kept_frames, frames_distinct}}

-- what a step has done, from what it does to what is kept
pub took : (keep : Keep) (held : List Frame) (now b : Bool) (o : Option (List Frame)) → Stepped keep held b o
    → now ≡ b → KeepsNext keep held now o
took keep held now b o s e = record { parts = s.parts; are = s.are; keeps = record { frames = s.frames; differ = e ∙ s.distinct } }

-- a fault that is right where the first is `None` is right where the second is
pub has_none : {A B : Type 0} (o : Option A) (p : Option B) → (o ≡ None → p ≡ None) → (fault : ReadFault)
    → HasNone o fault → HasNone p fault
has_none o p none KeyNotText h = none h
has_none o p none OutOfMemory h = tt
has_none o p none TooLong h = absurd h
has_none o p none (NotUtf8 at) h = absurd h
has_none o p none (Syntax line column why) h = absurd h
has_none o p none (Documents count) h = absurd h
has_none o p none KeyTwice h = absurd h
has_none o p none TooDeep h = absurd h
has_none o p none LargeInStyle h = absurd h

-- an event that neither is a scalar nor ends a collection does to the parts what it does to what is kept of them
pub took_inner : (keep : Keep) (before held : List Frame) (was now : Bool) (fs : List Frame) (event s : Shape)
    (r : Result (Unit {0}) ReadFault)
    → event ≡ s → IsInner s → Keeps keep before was fs → now ≡ was
    → MatchResult r (λ _. step before s ≡ Some held) (HasNone (step before s))
    → MatchResult r (λ _. KeepsNext keep held now (step fs event)) (HasNone (step fs event))
took_inner keep before held was now fs event s r is inner keeps same made =
    subst (λ x. MatchResult r (λ _. KeepsNext keep held now (step fs x)) (HasNone (step fs x))) (sym is)
    (MatchResult-weaker r made
    (λ _ e. took keep held now (frames_distinct fs) (step fs s)
    (inner_stepped keep fs held s inner (ap (λ gs. step gs s) (sym keeps.frames) ∙ e)) (same ∙ keeps.differ))
    (λ fault h. has_none (step (kept_frames keep fs) s) (step fs s) (inner_none keep fs s inner) fault
    (subst (λ gs. HasNone (step gs s) fault) keeps.frames h)))

-- only want of memory stops what opens a part
pub opened : (r : Result (Unit {0}) ReadFault) (gs new : List Frame) → MatchResult r (λ _. new ≡ gs) (λ fault. fault ≡ OutOfMemory)
    → MatchResult r (λ _. Some gs ≡ Some new) (HasNone (Some gs))
opened r gs new made = MatchResult-weaker r made (λ _ e. ap Some (sym e)) (λ fault e. subst (λ f. HasNone (Some gs) f) (sym e) tt)
