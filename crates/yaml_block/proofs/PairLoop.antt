-- The loop over the pairs that are whole lines.
use Rattle.std.specs.Prelude.{ℕ, List}
use Rattle.yaml_block.specs.{declared.{frame.Next.Next, reader.Reader.Reader}, States.{BeforePair, Fails, GoesOn, Leads}}
use Rattle.yaml_block.specs.declared.frame.Next.TheVariants as next

module _ (text : List ℕ) (k at : ℕ) (first : Reader) where
  -- before the first pair the reader is there
  pub pairs_first : Leads text (BeforePair text k at) first first (next.Pair at k)
  pairs_first W from base fs evs held pair = record { fs = fs; evs = evs; holds = held; stands = pair }

  module _ (now : Reader) (j place : ℕ) (l : Leads text (BeforePair text k at) first now (next.Pair place j)) where
    -- a step from a later pair is one from the first
    pub pairs_lead : (new : Reader) (to : Next) → Leads text (BeforePair text j place) now new to
        → Leads text (BeforePair text k at) first new to
    pairs_lead new to more W from base fs evs held pair =
        let g : GoesOn W text from base now (next.Pair place j) = l W from base fs evs held pair in
        more W from base g.fs g.evs g.holds g.stands

    -- and so is one that fails
    pub pairs_fail : Fails text (BeforePair text j place) now → Fails text (BeforePair text k at) first
    pairs_fail fails W from base fs evs held pair =
        let g : GoesOn W text from base now (next.Pair place j) = l W from base fs evs held pair in
        fails W from base g.fs g.evs g.holds g.stands
