-- The chain of a standing mark: the owners that were found and still hold what they were found for, the last one first. It stands
-- beside the links, of which some were released since.
use Rattle.std.specs.Prelude.{◌≡◌, ℕ, ◌+◌, ◌<◌, ◌≤◌, true, ◌⊎◌, List, [], ◌∷◌, length, Option, Some, None}
use Rattle.k_locks.specs.Asks.{Want}
use Rattle.k_bound.specs.Sections.{Sections, want_rank}
use Rattle.k_bound.specs.Waits.{AreBounded, Helping, IsOnceEach, OwnerFound, WaitMark, allowed, is_linked, allowed_for, owner_found, steps_for}

-- who asks for what the first of the chain holds
abbrev pub asker_of : ℕ → List OwnerFound → ℕ
asker_of requester [] = requester
asker_of requester (found ∷ chain) = found.owner

abbrev pub IsIn : ℕ → Want → List OwnerFound → Type 0
IsIn owner want [] = ⊥
IsIn owner want (found ∷ chain) = ((found.owner ≡ owner) × (found.want ≡ want)) ⊎ IsIn owner want chain

-- It is in the chain, or its owner has acquired it again within what it has in the chain.
abbrev pub IsKnown : ℕ → Want → List OwnerFound → Type 0
IsKnown owner want chain = IsIn owner want chain ⊎ ((outer : Want) × IsIn owner outer chain × (want_rank outer < want_rank want))

module _ {State : Type 0} (sections : Sections State) where
  -- Each holds what the one before it asks for; the requester asks for what the first one found holds.
  abbrev pub IsChain : State → ℕ → List OwnerFound → Type 0
  IsChain state requester [] = Unit {0}
  IsChain state requester (found ∷ chain) =
      (sections.wants state (asker_of requester chain) ≡ Some found.want) ×
      (sections.holder state found.want ≡ Some found.owner) ×
      IsChain state requester chain

  -- the steps up to the last release
  abbrev pub rest_of : State → List OwnerFound → ℕ
  rest_of state [] = 0
  rest_of state (found ∷ chain) = sections.rest state found.owner found.want + rest_of state chain

  -- A mark stands with this chain.
  pub record IsStanding (state : State) (requester : ℕ) (help : Option OwnerFound) (mark : WaitMark) (chain : List OwnerFound)
      : Type 0 where
    pub chained : IsChain state requester chain
    pub asks : sections.wants state requester ≡ Some mark.want
    pub linked : (owner : ℕ) (want : Want) → IsIn owner want chain → is_linked (owner_found owner want) mark.links ≡ true
    pub known : (owner : ℕ) (want : Want) → is_linked (owner_found owner want) mark.links ≡ true →
        sections.holder state want ≡ Some owner → IsKnown owner want chain
    -- With the last release the requester gets what it asks for.
    pub free : chain ≡ [] → sections.holder state mark.want ≡ None
    -- What was used and what is still to come is allowed,
    pub bound : mark.used + rest_of state chain ≤ allowed mark.links
    pub once : IsOnceEach mark.links
    pub by_owners : mark.by_owners ≡ true
    pub counted : mark.used ≡ length mark.helped
    -- and so it is for each link alone.
    pub each : (found : OwnerFound) → steps_for found mark.helped ≤ allowed_for found mark.links
    pub each_rest : (found : OwnerFound) → IsIn found.owner found.want chain →
        steps_for found mark.helped + sections.rest state found.owner found.want ≤ allowed_for found mark.links
    pub helps : (found : OwnerFound) → help ≡ Some found → IsIn found.owner found.want chain

  abbrev pub IsMarkSound : State → ℕ → Option OwnerFound → Option WaitMark → Type 0
  IsMarkSound state requester help None = Unit {0}
  IsMarkSound state requester help (Some mark) = (chain : List OwnerFound) × IsStanding state requester help mark chain

  abbrev pub IsSound : (State → Type 0) → Helping State → Type 0
  IsSound IsGood carrier =
      IsGood carrier.state × AreBounded carrier.got × IsMarkSound carrier.state carrier.requester carrier.help carrier.mark
