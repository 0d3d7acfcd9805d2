-- One carrier that helps the owners of what it finds taken, with its wait marks as values. Over any sections.
use Rattle.std.specs.Prelude.{◌≡◌, ℕ, ◌+◌, ◌≤◌, ◌==◌, Bool, true, false, ◌&&◌, ◌||◌, List, [], ◌∷◌, length, Option, Some, None, if◌then◌else◌}
use Rattle.k_locks.specs.Asks.{Want}
use Rattle.k_bound.specs.Sections.{Sections, same_want}

-- an owner found, with what it was found for. A help is such a one.
pub record OwnerFound : Type 0 where
  pub owner : ℕ
  pub want : Want

-- a link of a chain of owners, with the steps that were published when it was found
pub record Link : Type 0 where
  pub found : OwnerFound
  pub left : ℕ

-- The mark of one wait of a requester.
pub record WaitMark : Type 0 where
  pub want : Want
  -- the last one first
  pub links : List Link
  -- the steps counted: those that the carrier made for the links
  pub used : ℕ
  -- each of them was made by a link's owner that held what one of its links is for
  pub by_owners : Bool
  -- for each of them, the last one first, the help that it was made for
  pub helped : List OwnerFound

abbrev pub owner_found : ℕ → Want → OwnerFound
owner_found owner want = record { owner = owner; want = want }

abbrev pub same_found : OwnerFound → OwnerFound → Bool
same_found f g = (f.owner == g.owner) && same_want f.want g.want

-- whether the chain has a link of this owner and this want
abbrev pub is_linked : OwnerFound → List Link → Bool
is_linked found [] = false
is_linked found (link ∷ links) = same_found found link.found || is_linked found links

abbrev pub allowed : List Link → ℕ
allowed [] = 0
allowed (link ∷ links) = link.left + allowed links

-- what is allowed for this one alone
abbrev pub allowed_for : OwnerFound → List Link → ℕ
allowed_for found [] = 0
allowed_for found (link ∷ links) = if same_found found link.found then link.left else allowed_for found links

-- how many of these steps were made for it
abbrev pub steps_for : OwnerFound → List OwnerFound → ℕ
steps_for found [] = 0
steps_for found (help ∷ helps) = (if same_found found help then 1 else 0) + steps_for found helps

-- No owner is linked twice for the same want.
abbrev pub IsOnceEach : List Link → Type 0
IsOnceEach [] = Unit {0}
IsOnceEach (link ∷ links) = (is_linked link.found links ≡ false) × IsOnceEach links

-- A wait is bounded by the chain of owners that it met:
pub record IsBounded (mark : WaitMark) : Type 0 where
  pub once : IsOnceEach mark.links
  -- no more steps were used than the links allow in all,
  pub used : mark.used ≤ allowed mark.links
  -- each of them was made by the owner of a link while it held what one of its links is for,
  pub by_owners : mark.by_owners ≡ true
  -- each was made for a help,
  pub counted : mark.used ≡ length mark.helped
  -- and for each link alone no more were made than it allows.
  pub each : (found : OwnerFound) → steps_for found mark.helped ≤ allowed_for found mark.links

abbrev pub AreBounded : List WaitMark → Type 0
AreBounded [] = Unit {0}
AreBounded (mark ∷ marks) = IsBounded mark × AreBounded marks

-- THE MARK, AND WHAT BECOMES OF IT

abbrev pub mark_begun : Link → WaitMark
mark_begun link = record { want = link.found.want; links = link ∷ []; used = 0; by_owners = true; helped = [] }

abbrev pub mark_linked : Link → WaitMark → WaitMark
mark_linked link mark = record mark { links = link ∷ mark.links }

-- one more step, made for this help
abbrev pub mark_counted : Bool → OwnerFound → WaitMark → WaitMark
mark_counted by_owner help mark = record mark {
  used = mark.used + 1;
  by_owners = mark.by_owners && by_owner;
  helped = help ∷ mark.helped;
}

abbrev pub with_got : Option WaitMark → List WaitMark → List WaitMark
with_got None marks = marks
with_got (Some mark) marks = mark ∷ marks

-- THE CARRIER

-- what of a carrier decides its marks
pub record Helping (State : Type 0) : Type 0 where
  pub state : State
  -- whom it works for: its goal's context, or its own where it is switching
  pub requester : ℕ
  pub help : Option OwnerFound
  -- the mark that stands
  pub mark : Option WaitMark
  -- the marks that ended since the requester got what it waited for, the last one first
  pub got : List WaitMark

pub data HelpingStep : Type 0 where
  -- one step of the section of whom it helps, or else of its requester
  SectionStep : HelpingStep
  -- The carrier is interrupted, begins or ends a switch, or drops its goal: no help and no mark stays.
  TurnTo : (requester : ℕ) → HelpingStep

abbrev pub is_for : Option ℕ → ℕ → Bool
is_for None context = false
is_for (Some owner) context = owner == context

abbrev pub started : {State : Type 0} → State → ℕ → Helping State
started state requester = record { state = state; requester = requester; help = None; mark = None; got = [] }

abbrev pub turned_to : {State : Type 0} → ℕ → Helping State → Helping State
turned_to requester carrier = record carrier { requester = requester; help = None; mark = None }

module _ {State : Type 0} (sections : Sections State) where
  abbrev pub holds : State → OwnerFound → Bool
  holds state found = is_for (sections.holder state found.want) found.owner

  -- whether the context is the owner of a link and holds what the link is for
  abbrev pub is_link_owner : State → ℕ → List Link → Bool
  is_link_owner state context [] = false
  is_link_owner state context (link ∷ links) =
      ((link.found.owner == context) && is_for (sections.holder state link.found.want) context)
      || is_link_owner state context links

  abbrev pub link_to : State → OwnerFound → Link
  link_to state found = record { found = found; left = sections.left state found.owner found.want }

  -- The same owner with the same want is linked once.
  abbrev pub linked_once : State → OwnerFound → WaitMark → WaitMark
  linked_once state found mark = if is_linked found mark.links then mark else mark_linked (link_to state found) mark

  -- The mark after an owner was found. A requester that has no mark begins one; one that asks again for the same adds nothing to
  -- its mark. Where whom the carrier helps finds the owner, that one is linked.
  abbrev pub mark_found : State → Option OwnerFound → OwnerFound → Option WaitMark → Option WaitMark
  mark_found state None found None = Some (mark_begun (link_to state found))
  mark_found state None found (Some mark) =
      if same_want mark.want found.want then Some mark else Some (mark_begun (link_to state found))
  mark_found state (Some help) found None = None
  mark_found state (Some help) found (Some mark) = Some (linked_once state found mark)

  -- The step was answered that an owner holds it up: that owner is helped from now on.
  abbrev pub found_taken : Helping State → Option OwnerFound → OwnerFound → Helping State
  found_taken carrier help found =
      record carrier { help = Some found; mark = mark_found carrier.state help found carrier.mark }

  abbrev pub mark_helped : State → OwnerFound → Option WaitMark → Option WaitMark
  mark_helped state help None = None
  mark_helped state help (Some mark) = Some (mark_counted (is_link_owner state help.owner mark.links) help mark)

  -- A help ends once its owner has released what it was found for.
  abbrev pub help_after : State → OwnerFound → Option OwnerFound
  help_after state help = if holds state help then Some help else None

  -- A step that nobody holds up. The requester's own ends its mark, and isn't counted.
  abbrev pub gone_on : Helping State → Option OwnerFound → Helping State
  gone_on carrier None = record carrier {
    state = sections.step carrier.state carrier.requester;
    mark = None;
    got = with_got carrier.mark carrier.got;
  }
  gone_on carrier (Some help) = record carrier {
    state = sections.step carrier.state help.owner;
    help = help_after (sections.step carrier.state help.owner) help;
    mark = mark_helped carrier.state help carrier.mark;
  }

  -- The step of whom the carrier helps, or else of its requester, by what it asks for and by who holds that.
  abbrev pub answered : Helping State → Option OwnerFound → Want → Option ℕ → Helping State
  answered carrier help want None = gone_on carrier help
  answered carrier help want (Some owner) = found_taken carrier help (owner_found owner want)

  abbrev pub asked : Helping State → Option OwnerFound → Option Want → Helping State
  asked carrier help None = gone_on carrier help
  asked carrier help (Some want) = answered carrier help want (sections.holder carrier.state want)

  -- The goal is dropped where its context was removed.
  abbrev pub stepped : Helping State → Option OwnerFound → Helping State
  stepped carrier None = if sections.removed carrier.state carrier.requester
      then turned_to carrier.requester carrier
      else asked carrier None (sections.wants carrier.state carrier.requester)
  stepped carrier (Some help) = asked carrier (Some help) (sections.wants carrier.state help.owner)

  abbrev pub moved : HelpingStep → Helping State → Helping State
  moved SectionStep carrier = stepped carrier carrier.help
  moved (TurnTo requester) carrier = turned_to requester carrier

  abbrev pub run : List HelpingStep → Helping State → Helping State
  run [] carrier = carrier
  run (step ∷ steps) carrier = run steps (moved step carrier)
