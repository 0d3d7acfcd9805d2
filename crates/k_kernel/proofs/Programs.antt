-- Two programs that differ in what comes next alone leave the same ledgers and contexts; and have the same facts where both
-- give the
-- same next at each position that is reached.
use Rattle.std.proofs.Common.{◌≡◌, ℕ, refl, sym, ◌∙◌, Option, Some, None, List, [], ◌∷◌}
use Rattle.k_ids.specs.declared.calls.Act.{Act}
use Rattle.k_ids.specs.declared.calls.Act.TheVariants as act
use Rattle.k_ids.specs.declared.calls.Outcome.{Outcome}
use Rattle.k_ids.specs.declared.calls.Outcome.TheVariants as outcome
use Rattle.k_ids.specs.declared.calls.Phase.{Phase}
use Rattle.k_ids.specs.declared.calls.Phase.TheVariants as phase
use Rattle.k_ids.specs.declared.calls.Reply.{Reply}
use Rattle.k_ids.specs.declared.threads.ThreadId.{ThreadId}
use Rattle.k_locks.specs.Asks.{Response}
use Rattle.k_locks.specs.Asks as asks
use Rattle.k_locks.specs.declared.points.Point.{Point}
use Rattle.k_script.specs.Plays.{Position}
use Rattle.k_script.specs.declared.registers.Next.{Next}
use Rattle.k_threads.specs.declared.create.CreateCall.{CreateCall}
use Rattle.k_threads.specs.declared.create.CreateLocked.TheVariants as create_locked
use Rattle.k_threads.specs.CreateTable.{CreateAt}
use Rattle.k_threads.specs.CreateTable as create
use Rattle.k_board.specs.Words.{Begins, Programs, Seen, Walks, act_noted, call_noted, here, noted, opens, works}
use Rattle.k_board.specs.Boards.{Board, Context}
use Rattle.k_board.specs.Facts.{AllSay, Begun, Fact, Remembers, Says}
use Rattle.k_board.specs.Steps.{create_contexts}

module _ (Own : Programs) (gives : Position → Option Reply → Next) where
  -- the same with this next
  abbrev pub Other : Programs
  Other = record Own { next = gives }

  -- THE LEDGER after a point is the same.

  opens_same : (s : ℕ → Seen) (id : ThreadId) (f : Phase) → opens Own s id f ≡ opens Other s id f
  opens_same s id (phase.Create program priority) = refl
  opens_same s id f = refl

  call_same : (s : ℕ → Seen) (me : ThreadId) (at : Position) (f : Phase) (o : Outcome) →
      call_noted Own s me at f o ≡ call_noted Other s me at f o
  call_same s me at f (outcome.Made id) = opens_same _ id f
  call_same s me at f o = refl

  act_same : (s : ℕ → Seen) (me : ThreadId) (at : Position) (a : Act) (o : Outcome) →
      act_noted Own s me at a o ≡ act_noted Other s me at a o
  act_same s me at (act.Call f) o = call_same s me at f o
  act_same s me at a o = refl

  pub noted_same : (s : ℕ → Seen) (at : Position) (p : Option Point) → noted Own s at p ≡ noted Other s at p
  noted_same s at None = refl
  noted_same s at (Some p) = act_same s p.who at p.act p.outcome

  pub contexts_same : (c : CreateCall) (p : CreateAt) (r : Response) (s : ℕ → Context) →
      create_contexts Own c p r s ≡ create_contexts Other c p r s
  contexts_same c (create.Locked (create_locked.PlaceContext id)) asks.Placed s = refl
  contexts_same c (create.Locked (create_locked.CommitCreate id)) asks.Won s = refl
  contexts_same c p r s = refl

  -- THE FACTS are the same where both programs give the same next at each position that is reached.

  abbrev pub Agree : Position → Option Reply → Type 0
  Agree p l = (q : Position) (r : Option Reply) → Walks Other p l q r → Other.next q r ≡ Own.next q r

  walk_own : (p : Position) (l : Option Reply) (q : Position) (r : Option Reply) → Agree p l → Walks Other p l q r →
      Walks Own p l q r
  walk_own p l _ _ same here = here
  walk_own p l _ _ same (works q r count walk e) = works q r count (walk_own p l q r same walk) (sym (same q r walk) ∙ e)

  begins_own : (p : Position) (l : Option Reply) (f : Phase) (after : Position) → Agree p l → Begins Other p l f after →
      Begins Own p l f after
  begins_own p l f after same d = record {
    at = d.at;
    last = d.last;
    walk = walk_own p l d.at d.last same d.walk;
    call = sym (same d.at d.last d.walk) ∙ d.call;
    moved = d.moved;
  }

  module _ (b : Board) (i : ℕ) (same : Agree (b.seen i).position (b.seen i).told) where
    says_own : (x : Context) (f : Fact) → Says Other b i x f → Says Own b i x f
    says_own x (Begun f) h = (h.0, begins_own _ _ f x.position same h.1)
    says_own x (Remembers r) h = (h.0, walk_own _ _ x.position r same h.1)
    says_own x f h = h

    pub all_own : (x : Context) (fs : List Fact) → AllSay Other b i x fs → AllSay Own b i x fs
    all_own x [] h = tt
    all_own x (f ∷ fs) h = (says_own x f h.0, all_own x fs h.1)
