-- The context in hand is helped, and a mark stands: it is the last of the chain, and its step is one turn of the board.
use Rattle.std.proofs.Common.{◌≡◌, ℕ, true, false, cond, refl, sym, ap, ◌∙◌, subst, Bool, Option, Some, None}
use Rattle.k_locks.specs.Asks.{Want}
use Rattle.k_script.specs.Script.{Script}
use Rattle.k_context.specs.declared.owner.Owner.{Owner}
use Rattle.k_context.specs.Contexts.{begun, locks_of}
use Rattle.k_carrier.specs.declared.moves.Help.{Help}
use Rattle.k_carrier.specs.Asked.{Run, ask_of}
use Rattle.k_carrier.specs.Rules.{holds_any, still_holds}
use Rattle.k_carrier.specs.Seen.{HandSeen}
use Rattle.k_world.specs.Worlds.{World, carrier_at}
use Rattle.k_board.specs.Boards.{At, Board}
use Rattle.k_bound.specs.Chains.{IsMarkSound}
use Rattle.k_bound.specs.Hands.{live_help}
use Rattle.k_bound.specs.Waits.{OwnerFound, owner_found}
use Rattle.k_bound.proofs.Founds.{is_for-refl}
use Rattle.k_good.specs.Locks.{locks_at}
use Rattle.k_good.proofs.Owners.{Named}
use Rattle.k_sections.specs.Situations.{holder_of}
use Rattle.k_sections.proofs.Tables.{ThreadTables}
use Rattle.k_waits.specs.Steps.{IsInside, StepsTo}
use Rattle.k_waits.specs.Waits.{IsWaitingFor, WaitsHold, sections_of}
use Rattle.k_waits.specs.Words.{found_in_help, number_of, want_helped}
use Rattle.k_waits.proofs.Holders.{still_holder}
use Rattle.k_waits.proofs.Owed.{helped_is, inside, still_any}
use Rattle.k_waits.proofs.Published.{any_lowest, locks_shown}
use Rattle.k_onward.specs.Stepping.{IsStepping}
use Rattle.k_onward.proofs.Stepping.{N, shown, steps_on}

-- one that holds a lock isn't outside of any section
pub locks_inside : (p : At) → holds_any (locks_at p) ≡ true → IsInside p
locks_inside p any q at = let no : false ≡ true = sym (ap (λ z. holds_any (locks_at z)) at) ∙ any in absurd cc

module _ (script : Script) (w : World) (s : IsStepping script w) (ws : WaitsHold script w) (x : HandSeen)
    (e : ask_of (carrier_at w 0) ≡ Run x) (k : ℕ) (o : Owner) (m : IsWaitingFor script w k o) (p : Help)
    (is : (carrier_at w 0).help ≡ Some p) where
  abbrev pub B : Board
  B = m.situation.board

  -- the help
  abbrev pub F : OwnerFound
  F = owner_found x.context (want_helped x.context p.lock)

  helps : (p.context ≡ x.context) × (still_holds p.lock (locks_of x.value) ≡ true)
  helps = helped_is script w s.before.board s.before.view s.before.entries s.before.state s.before.aligned s.before.whole ws
      x e p is

  pub any : holds_any (locks_of x.value) ≡ true
  any = still_any p.lock (locks_of x.value) helps.1

  -- it isn't between two calls
  pub same : begun script x.value ≡ x.value
  same =
      inside script w s.before.board s.before.view s.before.entries s.before.state s.before.aligned s.before.whole ws x e any

  pub named : Named B
  named = m.good.board.holds.proper.good.locks

  locks : locks_at (B.context x.context).at ≡ locks_of x.value
  locks = locks_shown (B.seen x.context).word x.context x.value (B.context x.context)
      (shown script w s x e B m.shows m.good.board)

  pub holder : holder_of B F.want ≡ Some x.context
  holder = still_holder B named x.context x.value p.lock locks helps.1

  pub help_is : found_in_help (carrier_at w 0).help ≡ Some F
  help_is = ap found_in_help is ∙ ap (λ n. Some (owner_found n (want_helped n p.lock))) helps.0

  pub sound : IsMarkSound (sections_of script) m.situation (number_of script.table o) (Some F) (Some m.mark)
  sound =
      subst (λ f. IsMarkSound (sections_of script) m.situation (number_of script.table o) f (Some m.mark))
      (ap (live_help (sections_of script) m.situation) help_is
      ∙ ap (λ (q : Bool). cond q (Some F) None) (is_for-refl (holder_of B F.want) x.context holder)) m.sound

  -- nobody has removed it
  pub unremoved : m.situation.removed x.context ≡ None
  unremoved = by (m.situation.removed x.context) refl
    where
      by : (r : Option (Option Want)) → m.situation.removed x.context ≡ r → r ≡ None
      by None q = refl
      by (Some want) q =
          absurd (any_lowest (locks_at (B.context x.context).at) (ap holds_any locks ∙ any) (m.good.unlocked x.context want q))

  pub turn : ThreadTables → StepsTo script (N script w s x e) B x.context
  turn tables =
      steps_on script w s x e B m.shows m.good.board tables
      (locks_inside (B.context x.context).at (ap holds_any locks ∙ any))

  pub stands_locked : holds_any (locks_at (B.context x.context).at) ≡ true
  stands_locked = ap holds_any locks ∙ any
