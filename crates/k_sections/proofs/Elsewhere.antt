-- What a context's step makes of another context: nothing; or it places one, begins it, or removes it. None of these holds a
-- lock.
use Rattle.std.proofs.Common.{◌≡◌, ◌≢◌, ℕ, false, refl, sym, ap, ◌∙◌, subst, Option, Some, None, List, [], ◌∷◌, inl, inr}
use Rattle.std.proofs.lemmas.Bool.Decides.{eqb_tells}
use Rattle.k_model.specs.Maps.{upd}
use Rattle.k_model.proofs.Maps.{upd_same, upd_other}
use Rattle.k_locks.specs.declared.locks.Lock.{Lock}
use Rattle.k_locks.specs.declared.locks.Lock.TheVariants as lock
use Rattle.k_locks.specs.Asks.{Response, Want}
use Rattle.k_locks.specs.Asks as asks
use Rattle.k_locks.specs.Locks.{Holds, lowest_held}
use Rattle.k_threads.specs.declared.create.CreateCall.{CreateCall}
use Rattle.k_threads.specs.declared.create.CreateLocked.TheVariants as create_locked
use Rattle.k_threads.specs.CreateTable.{CreateAt}
use Rattle.k_threads.specs.CreateTable as create
use Rattle.k_threads.specs.declared.destroy.DestroyCall.{DestroyCall}
use Rattle.k_threads.specs.declared.destroy.DestroyLocked.TheVariants as destroy_locked
use Rattle.k_threads.specs.DestroyTable.{DestroyAt}
use Rattle.k_threads.specs.DestroyTable as destroy
use Rattle.k_caller.specs.declared.thread.ThreadLocation.{ThreadLocation}
use Rattle.k_caller.specs.declared.thread.ThreadLocation.TheVariants as location
use Rattle.k_script.specs.declared.registers.Next.{Next}
use Rattle.k_script.specs.declared.registers.Next.TheVariants as next
use Rattle.k_ids.specs.declared.calls.Reply.{Reply}
use Rattle.k_switch.specs.declared.switch.SwitchCall.{SwitchCall}
use Rattle.k_switch.specs.Switches.{SwitchAt}
use Rattle.k_switch.specs.Switches as switch
use Rattle.k_board.specs.Words.{Programs}
use Rattle.k_board.specs.Boards.{At, Alone, InSend, InReceive, InCreate, InDestroy}
use Rattle.k_board.specs.Boards.{InSwitch, Resting, Coming, Nowhere, Context, Board}
use Rattle.k_board.specs.Facts.{AllSay}
use Rattle.k_board.specs.Places.{facts_of}
use Rattle.k_board.specs.Steps.{create_contexts, destroy_contexts, new_context}
use Rattle.k_good.specs.Locks.{locks_at}
use Rattle.k_good.proofs.Owners.{IsThree, Named}
use Rattle.k_sections.specs.Situations.{holder_of, itself, want_at}
use Rattle.k_sections.specs.Stepping.{alone_after, board_after, called_board, if_removed}
use Rattle.k_sections.specs.Stepping.{removed_by, removes, response_to, switch_after}
use Rattle.k_sections.proofs.Answered.{held_owned, owned_held}
use Rattle.k_sections.proofs.LockSteps.{three_at}

-- it holds nothing and asks for nothing
abbrev pub IsIdle : Context → Type 0
IsIdle x = (locks_at x.at ≡ None ∷ None ∷ None ∷ []) × (want_at x.own x.at ≡ None)

-- what becomes of context n, where the step removes the context of the number `left`, if any
pub data Elsewhere (before now : ℕ → Context) (left : Option ℕ) (n : ℕ) : Type 0 where
  stays : now n ≡ before n → Elsewhere before now left n
  arrives : IsIdle (before n) → IsIdle (now n) → Elsewhere before now left n
  goes : left ≡ Some n → lowest_held (locks_at (before n).at) ≡ None → (now n).at ≡ Nowhere → Elsewhere before now left n

idle_at : (x : Context) (p : At) → x.at ≡ p → locks_at p ≡ None ∷ None ∷ None ∷ [] → want_at x.own p ≡ None → IsIdle x
idle_at x p at e w = (ap locks_at at ∙ e, ap (want_at x.own) at ∙ w)

module _ (g : Programs) (b : Board) (i n : ℕ) (ne : n ≢ i) where
  -- one context moves
  one : (x : Context) (left : Option ℕ) → Elsewhere b.context (upd b.context i x) left n
  one x left = stays (upd_other b.context i x n ne)

  called_elsewhere : (last : Option Reply) (q : Next) → Elsewhere b.context (called_board g b i last q).context None n
  called_elsewhere last (next.Phase f) = one _ None
  called_elsewhere last (next.Work count) = one _ None

  alone_elsewhere : (q : ThreadLocation) → Elsewhere b.context (alone_after g b i q).context None n
  alone_elsewhere (location.Between last) = called_elsewhere last (g.next (b.context i).position last)
  alone_elsewhere location.Ended = stays refl
  alone_elsewhere location.Dead = stays refl
  alone_elsewhere location.Asleep = one _ None
  alone_elsewhere location.FallAsleep = one _ None
  alone_elsewhere location.LookAgain = one _ None
  alone_elsewhere (location.LoadMail from) = one _ None
  alone_elsewhere (location.Work count) = one _ None
  alone_elsewhere location.CommitEnd = one _ None

  switch_elsewhere : (c : SwitchCall) (q : SwitchAt) → Elsewhere b.context (switch_after b i c q).context None n
  switch_elsewhere c (switch.Finished s) = one _ None
  switch_elsewhere c switch.AcquireReady = one _ None
  switch_elsewhere c (switch.Locked p) = one _ None
  switch_elsewhere c (switch.Returned s) = one _ None

  -- another is placed, or begins
  two : (m : ℕ) (y x : Context) → IsIdle (b.context m) → IsIdle y → Elsewhere b.context (upd (upd b.context m y) i x) None n
  two m y x before now = elim (eqb_tells n m) [
    | inl e ↦
        arrives (subst (λ (k : ℕ). IsIdle (b.context k)) (sym e.1) before)
        (subst IsIdle (sym (upd_other (upd b.context m y) i x n ne ∙ ap (upd b.context m y) e.1 ∙ upd_same b.context m y)) now)
    | inr e ↦ stays (upd_other (upd b.context m y) i x n ne ∙ upd_other b.context m y n e.1)
  ]

  create_elsewhere : (c : CreateCall) (q : CreateAt) (r : Response) (x : Context) →
      AllSay g b i (b.context i) (facts_of (InCreate c q)) →
      Elsewhere b.context (upd (create_contexts g c q r b.context) i x) None n
  create_elsewhere c (create.Locked (create_locked.PlaceContext id)) asks.Placed x f =
      two id.number (new_context g c id Coming) x (idle_at (b.context id.number) Nowhere f.1.1.1.1.1.1.1.0.1 refl refl)
      (refl, refl)
  create_elsewhere c (create.Locked (create_locked.CommitCreate id)) asks.Won x f =
      two id.number (new_context g c id (Alone (location.Between None))) x
      (idle_at (b.context id.number) Coming (ap (λ (y : Context). y.at) f.1.1.1.1.1.1.1.0.1) refl refl) (refl, refl)
  create_elsewhere c q r x f = one x None

  -- the victim's context is removed
  removed_elsewhere : (c : DestroyCall) (o : Option Lock) (x : Context) → lowest_held (locks_at (b.context c.who.number).at) ≡ o →
      Elsewhere b.context (upd (destroy_contexts c (destroy.Locked destroy_locked.RemoveContext) (removed_by o) b.context) i x)
      (if_removed c.who.number o) n
  removed_elsewhere c None x e =
      let m = c.who.number in
      let y = record (b.context m) { at = Nowhere } in
      elim (eqb_tells n m) [
        | inl d ↦
            goes (ap (λ (k : ℕ). Some k) (sym d.1)) (ap (λ (k : ℕ). lowest_held (locks_at (b.context k).at)) d.1 ∙ e)
            (ap (λ (z : Context). z.at) (upd_other (upd b.context m y) i x n ne ∙ ap (upd b.context m y) d.1
            ∙ upd_same b.context m y))
        | inr d ↦ stays (upd_other (upd b.context m y) i x n ne ∙ upd_other b.context m y n d.1)
      ]
  removed_elsewhere c (Some l) x e = one x None

  destroy_elsewhere : (c : DestroyCall) (q : DestroyAt) →
      Elsewhere b.context (board_after g (λ z k. record { goal = None; counted = false; slice_ended = false; start = None }) b i
      (InDestroy c q)).context (removes b (InDestroy c q)) n
  destroy_elsewhere c (destroy.Locked destroy_locked.RemoveContext) =
      removed_elsewhere c (lowest_held (locks_at (b.context c.who.number).at)) _ refl
  destroy_elsewhere c (destroy.Locked destroy_locked.LoadCaller) = one _ None
  destroy_elsewhere c (destroy.Locked destroy_locked.AcquireVictimLock) = one _ None
  destroy_elsewhere c (destroy.Locked destroy_locked.AcquireReadyForVictim) = one _ None
  destroy_elsewhere c (destroy.Locked (destroy_locked.AcquireVisitedLock visited)) = one _ None
  destroy_elsewhere c (destroy.Locked (destroy_locked.Release r)) = one _ None
  destroy_elsewhere c (destroy.Outside p) = one _ None
  destroy_elsewhere c (destroy.Victim p) = one _ None
  destroy_elsewhere c (destroy.Visit p) = one _ None
  destroy_elsewhere c destroy.UnlistVictim = one _ None
  destroy_elsewhere c (destroy.Pushing p) = one _ None

  pub other_context : (calls : Board → ℕ → SwitchCall) (p : At) → AllSay g b i (b.context i) (facts_of p) →
      Elsewhere b.context (board_after g calls b i p).context (removes b p) n
  other_context calls (Alone q) f = alone_elsewhere q
  other_context calls (InSend c q) f = one _ None
  other_context calls (InReceive c q) f = one _ None
  other_context calls (InCreate c q) f = create_elsewhere c q (response_to b (create.ask_of c (b.context i).own q)) _ f
  other_context calls (InDestroy c q) f = destroy_elsewhere c q
  other_context calls (InSwitch c q) f = switch_elsewhere c q
  other_context calls Resting f = one _ None
  other_context calls Coming f = stays refl
  other_context calls Nowhere f = stays refl

-- LOCKS ELSEWHERE

unlocked_none : (x y z : Option Lock) → lowest_held (x ∷ y ∷ z ∷ []) ≡ None → x ∷ y ∷ z ∷ [] ≡ None ∷ None ∷ None ∷ []
unlocked_none None None None e = refl
unlocked_none (Some l) y z e = absurd cc
unlocked_none None (Some l) z e = absurd cc
unlocked_none None None (Some l) e = absurd cc

pub none_locked : (ls : List (Option Lock)) → IsThree ls → lowest_held ls ≡ None → ls ≡ None ∷ None ∷ None ∷ []
none_locked ls t e = t.is ∙ unlocked_none t.table t.thread t.ready (ap lowest_held (sym t.is) ∙ e)

pub locks_elsewhere : (before now : ℕ → Context) (left : Option ℕ) (n : ℕ) → Elsewhere before now left n →
    locks_at (now n).at ≡ locks_at (before n).at
locks_elsewhere before now left n (stays e) = ap (λ (x : Context). locks_at x.at) e
locks_elsewhere before now left n (arrives w v) = v.0 ∙ sym w.0
locks_elsewhere before now left n (goes d e at) =
    ap locks_at at ∙ sym (none_locked (locks_at (before n).at) (three_at (before n).at) e)

-- WHO HOLDS WHAT

pub itself_is : (n : ℕ) (o : Option Lock) (i : ℕ) → itself n o ≡ Some i → n ≡ i
itself_is n None i e = absurd cc
itself_is n (Some l) i e = cc

-- A context that holds the same locks on another board holds up the same there.
pub holder_moves : (b b' : Board) → Named b → Named b' → (i : ℕ) → locks_at (b'.context i).at ≡ locks_at (b.context i).at →
    (want : Want) → holder_of b want ≡ Some i → holder_of b' want ≡ Some i
holder_moves b b' h h' i e asks.Table q =
    held_owned b' h' lock.Table i (subst (Holds lock.Table) (sym e) (owned_held b h lock.Table i q))
holder_moves b b' h h' i e (asks.Thread n) q =
    held_owned b' h' (lock.Thread n) i (subst (Holds (lock.Thread n)) (sym e) (owned_held b h (lock.Thread n) i q))
holder_moves b b' h h' i e asks.Ready q =
    held_owned b' h' lock.Ready i (subst (Holds lock.Ready) (sym e) (owned_held b h lock.Ready i q))
holder_moves b b' h h' i e (asks.Context n) q =
    let same = itself_is n (lowest_held (locks_at (b.context n).at)) i q in
    subst (λ (k : ℕ). itself k (lowest_held (locks_at (b'.context k).at)) ≡ Some i) (sym same)
    (ap (λ (ls : List (Option Lock)). itself i (lowest_held ls)) e
    ∙ subst (λ (k : ℕ). itself k (lowest_held (locks_at (b.context k).at)) ≡ Some i) same q)
