-- The destroy that has killed its victim, on its way through the numbers.
use Rattle.std.proofs.Common.{◌≡◌, ◌≢◌, ℕ, ◌+◌, ◌≤◌, ◌<◌, Bool, true, false, refl, sym, ap}
use Rattle.std.proofs.Common.{◌∙◌, subst, arith, Option, Some, List, [], ◌∷◌, not, inl, inr}
use Rattle.std.specs.Prelude.{◌==◌, ◌&&◌, length, nat_le, nat_lt, slice_index_or}
use Rattle.std.proofs.lemmas.Bool.Decides.{nat_tests}
use Rattle.std.proofs.lemmas.List.{get_or_past}
use Rattle.std.proofs.lemmas.Bool.{cases_lt, true≢false}
use Rattle.k_senders.specs.declared.entries.SenderEntry.{SenderEntry}
use Rattle.k_locks.specs.declared.locks.Lock.TheVariants as lock
use Rattle.k_locks.specs.Asks.{Response}
use Rattle.k_locks.specs.Asks as asks
use Rattle.k_locks.specs.Hands.{Hand}
use Rattle.k_locks.specs.Locks.{Holds}
use Rattle.k_locks.specs.Numbers.{is_present}
use Rattle.k_locks.specs.Shown.{is_dead}
use Rattle.k_threads.specs.declared.destroy.DestroyCall.{DestroyCall}
use Rattle.k_threads.specs.declared.destroy.DestroyOutside.TheVariants as destroy_outside
use Rattle.k_threads.specs.declared.destroy.DestroyLocked.{DestroyLocked}
use Rattle.k_threads.specs.declared.destroy.DestroyLocked.TheVariants as destroy_locked
use Rattle.k_threads.specs.declared.destroy.DestroyRelease.TheVariants as destroy_release
use Rattle.k_threads.specs.declared.destroy.DestroyVictim.{DestroyVictim}
use Rattle.k_threads.specs.declared.destroy.DestroyVictim.TheVariants as victim
use Rattle.k_threads.specs.declared.destroy.DestroyVisit.{DestroyVisit}
use Rattle.k_threads.specs.declared.destroy.DestroyVisit.TheVariants as visit
use Rattle.k_threads.specs.declared.destroy.DestroyPushing.TheVariants as destroy_pushing
use Rattle.k_threads.specs.DestroyTable.{DestroyAt, but_victim, free_first, visit_from}
use Rattle.k_threads.specs.DestroyTable as destroy
use Rattle.k_threads.specs.Goods.{rest}
use Rattle.k_threads.specs.Words.{is_receiving_from}
use Rattle.k_board.specs.Words.{Programs}
use Rattle.k_board.specs.Boards.{At, InDestroy, Board, Context}
use Rattle.k_board.specs.Facts.{AllSay}
use Rattle.k_board.specs.Places.{facts_destroy, killed}
use Rattle.k_board.specs.Steps.{Answers, destroy_at}
use Rattle.k_board.proofs.Cases.{if_cases}
use Rattle.k_good.specs.Numbers.{NumbersHold, by_owner, is_killed, killed_at, made_at}
use Rattle.k_partners.specs.Partners.{is_ahead}

pub first_ahead : (q : List SenderEntry) (t : ℕ) → is_ahead (destroy.Victim (free_first q)) t ≡ true
first_ahead [] t = refl
first_ahead (e ∷ es) t = refl

pub ahead_stands : (c : DestroyCall) (p : DestroyAt) (t : ℕ) → is_ahead p t ≡ true → destroy_at c p ≡ InDestroy c p
ahead_stands c (destroy.Outside (destroy_outside.Ended w)) t a = absurd cc
ahead_stands c (destroy.Outside destroy_outside.LoadOwn) t a = refl
ahead_stands c (destroy.Outside destroy_outside.AcquireTable) t a = refl
ahead_stands c (destroy.Locked p) t a = refl
ahead_stands c (destroy.Victim p) t a = refl
ahead_stands c (destroy.Visit p) t a = refl
ahead_stands c destroy.UnlistVictim t a = refl
ahead_stands c (destroy.Pushing p) t a = refl

pub ahead_owns : (c : DestroyCall) (p : DestroyAt) (t : ℕ) → is_ahead p t ≡ true → Holds lock.Table (destroy.locks_of c p)
ahead_owns c (destroy.Outside (destroy_outside.Ended w)) t a = absurd cc
ahead_owns c (destroy.Outside destroy_outside.LoadOwn) t a = absurd cc
ahead_owns c (destroy.Outside destroy_outside.AcquireTable) t a = absurd cc
ahead_owns c (destroy.Locked p) t a = refl
ahead_owns c (destroy.Victim p) t a = refl
ahead_owns c (destroy.Visit p) t a = refl
ahead_owns c destroy.UnlistVictim t a = refl
ahead_owns c (destroy.Pushing p) t a = refl

module _ (g : Programs) (b : Board) (i : ℕ) (x : Context) (c : DestroyCall) where
  -- the victim is dead, and the caller runs
  pub ahead_facts : (p : DestroyAt) (t : ℕ) → is_ahead p t ≡ true → AllSay g b i x (facts_destroy c p) →
      AllSay g b i x (killed c [])
  ahead_facts (destroy.Victim (victim.LoadSender sender)) t a f =
      (f.0, (f.1.0, (f.1.1.0, (f.1.1.1.0, (f.1.1.1.1.0, (f.1.1.1.1.1.0, (f.1.1.1.1.1.1.0, tt)))))))
  ahead_facts (destroy.Victim (victim.FreeSender sender w)) t a f =
      (f.0, (f.1.0, (f.1.1.0, (f.1.1.1.0, (f.1.1.1.1.0, (f.1.1.1.1.1.0, (f.1.1.1.1.1.1.0, tt)))))))
  ahead_facts (destroy.Victim (victim.AcquireReadyForSender sender w)) t a f =
      (f.0, (f.1.0, (f.1.1.0, (f.1.1.1.0, (f.1.1.1.1.0, (f.1.1.1.1.1.0, (f.1.1.1.1.1.1.0, tt)))))))
  ahead_facts (destroy.Victim victim.ReleaseVictimLock) t a f =
      (f.0, (f.1.0, (f.1.1.0, (f.1.1.1.0, (f.1.1.1.1.0, (f.1.1.1.1.1.0, (f.1.1.1.1.1.1.0, tt)))))))
  ahead_facts (destroy.Pushing (destroy_pushing.PushSender sender w)) t a f =
      (f.0, (f.1.0, (f.1.1.0, (f.1.1.1.0, (f.1.1.1.1.0, (f.1.1.1.1.1.0, (f.1.1.1.1.1.1.0, tt)))))))
  ahead_facts (destroy.Locked destroy_locked.AcquireReadyForVictim) t a f = f
  ahead_facts destroy.UnlistVictim t a f =
      (f.0, (f.1.0, (f.1.1.0, (f.1.1.1.0, (f.1.1.1.1.0, (f.1.1.1.1.1.0, (f.1.1.1.1.1.1.0, tt)))))))
  ahead_facts (destroy.Locked destroy_locked.RemoveContext) t a f = f
  ahead_facts (destroy.Locked (destroy_locked.AcquireVisitedLock visited)) t a f =
      (f.0, (f.1.0, (f.1.1.0, (f.1.1.1.0, (f.1.1.1.1.0, (f.1.1.1.1.1.0, (f.1.1.1.1.1.1.0, tt)))))))
  ahead_facts (destroy.Visit (visit.LoadVisited visited)) t a f =
      (f.0, (f.1.0, (f.1.1.0, (f.1.1.1.0, (f.1.1.1.1.0, (f.1.1.1.1.1.0, (f.1.1.1.1.1.1.0, tt)))))))
  ahead_facts (destroy.Visit (visit.FreeVisited visited w)) t a f =
      (f.0, (f.1.0, (f.1.1.0, (f.1.1.1.0, (f.1.1.1.1.0, (f.1.1.1.1.1.0, (f.1.1.1.1.1.1.0, tt)))))))
  ahead_facts (destroy.Visit (visit.AcquireReadyForVisited visited w)) t a f =
      (f.0, (f.1.0, (f.1.1.0, (f.1.1.1.0, (f.1.1.1.1.0, (f.1.1.1.1.1.0, (f.1.1.1.1.1.1.0, tt)))))))
  ahead_facts (destroy.Visit (visit.ReleaseVisitedLock visited)) t a f =
      (f.0, (f.1.0, (f.1.1.0, (f.1.1.1.0, (f.1.1.1.1.0, (f.1.1.1.1.1.0, (f.1.1.1.1.1.1.0, tt)))))))
  ahead_facts (destroy.Pushing (destroy_pushing.PushVisited visited w)) t a f =
      (f.0, (f.1.0, (f.1.1.0, (f.1.1.1.0, (f.1.1.1.1.0, (f.1.1.1.1.1.0, (f.1.1.1.1.1.1.0, tt)))))))
  ahead_facts (destroy.Victim victim.LoadVictim) t a f = absurd cc
  ahead_facts (destroy.Victim (victim.CommitKill w)) t a f = absurd cc
  ahead_facts (destroy.Victim (victim.ReleaseVictimLockAbsent q)) t a f = absurd cc
  ahead_facts (destroy.Outside q) t a f = absurd cc
  ahead_facts (destroy.Locked destroy_locked.LoadCaller) t a f = absurd cc
  ahead_facts (destroy.Locked destroy_locked.AcquireVictimLock) t a f = absurd cc
  ahead_facts (destroy.Locked (destroy_locked.Release r)) t a f = absurd cc

  module _ (t : ℕ) (apart : t ≢ c.who.number) (below : t < c.count) where
    visits_ahead : (n : ℕ) → n ≤ t → is_ahead (destroy.Locked (visit_from c n)) t ≡ true
    visits_ahead n l =
        if_cases (λ (p : DestroyLocked). is_ahead (destroy.Locked p) t ≡ true) (nat_lt (but_victim c n) c.count)
        (destroy_locked.AcquireVisitedLock (but_victim c n)) (destroy_locked.Release destroy_release.Killed) (λ q. near)
        (λ q. absurd (far q))
      where
        near : nat_le (but_victim c n) t ≡ true
        near =
            if_cases (λ (m : ℕ). nat_le m t ≡ true) (n == c.who.number) (n + 1) n (λ q. grind (arith, nat_tests))
            (λ q. grind (arith, nat_tests))

        far : nat_lt (but_victim c n) c.count ≡ false → ⊥
        far q = grind (arith, nat_tests, near)

    past : (n : ℕ) → nat_le n t ≡ true → t ≢ n → n + 1 ≤ t
    past n l ne = grind (arith, nat_tests)

    -- a step of its own leaves the number ahead, unless it settles it
    pub ahead_goes : (h : Hand) (p : DestroyAt) (r : Response) → Answers b (destroy.ask_of c x.own p) r →
        AllSay g b i x (facts_destroy c p) → is_receiving_from c.who (b.seen t).word.state ≡ true → is_ahead p t ≡ true →
        is_ahead (destroy.leads c h p r) t ≡ true
    ahead_goes h (destroy.Victim (victim.LoadSender sender)) (asks.Word w) an f q a = refl
    ahead_goes h (destroy.Victim (victim.FreeSender sender w)) asks.Won an f q a =
        if_cases (λ (p : DestroyVictim). is_ahead (destroy.Victim p) t ≡ true) w.on (free_first (rest h.queue.entries))
        (victim.AcquireReadyForSender sender w) (λ e. first_ahead (rest h.queue.entries) t) (λ e. refl)
    ahead_goes h (destroy.Victim (victim.FreeSender sender w)) (asks.Lost v) an f q a = refl
    ahead_goes h (destroy.Victim (victim.AcquireReadyForSender sender w)) asks.Got an f q a = refl
    ahead_goes h (destroy.Victim (victim.AcquireReadyForSender sender w)) (asks.Owned k) an f q a = refl
    ahead_goes h (destroy.Pushing (destroy_pushing.PushSender sender w)) asks.Released an f q a =
        first_ahead (rest h.queue.entries) t
    ahead_goes h (destroy.Victim victim.ReleaseVictimLock) asks.Released an f q a = refl
    ahead_goes h (destroy.Locked destroy_locked.AcquireReadyForVictim) asks.Got an f q a = refl
    ahead_goes h (destroy.Locked destroy_locked.AcquireReadyForVictim) (asks.Owned k) an f q a = refl
    ahead_goes h destroy.UnlistVictim asks.Released an f q a = refl
    ahead_goes h (destroy.Locked destroy_locked.RemoveContext) asks.Removed an f q a = visits_ahead 0 (omega arith)
    ahead_goes h (destroy.Locked destroy_locked.RemoveContext) asks.Kept an f q a = refl
    ahead_goes h (destroy.Locked (destroy_locked.AcquireVisitedLock n)) asks.Got an f q a = a
    ahead_goes h (destroy.Locked (destroy_locked.AcquireVisitedLock n)) (asks.Owned k) an f q a = a
    ahead_goes h (destroy.Visit (visit.LoadVisited n)) (asks.Word w) an f q a =
        if_cases (λ (p : DestroyVisit). is_ahead (destroy.Visit p) t ≡ true) (is_receiving_from c.who w.state)
        (visit.FreeVisited n w) (visit.ReleaseVisitedLock n) (λ e. a) (λ e. a)
    ahead_goes h (destroy.Visit (visit.FreeVisited n w)) asks.Won an f q a =
        if_cases (λ (p : DestroyVisit). is_ahead (destroy.Visit p) t ≡ true) w.on (visit.ReleaseVisitedLock n)
        (visit.AcquireReadyForVisited n w) (λ e. a) (λ e. a)
    ahead_goes h (destroy.Visit (visit.FreeVisited n w)) (asks.Lost v) an f q a = a
    ahead_goes h (destroy.Visit (visit.AcquireReadyForVisited n w)) asks.Got an f q a = a
    ahead_goes h (destroy.Visit (visit.AcquireReadyForVisited n w)) (asks.Owned k) an f q a = a
    ahead_goes h (destroy.Pushing (destroy_pushing.PushVisited n w)) asks.Released an f q a = a
    ahead_goes h (destroy.Visit (visit.ReleaseVisitedLock n)) asks.Released an f q a =
        visits_ahead (n + 1) (past n a (λ e. hears (subst (λ (m : ℕ). is_receiving_from c.who (b.seen m).word.state ≡ true) e q)))
      where
        hears : is_receiving_from c.who (b.seen n).word.state ≡ true → ⊥
        hears y = true≢false (sym y ∙ f.1.1.1.1.1.1.1.1.1.1.0.3)
    ahead_goes h (destroy.Victim victim.LoadVictim) r an f q a = absurd cc
    ahead_goes h (destroy.Victim (victim.CommitKill w)) r an f q a = absurd cc
    ahead_goes h (destroy.Victim (victim.ReleaseVictimLockAbsent k)) r an f q a = absurd cc
    ahead_goes h (destroy.Outside p) r an f q a = absurd cc
    ahead_goes h (destroy.Locked destroy_locked.LoadCaller) r an f q a = absurd cc
    ahead_goes h (destroy.Locked destroy_locked.AcquireVictimLock) r an f q a = absurd cc
    ahead_goes h (destroy.Locked (destroy_locked.Release k)) r an f q a = absurd cc
    ahead_goes h p r an f q a = absurd an

no_and : (a d : Bool) → d ≡ false → (a && d) ≡ false
no_and true d e = e
no_and false d e = refl

past_none : (xs : List Bool) (t : ℕ) → slice_index_or xs t false ≡ true → t < length xs
past_none xs t y = elim (cases_lt t (length xs)) [ inl l ↦ l | inr l ↦ absurd (true≢false (sym y ∙ get_or_past xs t false l)) ]

-- a thread that is there has a number of the table
pub below_size : (b : Board) (i : ℕ) (c : DestroyCall) (p : DestroyAt) (t : ℕ) → NumbersHold b.seen b.numbers b.table b.context →
    b.table ≡ Some i → (b.context i).at ≡ InDestroy c p → t ≢ c.who.number → is_dead (b.seen t).word ≡ false →
    t < length b.numbers.versions
below_size b i c p t h o at ne alive = subst (λ (n : ℕ). t < n) h.whole (past_none b.numbers.present t there)
  where
    made : by_owner made_at b.table b.context t ≡ false
    made = ap (λ (m : Option ℕ). by_owner made_at m b.context t) o ∙ ap (λ (q : At). made_at q t) at

    other : (c.who.number == t) ≡ false
    other = grind (arith, nat_tests)

    killed_ : by_owner killed_at b.table b.context t ≡ false
    killed_ =
        ap (λ (m : Option ℕ). by_owner killed_at m b.context t) o ∙ ap (λ (q : At). killed_at q t) at
        ∙ no_and (is_killed p) (c.who.number == t) other

    there : is_present b.numbers t ≡ true
    there = h.present t made killed_ ∙ ap not alive
