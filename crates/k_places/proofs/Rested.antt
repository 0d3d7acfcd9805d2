-- What the word of a context tells of the board: a clean one holds no lock, and an empty one stands nowhere.
use Rattle.std.proofs.Common.{◌≡◌, ℕ, Bool, true, false, refl, sym, ap, ◌∙◌, subst, Option, Some, None}
use Rattle.std.specs.Prelude.{if◌then◌else◌, ◌==◌}
use Rattle.k_ids.specs.declared.context_word.ContextWord.{ContextWord}
use Rattle.k_ids.specs.declared.context_word.ContextWord.TheVariants.{Clean, Empty, Holds as HoldsOne, Taken}
use Rattle.k_ids.specs.declared.state_word.StateWord.{StateWord}
use Rattle.k_ids.specs.ContextWords.{IsVersion, context_bits, context_word_of}
use Rattle.k_ids.proofs.ContextSpelled.{context-read}
use Rattle.k_locks.specs.declared.locks.Lock.{Lock}
use Rattle.k_locks.specs.declared.locks.Lock.TheVariants as lock
use Rattle.k_locks.specs.Locks.{Holds}
use Rattle.k_script.specs.Script.{Script}
use Rattle.k_caller.specs.declared.activity.Activity.{Activity}
use Rattle.k_caller.specs.declared.activity.Activity.TheVariants as activity
use Rattle.k_caller.specs.Activities as about
use Rattle.k_caller.specs.Threads.{ThreadSeen}
use Rattle.k_switch.specs.declared.switch.Switch.{Switch}
use Rattle.k_switch.specs.Carriers.{locks_in}
use Rattle.k_context.specs.Contexts.{ContextSeen, Thread, Carrier, locks_of}
use Rattle.k_carrier.specs.Rules.{holds_any}
use Rattle.k_carrier.specs.Seen.{HandSeen}
use Rattle.k_world.specs.Worlds.{Slot, Guarded, Resting, Away, held_in, resting_in}
use Rattle.k_board.specs.Boards.{At, Board, Coming, Context, Nowhere, owner_of}
use Rattle.k_board.specs.Steps.{Holds as IsHolding}
use Rattle.k_good.specs.Locks.{LocksHold, locks_at, owner_by}
use Rattle.k_places.specs.Contexts.{ShowsContext, at_in, switch_at}
use Rattle.k_places.specs.Memory.{Memory}
use Rattle.k_places.specs.Shows.{IsInHand, Rests, Shows, Stands, context_by}
use Rattle.k_places.proofs.Guarded.{locks_by, ranked_at}

-- NO LOCK

-- none of three
none_by : (t : Bool) (n : Option ℕ) (r : Bool) (l : Lock) → holds_any (locks_by t n r) ≡ false → Holds l (locks_by t n r) → ⊥
none_by true n r l e h = by n e
  where
    by : (n : Option ℕ) → holds_any (locks_by true n r) ≡ false → ⊥
    by None e = absurd cc
    by (Some k) e = absurd cc
none_by false (Some k) r l e h = absurd cc
none_by false None true l e h = absurd cc
none_by false None false (lock.Thread n) e h = absurd cc
none_by false None false lock.Table e h = absurd cc
none_by false None false lock.Ready e h = absurd cc

none_held : (p : At) (l : Lock) → holds_any (locks_at p) ≡ false → Holds l (locks_at p) → ⊥
none_held p l e h =
    let r = ranked_at p in none_by r.table r.thread r.ready l (ap holds_any (sym r.is) ∙ e) (subst (Holds l) r.is h)

-- the locks of a context are those of its location
locks_in_at : (a : Activity) → locks_at (at_in a) ≡ about.locks_of a
locks_in_at (activity.Alone p) = refl
locks_in_at (activity.Send s) = refl
locks_in_at (activity.Receive s) = refl
locks_in_at (activity.Create s) = refl
locks_in_at (activity.Destroy s) = refl

switch_locks : (s : Option Switch) → locks_at (switch_at s) ≡ locks_in s
switch_locks None = refl
switch_locks (Some s) = refl

thread_none : (t : ThreadSeen) (q : Bool) → holds_any (about.locks_of t.activity) ≡ false →
    holds_any (locks_at (if q then at_in t.activity else Coming)) ≡ false
thread_none t true e = ap holds_any (locks_in_at t.activity) ∙ e
thread_none t false e = refl

shows_none : (w : StateWord) (n : ℕ) (v : ContextSeen) (x : Context) → ShowsContext w n (Some v) x →
    holds_any (locks_of v) ≡ false → holds_any (locks_at x.at) ≡ false
shows_none w n (Thread t) x h e =
    ap (λ (z : Context). holds_any (locks_at z.at)) h.context ∙ thread_none t (w.version == t.id.version) e
shows_none w n (Carrier k) x h e = ap (λ p. holds_any (locks_at p)) h ∙ ap holds_any (switch_locks k.switch) ∙ e

-- SOMEWHERE

made_somewhere : (q : Bool) (a : Activity) → (if q then at_in a else Coming) ≡ Nowhere → ⊥
made_somewhere false a e = absurd cc
made_somewhere true (activity.Alone p) e = absurd cc
made_somewhere true (activity.Send s) e = absurd cc
made_somewhere true (activity.Receive s) e = absurd cc
made_somewhere true (activity.Create s) e = absurd cc
made_somewhere true (activity.Destroy s) e = absurd cc

switch_somewhere : (s : Option Switch) → switch_at s ≡ Nowhere → ⊥
switch_somewhere None e = absurd cc
switch_somewhere (Some s) e = absurd cc

somewhere : (w : StateWord) (n : ℕ) (v : ContextSeen) (x : Context) → ShowsContext w n (Some v) x → x.at ≡ Nowhere → ⊥
somewhere w n (Thread t) x h e =
    made_somewhere (w.version == t.id.version) t.activity (sym (ap (λ (z : Context). z.at) h.context) ∙ e)
somewhere w n (Carrier k) x h e = switch_somewhere k.switch (sym h ∙ e)

module _ (script : Script) (m : Memory) (b : Board) (sh : Shows script m b) (n : ℕ) where
  abbrev There : Option ContextSeen → Type 0
  There o = ShowsContext (b.seen n).word n o (b.context n)

  resting : (s : Slot) (holds : Bool) (version : ℕ) → Rests s holds version → There (resting_in s) →
      (v : ContextSeen) × (There (Some v)) × (holds_any (locks_of v) ≡ holds)
  resting (Resting v) holds version r t = (v, t, r.0)
  resting (Guarded g) holds version r t = absurd r
  resting Away holds version r t = absurd r

  in_hand : (h : Option HandSeen) (version : ℕ) → IsInHand h n version → There (held_in h) → (v : ContextSeen) × There (Some v)
  in_hand (Some k) version r t = (k.value, t)
  in_hand None version r t = absurd r

  pub clean_free : LocksHold b.owner b.table b.ready b.context → (version : ℕ) → IsVersion version →
      m.context n ≡ context_bits (Clean version) → IsHolding b n
  clean_free locks version whole e l q =
      let word : context_word_of (m.context n) ≡ Clean version = ap context_word_of e ∙ context-read (Clean version) whole in
      let r = resting (m.slot n) false version (subst (Stands m.slot m.hand n) word (sh.places.stands n))
      (subst (λ (w : ContextWord). There (context_by m.slot m.hand n w)) word (sh.contexts n)) in
      none_held (b.context n).at l (shows_none (b.seen n).word n r.0 (b.context n) r.1 r.2) (locks.held l n (owner_is l ∙ q))
    where
      owner_is : (k : Lock) → owner_by b.owner b.table b.ready k ≡ owner_of b k
      owner_is (lock.Thread t) = refl
      owner_is lock.Table = refl
      owner_is lock.Ready = refl

  pub nowhere_empty : (b.context n).at ≡ Nowhere → m.context n ≡ context_bits Empty
  nowhere_empty e = by (context_word_of (m.context n)) refl (sh.places.stands n) (sh.contexts n)
    where
      by : (w : ContextWord) → context_word_of (m.context n) ≡ w → Stands m.slot m.hand n w →
          There (context_by m.slot m.hand n w) → m.context n ≡ context_bits Empty
      by Empty q s t = sym (sh.places.spelled n).same ∙ ap context_bits q
      by (Clean version) q s t =
          let r = resting (m.slot n) false version s t in absurd (somewhere (b.seen n).word n r.0 (b.context n) r.1 e)
      by (HoldsOne version) q s t =
          let r = resting (m.slot n) true version s t in absurd (somewhere (b.seen n).word n r.0 (b.context n) r.1 e)
      by (Taken c version) q s t =
          let r = in_hand (m.hand c) version s t in absurd (somewhere (b.seen n).word n r.0 (b.context n) r.1 e)
