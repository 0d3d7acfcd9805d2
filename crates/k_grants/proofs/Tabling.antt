-- The turns that change which threads there are, and those by which a thread leaves its carrier: one lemma a kind.
use Rattle.std.proofs.Common.{◌≡◌, ◌≢◌, ℕ, ◌<◌, ◌+◌, Bool, true, false, refl, sym, ap, ◌∙◌, subst, Option, Some, None, not}
use Rattle.std.specs.Prelude.{length}
use Rattle.k_ids.specs.declared.threads.ThreadId.{ThreadId}
use Rattle.k_ids.specs.declared.state_word.StateWord.{StateWord}
use Rattle.k_model.specs.Maps.{upd}
use Rattle.k_ready.specs.Lists.{Ready, list_of}
use Rattle.k_locks.specs.Shown.{is_dead}
use Rattle.k_board.specs.Boards.{At, Board}
use Rattle.k_tokens.specs.Maps.{id_at}
use Rattle.k_tokens.specs.World.{World, Threads, Absent, Awake, Asleep, Ended, holds_any, no_locks}
use Rattle.k_tokens.specs.Steps.{Kills, Unlists, Removes, Places, Makes, FallsAsleep}
use Rattle.k_tokens.specs.Steps.{Ends, made_by as after_made, removed_by, unlisted_by}
use Rattle.k_grants.specs.Views.{Look, PrioritiesAre, Sight, is_ended, look_at, looks_of}
use Rattle.k_grants.specs.Views.{name_by, plain, sight_of, sights_of, threads_by, threads_of}
use Rattle.k_grants.specs.Granted.{Agrees, Finding, IsGranted}
use Rattle.k_grants.proofs.Moves.{IsAbout, IsSame, asleep_is, at_end_is, killed_is}
use Rattle.k_grants.proofs.Moves.{newly_made_is, placed_is, removed_is, unlisted_is}
use Rattle.k_grants.proofs.Sights.{priorities_keep, priorities_set}
use Rattle.k_grants.proofs.Worlds.{world_of}
use Rattle.k_grants.proofs.Granting.{IsMoved, IsUnready, agrees_by, name_after, threads_after}

-- what of a location is about the table
pub record IsLeaving (p q : At) : Type 0 where
  pub coming : (look_at q).is_coming ≡ (look_at p).is_coming
  pub locks : (look_at q).locks ≡ (look_at p).locks
  pub push : (look_at q).push ≡ (look_at p).push
  pub same : IsSame (look_at p) (look_at q)
  pub free : holds_any (look_at p).locks ≡ false

pub record IsKilling (p q : At) (who : ThreadId) : Type 0 where
  pub about : IsAbout (look_at p) (look_at q) (look_at p).condition (look_at p).locks (look_at p).push
  pub making : (look_at q).making ≡ (look_at p).making
  pub victim : (look_at q).victim ≡ Some who
  pub listed : (look_at q).listed ≡ true
  pub table : (look_at p).locks.table ≡ true
  pub none : (look_at p).victim ≡ None
  pub unmade : (look_at p).making ≡ None

pub record IsUnlisting (p q : At) (who : ThreadId) : Type 0 where
  pub about : IsAbout (look_at p) (look_at q) (look_at p).condition (look_at q).locks (look_at p).push
  pub victim : (look_at q).victim ≡ (look_at p).victim
  pub making : (look_at q).making ≡ (look_at p).making
  pub listed : (look_at q).listed ≡ false
  pub is : (look_at p).victim ≡ Some who
  pub table : (look_at p).locks.table ≡ true
  pub ready : (look_at p).locks.ready ≡ true
  pub keeps : (look_at q).locks.table ≡ true
  pub free : (look_at q).locks.ready ≡ false

pub record IsRemoving (p q : At) (who : ThreadId) : Type 0 where
  pub about : IsAbout (look_at p) (look_at q) (look_at p).condition (look_at p).locks (look_at p).push
  pub victim : (look_at q).victim ≡ None
  pub making : (look_at q).making ≡ (look_at p).making
  pub listed : (look_at q).listed ≡ false
  pub is : (look_at p).victim ≡ Some who
  pub unlisted : (look_at p).listed ≡ false
  pub table : (look_at p).locks.table ≡ true

pub record IsPlacing (p q : At) (n : ℕ) : Type 0 where
  pub about : IsAbout (look_at p) (look_at q) (look_at p).condition (look_at p).locks (look_at p).push
  pub victim : (look_at q).victim ≡ (look_at p).victim
  pub listed : (look_at q).listed ≡ (look_at p).listed
  pub making : (look_at q).making ≡ Some n
  pub table : (look_at p).locks.table ≡ true
  pub none : (look_at p).victim ≡ None
  pub unmade : (look_at p).making ≡ None

pub record IsMaking (p q : At) (id : ThreadId) : Type 0 where
  pub about : IsAbout (look_at p) (look_at q) (look_at p).condition (look_at p).locks (Some id)
  pub victim : (look_at q).victim ≡ (look_at p).victim
  pub listed : (look_at q).listed ≡ (look_at p).listed
  pub making : (look_at q).making ≡ None
  pub is : (look_at p).making ≡ Some id.number
  pub table : (look_at p).locks.table ≡ true
  pub push : (look_at p).push ≡ None

module _ (w : World) (b : Board) (c i : ℕ) (a : Agrees b w) (f : Finding) (p : At) (at : (b.context i).at ≡ p) (b' : Board)
    (q : At) where
  abbrev W : World
  W = world_of w b

  abbrev pri : ℕ → ℕ
  pri = w.threads.priority

  module _ (m : IsMoved b b' i q) (u : IsUnready b b') where
    module _ (old new : StateWord) (won : (b.seen i).word ≡ old) (e : sights_of b' ≡ upd (sights_of b) i (sight_of new))
        (t : b'.table ≡ b.table)
        (d : is_dead old ≡ false) (h : IsLeaving p q) where
      leaving : IsLeaving (b.context i).at q
      leaving = subst (λ (x : At). IsLeaving x q) (sym at) h

      there : not (is_dead (b.seen i).word) ≡ true
      there = ap (λ (x : StateWord). not (is_dead x)) won ∙ ap not d

      priorities_left : (sight_of new).present ≡ (sight_of old).present → new.priority ≡ old.priority →
          PrioritiesAre pri (sights_of b')
      priorities_left f y =
          subst (PrioritiesAre pri) (sym e) (priorities_keep pri (sights_of b) i (sight_of new)
          (λ z. (there, y ∙ ap (λ (x : StateWord). x.priority) (sym won))) a.priorities)

      pub falls_asleep : sight_of new ≡ record (sight_of old) { on = false } → (look_at q).condition ≡ Asleep →
          IsGranted b' W c i f false
      falls_asleep n k = record {
        step = FallsAsleep;
        kind = tt;
        grants = (there, leaving.free);
        agrees = agrees_by w b c i a f p at b' q m u _ refl refl refl
            (sym (threads_after w b c i a f p at b' q m (upd (sights_of b) i (sight_of new)) b.table e t
            ∙ asleep_is pri (sights_of b) (looks_of b) b.table i (look_at q) (sight_of new)
            (n ∙ ap (λ (x : StateWord). record (sight_of x) { on = false }) (sym won))
            record { condition = k; coming = leaving.coming; locks = leaving.locks; push = leaving.push } leaving.same))
            (priorities_left (ap (λ (x : Sight). x.present) n) (ap (λ (x : Sight). x.priority) n));
      }

      pub ends : sight_of new ≡ record (sight_of old) { on = false; ended = true } → (look_at q).condition ≡ Ended →
          IsGranted b' W c i f false
      ends n k = record {
        step = Ends;
        kind = tt;
        grants = (there, leaving.free);
        agrees = agrees_by w b c i a f p at b' q m u _ refl refl refl
            (sym (threads_after w b c i a f p at b' q m (upd (sights_of b) i (sight_of new)) b.table e t
            ∙ at_end_is pri (sights_of b) (looks_of b) b.table i (look_at q) (sight_of new)
            (n ∙ ap (λ (x : StateWord). record (sight_of x) { on = false; ended = true }) (sym won))
            record { condition = k; coming = leaving.coming; locks = leaving.locks; push = leaving.push } leaving.same))
            (priorities_left (ap (λ (x : Sight). x.present) n) (ap (λ (x : Sight). x.priority) n));
      }

    module _ (mine : b.table ≡ Some i) (t : b'.table ≡ b.table) where
      victim_at : (v : Option ThreadId) → (look_at p).victim ≡ v → (threads_of pri b).victim ≡ v
      victim_at v e =
          ap (λ (o : Option ℕ). (threads_by pri (sights_of b) (looks_of b) o).victim) mine
          ∙ ap (λ (x : At). (look_at x).victim) at ∙ e

      making_at : (v : Option ℕ) → (look_at p).making ≡ v → (threads_of pri b).making ≡ v
      making_at v e =
          ap (λ (o : Option ℕ). (threads_by pri (sights_of b) (looks_of b) o).making) mine
          ∙ ap (λ (x : At). (look_at x).making) at ∙ e

      pub kills : (who : ThreadId) (old new : StateWord) → (b.seen who.number).word ≡ old →
          sights_of b' ≡ upd (sights_of b) who.number (sight_of new)
          → who.number ≢ i → is_dead old ≡ false → old.version ≡ who.version → new.version ≡ old.version → is_dead new ≡ true →
          new.on ≡ false → is_ended new.state ≡ false
          → IsKilling p q who → IsGranted b' W c i f false
      kills who old new won e ne d v nv nd off goes h = record {
        step = Kills who.number;
        kind = tt;
        grants = (
          k.table,
          ne,
          ap (λ (x : StateWord). not (is_dead x)) won ∙ ap not d,
          (victim_at None h.none, making_at None h.unmade),
        );
        agrees = agrees_by w b c i a f p at b' q m u _ refl refl refl
            (sym (threads_after w b c i a f p at b' q m (upd (sights_of b) who.number (sight_of new)) b.table e t
            ∙ killed_is pri (sights_of b) (looks_of b) b.table i (look_at q) who.number (sight_of new) mine
            (nv ∙ ap (λ (x : StateWord). x.version) (sym won)) (ap not nd) off goes
            (k.victim ∙ (λ z. Some (id_at who.number (was z)))) k.listed k.making k.about))
            (subst (PrioritiesAre pri) (sym e) (priorities_keep pri (sights_of b) who.number (sight_of new)
            (λ z. absurd (dead_here z)) a.priorities));
      }
        where
          k : IsKilling (b.context i).at q who
          k = subst (λ (x : At). IsKilling x q who) (sym at) h

          was : who.version ≡ (b.seen who.number).word.version
          was = sym (ap (λ (x : StateWord). x.version) won ∙ v)

          dead_here : not (is_dead new) ≡ true → ⊥
          dead_here z = true_not (sym (ap not nd) ∙ z)
            where
              true_not : false ≡ true → ⊥
              true_not x = cc

  -- The victim is taken out of the ready lists, whose lock is released.
  pub unlists : (m : IsMoved b b' i q) (who : ThreadId) → b.table ≡ Some i → sights_of b' ≡ sights_of b → b'.table ≡ b.table →
      b'.ready ≡ None
      → unlisted_by (list_of b.lists.lists) (Some who) ≡ list_of b'.lists.lists → length b'.lists.lists ≡ length b.lists.lists →
      b'.lists.running ≡ b.lists.running
      → IsUnlisting p q who → IsGranted b' W c i f false
  unlists m who mine e t r l n y h = record {
    step = Unlists (look_at q).locks;
    kind = tt;
    grants = (who, victim_is, k.table, k.ready, k.keeps, k.free);
    agrees = record {
      threads = sym (threads_after w b c i a f p at b' q m (sights_of b) b.table e t
          ∙ unlisted_is pri (sights_of b) (looks_of b) b.table i (look_at q)
          (look_at q).locks mine k.listed k.victim k.making k.about);
      priorities = subst (PrioritiesAre pri) (sym e) a.priorities;
      ready = name_after w b c i a f p at b' q m None r;
      lists = ap (unlisted_by (list_of b.lists.lists)) victim_is ∙ l;
      whole = n ∙ a.whole;
      running = sym y;
    };
  }
    where
      k : IsUnlisting (b.context i).at q who
      k = subst (λ (x : At). IsUnlisting x q who) (sym at) h

      victim_is : (threads_of pri b).victim ≡ Some who
      victim_is = ap (λ (o : Option ℕ). (threads_by pri (sights_of b) (looks_of b) o).victim) mine ∙ k.is

  -- Another context is removed or placed, or its thread is made.
  module _ (n : ℕ) (x : Look) (apart : i ≢ n) (size : b'.size ≡ b.size)
      (looks : looks_of b' ≡ upd (upd (looks_of b) n x) i (look_at q)) (u : IsUnready b b')
      (mine : b.table ≡ Some i) (t : b'.table ≡ b.table) where
    abbrev two : (ℕ → ℕ) → (ℕ → Sight) → Threads
    two y s = threads_by y s (upd (upd (looks_of b) n x) i (look_at q)) b.table

    both_after : (y : ℕ → ℕ) (s : ℕ → Sight) → sights_of b' ≡ s → threads_of y b' ≡ two y s
    both_after y s e = λ z. threads_by y (e z) (looks z) (t z)

    agrees_both : (v : World) → v.ready_owner ≡ W.ready_owner → v.lists ≡ W.lists → v.running ≡ W.running →
        v.threads ≡ threads_of v.threads.priority b'
        → PrioritiesAre v.threads.priority (sights_of b') → Agrees b' v
    agrees_both v r l k h y = record {
      threads = h;
      priorities = y;
      ready = r ∙ (λ z. name_by (sym size z) (sym u.ready z));
      lists = l ∙ ap (λ (x : Ready). list_of x.lists) (sym u.lists);
      whole = ap (λ (x : Ready). length x.lists) u.lists ∙ a.whole;
      running = k ∙ ap (λ (x : Ready). x.running) (sym u.lists);
    }

    victim_by : (v : Option ThreadId) → (looks_of b i).victim ≡ v → (threads_of pri b).victim ≡ v
    victim_by v e = ap (λ (o : Option ℕ). (threads_by pri (sights_of b) (looks_of b) o).victim) mine ∙ e

    making_by : (v : Option ℕ) → (looks_of b i).making ≡ v → (threads_of pri b).making ≡ v
    making_by v e = ap (λ (o : Option ℕ). (threads_by pri (sights_of b) (looks_of b) o).making) mine ∙ e

    listed_by_me : (v : Bool) → (looks_of b i).listed ≡ v → (threads_of pri b).listed ≡ v
    listed_by_me v e = ap (λ (o : Option ℕ). (threads_by pri (sights_of b) (looks_of b) o).listed) mine ∙ e

    pub removes : (who : ThreadId) → who.number ≡ n → sights_of b' ≡ sights_of b → x ≡ plain Absent →
        (looks_of b n).is_coming ≡ false → (looks_of b n).locks ≡ no_locks
        → (looks_of b n).push ≡ None → w.held n ≡ None → IsRemoving p q who → IsGranted b' W c i f false
    removes who number e is cm lk pu free h = record {
      step = Removes;
      kind = tt;
      grants = (
        who,
        victim_is,
        k.table,
        listed_by_me false k.unlisted,
        ap w.held number ∙ free,
        ap (λ (z : ℕ). holds_any (looks_of b z).locks) number ∙ ap holds_any lk,
      );
      agrees = agrees_both _ refl refl refl
          (subst (λ (o : Option ThreadId). removed_by (threads_of pri b) o ≡
          threads_of (removed_by (threads_of pri b) o).priority b') (sym victim_is)
          (sym (both_after pri (sights_of b) e
          ∙ removed_is pri (sights_of b) (looks_of b) b.table i (look_at q) n x apart who number mine is cm lk pu k.victim
          (k.listed ∙ sym k.unlisted) k.making k.about)))
          (subst (λ (o : Option ThreadId). PrioritiesAre (removed_by (threads_of pri b) o).priority (sights_of b'))
          (sym victim_is) (subst (PrioritiesAre pri) (sym e) a.priorities));
    }
      where
        k : IsRemoving (b.context i).at q who
        k = subst (λ (z : At). IsRemoving z q who) (sym at) h

        victim_is : (threads_of pri b).victim ≡ Some who
        victim_is = victim_by (Some who) k.is

    pub places : sights_of b' ≡ sights_of b → x ≡ record (plain Awake) { is_coming = true } → looks_of b n ≡ plain Absent →
        is_dead (b.seen n).word ≡ true
        → IsPlacing p q n → IsGranted b' W c i f false
    places e is old d h = record {
      step = Places n;
      kind = tt;
      grants = (k.table, ap not d, ap (λ (z : Look). z.condition) old, (victim_by None k.none, making_by None k.unmade));
      agrees = agrees_both _ refl refl refl
          (sym (both_after pri (sights_of b) e
          ∙ placed_is pri (sights_of b) (looks_of b) b.table i
          (look_at q) n x apart mine is old k.victim k.listed k.making k.about))
          (subst (PrioritiesAre pri) (sym e) a.priorities);
    }
      where
        k : IsPlacing (b.context i).at q n
        k = subst (λ (z : At). IsPlacing z q n) (sym at) h

    pub makes : (id : ThreadId) (new : StateWord) → id.number ≡ n → id.version ≡ (b.seen n).word.version + 1 →
        sights_of b' ≡ upd (sights_of b) n (sight_of new)
        → new.version ≡ (b.seen n).word.version + 1 → is_dead new ≡ false → new.on ≡ true → is_ended new.state ≡ false →
        new.priority < 64
        → x ≡ plain Awake → looks_of b n ≡ record (plain Awake) { is_coming = true } → IsMaking p q id →
        IsGranted b' W c i f false
    makes id new number version e v d o en low is old h = record {
      step = Makes new.priority;
      kind = tt;
      grants = (n, making_is, k.table, k.push, low);
      agrees = agrees_both _ refl refl refl
          (subst (λ (z : Option ℕ). after_made (threads_of pri b) i new.priority z ≡
          threads_of (after_made (threads_of pri b) i new.priority z).priority b') (sym making_is)
          (sym (both_after (upd pri n new.priority) (upd (sights_of b) n (sight_of new)) e
          ∙ newly_made_is pri (sights_of b) (looks_of b) b.table i (look_at q) n x apart (sight_of new) new.priority mine is old v
          (ap not d) o en k.victim k.listed k.making about)))
          (subst (λ (z : Option ℕ). PrioritiesAre (after_made (threads_of pri b) i new.priority z).priority (sights_of b'))
          (sym making_is)
          (subst (PrioritiesAre (upd pri n new.priority)) (sym e)
          (priorities_set pri (sights_of b) n (sight_of new) a.priorities)));
    }
      where
        k : IsMaking (b.context i).at q id
        k = subst (λ (z : At). IsMaking z q id) (sym at) h

        making_is : (threads_of pri b).making ≡ Some n
        making_is = making_by (Some n) (k.is ∙ ap Some number)

        named : id ≡ id_at n ((b.seen n).word.version + 1)
        named = λ z. record { number = number z; version = version z }

        about : IsAbout (looks_of b i) (look_at q) (looks_of b i).condition (looks_of b i).locks
            (Some (id_at n ((b.seen n).word.version + 1)))
        about =
            subst (λ (z : ThreadId). IsAbout (looks_of b i) (look_at q) (looks_of b i).condition (looks_of b i).locks
            (Some z)) named k.about
