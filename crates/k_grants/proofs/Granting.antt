-- A turn that is of a kind is granted: one lemma a kind, over any locations.
use Rattle.std.proofs.Common.{◌≡◌, ℕ, ◌<◌, true, false, refl, sym, ap, ◌∙◌, subst, Option, Some, None, not, arith}
use Rattle.std.specs.Prelude.{length, [], ◌∷◌, ◌++◌}
use Rattle.std.proofs.lemmas.Bool.Decides.{nat_tests}
use Rattle.k_ids.specs.declared.threads.ThreadId.{ThreadId}
use Rattle.k_ids.specs.declared.state_word.StateWord.{StateWord}
use Rattle.k_model.specs.Maps.{upd}
use Rattle.k_model.proofs.Maps.{upd_cases}
use Rattle.k_ready.specs.Lists.{Ready, list_of}
use Rattle.k_ready.proofs.Changed.{list_changed}
use Rattle.k_locks.specs.Hands.{pushed}
use Rattle.std.proofs.lemmas.List.{length-set}
use Rattle.k_locks.specs.Shown.{is_dead}
use Rattle.k_board.specs.Boards.{At, Board}
use Rattle.k_tokens.specs.World.{OfThread, World, Dead, holds_any, no_locks}
use Rattle.k_tokens.specs.Good.{Told}
use Rattle.k_tokens.specs.Steps.{ThreadStep, GoesOn, FindsOwned, FindsTaken, TurnsOn, AcquiresReady}
use Rattle.k_tokens.specs.Steps.{Pushes, AcquiresTable, ReleasesTable, Dies, listed_by, with_ready}
use Rattle.k_grants.specs.Views.{Look, PrioritiesAre, Sight, is_ended, look_at, looks_of}
use Rattle.k_grants.specs.Views.{name_by, name_of, sight_of, sights_of, threads_by, threads_of}
use Rattle.k_grants.specs.Granted.{Agrees, Finding, IsGranted, IsWait}
use Rattle.k_grants.proofs.Moves.{IsAbout, IsSame, acquired_is, dead_is, holding_is, pushed_is, released_is, turned_is}
use Rattle.k_grants.proofs.Sights.{priorities_keep}
use Rattle.k_grants.proofs.Worlds.{world_of}

-- One context moves; the table's size stays.
pub record IsMoved (b b' : Board) (i : ℕ) (q : At) : Type 0 where
  pub size : b'.size ≡ b.size
  pub looks : looks_of b' ≡ upd (looks_of b) i (look_at q)

-- The ready lock and what it guards stay.
pub record IsUnready (b b' : Board) : Type 0 where
  pub ready : b'.ready ≡ b.ready
  pub lists : b'.lists ≡ b.lists

-- From one location to another nothing changes but a thread lock.
pub record IsQuiet (p q : At) : Type 0 where
  pub about : IsAbout (look_at p) (look_at q) (look_at p).condition (look_at q).locks (look_at p).push
  pub same : IsSame (look_at p) (look_at q)
  pub table : (look_at q).locks.table ≡ (look_at p).locks.table
  pub ready : (look_at q).locks.ready ≡ (look_at p).locks.ready
  pub keeps : (who : ThreadId) → (look_at p).push ≡ Some who → holds_any (look_at q).locks ≡ true

pub record IsTurning (p q : At) (who : ThreadId) : Type 0 where
  pub about : IsAbout (look_at p) (look_at q) (look_at p).condition (look_at p).locks (Some who)
  pub same : IsSame (look_at p) (look_at q)
  pub push : (look_at p).push ≡ None
  pub locks : holds_any (look_at p).locks ≡ true

pub record IsAcquiring (p q : At) : Type 0 where
  pub about : IsAbout (look_at p) (look_at q) (look_at p).condition (record (look_at p).locks { ready = true }) (look_at p).push
  pub same : IsSame (look_at p) (look_at q)
  pub locks : holds_any (look_at p).locks ≡ true

pub record IsPushing (p q : At) (who : ThreadId) : Type 0 where
  pub about : IsAbout (look_at p) (look_at q) (look_at p).condition (look_at q).locks None
  pub same : IsSame (look_at p) (look_at q)
  pub push : (look_at p).push ≡ Some who
  pub ready : (look_at p).locks.ready ≡ true
  pub table : (look_at q).locks.table ≡ (look_at p).locks.table
  pub free : (look_at q).locks.ready ≡ false

pub record IsDying (p q : At) : Type 0 where
  pub about : IsAbout (look_at p) (look_at q) Dead no_locks (look_at p).push
  pub same : IsSame (look_at p) (look_at q)
  pub table : (look_at p).locks.table ≡ false
  pub ready : (look_at p).locks.ready ≡ false
  pub push : (look_at p).push ≡ None

-- READY LISTS

-- the thread to the end of the list of the priority that was told, if any
abbrev pub pushed_by : Option ℕ → ThreadId → Ready → Ready
pushed_by None who r = r
pushed_by (Some priority) who r = pushed who priority r

lists_pushed : (told : Option ℕ) (who : ThreadId) (r : Ready) → ((n : ℕ) → told ≡ Some n → n < 64) → length r.lists ≡ 64
    → listed_by (list_of r.lists) (Some who) told ≡ list_of (pushed_by told who r).lists
lists_pushed None who r low size = refl
lists_pushed (Some n) who r low size =
    sym (list_changed r n (list_of r.lists n ++ who ∷ []) (subst (λ (z : ℕ). n < z) (sym size) (low n refl)))

length_pushed : (told : Option ℕ) (who : ThreadId) (r : Ready) → length (pushed_by told who r).lists ≡ length r.lists
length_pushed None who r = refl
length_pushed (Some n) who r = length-set r.lists n (list_of r.lists n ++ who ∷ [])

running_pushed : (told : Option ℕ) (who : ThreadId) (r : Ready) → (pushed_by told who r).running ≡ r.running
running_pushed None who r = refl
running_pushed (Some n) who r = refl

-- KINDS

module _ (w : World) (b : Board) (c i : ℕ) (a : Agrees b w) (f : Finding) (p : At) (at : (b.context i).at ≡ p) where
  abbrev W : World
  W = world_of w b

  abbrev pri : ℕ → ℕ
  pri = w.threads.priority

  module _ (b' : Board) (q : At) (m : IsMoved b b' i q) where
    -- what the threads are after a turn
    pub threads_after : (s : ℕ → Sight) (o : Option ℕ) → sights_of b' ≡ s → b'.table ≡ o →
        threads_of pri b' ≡ threads_by pri s (upd (looks_of b) i (look_at q)) o
    threads_after s o e t = λ z. threads_by pri (e z) (m.looks z) (t z)

    pub name_after : (o : Option ℕ) → b'.ready ≡ o → name_by b.size o ≡ name_by b'.size b'.ready
    name_after o e = λ z. name_by (sym m.size z) (sym e z)

    module _ (u : IsUnready b b') where
      -- A step that leaves the ready lock alone agrees, where it makes of the threads what the board has.
      pub agrees_by : (v : World) → v.ready_owner ≡ W.ready_owner → v.lists ≡ W.lists → v.running ≡ W.running →
          v.threads ≡ threads_of v.threads.priority b'
          → PrioritiesAre v.threads.priority (sights_of b') → Agrees b' v
      agrees_by v r l n t y = record {
        threads = t;
        priorities = y;
        ready = r ∙ name_after b.ready u.ready;
        lists = l ∙ ap (λ (x : Ready). list_of x.lists) (sym u.lists);
        whole = ap (λ (x : Ready). length x.lists) u.lists ∙ a.whole;
        running = n ∙ ap (λ (x : Ready). x.running) (sym u.lists);
      }

      pub priorities_same : sights_of b' ≡ sights_of b → PrioritiesAre pri (sights_of b')
      priorities_same e = subst (PrioritiesAre pri) (sym e) a.priorities

      pub goes_on : sights_of b' ≡ sights_of b → b'.table ≡ b.table → IsQuiet p q → IsGranted b' W c i f false
      goes_on e t h = record {
        step = GoesOn (look_at q).locks;
        kind = tt;
        grants = (k.table, k.ready, k.keeps);
        agrees = agrees_by _ refl refl refl
            (sym (threads_after (sights_of b) b.table e t ∙ holding_is pri (sights_of b) (looks_of b) b.table i (look_at q)
            (look_at q).locks k.about k.same))
            (priorities_same e);
      }
        where
          k : IsQuiet (b.context i).at q
          k = subst (λ (x : At). IsQuiet x q) (sym at) h

      unmoved : sights_of b' ≡ sights_of b → b'.table ≡ b.table → look_at q ≡ look_at p → threads_of pri b ≡ threads_of pri b'
      unmoved e t h =
          sym (threads_after (sights_of b) b.table e t ∙ (λ z.
          threads_by pri (sights_of b) (look_kept (h ∙ ap look_at (sym at)) z) b.table))
        where
          look_kept : look_at q ≡ looks_of b i → upd (looks_of b) i (look_at q) ≡ looks_of b
          look_kept d =
              λ z t. (upd_cases (λ (x : Look). x ≡ looks_of b t) (looks_of b) i (look_at q) t (λ k. d ∙ ap (looks_of b) (sym k))
              (λ k. refl)) z

      pub waits_by : IsWait f.waits → sights_of b' ≡ sights_of b → b'.table ≡ b.table → look_at q ≡ look_at p →
          (look_at p).locks.ready ≡ false → IsGranted b' W c i f true
      waits_by k e t h r = by f.waits k refl
        where
          by : (s : ThreadStep) → IsWait s → s ≡ f.waits → IsGranted b' W c i f true
          by (FindsOwned context wanted) k z = record {
            step = FindsOwned context wanted;
            kind = z;
            grants = ap (λ (x : At). (look_at x).locks.ready) at ∙ r;
            agrees = agrees_by _ refl refl refl (unmoved e t h) (priorities_same e);
          }
          by FindsTaken k z = record {
            step = FindsTaken;
            kind = z;
            grants = tt;
            agrees = agrees_by _ refl refl refl (unmoved e t h) (priorities_same e);
          }
          by s k z = absurd k

      pub turns_on : (who : ThreadId) (old new : StateWord) → (b.seen who.number).word ≡ old →
          sights_of b' ≡ upd (sights_of b) who.number (sight_of new)
          → b'.table ≡ b.table → sight_of new ≡ record (sight_of old) { on = true } → old.version ≡ who.version →
          is_dead old ≡ false → old.on ≡ false
          → is_ended old.state ≡ false → IsTurning p q who → IsGranted b' W c i f false
      turns_on who old new won e t n v d f en h = record {
        step = TurnsOn who;
        kind = tt;
        grants = (
          ap (λ (x : StateWord). not (is_dead x)) won ∙ ap not d,
          ap (λ (x : StateWord). x.version) won ∙ v,
          ap (λ (x : StateWord). x.on) won ∙ f,
          ap (λ (x : StateWord). is_ended x.state) won ∙ en,
          k.push,
          k.locks,
        );
        agrees = agrees_by _ refl refl refl
            (sym (threads_after (upd (sights_of b) who.number (sight_of new)) b.table e t
            ∙ turned_is pri (sights_of b) (looks_of b) b.table i (look_at q) who.number (sight_of new) who refl s k.about k.same))
            (subst (PrioritiesAre pri) (sym e) (priorities_keep pri (sights_of b) who.number (sight_of new)
            (λ z. (ap (λ (x : Sight). x.present) (sym s) ∙ z, ap (λ (x : Sight). x.priority) s)) a.priorities));
      }
        where
          k : IsTurning (b.context i).at q who
          k = subst (λ (x : At). IsTurning x q who) (sym at) h

          s : sight_of new ≡ record (sights_of b who.number) { on = true }
          s = n ∙ ap (λ (x : StateWord). record (sight_of x) { on = true }) (sym won)

      pub acquires_table : sights_of b' ≡ sights_of b → b.table ≡ None → b'.table ≡ Some i → (look_at q).victim ≡ None →
          (look_at q).listed ≡ false
          → (look_at q).making ≡ None → IsAbout (look_at p) (look_at q) (look_at p).condition
          (record (look_at p).locks { table = true }) (look_at p).push
          → IsGranted b' W c i f false
      acquires_table e free t v l n h = record {
        step = AcquiresTable;
        kind = tt;
        grants = free;
        agrees = agrees_by _ refl refl refl
            (sym (threads_after (sights_of b) (Some i) e t ∙ acquired_is pri (sights_of b) (looks_of b) b.table i
            (look_at q) free v l n k))
            (priorities_same e);
      }
        where
          k : IsAbout (looks_of b i) (look_at q) (looks_of b i).condition (record (looks_of b i).locks { table = true })
              (looks_of b i).push
          k =
              subst (λ (x : At). IsAbout (look_at x) (look_at q) (look_at x).condition (record (look_at x).locks { table = true })
              (look_at x).push) (sym at) h

      pub dies : sights_of b' ≡ sights_of b → b'.table ≡ b.table → is_dead (b.seen i).word ≡ true → IsDying p q →
          IsGranted b' W c i f false
      dies e t d h = record {
        step = Dies;
        kind = tt;
        grants = (ap not d, k.table, k.ready, k.push);
        agrees = agrees_by _ refl refl refl
            (sym (threads_after (sights_of b) b.table e t ∙ dead_is pri (sights_of b) (looks_of b) b.table i
            (look_at q) k.about k.same))
            (priorities_same e);
      }
        where
          k : IsDying (b.context i).at q
          k = subst (λ (x : At). IsDying x q) (sym at) h

      module _ (e : sights_of b' ≡ sights_of b) where
        unused_victim : (look_at p).victim ≡ None → b.table ≡ Some i → (threads_of pri b).victim ≡ None
        unused_victim v t =
            ap (λ (o : Option ℕ). (threads_by pri (sights_of b) (looks_of b) o).victim) t ∙ ap (λ (x : At). (look_at x).victim) at
            ∙ v

        unused_making : (look_at p).making ≡ None → b.table ≡ Some i → (threads_of pri b).making ≡ None
        unused_making v t =
            ap (λ (o : Option ℕ). (threads_by pri (sights_of b) (looks_of b) o).making) t ∙ ap (λ (x : At). (look_at x).making) at
            ∙ v

        pub releases_table : b.table ≡ Some i → b'.table ≡ None → (look_at p).victim ≡ None → (look_at p).listed ≡ false →
            (look_at p).making ≡ None
            → (look_at p).push ≡ None → (look_at p).locks.table ≡ true → (look_at q).locks.table ≡ false
            → (look_at q).locks.ready ≡ (look_at p).locks.ready
            → IsAbout (look_at p) (look_at q) (look_at p).condition (look_at q).locks (look_at p).push
            → IsGranted b' W c i f false
        releases_table mine t v l n u x y r h = record {
          step = ReleasesTable (look_at q).locks;
          kind = tt;
          grants = (
            ap (λ (x : At). (look_at x).locks.table) at ∙ x,
            (unused_victim v mine, unused_making n mine),
            y,
            r ∙ ap (λ (x : At). (look_at x).locks.ready) (sym at),
            λ who d. absurd (nobody (sym (ap (λ (x : At). (look_at x).push) at ∙ u) ∙ d)),
          );
          agrees = agrees_by _ refl refl refl
              (sym (threads_after (sights_of b) None e t ∙ released_is pri (sights_of b) (looks_of b) b.table i (look_at q)
              (look_at q).locks mine
              (ap (λ (x : At). (look_at x).victim) at ∙ v) (ap (λ (x : At). (look_at x).listed) at ∙ l)
              (ap (λ (x : At). (look_at x).making) at ∙ n) k))
              (priorities_same e);
        }
          where
            nobody : {who : ThreadId} → None ≡ Some who → ⊥
            nobody z = cc

            k : IsAbout (looks_of b i) (look_at q) (looks_of b i).condition (look_at q).locks (looks_of b i).push
            k =
                subst (λ (x : At). IsAbout (look_at x) (look_at q) (look_at x).condition (look_at q).locks (look_at x).push)
                (sym at) h

    -- The ready lock is acquired, or released.
    pub acquires_ready : sights_of b' ≡ sights_of b → b'.table ≡ b.table → b.ready ≡ None → b'.ready ≡ Some i →
        b'.lists ≡ b.lists → i < b.size
        → IsAcquiring p q → IsGranted b' W c i f false
    acquires_ready e t free r l inside h = record {
      step = AcquiresReady;
      kind = tt;
      grants = (ap (name_by b.size) free, k.locks);
      agrees = record {
        threads =
            sym (threads_after (sights_of b) b.table e t ∙ holding_is pri (sights_of b) (looks_of b) b.table i (look_at q)
            (with_ready (looks_of b i).locks) k.about k.same);
        priorities = subst (PrioritiesAre pri) (sym e) a.priorities;
        ready = ap Some (sym named) ∙ name_after (Some i) r;
        lists = ap (λ (x : Ready). list_of x.lists) (sym l);
        whole = ap (λ (x : Ready). length x.lists) l ∙ a.whole;
        running = ap (λ (x : Ready). x.running) (sym l);
      };
    }
      where
        k : IsAcquiring (b.context i).at q
        k = subst (λ (x : At). IsAcquiring x q) (sym at) h

        named : name_of b.size i ≡ OfThread i
        named = grind (arith, nat_tests, inside)

    pub pushes : (who : ThreadId) (told : Option ℕ) → sights_of b' ≡ sights_of b → b'.table ≡ b.table → b'.ready ≡ None
        → b'.lists ≡ pushed_by told who b.lists → Told (threads_of pri b) who told → IsPushing p q who →
        IsGranted b' W c i f false
    pushes who told e t r l known h = record {
      step = Pushes told (look_at q).locks f.above;
      kind = refl;
      grants = (who, k.push, known, k.ready, k.table, k.free);
      agrees = record {
        threads =
            sym (threads_after (sights_of b) b.table e t ∙ pushed_is pri (sights_of b) (looks_of b) b.table i (look_at q)
            (look_at q).locks k.about k.same);
        priorities = subst (PrioritiesAre pri) (sym e) a.priorities;
        ready = name_after None r;
        lists =
            ap (λ (o : Option ThreadId). listed_by (list_of b.lists.lists) o told) k.push
            ∙ lists_pushed told who b.lists (known_low told known) a.whole ∙ ap (λ (x : Ready). list_of x.lists) (sym l);
        whole = ap (λ (x : Ready). length x.lists) l ∙ length_pushed told who b.lists ∙ a.whole;
        running = sym (ap (λ (x : Ready). x.running) l ∙ running_pushed told who b.lists);
      };
    }
      where
        k : IsPushing (b.context i).at q who
        k = subst (λ (x : At). IsPushing x q who) (sym at) h

        known_low : (o : Option ℕ) → Told (threads_of pri b) who o → (n : ℕ) → o ≡ Some n → n < 64
        known_low o x n d = (x.shown n d).0
