-- What each step of a destroy takes.
use Rattle.std.proofs.Common.{◌≡◌, ◌≢◌, ℕ, ◌+◌, ◌-◌, ◌*◌, ◌<◌, ◌≤◌, Bool, true, false, refl, sym, ap, ◌∙◌}
use Rattle.std.proofs.Common.{subst, arith, Option, Some, None, List, [], ◌∷◌, inl, inr}
use Rattle.std.specs.Prelude.{nat_lt, if◌then◌else◌}
use Rattle.std.proofs.lemmas.Bool.Decides.{nat_tests}
use Rattle.std.proofs.lemmas.Grind.{common_steps}
use Rattle.k_ids.specs.declared.calls.Outcome.TheVariants as outcome
use Rattle.k_ids.specs.declared.calls.Reply.TheVariants as reply
use Rattle.k_ids.specs.declared.state_word.StateWord.{StateWord}
use Rattle.k_senders.specs.declared.entries.SenderEntry.{SenderEntry}
use Rattle.k_locks.specs.Asks.{Response}
use Rattle.k_locks.specs.Asks as asks
use Rattle.k_locks.specs.Hands.{Hand}
use Rattle.k_locks.specs.Shown.{found_in, is_dead, is_present_in}
use Rattle.k_locks.specs.declared.points.Point.{Point}
use Rattle.k_locks.specs.declared.steps.Went.TheVariants as went
use Rattle.k_locks.proofs.Responses.{Each}
use Rattle.k_script.specs.Plays.{Position}
use Rattle.k_threads.specs.declared.destroy.DestroyCall.{DestroyCall}
use Rattle.k_threads.specs.declared.destroy.DestroyOutside.TheVariants.{LoadOwn, AcquireTable, Ended}
use Rattle.k_threads.specs.declared.destroy.DestroyLocked.TheVariants.{LoadCaller, AcquireVictimLock}
use Rattle.k_threads.specs.declared.destroy.DestroyLocked.TheVariants.{AcquireReadyForVictim}
use Rattle.k_threads.specs.declared.destroy.DestroyLocked.TheVariants.{RemoveContext, AcquireVisitedLock}
use Rattle.k_threads.specs.declared.destroy.DestroyLocked.TheVariants.{Release}
use Rattle.k_threads.specs.declared.destroy.DestroyRelease.TheVariants as release
use Rattle.k_threads.specs.declared.destroy.DestroyVictim.TheVariants.{LoadVictim, CommitKill, LoadSender}
use Rattle.k_threads.specs.declared.destroy.DestroyVictim.TheVariants.{FreeSender}
use Rattle.k_threads.specs.declared.destroy.DestroyVictim.TheVariants.{AcquireReadyForSender}
use Rattle.k_threads.specs.declared.destroy.DestroyVictim.TheVariants.{ReleaseVictimLock}
use Rattle.k_threads.specs.declared.destroy.DestroyVictim.TheVariants.{ReleaseVictimLockAbsent}
use Rattle.k_threads.specs.declared.destroy.DestroyVisit.TheVariants.{LoadVisited, FreeVisited}
use Rattle.k_threads.specs.declared.destroy.DestroyVisit.TheVariants.{AcquireReadyForVisited}
use Rattle.k_threads.specs.declared.destroy.DestroyVisit.TheVariants.{ReleaseVisitedLock}
use Rattle.k_threads.specs.declared.destroy.DestroyPushing.TheVariants.{PushSender, PushVisited}
use Rattle.k_threads.specs.DestroyTable.{DestroyAt, UnlistVictim, Outside, Locked, Victim, Visit, Pushing}
use Rattle.k_threads.specs.DestroyTable.{but_victim, free_first, to_visit, visit_from}
use Rattle.k_threads.specs.DestroyTable as destroy
use Rattle.k_threads.specs.Goods.{rest}
use Rattle.k_threads.specs.Words.{is_receiving_from, thread_at}
use Rattle.k_board.specs.Words.{Programs, noted}
use Rattle.k_board.specs.Boards.{InDestroy, Context, Board, hand_of}
use Rattle.k_board.specs.Facts.{AllSay}
use Rattle.k_board.specs.Places.{facts_destroy}
use Rattle.k_board.specs.Steps.{Answers, destroy_board, destroy_context, destroy_number}
use Rattle.k_good.proofs.Words.{noted_word}
use Rattle.k_owed.specs.Owes.{owes_at, owes_visits, rest_of}
use Rattle.k_owed.specs.Owed.{owed_at}
use Rattle.k_owed.proofs.Ends.{ended_owed, loaded_owes, lost_owes, own_ends}
use Rattle.k_owed.proofs.Entries.{pushed_entries, unlisted_entries}
use Rattle.k_owed.proofs.Lowers.{Lowers, Spends}

-- THE NUMBERS THAT ARE STILL VISITED

some_visit : (c : DestroyCall) (n : ℕ) → c.who.number < c.count → n < c.count → n ≢ c.who.number → 1 ≤
    to_visit c n
some_visit c n inside here other = grind (arith, common_steps, nat_tests)

fewer_visits : (c : DestroyCall) (n : ℕ) → c.who.number < c.count → n < c.count → n ≢ c.who.number →
    to_visit c (but_victim c (n + 1)) + 1 ≤ to_visit c n
fewer_visits c n inside here other = grind (arith, common_steps, nat_tests)

first_visits : (c : DestroyCall) → c.who.number < c.count → to_visit c (but_victim c 0) ≤ c.count - 1
first_visits c inside = grind (arith, common_steps, nat_tests)

module _ (g : Programs) (work : Position → ℕ) (b : Board) (i : ℕ) (c : DestroyCall)
    (inside : c.who.number < c.count) where
  abbrev x : Context
  x = b.context i

  abbrev hand : DestroyAt → Hand
  hand p = hand_of b (b.queue (destroy_number c p))

  abbrev point : DestroyAt → Response → Option Point
  point p r = destroy.points c (b.seen i).word (hand p) p r

  abbrev now : DestroyAt → Response → Board
  now p r = destroy_board g b i x c p r

  abbrev still : ℕ
  still = rest_of work b x

  abbrev Told : DestroyAt → Response → Type 0
  Told p r = Answers b (destroy.ask_of c x.own p) r → point p r ≡ None →
      Spends work b i (InDestroy c p) (now p r) (destroy_context x c p r (hand p)) r

  abbrev owes_there : Board → StateWord → DestroyAt → ℕ
  owes_there b' own p = owes_at still b' i own (InDestroy c p)

  just : (p : DestroyAt) (n : ℕ) (w : StateWord) → (b.seen n).word ≡ w →
      (noted g b.seen x.position (point p (asks.Word w)) n).word ≡ w
  just p n w an = noted_word g b.seen x.position (point p (asks.Word w)) n ∙ an

  -- the caller was destroyed, or goes on
  looked : (b' : Board) (own : StateWord) (dead : Bool) →
      owes_there b' own (Locked (if dead then Release release.Dead else AcquireVictimLock)) + 1 ≤ 4
  looked b' own true = omega arith
  looked b' own false = omega arith

  -- the victim is there, or that it isn't is decided
  shown : (b' : Board) (own w : StateWord) → (b'.seen c.who.number).word ≡ w → (present : Bool) (p : Point) →
      ◌≡◌ {A = Option Point} (if present then None else Some p) None →
      owes_there b' own (Victim (if present then CommitKill w else ReleaseVictimLockAbsent
      (found_in c.who.number w))) + 1 ≤ 2
  shown b' own w is true p e = let m = loaded_owes b'.seen c.who.number w is 1 1 3 (omega arith) in
      omega (arith, m)
  shown b' own w is false p e = absurd cc

  -- the next sender, or none
  next_freed : (b' : Board) (own : StateWord) (es : List SenderEntry) →
      owes_there b' own (Victim (free_first es)) + 12 ≤ 16 + owes_visits (c.count - 1) still
  next_freed b' own [] = omega arith
  next_freed b' own (e ∷ es) = omega arith

  freed_owed : (es : List SenderEntry) → owed_at (InDestroy c (Victim (free_first es))) ≡ 0
  freed_owed es = refl

  -- the next number, or none
  next_visited : (b' : Board) (own : StateWord) (n k : ℕ) → to_visit c (but_victim c n) ≤ k →
      owes_there b' own (Locked (visit_from c n)) ≤ 3 * k + 1 + still
  next_visited b' own n k few = go (nat_lt (but_victim c n) c.count)
    where
      go : (t : Bool) → owes_there b' own (Locked (if t then AcquireVisitedLock (but_victim c n)
          else Release release.Killed)) ≤
          3 * k + 1 + still
      go true = omega (arith, few)
      go false = omega arith

  visited_word : (b' : Board) (own w : StateWord) (n : ℕ) → (b'.seen n).word ≡ w → 1 ≤ to_visit c n →
      (waits : Bool) →
      owes_there b' own (Visit (if waits then FreeVisited n w else ReleaseVisitedLock n)) + 1 ≤
      3 * to_visit c n + still
  visited_word b' own w n is some true =
      let m = loaded_owes b'.seen n w is 1 1 (owes_visits (to_visit c n) still) (omega arith) in
      omega (arith, m, some)
  visited_word b' own w n is some false = omega (arith, some)

  pub destroy_owes : (p : DestroyAt) → AllSay g b i x (facts_destroy c p) →
      Each (destroy.ask_of c x.own p) (Told p)
  destroy_owes (Outside LoadOwn) f =
      λ w an silent. inr (
        (λ z. absurd cc),
        record {
          falls = own_ends still (now (Outside LoadOwn) (asks.Word w)) i x.own c.caller (is_dead w)
              (destroy.point_of c outcome.Own) reply.Own silent;
          exchanges = let o = ended_owed c.caller (if is_dead w then went.CallerDead else went.Ends
              reply.Own) in omega (arith, o);
          entries = omega arith;
        },
      )
  destroy_owes (Outside AcquireTable) f =
      λ an silent. inr (
        (λ z. absurd cc),
        record {
          falls = omega arith;
          exchanges = omega arith;
          entries =
              omega arith;
        },
      )
  destroy_owes (Outside (Ended w)) f = λ v an silent. absurd f.0
  destroy_owes (Locked LoadCaller) f =
      λ w an silent. inr (
        (λ z. absurd cc),
        record {
          falls = looked (now (Locked LoadCaller) (asks.Word w)) x.own (is_dead w);
          exchanges = omega arith;
          entries = omega arith;
        },
      )
  destroy_owes (Locked AcquireVictimLock) f =
      λ an silent. inr (
        (λ z. absurd cc),
        record {
          falls = omega arith;
          exchanges = omega arith;
          entries =
              omega arith;
        },
      )
  destroy_owes (Victim LoadVictim) f =
      λ w an silent. inr (
        (λ z. absurd cc),
        record {
          falls = shown (now (Victim LoadVictim) (asks.Word w)) x.own w (just (Victim LoadVictim)
              c.who.number w an)
              (is_present_in w c.who) (destroy.point_of c (outcome.Absent (found_in c.who.number w))) silent;
          exchanges = omega arith;
          entries = omega arith;
        },
      )
  destroy_owes (Victim (CommitKill seen)) f = (
    (λ an silent. absurd cc),
    (λ v an silent. inr (
      (λ z. absurd cc),
      record {
        falls = lost_owes b.seen c.who.number seen v an.0 an.1 3 1 3 (omega arith);
        exchanges = omega arith;
        entries = omega arith;
      },
    )),
  )
  destroy_owes (Victim (LoadSender sender)) f =
      λ w an silent. inr (
        (λ z. absurd cc),
        record {
          falls = let m = loaded_owes b.seen sender w an 1 1 3 (omega arith) in omega (arith, m);
          exchanges = omega arith;
          entries = omega arith;
        },
      )
  destroy_owes (Victim (FreeSender sender seen)) f = (
    (λ an silent. absurd cc),
    (λ v an silent. inr (
      (λ z. absurd cc),
      record {
        falls = lost_owes b.seen sender seen v an.0 an.1 3 1 3 (omega arith);
        exchanges = omega arith;
        entries = omega arith;
      },
    )),
  )
  destroy_owes (Victim (AcquireReadyForSender sender seen)) f =
      λ an silent. inr (
        (λ z. absurd cc),
        record {
          falls = omega arith;
          exchanges = omega arith;
          entries =
              omega arith;
        },
      )
  destroy_owes (Pushing (PushSender sender seen)) f =
      λ an silent. inr (
        (λ z. absurd cc),
        record {
          falls = let m = next_freed (now (Pushing (PushSender sender seen)) asks.Released) x.own
              (rest (b.queue c.who.number)) in
              omega (arith, m);
          exchanges = omega arith;
          entries = pushed_entries (thread_at sender seen) seen.priority b.lists;
        },
      )
  destroy_owes (Victim ReleaseVictimLock) f =
      λ an silent. inr (
        (λ z. absurd cc),
        record {
          falls = omega arith;
          exchanges = omega arith;
          entries =
              omega arith;
        },
      )
  destroy_owes (Victim (ReleaseVictimLockAbsent found)) f =
      λ an silent. inr (
        (λ z. absurd cc),
        record {
          falls = omega arith;
          exchanges = omega arith;
          entries =
              omega arith;
        },
      )
  destroy_owes (Locked AcquireReadyForVictim) f =
      λ an silent. inr (
        (λ z. absurd cc),
        record {
          falls = omega arith;
          exchanges = omega arith;
          entries =
              omega arith;
        },
      )
  destroy_owes UnlistVictim f =
      λ an silent. inr (
        (λ z. absurd cc),
        record {
          falls = omega arith;
          exchanges = omega arith;
          entries = let e = unlisted_entries c.who b.lists.lists in omega (arith, e);
        },
      )
  destroy_owes (Locked RemoveContext) f =
      λ an silent. inr (
        (λ z. absurd cc),
        record {
          falls = let v = next_visited (now (Locked RemoveContext) asks.Removed) x.own 0 (c.count - 1)
              (first_visits c inside) in
              omega (arith, v);
          exchanges = omega arith;
          entries = omega arith;
        },
      )
  destroy_owes (Locked (AcquireVisitedLock visited)) f =
      λ an silent. inr (
        (λ z. absurd cc),
        record {
          falls = omega arith;
          exchanges = omega arith;
          entries =
              omega arith;
        },
      )
  destroy_owes (Visit (LoadVisited visited)) f =
      let v = f.1.1.1.1.1.1.1.1.0 in
      λ w an silent. inr (
        (λ z. absurd cc),
        record {
          falls = visited_word (now (Visit (LoadVisited visited)) (asks.Word w)) x.own w visited
              (just (Visit (LoadVisited visited)) visited w an) (some_visit c visited inside v.1 v.0)
              (is_receiving_from c.who w.state);
          exchanges = omega arith;
          entries = omega arith;
        },
      )
  destroy_owes (Visit (FreeVisited visited seen)) f = (
    (λ an silent. absurd cc),
    (λ v an silent. inr (
      (λ z. absurd cc),
      record {
        falls = lost_owes b.seen visited seen v an.0 an.1 (3 * to_visit c visited + still + 1) 1
            (owes_visits (to_visit c visited) still) (omega arith);
        exchanges = omega arith;
        entries = omega arith;
      },
    )),
  )
  destroy_owes (Visit (AcquireReadyForVisited visited seen)) f =
      λ an silent. inr (
        (λ z. absurd cc),
        record {
          falls = omega arith;
          exchanges = omega arith;
          entries =
              omega arith;
        },
      )
  destroy_owes (Pushing (PushVisited visited seen)) f =
      let v = f.1.1.1.1.1.1.1.1.0 in
      let some = some_visit c visited inside v.1 v.0 in
      λ an silent. inr (
        (λ z. absurd cc),
        record {
          falls = omega (arith, some);
          exchanges = omega arith;
          entries = pushed_entries (thread_at visited seen) seen.priority b.lists;
        },
      )
  destroy_owes (Visit (ReleaseVisitedLock visited)) f =
      let v = f.1.1.1.1.1.1.1.1.0 in
      let less = fewer_visits c visited inside v.1 v.0 in
      λ an silent. inr (
        (λ z. absurd cc),
        record {
          falls =
              let m = next_visited (now (Visit (ReleaseVisitedLock visited)) asks.Released) x.own
              (visited + 1)
              (to_visit c visited - 1) (omega (arith, less)) in omega (arith, m, less);
          exchanges = omega arith;
          entries = omega arith;
        },
      )
  destroy_owes (Locked (Release release.Killed)) f =
      λ an silent. inr (
        (λ z. absurd cc),
        record {
          falls = omega arith;
          exchanges = omega arith;
          entries =
              omega arith;
        },
      )
  destroy_owes (Locked (Release (release.Absent found))) f =
      λ an silent. inr (
        (λ z. absurd cc),
        record {
          falls = omega arith;
          exchanges = omega arith;
          entries =
              omega arith;
        },
      )
  destroy_owes (Locked (Release release.Dead)) f =
      λ an silent. inr (
        (λ z. absurd cc),
        record {
          falls = omega arith;
          exchanges = omega arith;
          entries =
              omega arith;
        },
      )
