-- The locations of a create.
use Rattle.std.proofs.Common.{◌≡◌, ◌≢◌, ℕ, ◌+◌, ◌-◌, Bool, true, false, cond, refl, sym, ap, ◌∙◌, subst, [], Option, Some, None, arith, inl, inr}
use Rattle.std.proofs.lemmas.Bool.Decides.{nat_tests}
use Rattle.k_ids.specs.declared.threads.ThreadId.{ThreadId}
use Rattle.k_ids.specs.declared.calls.Reply.{Reply}
use Rattle.k_ids.specs.declared.calls.Reply.TheVariants as reply
use Rattle.k_ids.specs.declared.state_word.Result4.TheVariants as result4
use Rattle.k_ids.specs.declared.state_word.StateWord.{StateWord}
use Rattle.k_model.specs.Maps.{upd}
use Rattle.k_model.proofs.Maps.{upd_same, upd_other}
use Rattle.k_locks.specs.declared.points.Point.{Point}
use Rattle.k_locks.specs.Asks.{Response}
use Rattle.k_locks.specs.Asks as asks
use Rattle.k_locks.specs.Numbers.{alive, lowest_free, version_at, worn}
use Rattle.k_locks.specs.Shown.{is_dead}
use Rattle.k_caller.specs.declared.thread.ThreadLocation.TheVariants as location
use Rattle.k_board.specs.Words.{Seen, Programs, called, opened, noted, here}
use Rattle.k_board.specs.Boards.{Board, Context, Alone, InCreate, Coming, hand_of}
use Rattle.k_threads.specs.declared.create.CreateCall.{CreateCall}
use Rattle.k_threads.specs.declared.create.CreateOutside.TheVariants as outside
use Rattle.k_threads.specs.declared.create.CreateLocked.{CreateLocked}
use Rattle.k_threads.specs.declared.create.CreateLocked.TheVariants.{LoadCaller, PlaceContext, CommitCreate, AcquireReady, Release}
use Rattle.k_threads.specs.declared.create.CreateRelease.TheVariants as release
use Rattle.k_threads.specs.CreateTable.{CreateAt, Outside, Locked, PushCreated, choose, full_point}
use Rattle.k_threads.specs.Words.{created_word, dead_word}
use Rattle.std.specs.Prelude.{◌==◌, ◌&&◌}
use Rattle.k_script.specs.Plays.{Position}
use Rattle.k_board.specs.Facts.{AllSay, IsRun}
use Rattle.k_board.specs.Places.{facts_of, facts_create}
use Rattle.k_board.specs.Moves.{Change, same, calls, makes, PlaceStep}
use Rattle.k_board.specs.Turns.{IsUnused}
use Rattle.k_board.specs.Steps.{with_word, write, create_board, create_context, new_context}
use Rattle.k_board.proofs.Cases.{by_two, changed_one, kept_free, kept_lock, not_both}
use Rattle.k_board.proofs.ReceivePlaces.{ends}

pub number_apart : (b : Board) (x : Context) (id : ThreadId) (i v : ℕ) → (b.seen id.number).word ≡ dead_word v → IsRun x.own → (b.seen i).word ≡ x.own → id.number ≢ i
number_apart b x id i v d run own e = grind (arith, run.state)

before_next : (n : ℕ) → n ≡ n + 1 - 1
before_next n = omega arith

version_next : (v n m : ℕ) → v ≡ n + 1 → m ≡ v - 1 → v ≡ m + 1
version_next v n m e q = omega (arith, e, q)

present_new : (v : ℕ) → (v == v) && true ≡ true
present_new v = grind (arith, nat_tests)

module _ (s : ℕ → Seen) (i n : ℕ) (v : Seen) (p : Position) (w : StateWord) (ne : n ≢ i) where
  pub made_me : write (upd (upd s i v) n (opened (upd s i v n) p)) n w i ≡ v
  made_me = upd_other (upd (upd s i v) n (opened (upd s i v n) p)) n _ i (λ e. ne (sym e)) ∙ upd_other (upd s i v) n _ i (λ e. ne (sym e)) ∙ upd_same s i v

  pub made_it : write (upd (upd s i v) n (opened (upd s i v n) p)) n w n ≡ with_word (opened (s n) p) w
  made_it = upd_same (upd (upd s i v) n (opened (upd s i v n) p)) n _ ∙ ap (λ (u : Seen). with_word u w) (upd_same (upd s i v) n _ ∙ ap (λ (u : Seen). opened u p) (upd_other s i v n ne))

  pub made_other : (t : ℕ) → t ≢ i → t ≢ n → write (upd (upd s i v) n (opened (upd s i v n) p)) n w t ≡ s t
  made_other t ni nn = upd_other (upd (upd s i v) n (opened (upd s i v n) p)) n _ t nn ∙ upd_other (upd s i v) n _ t nn ∙ upd_other s i v t ni

module _ (g : Programs) (b : Board) (x : Context) (c : CreateCall) where
  abbrev pub Fine : CreateAt → Response → Type 0
  Fine p f = PlaceStep g b c.caller.number (create_context x c p f (hand_of b [])) (create_board g b c.caller.number x c p f)

  abbrev pub Sound : CreateAt → Type 0
  Sound p = AllSay g b c.caller.number x (facts_create c p)

  abbrev Led : Option Point → CreateLocked → Type 0
  Led e p = PlaceStep g b c.caller.number (record x { at = InCreate c (Locked p) }) (record b { seen = noted g b.seen x.position e; context = upd b.context c.caller.number (record x { at = InCreate c (Locked p) }) })

  refuses : (r : Reply) → IsRun x.own → (b.seen c.caller.number).word ≡ x.own → (t : ℕ) → Change b c.caller.number t (upd b.seen c.caller.number (called (b.seen c.caller.number) (Some r) x.position) t)
  refuses r run own =
      changed_one (λ t v. Change b c.caller.number t v) b.seen c.caller.number (called (b.seen c.caller.number) (Some r) x.position)
      (calls (b.seen c.caller.number).word (Some r) x.position (grind (arith, run.state)) record { version = refl; alive = grind (arith, run.state); any = λ q. absurd (grind (arith, run.state)); one = λ f q. absurd (grind (arith, run.state)); sends = λ to joined q. absurd (grind (arith, run.state)) }) (λ t. same t)

  pub ok_acquire : b.table ≡ None → Sound (Outside outside.AcquireTable) → Fine (Outside outside.AcquireTable) asks.Got
  ok_acquire free h = record { changes = λ t. same t; others = λ k ne. record { owner = λ t o. o; table = kept_free (Some c.caller.number) free; ready = λ o. o; queue = λ t o. refl; numbers = λ o. refl }; facts = (refl, h) }

  pub ok_acquire_owned : (o : ℕ) → Sound (Outside outside.AcquireTable) → Fine (Outside outside.AcquireTable) (asks.Owned o)
  ok_acquire_owned o h = record { changes = λ t. same t; others = λ k ne. record { owner = λ t o. o; table = λ o. o; ready = λ o. o; queue = λ t o. refl; numbers = λ o. refl }; facts = h }

  pub ok_load : (w : StateWord) → ((n : ℕ) → lowest_free b.numbers ≡ Some n → IsUnused b n) → (b.seen c.caller.number).word ≡ w → Sound (Locked LoadCaller) → Fine (Locked LoadCaller) (asks.Word w)
  ok_load w unused is h = go (is_dead w) refl
    where
      by : (b.seen c.caller.number).word ≡ x.own → (o : Option ℕ) → lowest_free b.numbers ≡ o → Led (full_point c b.numbers o) (choose b.numbers o)
      by own None q = record { changes = refuses (reply.Full (alive b.numbers) (worn b.numbers)) h.1.1.1.1.0.0 own; others = λ k ne. record { owner = λ t o. o; table = λ o. o; ready = λ o. o; queue = λ t o. refl; numbers = λ o. refl }; facts = rw (upd_same b.seen c.caller.number (called (b.seen c.caller.number) (Some (reply.Full (alive b.numbers) (worn b.numbers))) x.position)) (h.0, (h.1.0, (h.1.1.0, (refl, ((h.1.1.1.1.0.0, own, inr h.0), (refl, tt)))))) }
      by own (Some n) q =
          let u = unused n q in
          let apart : n ≢ c.caller.number = λ e. number_apart b x (record { number = n; version = 0 }) c.caller.number _ u.0 h.1.1.1.1.0.0 own e in
          record { changes = λ t. same t; others = λ k ne. record { owner = λ t o. o; table = λ o. o; ready = λ o. o; queue = λ t o. refl; numbers = λ o. refl }; facts = (h.0, (h.1.0, (h.1.1.0, (h.1.1.1.0, ((h.1.1.1.1.0.0, own, inr h.0), ((h.0, q, refl), ((h.0, u.0 ∙ ap dead_word (before_next (version_at b.numbers n))), ((h.0, ap (λ (y : Context). y.at) (upd_other b.context c.caller.number _ n apart) ∙ u.1), tt)))))))) }

      go : (dead : Bool) → is_dead w ≡ dead → Led (cond dead None (full_point c b.numbers (lowest_free b.numbers))) (cond dead (Release release.Dead) (choose b.numbers (lowest_free b.numbers)))
      go true d = record { changes = λ t. same t; others = λ k ne. record { owner = λ t o. o; table = λ o. o; ready = λ o. o; queue = λ t o. refl; numbers = λ o. refl }; facts = (h.0, (grind arith, (h.1.0, tt))) }
      go false d = let own : (b.seen c.caller.number).word ≡ x.own = grind arith in by own (lowest_free b.numbers) refl

  pub ok_place : (id : ThreadId) → Sound (Locked (PlaceContext id)) → Fine (Locked (PlaceContext id)) asks.Placed
  ok_place id h =
      let i = c.caller.number in
      let apart = number_apart b x id i _ h.1.1.1.1.1.1.0.1 h.1.1.1.1.0.0 h.1.1.1.1.0.1 in
      record {
        changes = λ t. same t;
        others = λ k ne. record { owner = λ t o. o; table = λ o. o; ready = λ o. o; queue = λ t o. refl; numbers = λ o. refl };
        facts = (h.0, (h.1.0, (h.1.1.0, (h.1.1.1.0, (h.1.1.1.1.0, (h.1.1.1.1.1.0, (h.1.1.1.1.1.1.0, ((h.0, upd_other (upd b.context id.number (new_context g c id Coming)) i _ id.number apart ∙ upd_same b.context id.number (new_context g c id Coming)), tt))))))));
      }

  pub ok_commit : (id : ThreadId) → Sound (Locked (CommitCreate id)) → Fine (Locked (CommitCreate id)) asks.Won
  ok_commit id h =
      let i = c.caller.number in
      let n = id.number in
      let run = h.1.1.1.1.0.0 in
      let v : Seen = called (b.seen i) (Some (reply.Made id)) x.position in
      let w = created_word id.version c.priority in
      let start = g.start id c.program in
      let apart = number_apart b x id i _ h.1.1.1.1.1.1.0.1 run h.1.1.1.1.0.1 in
      let me = made_me b.seen i n v start w apart in
      let it = made_it b.seen i n v start w apart in
      record {
        changes = by_two (λ t u. Change b i t u) _ i n
            (subst (λ (u : Seen). Change b i i u) (sym me) (calls (b.seen i).word (Some (reply.Made id)) x.position (grind (arith, run.state)) record { version = refl; alive = grind (arith, run.state); any = λ q. absurd (grind (arith, run.state)); one = λ f q. absurd (grind (arith, run.state)); sends = λ to joined q. absurd (grind (arith, run.state)) }))
            (subst (λ (u : Seen). Change b i n u) (sym it) (makes n w start h.0 (ap (λ (u : StateWord). is_dead u) h.1.1.1.1.1.1.0.1) (ap (λ (y : Context). y.at) h.1.1.1.1.1.1.1.0.1) refl (version_next id.version _ _ h.1.1.1.1.1.0.2 (ap (λ (u : StateWord). u.version) h.1.1.1.1.1.1.0.1))))
            (λ t ni nn. subst (λ (u : Seen). Change b i t u) (sym (made_other b.seen i n v start w apart t ni nn)) (same t));
        others = λ k ne. record { owner = λ t o. o; table = λ o. o; ready = λ o. o; queue = λ t o. refl; numbers = λ o. refl };
        facts = rw (me, it) (h.0, (h.1.0, (h.1.1.0, (refl, ((run, h.1.1.1.1.0.1, inr h.0), (refl, ((h.0, present_new id.version), (h.1.1.1.1.1.0, tt))))))));
      }

  -- The new thread's context begins with facts of its own.
  pub made_starts : (id : ThreadId) → Sound (Locked (CommitCreate id)) → AllSay g (create_board g b c.caller.number x c (Locked (CommitCreate id)) asks.Won) id.number (new_context g c id (Alone (location.Between None))) (facts_of (Alone (location.Between None)))
  made_starts id h =
      let i = c.caller.number in
      let v : Seen = called (b.seen i) (Some (reply.Made id)) x.position in
      let apart = number_apart b x id i _ h.1.1.1.1.1.1.0.1 h.1.1.1.1.0.0 h.1.1.1.1.0.1 in
      rw (made_it b.seen i id.number v (g.start id c.program) (created_word id.version c.priority) apart) (refl, ((record { result = result4.Plain; state = refl; on = refl }, inl refl), ((refl, here), tt)))

  pub ok_ready : (id : ThreadId) → b.ready ≡ None → Sound (Locked (AcquireReady id)) → Fine (Locked (AcquireReady id)) asks.Got
  ok_ready id free h = record { changes = λ t. same t; others = λ k ne. record { owner = λ t o. o; table = λ o. o; ready = kept_free (Some c.caller.number) free; queue = λ t o. refl; numbers = λ o. refl }; facts = (h.0, (h.1.0, (h.1.1.0, (h.1.1.1.0, (h.1.1.1.1.0, (h.1.1.1.1.1.0, (h.1.1.1.1.1.1.0, (h.1.1.1.1.1.1.1.0, (refl, tt))))))))) }

  pub ok_ready_owned : (id : ThreadId) (o : ℕ) → Sound (Locked (AcquireReady id)) → Fine (Locked (AcquireReady id)) (asks.Owned o)
  ok_ready_owned id o h = record { changes = λ t. same t; others = λ k ne. record { owner = λ t o. o; table = λ o. o; ready = λ o. o; queue = λ t o. refl; numbers = λ o. refl }; facts = h }

  pub ok_push : (id : ThreadId) → Sound (PushCreated id) → Fine (PushCreated id) asks.Released
  ok_push id h = record { changes = λ t. same t; others = λ k ne. record { owner = λ t o. o; table = λ o. o; ready = kept_lock ne None h.1.1.1.1.1.1.1.1.0; queue = λ t o. refl; numbers = λ o. refl }; facts = (h.0, (h.1.0, (h.1.1.0, (h.1.1.1.0, (h.1.1.1.1.0, (h.1.1.1.1.1.0, (h.1.1.1.1.1.1.0, (h.1.1.1.1.1.1.1.0, tt)))))))) }

  pub ok_release_made : (id : ThreadId) → Sound (Locked (Release (release.Made id))) → Fine (Locked (Release (release.Made id))) asks.Released
  ok_release_made id h = record { changes = λ t. same t; others = λ k ne. record { owner = λ t o. o; table = kept_lock ne None h.0; ready = λ o. o; queue = λ t o. refl; numbers = λ o. absurd (not_both ne h.0 o) }; facts = ends g b x c.caller (reply.Made id) (h.1.0, (h.1.1.0, (h.1.1.1.0, (h.1.1.1.1.0, (h.1.1.1.1.1.0, tt))))) }

  pub ok_release_full : (alive_ worn_ : ℕ) → Sound (Locked (Release (release.Full alive_ worn_))) → Fine (Locked (Release (release.Full alive_ worn_))) asks.Released
  ok_release_full alive_ worn_ h = record { changes = λ t. same t; others = λ k ne. record { owner = λ t o. o; table = kept_lock ne None h.0; ready = λ o. o; queue = λ t o. refl; numbers = λ o. refl }; facts = ends g b x c.caller (reply.Full alive_ worn_) h.1 }

  pub ok_release_dead : Sound (Locked (Release release.Dead)) → Fine (Locked (Release release.Dead)) asks.Released
  ok_release_dead h = record { changes = λ t. same t; others = λ k ne. record { owner = λ t o. o; table = kept_lock ne None h.0; ready = λ o. o; queue = λ t o. refl; numbers = λ o. refl }; facts = (h.1.0, tt) }
