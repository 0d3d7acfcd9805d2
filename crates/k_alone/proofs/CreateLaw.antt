-- A create alone makes the specification's event.
use Rattle.std.proofs.Common.{◌≡◌, ◌≢◌, ℕ, ◌+◌, ◌<◌, true, false, [], ◌∷◌, refl, sym, ap, ◌∙◌, subst, arith, Option, Some, None}
use Rattle.std.proofs.lemmas.Bool.{false≢true, and_parts, ltb-true}
use Rattle.k_ids.specs.declared.threads.Status.TheVariants as status
use Rattle.k_ids.specs.declared.calls.Phase.TheVariants as phase
use Rattle.k_ids.specs.declared.calls.Act.TheVariants as act
use Rattle.k_ids.specs.declared.calls.Outcome.{Outcome}
use Rattle.k_ids.specs.declared.calls.Outcome.TheVariants as outcome
use Rattle.k_ids.specs.declared.calls.Reply.{Reply}
use Rattle.k_ids.specs.declared.calls.Reply.TheVariants as reply
use Rattle.k_ids.specs.declared.histories.Entry.{Entry}
use Rattle.k_ids.specs.declared.state_word.StateWord.{StateWord}
use Rattle.k_ids.specs.ContextWords.{IsVersion}
use Rattle.k_ids.specs.StateWords.{IsStateWord}
use Rattle.k_locks.specs.Numbers.{lowest_free, version_at, alive as alive_numbers, worn as worn_numbers}
use Rattle.k_locks.specs.Shown.{shows}
use Rattle.k_threads.specs.declared.create.CreateCall.{CreateCall}
use Rattle.k_threads.specs.Words.{created_word, dead_word}
use Rattle.k_threads.specs.CreateTable.{create_of}
use Rattle.k_model.specs.Maps.{lowest}
use Rattle.k_model.specs.State.{KernelState, answered, is_dead}
use Rattle.k_model.specs.Step.{called, is_free, renewed, last_version}
use Rattle.k_model.proofs.Maps.{upd_same, upd_other, lowest-Some}
use Rattle.k_shown.specs.Leaves.{state_told}
use Rattle.k_shown.specs.Memory.{Memory, Shows}
use Rattle.k_shown.specs.Sound.{IsCaller, IsSoundMemory}
use Rattle.k_alone.specs.Alone.{Makes, begun, current}
use Rattle.k_shown.specs.Rows.{call_of, told}
use Rattle.k_shown.proofs.Alike.{caller_in, alike_from}
use Rattle.k_shown.proofs.Numbers.{lowest_is}
use Rattle.k_shown.proofs.TableRows.{full_row, made_row}
use Rattle.k_alone.specs.CreateAlone.{create_kind}
use Rattle.k_shown.proofs.Shown.{shows_called}
use Rattle.k_shown.proofs.Kept.{numbered_words, off_nowhere}
use Rattle.k_shown.proofs.Left.{leaves_all}
use Rattle.k_alone.proofs.CreateLeft.{made_left}
use Rattle.k_alone.proofs.Made.{makes, makes_one, replay_on, reply_first}
use Rattle.k_alone.proofs.Creates.{dead_off, pushed_made, numbers_made, contexts_made}
use Rattle.k_alone.proofs.CreateRuns.{created, made_memory, new_id, runs_full, runs_made, dead_word_is}

module _ (c : CreateCall) (m : Memory) (k : KernelState) (own : StateWord) (h : Shows m k) (good : IsSoundMemory m) (call : IsCaller m c.caller own) (small : c.priority < 64) where
  serial_is : current k c.caller c.caller.number ≡ (k.place c.caller.number).serial + 1
  serial_is = ap (λ p. p.serial) (upd_same k.place c.caller.number (record (k.place c.caller.number) { serial = (k.place c.caller.number).serial + 1 }))

  entry_is : (o : Outcome) → created c (current k c.caller) o ≡ record { event = call_of k c.caller (phase.Create c.program c.priority); outcome = o }
  entry_is o = ap (λ (x : ℕ). record { event = record { who = c.caller; serial = x; act = act.Call (phase.Create c.program c.priority) }; outcome = o }) serial_is

  caller_runs : (k.place c.caller.number).status ≡ status.Run
  caller_runs = h.status c.caller.number ∙ ap (λ (w : StateWord). shows w.state) call.word ∙ ap shows call.runs

  full_law : lowest_free m.numbers ≡ None → Makes (create_kind (current k c.caller)) (begun m (create_of c own)) k (call_of k c.caller (phase.Create c.program c.priority))
  full_law none =
      let me = c.caller in
      let s = (k.place me.number).serial + 1 in
      let a = alive_numbers m.numbers in
      let w = worn_numbers m.numbers in
      let e = entry_is (outcome.Full a w) in
      makes_one (create_kind (current k me)) (begun m (create_of c own)) _ k _ (call_of k me (phase.Create c.program c.priority)) (outcome.Full a w) (told me s (reply.Full a w) ∷ [])
      h good (full_row m m k me h (caller_in m me own call) c.program c.priority good.numbers none (alike_from m m refl (λ n. refl) (λ n. refl))) (runs_full c (current k me) m own good call none) (ap (λ (x : Entry). x ∷ []) e)
      (record { size = refl; version = λ n. refl; dead = λ n. refl; context = refl; numbers = refl; room = λ n. refl })
      good.words
      (reply_first me s (reply.Full a w) [], ap (λ p. p.status) (upd_same k.place me.number (record (k.place me.number) { serial = s })) ∙ caller_runs)
      (leaves_all (call_of k me (phase.Create c.program c.priority)) (outcome.Full a w) (record { id = me; serial = s; reply = reply.Full a w } ∷ []) m good.words.ready (refl, tt) refl (ap (λ (x : Option Reply). state_told x (m.word me.number).state) (reply_first me s (reply.Full a w) [])))

  made_law : (n : ℕ) → lowest_free m.numbers ≡ Some n → Makes (create_kind (current k c.caller)) (begun m (create_of c own)) k (call_of k c.caller (phase.Create c.program c.priority))
  made_law n some =
      let me = c.caller in
      let s = (k.place me.number).serial + 1 in
      let k1 = called k me s in
      let h1 = shows_called m k me s h in
      let yes : lowest (λ n. is_free (k1.place n)) k1.size ≡ Some n = sym (lowest_is m k1 h1 good.numbers) ∙ some in
      let found = lowest-Some (λ n. is_free (k1.place n)) k1.size n yes in
      let parts = and_parts _ _ found.1 in
      let dead : is_dead (shows (m.word n).state) ≡ true = ap is_dead (sym (h1.status n)) ∙ parts.0 in
      let v : (k1.place n).version ≡ (m.word n).version = h1.version n in
      let young : (m.word n).version < last_version = subst (λ (x : ℕ). x < last_version) v (ltb-true _ _ parts.1) in
      let inside : n < m.size = subst (λ (x : ℕ). n < x) h.size found.0 in
      let at_n : version_at m.numbers n ≡ (m.word n).version = good.numbers.version n inside in
      let id = new_id m n in
      let next : id.version ≡ (m.word n).version + 1 = ap (λ (x : ℕ). x + 1) at_n in
      let is : m.word n ≡ dead_word (version_at m.numbers n) = dead_word_is (m.word n) (good.words.words n) dead ∙ ap dead_word (sym at_n) in
      let new : IsStateWord (created_word (version_at m.numbers n + 1) c.priority) = record { version = omega (arith, young, at_n); priority = omega (arith, small); partner = tt; agrees = omega arith } in
      let fresh : IsVersion (version_at m.numbers n + 1) = record { born = omega arith; small = omega (arith, young, at_n) } in
      let off : (m.word n).on ≡ false = dead_off (m.word n).state (m.word n) (good.words.words n).agrees dead in
      let push = off_nowhere m n good.words.ready off in
      let e = entry_is (outcome.Made id) in
      let k2 = renewed k1 n in
      let mf = made_memory m id c.priority in
      let row = made_row m mf k me h (caller_in m me own call) c.program c.priority n good.numbers some id refl (created_word id.version c.priority) (record { version = refl; status = refl; joined = refl }) (alike_from _ mf refl (λ n. refl) (λ n. refl)) in
      let ne : me.number ≢ n = λ q. false≢true (sym (ap is_dead caller_runs) ∙ ap (λ (j : ℕ). is_dead (k.place j).status) q ∙ ap is_dead (h.status n) ∙ dead) in
      makes (create_kind (current k me)) (begun m (create_of c own)) _ k (answered k2 me s (reply.Made id)) (call_of k me (phase.Create c.program c.priority)) (outcome.Made id) [] (record { id = me; serial = s; reply = reply.Made id } ∷ [])
      (runs_made c (current k me) m own good call n some is new (good.contexts.none n dead) fresh push)
      (record {
        shown = h;
        good = good;
        frees = tt;
        entries = ap (λ (x : Entry). x ∷ []) e;
        legal = replay_on k (answered k2 me s (reply.Made id)) (answered k2 me s (reply.Made id)) (call_of k me (phase.Create c.program c.priority)) (outcome.Made id) [] row.enabled row.makes refl;
        shows = row.shows;
        size = refl;
        room = λ n. refl;
        words = numbered_words _ _ (pushed_made m id c.priority dead next young small good.words);
        numbers = numbers_made m id c.priority dead next young small mf refl refl refl inside good.numbers;
        contexts = contexts_made m id c.priority dead next young small mf refl refl good.contexts;
        replies = refl;
        leaves = made_left m me id s c.program c.priority good dead ne off small;
        tells = (reply_first me s (reply.Made id) [], ap (λ p. p.status) (upd_other k1.place n (record (k1.place n) { version = (k1.place n).version + 1; status = status.Run; joined = false; serial = 0 }) me.number ne) ∙ ap (λ p. p.status) (upd_same k.place me.number (record (k.place me.number) { serial = s })) ∙ caller_runs);
      })

  pub create_law : Makes (create_kind (current k c.caller)) (begun m (create_of c own)) k (call_of k c.caller (phase.Create c.program c.priority))
  create_law = go (lowest_free m.numbers) refl
    where
      go : (o : Option ℕ) → lowest_free m.numbers ≡ o → Makes (create_kind (current k c.caller)) (begun m (create_of c own)) k (call_of k c.caller (phase.Create c.program c.priority))
      go None e = full_law e
      go (Some n) e = made_law n e
