-- A turn keeps the serials below the count of entries.
use Rattle.std.proofs.Common.{◌≡◌, ℕ, ◌+◌, ◌≤◌, refl, sym, subst, arith, Option, Some, None, [], length}
use Rattle.std.proofs.lemmas.Bool.{cond_both}
use Rattle.k_ids.specs.declared.calls.Act.{Act}
use Rattle.k_ids.specs.declared.calls.Act.TheVariants as act
use Rattle.k_ids.specs.declared.calls.Outcome.{Outcome}
use Rattle.k_ids.specs.declared.calls.Outcome.TheVariants as outcome
use Rattle.k_ids.specs.declared.calls.Phase.{Phase}
use Rattle.k_ids.specs.declared.calls.Phase.TheVariants as phase
use Rattle.k_ids.specs.declared.calls.Reply.{Reply}
use Rattle.k_ids.specs.declared.calls.Reply.TheVariants as reply
use Rattle.k_ids.specs.declared.threads.ThreadId.{ThreadId}
use Rattle.k_ipc.specs.Words.{is_joined_to}
use Rattle.k_model.specs.Maps.{upd}
use Rattle.k_model.proofs.Maps.{upd_cases}
use Rattle.k_locks.specs.Asks.{Ask, Response}
use Rattle.k_locks.specs.Asks as asks
use Rattle.k_locks.specs.declared.points.Point.{Point}
use Rattle.k_script.specs.Plays.{Position}
use Rattle.k_ipc.specs.SendTable as send
use Rattle.k_ipc.specs.ReceiveTable as receive
use Rattle.k_threads.specs.declared.create.CreateCall.{CreateCall}
use Rattle.k_threads.specs.declared.create.CreateLocked.TheVariants as create_locked
use Rattle.k_threads.specs.CreateTable.{CreateAt}
use Rattle.k_threads.specs.CreateTable as create
use Rattle.k_threads.specs.declared.destroy.DestroyCall.{DestroyCall}
use Rattle.k_threads.specs.declared.destroy.DestroyLocked.TheVariants as destroy_locked
use Rattle.k_threads.specs.DestroyTable.{DestroyAt}
use Rattle.k_threads.specs.DestroyTable as destroy
use Rattle.k_caller.specs.declared.thread.ThreadLocation.TheVariants as location
use Rattle.k_caller.specs.Waits as alone
use Rattle.k_switch.specs.Switches as switch
use Rattle.k_board.specs.Boards.{Alone, Board, Context, InSwitch, Resting, hand_of, id_at}
use Rattle.k_board.specs.Steps.{alone_context, begun, begun_at, create_context, create_contexts}
use Rattle.k_board.specs.Steps.{destroy_context, destroy_contexts, destroy_number, receive_context}
use Rattle.k_board.specs.Steps.{send_context, switch_context, with_word, working, wrote}
use Rattle.k_board.specs.Turns.{Turn, sends, receives, creates, destroys, goes_alone, begins}
use Rattle.k_board.specs.Turns.{turns_to_work, wakes, switches, begins_switch, ends_switch}
use Rattle.k_board.specs.Words.{Programs, Seen, act_noted, answered, call_noted, called, calls, noted}
use Rattle.k_board.specs.Words.{opened, opens, passes_to, pick_noted, sent_reply, tells, tells_sent}
use Rattle.k_legal.specs.Runs.{entries_of}
use Rattle.k_points.specs.Points.{turn_point}
use Rattle.k_kernel.specs.Serials.{LastsUpTo, SerialsHold, SerialsUpTo}

-- LEDGERS: a point makes one last serial one higher, or begins one anew.

module _ (g : Programs) (n : ℕ) where
  wrote_up : (s : ℕ → Seen) (a : Ask) (r : Response) → LastsUpTo n s → LastsUpTo n (wrote s a r)
  wrote_up s (asks.Post m v) asks.Stored h t =
      upd_cases (λ (v : Seen). v.last ≤ n) s m (record (s m) { mail = v }) t (λ _. h m) (λ _. h t)
  wrote_up s (asks.Exchange m old new) asks.Won h t =
      upd_cases (λ (v : Seen). v.last ≤ n) s m (with_word (s m) new) t (λ _. h m) (λ _. h t)
  wrote_up s a r h t = h t

  tells_up : (s : ℕ → Seen) (id : ThreadId) (r : Reply) → LastsUpTo n s → LastsUpTo n (tells s id r)
  tells_up s id r h t =
      upd_cases (λ (v : Seen). v.last ≤ n) s id.number (answered (s id.number) r) t (λ _. h id.number) (λ _. h t)

  sent_up : (s : ℕ → Seen) (id : ThreadId) → LastsUpTo n s → LastsUpTo n (tells_sent s id)
  sent_up s id h =
      cond_both (is_joined_to (s id.number).word.state) s (tells s id reply.Sent) (LastsUpTo n) (λ _. h)
      (λ _. tells_up s id reply.Sent h)

  passes_up : (s : ℕ → Seen) (me : ThreadId) (f : Phase) → LastsUpTo n s → LastsUpTo n (passes_to s me f)
  passes_up s me (phase.Send to message zero joined) h = tells_up s to (reply.Got me message) h
  passes_up s me (phase.Reply to message zero) h = tells_up s to (reply.Got me message) h
  passes_up s me (phase.Receive from zero) h = h
  passes_up s me (phase.Create program priority) h = h
  passes_up s me (phase.Destroy victim) h = h
  passes_up s me phase.End h = h

  opens_up : (s : ℕ → Seen) (id : ThreadId) (f : Phase) → LastsUpTo n s → LastsUpTo n (opens g s id f)
  opens_up s id (phase.Create program priority) h t =
      upd_cases (λ (v : Seen). v.last ≤ n) s id.number (opened (s id.number) (g.start id program)) t (λ _. omega arith) (λ _. h t)
  opens_up s id (phase.Send to message zero joined) h t = h t
  opens_up s id (phase.Reply to message zero) h t = h t
  opens_up s id (phase.Receive from zero) h t = h t
  opens_up s id (phase.Destroy victim) h t = h t
  opens_up s id phase.End h t = h t

module _ (g : Programs) (n : ℕ) (s : ℕ → Seen) (h : LastsUpTo n s) (me : ThreadId) (at : Position) where
  calls_up : (r : Option Reply) → LastsUpTo (n + 1) (calls s me at r)
  calls_up r t =
      upd_cases (λ (v : Seen). v.last ≤ n + 1) s me.number (called (s me.number) r at) t (λ _. omega (arith, h me.number))
      (λ _. omega (arith, h t))

  call_up : (f : Phase) (o : Outcome) → LastsUpTo (n + 1) (call_noted g s me at f o)
  call_up f outcome.Passed = passes_up g (n + 1) (calls s me at (sent_reply f)) me f (calls_up (sent_reply f))
  call_up f outcome.Waits = calls_up None
  call_up f (outcome.Took from message) =
      sent_up g (n + 1) (calls s me at (Some (reply.Got from message))) from (calls_up (Some (reply.Got from message)))
  call_up f (outcome.Absent found) = calls_up (Some (reply.Absent found))
  call_up f (outcome.Busy found) = calls_up (Some (reply.Busy found))
  call_up f outcome.Nobody = calls_up (Some reply.Nobody)
  call_up f outcome.Own = calls_up (Some reply.Own)
  call_up f outcome.Killed = calls_up (Some reply.Killed)
  call_up f (outcome.Made id) = opens_up g (n + 1) (calls s me at (Some (reply.Made id))) id f (calls_up (Some (reply.Made id)))
  call_up f (outcome.Full alive worn) = calls_up (Some (reply.Full alive worn))
  call_up f outcome.Ended = calls_up None
  call_up f outcome.Freed = λ t. omega (arith, h t)

  more_up : (v : ℕ → Seen) → LastsUpTo n v → LastsUpTo (n + 1) v
  more_up v k t = omega (arith, k t)

  pick_up : (o : Outcome) → LastsUpTo n (pick_noted s me o)
  pick_up (outcome.Took from message) =
      sent_up g n (tells s me (reply.Got from message)) from (tells_up g n s me (reply.Got from message) h)
  pick_up outcome.Passed = h
  pick_up outcome.Waits = h
  pick_up (outcome.Absent found) = h
  pick_up (outcome.Busy found) = h
  pick_up outcome.Nobody = h
  pick_up outcome.Own = h
  pick_up outcome.Killed = h
  pick_up (outcome.Made id) = h
  pick_up (outcome.Full alive worn) = h
  pick_up outcome.Ended = h
  pick_up outcome.Freed = h

  act_up : (a : Act) (o : Outcome) → LastsUpTo (n + 1) (act_noted g s me at a o)
  act_up (act.Call f) o = call_up f o
  act_up act.Gone o = more_up (tells s me reply.Gone) (tells_up g n s me reply.Gone h)
  act_up act.Pick o = more_up (pick_noted s me o) (pick_up o)

-- CONTEXTS

moved_up : (n : ℕ) (f : ℕ → Context) (i : ℕ) (x : Context) → x.serial ≤ n → SerialsUpTo n f → SerialsUpTo n (upd f i x)
moved_up n f i x l h j = upd_cases (λ (y : Context). y.serial ≤ n) f i x j (λ _. l) (λ _. h j)

created_up : (g : Programs) (n : ℕ) (c : CreateCall) (p : CreateAt) (r : Response) (s : ℕ → Context) → SerialsUpTo n s →
    SerialsUpTo n (create_contexts g c p r s)
created_up g n c (create.Locked (create_locked.PlaceContext id)) asks.Placed s h = moved_up n s id.number _ (omega arith) h
created_up g n c (create.Locked (create_locked.CommitCreate id)) asks.Won s h = moved_up n s id.number _ (omega arith) h
created_up g n c p r s h = h

destroyed_up : (n : ℕ) (c : DestroyCall) (p : DestroyAt) (r : Response) (s : ℕ → Context) → SerialsUpTo n s →
    SerialsUpTo n (destroy_contexts c p r s)
destroyed_up n c (destroy.Locked destroy_locked.RemoveContext) asks.Removed s h = moved_up n s c.who.number _ (h c.who.number) h
destroyed_up n c p r s h = h

-- A TURN

module _ (g : Programs) (b : Board) (i n : ℕ) (h : SerialsHold b n) where
  abbrev pub More : Option Point → ℕ
  More p = n + length (entries_of b p)

  seen_up : (at : Position) (p : Option Point) (a : Ask) (r : Response) → LastsUpTo (More p) (wrote (noted g b.seen at p) a r)
  seen_up at None a r = λ t. let l = wrote_up g n b.seen a r h.lasts t in omega (arith, l)
  seen_up at (Some p) a r =
      wrote_up g (n + 1) (noted g b.seen at (Some p)) a r (act_up g n b.seen h.lasts p.who at p.act p.outcome)

  wider : (p : Option Point) (f : ℕ → Context) → SerialsUpTo (n + 1) f → SerialsUpTo (More p + 1) f
  wider p f k j = let l = k j in omega (arith, l)

  same_up : (b' : Board) → b'.seen ≡ b.seen → SerialsUpTo (n + 1) b'.context → SerialsHold b' (n + 0)
  same_up b' same k = record {
    lasts = λ t. let l = subst (λ (s : ℕ → Seen). (s t).last ≤ n) (sym same) (h.lasts t) in omega (arith, l);
    serials = λ j. let l = k j in omega (arith, l);
  }

  pub serials_stay : ((l : Option Reply) → (b.context i).at ≡ Alone (location.Between l) → (b.context i).serial ≡ (b.seen i).last)
      → (b' : Board) (t : Turn g b i b') → SerialsHold b' (More (turn_point g b i b' t))
  serials_stay last _ (sends c p r at an) =
      let q = send.points c (b.seen i).word (hand_of b (b.queue c.to.number)) p r in
      let x = send_context (b.context i) c p r (hand_of b (b.queue c.to.number)) in
      record {
        lasts = seen_up (b.context i).position q (send.ask_of c (b.context i).own p) r;
        serials = wider q (upd b.context i x) (moved_up (n + 1) b.context i x (h.serials i) h.serials);
      }
  serials_stay last _ (receives c p r at an) =
      let q = receive.points c (b.seen i).word (hand_of b (b.queue i)) p r in
      let x = receive_context (b.context i) c p r (hand_of b (b.queue i)) in
      record {
        lasts = seen_up (b.context i).position q (receive.ask_of c (b.context i).own p) r;
        serials = wider q (upd b.context i x) (moved_up (n + 1) b.context i x (h.serials i) h.serials);
      }
  serials_stay last _ (creates c p r at an) =
      let q = create.points c (b.seen i).word (hand_of b []) p r in let x = create_context (b.context i) c p r (hand_of b []) in
      record {
        lasts = seen_up (b.context i).position q (create.ask_of c (b.context i).own p) r;
        serials =
            wider q (upd (create_contexts g c p r b.context) i x)
            (moved_up (n + 1) (create_contexts g c p r b.context) i x (h.serials i)
            (created_up g (n + 1) c p r b.context h.serials));
      }
  serials_stay last _ (destroys c p r at an) =
      let q = destroy.points c (b.seen i).word (hand_of b (b.queue (destroy_number c p))) p r in
      let x = destroy_context (b.context i) c p r (hand_of b (b.queue (destroy_number c p))) in
      record {
        lasts = seen_up (b.context i).position q (destroy.ask_of c (b.context i).own p) r;
        serials =
            wider q (upd (destroy_contexts c p r b.context) i x)
            (moved_up (n + 1) (destroy_contexts c p r b.context) i x (h.serials i)
            (destroyed_up (n + 1) c p r b.context h.serials));
      }
  serials_stay last _ (goes_alone p r at can an) =
      let q = alone.points (id_at b i) p r in let x = alone_context (b.context i) p r in
      record {
        lasts = seen_up (b.context i).position q (alone.ask_of (id_at b i) (b.context i).own p) r;
        serials = wider q (upd b.context i x) (moved_up (n + 1) b.context i x (h.serials i) h.serials);
      }
  serials_stay last b' (begins l f at e) =
      let s = last l at in let u = h.lasts i in same_up b' refl
      (moved_up (n + 1) b.context i (begun g (b.context i) l (begun_at b.size (id_at b i) f)) (omega (arith, s, u)) h.serials)
  serials_stay last b' (turns_to_work l count at e) =
      same_up b' refl (moved_up (n + 1) b.context i (working g (b.context i) l count) (h.serials i) h.serials)
  serials_stay last b' (wakes at) =
      same_up b' refl (moved_up (n + 1) b.context i (record (b.context i) { at = Alone location.LookAgain })
      (h.serials i) h.serials)
  serials_stay last b' (switches c p r at going an) =
      same_up b' refl (moved_up (n + 1) b.context i (switch_context (b.context i) c p r (hand_of b [])) (h.serials i) h.serials)
  serials_stay last b' (begins_switch c at) =
      same_up b' refl (moved_up (n + 1) b.context i (record (b.context i) { at = InSwitch c switch.AcquireReady })
      (h.serials i) h.serials)
  serials_stay last b' (ends_switch c s at) =
      same_up b' refl (moved_up (n + 1) b.context i (record (b.context i) { at = Resting }) (h.serials i) h.serials)
