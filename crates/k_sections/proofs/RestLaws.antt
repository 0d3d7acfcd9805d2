-- The laws on how far a context is from a release; and with them all ten.
use Rattle.std.proofs.Common.{◌≡◌, ◌≢◌, ℕ, ◌+◌, ◌<◌, ◌≤◌, refl, sym, ap, ◌∙◌, subst, arith}
use Rattle.std.proofs.Common.{Option, Some, None, List, [], ◌∷◌, length, inl, inr}
use Rattle.std.specs.Prelude.{slice_get}
use Rattle.k_senders.specs.Queue.{IsOnceEach}
use Rattle.k_model.proofs.Maps.{upd_same}
use Rattle.k_locks.specs.declared.locks.Lock.{Lock}
use Rattle.k_locks.specs.declared.locks.Lock.TheVariants as lock
use Rattle.k_locks.specs.Asks.{Ask, Want, want_for, want_of}
use Rattle.k_locks.specs.Asks as asks
use Rattle.k_locks.specs.Locks.{Holds, lowest_held, rank_of}
use Rattle.k_locks.specs.Tables.{IsAbove}
use Rattle.k_locks.proofs.Ranks.{lowest_is_held, lowest_is_lowest}
use Rattle.k_bound.specs.Sections.{GoesOn, RemoveOthers, SectionLaws}
use Rattle.k_ipc.specs.SendTable.{SendAt}
use Rattle.k_ipc.specs.SendTable as send
use Rattle.k_ipc.specs.declared.receive.ReceiveCall.{ReceiveCall}
use Rattle.k_ipc.specs.ReceiveTable.{ReceiveAt}
use Rattle.k_ipc.specs.ReceiveTable as receive
use Rattle.k_threads.specs.CreateTable.{CreateAt}
use Rattle.k_threads.specs.CreateTable as create
use Rattle.k_threads.specs.declared.destroy.DestroyCall.{DestroyCall}
use Rattle.k_threads.specs.DestroyTable.{DestroyAt}
use Rattle.k_threads.specs.DestroyTable as destroy
use Rattle.k_switch.specs.declared.switch.SwitchCall.{SwitchCall}
use Rattle.k_switch.specs.Switches.{SwitchAt}
use Rattle.k_switch.specs.Switches as switch
use Rattle.k_board.specs.Words.{Programs}
use Rattle.k_board.specs.Boards.{At, Alone, InSend, InReceive, InCreate, InDestroy, InSwitch}
use Rattle.k_board.specs.Boards.{Resting, Coming, Nowhere, Context, Board, hand_of, owner_of}
use Rattle.k_board.specs.Facts.{AllSay}
use Rattle.k_board.specs.Places.{facts_of}
use Rattle.k_board.specs.Steps.{create_board, create_contexts, create_context, destroy_board}
use Rattle.k_board.specs.Steps.{destroy_contexts, destroy_context, destroy_number, receive_board}
use Rattle.k_board.specs.Steps.{receive_context, send_board, send_context, switch_board, switch_context}
use Rattle.k_board.proofs.Goes.{receive_me}
use Rattle.k_board.proofs.Turning.{turn_leaves}
use Rattle.k_good.specs.Locks.{locks_at}
use Rattle.k_good.specs.Ranges.{FitsAt}
use Rattle.k_good.proofs.Goods.{supports}
use Rattle.k_good.proofs.Owners.{Named}
use Rattle.k_sections.specs.Kept.{IsGoodSituation, IsKept}
use Rattle.k_sections.specs.Situations.{Situation, holder_of, left_at, left_of, rest_at, rest_of}
use Rattle.k_sections.specs.Situations.{situation_of, steps_until, steps_or_none, want_at, wants_of}
use Rattle.k_sections.specs.Stepping.{board_after, kernel_sections, removes, response_to, situation_after}
use Rattle.k_sections.proofs.Answered.{IsFree, held_owned, holder_is, none_some, owned_held, response_may, response_once}
use Rattle.k_sections.proofs.CreateFalls.{create_falls, create_within, switch_falls}
use Rattle.k_sections.proofs.DestroyFalls.{destroy_falls, destroy_within}
use Rattle.k_sections.proofs.Elsewhere.{Elsewhere, arrives, goes, stays}
use Rattle.k_sections.proofs.LockLaws as locks
use Rattle.k_sections.proofs.LockSteps.{LockStep, ranked_at}
use Rattle.k_sections.proofs.Moved.{Moved, got, holds_some, moved, released_last, returned, unmoved}
use Rattle.k_sections.proofs.ReceiveFalls.{receive_falls, receive_within}
use Rattle.k_sections.proofs.Resting.{same_rest}
use Rattle.k_sections.proofs.SendFalls.{send_falls, send_within}
use Rattle.k_sections.proofs.Short.{short_queue}
use Rattle.k_sections.proofs.Tables.{ThreadTables}
use Rattle.k_sections.proofs.Turned.{step_turns}
use Rattle.k_sections.proofs.Wanted.{Wanted, a_context, a_lock, wanted}

-- the steps up to the release of a lock
steps_is : (steps : Lock → ℕ) (ls : List (Option Lock)) (l : Lock) → steps_until steps ls (want_for l) ≡ steps l
steps_is steps ls (lock.Thread n) = refl
steps_is steps ls lock.Table = refl
steps_is steps ls lock.Ready = refl

-- where each lock has as many steps, so has each want
steps_same : (f h : Lock → ℕ) (ls : List (Option Lock)) → ((k : Lock) → f k ≡ h k) → (want : Want) →
    steps_until f ls want ≡ steps_until h ls want
steps_same f h ls e asks.Table = e lock.Table
steps_same f h ls e (asks.Thread n) = e (lock.Thread n)
steps_same f h ls e asks.Ready = e lock.Ready
steps_same f h ls e (asks.Context n) = go (lowest_held ls)
  where
    go : (o : Option Lock) → steps_or_none f o ≡ steps_or_none h o
    go None = refl
    go (Some k) = e k

steps_below : (f h : Lock → ℕ) (ls : List (Option Lock)) → ((k : Lock) → f k ≤ h k) → (want : Want) →
    steps_until f ls want ≤ steps_until h ls want
steps_below f h ls e asks.Table = e lock.Table
steps_below f h ls e (asks.Thread n) = e (lock.Thread n)
steps_below f h ls e asks.Ready = e lock.Ready
steps_below f h ls e (asks.Context n) = go (lowest_held ls)
  where
    go : (o : Option Lock) → steps_or_none f o ≤ steps_or_none h o
    go None = omega arith
    go (Some k) = e k

module _ (tables : ThreadTables) (g : Programs) (calls : Board → ℕ → SwitchCall) (I : Board → Type 0) (k : IsKept g I) where
  -- WITHIN WHAT IS PUBLISHED

  facts_at : (b : Board) (i : ℕ) → I b → (p : At) → (b.context i).at ≡ p → AllSay g b i (b.context i) (facts_of p)
  facts_at b i h p at = subst (λ (q : At). AllSay g b i (b.context i) (facts_of q)) at ((k.good b h).places i)

  named : (b : Board) → I b → Named b
  named b h = (k.good b h).locks

  fits : (b : Board) (i : ℕ) → I b → (c : DestroyCall) (p : DestroyAt) → (b.context i).at ≡ InDestroy c p →
      FitsAt b.size (InDestroy c p)
  fits b i h c p at = subst (FitsAt b.size) at ((k.within b h).targets i)

  inside : (b : Board) (i : ℕ) → I b → (c : DestroyCall) (p : DestroyAt) → (b.context i).at ≡ InDestroy c p →
      c.who.number < c.count
  inside b i h c p at = let t = fits b i h c p at in subst (λ (n : ℕ). c.who.number < n) (sym t.1) t.0.number

  short : (b : Board) (i : ℕ) → I b → (c : DestroyCall) (p : DestroyAt) → (b.context i).at ≡ InDestroy c p →
      length (b.queue c.who.number) < c.count
  short b i h c p at =
      let t = fits b i h c p at in subst (λ (n : ℕ). length (b.queue c.who.number) < n) (sym t.1)
      (short_queue b.size c.who.number (b.queue c.who.number) t.0.number ((k.queues b h i).once c.who.number)
      (k.entered b h c.who.number))

  within_at : (b : Board) (i : ℕ) → I b → (p : At) → (b.context i).at ≡ p → (l : Lock) → rest_at b i p l ≤ left_at b i p l
  within_at b i h (InSend c q) at l = send_within g b i c q (facts_at b i h (InSend c q) at) l
  within_at b i h (InReceive c q) at l =
      subst (λ (n : ℕ). rest_at b n (InReceive c q) l ≤ left_at b n (InReceive c q) l)
      (receive_me g b i (b.context i) c q (facts_at b i h (InReceive c q) at)) (receive_within g b c q l)
  within_at b i h (InCreate c q) at l = create_within tables g b i c q l
  within_at b i h (InDestroy c q) at l = destroy_within tables g b i c (inside b i h c q at) q l
  within_at b i h (InSwitch c q) at l = omega arith
  within_at b i h (Alone q) at l = omega arith
  within_at b i h Resting at l = omega arith
  within_at b i h Coming at l = omega arith
  within_at b i h Nowhere at l = omega arith

  pub rest_within_left : (s : Situation) (context : ℕ) (held : Want) → IsGoodSituation I s →
      holder_of s.board held ≡ Some context → rest_of s context held ≤ left_of s context held
  rest_within_left s i held h q =
      let p = (s.board.context i).at in
      steps_below (rest_at s.board i p) (left_at s.board i p) (locks_at p) (within_at s.board i h.board p refl) held

  -- NEARER TO A RELEASE

  -- at the location after its step, a context is nearer to the release of each lock that it held
  abbrev Falls : Board → ℕ → At → Lock → Type 0
  Falls b i p l = 1 + rest_at (board_after g calls b i p) i ((board_after g calls b i p).context i).at l ≤ rest_at b i p l

  none_held : (l : Lock) → Holds l (None ∷ None ∷ None ∷ []) → ⊥
  none_held (lock.Thread n) q = cc
  none_held lock.Table q = cc
  none_held lock.Ready q = cc

  receive_fall : (b : Board) → Named b → (c : ReceiveCall) (q : ReceiveAt) (l : Lock) → Holds l (receive.locks_of c q) →
      IsOnceEach (b.queue c.caller.number) → AllSay g b c.caller.number (b.context c.caller.number) (facts_of (InReceive c q)) →
      IsFree b (want_of (receive.ask_of c (b.context c.caller.number).own q)) → Falls b c.caller.number (InReceive c q) l
  receive_fall b h c q l holds once f free =
      let x = b.context c.caller.number in
      let a = receive.ask_of c x.own q in
      let r = response_to b a in
      let b' = receive_board g b c.caller.number x c q r in
      subst (λ (y : Context). 1 + rest_at b' c.caller.number y.at l ≤ rest_at b c.caller.number (InReceive c q) l)
      (sym (upd_same b.context c.caller.number (receive_context x c q r (hand_of b (b.queue c.caller.number)))))
      (receive_falls g b c q once f l holds r (response_may b h a) (response_once b a free))

  switch_fall : (b : Board) (i : ℕ) → Named b → (c : SwitchCall) (q : SwitchAt) (l : Lock) → Holds l (switch.locks_of q) →
      IsFree b (want_of (switch.ask_of c q)) →
      1 + rest_at (switch_board b i (b.context i) c q (response_to b (switch.ask_of c q))) i
      ((switch_board b i (b.context i) c q (response_to b (switch.ask_of c q))).context i).at l ≤ rest_at b i (InSwitch c q) l
  switch_fall b i h c q l holds free =
      let a = switch.ask_of c q in
      let r = response_to b a in
      let b' = switch_board b i (b.context i) c q r in
      subst (λ (y : Context). 1 + rest_at b' i y.at l ≤ rest_at b i (InSwitch c q) l)
      (sym (upd_same b.context i (switch_context (b.context i) c q r (hand_of b []))))
      (switch_falls b i c q l holds r (response_may b h a) (response_once b a free))

  switch_by : (b : Board) (i : ℕ) → Named b → (c : SwitchCall) (q : SwitchAt) (l : Lock) → Holds l (switch.locks_of q) →
      IsFree b (want_of (switch.ask_of c q)) → Falls b i (InSwitch c q) l
  switch_by b i h c (switch.Finished s) l holds free = absurd (none_held l holds)
  switch_by b i h c switch.AcquireReady l holds free = absurd (none_held l holds)
  switch_by b i h c (switch.Locked q) l holds free = switch_fall b i h c (switch.Locked q) l holds free
  switch_by b i h c (switch.Returned s) l holds free = switch_fall b i h c (switch.Returned s) l holds free

  fall_at : (b : Board) (i : ℕ) → I b → (p : At) → (b.context i).at ≡ p → IsFree b (want_at (b.context i).own p) → (l : Lock) →
      Holds l (locks_at p) → Falls b i p l
  fall_at b i h (InSend c q) at free l holds =
      let x = b.context i in
      let a = send.ask_of c x.own q in
      let r = response_to b a in
      let b' = send_board g b i x c q r in
      subst (λ (y : Context). 1 + rest_at b' i y.at l ≤ rest_at b i (InSend c q) l)
      (sym (upd_same b.context i (send_context x c q r (hand_of b (b.queue c.to.number)))))
      (send_falls g b i c q (facts_at b i h (InSend c q) at) l holds r (response_may b (named b h) a) (response_once b a free))
  fall_at b i h (InReceive c q) at free l holds =
      subst (λ (n : ℕ). IsOnceEach (b.queue n) → AllSay g b n (b.context n) (facts_of (InReceive c q)) →
      IsFree b (want_of (receive.ask_of c (b.context n).own q)) → Falls b n (InReceive c q) l)
      (receive_me g b i (b.context i) c q (facts_at b i h (InReceive c q) at)) (receive_fall b (named b h) c q l holds)
      ((k.queues b h i).once i) (facts_at b i h (InReceive c q) at) free
  fall_at b i h (InCreate c q) at free l holds =
      let x = b.context i in
      let a = create.ask_of c x.own q in
      let r = response_to b a in
      let b' = create_board g b i x c q r in
      subst (λ (y : Context). 1 + rest_at b' i y.at l ≤ rest_at b i (InCreate c q) l)
      (sym (upd_same (create_contexts g c q r b.context) i (create_context x c q r (hand_of b []))))
      (create_falls tables g b i c q (facts_at b i h (InCreate c q) at) l holds r (response_may b (named b h) a)
      (response_once b a free))
  fall_at b i h (InDestroy c q) at free l holds =
      let x = b.context i in
      let a = destroy.ask_of c x.own q in
      let r = response_to b a in
      let b' = destroy_board g b i x c q r in
      subst (λ (y : Context). 1 + rest_at b' i y.at l ≤ rest_at b i (InDestroy c q) l)
      (sym (upd_same (destroy_contexts c q r b.context) i (destroy_context x c q r (hand_of b (b.queue (destroy_number c q))))))
      (destroy_falls tables g b i c (inside b i h c q at) (short b i h c q at) q (facts_at b i h (InDestroy c q) at) l holds r
      (response_may b (named b h) a) (response_once b a free))
  fall_at b i h (InSwitch c q) at free l holds = switch_by b i (named b h) c q l holds free
  fall_at b i h (Alone q) at free l holds = absurd (none_held l holds)
  fall_at b i h Resting at free l holds = absurd (none_held l holds)
  fall_at b i h Coming at free l holds = absurd (none_held l holds)
  fall_at b i h Nowhere at free l holds = absurd (none_held l holds)

  -- The lowest lock that is held stays the lowest as long as it is held, and it is the last that is released.
  lowest_stays : (b : Board) (i : ℕ) → I b → (l l' : Lock) → lowest_held (locks_at (b.context i).at) ≡ Some l →
      lowest_held (locks_at ((locks.next_board tables g calls I k b i).context i).at) ≡ Some l' → l' ≡ l
  lowest_stays b i h l l' e e' = by_after (moved b b' i (b.context i).at st l')
    where
      b' : Board
      b' = locks.next_board tables g calls I k b i

      st : LockStep b b' i (b.context i).at
      st = locks.lock_moves tables g calls I k b i h

      before : Named b
      before = named b h

      after : Named b'
      after = named b' (locks.kept_after tables g calls I k b i h)

      held : Holds l (locks_at (b.context i).at)
      held = lowest_is_held (locks_at (b.context i).at) l (ranked_at tables (b.context i).at) e

      owned : owner_of b' l' ≡ Some i
      owned = held_owned b' after l' i (lowest_is_held (locks_at (b'.context i).at) l' (ranked_at tables (b'.context i).at) e')

      -- no lock that is held after ranks below that
      lowest_after : owner_of b' l ≡ Some i → rank_of l' ≤ rank_of l
      lowest_after q =
          lowest_is_lowest (locks_at (b'.context i).at) l' l (ranked_at tables (b'.context i).at) e' (owned_held b' after l i q)

      below : rank_of l' ≤ rank_of l
      below = go (moved b b' i (b.context i).at st l)
        where
          go : Moved b b' i st.ask l → rank_of l' ≤ rank_of l
          go (unmoved q) = lowest_after (q ∙ held_owned b before l i held)
          go (got a q) = lowest_after q
          go (returned a q) =
              released_last b b' i (b.context i).at st before refl l (held_owned b before l i held) (λ z. none_some q z) l' owned

      by_after : Moved b b' i st.ask l' → l' ≡ l
      by_after (unmoved q) =
          let mine = owned_held b before l' i (sym q ∙ owned) in
          let up = lowest_is_lowest (locks_at (b.context i).at) l l' (ranked_at tables (b.context i).at) e mine in
          let same : rank_of l' ≡ rank_of l = omega (arith, below, up) in
          lock_is (sym mine ∙ ap (slice_get (locks_at (b.context i).at)) same ∙ held)
        where
          lock_is : Some (Some l') ≡ Some (Some l) → l' ≡ l
          lock_is z = cc
      by_after (got a q) =
          let up = subst (λ (z : Ask). IsAbove z (locks_at (b.context i).at)) a st.above (rank_of l) l held in
          absurd (omega (arith, up, below))
      by_after (returned a q) = absurd (none_some q owned)

  pub rest_falls : (s : Situation) (context : ℕ) (held : Want) → IsGoodSituation I s → holder_of s.board held ≡ Some context →
      GoesOn (kernel_sections g calls) s context → rest_of (locks.step_of tables g calls I k s context) context held + 1 ≤
      rest_of s context held
  rest_falls s i held h q free =
      subst (λ (o : Option (Option Want)). rest_of (situation_after g calls s i o) i held + 1 ≤ rest_of s i held) (sym there)
      (go held (wanted held) q)
    where
      b : Board
      b = s.board

      b' : Board
      b' = locks.next_board tables g calls I k b i

      there : s.removed i ≡ None
      there = locks.holder_there tables g calls I k s i held h q

      fall : (l : Lock) → Holds l (locks_at (b.context i).at) → Falls b i (b.context i).at l
      fall =
          fall_at b i h.board (b.context i).at refl (λ w o e z. free w o (locks.wants_there tables g calls I k s i there ∙ e) z)

      after : Lock → ℕ
      after l = rest_at b' i (b'.context i).at l

      before : Lock → ℕ
      before l = rest_at b i (b.context i).at l

      by_lowest : (o o' : Option Lock) → lowest_held (locks_at (b.context i).at) ≡ o →
          lowest_held (locks_at (b'.context i).at) ≡ o' → o ≢ None → steps_or_none after o' + 1 ≤ steps_or_none before o
      by_lowest None o' e e' ne = absurd (ne refl)
      by_lowest (Some l) None e e' ne =
          let f = fall l (lowest_is_held (locks_at (b.context i).at) l (ranked_at tables (b.context i).at) e) in
          omega (arith, f)
      by_lowest (Some l) (Some l') e e' ne =
          let f = fall l (lowest_is_held (locks_at (b.context i).at) l (ranked_at tables (b.context i).at) e) in
          let same = ap after (lowest_stays b i h.board l l' e e') in
          omega (arith, f, same)

      go : (held : Want) → Wanted held → holder_of b held ≡ Some i →
          rest_of (locks.next_of tables g calls I k s i) i held + 1 ≤ rest_of s i held
      go _ (a_lock l) q =
          let f = fall l (owned_held b (named b h.board) l i (sym (holder_is b l) ∙ q)) in
          let now = steps_is after (locks_at (b'.context i).at) l in
          let was = steps_is before (locks_at (b.context i).at) l in
          omega (arith, f, now, was)
      go _ (a_context n) q =
          by_lowest (lowest_held (locks_at (b.context i).at)) (lowest_held (locks_at (b'.context i).at)) refl refl
          (holds_some b (named b h.board) i (asks.Context n) q)

  -- WHILE IT ASKS FOR SOMETHING

  queues_same : (b : Board) (other this : ℕ) → I b → this ≢ other → (n : ℕ) →
      Holds (lock.Thread n) (locks_at (b.context this).at) → (locks.next_board tables g calls I k b other).queue n ≡ b.queue n
  queues_same b other this h ne n holds = elim (step_turns g b (named b h) other calls) [
    | inl t ↦
        (turn_leaves g b (k.good b h).places other (locks.next_board tables g calls I k b other)
        (supports g b other (k.good b h) (k.queues b h other)) t this ne).queue n
        (held_owned b (named b h) (lock.Thread n) this holds)
    | inr s ↦ ap (λ (z : Board). z.queue n) (locks.same_still g calls b other (b.context other).at s)
  ]

  pub rest_same : (s : Situation) (this other : ℕ) (held asked : Want) → IsGoodSituation I s → this ≢ other →
      wants_of s this ≡ Some asked → holder_of s.board held ≡ Some this →
      rest_of (locks.step_of tables g calls I k s other) this held ≡ rest_of s this held
  rest_same s this other held asked h ne asks q =
      locks.by_step tables g calls I k (λ t. rest_of t this held ≡ rest_of s this held) s other refl
      (λ gone. go (locks.elsewhere tables g calls I k b other this h.board ne))
    where
      b : Board
      b = s.board

      b' : Board
      b' = locks.next_board tables g calls I k b other

      some : lowest_held (locks_at (b.context this).at) ≢ None
      some = holds_some b (named b h.board) this held q

      asked_here : want_at (b.context this).own (b.context this).at ≡ Some asked
      asked_here =
          sym (locks.wants_there tables g calls I k s this (locks.holder_there tables g calls I k s this held h q)) ∙ asks

      go : Elsewhere b.context b'.context (removes b (b.context other).at) this →
          rest_of (locks.next_of tables g calls I k s other) this held ≡ rest_of s this held
      go (stays e) =
          let p = (b.context this).at in
          subst (λ (y : Context). steps_until (rest_at b' this y.at) (locks_at y.at) held ≡ rest_of s this held) (sym e)
          (steps_same (rest_at b' this p) (rest_at b this p) (locks_at p)
          (same_rest b b' this asked (b.context this).own p asked_here (queues_same b other this h.board ne)) held)
      go (arrives w v) = absurd (some (ap lowest_held w.0))
      go (goes d e at) = absurd (some e)

  -- ALL TEN

  pub laws : SectionLaws Situation (kernel_sections g calls) (IsGoodSituation I)
  laws = record {
    stays_good = locks.stays_good tables g calls I k;
    wants_same = locks.wants_same tables g calls I k;
    holds_on = locks.holds_on tables g calls I k;
    held_before = locks.held_before tables g calls I k;
    rest_same = rest_same;
    rest_falls = rest_falls;
    rest_within_left = rest_within_left;
    rank_rises = locks.rank_rises tables g calls I k;
    last_first = locks.last_first tables g calls I k;
    gains_asked = locks.gains_asked tables g calls I k;
  }

  pub others : RemoveOthers Situation (kernel_sections g calls) (IsGoodSituation I)
  others s context number h e = locks.others_removed tables g calls I k s context number h e

  pub begins : (b : Board) → I b → IsGoodSituation I (situation_of b)
  begins b h = record { board = h; unlocked = λ n want e. absurd cc; spared = λ n want e. absurd cc }
