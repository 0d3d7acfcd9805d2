-- Where all rest, nothing is to come.
use Rattle.std.proofs.Common.{◌≡◌, ℕ, Bool, true, false, not, ◌||◌, refl, sym, ap, ◌∙◌, subst, Option, Some, None, ◌⊎◌, inl, inr}
use Rattle.std.proofs.lemmas.Bool.{cases_Bool, false≢true}
use Rattle.k_ids.specs.declared.threads.ThreadId.{ThreadId}
use Rattle.k_ids.specs.declared.threads.Status.{Status}
use Rattle.k_ids.specs.declared.state_word.State.{State}
use Rattle.k_ids.specs.declared.state_word.State.TheVariants as state
use Rattle.k_ids.specs.declared.histories.Entry.{Entry}
use Rattle.std.specs.Prelude.{List}
use Rattle.k_model.specs.History.{IsFinished}
use Rattle.k_model.specs.State.{KernelState, is_picking, is_present, is_run, waits_for_absent}
use Rattle.k_locks.specs.Shown.{is_dead, is_dead_state, is_present_in, shows}
use Rattle.k_queues.proofs.Entries.{same_self}
use Rattle.k_ipc.specs.Words.{sends_to}
use Rattle.k_script.specs.Limits.{IsScript}
use Rattle.k_script.specs.Script.{Script}
use Rattle.k_caller.specs.declared.thread.ThreadLocation.TheVariants as location
use Rattle.k_board.specs.Boards.{At, Alone, Board}
use Rattle.k_board.specs.Facts.{AllSay, may_wait}
use Rattle.k_board.specs.Places.{facts_of}
use Rattle.k_board.specs.Turns.{excepted_by}
use Rattle.k_partners.specs.Partners.{Looks}
use Rattle.k_partners.proofs.Partners.{partners_meet}
use Rattle.k_queues.proofs.Proper.{exact_queue}
use Rattle.k_points.specs.Shown.{Line, status_by}
use Rattle.k_points.proofs.Gones.{present_is}
use Rattle.k_plays.specs.Scripts.{ranged_programs}
use Rattle.k_invariant.specs.Invariant.{AllRest, BoardHolds}

abbrev acts : KernelState → Status → Bool
acts k st = is_run st || (is_picking st || waits_for_absent k st)

module _ (script : Script) (b : Board) (es : List Entry) (k : KernelState) (h : BoardHolds script b es k) (rest : AllRest b) where
  facts_at : (n : ℕ) (p : At) → (b.context n).at ≡ p → AllSay (ranged_programs script) b n (b.context n) (facts_of p)
  facts_at n p at = subst (λ (q : At). AllSay (ranged_programs script) b n (b.context n) (facts_of q)) at (h.proper.good.places n)

  -- who is there waits, and not as one that picks, or its program is over
  resting : (n : ℕ) → is_dead (b.seen n).word ≡ false → (may_wait (b.seen n).word.state ≡ true) ⊎
      ((b.seen n).word.state ≡ state.Ended)
  resting n alive = elim (rest.places n alive) [
    | inl at ↦ elim (facts_at n (Alone location.Asleep) at).1.1.0 [
      | inl dead ↦ absurd (false≢true (sym alive ∙ dead))
      | inr w ↦ elim w [
        | inl waits ↦ inl waits
        | inr w ↦ elim w [
          | inl sent ↦ absurd (false≢true (sym (rest.off n alive) ∙ sent.1))
          | inr w ↦ elim w [
            | inl gone ↦ absurd (false≢true (sym (rest.off n alive) ∙ gone.1))
            | inr got ↦ absurd (false≢true (sym (rest.off n alive) ∙ got.on))
          ]
        ]
      ]
    ]
    | inr at ↦ let r = (facts_at n (Alone location.Ended) at).1.1.0 in elim r.1 [
      | inl is ↦ inr (ap (λ w. w.state) is ∙ r.0)
      | inr dead ↦ absurd (false≢true (sym alive ∙ dead))
    ]
  ]

  status_is : (n : ℕ) → (k.place n).status ≡ shows (b.seen n).word.state
  status_is n =
      ap (λ (l : Line). l.status) (h.followed.shown.shows.lines n)
      ∙ ap (λ (o : Option ℕ). status_by (excepted_by o b.context n) (b.seen n).word.state) (rest.owner n)

  there : (id : ThreadId) → is_present_in (b.seen id.number).word id ≡ true → is_present k id ≡ true
  there id p = present_is b k h.followed.shown.shows.lines id ∙ p

  not_looking : (n : ℕ) (from : ThreadId) → is_dead (b.seen n).word ≡ false → Looks from (b.context n).at → ⊥
  not_looking n from alive l = elim (rest.places n alive) [
    | inl at ↦ subst (Looks from) at l
    | inr at ↦ subst (Looks from) at l
  ]

  idle : (n : ℕ) (s : State) → (b.seen n).word.state ≡ s → acts k (shows s) ≡ false
  idle n state.Dead is = refl
  idle n state.Ended is = refl
  idle n (state.Receiving None) is = refl
  idle n (state.Run r) is = elim (resting n (ap is_dead_state is)) [
    | inl w ↦ absurd (false≢true (sym (ap may_wait is) ∙ w))
    | inr e ↦ let no : state.Run r ≡ state.Ended = sym is ∙ e in absurd cc
  ]
  idle n state.Picking is = elim (resting n (ap is_dead_state is)) [
    | inl w ↦ absurd (false≢true (sym (ap may_wait is) ∙ w))
    | inr e ↦ let no : state.Picking ≡ state.Ended = sym is ∙ e in absurd cc
  ]
  idle n (state.Sending to joined) is =
      let q = exact_queue (ranged_programs script) b h.proper to.number rest.table (rest.owner to.number) in
      let p = there to (q.waiters n to refl (ap (sends_to to) is ∙ same_self to)).1 in
      rw p refl
  idle n (state.Receiving (Some from)) is =
      let p = there from (partners_meet b n from h.partners rest.table (not_looking n from (ap is_dead_state is)) is) in
      rw p refl

  pub rest_finished : IsFinished k
  rest_finished n inside = ap (acts k) (status_is n) ∙ idle n (b.seen n).word.state refl
