-- An event takes from what is still to come.
use Rattle.std.proofs.Common.{◌≡◌, ◌≢◌, ℕ, ◌+◌, ◌<◌, ◌≤◌, true, false, refl, sym, ap, subst, arith, inl, inr}
use Rattle.std.proofs.lemmas.Bool.{cases_eq, cases_Bool, cond_both}
use Rattle.k_ids.specs.declared.threads.Status.{Status}
use Rattle.k_model.specs.State.{KernelState, is_dead}
use Rattle.k_model.specs.Keeps.{Leaves}
use Rattle.k_model.specs.Effort.{waits}
use Rattle.k_script.specs.Script.{Script}
use Rattle.k_script.specs.Plays.{Position, phases_left}
use Rattle.k_room.specs.Room.{share, shares, sum_below, to_come}
use Rattle.k_room.proofs.Sums.{only, only_here, only_other, sum_only, sum_between}

-- ONE NUMBER

share_most : (script : Script) (q : Position) (st : Status) → share script q st ≤ phases_left script q
share_most script q st =
    cond_both (is_dead st) 0 (phases_left script q) (λ (s : ℕ). s ≤ phases_left script q) (λ _. omega arith) (λ _. omega arith)

share_whole : (script : Script) (q : Position) (st : Status) → is_dead st ≡ false → share script q st ≡ phases_left script q
share_whole script q st alive = rw alive refl

share_kept : (script : Script) (q : Position) (old new : Status) → (is_dead old ≡ true → is_dead new ≡ true) →
    share script q new ≤ share script q old
share_kept script q old new dead = elim (cases_Bool (is_dead old)) [
  | inl d ↦ let gone : share script q new ≡ 0 = rw (dead d) refl in omega (arith, gone)
  | inr alive ↦ omega (arith, share_most script q new, share_whole script q old alive)
]

module _ (script : Script) (k n : KernelState) (at to : ℕ → Position) (me : ℕ) (size : n.size ≡ k.size)
    (inside : me < k.size) where
  old_shares : shares script k at ≡ sum_below (λ t. share script (at t) (k.place t).status) k.size
  old_shares = refl

  new_shares : shares script n to ≡ sum_below (λ t. share script (to t) (n.place t).status) k.size
  new_shares = ap (sum_below (λ t. share script (to t) (n.place t).status)) size

  -- An event that isn't a call takes one from the threads that wait.
  pub wait_spends : ((t : ℕ) → to t ≡ at t) → ((t : ℕ) → Leaves k n t) → waits n + 1 ≤ waits k →
      to_come script n to + 1 ≤ to_come script k at
  wait_spends stand leaves fewer =
      let each : (t : ℕ) → share script (to t) (n.place t).status + only me 0 t ≤ share script (at t) (k.place t).status +
      only me 0 t = λ t.
      let kept = share_kept script (at t) (k.place t).status (n.place t).status (leaves t).dead in
      rw (stand t) (omega (arith, kept)) in
      let sums = sum_between (λ t. share script (at t) (k.place t).status) (λ t. share script (to t) (n.place t).status)
      (only me 0) (only me 0) k.size each in
      omega (arith, sums, fewer, old_shares, new_shares)

  module _ (alive : is_dead (k.place me).status ≡ false) (more : waits n ≤ waits k + 1) where
    -- A call that makes no thread takes one from its own.
    pub call_spends : ((t : ℕ) → t ≢ me → to t ≡ at t) → ((t : ℕ) → t ≢ me → Leaves k n t) →
        phases_left script (to me) + 1 ≤ phases_left script (at me) → to_come script n to + 1 ≤ to_come script k at
    call_spends stand leaves falls =
        let each : (t : ℕ) → share script (to t) (n.place t).status + only me 1 t ≤ share script (at t) (k.place t).status +
        only me 0 t = λ t. elim (cases_eq t me) [
          | inl e ↦
              let here : share script (to me) (n.place me).status + only me 1 me ≤ share script (at me) (k.place me).status +
              only me 0 me =
              omega (
                arith,
                share_most script (to me) (n.place me).status,
                share_whole script (at me) (k.place me).status alive,
                falls,
                only_here me 1,
                only_here me 0,
              ) in
              subst (λ (j : ℕ). share script (to j) (n.place j).status + only me 1 j ≤ share script (at j) (k.place j).status +
              only me 0 j) (sym e) here
          | inr ne ↦
              let kept = share_kept script (at t) (k.place t).status (n.place t).status (leaves t ne).dead in
              rw (stand t ne) (omega (arith, kept, only_other me 1 t ne))
        ] in
        let sums = sum_between (λ t. share script (at t) (k.place t).status) (λ t. share script (to t) (n.place t).status)
        (only me 1) (only me 0) k.size each in
        omega (arith, sums, more, old_shares, new_shares, sum_only me 1 k.size inside, sum_only me 0 k.size inside)

    -- A create takes one more than it gives to the new thread.
    pub create_spends : (number given : ℕ) → number < k.size → me ≢ number → ((t : ℕ) → t ≢ me → t ≢ number → to t ≡ at t) →
        ((t : ℕ) → t ≢ me → t ≢ number → Leaves k n t) → phases_left script (to number) ≤ given →
        phases_left script (to me) + given + 1 ≤ phases_left script (at me) → to_come script n to + 1 ≤ to_come script k at
    create_spends number given room apart stand leaves share_given falls =
        let each : (t : ℕ) → share script (to t) (n.place t).status + only me (given + 1) t ≤
        share script (at t) (k.place t).status + only number given t = λ t. elim (cases_eq t me) [
          | inl e ↦
              let here : share script (to me) (n.place me).status + only me (given + 1) me ≤
              share script (at me) (k.place me).status + only number given me =
              omega (
                arith,
                share_most script (to me) (n.place me).status,
                share_whole script (at me) (k.place me).status alive,
                falls,
                only_here me (given + 1),
              ) in
              subst (λ (j : ℕ). share script (to j) (n.place j).status + only me (given + 1) j ≤
              share script (at j) (k.place j).status + only number given j) (sym e) here
          | inr ne ↦ elim (cases_eq t number) [
            | inl q ↦
                let here : share script (to number) (n.place number).status + only me (given + 1) number ≤
                share script (at number) (k.place number).status + only number given number =
                omega (
                  arith,
                  share_most script (to number) (n.place number).status,
                  share_given,
                  only_other me (given + 1) number (λ e. apart (sym e)),
                  only_here number given,
                ) in
                subst (λ (j : ℕ). share script (to j) (n.place j).status + only me (given + 1) j ≤
                share script (at j) (k.place j).status + only number given j) (sym q) here
            | inr nq ↦
                let kept = share_kept script (at t) (k.place t).status (n.place t).status (leaves t ne nq).dead in
                rw (stand t ne nq) (omega (arith, kept, only_other me (given + 1) t ne))
          ]
        ] in
        let sums = sum_between (λ t. share script (at t) (k.place t).status) (λ t. share script (to t) (n.place t).status)
        (only me (given + 1)) (only number given) k.size each in
        omega (
          arith,
          sums,
          more,
          old_shares,
          new_shares,
          sum_only me (given + 1) k.size inside,
          sum_only number given k.size room,
        )
