-- The section in hand goes on: the mark that stands then has room for the step, and is tied to a board again.
use Rattle.std.proofs.Common.{◌≡◌, ℕ, ◌<◌, Bool, true, false, refl, sym, ap, ◌∙◌, subst, Option, Some, None}
use Rattle.std.proofs.Common.{length}
use Rattle.std.specs.Prelude.{if◌then◌else◌}
use Rattle.k_script.specs.Script.{Script}
use Rattle.k_context.specs.Contexts.{ContextSeen, asked, begun, owner_of, step_of}
use Rattle.k_carrier.specs.declared.marks.WaitMark.{WaitMark}
use Rattle.k_carrier.specs.declared.moves.Help.{Help}
use Rattle.k_carrier.specs.Asked.{CarrierAsk, LookAt, PutDown, Take, asked_by, move_by, Run, ask_of, lock_acquired}
use Rattle.k_carrier.specs.Seen.{CarrierSeen, HandSeen}
use Rattle.k_world.specs.Marks.{Still, course_of, Onward, course_by, got_by, has_mark}
use Rattle.k_world.specs.Marks.{mark_at, same_owner, standing_at, used_once, with_use}
use Rattle.k_world.specs.Moves.{answer_by}
use Rattle.k_world.specs.Steps.{course_in, step_in, moved, unbroken_waits}
use Rattle.k_world.specs.Worlds.{WaitLog, World, carrier_at}
use Rattle.k_sections.proofs.Tables.{ThreadTables}
use Rattle.k_waits.specs.Waits.{IsWaiting, IsWaitingFor, WaitsHold}
use Rattle.k_waits.specs.Words.{ShowsMark}
use Rattle.k_waits.proofs.Logs.{shows_counted, shows_left_out, within_allowed}
use Rattle.k_waits.proofs.Outside.{stands_unbroken}
use Rattle.k_waits.proofs.Owed.{look_still, take_still, onward_is, owner_asked, works}
use Rattle.k_onward.specs.Stepping.{IsStepping}
use Rattle.k_onward.proofs.Carriers.{Heard, IsForSame, after, run_help, same_runner, same_works}
use Rattle.k_onward.proofs.Marks.{IsWithin, broken_size, counted_mark, got_stands}
use Rattle.k_onward.proofs.Onward.{Counted, counted_allowed, goes_on_waiting, onward_help}
use Rattle.k_onward.proofs.Stepping.{A, V, heard}

some_number : {a b : ℕ} → Some a ≡ Some b → a ≡ b
some_number e = cc

module _ (tables : ThreadTables) (script : Script) (w : World) (s : IsStepping script w) (ws : WaitsHold script w) where
  abbrev pub L : WaitLog
  L = unbroken_waits w

  -- a mark that stands is one of the log's
  pub inside : (k : ℕ) → standing_at (unbroken_waits w) 0 ≡ Some k → k < length w.waits.marks
  inside k st = (ws.log.standing 0 k (stands_unbroken w k ws.carriers ws.size st).1).inside

  pub log_size : length (unbroken_waits w).standing ≡ 1
  log_size = broken_size w.carriers w.waits.standing ws.carriers ws.size

  module _ (x : HandSeen) (e : ask_of (carrier_at w 0) ≡ Run x) where
    -- IT GOES ON

    module _ (v : ContextSeen)
        (goes : course_by (asked (V script w s x e)) (step_of (V script w s x e)) (A script w s x e) ≡ Onward v) where
      of_hand : owner_of v ≡ owner_of x.value
      of_hand =
          ap owner_of (sym (onward_is (asked (V script w s x e)) v (step_of (V script w s x e)) (A script w s x e) goes))
          ∙ owner_asked script x.value

      -- the mark that stands then, whose carrier helps somebody
      pub record Goes (k : ℕ) : Type 0 where
        pub mark : IsWaitingFor script w k (mark_at w.waits.marks k).requester
        pub help : Help
        pub helps : (carrier_at w 0).help ≡ Some help
        pub inside : k < length w.waits.marks

      pub goes_for : (k : ℕ) → standing_at (got_by (owner_of v) (unbroken_waits w)) 0 ≡ Some k → Goes k
      goes_for k st = by (carrier_at w 0).help refl
        where
          g : (standing_at (unbroken_waits w) 0 ≡ Some k) × (same_owner (mark_at w.waits.marks k).requester (owner_of v) ≡ false)
          g = got_stands (owner_of v) (unbroken_waits w) k st

          by : (p : Option Help) → (carrier_at w 0).help ≡ p → Goes k
          by (Some p) is = record { mark = ws.waiting k g.0; help = p; helps = is; inside = inside k g.0 }
          by None is =
              let m = ws.waiting k g.0 in
              let works_it = works script w s.before.board s.before.view s.before.entries s.before.state s.before.aligned
              s.before.whole ws x e is in
              let yes : same_owner (mark_at w.waits.marks k).requester (owner_of v) ≡ true =
              (λ d. same_owner (sym m.runner d) (of_hand d)) ∙ works_it in
              let no : true ≡ false = sym yes ∙ g.1 in absurd cc

      pub onward_once : (k : ℕ) → standing_at (got_by (owner_of v) (unbroken_waits w)) 0 ≡ Some k → has_mark v ≡ true →
          IsWithin (used_once (mark_at w.waits.marks k))
      onward_once k st hm =
          let g = goes_for k st in
          let o = (mark_at w.waits.marks k).requester in
          let c = Counted tables script w s ws x e k o g.mark g.help g.helps v goes in
          within_allowed script.table k (used_once (mark_at w.waits.marks k)) w.waits.links c
          (shows_counted script.table k (mark_at w.waits.marks k) w.waits.links g.mark.mark _ _ g.mark.shown)
          (counted_allowed tables script w s ws x e k o g.mark g.help g.helps v goes)

      pub onward_waits : IsForSame (carrier_at w 0) (carrier_at (moved script 0 w) 0) → (k : ℕ) →
          standing_at (got_by (owner_of v) (unbroken_waits w)) 0 ≡ Some k →
          (moved script 0 w).waits.marks ≡ (with_use 0 (has_mark v) (got_by (owner_of v) (unbroken_waits w))).marks →
          (moved script 0 w).waits.links ≡ w.waits.links → IsWaiting script (moved script 0 w) k
      onward_waits for k st marks links =
          subst (IsWaitingFor script (moved script 0 w) k) (sym requester)
          (goes_on_waiting tables script w s ws x e k (mark_at w.waits.marks k).requester g.mark g.help g.helps v goes
          (same_runner (carrier_at w 0) (carrier_at (moved script 0 w) 0) for ∙ g.mark.runner)
          (same_works (carrier_at w 0) (carrier_at (moved script 0 w) 0) for ∙ g.mark.works) help links
          (subst (λ (m : WaitMark). ShowsMark script.table k m w.waits.links
          (Counted tables script w s ws x e k (mark_at w.waits.marks k).requester g.mark g.help g.helps v goes)) (sym at)
          (shows (has_mark v))))
        where
          g : Goes k
          g = goes_for k st

          at : mark_at (moved script 0 w).waits.marks k
              ≡ (if has_mark v then used_once (mark_at w.waits.marks k) else mark_at w.waits.marks k)
          at = ap (λ ms. mark_at ms k) marks ∙ counted_mark (has_mark v) (owner_of v) (unbroken_waits w) k st
              (goes_for k st).inside

          same : (q : Bool) → (if q then used_once (mark_at w.waits.marks k) else mark_at w.waits.marks k).requester
              ≡ (mark_at w.waits.marks k).requester
          same true = refl
          same false = refl

          requester : (mark_at (moved script 0 w).waits.marks k).requester ≡ (mark_at w.waits.marks k).requester
          requester = ap (λ (m : WaitMark). m.requester) at ∙ same (has_mark v)

          help : (carrier_at (moved script 0 w) 0).help ≡ (carrier_at w 0).help
          help =
              ap (λ (c : CarrierSeen). c.help) (after script w s.one (Run x) e) ∙ run_help script w x
              ∙ onward_help (asked (V script w s x e)) v (step_of (V script w s x e)) (Heard script w x) (carrier_at w 0).help
              (lock_acquired (step_of (begun script x.value)))
              (ap (course_by (asked (V script w s x e)) (step_of (V script w s x e))) (heard script w s x e) ∙ goes)

          shows : (q : Bool) → ShowsMark script.table k
              (if q then used_once (mark_at w.waits.marks k) else mark_at w.waits.marks k) w.waits.links
              (Counted tables script w s ws x e k (mark_at w.waits.marks k).requester (goes_for k st).mark (goes_for k st).help
              (goes_for k st).helps v goes)
          shows true =
              shows_counted script.table k (mark_at w.waits.marks k) w.waits.links (goes_for k st).mark.mark _ _
              (goes_for k st).mark.shown
          shows false =
              shows_left_out script.table k (mark_at w.waits.marks k) w.waits.links (goes_for k st).mark.mark _ _
              (goes_for k st).mark.shown

  -- A STEP THAT IS COUNTED has room in its mark

  pub counted_room : (v : ContextSeen) (k : ℕ) → course_in (step_in script 0 w) ≡ Onward v → has_mark v ≡ true →
      standing_at (got_by (owner_of v) (unbroken_waits w)) 0 ≡ Some k → IsWithin (used_once (mark_at w.waits.marks k))
  unfolding step_in
  counted_room v k goes hm st = by (ask_of (carrier_at w 0)) refl goes
    where
      by : (a : CarrierAsk) → ask_of (carrier_at w 0) ≡ a → course_of (asked_by script (carrier_at w 0) a).hand
          (move_by script (carrier_at w 0) a) (answer_by w (move_by script (carrier_at w 0) a)) ≡ Onward v → IsWithin
          (used_once (mark_at w.waits.marks k))
      by (Run x) e c =
          onward_once x e v
          (ap (course_by (asked (V script w s x e)) (step_of (V script w s x e))) (sym (heard script w s x e)) ∙ c) k st hm
      by (PutDown h) e c = absurd cc
      by (LookAt n) e c =
          let no : Still ≡ Onward v = sym (look_still (asked_by script (carrier_at w 0) (LookAt n)).hand n _) ∙ c in absurd cc
      by (Take n bits) e c =
          let no : Still ≡ Onward v = sym (take_still (asked_by script (carrier_at w 0) (Take n bits)).hand n bits _ _) ∙ c in
          absurd cc
