-- The release of a switch: who ran and who is started go into their lists, and the first of the highest list is taken.
use Rattle.std.proofs.Common.{◌≡◌, ℕ, ◌+◌, ◌-◌, ◌<◌, ◌==◌, true, false, not, length, refl}
use Rattle.std.proofs.Common.{sym, ap, ◌∙◌, subst, Option, Some, None, List, inl, inr}
use Rattle.std.specs.Prelude.{◌&&◌, is_some, drop}
use Rattle.std.proofs.lemmas.List.{length-set}
use Rattle.k_ids.specs.declared.threads.ThreadId.{ThreadId}
use Rattle.k_model.specs.Maps.{upd}
use Rattle.k_model.proofs.Maps.{upd_same}
use Rattle.k_shown.proofs.States.{upd_twice}
use Rattle.k_ready.specs.Lists.{Ready, list_of, with_list}
use Rattle.k_ready.specs.Popped.{Level, without_level}
use Rattle.k_locks.specs.declared.steps.Answer.TheVariants as answer
use Rattle.k_locks.specs.declared.steps.Told.TheVariants as told
use Rattle.k_script.specs.Script.{Script}
use Rattle.k_switch.specs.declared.goal.Goal.{Goal}
use Rattle.k_switch.specs.declared.switch.SwitchCall.{SwitchCall}
use Rattle.k_switch.specs.declared.switch.SwitchLocation.{SwitchLocation}
use Rattle.k_switch.specs.declared.switch.SwitchLocation.TheVariants as location
use Rattle.k_switch.specs.declared.switch.SwitchLocked.TheVariants as locked
use Rattle.k_switch.specs.Switches as switch
use Rattle.k_carrier.specs.Answers as answers
use Rattle.k_carrier.specs.Asked.{Run, ask_of, asked, asked_by}
use Rattle.k_carrier.specs.Resumed.{resumed}
use Rattle.k_carrier.specs.Seen.{CarrierSeen}
use Rattle.k_tokens.specs.Maps.{one_if}
use Rattle.k_tokens.specs.World.{ContextName, OwnContext, World}
use Rattle.k_tokens.specs.World as tokens
use Rattle.k_tokens.specs.Steps.{ThreadStep}
use Rattle.k_switching.specs.Rules as carriers
use Rattle.k_switching.specs.Switch as rules
use Rattle.k_moves.specs.Views.{IsViewed, ShowsCall, ShowsContext, carrier_view, first_by, goal_in, told_goal}
use Rattle.k_moves.specs.Switched.{HasLists, IsListable, IsStepped, stepped}
use Rattle.k_moves.proofs.ReadyLists.{AreEmpty, IsFirst, IsListed, Lists, entered_length, entered_runs, entered_same}
use Rattle.k_moves.proofs.ReadyLists.{found_first, list_changed, put_back_length, put_back_runs, put_back_same, uncounted_same}
use Rattle.k_moves.proofs.Switches.{H, V, call_is, own_stepped, run_so}

-- THE WORLD with one own context, the ready lists and the owner of their lock changed

module _ (w : World) (d : ℕ) where
  abbrev With : OwnContext → (ℕ → List ThreadId) → ℕ → World
  With y lists running = record w { own = upd w.own d y; ready_owner = None; lists = lists; running = running }

  own_again : (y : OwnContext) (change : OwnContext → OwnContext) →
      upd (upd w.own d y) d (change (upd w.own d y d)) ≡ upd w.own d (change y)
  own_again y change = ap (λ q. upd (upd w.own d y) d (change q)) (upd_same w.own d y) ∙ upd_twice w.own d y (change y)

  starts_in : (y : OwnContext) (lists : ℕ → List ThreadId) (running : ℕ) →
      rules.start_entered (With y lists running) d ≡ With (rules.start_out y) (rules.entered lists y.start y.start_seen) running
  starts_in y lists running =
      λ z. record w {
        own = own_again y rules.start_out z;
        ready_owner = None;
        lists = rules.entered lists (upd_same w.own d y z).start (upd_same w.own d y z).start_seen;
        running = running;
      }

  uncounts_in : (y : OwnContext) (lists : ℕ → List ThreadId) (running : ℕ) →
      rules.uncounted (With y lists running) d ≡ With (rules.count_out y) lists (running - one_if y.counted)
  uncounts_in y lists running =
      λ z. record w {
        own = own_again y rules.count_out z;
        ready_owner = None;
        lists = lists;
        running = running - one_if (upd_same w.own d y z).counted;
      }

  -- once all is put back, and nobody is taken yet
  abbrev Out : OwnContext → OwnContext
  Out y = rules.count_out (rules.start_out (rules.goal_out y))

  before_is : rules.before_take w d ≡ With (Out (w.own d))
      (rules.entered (rules.put_back w.lists (w.own d).goal (w.own d).goal_seen (w.own d).slice_ended) (w.own d).start
      (w.own d).start_seen) (w.running - one_if (w.own d).counted)
  before_is =
      ap (λ (x : World). rules.uncounted x d) (starts_in (rules.goal_out (w.own d))
      (rules.put_back w.lists (w.own d).goal (w.own d).goal_seen (w.own d).slice_ended) w.running)
      ∙ uncounts_in (rules.start_out (rules.goal_out (w.own d)))
      (rules.entered (rules.put_back w.lists (w.own d).goal (w.own d).goal_seen (w.own d).slice_ended) (w.own d).start
      (w.own d).start_seen) w.running

  -- WHO IS TAKEN
  pub record IsOver (r : Ready) (W : World) : Type 0 where
    pub own : OwnContext
    pub world : W ≡ With own (Lists (switch.taken r)) (switch.taken r).running
    pub stage : own.stage ≡ tokens.Finished
    pub goal : own.goal ≡ goal_in (switch.switched_by r).goal
    pub counted : own.counted ≡ is_some (switch.switched_by r).goal
    pub idle : own.idle ≡ (switch.switched_by r).idle
    pub whole : length (switch.taken r).lists ≡ length r.lists

  -- what a switch makes of the lists, by whom it finds
  abbrev Taken : Ready → Option Level → Ready
  Taken r o = switch.counted (is_some o) (without_level r o)

  takes : (y : OwnContext) (r : Ready) → length r.lists ≡ 64 → y.goal ≡ None → y.counted ≡ false →
      IsOver r (rules.first_taken (With y (Lists r) r.running) d)
  takes y r size none out = elim (found_first 64 r.lists) [
    | inl x ↦ record {
      own = rules.finished_with y x.who;
      world =
          ap (rules.first_taken_by W d) x.filled ∙ ap (rules.first_taken_of W d x.priority) x.stands
          ∙ (λ z. record w {
            own = own_again y (λ q. rules.finished_with q x.who) z;
            ready_owner = None;
            lists = upd (Lists r) x.priority x.more;
            running = r.running + 1;
          })
          ∙ (λ z. With (rules.finished_with y x.who) (found_lists x z) (sym (found_taken x) z).running);
      stage = refl;
      goal = sym (ap (λ (o : Option Level). goal_in (switch.goal_at o)) x.level);
      counted = sym (ap (λ (o : Option Level). is_some (switch.goal_at o)) x.level);
      idle = sym (ap (λ (o : Option Level). not (is_some o) && (r.running == 0)) x.level);
      whole = ap (λ (q : Ready). length q.lists) (found_taken x) ∙ length-set r.lists x.priority x.more;
    }
    | inr x ↦ record {
      own = rules.finished_without y (r.running == 0);
      world =
          ap (rules.first_taken_by W d) x.filled ∙ (λ z. record w {
            own =
                own_again y (λ q. rules.finished_without q (r.running == 0)) z;
            ready_owner = None;
            lists = Lists r;
            running = r.running;
          }) ∙ (λ z. With (rules.finished_without y (r.running == 0)) (Lists (sym (none_taken x) z))
          (sym (none_taken x) z).running);
      stage = refl;
      goal = none ∙ sym (ap (λ (o : Option Level). goal_in (switch.goal_at o)) x.level);
      counted = out ∙ sym (ap (λ (o : Option Level). is_some (switch.goal_at o)) x.level);
      idle = sym (ap (λ (o : Option Level). not (is_some o) && (r.running == 0)) x.level);
      whole = ap (λ (q : Ready). length q.lists) (none_taken x);
    }
  ]
    where
      W : World
      W = With y (Lists r) r.running

      found_taken : (x : IsFirst 64 r.lists) → switch.taken r ≡ record (with_list r x.priority x.more) { running = r.running + 1 }
      found_taken x =
          ap (Taken r) x.level ∙ ap (λ es. record (with_list r x.priority (drop 1 es)) { running = r.running + 1 }) x.stands

      found_lists : (x : IsFirst 64 r.lists) → upd (Lists r) x.priority x.more ≡ Lists (switch.taken r)
      found_lists x =
          sym (list_changed r x.priority x.more (subst (λ m. x.priority < m) (sym size) x.inside))
          ∙ ap Lists (sym (found_taken x))

      none_taken : AreEmpty 64 r.lists → switch.taken r ≡ r
      none_taken x = ap (Taken r) x.level

-- THE STEP

module _ (w : World) (c : SwitchCall) (own : OwnContext) (back started : Option Goal) (r : Ready) where
  listed_as : (g : Option Goal) → IsListable g → (n : ℕ) → n ≡ 64 → IsListed n g
  listed_as None h n e = tt
  listed_as (Some g) h n e = subst (λ m. g.priority < m) (sym e) h

  -- before one is taken, the lists are these
  abbrev pub Full : Ready
  Full = switch.filled c back started r

  full_lists : ShowsCall c own → back ≡ told_goal own.goal own.goal_seen →
      started ≡ told_goal (first_by own.start) own.start_seen → HasLists r w → IsListable back → IsListable started →
      rules.entered (rules.put_back w.lists own.goal own.goal_seen own.slice_ended) own.start own.start_seen ≡ Lists Full
  full_lists call b s have low high =
      (λ z. rules.entered (rules.put_back (have.lists z) own.goal own.goal_seen (call.slice_ended z)) own.start own.start_seen)
      ∙ ap (λ l. rules.entered (rules.put_back (list_of l) own.goal own.goal_seen c.slice_ended) own.start own.start_seen)
      (sym (uncounted_same r c.counted).1) ∙ ap (λ f. rules.entered f own.start own.start_seen)
      (put_back_same Less own.goal own.goal_seen c.slice_ended
      (subst (IsListed (length Less.lists)) b (listed_as back low (length Less.lists) size)))
      ∙ entered_same (switch.put_back c.slice_ended (told_goal own.goal own.goal_seen) Less) own.start own.start_seen
      (subst (IsListed (length (switch.put_back c.slice_ended (told_goal own.goal own.goal_seen) Less).lists)) s
      (listed_as started high _ (put_back_length Less (told_goal own.goal own.goal_seen) c.slice_ended ∙ size)))
      ∙ (λ z. Lists (switch.entered (sym s z) (switch.put_back c.slice_ended (sym b z) Less)))
    where
      Less : Ready
      Less = switch.uncounted c.counted r

      size : length Less.lists ≡ 64
      size = ap length (uncounted_same r c.counted).1 ∙ have.whole

  full_running : ShowsCall c own → HasLists r w → w.running - one_if own.counted ≡ Full.running
  full_running call have =
      (λ z. have.running z - one_if (call.counted z)) ∙ (uncounted_same r c.counted).0
      ∙ sym (put_back_runs (switch.uncounted c.counted r) back c.slice_ended)
      ∙ sym (entered_runs (switch.put_back c.slice_ended back (switch.uncounted c.counted r)) started)

  full_length : HasLists r w → length Full.lists ≡ 64
  full_length have =
      entered_length (switch.put_back c.slice_ended back (switch.uncounted c.counted r)) started
      ∙ put_back_length (switch.uncounted c.counted r) back c.slice_ended ∙ ap length (uncounted_same r c.counted).1 ∙ have.whole

module _ (script : Script) (w : World) (k : CarrierSeen) (n d e f : ℕ) (c : SwitchCall) (s : ThreadStep)
    (viewed : IsViewed w k) where
  pub releases : (back started : Option Goal) (r : Ready) →
      ask_of k ≡ Run (H script w k n d e f c s viewed (location.Locked (locked.ReleaseReady back started) r)) →
      ShowsContext w k.table n (V script w k n d e f c s viewed (location.Locked (locked.ReleaseReady back started) r)) →
      HasLists r w → IsListable back → IsListable started →
      IsStepped w (carriers.carrier_step w k.number s) k (resumed (asked script k)
      (answers.Section (answer.Told told.Released))) n (stepped script
      (V script w k n d e f c s viewed (location.Locked (locked.ReleaseReady back started) r))
      (answer.Told told.Released)) None r (switch.taken (switch.filled c back started r))
  releases back started r asks shows have low high =
      own_stepped script w k n d e f c s viewed (resumed (asked script k)
      (answers.Section (answer.Told told.Released))) L _ _ over.own None (Lists (switch.taken F)) (switch.taken F).running r
      (switch.taken F) asks shows (run_so script w k n d e f c s viewed L asks shows ∙ ap (λ x. rules.first_taken x d) before
      ∙ over.world) (ap (λ a. carrier_view
      (resumed (asked_by script k a) (answers.Section (answer.Told told.Released)))) asks)
      (record {
        stage = over.stage;
        call = λ z. absurd (let q : tokens.is_open tokens.Finished ≡ true =
            ap tokens.is_open (sym over.stage) ∙ z in cc);
        at = (over.goal, over.counted, over.idle);
      })
      (λ _. record { lists = refl; whole = over.whole ∙ full_length w c own back started r have; running = refl })
    where
      L : SwitchLocation
      L = location.Locked (locked.ReleaseReady back started) r

      F : Ready
      F = switch.filled c back started r

      own : OwnContext
      own = w.own d

      call : ShowsCall c (w.own d)
      call = call_is script w k n d e f c s viewed L asks shows refl

      before : rules.before_take w d ≡ With w d (Out w d (w.own d)) (Lists F) F.running
      before =
          before_is w d ∙ (λ z. With w d (Out w d (w.own d))
          (full_lists w c own back started r call shows.1.at.0 shows.1.at.1 have low high z)
          (full_running w c own back started r call have z))

      over : IsOver w d F (rules.first_taken (With w d (Out w d (w.own d)) (Lists F) F.running) d)
      over = takes w d (Out w d (w.own d)) F (full_length w c own back started r have) refl refl
