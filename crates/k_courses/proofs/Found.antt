-- The section in hand is held up while a mark stands: the mark goes on standing, and has the owner that was found as a link.
use Rattle.std.proofs.Common.{◌≡◌, ◌≢◌, ℕ, Bool, true, false, cond, refl, sym, ap, ◌∙◌, subst, Option, Some, None, List, [], ◌∷◌}
use Rattle.std.proofs.Common.{inl, inr, arith}
use Rattle.std.specs.Prelude.{◌||◌, ◌==◌, if◌then◌else◌, is_some, nat_lt}
use Rattle.std.specs.List.{AllByRecursion}
use Rattle.std.proofs.lemmas.Bool.Decides.{eqb_tells}
use Rattle.std.proofs.lemmas.Grind.{common_steps}
use Rattle.k_lists.proofs.All.{all_weaker}
use Rattle.k_locks.specs.declared.locks.Lock.{Lock}
use Rattle.k_locks.specs.declared.steps.Answer.{Answer}
use Rattle.k_ids.specs.declared.state_word.StateWord.{StateWord}
use Rattle.k_ids.specs.declared.threads.ThreadId.{ThreadId}
use Rattle.k_locks.specs.Asks.{Want, want_of}
use Rattle.k_locks.specs.Locks.{lowest_held}
use Rattle.k_model.proofs.Maps.{upd_same}
use Rattle.k_threads.specs.declared.destroy.DestroyCall.{DestroyCall}
use Rattle.k_threads.specs.declared.destroy.DestroyLocked.TheVariants as destroy_locked
use Rattle.k_threads.specs.declared.destroy.DestroyRelease.TheVariants as destroy_release
use Rattle.k_threads.specs.DestroyTable as destroy
use Rattle.k_caller.specs.declared.activity.Activity.{Activity}
use Rattle.k_caller.specs.declared.activity.Activity.TheVariants as activity
use Rattle.k_caller.specs.declared.thread.ThreadLocation.TheVariants as location
use Rattle.k_caller.specs.Threads.{ThreadSeen, begun_at}
use Rattle.k_switch.specs.declared.switch.SwitchCall.{SwitchCall}
use Rattle.k_script.specs.Script.{Script}
use Rattle.k_context.specs.declared.owner.Owner.{Owner}
use Rattle.k_context.specs.Contexts.{Carrier, ContextSeen, Thread, asked, begun, locks_of, owner_of, step_of}
use Rattle.k_carrier.specs.declared.marks.Want as marked
use Rattle.k_carrier.specs.Asked.{Run, ask_of, lock_acquired}
use Rattle.k_carrier.specs.Conditions.{IsOfNumber}
use Rattle.k_carrier.specs.Resumed.{help_after, told_in}
use Rattle.k_carrier.specs.Rules.{holds_any}
use Rattle.k_carrier.specs.Running.{runner_of}
use Rattle.k_carrier.specs.Seen.{HandSeen}
use Rattle.k_world.specs.Lawful.{links_of}
use Rattle.k_world.specs.Marks.{HeldUp, course_by, mark_at}
use Rattle.k_world.specs.Steps.{moved}
use Rattle.k_world.specs.Worlds.{World, carrier_at}
use Rattle.k_board.specs.Boards.{At, Board, Context, InDestroy, Nowhere}
use Rattle.k_board.specs.Steps.{destroy_board}
use Rattle.k_board.specs.Words.{Programs}
use Rattle.k_bound.specs.Chains.{IsMarkSound}
use Rattle.k_bound.specs.Hands.{live_help}
use Rattle.k_bound.specs.Sections.{SectionLaws}
use Rattle.k_bound.specs.Waits.{OwnerFound, WaitMark, is_for, owner_found}
use Rattle.k_bound.proofs.Founds.{is_for-refl}
use Rattle.k_good.specs.Locks.{locks_at}
use Rattle.k_good.proofs.Owners.{Named}
use Rattle.k_places.specs.Contexts.{IsShown, ShowsContext, at_in}
use Rattle.k_places.specs.Memory.{Memory}
use Rattle.k_places.specs.Shows.{ShowsBoard, context_by, context_in}
use Rattle.k_plays.specs.Scripts.{ranged_programs}
use Rattle.k_invariant.specs.Invariant.{Holds}
use Rattle.k_invariant.proofs.Waits.{kept as invariant_kept}
use Rattle.k_aligned.specs.Aligned.{found_in}
use Rattle.k_sections.specs.Kept.{IsGoodSituation}
use Rattle.k_sections.specs.Situations.{Situation, holder_of, kept_want, want_at, wants_of}
use Rattle.k_sections.specs.Stepping.{IsStep, begins, board_after, keeps, removed_by, steps}
use Rattle.k_sections.proofs.Moved.{holds_some}
use Rattle.k_sections.proofs.RestLaws.{laws}
use Rattle.k_sections.proofs.Tables.{ThreadTables}
use Rattle.k_turns.specs.Spelled.{ask_at, ask_in}
use Rattle.k_waits.specs.Steps.{IsInside, StepsTo}
use Rattle.k_waits.specs.Waits.{IsGone, IsSameOwner, IsWaitingFor, no_call, sections_of}
use Rattle.k_waits.specs.Words.{ShowsMark, found_in_help, number_of, want_in}
use Rattle.k_waits.proofs.Asking.{asks_remove, wants_shown}
use Rattle.k_waits.proofs.HeldUp.{kept_still, still}
use Rattle.k_waits.proofs.Holders.{empty_holder}
use Rattle.k_waits.proofs.Published.{locks_shown}
use Rattle.k_onward.specs.Stepping.{IsStepping}
use Rattle.k_onward.proofs.Asks.{IsRemoving, removing}
use Rattle.k_onward.proofs.Carriers.{after}
use Rattle.k_courses.proofs.Held.{HoldsUp, IsAway, IsHeld, is_held, others_same, stays_there}
use Rattle.k_onward.proofs.Stepping.{A, M, N, V, found, found_now, heard, maps, shown, shows_then, stands, steps_on}

-- one that asks for something it may have to wait for isn't between two calls
activity_asks : (script : Script) (t : ThreadSeen) (a : Activity) (want : Want) → want_of (ask_in t.id t.own a) ≡ Some want →
    begun_at script t a ≡ t
activity_asks script t (activity.Alone p) want e = absurd (grind (arith, common_steps, e))
activity_asks script t (activity.Send q) want e = refl
activity_asks script t (activity.Receive q) want e = refl
activity_asks script t (activity.Create q) want e = refl
activity_asks script t (activity.Destroy q) want e = refl

pub asking_begun : (script : Script) (v : ContextSeen) (want : Want) → want_of (ask_at v) ≡ Some want → begun script v ≡ v
asking_begun script (Carrier k) want e = refl
asking_begun script (Thread t) want e = ap Thread (activity_asks script t t.activity want e)

pub number_is : (table n : ℕ) (v : ContextSeen) → IsOfNumber table n v → number_of table (owner_of v) ≡ n
number_is table n (Thread t) e = e
number_is table n (Carrier k) e = e

pub some_held : (ls : List (Option Lock)) → lowest_held ls ≢ None → holds_any ls ≡ true
some_held [] ne = absurd (ne refl)
some_held (Some l ∷ ls) ne = refl
some_held (None ∷ ls) ne = some_held ls ne

-- A REMOVAL that goes on isn't to be made any more

abbrev is_removing : At → Bool
is_removing (InDestroy c (destroy.Locked destroy_locked.RemoveContext)) = true
is_removing p = false

visits : (c : DestroyCall) (n : ℕ) → is_removing (InDestroy c (destroy.Locked (destroy.visit_number c n))) ≡ false
visits c n = by (nat_lt n c.count)
  where
    by : (q : Bool) → is_removing (InDestroy c (destroy.Locked
        (if q then destroy_locked.AcquireVisitedLock n else destroy_locked.Release destroy_release.Killed))) ≡ false
    by true = refl
    by false = refl

removes_on : (g : Programs) (calls : Board → ℕ → SwitchCall) (b : Board) (i : ℕ) (c : DestroyCall) →
    (b.context i).at ≡ InDestroy c (destroy.Locked destroy_locked.RemoveContext) → (b.context c.who.number).at ≡ Nowhere →
    is_removing ((board_after g calls b i (b.context i).at).context i).at ≡ false
removes_on g calls b i c at away =
    ap (λ p. is_removing ((board_after g calls b i p).context i).at) at
    ∙ ap (λ p. is_removing ((destroy_board g b i (b.context i) c (destroy.Locked destroy_locked.RemoveContext)
    (removed_by (lowest_held (locks_at p)))).context i).at) away
    ∙ ap (λ (z : Context). is_removing z.at) (upd_same _ i _) ∙ visits c (destroy.but_victim c 0)

shown_removing : (word : StateWord) (n : ℕ) (v : ContextSeen) (id : ThreadId) (r : IsRemoving v id) (c : Context) →
    ShowsContext word n (Some v) c → is_removing c.at ≡ true
shown_removing word n v id r c show = by (word.version == r.thread.id.version) refl
  where
    here : IsShown word n r.thread c
    here = subst (λ z. ShowsContext word n (Some z) c) r.is show

    by : (q : Bool) → (word.version == r.thread.id.version) ≡ q → is_removing c.at ≡ true
    by true q =
        let at : c.at ≡ InDestroy r.section.call (destroy.Locked destroy_locked.RemoveContext) =
        ap (λ (z : Context). z.at) here.context ∙ rw q (ap at_in r.doing ∙ ap (InDestroy r.section.call) r.at) in
        ap is_removing at
    by false q =
        let doing = (here.coming (ap (λ (z : Context). z.at) here.context ∙ rw q refl)).doing in
        let no : activity.Destroy r.section ≡ activity.Alone (location.Between None) = sym r.doing ∙ doing in
        absurd cc

module _ (tables : ThreadTables) (script : Script) (w : World) (s : IsStepping script w) (x : HandSeen)
    (e : ask_of (carrier_at w 0) ≡ Run x) (v : ContextSeen) (wanted : marked.Want) (j : ℕ)
    (held : course_by (asked (V script w s x e)) (step_of (V script w s x e)) (A script w s x e) ≡ HeldUp v wanted j) where
  abbrev pub W : Want
  W = want_in wanted

  abbrev pub Found : OwnerFound
  Found = owner_found j (want_in wanted)

  H : IsHeld script w s x e v wanted j held
  H = is_held script w s x e v wanted j held

  -- whom the carrier helps then
  pub helps_then : found_in_help (carrier_at (moved script 0 w) 0).help ≡ Some (owner_found j (want_in wanted))
  helps_then =
      ap (λ k. found_in_help k.help) (after script w s.one (Run x) e)
      ∙ ap (λ (a : Answer). found_in_help (help_after (carrier_at w 0).help (lock_acquired (step_of (begun script x.value)))
      (told_in a)))
      (heard script w s x e) ∙ H.help (carrier_at w 0).help

  -- the context that holds it up has locks
  pub holder_held : (b : Board) → ShowsBoard script w b → Named b → HoldsUp script w s x e v wanted j held → (c : ContextSeen) →
      found_in w j ≡ Some c → holds_any (locks_of c) ≡ true
  holder_held b sh named up c f =
      let holder = up (M script w s x e) (λ n. refl) (λ n. refl) b sh.shows named in
      let show = subst (λ (o : Option ContextSeen). ShowsContext (b.seen j).word j o (b.context j)) f (sh.shows.contexts j) in
      ap holds_any (sym (locks_shown (b.seen j).word j c (b.context j) show))
      ∙ some_held (locks_at (b.context j).at) (holds_some b named j (want_in wanted) holder)

  pub kernel_laws : SectionLaws Situation (sections_of script) (IsGoodSituation (Holds script))
  kernel_laws = laws tables (ranged_programs script) (λ z n. no_call) (Holds script) (invariant_kept script s.limits)

  module _ (k : ℕ) (o : Owner) (m : IsWaitingFor script w k o) (same : begun script x.value ≡ x.value)
      (unremoved : m.situation.removed x.context ≡ None) where
    abbrev pub B : Board
    B = m.situation.board

    abbrev Ctx : Context
    Ctx = m.situation.board.context x.context

    abbrev pub R : ℕ
    R = number_of script.table o

    pub named : Named B
    named = m.good.board.holds.proper.good.locks

    wants_here : want_at Ctx.own Ctx.at ≡ Some (want_in wanted)
    wants_here =
        wants_shown (B.seen x.context).word x.context x.value Ctx (shown script w s x e B m.shows m.good.board)
        ∙ ap (λ z. want_of (ask_at z)) (sym same) ∙ H.wants

    pub wants_it : wants_of m.situation x.context ≡ Some (want_in wanted)
    wants_it = ap (λ r. kept_want r (want_at Ctx.own Ctx.at)) unremoved ∙ wants_here

    inside : IsInside Ctx.at
    inside q at = let no : None ≡ Some (want_in wanted) = sym (ap (want_at Ctx.own) at) ∙ wants_here in absurd cc

    -- WHAT STAYS

    pub found_same : (i : ℕ) → found_in (moved script 0 w) i ≡ found_in w i
    found_same i = elim (eqb_tells i x.context) [
      | inr ne ↦ others_same script w s x e v wanted j held i ne.1
      | inl here ↦
          ap (found_in (moved script 0 w)) here.1 ∙ found_now script w s x e
          ∙ ap Some (stays_there script w s x e v wanted j held ∙ same) ∙ sym (found script w s x e)
          ∙ ap (found_in w) (sym here.1)
    ]

    pub owners_same : AllByRecursion (IsSameOwner script (moved script 0 w)) (links_of k w.waits.links)
    owners_same =
        all_weaker (IsSameOwner script w) (IsSameOwner script (moved script 0 w))
        (λ link q u f. q u (sym (found_same (number_of script.table link.owner)) ∙ f)) (links_of k w.waits.links) m.same

    gone_same : (want : Option Want) → m.situation.removed R ≡ Some want → IsGone script (moved script 0 w) B o
    gone_same want q =
        let g = m.gone want q in
        record { absent = λ u f. g.absent u (sym (found_same R) ∙ f); past = g.past }

    -- the mark goes on standing, with these links, on the same board
    pub stands_on : ShowsBoard script (moved script 0 w) m.situation.board → (mark : WaitMark) →
        runner_of (carrier_at (moved script 0 w) 0) ≡ runner_of (carrier_at w 0) →
        ((carrier_at (moved script 0 w) 0).switching || is_some (carrier_at (moved script 0 w) 0).goal)
        ≡ ((carrier_at w 0).switching || is_some (carrier_at w 0).goal) →
        ShowsMark script.table k (mark_at (moved script 0 w).waits.marks k) (moved script 0 w).waits.links mark →
        IsMarkSound (sections_of script) m.situation (number_of script.table o)
        (live_help (sections_of script) m.situation (Some (owner_found j (want_in wanted)))) (Some mark) →
        AllByRecursion (IsSameOwner script (moved script 0 w)) (links_of k (moved script 0 w).waits.links) →
        IsWaitingFor script (moved script 0 w) k o
    stands_on sh mark runner works shows sound owners = record {
      situation = m.situation;
      shows = sh;
      good = m.good;
      gone = gone_same;
      runner = runner ∙ m.runner;
      works = works ∙ m.works;
      mark = mark;
      shown = shows;
      sound =
          subst (λ f. IsMarkSound (sections_of script) m.situation R (live_help (sections_of script) m.situation f) (Some mark))
          (sym helps_then) sound;
      same = owners;
    }

    turn : StepsTo script (N script w s x e) B x.context
    turn = steps_on script w s x e B m.shows m.good.board tables inside

    shows_by : turn.board ≡ B → ShowsBoard script (moved script 0 w) B
    shows_by q = subst (ShowsBoard script (moved script 0 w)) q (shows_then script w s x e turn.board turn.shows)

    -- the board, and who is helped, where somebody holds it up
    module _ (up : HoldsUp script w s x e v wanted j held) where
      pub holder_here : holder_of B (want_in wanted) ≡ Some j
      holder_here = up (M script w s x e) (λ n. refl) (λ n. refl) B m.shows.shows named

      board_same : turn.board ≡ B
      board_same = by turn.step
        where
          by : IsStep (ranged_programs script) (λ z n. no_call) B x.context turn.board → turn.board ≡ B
          by (steps q) = q ∙ still (ranged_programs script) B x.context j (λ z n. no_call) (want_in wanted) wants_here holder_here
          by (keeps c at q) = q ∙ kept_still (ranged_programs script) B x.context j c _ c.who at refl
          by (begins c at q) =
              let no : None ≡ Some (want_in wanted) = sym (ap (want_at Ctx.own) at) ∙ wants_here in absurd cc

      pub shows_held : ShowsBoard script (moved script 0 w) m.situation.board
      shows_held = shows_by board_same

      pub live_held : live_help (sections_of script) m.situation (Some (owner_found j (want_in wanted)))
          ≡ Some (owner_found j (want_in wanted))
      live_held =
          ap (λ (q : Bool). cond q (Some (owner_found j (want_in wanted))) None)
          (is_for-refl (holder_of B (want_in wanted)) j holder_here)

    -- and where nobody does, since there is no such context any more
    module _ (away : IsAway script w s x e v wanted j held) where
      none_holds : holder_of B (want_in wanted) ≡ None
      none_holds =
          ap (holder_of B) (sym away.wants) ∙ empty_holder script (M script w s x e) B named m.shows.shows j away.empty

      live_none : live_help (sections_of script) m.situation (Some (owner_found j (want_in wanted))) ≡ None
      live_none = ap (λ (q : Option ℕ). cond (is_for q j) (Some (owner_found j (want_in wanted))) None) none_holds

      removal : IsRemoving (V script w s x e) away.id
      removal = removing (V script w s x e) away.id (asks_remove (V script w s x e) away.id away.step)

      at : Ctx.at ≡ InDestroy removal.section.call (destroy.Locked destroy_locked.RemoveContext)
      at =
          stands script w s x e B m.shows m.good.board removal.thread (sym same ∙ removal.is)
          ∙ ap at_in removal.doing ∙ ap (InDestroy removal.section.call) removal.at

      nowhere : (B.context removal.section.call.who.number).at ≡ Nowhere
      nowhere =
          ap (λ n. (B.context n).at) (ap (λ (z : ThreadId). z.number) removal.who ∙ away.number)
          ∙ subst (λ (c : Option ContextSeen). ShowsContext (B.seen j).word j c (B.context j))
          (ap (context_by (M script w s x e).slot (M script w s x e).hand j) away.empty) (m.shows.shows.contexts j)

      still_removing : is_removing (turn.board.context x.context).at ≡ true
      still_removing =
          shown_removing (turn.board.seen x.context).word x.context (V script w s x e) away.id removal
          (turn.board.context x.context)
          (subst (λ (c : Option ContextSeen). ShowsContext (turn.board.seen x.context).word x.context c
          (turn.board.context x.context))
          (ap (λ (n : Memory). context_in n.context n.slot n.hand x.context) (sym (maps script w s x e))
          ∙ found_now script w s x e ∙ ap Some (stays_there script w s x e v wanted j held)) (turn.shows.contexts x.context))

      board_away : turn.board ≡ B
      board_away = by turn.step
        where
          by : IsStep (ranged_programs script) (λ z n. no_call) B x.context turn.board → turn.board ≡ B
          by (steps q) =
              let no : true ≡ false = sym still_removing ∙ ap (λ (z : Board). is_removing (z.context x.context).at) q
              ∙ removes_on (ranged_programs script) (λ z n. no_call) B x.context removal.section.call at nowhere in
              absurd cc
          by (keeps c place q) = q ∙ kept_still (ranged_programs script) B x.context j c _ c.who place refl
          by (begins c place q) =
              let no : None ≡ Some (want_in wanted) = sym (ap (want_at Ctx.own) place) ∙ wants_here in absurd cc

      pub shows_away : ShowsBoard script (moved script 0 w) m.situation.board
      shows_away = shows_by board_away

      pub live_away : (mark : WaitMark) → IsMarkSound (sections_of script) m.situation R None (Some mark) →
          IsMarkSound (sections_of script) m.situation R
          (live_help (sections_of script) m.situation (Some (owner_found j (want_in wanted)))) (Some mark)
      live_away mark = subst (λ f. IsMarkSound (sections_of script) m.situation R f (Some mark)) (sym live_none)
