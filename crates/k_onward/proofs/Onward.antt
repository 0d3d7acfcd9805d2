-- The section in hand goes on, and is helped: the mark goes on standing, with one step more at most.
use Rattle.std.proofs.Common.{◌≡◌, ℕ, ◌==◌, ◌≤◌, true, false, refl, sym, ap, ◌∙◌, subst, Option, Some, None}
use Rattle.std.proofs.Common.{List, arith, inl, inr}
use Rattle.std.specs.Prelude.{◌||◌, is_some}
use Rattle.std.specs.List.{AllByRecursion}
use Rattle.std.proofs.lemmas.Bool.{eq-eqb}
use Rattle.std.proofs.lemmas.Bool.Decides.{eqb_tells}
use Rattle.k_ids.specs.declared.context_word.ContextWord.TheVariants.{Clean, Empty}
use Rattle.k_ids.specs.declared.state_word.StateWord.{StateWord}
use Rattle.k_ids.specs.declared.threads.ThreadId.{ThreadId}
use Rattle.k_ids.specs.ContextWords.{context_bits, context_word_of}
use Rattle.k_ids.proofs.ContextSpelled.{context-read}
use Rattle.k_model.proofs.Maps.{upd_other, upd_same}
use Rattle.k_locks.specs.declared.locks.Lock.{Lock}
use Rattle.k_locks.specs.declared.locks.Lock.TheVariants as lock
use Rattle.k_locks.specs.declared.steps.Answer.{Answer}
use Rattle.k_locks.specs.declared.steps.Answer.TheVariants as answered
use Rattle.k_locks.specs.declared.steps.Step.{Step}
use Rattle.k_locks.specs.declared.steps.Step.TheVariants as step
use Rattle.k_locks.specs.declared.steps.Told.{Told}
use Rattle.k_locks.specs.declared.steps.Told.TheVariants as told
use Rattle.k_locks.specs.Asks.{Ask, Want, want_of}
use Rattle.k_locks.specs.Asks as asks
use Rattle.k_locks.specs.Hands.{nothing}
use Rattle.k_locks.specs.Locks.{lowest_held}
use Rattle.k_locks.specs.Steps.{becomes, word_of}
use Rattle.k_threads.specs.declared.destroy.DestroyCall.{DestroyCall}
use Rattle.k_threads.specs.declared.destroy.DestroyLocked.TheVariants as destroy_locked
use Rattle.k_threads.specs.DestroyTable as destroy
use Rattle.k_caller.specs.declared.activity.Activity.{Activity}
use Rattle.k_caller.specs.declared.activity.Activity.TheVariants as activity
use Rattle.k_switch.specs.declared.switch.Switch.{Switch}
use Rattle.k_script.specs.Script.{Script}
use Rattle.k_context.specs.declared.owner.Owner.{Owner}
use Rattle.k_context.specs.Contexts.{Carrier, ContextSeen, Thread, asked, begun, step_of}
use Rattle.k_carrier.specs.declared.marks.Link.{Link}
use Rattle.k_carrier.specs.declared.moves.Help.{Help}
use Rattle.k_carrier.specs.Asked.{Run, ask_of}
use Rattle.k_carrier.specs.Resumed.{help_after, told_in}
use Rattle.k_carrier.specs.Rules.{holds_any}
use Rattle.k_carrier.specs.Running.{runner_of}
use Rattle.k_carrier.specs.Seen.{HandSeen}
use Rattle.k_world.specs.Lawful.{links_of}
use Rattle.k_world.specs.Marks.{Course, Onward, course_by, mark_at}
use Rattle.k_world.specs.Steps.{moved}
use Rattle.k_world.specs.Worlds.{World, carrier_at}
use Rattle.k_board.specs.Boards.{At, Board, Context, InDestroy, Nowhere}
use Rattle.k_board.specs.Steps.{destroy_board}
use Rattle.k_bound.specs.Chains.{IsMarkSound}
use Rattle.k_bound.specs.Hands.{live_help}
use Rattle.k_bound.specs.Sections.{GoesOn, SectionLaws}
use Rattle.k_bound.specs.Waits.{WaitMark, allowed, is_link_owner, mark_counted}
use Rattle.k_bound.proofs.Steps.{help_goes_on}
use Rattle.k_good.specs.Locks.{locks_at}
use Rattle.k_places.specs.Contexts.{ShowsContext, at_in, switch_at}
use Rattle.k_places.specs.Memory.{Memory, with_word, word_in}
use Rattle.k_places.specs.Shows.{ShowsBoard, context_by, context_in}
use Rattle.k_plays.specs.Scripts.{ranged_programs}
use Rattle.k_invariant.specs.Invariant.{Holds}
use Rattle.k_invariant.proofs.Waits.{kept as invariant_kept}
use Rattle.k_aligned.specs.Aligned.{found_in}
use Rattle.k_sections.specs.Kept.{IsGoodSituation}
use Rattle.k_sections.specs.Situations.{Situation, kept_want, want_at, wants_of}
use Rattle.k_sections.specs.Stepping.{IsStep, begins, board_after, if_removed, keeps}
use Rattle.k_sections.specs.Stepping.{removed_after, removes, situation_after, steps}
use Rattle.k_sections.proofs.Answered.{none_some}
use Rattle.k_sections.proofs.RestLaws.{laws}
use Rattle.k_sections.proofs.Tables.{ThreadTables}
use Rattle.k_turns.specs.Spelled.{ask_at}
use Rattle.k_waits.specs.Steps.{StepsTo, found_on}
use Rattle.k_waits.specs.Waits.{IsGone, IsSameOwner, IsWaitingFor, WaitsHold, no_call, sections_of}
use Rattle.k_waits.specs.Words.{ShowsMark, found_in_help, number_of}
use Rattle.k_waits.proofs.Asking.{step_asks, wants_shown}
use Rattle.k_waits.proofs.Courses.{Courses, IsUnheld, kept as kept_there, odd, onward, owned, taken}
use Rattle.k_waits.proofs.HeldUp.{kept_still}
use Rattle.k_waits.proofs.Holders.{clean_there}
use Rattle.k_waits.proofs.Others.{version_grows}
use Rattle.k_waits.proofs.Published.{by_made}
use Rattle.k_onward.proofs.Asks.{is_free, is_version}
use Rattle.k_onward.proofs.Helped.{B, F, any, help_is, named, same, sound, stands_locked, turn, unremoved}
use Rattle.k_onward.proofs.Others.{AreNoEarlier, gone_then, past_then, places_later, same_then}
use Rattle.k_onward.proofs.Requesters.{requester_past}
use Rattle.k_onward.specs.Stepping.{IsStepping}
use Rattle.k_onward.proofs.Stepping.{A, M, N, V, course, maps, shown, shows_then}

-- WHAT A STEP THAT GOES ON TELLS

onward_unheld : (m : Memory) (u v : ContextSeen) (s : Step) (c : Course) → Courses m u s c → c ≡ Onward v → IsUnheld m s
onward_unheld m u v s _ (onward h) e = h
onward_unheld m u v s _ (owned l o q word) e = absurd cc
onward_unheld m u v s _ (kept_there id version q word) e = absurd cc
onward_unheld m u v s _ (odd id q strange) e = absurd cc
onward_unheld m u v s _ (taken id carrier version q word) e = absurd cc

told_help : (u v : ContextSeen) (s : Step) (t : Told) (p : Option Help) (l : Option Lock) →
    course_by u s (answered.Told t) ≡ Onward v → help_after p l (Some t) ≡ p
told_help u v s (told.Owned i) p l e = absurd cc
told_help u v s (told.Holds i) p l e = absurd cc
told_help u v s (told.Taken i c) p l e = refl
told_help u v s (told.Loaded bits) p l e = refl
told_help u v s told.Stored p l e = refl
told_help u v s told.Won p l e = refl
told_help u v s (told.Lost bits) p l e = refl
told_help u v s told.Released p l e = refl
told_help u v s told.Placed p l e = refl
told_help u v s told.Removed p l e = refl

-- whom it helps stays
pub onward_help : (u v : ContextSeen) (s : Step) (a : Answer) (p : Option Help) (l : Option Lock) →
    course_by u s a ≡ Onward v → help_after p l (told_in a) ≡ p
onward_help u v s (answered.Got g) p l e = refl
onward_help u v s (answered.Told t) p l e = told_help u v s t p l e

-- a context that is found stands somewhere
switch_there : (o : Option Switch) → switch_at o ≡ Nowhere → ⊥
switch_there None e = absurd cc
switch_there (Some s) e = absurd cc

activity_there : (a : Activity) → at_in a ≡ Nowhere → ⊥
activity_there (activity.Alone p) e = absurd cc
activity_there (activity.Send s) e = absurd cc
activity_there (activity.Receive s) e = absurd cc
activity_there (activity.Create s) e = absurd cc
activity_there (activity.Destroy s) e = absurd cc

pub there : (word : StateWord) (n : ℕ) (v : ContextSeen) (c : Context) → ShowsContext word n (Some v) c → c.at ≡ Nowhere → ⊥
there word n (Thread t) c h = by_made word n t c h (λ p a. p ≡ Nowhere → ⊥) activity_there (λ p e. absurd cc)
there word n (Carrier k) c h = λ e. switch_there k.switch (sym h ∙ e)

-- WHO REMOVES

want_removed : (a : Ask) (n : ℕ) → want_of a ≡ Some (asks.Context n) → (id : ThreadId) × (a ≡ asks.Remove id) × (id.number ≡ n)
want_removed (asks.Remove id) n e = (id, refl, cc)
want_removed (asks.Acquire lock.Table) n e = absurd cc
want_removed (asks.Acquire (lock.Thread k)) n e = absurd cc
want_removed (asks.Acquire lock.Ready) n e = absurd cc
want_removed (asks.Load k) n e = absurd cc
want_removed (asks.LoadMail k) n e = absurd cc
want_removed (asks.Post k m) n e = absurd cc
want_removed (asks.Exchange k old new) n e = absurd cc
want_removed (asks.Release k) n e = absurd cc
want_removed (asks.Place id program priority) n e = absurd cc

-- the destroy that removes this number's context
record IsRemoval (p : At) (n : ℕ) : Type 0 where
  pub call : DestroyCall
  pub at : p ≡ InDestroy call (destroy.Locked destroy_locked.RemoveContext)
  pub number : call.who.number ≡ n

removed_number : (n m : ℕ) (o : Option Lock) → if_removed n o ≡ Some m → n ≡ m
removed_number n m None e = cc
removed_number n m (Some l) e = absurd cc

removal_at : (b : Board) (p : At) (n : ℕ) → removes b p ≡ Some n → IsRemoval p n
removal_at b (InDestroy c (destroy.Locked destroy_locked.RemoveContext)) n e = record {
  call = c;
  at = refl;
  number = removed_number c.who.number n (lowest_held (locks_at (b.context c.who.number).at)) e;
}
removal_at b p n e = absurd cc

module _ (tables : ThreadTables) (script : Script) (w : World) (s : IsStepping script w) (ws : WaitsHold script w) (x : HandSeen)
    (e : ask_of (carrier_at w 0) ≡ Run x) (k : ℕ) (o : Owner) (m : IsWaitingFor script w k o) (p : Help)
    (is : (carrier_at w 0).help ≡ Some p) (v : ContextSeen)
    (goes : course_by (asked (V script w s x e)) (step_of (V script w s x e)) (A script w s x e) ≡ Onward v) where
  abbrev Ctx : Context
  Ctx = (B script w s ws x e k o m p is).context x.context

  abbrev On : Board
  On = B script w s ws x e k o m p is

  abbrev Maps : Memory
  Maps = M script w s x e

  abbrev Then : Memory
  Then = N script w s x e

  unheld : IsUnheld Maps (step_of (V script w s x e))
  unheld = onward_unheld Maps (asked (V script w s x e)) v (step_of (V script w s x e)) _ (course script w s x e) goes

  same_here : begun script x.value ≡ x.value
  same_here = same script w s ws x e k o m p is

  -- what it wants, on the board and by its step
  wants_here : want_at Ctx.own Ctx.at ≡ want_of (ask_at (V script w s x e))
  wants_here =
      wants_shown (On.seen x.context).word x.context x.value Ctx (shown script w s x e On m.shows m.good.board)
      ∙ ap (λ z. want_of (ask_at z)) (sym same_here)

  goes_on : GoesOn (sections_of script) m.situation x.context
  goes_on want owner wq hq =
      let here : want_at Ctx.own Ctx.at ≡ Some want =
      ap (λ r. kept_want r (want_at Ctx.own Ctx.at)) (sym (unremoved script w s ws x e k o m p is)) ∙ wq in
      let none = is_free script w s x e On m.shows.shows (named script w s ws x e k o m p is) unheld want (sym wants_here
      ∙ here) in
      none_some none hq

  -- A CONTEXT THAT IT REMOVES is there no more

  removed_then : (id : ThreadId) → step_of (V script w s x e) ≡ step.Remove id → found_on Then id.number ≡ None
  removed_then id q =
      let n = id.number in
      let old : Maps.context n ≡ context_bits (Clean id.version) = subst (IsUnheld Maps) q unheld in
      let t : (Maps.context n == context_bits (Clean id.version)) ≡ true = eq-eqb (Maps.context n) (context_bits
      (Clean id.version)) old in
      let word : Then.context n ≡ context_bits Empty =
      ap (λ (z : Step). (with_word (word_of z) (becomes x.context z (word_in Maps (word_of z))) Maps).context n) q
      ∙ upd_same Maps.context n _ ∙ rw t refl in
      ap (λ z. context_by Then.slot Then.hand n (context_word_of z)) word
      ∙ ap (context_by Then.slot Then.hand n) (context-read Empty tt)

  removes_it : (n : ℕ) → want_at Ctx.own Ctx.at ≡ Some (asks.Context n) → (id : ThreadId) ×
      (step_of (V script w s x e) ≡ step.Remove id) × (id.number ≡ n)
  removes_it n q =
      let r = want_removed (ask_at (V script w s x e)) n (sym wants_here ∙ q) in
      (r.0, step_asks (V script w s x e) (asks.Remove r.0) nothing r.1, r.2)

  -- THE BOARD AFTER IT

  abbrev Turn : StepsTo script Then On x.context
  Turn = turn script w s ws x e k o m p is tables

  abbrev Exact : Board
  Exact = board_after (ranged_programs script) (λ z n. no_call) On x.context Ctx.at

  -- it isn't a removal that is put off
  not_kept : (c : DestroyCall) → Ctx.at ≡ InDestroy c (destroy.Locked destroy_locked.RemoveContext) →
      Turn.board ≡ destroy_board (ranged_programs script) On x.context Ctx c
      (destroy.Locked destroy_locked.RemoveContext) asks.Kept → ⊥
  not_kept c at q =
      let r = removes_it c.who.number (ap (want_at Ctx.own) at) in
      let id = r.0 in
      let n = id.number in
      let still : Turn.board ≡ On =
      q ∙ kept_still (ranged_programs script) On x.context 0 c (destroy.Locked destroy_locked.RemoveContext) c.who at refl in
      let old : Maps.context n ≡ context_bits (Clean id.version) = subst (IsUnheld Maps) r.1 unheld in
      let word : context_word_of (Maps.context n) ≡ Clean id.version =
      ap context_word_of old ∙ context-read (Clean id.version) (is_version script w s x e id r.1) in
      let rests = clean_there script Maps On (named script w s ws x e k o m p is) m.shows.shows n id.version word in
      let away : (Turn.board.context n).at ≡ Nowhere =
      subst (λ (z : Option ContextSeen). ShowsContext (Turn.board.seen n).word n z (Turn.board.context n)) (removed_then id r.1)
      (Turn.shows.contexts n) in
      there (On.seen n).word n rests.value (On.context n)
      (subst (λ (z : Option ContextSeen). ShowsContext (On.seen n).word n z (On.context n)) rests.found
      (m.shows.shows.contexts n))
      (ap (λ (z : Board). (z.context n).at) (sym still) ∙ away)

  exact : Turn.board ≡ Exact
  exact = by Turn.step
    where
      by : IsStep (ranged_programs script) (λ z n. no_call) On x.context Turn.board → Turn.board ≡ Exact
      by (steps q) = q
      by (keeps c at q) = absurd (not_kept c at q)
      by (begins c at q) =
          let no : false ≡ true = sym (ap (λ z. holds_any (locks_at z)) at) ∙ stands_locked script w s ws x e k o m p is in
          absurd cc

  abbrev Then_situation : Situation
  Then_situation = situation_after (ranged_programs script) (λ z n. no_call) m.situation x.context (m.situation.removed x.context)

  situation_is : Then_situation ≡ record {
    board = Exact;
    removed = removed_after m.situation (removes On Ctx.at);
  }
  situation_is =
      ap (situation_after (ranged_programs script) (λ z n. no_call) m.situation x.context)
      (unremoved script w s ws x e k o m p is)

  board_is : Then_situation.board ≡ Turn.board
  board_is = ap (λ (z : Situation). z.board) situation_is ∙ sym exact

  shows_now : ShowsBoard script (moved script 0 w) Then_situation.board
  shows_now = subst (ShowsBoard script (moved script 0 w)) (sym board_is) (shows_then script w s x e Turn.board Turn.shows)

  up : AreNoEarlier On Then_situation.board
  up = subst (AreNoEarlier On) (sym board_is)
      (λ t. version_grows script s.limits On Turn.board x.context t m.good.board Turn.turn)

  kernel_laws : SectionLaws Situation (sections_of script) (IsGoodSituation (Holds script))
  kernel_laws = laws tables (ranged_programs script) (λ z n. no_call) (Holds script) (invariant_kept script s.limits)

  -- THE REQUESTER, if it was removed

  abbrev R : ℕ
  R = number_of script.table o

  gone_kept : IsGone script w On o → IsGone script (moved script 0 w) Then_situation.board o
  gone_kept h =
      gone_then script w s x e o On Then_situation.board
      (places_later script w s x e On m.shows m.good.board same_here) up h

  -- by this step
  gone_new : (n : ℕ) → removes On Ctx.at ≡ Some n → R ≡ n → IsGone script (moved script 0 w) Then_situation.board o
  gone_new n q here =
      let r = removal_at On Ctx.at n q in
      let it = removes_it r.call.who.number (ap (want_at Ctx.own) r.at) in
      let none : found_in (moved script 0 w) R ≡ None =
      ap (found_in (moved script 0 w)) (here ∙ sym r.number ∙ sym it.2)
      ∙ ap (λ (z : Memory). context_in z.context z.slot z.hand it.0.number) (maps script w s x e) ∙ removed_then it.0 it.1 in
      record {
        absent = λ u f. let no : None ≡ Some u = sym none ∙ f in absurd cc;
        past =
            past_then On Then_situation.board o up
            (requester_past script w s.before (let c = s.one in omega (arith, c)) o m.runner On m.shows);
      }

  gone_now : (want : Option Want) → Then_situation.removed R ≡ Some want → IsGone script (moved script 0 w) Then_situation.board o
  gone_now want q = by (removes On Ctx.at) refl (sym (ap (λ (z : Situation). z.removed R) situation_is) ∙ q)
    where
      by : (r : Option ℕ) → removes On Ctx.at ≡ r → removed_after m.situation (removes On Ctx.at) R ≡ Some want →
          IsGone script (moved script 0 w) Then_situation.board o
      by None z y = gone_kept (m.gone want (ap (λ r. removed_after m.situation r R) (sym z) ∙ y))
      by (Some n) z y = elim (eqb_tells R n) [
        | inl here ↦ gone_new n z here.1
        | inr ne ↦
            gone_kept (m.gone want (sym (upd_other m.situation.removed n (Some (wants_of m.situation n)) R ne.1)
            ∙ ap (λ r. removed_after m.situation r R) (sym z) ∙ y))
      ]

  -- THE MARK

  abbrev pub Counted : WaitMark
  Counted = mark_counted (is_link_owner (sections_of script) m.situation x.context m.mark.links)
      (F script w s ws x e k o m p is) m.mark

  sound_then : IsMarkSound (sections_of script) Then_situation R
      (live_help (sections_of script) Then_situation (Some (F script w s ws x e k o m p is))) (Some Counted)
  sound_then =
      help_goes_on (sections_of script) (IsGoodSituation (Holds script)) kernel_laws m.situation R
      (F script w s ws x e k o m p is) (Some m.mark) m.good (sound script w s ws x e k o m p is) goes_on

  -- no more is used than allowed, this step too
  pub counted_allowed : Counted.used ≤ allowed Counted.links
  counted_allowed = let b = sound_then.1.bound in omega (arith, b)

  -- The mark is shown by another log, of the world after the step, whose carrier works for the same and helps the same.
  pub goes_on_waiting : runner_of (carrier_at (moved script 0 w) 0) ≡ o →
      ((carrier_at (moved script 0 w) 0).switching || is_some (carrier_at (moved script 0 w) 0).goal) ≡ true →
      (carrier_at (moved script 0 w) 0).help ≡ (carrier_at w 0).help →
      (moved script 0 w).waits.links ≡ w.waits.links →
      ShowsMark script.table k (mark_at (moved script 0 w).waits.marks k) w.waits.links Counted →
      IsWaitingFor script (moved script 0 w) k o
  goes_on_waiting runner works help links shows = record {
    situation = Then_situation;
    shows = shows_now;
    good = kernel_laws.stays_good m.situation x.context m.good;
    gone = gone_now;
    runner = runner;
    works = works;
    mark = Counted;
    shown =
        subst (λ (ls : List Link). ShowsMark script.table k (mark_at (moved script 0 w).waits.marks k) ls Counted)
        (sym links) shows;
    sound =
        subst (λ f. IsMarkSound (sections_of script) Then_situation R (live_help (sections_of script) Then_situation f)
        (Some Counted)) (sym (ap found_in_help help ∙ help_is script w s ws x e k o m p is)) sound_then;
    same =
        subst (λ (ls : List Link). AllByRecursion (IsSameOwner script (moved script 0 w)) (links_of k ls)) (sym links)
        (same_then script w s x e (λ z. any script w s ws x e k o m p is) (links_of k w.waits.links) m.same);
  }
