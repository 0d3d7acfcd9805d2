-- A carrier's step of the context in its hand, in a world with one carrier: the maps after it, who is found then, and on which
-- board.
use Rattle.std.proofs.Common.{◌≡◌, ℕ, ◌==◌, Bool, true, false, refl, sym, ap, ◌∙◌, subst, Option, Some, None}
use Rattle.std.proofs.Common.{arith, inl, inr}
use Rattle.std.proofs.lemmas.Bool.{cases_Bool, eqb-true}
use Rattle.k_ids.specs.declared.state_word.StateWord.{StateWord}
use Rattle.k_model.proofs.Maps.{upd_same}
use Rattle.k_locks.specs.declared.steps.Answer.{Answer}
use Rattle.k_locks.specs.Steps.{answer_of, is_again, word_of}
use Rattle.k_script.specs.Script.{Script}
use Rattle.k_caller.specs.Threads.{ThreadSeen}
use Rattle.k_switch.specs.declared.switch.Switch.{Switch}
use Rattle.k_context.specs.Contexts.{Carrier, ContextSeen, Thread, asked, begun, owner_of, resumed, step_of}
use Rattle.k_carrier.specs.Asked.{Run, ask_of}
use Rattle.k_carrier.specs.Seen.{HandSeen}
use Rattle.k_world.specs.Marks.{course_by}
use Rattle.k_world.specs.Steps.{moved}
use Rattle.k_world.specs.Worlds.{World, carrier_at}
use Rattle.k_board.specs.Boards.{Board, Coming}
use Rattle.k_marks.proofs.Contexts.{resumed_again, resumed_owner}
use Rattle.k_places.specs.Answers.{answer_in}
use Rattle.k_places.specs.Contexts.{IsShown, ShowsContext, at_in, switch_at}
use Rattle.k_places.specs.Memory.{Memory, memory_of}
use Rattle.k_places.specs.Shows.{AreInPlace, Shows, ShowsBoard, context_in}
use Rattle.k_places.proofs.Places.{held_is}
use Rattle.k_places.proofs.Raw.{word_is}
use Rattle.k_turns.specs.Sections.{context_after, section_maps}
use Rattle.k_joint.specs.Ready.{IsReady}
use Rattle.k_joint.proofs.Runs.{goods_is, hand_is, hand_of_run, maps_run, whole_moved}
use Rattle.k_invariant.specs.Invariant.{Holds}
use Rattle.k_kernel.proofs.Agreeing.{facts_all}
use Rattle.k_aligned.specs.Aligned.{found_in}
use Rattle.k_sections.proofs.Tables.{ThreadTables}
use Rattle.k_waits.specs.Steps.{IsInside, StepsTo}
use Rattle.k_waits.proofs.Courses.{Courses, course_is}
use Rattle.k_waits.proofs.Owed.{owner_asked}
use Rattle.k_waits.proofs.Turns.{comes_once, steps_to}
use Rattle.k_onward.specs.Stepping.{IsStepping}
use Rattle.k_onward.proofs.Carriers.{Heard}

answered_owner : (v : ContextSeen) (a : Answer) → owner_of (resumed v a) ≡ owner_of v
answered_owner v a = elim (cases_Bool (is_again a)) [
  | inl y ↦ ap owner_of (resumed_again v a y)
  | inr n ↦ resumed_owner v a n
]

switch_stands : (s : Option Switch) → switch_at s ≡ Coming → ⊥
switch_stands None e = absurd cc
switch_stands (Some s) e = absurd cc

module _ (script : Script) (w : World) (s : IsStepping script w) (x : HandSeen) (e : ask_of (carrier_at w 0) ≡ Run x) where
  abbrev pub M : Memory
  M = memory_of w

  abbrev pub I : ℕ
  I = x.context

  -- the context, with its call begun
  abbrev pub V : ContextSeen
  V = begun script x.value

  abbrev pub A : Answer
  A = answer_in M (step_of V)

  -- the maps after the step, and the context then
  abbrev pub N : Memory
  N = section_maps script M 0 I V

  abbrev pub After : ContextSeen
  After = context_after M V

  pub was : M.hand 0 ≡ Some x
  was = hand_is w 0 ∙ hand_of_run (carrier_at w 0) x e

  pub maps : memory_of (moved script 0 w) ≡ N
  maps = maps_run script w 0 x e s.within

  pub found : found_in w I ≡ Some x.value
  found = held_is M.context M.slot M.hand 0 x s.before.aligned.shows.shows.places was

  pub places : AreInPlace N.context N.slot N.hand
  places = subst (λ (m : Memory). AreInPlace m.context m.slot m.hand) maps s.later.aligned.shows.shows.places

  pub found_now : found_in (moved script 0 w) I ≡ Some After
  found_now =
      ap (λ (m : Memory). context_in m.context m.slot m.hand I) maps
      ∙ held_is N.context N.slot N.hand 0 (record { context = I; value = After }) places
      (upd_same M.hand 0 (Some (record { context = I; value = After })))

  pub heard : Heard script w x ≡ A
  heard = λ d. answer_of (step_of V) (word_is w (word_of (step_of V)) d) (goods_is w (step_of V) d)

  pub course : Courses M (asked V) (step_of V) (course_by (asked V) (step_of V) A)
  course = course_is M (asked V) (step_of V)

  pub same_owner_after : owner_of After ≡ owner_of x.value
  same_owner_after = answered_owner (asked V) A ∙ owner_asked script x.value

  -- ON A BOARD that the world shows

  module _ (b : Board) (sh : ShowsBoard script w b) (h : Holds script b) where
    pub shown : ShowsContext (b.seen I).word I (Some x.value) (b.context I)
    shown = subst (λ (o : Option ContextSeen). ShowsContext (b.seen I).word I o (b.context I)) found (sh.shows.contexts I)

    -- the context's thread is made
    pub made : (b.context I).at ≡ Coming → ⊥
    made coming = by x.value refl
      where
        B : Board
        B = s.before.board

        by : (v : ContextSeen) → x.value ≡ v → ⊥
        by (Carrier z) is =
            switch_stands z.switch
            (sym (subst (λ (v : ContextSeen). ShowsContext (b.seen I).word I (Some v) (b.context I)) is shown) ∙ coming)
        by (Thread t) is =
            let there : IsShown (b.seen I).word I t (b.context I) =
            subst (λ (v : ContextSeen). ShowsContext (b.seen I).word I (Some v) (b.context I)) is shown in
            let same : (b.seen I).word ≡ (s.before.board.seen I).word =
            (sh.shows.seen I).word ∙ sym (s.before.aligned.shows.shows.seen I).word in
            let version = (there.coming coming).version in
            thread t is (λ q. let ver = ap (λ (z : StateWord). z.version) same in omega (arith, version, ver, q))
          where
            thread : (t : ThreadSeen) → x.value ≡ Thread t →
                ((s.before.board.seen I).word.version ≡ t.id.version → ⊥) → ⊥
            thread t is apart = go ((s.before.board.seen I).word.version == t.id.version) refl
              where
                here : IsShown (s.before.board.seen I).word I t (s.before.board.context I)
                here =
                    subst (λ (o : Option ContextSeen).
                    ShowsContext (s.before.board.seen I).word I o (s.before.board.context I)) (found ∙ ap Some is)
                    (s.before.aligned.shows.shows.contexts I)

                go : (q : Bool) → ((s.before.board.seen I).word.version == t.id.version) ≡ q → ⊥
                go true q = apart (eqb-true (s.before.board.seen I).word.version t.id.version q)
                go false q = (s.ready x e).made (ap (λ z. z.at) here.context ∙ rw q refl)

    -- and stands where it is
    pub stands : (t : ThreadSeen) → x.value ≡ Thread t → (b.context I).at ≡ at_in t.activity
    stands t is = by ((b.seen I).word.version == t.id.version) refl
      where
        here : IsShown (b.seen I).word I t (b.context I)
        here = subst (λ (v : ContextSeen). ShowsContext (b.seen I).word I (Some v) (b.context I)) is shown

        by : (q : Bool) → ((b.seen I).word.version == t.id.version) ≡ q → (b.context I).at ≡ at_in t.activity
        by true q = ap (λ z. z.at) here.context ∙ rw q refl
        by false q = absurd (made (ap (λ z. z.at) here.context ∙ rw q refl))

    pub ready_on : IsReady script b I x.value
    ready_on =
        let r = s.ready x e in record {
          facts = facts_all script s.limits b h.entries h.state h.holds I;
          locks = h.holds.proper.good.locks;
          made = made;
          sound = r.sound;
          asks = r.asks;
          counted = r.counted;
          spelled = r.spelled;
        }

    -- where it is in a section, or in a switch, its step is one turn
    pub steps_on : ThreadTables → IsInside (b.context I).at → StepsTo script N b I
    steps_on tables inside =
        steps_to tables script s.limits N b I _ h (comes_once script M b 0 x sh.shows was ready_on inside)

  -- a board that the maps after the step show is one that the world shows then
  pub shows_then : (b : Board) → Shows script N b → ShowsBoard script (moved script 0 w) b
  shows_then b sh = record {
    whole = whole_moved script w 0 s.before.aligned.shows.whole;
    shows = subst (λ (m : Memory). Shows script m b) (sym maps) sh;
  }
