-- A requester that has no mark is held up: a mark begins, for the owner that it found.
use Rattle.std.proofs.Common.{◌≡◌, ◌≢◌, ℕ, ◌+◌, ◌<◌, Bool, true, false, cond, refl, sym, ap, ◌∙◌, subst, Option, Some, None}
use Rattle.std.proofs.Common.{List, [], ◌∷◌, ◌++◌, arith, inl}
use Rattle.std.specs.Prelude.{◌||◌, is_some}
use Rattle.std.specs.List.{AllByRecursion}
use Rattle.std.proofs.lemmas.Bool.{eq-eqb}
use Rattle.k_script.specs.Script.{Script}
use Rattle.k_switch.specs.declared.goal.Goal.{Goal}
use Rattle.k_context.specs.declared.owner.Owner.{Owner}
use Rattle.k_context.specs.declared.owner.Owner.TheVariants as owner
use Rattle.k_context.specs.Contexts.{Carrier, ContextSeen, Thread, asked, owner_of, step_of}
use Rattle.k_carrier.specs.declared.marks.Link.{Link}
use Rattle.k_carrier.specs.declared.marks.WaitMark.{WaitMark}
use Rattle.k_carrier.specs.declared.marks.Want as marked
use Rattle.k_carrier.specs.Asked.{Run, ask_of}
use Rattle.k_carrier.specs.Conditions.{IsOfNumber}
use Rattle.k_carrier.specs.Running.{runner_by, runner_of}
use Rattle.k_carrier.specs.Seen.{CarrierSeen, HandSeen}
use Rattle.k_world.specs.Lawful.{links_of}
use Rattle.k_world.specs.Marks.{HeldUp, course_by, link_of, mark_at, mark_of}
use Rattle.k_world.specs.Steps.{moved}
use Rattle.k_world.specs.Worlds.{World, carrier_at}
use Rattle.k_board.specs.Boards.{Board}
use Rattle.k_bound.specs.Chains.{IsMarkSound}
use Rattle.k_bound.specs.Hands.{live_help}
use Rattle.k_bound.specs.Sections.{want_rank}
use Rattle.k_bound.specs.Waits.{link_to, owner_found}
use Rattle.k_bound.specs.Waits as bound
use Rattle.k_bound.proofs.Founds.{is_for-refl}
use Rattle.k_bound.proofs.Steps.{finds_ok}
use Rattle.k_good.proofs.Owners.{Named}
use Rattle.k_places.specs.Contexts.{ShowsContext}
use Rattle.k_places.specs.Memory.{Memory, memory_of}
use Rattle.k_places.specs.Shows.{ShowsBoard}
use Rattle.k_invariant.specs.Invariant.{Holds}
use Rattle.k_aligned.specs.Aligned.{IsAligned, found_in}
use Rattle.k_sections.specs.Kept.{IsGoodSituation}
use Rattle.k_sections.specs.Situations.{Situation, holder_of, situation_of, wants_of}
use Rattle.k_sections.proofs.Tables.{ThreadTables}
use Rattle.k_waits.specs.Waits.{IsSameOwner, IsWaitingFor, WaitsHold, sections_of}
use Rattle.k_waits.specs.Words.{ShowsMark, number_of, want_in}
use Rattle.k_waits.proofs.Asking.{wants_shown}
use Rattle.k_waits.proofs.Logs.{links_with, shows_begun}
use Rattle.k_waits.proofs.Owed.{number, owner_asked, steady}
use Rattle.k_onward.specs.Stepping.{IsStepping}
use Rattle.k_onward.proofs.Asks.{some_is}
use Rattle.k_onward.proofs.Carriers.{IsForSame}
use Rattle.k_courses.proofs.Found.{helps_then, kernel_laws}
use Rattle.k_courses.proofs.Held.{HoldsUp, IsHeld, is_held, others_same, stays_there}
use Rattle.k_courses.proofs.HeldUp.{holder_number, left_is, numbered, requester_is, runner, working}
use Rattle.k_onward.proofs.Stepping.{A, V, found_now, maps}

module _ (tables : ThreadTables) (script : Script) (w : World) (s : IsStepping script w) (ws : WaitsHold script w) (x : HandSeen)
    (e : ask_of (carrier_at w 0) ≡ Run x) (v : ContextSeen) (wanted : marked.Want) (j : ℕ)
    (held : course_by (asked (V script w s x e)) (step_of (V script w s x e)) (A script w s x e) ≡ HeldUp v wanted j)
    (for : IsForSame (carrier_at w 0) (carrier_at (moved script 0 w) 0)) (none : (carrier_at w 0).help ≡ None)
    (up : HoldsUp script w s x e v wanted j held) where
  abbrev K : CarrierSeen
  K = carrier_at w 0

  abbrev H : IsHeld script w s x e v wanted j held
  H = is_held script w s x e v wanted j held

  -- IT WORKS FOR SOMEBODY

  al : IsAligned script 0 (carrier_at w 0) s.before.view
  al = s.before.aligned.carriers 0 (let c = s.one in omega (arith, c))

  -- a carrier that has its own context in hand switches
  own_switches : (o : Owner) → o ≡ owner_of x.value → o ≡ owner.Carrier (carrier_at w 0).number →
      (carrier_at w 0).switching ≡ true
  own_switches o of is = by x.value refl
    where
      by : (c : ContextSeen) → x.value ≡ c → (carrier_at w 0).switching ≡ true
      by (Thread t) q =
          let no : owner.Thread t.id ≡ owner.Carrier (carrier_at w 0).number = sym (of ∙ ap owner_of q) ∙ is in absurd cc
      by (Carrier z) q =
          let same : owner.Carrier z.carrier ≡ owner.Carrier (carrier_at w 0).number = sym (of ∙ ap owner_of q) ∙ is in
          let here : z.carrier ≡ (carrier_at w 0).number = cc in
          let of_number : script.table + z.carrier ≡ x.context = subst (IsOfNumber script.table x.context) q
          (number script w s.before.board s.before.view s.before.entries s.before.state s.before.aligned s.before.whole ws x e) in
          let table = al.sound.table in
          let at : x.context ≡ (carrier_at w 0).table + (carrier_at w 0).number = omega (arith, of_number, table, here) in
          (steady script w s.before.board s.before.view s.before.entries s.before.state s.before.aligned s.before.whole ws x e).0
          (eq-eqb x.context ((carrier_at w 0).table + (carrier_at w 0).number) at)

  works_for : (q : Bool) → (carrier_at w 0).switching ≡ q → (g : Option Goal) → (carrier_at w 0).goal ≡ g →
      ((carrier_at w 0).switching || is_some (carrier_at w 0).goal) ≡ true
  works_for true sw g go = ap (λ z. z || is_some (carrier_at w 0).goal) sw
  works_for false sw (Some g) go = λ d. sw d || is_some (go d)
  works_for false sw None go =
      let is : runner_of (carrier_at w 0) ≡ owner.Carrier (carrier_at w 0).number =
      λ d. runner_by (sw d) (carrier_at w 0).number (go d) in
      let yes = own_switches (runner_of (carrier_at w 0)) (requester_is tables script w s ws x e v wanted j held for none) is in
      let no : true ≡ false = sym yes ∙ sw in absurd cc

  -- ON THE BOARD OF THE WORLD THEN

  abbrev B : Board
  B = s.later.board

  shows_then : ShowsBoard script (moved script 0 w) s.later.board
  shows_then = s.later.aligned.shows

  holds_then : Holds script s.later.board
  holds_then = record { entries = s.later.entries; state = s.later.state; holds = s.later.whole.holds }

  abbrev S : Situation
  S = situation_of s.later.board

  good : IsGoodSituation (Holds script) (situation_of s.later.board)
  good = record { board = holds_then; unlocked = λ n want q. absurd cc; spared = λ n want q. absurd cc }

  here_then : found_in (moved script 0 w) x.context ≡ Some (V script w s x e)
  here_then = found_now script w s x e ∙ ap Some (stays_there script w s x e v wanted j held)

  wants_then : wants_of (situation_of s.later.board) x.context ≡ Some (want_in wanted)
  wants_then =
      wants_shown (B.seen x.context).word x.context (V script w s x e) (B.context x.context)
      (subst (λ (o : Option ContextSeen). ShowsContext (B.seen x.context).word x.context o (B.context x.context)) here_then
      (shows_then.shows.contexts x.context)) ∙ H.wants

  named : Named s.later.board
  named = s.later.whole.holds.proper.good.locks

  holder_then : holder_of s.later.board (want_in wanted) ≡ Some j
  holder_then =
      up (memory_of (moved script 0 w)) (λ n. ap (λ (m : Memory). m.lock n) (maps script w s x e) ∙ H.locks n)
      (λ n. ap (λ (m : Memory). m.context n) (maps script w s x e) ∙ H.words n) s.later.board shows_then.shows named

  -- it isn't held up by itself
  apart : j ≢ x.context
  apart same =
      let mine : holder_of s.later.board (want_in wanted) ≡ Some x.context = holder_then ∙ ap Some same in
      let up : want_rank (want_in wanted) < want_rank (want_in wanted) =
      (kernel_laws tables script w s x e v wanted j held).rank_rises (situation_of s.later.board) x.context x.context
      (want_in wanted)
      (want_in wanted) good wants_then mine wants_then in
      absurd (omega (arith, up))

  for_v : owner_of v ≡ owner_of x.value
  for_v = ap owner_of (sym H.is) ∙ owner_asked script x.value

  at_it : number_of script.table (owner_of v) ≡ x.context
  at_it = ap (number_of script.table) for_v ∙ numbered tables script w s ws x e v wanted j held for

  begun_sound : IsMarkSound (sections_of script) (situation_of s.later.board) (number_of script.table (owner_of v))
      (live_help (sections_of script) (situation_of s.later.board) (Some (owner_found j (want_in wanted))))
      (Some (bound.mark_begun (link_to (sections_of script) (situation_of s.later.board) (owner_found j (want_in wanted)))))
  begun_sound =
      subst (λ h. IsMarkSound (sections_of script) (situation_of s.later.board) (number_of script.table (owner_of v)) h
      (Some (bound.mark_begun (link_to (sections_of script) (situation_of s.later.board) (owner_found j (want_in wanted))))))
      (sym (ap (λ (q : Bool). cond q (Some (owner_found j (want_in wanted))) None)
      (is_for-refl (holder_of s.later.board (want_in wanted)) j holder_then)))
      (finds_ok (sections_of script) (IsGoodSituation (Holds script)) (kernel_laws tables script w s x e v wanted j held)
      (situation_of s.later.board) (number_of script.table (owner_of v)) None None (want_in wanted) j x.context good tt
      (inl (refl, sym at_it)) wants_then holder_then)

  module _ (c : ContextSeen) (f : found_in w j ≡ Some c) (k : ℕ) (first : ℕ) (fresh : links_of k w.waits.links ≡ [])
      (marks : mark_at (moved script 0 w).waits.marks k ≡ mark_of v wanted first (link_of k c wanted).left)
      (links : (moved script 0 w).waits.links ≡ w.waits.links ++ link_of k c wanted ∷ []) where
    there_then : found_in (moved script 0 w) j ≡ Some c
    there_then = others_same script w s x e v wanted j held j apart ∙ f

    own : IsSameOwner script (moved script 0 w) (link_of k c wanted)
    own u g any =
        let it : Some c ≡ Some u = sym there_then
        ∙ ap (found_in (moved script 0 w)) (sym (holder_number tables script w s ws x e v wanted j held for c f)) ∙ g in
        ap owner_of (sym (some_is it))

    abbrev First : bound.Link
    First = link_to (sections_of script) (situation_of s.later.board) (owner_found j (want_in wanted))

    shows : ShowsMark script.table k (mark_of v wanted first (link_of k c wanted).left) (w.waits.links ++ link_of k c wanted ∷ [])
        (bound.mark_begun First)
    shows =
        shows_begun script.table k first v wanted w.waits.links (link_of k c wanted) First refl fresh
        (λ d. owner_found (holder_number tables script w s ws x e v wanted j held for c f d) (want_in wanted))
        (left_is tables script w s ws x e v wanted j held for (moved script 0 w) s.later.board shows_then holds_then
        (λ n. None) c there_then)

    pub begun_waits : IsWaitingFor script (moved script 0 w) k (owner_of v)
    begun_waits = record {
      situation = situation_of s.later.board;
      shows = shows_then;
      good = good;
      gone = λ want q. absurd cc;
      runner =
          runner tables script w s ws x e v wanted j held for
          ∙ requester_is tables script w s ws x e v wanted j held for none ∙ sym for_v;
      works =
          working tables script w s ws x e v wanted j held for
          ∙ works_for (carrier_at w 0).switching refl (carrier_at w 0).goal refl;
      mark = bound.mark_begun First;
      shown =
          subst (λ (m : WaitMark). ShowsMark script.table k m (moved script 0 w).waits.links (bound.mark_begun First)) (sym marks)
          (subst (λ (ls : List Link). ShowsMark script.table k (mark_of v wanted first (link_of k c wanted).left) ls
          (bound.mark_begun First)) (sym links) shows);
      sound =
          subst (λ h. IsMarkSound (sections_of script) (situation_of s.later.board) (number_of script.table (owner_of v))
          (live_help (sections_of script) (situation_of s.later.board) h) (Some (bound.mark_begun First)))
          (sym (helps_then tables script w s x e v wanted j held)) begun_sound;
      same =
          subst (λ (ls : List Link). AllByRecursion (IsSameOwner script (moved script 0 w)) ls)
          (sym (ap (links_of k) links ∙ links_with k w.waits.links (link_of k c wanted) refl
          ∙ ap (λ ls. ls ++ link_of k c wanted ∷ []) fresh)) (own, tt);
    }
