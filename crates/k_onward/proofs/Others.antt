-- What a step leaves of what is known of contexts: who is gone stays gone, and the owners of links stay their owners.
use Rattle.std.proofs.Common.{◌≡◌, ◌≢◌, ℕ, ◌<◌, ◌≤◌, true, false, refl, sym, ap, ◌∙◌, subst, Option, Some, None, List, arith}
use Rattle.std.proofs.Common.{inl, inr}
use Rattle.std.specs.List.{AllByRecursion}
use Rattle.std.proofs.lemmas.Bool.Decides.{eqb_tells}
use Rattle.std.proofs.lemmas.Grind.{common_steps}
use Rattle.k_lists.proofs.All.{all_weaker}
use Rattle.k_ids.specs.declared.state_word.StateWord.{StateWord}
use Rattle.k_ids.specs.declared.threads.ThreadId.{ThreadId}
use Rattle.k_locks.specs.declared.steps.Step.TheVariants as step
use Rattle.k_locks.specs.Asks.{Ask, step_for}
use Rattle.k_locks.specs.Asks as asks
use Rattle.k_locks.specs.Hands.{Hand}
use Rattle.k_threads.specs.declared.create.CreateCall.{CreateCall}
use Rattle.k_threads.specs.declared.create.CreateLocked.TheVariants as create_locked
use Rattle.k_threads.specs.CreateTable.{CreateAt}
use Rattle.k_threads.specs.CreateTable as create
use Rattle.k_script.specs.Script.{Script}
use Rattle.k_switch.specs.declared.switch.Switch.{Switch}
use Rattle.k_caller.specs.declared.activity.Activity.{Activity}
use Rattle.k_caller.specs.declared.activity.Activity.TheVariants as activity
use Rattle.k_context.specs.declared.owner.Owner.{Owner}
use Rattle.k_context.specs.declared.owner.Owner.TheVariants as owner
use Rattle.k_context.specs.Contexts.{Carrier, ContextSeen, Thread, begun, locks_of, owner_of, step_of, thread_of}
use Rattle.k_carrier.specs.declared.marks.Link.{Link}
use Rattle.k_carrier.specs.Asked.{Run, ask_of}
use Rattle.k_carrier.specs.Rules.{holds_any}
use Rattle.k_carrier.specs.Seen.{HandSeen}
use Rattle.k_world.specs.Steps.{moved}
use Rattle.k_world.specs.Worlds.{World, carrier_at}
use Rattle.k_board.specs.Boards.{At, Board, InCreate}
use Rattle.k_board.specs.Facts.{AllSay}
use Rattle.k_board.specs.Places.{facts_of}
use Rattle.k_places.specs.Contexts.{at_in, programs_of}
use Rattle.k_places.specs.Memory.{Memory}
use Rattle.k_places.specs.Shows.{ShowsBoard, context_in}
use Rattle.k_turns.specs.Spelled.{ask_at, ask_in, ask_of_switch}
use Rattle.k_invariant.specs.Invariant.{Holds}
use Rattle.k_aligned.specs.Aligned.{found_in}
use Rattle.k_waits.specs.Steps.{Becomes, comes, found_on, goes, stays}
use Rattle.k_waits.specs.Waits.{IsGone, IsPast, IsSameOwner}
use Rattle.k_waits.specs.Words.{number_of}
use Rattle.k_waits.proofs.Asking.{steps_by}
use Rattle.k_waits.proofs.Others.{others_are}
use Rattle.k_onward.specs.Stepping.{IsStepping}
use Rattle.k_onward.proofs.Stepping.{After, M, N, found, found_now, maps, places, ready_on, same_owner_after, stands}

-- WHERE A CONTEXT IS PLACED

place_is : (a : Ask) (h : Hand) (id : ThreadId) (program priority : ℕ) → step_for a h ≡ step.Place id program priority →
    a ≡ asks.Place id program priority
place_is (asks.Place k q r) h id program priority e = cc
place_is (asks.Acquire l) h id program priority e = absurd cc
place_is (asks.Load n) h id program priority e = absurd cc
place_is (asks.LoadMail n) h id program priority e = absurd cc
place_is (asks.Post n m) h id program priority e = absurd cc
place_is (asks.Exchange n old new) h id program priority e = absurd cc
place_is (asks.Release k) h id program priority e = absurd cc
place_is (asks.Remove who) h id program priority e = absurd cc

creates_at : (c : CreateCall) (own : StateWord) (p : CreateAt) (id : ThreadId) (program priority : ℕ) →
    create.ask_of c own p ≡ asks.Place id program priority → p ≡ create.Locked (create_locked.PlaceContext id)
creates_at c own (create.Locked (create_locked.PlaceContext k)) id program priority e =
    let q : k ≡ id = cc in ap (λ z. create.Locked (create_locked.PlaceContext z)) q
creates_at c own p id program priority e = absurd (grind (arith, common_steps, e))

-- the section that places it
record IsPlacing (p : At) (id : ThreadId) : Type 0 where
  pub call : CreateCall
  pub at : p ≡ InCreate call (create.Locked (create_locked.PlaceContext id))

places_at : (me : ThreadId) (own : StateWord) (a : Activity) (id : ThreadId) (program priority : ℕ) →
    ask_in me own a ≡ asks.Place id program priority → IsPlacing (at_in a) id
places_at me own (activity.Create s) id program priority e = record {
  call = s.call;
  at = ap (InCreate s.call) (creates_at s.call s.own (create.at_of s.location) id program priority e);
}
places_at me own (activity.Alone p) id program priority e = absurd (grind (arith, common_steps, e))
places_at me own (activity.Send s) id program priority e = absurd (grind (arith, common_steps, e))
places_at me own (activity.Receive s) id program priority e = absurd (grind (arith, common_steps, e))
places_at me own (activity.Destroy s) id program priority e = absurd (grind (arith, common_steps, e))

switch_places : (o : Option Switch) (id : ThreadId) (program priority : ℕ) → ask_of_switch o ≡ asks.Place id program priority → ⊥
switch_places None id program priority e = absurd cc
switch_places (Some s) id program priority e = grind (arith, common_steps, e)

-- a number's version doesn't fall
abbrev pub AreNoEarlier : Board → Board → Type 0
AreNoEarlier b b' = (t : ℕ) → (b.seen t).word.version ≤ (b'.seen t).word.version

pub past_then : (b b' : Board) (o : Owner) → AreNoEarlier b b' → IsPast b o → IsPast b' o
past_then b b' (owner.Thread id) up h = let u = up id.number in omega (arith, u, h)
past_then b b' (owner.Carrier number) up h = tt

module _ (script : Script) (w : World) (s : IsStepping script w) (x : HandSeen) (e : ask_of (carrier_at w 0) ≡ Run x) where
  abbrev Context : ContextSeen
  Context = begun script x.value

  -- a context that is placed is that of a later thread than its number had
  abbrev pub PlacesLater : Board → Type 0
  PlacesLater b = (id : ThreadId) (program priority : ℕ) → step_of Context ≡ step.Place id program priority →
      (b.seen id.number).word.version < id.version

  pub places_later : (b : Board) → ShowsBoard script w b → Holds script b → begun script x.value ≡ x.value → PlacesLater b
  places_later b sh h same id program priority q =
      let made_by = steps_by Context in
      let ask : ask_at Context ≡ asks.Place id program priority =
      place_is (ask_at Context) made_by.hand id program priority (sym made_by.step ∙ q) in
      by x.value refl (ap ask_at (sym same) ∙ ask)
    where
      later : IsPlacing (b.context x.context).at id → (b.seen id.number).word.version < id.version
      later p =
          let f : AllSay (programs_of script) b x.context (b.context x.context)
          (facts_of (InCreate p.call (create.Locked (create_locked.PlaceContext id)))) =
          subst (λ z. AllSay (programs_of script) b x.context (b.context x.context) (facts_of z)) p.at
          (ready_on script w s x e b sh h).facts in
          let next = f.1.1.1.1.1.0.2 in
          let word = ap (λ (z : StateWord). z.version) f.1.1.1.1.1.1.0.1 in
          omega (arith, next, word)

      by : (v : ContextSeen) → x.value ≡ v → ask_at x.value ≡ asks.Place id program priority →
          (b.seen id.number).word.version < id.version
      by (Carrier k) is a = absurd (switch_places k.switch id program priority (ap ask_at (sym is) ∙ a))
      by (Thread t) is a =
          let p = places_at t.id t.own t.activity id program priority (ap ask_at (sym is) ∙ a) in
          let at = stands script w s x e b sh h t is in
          later (record { call = p.call; at = at ∙ p.at })

  -- ANOTHER CONTEXT

  there_then : (j : ℕ) → found_in (moved script 0 w) j ≡ found_on (N script w s x e) j
  there_then j = ap (λ (m : Memory). context_in m.context m.slot m.hand j) (maps script w s x e)

  pub another : (j : ℕ) → j ≢ x.context → Becomes script (found_in w j) (step_of Context) j (found_in (moved script 0 w) j)
  another j ne =
      subst (Becomes script (found_in w j) (step_of Context) j) (sym (there_then j))
      (others_are script (M script w s x e) 0 x.context Context s.before.aligned.shows.shows.places (places script w s x e) j ne)

  -- WHO IS GONE

  pub gone_then : (o : Owner) (b b' : Board) → PlacesLater b → AreNoEarlier b b' → IsGone script w b o →
      IsGone script (moved script 0 w) b' o
  gone_then o b b' later up h = record { absent = absent; past = past_then b b' o up h.past }
    where
      r : ℕ
      r = number_of script.table o

      newer : (id : ThreadId) (program priority : ℕ) → step_of Context ≡ step.Place id program priority →
          owner.Thread id ≡ o → ⊥
      newer id program priority q same =
          let past : IsPast b (owner.Thread id) = subst (IsPast b) (sym same) h.past in
          let above = later id program priority q in
          absurd (omega (arith, past, above))

      by : (was now : Option ContextSeen) → found_in w r ≡ was → Becomes script was (step_of Context) r now → (v : ContextSeen) →
          now ≡ Some v → owner_of v ≢ o
      by was _ f stays v q = h.absent v (f ∙ q)
      by was _ f goes v q = absurd cc
      by was _ f (comes id program priority place num) v q =
          λ same. newer id program priority place (ap owner_of (is q) ∙ same)
        where
          is : {a c : ContextSeen} → Some a ≡ Some c → a ≡ c
          is z = cc

      absent : (v : ContextSeen) → found_in (moved script 0 w) r ≡ Some v → owner_of v ≢ o
      absent v q = elim (eqb_tells r x.context) [
        | inl here ↦
            let same : Some (After script w s x e) ≡ Some v =
            sym (found_now script w s x e) ∙ ap (found_in (moved script 0 w)) (sym here.1) ∙ q in
            let it : After script w s x e ≡ v = cc in
            λ z. h.absent x.value (ap (found_in w) here.1 ∙ found script w s x e)
            (sym (same_owner_after script w s x e) ∙ ap owner_of it ∙ z)
        | inr ne ↦ by (found_in w r) (found_in (moved script 0 w) r) refl (another r ne.1) v q
      ]

  -- THE OWNERS OF LINKS

  owners_then : (holds_any (locks_of (After script w s x e)) ≡ true → holds_any (locks_of x.value) ≡ true) → (link : Link) →
      IsSameOwner script w link → IsSameOwner script (moved script 0 w) link
  owners_then any link h v q holds = elim (eqb_tells r x.context) [
    | inl here ↦
        let same : Some (After script w s x e) ≡ Some v =
        sym (found_now script w s x e) ∙ ap (found_in (moved script 0 w)) (sym here.1) ∙ q in
        let it : After script w s x e ≡ v = cc in
        ap owner_of (sym it) ∙ same_owner_after script w s x e
        ∙ h x.value (ap (found_in w) here.1 ∙ found script w s x e) (any (ap (λ z. holds_any (locks_of z)) it ∙ holds))
    | inr ne ↦ by (found_in w r) (found_in (moved script 0 w) r) refl (another r ne.1) q
  ]
    where
      r : ℕ
      r = number_of script.table link.owner

      by : (was now : Option ContextSeen) → found_in w r ≡ was → Becomes script was (step_of Context) r now → now ≡ Some v →
          owner_of v ≡ link.owner
      by was _ f stays z = h v (f ∙ z) holds
      by was _ f goes z = absurd cc
      by was _ f (comes id program priority place num) z =
          let it : thread_of script id program priority ≡ v = cc in
          let no : false ≡ true = ap (λ u. holds_any (locks_of u)) it ∙ holds in absurd cc

  pub same_then : (holds_any (locks_of (After script w s x e)) ≡ true → holds_any (locks_of x.value) ≡ true) →
      (links : List Link) → AllByRecursion (IsSameOwner script w) links →
      AllByRecursion (IsSameOwner script (moved script 0 w)) links
  same_then any links h =
      all_weaker (IsSameOwner script w) (IsSameOwner script (moved script 0 w)) (λ link. owners_then any link) links h
