-- The section in hand is held up: whatever the log makes of that, the mark that stands is tied to a board again.
use Rattle.std.proofs.Common.{◌≡◌, ℕ, Bool, true, false, refl, sym, ap, ◌∙◌, subst, Option, Some, None}
use Rattle.std.proofs.Common.{[], ◌∷◌, ◌++◌, length, arith, inl, inr}
use Rattle.std.specs.Prelude.{if◌then◌else◌}
use Rattle.std.proofs.lemmas.Bool.{eq-eqb}
use Rattle.std.proofs.lemmas.List.{get_or_push}
use Rattle.k_locks.specs.Locks.{lowest_held}
use Rattle.k_script.specs.Script.{Script}
use Rattle.k_context.specs.Contexts.{ContextSeen, asked, step_of}
use Rattle.k_carrier.specs.declared.marks.WaitMark.{WaitMark}
use Rattle.k_carrier.specs.declared.marks.Want as marked
use Rattle.k_carrier.specs.declared.moves.Help.{Help}
use Rattle.k_carrier.specs.Asked.{Run, ask_of}
use Rattle.k_carrier.specs.Rules.{helps}
use Rattle.k_carrier.specs.Seen.{HandSeen}
use Rattle.k_world.specs.Marks.{HeldUp, chained, course_by, held_up, held_up_by, is_linked, link_of}
use Rattle.k_world.specs.Marks.{mark_at, mark_of, no_mark, standing_at, with_link}
use Rattle.k_world.specs.Steps.{moved, unbroken_waits}
use Rattle.k_world.specs.Worlds.{WaitLog, World, carrier_at}
use Rattle.k_board.specs.Boards.{Nowhere}
use Rattle.k_good.specs.Locks.{locks_at}
use Rattle.k_places.specs.Contexts.{ShowsContext}
use Rattle.k_places.specs.Memory.{memory_of}
use Rattle.k_places.specs.Shows.{context_by}
use Rattle.k_aligned.specs.Aligned.{found_in}
use Rattle.k_sections.proofs.Moved.{holds_some}
use Rattle.k_sections.proofs.Tables.{ThreadTables}
use Rattle.k_waits.specs.Waits.{IsWaiting, IsWaitingFor, WaitsHold}
use Rattle.k_waits.specs.Words.{want_in}
use Rattle.k_waits.proofs.Owed.{helped_is}
use Rattle.k_onward.specs.Stepping.{IsStepping}
use Rattle.k_courses.proofs.Begun.{begun_waits}
use Rattle.k_onward.proofs.Carriers.{IsForSame}
use Rattle.k_courses.proofs.Held.{HoldsUp, IsAway, holder}
use Rattle.k_onward.proofs.Goes.{inside, log_size}
use Rattle.k_courses.proofs.HeldUp.{again_waits, away_waits, found_waits}
use Rattle.k_onward.proofs.Marks.{linked_requester, standing_set}
use Rattle.k_onward.proofs.Stepping.{A, V}

some_number : {a b : ℕ} → Some a ≡ Some b → a ≡ b
some_number e = cc

module _ (tables : ThreadTables) (script : Script) (w : World) (s : IsStepping script w) (ws : WaitsHold script w) where
  module _ (x : HandSeen) (e : ask_of (carrier_at w 0) ≡ Run x) where
    -- IT IS HELD UP

    module _ (v : ContextSeen) (wanted : marked.Want) (j : ℕ)
        (held : course_by (asked (V script w s x e)) (step_of (V script w s x e)) (A script w s x e) ≡ HeldUp v wanted j)
        (for : IsForSame (carrier_at w 0) (carrier_at (moved script 0 w) 0)) where
      -- who holds it up is there
      there : HoldsUp script w s x e v wanted j held → found_in w j ≡ None → ⊥
      there up f =
          let b = s.before.board in
          let named = s.before.whole.holds.proper.good.locks in
          let holds = up (memory_of w) (λ n. refl) (λ n. refl) b s.before.aligned.shows.shows named in
          let away : (b.context j).at ≡ Nowhere =
          subst (λ (c : Option ContextSeen). ShowsContext (b.seen j).word j c (b.context j)) f
          (s.before.aligned.shows.shows.contexts j) in
          holds_some b named j (want_in wanted) holds (ap (λ p. lowest_held (locks_at p)) away)

      gone : IsAway script w s x e v wanted j held → (c : ContextSeen) → found_in w j ≡ Some c → ⊥
      gone away c f =
          let none : found_in w j ≡ None = ap (context_by (memory_of w).slot (memory_of w).hand j) away.empty in
          let no : None ≡ Some c = sym none ∙ f in absurd cc

      -- the log after it
      abbrev Then : Option Help → Option ContextSeen → WaitLog
      Then p c = held_up 0 (helps p x.context) v wanted c (unbroken_waits w)

      module _ (k : ℕ) where
        same_requester : (moved script 0 w).waits.marks ≡ w.waits.marks → IsWaitingFor script (moved script 0 w) k
            (mark_at w.waits.marks k).requester → IsWaiting script (moved script 0 w) k
        same_requester marks = subst (IsWaitingFor script (moved script 0 w) k) (sym (ap (λ ms. (mark_at ms k).requester) marks))

        -- whom it helps finds somebody
        linked : (p : Help) → (carrier_at w 0).help ≡ Some p → (c : ContextSeen) → found_in w j ≡ Some c →
            (st : Option ℕ) → standing_at (unbroken_waits w) 0 ≡ st →
            standing_at (held_up_by 0 true v wanted c st (unbroken_waits w)) 0 ≡ Some k →
            (moved script 0 w).waits.marks ≡ (held_up_by 0 true v wanted c st (unbroken_waits w)).marks →
            (moved script 0 w).waits.links ≡ (held_up_by 0 true v wanted c st (unbroken_waits w)).links →
            HoldsUp script w s x e v wanted j held → IsWaiting script (moved script 0 w) k
        linked p is c f None q st marks links up = let no : None ≡ Some k = sym q ∙ st in absurd cc
        linked p is c f (Some i) q st marks links up =
            go (some_number (sym q ∙ sym (chained_standing (is_linked (link_of i c wanted) w.waits.links)) ∙ st)) marks links
          where
            chained_standing : (z : Bool) →
                standing_at (if z then unbroken_waits w else with_link (link_of i c wanted) (unbroken_waits w)) 0
                ≡ standing_at (unbroken_waits w) 0
            chained_standing true = refl
            chained_standing false = refl

            requester_kept : (z : Bool) → (n : ℕ) →
                (mark_at (if z then unbroken_waits w else with_link (link_of n c wanted) (unbroken_waits w)).marks n).requester
                ≡ (mark_at w.waits.marks n).requester
            requester_kept true n = refl
            requester_kept false n = linked_requester w.waits.marks n (link_of n c wanted).left

            go : i ≡ k → (moved script 0 w).waits.marks ≡ (chained (link_of i c wanted) (unbroken_waits w)).marks →
                (moved script 0 w).waits.links ≡ (chained (link_of i c wanted) (unbroken_waits w)).links →
                IsWaiting script (moved script 0 w) k
            go same marks links =
                let ms = marks ∙ ap (λ n. (chained (link_of n c wanted) (unbroken_waits w)).marks) same in
                let ls = links ∙ ap (λ n. (chained (link_of n c wanted) (unbroken_waits w)).links) same in
                let here : standing_at (unbroken_waits w) 0 ≡ Some k = q ∙ ap Some same in
                let found = found_waits tables script w s ws x e v wanted j held for k (mark_at w.waits.marks k).requester
                (ws.waiting k here) p is up c f (inside tables script w s ws k here) (unbroken_waits w) refl refl ms ls in
                subst (IsWaitingFor script (moved script 0 w) k)
                (sym (ap (λ z. (mark_at z k).requester) ms ∙ requester_kept (is_linked
                (link_of k c wanted) w.waits.links) k)) found

        -- a requester finds somebody
        begun_now : (carrier_at w 0).help ≡ None → (c : ContextSeen) → found_in w j ≡ Some c →
            (st : Option ℕ) → standing_at (unbroken_waits w) 0 ≡ st →
            standing_at (held_up_by 0 false v wanted c st (unbroken_waits w)) 0 ≡ Some k →
            (moved script 0 w).waits.marks ≡ (held_up_by 0 false v wanted c st (unbroken_waits w)).marks →
            (moved script 0 w).waits.links ≡ (held_up_by 0 false v wanted c st (unbroken_waits w)).links →
            HoldsUp script w s x e v wanted j held → IsWaiting script (moved script 0 w) k
        begun_now none c f (Some i) q st marks links up =
            same_requester marks (again_waits tables script w s ws x e v wanted j held for k (mark_at w.waits.marks k).requester
            (ws.waiting k st) none (inl up) marks links)
        begun_now none c f None q st marks links up =
            let new : length w.waits.marks ≡ k = some_number (sym (standing_set (unbroken_waits w).standing (Some
            (length w.waits.marks))
            (log_size tables script w s ws)) ∙ st) in
            let at : mark_at (moved script 0 w).waits.marks k ≡ mark_of v wanted (length w.waits.links)
            (link_of k c wanted).left =
            ap (λ ms. mark_at ms k) marks ∙ get_or_push w.waits.marks _ no_mark k new in
            subst (IsWaitingFor script (moved script 0 w) k) (sym (ap (λ (m : WaitMark). m.requester) at))
            (begun_waits tables script w s ws x e v wanted j held for none up c f k (length w.waits.links)
            (ws.log.known k (omega (arith, new))) at
            (links ∙ ap (λ n. w.waits.links ++ link_of n c wanted ∷ []) new))

        pub held_waits : (p : Option Help) → (carrier_at w 0).help ≡ p → (c : Option ContextSeen) → found_in w j ≡ c →
            standing_at (held_up 0 (helps p x.context) v wanted c (unbroken_waits w)) 0 ≡ Some k →
            (moved script 0 w).waits.marks ≡ (held_up 0 (helps p x.context) v wanted c (unbroken_waits w)).marks →
            (moved script 0 w).waits.links ≡ (held_up 0 (helps p x.context) v wanted c (unbroken_waits w)).links →
            IsWaiting script (moved script 0 w) k
        held_waits (Some p) is None f st marks links = elim (holder script w s x e v wanted j held) [
          | inl up ↦ absurd (there up f)
          | inr away ↦ same_requester marks (away_waits tables script w s ws x e v wanted j held for k
              (mark_at w.waits.marks k).requester (ws.waiting k st) p is away marks links)
        ]
        held_waits None is None f st marks links = elim (holder script w s x e v wanted j held) [
          | inl up ↦ absurd (there up f)
          | inr away ↦ same_requester marks (again_waits tables script w s ws x e v wanted j held for k
              (mark_at w.waits.marks k).requester (ws.waiting k st) is (inr away) marks links)
        ]
        held_waits (Some p) is (Some c) f st marks links = elim (holder script w s x e v wanted j held) [
          | inr away ↦ absurd (gone away c f)
          | inl up ↦
              let same = (helped_is script w s.before.board s.before.view s.before.entries s.before.state s.before.aligned
              s.before.whole ws x e p is).0 in
              let t : helps (Some p) x.context ≡ true = eq-eqb p.context x.context same in
              let log = ap (λ z. held_up 0 z v wanted (Some c) (unbroken_waits w)) t in
              linked p is c f (standing_at (unbroken_waits w) 0) refl (ap (λ l. standing_at l 0) (sym log) ∙ st)
              (marks ∙ ap (λ l. l.marks) log) (links ∙ ap (λ l. l.links) log) up
        ]
        held_waits None is (Some c) f st marks links = elim (holder script w s x e v wanted j held) [
          | inr away ↦ absurd (gone away c f)
          | inl up ↦ begun_now is c f (standing_at (unbroken_waits w) 0) refl st marks links up
        ]
