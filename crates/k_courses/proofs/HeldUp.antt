-- The section in hand is held up: a mark that stood goes on standing, and a requester without one begins one.
use Rattle.std.proofs.Common.{◌≡◌, ℕ, ◌<◌, Bool, true, false, cond, refl, sym, ap, ◌∙◌, subst, Option, Some, None}
use Rattle.std.proofs.Common.{List, [], ◌∷◌, ◌++◌, length, ◌⊎◌, inl, inr}
use Rattle.std.specs.Prelude.{◌||◌, is_some}
use Rattle.std.specs.List.{AllByRecursion, slice_set}
use Rattle.std.proofs.lemmas.List.{get_or-set_same}
use Rattle.k_lists.proofs.All.{all_append}
use Rattle.k_locks.specs.Asks.{Want}
use Rattle.k_script.specs.Script.{Script}
use Rattle.k_context.specs.declared.owner.Owner.{Owner}
use Rattle.k_context.specs.Contexts.{ContextSeen, asked, begun, owner_of, step_of}
use Rattle.k_carrier.specs.declared.marks.Link.{Link}
use Rattle.k_carrier.specs.declared.marks.WaitMark.{WaitMark}
use Rattle.k_carrier.specs.declared.marks.Want as marked
use Rattle.k_carrier.specs.declared.moves.Help.{Help}
use Rattle.k_carrier.specs.Asked.{Run, ask_of}
use Rattle.k_carrier.specs.Running.{left_for, runner_of}
use Rattle.k_carrier.specs.Seen.{CarrierSeen, HandSeen}
use Rattle.k_world.specs.Lawful.{links_of}
use Rattle.k_world.specs.Marks.{HeldUp, chained, course_by, is_linked, link_of, mark_at}
use Rattle.k_world.specs.Marks.{more_allowed, no_mark, with_link}
use Rattle.k_world.specs.Steps.{moved}
use Rattle.k_world.specs.Worlds.{WaitLog, World, carrier_at}
use Rattle.k_world.proofs.Steps.{owner_same}
use Rattle.k_board.specs.Boards.{Board}
use Rattle.k_bound.specs.Chains.{IsMarkSound}
use Rattle.k_bound.specs.Hands.{live_help}
use Rattle.k_bound.specs.Sections.{same_want}
use Rattle.k_bound.specs.Waits.{link_to, linked_once, mark_found, mark_linked, owner_found}
use Rattle.k_bound.specs.Waits as bound
use Rattle.k_bound.proofs.Founds.{same_want-refl}
use Rattle.k_bound.proofs.Steps.{finds_ok}
use Rattle.k_places.specs.Contexts.{ShowsContext, programs_of}
use Rattle.k_places.specs.Shows.{ShowsBoard}
use Rattle.k_invariant.specs.Invariant.{Holds}
use Rattle.k_kernel.proofs.Agreeing.{facts_all}
use Rattle.k_aligned.specs.Aligned.{found_in}
use Rattle.k_sections.specs.Kept.{IsGoodSituation}
use Rattle.k_sections.specs.Situations.{kept_want, left_of, want_at, wants_of}
use Rattle.k_sections.proofs.Tables.{ThreadTables}
use Rattle.k_waits.specs.Waits.{IsSameOwner, IsWaitingFor, WaitsHold, sections_of}
use Rattle.k_waits.specs.Words.{ShowsMark, found_in_help, number_of, want_in}
use Rattle.k_waits.proofs.Asking.{wants_shown}
use Rattle.k_waits.proofs.Carried.{without_help}
use Rattle.k_waits.proofs.Logs.{links_with, shows_linked}
use Rattle.k_waits.proofs.Owed.{number, works}
use Rattle.k_waits.proofs.Published.{published}
use Rattle.k_onward.specs.Stepping.{IsStepping}
use Rattle.k_onward.proofs.Asks.{some_is}
use Rattle.k_onward.proofs.Carriers.{IsForSame, same_runner, same_works}
use Rattle.k_courses.proofs.Found.{asking_begun, holder_held, holder_here, kernel_laws, live_away, live_held}
use Rattle.k_courses.proofs.Found.{found_same, number_is, owners_same, shows_away, shows_held, stands_on, wants_it}
use Rattle.k_courses.proofs.Held.{HoldsUp, IsAway, IsHeld, is_held}
use Rattle.k_onward.proofs.Helped as helped
use Rattle.k_courses.proofs.Linked.{linked_alike}
use Rattle.k_onward.proofs.Stepping.{A, V, found, shown}

module _ (tables : ThreadTables) (script : Script) (w : World) (s : IsStepping script w) (ws : WaitsHold script w) (x : HandSeen)
    (e : ask_of (carrier_at w 0) ≡ Run x) (v : ContextSeen) (wanted : marked.Want) (j : ℕ)
    (held : course_by (asked (V script w s x e)) (step_of (V script w s x e)) (A script w s x e) ≡ HeldUp v wanted j)
    (for : IsForSame (carrier_at w 0) (carrier_at (moved script 0 w) 0)) where
  abbrev K : CarrierSeen
  K = carrier_at w 0

  abbrev World_then : World
  World_then = moved script 0 w

  abbrev Is_held : IsHeld script w s x e v wanted j held
  Is_held = is_held script w s x e v wanted j held

  pub runner : runner_of (carrier_at (moved script 0 w) 0) ≡ runner_of (carrier_at w 0)
  runner = same_runner (carrier_at w 0) (carrier_at (moved script 0 w) 0) for

  pub working : ((carrier_at (moved script 0 w) 0).switching || is_some (carrier_at (moved script 0 w) 0).goal)
      ≡ ((carrier_at w 0).switching || is_some (carrier_at w 0).goal)
  working = same_works (carrier_at w 0) (carrier_at (moved script 0 w) 0) for

  pub numbered : number_of script.table (owner_of x.value) ≡ x.context
  numbered =
      number_is script.table x.context x.value
      (number script w s.before.board s.before.view s.before.entries s.before.state s.before.aligned s.before.whole ws x e)

  -- where it helps nobody, the context in hand is the requester's
  pub requester_is : (carrier_at w 0).help ≡ None → runner_of (carrier_at w 0) ≡ owner_of x.value
  requester_is none =
      owner_same (runner_of (carrier_at w 0)) (owner_of x.value)
      (works script w s.before.board s.before.view s.before.entries s.before.state s.before.aligned s.before.whole ws x e none)

  -- the steps that the link has left are those that the owner publishes on the board
  pub left_is : (world : World) (b : Board) → ShowsBoard script world b → Holds script b → (removed : ℕ → Option (Option Want)) →
      (c : ContextSeen) → found_in world j ≡ Some c →
      left_for c wanted ≡ left_of (record { board = b; removed = removed }) j (want_in wanted)
  left_is world b sh h removed c f =
      published (programs_of script) b j (b.seen j).word c wanted removed
      (subst (λ (o : Option ContextSeen). ShowsContext (b.seen j).word j o (b.context j)) f (sh.shows.contexts j))
      (sh.shows.goods.hands j c f) (facts_all script s.limits b h.entries h.state h.holds j)

  pub holder_number : (c : ContextSeen) → found_in w j ≡ Some c → number_of script.table (owner_of c) ≡ j
  holder_number c f = number_is script.table j c (s.before.aligned.contexts j c f).0

  -- A MARK STANDS

  module _ (k : ℕ) (o : Owner) (m : IsWaitingFor script w k o) where
    abbrev R : ℕ
    R = number_of script.table o

    -- nothing is added to it
    as_it_was : (same : begun script x.value ≡ x.value) (un : m.situation.removed x.context ≡ None) →
        ShowsBoard script (moved script 0 w) m.situation.board →
        (moved script 0 w).waits.marks ≡ w.waits.marks → (moved script 0 w).waits.links ≡ w.waits.links →
        IsMarkSound (sections_of script) m.situation (number_of script.table o)
        (live_help (sections_of script) m.situation (Some (owner_found j (want_in wanted)))) (Some m.mark) →
        IsWaitingFor script (moved script 0 w) k o
    as_it_was same un sh marks links sound =
        stands_on tables script w s x e v wanted j held k o m same un sh m.mark runner working
        (subst (λ (ms : List WaitMark). ShowsMark script.table k (mark_at ms k) (moved script 0 w).waits.links m.mark) (sym marks)
        (subst (λ (ls : List Link). ShowsMark script.table k (mark_at w.waits.marks k) ls m.mark) (sym links) m.shown)) sound
        (subst (λ (ls : List Link). AllByRecursion (IsSameOwner script (moved script 0 w)) (links_of k ls)) (sym links)
        (owners_same tables script w s x e v wanted j held k o m same un))

    -- THE REQUESTER ASKS AGAIN

    module _ (none : (carrier_at w 0).help ≡ None) where
      for_it : owner_of x.value ≡ o
      for_it = sym (requester_is none) ∙ m.runner

      at_it : number_of script.table o ≡ x.context
      at_it = ap (number_of script.table) (sym for_it) ∙ numbered

      unremoved : m.situation.removed x.context ≡ None
      unremoved = by (m.situation.removed x.context) refl
        where
          by : (r : Option (Option Want)) → m.situation.removed x.context ≡ r → r ≡ None
          by None q = refl
          by (Some want) q =
              absurd ((m.gone want (ap m.situation.removed at_it ∙ q)).absent x.value (ap (found_in w) at_it
              ∙ found script w s x e)
              for_it)

      asks : wants_of m.situation x.context ≡ Some m.mark.want
      asks = ap (wants_of m.situation) (sym at_it) ∙ m.sound.1.asks

      same : begun script x.value ≡ x.value
      same =
          let b = m.situation.board in
          let here : want_at (b.context x.context).own (b.context x.context).at ≡ Some m.mark.want =
          ap (λ r. kept_want r (want_at (b.context x.context).own (b.context x.context).at)) (sym unremoved) ∙ asks in
          asking_begun script x.value m.mark.want
          (sym (wants_shown (b.seen x.context).word x.context x.value (b.context x.context)
          (shown script w s x e b m.shows m.good.board)) ∙ here)

      helpless : IsMarkSound (sections_of script) m.situation R None (Some m.mark)
      helpless =
          subst (λ p. IsMarkSound (sections_of script) m.situation R (live_help (sections_of script) m.situation
          (found_in_help p))
          (Some m.mark)) none m.sound

      -- what it asks for is what the mark is for
      same_wants : m.mark.want ≡ want_in wanted
      same_wants = some_is (sym asks ∙ wants_it tables script w s x e v wanted j held k o m same unremoved)

      asked_again : HoldsUp script w s x e v wanted j held → IsMarkSound (sections_of script) m.situation R
          (live_help (sections_of script) m.situation (Some (owner_found j (want_in wanted)))) (Some m.mark)
      asked_again up =
          let f = owner_found j (want_in wanted) in
          let finds = finds_ok (sections_of script) (IsGoodSituation (Holds script))
          (kernel_laws tables script w s x e v wanted j held)
          m.situation R None (Some m.mark) (want_in wanted) j x.context m.good helpless (inl (refl, sym at_it))
          (wants_it tables script w s x e v wanted j held k o m same unremoved)
          (holder_here tables script w s x e v wanted j held k o m same unremoved up) in
          let t : same_want m.mark.want (want_in wanted) ≡ true =
          ap (λ z. same_want z (want_in wanted)) same_wants ∙ same_want-refl (want_in wanted) in
          subst (λ h. IsMarkSound (sections_of script) m.situation R h (Some m.mark))
          (sym (live_held tables script w s x e v wanted j held k o m same unremoved up))
          (subst (λ z. IsMarkSound (sections_of script) m.situation R (Some (owner_found j (want_in wanted))) z)
          (ap (λ (q : Bool). cond q (Some m.mark) (Some (bound.mark_begun (link_to
          (sections_of script) m.situation f)))) t) finds)

      pub again_waits : (HoldsUp script w s x e v wanted j held ⊎ IsAway script w s x e v wanted j held) →
          (moved script 0 w).waits.marks ≡ w.waits.marks → (moved script 0 w).waits.links ≡ w.waits.links →
          IsWaitingFor script (moved script 0 w) k o
      again_waits (inl up) marks links =
          as_it_was same unremoved (shows_held tables script w s x e v wanted j held k o m same unremoved up) marks links
          (asked_again up)
      again_waits (inr away) marks links =
          as_it_was same unremoved (shows_away tables script w s x e v wanted j held k o m same unremoved away) marks links
          (live_away tables script w s x e v wanted j held k o m same unremoved away m.mark helpless)

    -- WHOM THE CARRIER HELPS FINDS AN OWNER

    module _ (p : Help) (is : (carrier_at w 0).help ≡ Some p) where
      same_helped : begun script x.value ≡ x.value
      same_helped = helped.same script w s ws x e k o m p is

      there : m.situation.removed x.context ≡ None
      there = helped.unremoved script w s ws x e k o m p is

      pub away_waits : IsAway script w s x e v wanted j held →
          (moved script 0 w).waits.marks ≡ w.waits.marks → (moved script 0 w).waits.links ≡ w.waits.links →
          IsWaitingFor script (moved script 0 w) k o
      away_waits away marks links =
          as_it_was same_helped there (shows_away tables script w s x e v wanted j held k o m same_helped there away) marks links
          (live_away tables script w s x e v wanted j held k o m same_helped there away m.mark
          (without_help (sections_of script) m.situation R _ m.mark m.sound))

      module _ (up : HoldsUp script w s x e v wanted j held) (c : ContextSeen) (f : found_in w j ≡ Some c) where
        -- the mark with the owner that was found
        linked_sound : (q : Bool) → bound.is_linked (owner_found j (want_in wanted)) m.mark.links ≡ q →
            IsMarkSound (sections_of script) m.situation R
            (live_help (sections_of script) m.situation (Some (owner_found j (want_in wanted))))
            (Some (cond q m.mark (mark_linked (link_to (sections_of script) m.situation (owner_found j
            (want_in wanted))) m.mark)))
        linked_sound q e1 =
            let F = helped.F script w s ws x e k o m p is in
            let finds = finds_ok (sections_of script) (IsGoodSituation (Holds script))
            (kernel_laws tables script w s x e v wanted j held)
            m.situation R (Some F) (Some m.mark) (want_in wanted) j x.context m.good (helped.sound script w s ws x e k o m p is)
            (inr (F, refl, refl)) (wants_it tables script w s x e v wanted j held k o m same_helped there)
            (holder_here tables script w s x e v wanted j held k o m same_helped there up) in
            subst (λ h. IsMarkSound (sections_of script) m.situation R h
            (Some (cond q m.mark (mark_linked (link_to (sections_of script) m.situation (owner_found j
            (want_in wanted))) m.mark))))
            (sym (live_held tables script w s x e v wanted j held k o m same_helped there up))
            (subst (λ z. IsMarkSound (sections_of script) m.situation R (Some (owner_found j (want_in wanted)))
            (Some (cond z m.mark (mark_linked (link_to (sections_of script) m.situation (owner_found j
            (want_in wanted))) m.mark)))) e1 finds)

        -- the log tells the same of it
        is_linked_alike : is_linked (link_of k c wanted) w.waits.links ≡ bound.is_linked (owner_found j
            (want_in wanted)) m.mark.links
        is_linked_alike =
            linked_alike script w k j c wanted f
            (holder_held tables script w s x e v wanted j held m.situation.board m.shows m.good.board.holds.proper.good.locks
            up c f)
            (holder_number c f) w.waits.links m.same ∙ sym (m.shown.linked (owner_found j (want_in wanted)))

        -- a link more
        linked_waits : k < length w.waits.marks → bound.is_linked (owner_found j (want_in wanted)) m.mark.links ≡ false →
            (moved script 0 w).waits.marks
            ≡ slice_set w.waits.marks k (more_allowed (link_of k c wanted).left (mark_at w.waits.marks k)) →
            (moved script 0 w).waits.links ≡ w.waits.links ++ link_of k c wanted ∷ [] →
            IsWaitingFor script (moved script 0 w) k o
        linked_waits inside q marks links =
            let b = link_to (sections_of script) m.situation (owner_found j (want_in wanted)) in
            let at : mark_at (moved script 0 w).waits.marks k ≡ more_allowed (link_of k c wanted).left (mark_at w.waits.marks k) =
            ap (λ ms. mark_at ms k) marks ∙ get_or-set_same w.waits.marks k _ no_mark inside in
            let shows = shows_linked script.table k (mark_at w.waits.marks k) w.waits.links m.mark
            (link_of k c wanted) b m.shown refl
            (λ d. owner_found (holder_number c f d) (want_in wanted))
            (left_is w m.situation.board m.shows m.good.board m.situation.removed c f) in
            stands_on tables script w s x e v wanted j held k o m same_helped there
            (shows_held tables script w s x e v wanted j held k o m same_helped there up) (mark_linked b m.mark) runner working
            (subst (λ (ms : WaitMark). ShowsMark script.table k ms (moved script 0 w).waits.links (mark_linked b m.mark)) (sym at)
            (subst (λ (ls : List Link). ShowsMark script.table k (more_allowed (link_of k c wanted).left
            (mark_at w.waits.marks k)) ls
            (mark_linked b m.mark)) (sym links) shows)) (linked_sound false q)
            (subst (λ (ls : List Link). AllByRecursion (IsSameOwner script (moved script 0 w)) ls)
            (sym (ap (links_of k) links ∙ links_with k w.waits.links (link_of k c wanted) refl))
            (all_append (IsSameOwner script (moved script 0 w)) (links_of k w.waits.links) (link_of k c wanted ∷ [])
            (owners_same tables script w s x e v wanted j held k o m same_helped there) (own, tt)))
          where
            own : IsSameOwner script (moved script 0 w) (link_of k c wanted)
            own u g any =
                let it : Some c ≡ Some u = sym f ∙ sym (found_same tables script w s x e v wanted j held k o m same_helped
                there j)
                ∙ ap (found_in (moved script 0 w)) (sym (holder_number c f)) ∙ g in
                ap owner_of (sym (some_is it))

        pub found_waits : k < length w.waits.marks → (l : WaitLog) → l.marks ≡ w.waits.marks → l.links ≡ w.waits.links →
            (moved script 0 w).waits.marks ≡ (chained (link_of k c wanted) l).marks →
            (moved script 0 w).waits.links ≡ (chained (link_of k c wanted) l).links → IsWaitingFor script (moved script 0 w) k o
        found_waits inside l lm ll marks links =
            by (bound.is_linked (owner_found j (want_in wanted)) m.mark.links) refl
          where
            world : is_linked (link_of k c wanted) l.links ≡ bound.is_linked (owner_found j (want_in wanted)) m.mark.links
            world = ap (is_linked (link_of k c wanted)) ll ∙ is_linked_alike

            by : (q : Bool) → bound.is_linked (owner_found j (want_in wanted)) m.mark.links ≡ q →
                IsWaitingFor script (moved script 0 w) k o
            by true q =
                as_it_was same_helped there (shows_held tables script w s x e v wanted j held k o m same_helped there up)
                (marks ∙ ap (λ z. (cond z l (with_link (link_of k c wanted) l)).marks) (world ∙ q) ∙ lm)
                (links ∙ ap (λ z. (cond z l (with_link (link_of k c wanted) l)).links) (world ∙ q) ∙ ll) (linked_sound true q)
            by false q =
                linked_waits inside q
                (marks ∙ ap (λ z. (cond z l (with_link (link_of k c wanted) l)).marks) (world ∙ q)
                ∙ ap (λ ms. slice_set ms k (more_allowed (link_of k c wanted).left (mark_at ms k))) lm)
                (links ∙ ap (λ z. (cond z l (with_link (link_of k c wanted) l)).links) (world ∙ q)
                ∙ ap (λ ls. ls ++ link_of k c wanted ∷ []) ll)
