-- A carrier at one moment: what it has in hand, and whether a step of it is asked for.
use Rattle.std.proofs.Common.{◌≡◌, ◌<◌, ◌≤◌, ℕ, ◌-◌, Bool, true, false, nat_lt, refl, sym, ap, ◌∙◌, subst, arith}
use Rattle.std.proofs.Common.{Option, Some, None, length}
use Rattle.std.proofs.lemmas.Bool.Decides.{nat_tests}
use Rattle.std.specs.Prelude.{if◌then◌else◌}
use Rattle.k_model.specs.State.{KernelState}
use Rattle.k_script.specs.Script.{Script}
use Rattle.k_script.specs.Limits.{IsScript}
use Rattle.k_context.specs.Contexts.{ContextSeen}
use Rattle.k_carrier.specs.Asked.{PutDown, Run, ask_of, ask_with}
use Rattle.k_carrier.specs.Rules.{gives}
use Rattle.k_carrier.specs.Seen.{CarrierSeen, HandSeen}
use Rattle.k_world.specs.Worlds.{World, carrier_at}
use Rattle.k_board.specs.Boards.{Board}
use Rattle.k_plays.specs.Scripts.{ranged_programs}
use Rattle.k_places.specs.Memory.{memory_of}
use Rattle.k_places.specs.Shows.{Shows}
use Rattle.k_places.proofs.Places.{held_is}
use Rattle.k_joint.proofs.Runs.{hand_is, hand_of_run}
use Rattle.k_tokens.specs.World.{ContextName, OfThread, OfCarrier}
use Rattle.k_tokens.specs.World as tokens
use Rattle.k_switching.specs.Claims.{IsAsked}
use Rattle.k_switching.specs.Rules as rules
use Rattle.k_grants.specs.Views.{name_by, name_of}
use Rattle.k_moves.specs.Views.{ShowsContext, number_in}
use Rattle.k_moves.proofs.Rules.{gives_same}
use Rattle.k_aligned.specs.Aligned.{found_in}
use Rattle.k_whole.specs.Next.{has_next, number_of}
use Rattle.k_whole.proofs.Next.{asked_next}
use Rattle.k_handling.specs.Handling.{IsKernel}
use Rattle.k_handling.proofs.Contexts.{context_shown}

-- what it runs, no rule gives back
run_kept : (k : CarrierSeen) (h : HandSeen) (o : Option HandSeen) → k.hand ≡ o → ask_of k ≡ Run h →
    gives k h ≡ false
run_kept k h None e a = absurd (let z : None ≡ Some h = sym e ∙ hand_of_run k h a in cc)
run_kept k h (Some x) e a = by (gives k x) refl
  where
    same : ask_of k ≡ (if gives k x then PutDown x else Run x)
    same = ap (λ (o : Option HandSeen). ask_with k o) e

    by : (q : Bool) → gives k x ≡ q → gives k h ≡ false
    by true q = absurd (let z : PutDown x ≡ Run h = sym (same ∙ ap (λ t. if t then PutDown x else Run x) q)
        ∙ a in cc)
    by false q = let z : Run x ≡ Run h = sym (same ∙ ap (λ t. if t then PutDown x else Run x) q) ∙ a in
        let is : x ≡ h = cc in subst (λ (y : HandSeen). gives k y ≡ false) is q

numbered : (b : Board) (n : ℕ) → number_of b (name_of b.size n) ≡ n
numbered b n = by (nat_lt n b.size) refl
  where
    by : (q : Bool) → nat_lt n b.size ≡ q → number_of b (if q then OfThread n else OfCarrier (n - b.size)) ≡ n
    by true e = refl
    by false e = let l : b.size ≤ n = grind (arith, nat_tests, e) in omega (arith, l)

module _ (script : Script) (limits : IsScript script) (w : World) (b : Board) (view : tokens.World)
    (state : KernelState)
    (h : IsKernel script w b view state) (c : ℕ) (inside : c < length w.carriers) where
  abbrev K : CarrierSeen
  K = carrier_at w c

  pub shows : Shows script (memory_of w) b
  shows = h.aligned.shows.shows

  -- what it has in hand is found there
  pub hand_found : (x : HandSeen) → K.hand ≡ Some x → found_in w x.context ≡ Some x.value
  hand_found x e = held_is (memory_of w).context (memory_of w).slot (memory_of w).hand c x shows.places
      (hand_is w c ∙ e)

  pub table_is : K.table ≡ script.table
  table_is = (h.aligned.carriers c inside).sound.table

  pub size_is : K.table ≡ b.size
  size_is = table_is ∙ sym shows.size

  pub in_view : (i : ℕ) (v : ContextSeen) → found_in w i ≡ Some v → ShowsContext view script.table i v
  in_view i v e = context_shown script w b view h.aligned.shows h.whole.pair.alike h.aligned.contexts i v e

  -- a step that it asks for is asked of the context in its hand
  pub asked_so : (x : HandSeen) → ask_of K ≡ Run x → IsAsked view c (name_of b.size x.context)
  asked_so x a =
      let hand : K.hand ≡ Some x = hand_of_run K x a in
      let al = h.aligned.carriers c inside in
      let shown : ShowsContext view K.table x.context x.value =
      subst (λ n. ShowsContext view n x.context x.value) (sym table_is)
      (in_view x.context x.value (hand_found x hand)) in
      record {
        hand = ap (λ (k : tokens.Carrier). k.hand) al.viewed
            ∙ ap (λ (o : Option HandSeen). name_by K.table (number_in o)) hand
            ∙ ap (λ n. Some (name_of n x.context)) size_is;
        kept = (λ z. rules.gives view (sym al.number z) (al.viewed z) (name_of (sym size_is z) x.context))
            ∙ gives_same view K x shown ∙ run_kept K x K.hand refl a;
      }

  pub next_at : (x : HandSeen) → ask_of K ≡ Run x → has_next (b.context x.context).at ≡ true
  next_at x a = ap (λ n. has_next (b.context n).at) (sym (numbered b x.context))
      ∙ asked_next (ranged_programs script) b view h.whole.pair c (name_of b.size x.context) (asked_so x a)
