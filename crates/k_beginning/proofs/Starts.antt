-- The world in which the kernel begins to run a script, with its board and its carriers.
use Rattle.std.proofs.Common.{◌≡◌, ℕ, ◌+◌, ◌-◌, ◌<◌, ◌≤◌, ◌==◌, Bool, true, false, nat_lt, length, refl, sym}
use Rattle.std.proofs.Common.{ap, ◌∙◌, subst, Option, Some, None, List, [], ◌∷◌, ◌++◌, map, arith, inl, inr}
use Rattle.std.specs.Prelude.{◌&&◌, IfSome, if◌then◌else◌, not, replicate}
use Rattle.std.specs.List.{AllByRecursion, list_any}
use Rattle.std.proofs.lemmas.Bool.{cases_Bool, cases_lt, le-ltb, lt-ltb, ltb-true, ne_eqb}
use Rattle.std.proofs.lemmas.List.{get_or-replicate, get_or_past, length-replicate}
use Rattle.std.proofs.lemmas.List.FromFn.{get_or-map-range_with_len, length-map-range_with_len}
use Rattle.k_ids.specs.declared.context_word.ContextWord.TheVariants.{Clean, Empty}
use Rattle.k_ids.specs.ContextWords.{IsContextWord, context_word_of}
use Rattle.k_ids.proofs.ContextSpelled.{context-read}
use Rattle.k_locks.specs.declared.locks.WordName.TheVariants as name
use Rattle.k_script.specs.declared.lines.AtLine.{AtLine}
use Rattle.k_script.specs.declared.lines.AtWhat.{AtWhat}
use Rattle.k_script.specs.declared.lines.AtWhat.TheVariants as what
use Rattle.k_script.specs.Limits.{IsAtLine, IsEvent, IsScript, started, started_by}
use Rattle.k_script.specs.Plays.{opened_for}
use Rattle.k_script.specs.Script.{Script}
use Rattle.k_script.proofs.Within.{start_within}
use Rattle.k_switch.specs.Switches.{first_of_number}
use Rattle.k_switch.specs.declared.switch.Switch.{Switch}
use Rattle.k_caller.specs.declared.activity.Activity.{Activity}
use Rattle.k_caller.specs.declared.activity.Activity.TheVariants as activity
use Rattle.k_context.specs.Contexts.{Carrier, ContextSeen, IsSound, Thread, carrier_of, switched_of}
use Rattle.k_carrier.specs.Conditions.{IsGoalIn, IsOfNumber}
use Rattle.k_carrier.specs.Seen.{CarrierSeen, new_carrier}
use Rattle.k_carrier.specs.Starts.{is_due, no_starts}
use Rattle.k_world.specs.Boot.{boot_context, boot_resting, booted, first_thread, has_start, has_thread}
use Rattle.k_world.specs.Boot.{is_carriers, table_numbers, thread_line}
use Rattle.k_world.specs.Worlds.{Resting, World, carrier_at, resting_in}
use Rattle.k_world.proofs.Booted.{booted_carrier, booted_context, booted_sized, booted_slot}
use Rattle.k_board.specs.Boards.{Board, Coming, Context, Nowhere}
use Rattle.k_places.specs.Boots.{boot_at, boot_board}
use Rattle.k_places.specs.Contexts.{ShowsContext, at_in, switch_at}
use Rattle.k_places.specs.Memory.{Memory, at, memory_of}
use Rattle.k_places.specs.Shows.{ShowsBoard, context_by}
use Rattle.k_places.proofs.Boots.{boot_shown}
use Rattle.k_places.proofs.Raw.{word_is}
use Rattle.k_tokens.specs.World as tokens
use Rattle.k_switching.specs.Boot.{boot, boot_carrier}
use Rattle.k_moves.specs.Views.{carrier_view}
use Rattle.k_aligned.specs.Aligned.{AreSound, IsAligned, found_in}
use Rattle.k_whole.proofs.Wholes.{whole_starts}
use Rattle.k_handling.specs.Handling.{HasKernel}
use Rattle.k_beginning.proofs.Opens.{and_false, beginning, low, opening_of}

-- WHO WAITS FOR A START has a thread line

started_within : (carriers threads n : ℕ) (lines : List AtLine) → AllByRecursion (IsAtLine carriers threads) lines → threads ≤ n →
    list_any (λ t. t == n) (started lines) ≡ false
started_within carriers threads n [] h l = refl
started_within carriers threads n (a ∷ lines) h l = by a.what h.0.event (started_within carriers threads n lines h.1 l)
  where
    by : (x : AtWhat) → IsEvent carriers threads x → list_any (λ t. t == n) (started lines) ≡ false →
        list_any (λ t. t == n) (started_by x ++ started lines) ≡ false
    by (what.Start number) e i = rw (ne_eqb number n (λ q. omega (arith, q, e, l))) i
    by (what.Slice carrier) e i = i

-- A NEW CARRIER

due_none : (t : ℕ) → is_due no_starts t ≡ false
due_none t = elim (cases_lt t 64) [
  | inl l ↦ get_or-replicate 64 t false false l
  | inr l ↦ get_or_past (replicate 64 false) t false (omega (arith, l, length-replicate 64 false))
]

new_viewed : (c size : ℕ) → boot_carrier ≡ carrier_view (new_carrier c size)
new_viewed c size = λ z. record boot_carrier { starts = λ t. sym (due_none t) z }

-- what the board has of a context is somewhere
not_nowhere : (q : Bool) (a : Activity) → (if q then at_in a else Coming) ≡ Nowhere → ⊥
not_nowhere false a e = absurd cc
not_nowhere true (activity.Alone p) e = absurd cc
not_nowhere true (activity.Send s) e = absurd cc
not_nowhere true (activity.Receive s) e = absurd cc
not_nowhere true (activity.Create s) e = absurd cc
not_nowhere true (activity.Destroy s) e = absurd cc

switch_somewhere : (o : Option Switch) → switch_at o ≡ Nowhere → ⊥
switch_somewhere None e = absurd cc
switch_somewhere (Some s) e = absurd cc

module _ (script : Script) (carriers : ℕ) (limits : IsScript script) (few : carriers ≤ 8) where
  abbrev W : World
  W = booted script carriers

  abbrev M : Memory
  M = memory_of W

  abbrev B : Board
  B = boot_board script carriers

  shows : ShowsBoard script W B
  shows = boot_shown script carriers limits few

  -- NUMBERS

  by_kind : (P : Type 0) (n : ℕ) → (has_thread script n ≡ true → P) →
      (has_thread script n ≡ false → is_carriers script carriers n ≡ true → P) →
      (has_thread script n ≡ false → is_carriers script carriers n ≡ false → P) → P
  by_kind P n x y z = elim (cases_Bool (has_thread script n)) [
    | inl t ↦ x t
    | inr f ↦ elim (cases_Bool (is_carriers script carriers n)) [ inl k ↦ y f k | inr g ↦ z f g ]
  ]

  own_after : (n : ℕ) → is_carriers script carriers n ≡ true → script.table ≤ n
  own_after n e = elim (cases_lt n script.table) [
    | inl l ↦
        absurd (let z : false ≡ true =
        sym (ap (λ (t : Bool). not t && nat_lt n (script.table + carriers)) (lt-ltb n script.table l)) ∙ e in cc)
    | inr l ↦ l
  ]

  own_below : (n : ℕ) → is_carriers script carriers n ≡ true → n < script.table + carriers
  own_below n e = elim (cases_lt n (script.table + carriers)) [
    | inl l ↦ l
    | inr l ↦
        absurd (let z : false ≡ true =
        sym (ap (λ (t : Bool). not (nat_lt n script.table) && t) (le-ltb n (script.table + carriers) l)
        ∙ and_false (not (nat_lt n script.table))) ∙ e in cc)
  ]

  -- CONTEXTS

  thread_word : (n : ℕ) → has_thread script n ≡ true → boot_context script carriers n ≡ Clean 1
  thread_word n t = rw t refl

  carrier_word : (n : ℕ) → has_thread script n ≡ false → is_carriers script carriers n ≡ true →
      boot_context script carriers n ≡ Clean 1
  carrier_word n f g = rw f (rw g refl)

  empty_word : (n : ℕ) → has_thread script n ≡ false → is_carriers script carriers n ≡ false →
      boot_context script carriers n ≡ Empty
  empty_word n f g = rw f (rw g refl)

  thread_slot : (n : ℕ) → has_thread script n ≡ true → boot_resting script carriers n ≡ Resting (first_thread script n)
  thread_slot n t = rw t refl

  carrier_slot : (n : ℕ) → has_thread script n ≡ false → is_carriers script carriers n ≡ true →
      boot_resting script carriers n ≡ Resting (carrier_of (n - script.table))
  carrier_slot n f g = rw f (rw g refl)

  nowhere : (n : ℕ) → has_thread script n ≡ false → is_carriers script carriers n ≡ false →
      boot_at script carriers n ≡ Nowhere
  nowhere n f g = rw f (rw g refl)

  context_whole : (n : ℕ) → IsContextWord (boot_context script carriers n)
  context_whole n = by_kind (IsContextWord (boot_context script carriers n)) n
      (λ t. subst IsContextWord (sym (thread_word n t)) (record { born = omega arith; small = omega arith }))
      (λ f g. subst IsContextWord (sym (carrier_word n f g)) (record { born = omega arith; small = omega arith }))
      (λ f g. subst IsContextWord (sym (empty_word n f g)) tt)

  word_first : (n : ℕ) → n < 72 → context_word_of (M.context n) ≡ boot_context script carriers n
  word_first n l =
      ap context_word_of (sym (word_is W (name.Context n)) ∙ booted_context script carriers n l)
      ∙ context-read (boot_context script carriers n) (context_whole n)

  slot_first : (n : ℕ) → n < 72 → M.slot n ≡ boot_resting script carriers n
  unfolding at
  slot_first n l = booted_slot script carriers n l

  found_first : (n : ℕ) → n < 72 → boot_context script carriers n ≡ Clean 1 → (u : ContextSeen) →
      boot_resting script carriers n ≡ Resting u → found_in W n ≡ Some u
  found_first n l e u s =
      ap (context_by M.slot M.hand n) (word_first n l ∙ e) ∙ ap resting_in (slot_first n l ∙ s)

  abbrev IsSoundAt : ℕ → ContextSeen → Type 0
  IsSoundAt n v = IsOfNumber script.table n v × IsSound script v

  thread_sound : (n : ℕ) → has_thread script n ≡ true → IsSoundAt n (first_thread script n)
  thread_sound n t =
      let l = ltb-true n (length script.threads) t in let a = limits.lines.1 in let b = limits.table.1 in
      let p = low script carriers limits few n in (
        refl,
        record {
          id = record { number = omega (arith, l, a, b); born = omega arith; version = omega arith };
          inside = omega (arith, l, a);
          within =
              start_within script (thread_line script n).program (first_of_number n) limits
              (record { number = omega (arith, l, a); first = omega arith; last = omega arith });
          doing = (
            record {
              whole = record {
                version = omega arith;
                priority = omega (arith, p);
                partner = tt;
                agrees = omega arith;
              };
              version = refl;
            },
            refl,
          );
          tells = tt;
        },
      )

  carrier_sound : (n : ℕ) → is_carriers script carriers n ≡ true → IsSoundAt n (carrier_of (n - script.table))
  carrier_sound n e = let l = own_after n e in let m = own_below n e in let f = few in (
    omega (arith, l),
    record { carrier = omega (arith, l, m, f); uncounted = λ z. refl; switch = tt },
  )

  same_value : {u v : ContextSeen} → Some u ≡ Some v → u ≡ v
  same_value e = cc

  nobody : (n : ℕ) (v : ContextSeen) → has_thread script n ≡ false → is_carriers script carriers n ≡ false →
      found_in W n ≡ Some v → ⊥
  nobody n v f g e =
      by v (subst (λ (o : Option ContextSeen). ShowsContext (B.seen n).word n o (B.context n)) e (shows.shows.contexts n))
    where
      by : (u : ContextSeen) → ShowsContext (B.seen n).word n (Some u) (B.context n) → ⊥
      by (Thread t) s =
          not_nowhere ((B.seen n).word.version == t.id.version) t.activity
          (sym (ap (λ (x : Context). x.at) s.context) ∙ nowhere n f g)
      by (Carrier x) s = switch_somewhere x.switch (sym s ∙ nowhere n f g)

  within : (n : ℕ) → (has_thread script n ≡ true → n < 72) × (is_carriers script carriers n ≡ true → n < 72)
  within n = (
    λ t. (let l = ltb-true n (length script.threads) t in let a = limits.lines.1 in let b = limits.table.1 in
        omega (arith, l, a, b)),
    λ e. (let m = own_below n e in let b = limits.table.1 in let f = few in omega (arith, m, b, f)),
  )

  contexts_sound : AreSound script W
  contexts_sound n v e = by_kind (IsSoundAt n v) n
      (λ t. subst (IsSoundAt n) (same_value (sym (found_first n ((within n).0 t) (thread_word n t) (first_thread script n)
      (thread_slot n t)) ∙ e)) (thread_sound n t))
      (λ f g. subst (IsSoundAt n) (same_value (sym (found_first n ((within n).1 g) (carrier_word n f g)
      (carrier_of (n - script.table)) (carrier_slot n f g)) ∙ e)) (carrier_sound n g))
      (λ f g. absurd (nobody n v f g e))

  -- no switch has begun
  abbrev IsFinishedWithin : ContextSeen → Type 0
  IsFinishedWithin v = IfSome (switched_of v) (λ s. IfSome s.goal (IsGoalIn script.table))

  pub finished_first : (n : ℕ) (v : ContextSeen) → found_in W n ≡ Some v → IsFinishedWithin v
  finished_first n v e = by_kind (IsFinishedWithin v) n
      (λ t. subst IsFinishedWithin (same_value (sym (found_first n ((within n).0 t) (thread_word n t) (first_thread script n)
      (thread_slot n t)) ∙ e)) tt)
      (λ f g. subst IsFinishedWithin (same_value (sym (found_first n ((within n).1 g) (carrier_word n f g)
      (carrier_of (n - script.table)) (carrier_slot n f g)) ∙ e)) tt)
      (λ f g. absurd (nobody n v f g e))

  -- CARRIERS

  count : length W.carriers ≡ carriers
  count = (booted_sized script carriers).carriers

  abbrev View : tokens.World
  View = boot (opening_of script carriers)

  new_aligned : (c : ℕ) → c < carriers → IsAligned script c (new_carrier c script.table) View
  new_aligned c l = record {
    number = refl;
    answered = refl;
    sound = record {
      number = let f = few in omega (arith, l, f);
      table = refl;
      goal = tt;
      hand = tt;
      steady = tt;
      others = tt;
      looked = tt;
      awaiting = tt;
    };
    given = record { goal = tt; starts = length-replicate 64 false };
    viewed = new_viewed c script.table;
  }

  first_carrier : (c : ℕ) → c < length W.carriers → carrier_at W c ≡ new_carrier c script.table
  first_carrier c l = booted_carrier script carriers c (subst (λ n. c < n) count l)

  -- WHO IS STILL TO BE STARTED

  unstarted_are : View.unmade ≡ is_due W.unstarted
  unfolding booted
  unstarted_are = λ z t. point t z
    where
      point : (t : ℕ) → (nat_lt t (length script.threads) && has_start script t) ≡ is_due (map (has_start script)
          (table_numbers script)) t
      point t = elim (cases_lt t script.table) [
        | inl l ↦ known t ∙ sym (get_or-map-range_with_len (has_start script) 0 script.table t t false l (omega arith))
        | inr l ↦
            ap (λ (q : Bool). q && has_start script t)
            (le-ltb t (length script.threads) (let a = limits.lines.1 in omega (arith, a, l)))
            ∙ sym (get_or_past (map (has_start script) (table_numbers script)) t false
            (subst (λ n. n ≤ t) (sym (length-map-range_with_len (has_start script) 0 script.table)) l))
      ]
        where
          known : (t : ℕ) → (nat_lt t (length script.threads) && has_start script t) ≡ has_start script t
          known t = elim (cases_lt t (length script.threads)) [
            | inl l ↦ ap (λ (q : Bool). q && has_start script t) (lt-ltb t (length script.threads) l)
            | inr l ↦
                ap (λ (q : Bool). q && has_start script t) (le-ltb t (length script.threads) l)
                ∙ sym (started_within script.carriers (length script.threads) t script.at_lines limits.at_lines.events l)
          ]

  pub first_kernel : HasKernel script (boot_board script carriers) (booted script carriers) (opened_for script)
  unfolding booted
  first_kernel = record {
    view = View;
    kernel = record {
      aligned = record {
        shows = shows;
        carriers =
            λ c l. subst (λ x. IsAligned script c x View) (sym (first_carrier c l))
            (new_aligned c (subst (λ n. c < n) count l));
        count = sym count;
        few = subst (λ n. n ≤ 8) (sym count) few;
        contexts = contexts_sound;
        unstarted = unstarted_are;
        numbers = (booted_sized script carriers).unstarted;
      };
      helps =
          λ c l. subst (λ (x : CarrierSeen). IfSome x.help (λ p. p.context < script.table + length W.carriers))
          (sym (first_carrier c l)) tt;
      whole = whole_starts script limits B (opening_of script carriers) (beginning script carriers limits few);
      serials = record { lasts = λ n. omega arith; serials = λ i. omega arith };
    };
  }
