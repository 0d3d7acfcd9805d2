-- The list of numbers agrees with the words after any turn.
use Rattle.std.proofs.Common.{◌≡◌, ◌≢◌, ℕ, ◌+◌, ◌<◌, Bool, true, false, refl, sym, ap, ◌∙◌, subst, arith, Option, Some, None, [], ◌⊎◌, inl, inr, not, cond}
use Rattle.std.specs.Prelude.{◌==◌, length}
use Rattle.std.proofs.lemmas.Bool.{and_parts, eqb-true}
use Rattle.std.proofs.lemmas.Bool.Decides.{eqb_tells, nat_tests}
use Rattle.std.proofs.lemmas.List.{get_or-set_other, get_or-set_same, length-set}
use Rattle.k_ids.specs.declared.threads.ThreadId.{ThreadId}
use Rattle.k_ids.specs.declared.calls.Reply.{Reply}
use Rattle.k_ids.specs.declared.calls.Reply.TheVariants as reply
use Rattle.k_ids.specs.declared.state_word.StateWord.{StateWord}
use Rattle.k_model.specs.Maps.{upd}
use Rattle.k_model.proofs.Maps.{lowest-Some, upd_same, upd_other}
use Rattle.k_locks.specs.Asks.{Response}
use Rattle.k_locks.specs.Asks as asks
use Rattle.k_locks.specs.Numbers.{alive, is_free, is_present, lowest_free, version_at, with_thread, worn}
use Rattle.k_locks.specs.Shown.{is_dead, is_present_in}
use Rattle.k_script.specs.Plays.{Position}
use Rattle.k_threads.specs.declared.create.CreateCall.{CreateCall}
use Rattle.k_threads.specs.declared.create.CreateOutside.TheVariants as create_outside
use Rattle.k_threads.specs.declared.create.CreateLocked.TheVariants as create_locked
use Rattle.k_threads.specs.declared.create.CreateRelease.TheVariants as create_release
use Rattle.k_threads.specs.CreateTable.{CreateAt, choose, full_point}
use Rattle.k_threads.specs.CreateTable as create
use Rattle.k_threads.specs.Words.{created_word, dead_word, freed_word}
use Rattle.k_board.specs.Words.{Programs, Seen, answered, called, noted, opened}
use Rattle.k_board.specs.Boards.{At, Alone, InCreate, Coming, Nowhere, Context, Board, hand_of}
use Rattle.k_board.specs.Facts.{AllSay}
use Rattle.k_board.specs.Places.{facts_create}
use Rattle.k_board.specs.Steps.{Answers, create_board, create_context, new_context, with_word, write}
use Rattle.k_board.proofs.CreatePlaces.{made_it, made_me, made_other, number_apart}
use Rattle.k_board.proofs.DestroyPlaces.{written_it, written_other}
use Rattle.k_caller.specs.declared.thread.ThreadLocation.TheVariants as location
use Rattle.k_good.specs.Numbers.{by_owner, killed_at, made_at, there_at}
use Rattle.k_good.proofs.Numbers.{Alike, IsQuiet, Numbered, numbers_step, test_quiet}

-- WORDS

pub alike_same : (v : Seen) → Alike v v
alike_same v = record { version = refl; dead = refl; spelled = λ q. refl }

pub alike_eq : (v u : Seen) → u ≡ v → Alike v u
alike_eq v u e = subst (λ (y : Seen). Alike v y) (sym e) (alike_same v)

pub called_alike : (s : ℕ → Seen) (i : ℕ) (r : Option Reply) (p : Position) (t : ℕ) → Alike (s t) (upd s i (called (s i) r p) t)
called_alike s i r p t = elim (eqb_tells t i) [
  | inl e ↦ subst (λ (n : ℕ). Alike (s n) (upd s i (called (s i) r p) n)) (sym e.1) (subst (λ (u : Seen). Alike (s i) u) (sym (upd_same s i (called (s i) r p))) record { version = refl; dead = refl; spelled = λ q. refl })
  | inr e ↦ alike_eq (s t) (upd s i (called (s i) r p) t) (upd_other s i (called (s i) r p) t e.1)
]

pub freed_alike : (s : ℕ → Seen) (n : ℕ) (r : Reply) (w : StateWord) → (s n).word ≡ w → is_dead w ≡ false → (t : ℕ) → Alike (s t) (write (upd s n (answered (s n) r)) n (freed_word w) t)
freed_alike s n r w e d t = elim (eqb_tells t n) [
  | inl q ↦ subst (λ (k : ℕ). Alike (s k) (write (upd s n (answered (s n) r)) n (freed_word w) k)) (sym q.1) (subst (λ (u : Seen). Alike (s n) u) (sym (written_it s n (answered (s n) r) (freed_word w))) record { version = ap (λ (u : StateWord). u.version) (sym e); dead = sym (ap (λ (u : StateWord). is_dead u) e ∙ d); spelled = λ z. absurd (true_false (sym z ∙ ap (λ (u : StateWord). is_dead u) e ∙ d)) })
  | inr q ↦ alike_eq (s t) _ (written_other s n (answered (s n) r) (freed_word w) t q.1)
]
  where
    true_false : true ≡ false → ⊥
    true_false z = cc

-- TESTS

module _ (b b' : Board) (i : ℕ) (x : Context) (at : b'.context i ≡ x) where
  -- of the owner, before and after
  owner_test : (test : At → ℕ → Bool) → b.table ≡ Some i → b'.table ≡ Some i → (t : ℕ) → test x.at t ≡ test (b.context i).at t → by_owner test b'.table b'.context t ≡ by_owner test b.table b.context t
  owner_test test o o' t e = ap (λ (k : Option ℕ). by_owner test k b'.context t) o' ∙ ap (λ (y : Context). test y.at t) at ∙ e ∙ ap (λ (k : Option ℕ). by_owner test k b.context t) (sym o)

  gets_test : (test : At → ℕ → Bool) → b.table ≡ None → b'.table ≡ Some i → (t : ℕ) → test x.at t ≡ false → by_owner test b'.table b'.context t ≡ by_owner test b.table b.context t
  gets_test test o o' t e = ap (λ (k : Option ℕ). by_owner test k b'.context t) o' ∙ ap (λ (y : Context). test y.at t) at ∙ e ∙ ap (λ (k : Option ℕ). by_owner test k b.context t) (sym o)

  leaves_test : (test : At → ℕ → Bool) → b.table ≡ Some i → b'.table ≡ None → (t : ℕ) → test (b.context i).at t ≡ false → by_owner test b'.table b'.context t ≡ by_owner test b.table b.context t
  leaves_test test o o' t e = ap (λ (k : Option ℕ). by_owner test k b'.context t) o' ∙ sym e ∙ ap (λ (k : Option ℕ). by_owner test k b.context t) (sym o)

  module _ (h : Numbered b) (n : b'.numbers ≡ b.numbers) (w : (t : ℕ) → Alike (b.seen t) (b'.seen t)) (ctx : (t : ℕ) → (b.context t).at ≡ Nowhere → (b'.context t).at ≡ Nowhere) where
    pub owner_step : b.table ≡ Some i → b'.table ≡ Some i → ((t : ℕ) → made_at x.at t ≡ made_at (b.context i).at t) → ((t : ℕ) → killed_at x.at t ≡ killed_at (b.context i).at t) → ((t : ℕ) → there_at x.at t ≡ there_at (b.context i).at t) → Numbered b'
    owner_step o o' made killed there = numbers_step b b' h n w (λ t. owner_test made_at o o' t (made t)) (λ t. owner_test killed_at o o' t (killed t)) (λ t. owner_test there_at o o' t (there t)) ctx

    pub gets_step : b.table ≡ None → b'.table ≡ Some i → IsQuiet x.at → Numbered b'
    gets_step o o' q = numbers_step b b' h n w (λ t. gets_test made_at o o' t (q.made t)) (λ t. gets_test killed_at o o' t (q.killed t)) (λ t. gets_test there_at o o' t (q.there t)) ctx

    pub leaves_step : b.table ≡ Some i → b'.table ≡ None → IsQuiet (b.context i).at → Numbered b'
    leaves_step o o' q = numbers_step b b' h n w (λ t. leaves_test made_at o o' t (q.made t)) (λ t. leaves_test killed_at o o' t (q.killed t)) (λ t. leaves_test there_at o o' t (q.there t)) ctx

-- where another context steps, one that is nowhere stays so
pub nowhere_stays : (b : Board) (i : ℕ) (x : Context) → (b.context i).at ≢ Nowhere → (t : ℕ) → (b.context t).at ≡ Nowhere → (upd b.context i x t).at ≡ Nowhere
nowhere_stays b i x ne t e = ap (λ (y : Context). y.at) (upd_other b.context i x t (λ q. ne (ap (λ (n : ℕ). (b.context n).at) (sym q) ∙ e))) ∙ e

-- A CREATE

pub true_not : {a : Bool} → a ≡ true → a ≡ false → ⊥
true_not e q = cc

pub number_not : (n t : ℕ) → (n == t) ≡ false → t ≢ n
number_not n t q e = grind (arith, nat_tests)

pub tells : (t n : ℕ) → (t ≡ n) ⊎ (t ≢ n)
tells t n = elim (eqb_tells t n) [ inl e ↦ inl e.1 | inr e ↦ inr e.1 ]

pub not_number : (n t : ℕ) → t ≢ n → (n == t) ≡ false
not_number n t ne = grind (arith, nat_tests)

numbers_eq : (n : ℕ) → (n == n) ≡ true
numbers_eq n = grind (arith, nat_tests)

module _ (g : Programs) (b : Board) (i : ℕ) (h : Numbered b) (c : CreateCall) where
  abbrev Created : CreateAt → Response → Type 0
  Created p r = Numbered (create_board g b i (b.context i) c p r)

  abbrev ctx_of : CreateAt → Response → Context
  ctx_of p r = create_context (b.context i) c p r (hand_of b [])

  module _ (p : CreateAt) (at : (b.context i).at ≡ InCreate c p) where
    somewhere : (b.context i).at ≢ Nowhere
    somewhere e = absurd_at (sym at ∙ e)
      where
        absurd_at : InCreate c p ≡ Nowhere → ⊥
        absurd_at q = cc

    made_here : (t : ℕ) → made_at (b.context i).at t ≡ made_at (InCreate c p) t
    made_here t = ap (λ (q : At). made_at q t) at

    killed_here : (t : ℕ) → killed_at (b.context i).at t ≡ false
    killed_here t = ap (λ (q : At). killed_at q t) at

    there_here : (t : ℕ) → there_at (b.context i).at t ≡ there_at (InCreate c p) t
    there_here t = ap (λ (q : At). there_at q t) at

  quiet_create : (p : CreateAt) → (b.context i).at ≡ InCreate c p → ((t : ℕ) → made_at (InCreate c p) t ≡ false) → ((t : ℕ) → there_at (InCreate c p) t ≡ false) → IsQuiet (b.context i).at
  quiet_create p at m t = record { made = λ n. made_here p at n ∙ m n; killed = killed_here p at; there = λ n. there_here p at n ∙ t n; somewhere = somewhere p at }

  -- under the table lock, where nothing is placed, made or noted
  still_create : (p : CreateAt) (r : Response) → (b.context i).at ≡ InCreate c p → (create_board g b i (b.context i) c p r).numbers ≡ b.numbers → (create_board g b i (b.context i) c p r).context ≡ upd b.context i (ctx_of p r) → ((t : ℕ) → Alike (b.seen t) ((create_board g b i (b.context i) c p r).seen t)) → b.table ≡ Some i → (create_board g b i (b.context i) c p r).table ≡ Some i → ((t : ℕ) → made_at (ctx_of p r).at t ≡ made_at (InCreate c p) t) → ((t : ℕ) → killed_at (ctx_of p r).at t ≡ false) → ((t : ℕ) → there_at (ctx_of p r).at t ≡ there_at (InCreate c p) t) → Created p r
  still_create p r at n k w o o' made killed there =
      owner_step b (create_board g b i (b.context i) c p r) i (ctx_of p r) (ap (λ (f : ℕ → Context). f i) k ∙ upd_same b.context i (ctx_of p r)) h n w
      (λ t e. ap (λ (f : ℕ → Context). (f t).at) k ∙ nowhere_stays b i (ctx_of p r) (somewhere p at) t e) o o'
      (λ t. made t ∙ sym (made_here p at t)) (λ t. killed t ∙ sym (killed_here p at t)) (λ t. there t ∙ sym (there_here p at t))

  load_create : (w : StateWord) → (b.context i).at ≡ InCreate c (create.Locked create_locked.LoadCaller) → b.table ≡ Some i → c.caller.number ≡ i → Created (create.Locked create_locked.LoadCaller) (asks.Word w)
  load_create w at o me = still_create (create.Locked create_locked.LoadCaller) (asks.Word w) at refl refl (alike (is_dead w) (lowest_free b.numbers)) o o (λ t. made (is_dead w) (lowest_free b.numbers) t) (λ t. refl) (λ t. there (is_dead w) (lowest_free b.numbers) t)
    where
      alike : (dead : Bool) (f : Option ℕ) (t : ℕ) → Alike (b.seen t) (noted g b.seen (b.context i).position (cond dead None (full_point c b.numbers f)) t)
      alike true f t = alike_same (b.seen t)
      alike false (Some n) t = alike_same (b.seen t)
      alike false None t = called_alike b.seen c.caller.number (Some (reply.Full (alive b.numbers) (worn b.numbers))) (b.context i).position t

      made : (dead : Bool) (f : Option ℕ) (t : ℕ) → made_at (InCreate c (create.Locked (cond dead (create_locked.Release create_release.Dead) (choose b.numbers f)))) t ≡ false
      made true f t = refl
      made false None t = refl
      made false (Some n) t = refl

      there : (dead : Bool) (f : Option ℕ) (t : ℕ) → there_at (InCreate c (create.Locked (cond dead (create_locked.Release create_release.Dead) (choose b.numbers f)))) t ≡ false
      there true f t = refl
      there false None t = refl
      there false (Some n) t = refl

  -- a context is placed
  place_create : (id : ThreadId) → (b.context i).at ≡ InCreate c (create.Locked (create_locked.PlaceContext id)) → b.table ≡ Some i → Created (create.Locked (create_locked.PlaceContext id)) asks.Placed
  place_create id at o =
      let q = quiet_create (create.Locked (create_locked.PlaceContext id)) at (λ t. refl) (λ t. refl) in
      let was = λ (test : At → ℕ → Bool) (t : ℕ) (e : test (b.context i).at t ≡ false). ap (λ (k : Option ℕ). by_owner test k b.context t) o ∙ e in
      record {
        whole = h.whole;
        spelled = h.spelled;
        version = λ t m. h.version t (was made_at t (q.made t));
        present = λ t m k. h.present t (was made_at t (q.made t)) (was killed_at t (q.killed t));
        vacant = λ t m d k. away t (h.vacant t m d (was there_at t (q.there t))) (apart t k);
      }
    where
      apart : (t : ℕ) → by_owner there_at b.table (create_board g b i (b.context i) c (create.Locked (create_locked.PlaceContext id)) asks.Placed).context t ≡ false → t ≢ id.number
      apart t k = number_not id.number t (ap (λ (y : Context). there_at y.at t) (sym (upd_same (upd b.context id.number (new_context g c id Coming)) i (ctx_of (create.Locked (create_locked.PlaceContext id)) asks.Placed))) ∙ ap (λ (m : Option ℕ). by_owner there_at m (create_board g b i (b.context i) c (create.Locked (create_locked.PlaceContext id)) asks.Placed).context t) (sym o) ∙ k)

      away : (t : ℕ) → (b.context t).at ≡ Nowhere → t ≢ id.number → ((create_board g b i (b.context i) c (create.Locked (create_locked.PlaceContext id)) asks.Placed).context t).at ≡ Nowhere
      away t e ne = ap (λ (y : Context). y.at) (upd_other (upd b.context id.number (new_context g c id Coming)) i _ t (λ q. somewhere (create.Locked (create_locked.PlaceContext id)) at (ap (λ (n : ℕ). (b.context n).at) (sym q) ∙ e)) ∙ upd_other b.context id.number _ t ne) ∙ e

  -- the thread is made
  commit_create : (id : ThreadId) → (b.context i).at ≡ InCreate c (create.Locked (create_locked.CommitCreate id)) → c.caller.number ≡ i → AllSay g b i (b.context i) (facts_create c (create.Locked (create_locked.CommitCreate id))) → Created (create.Locked (create_locked.CommitCreate id)) asks.Won
  commit_create id at me f = record {
    whole = h.whole;
    spelled = λ t d. spelled t d (tells t id.number);
    version = λ t m. h.version t (was made_at t (made_here p at t)) ∙ sym (same_version t (new_made t m));
    present = λ t m k. h.present t (was made_at t (made_here p at t)) (was killed_at t (killed_here p at t)) ∙ ap not (sym (same_dead t (new_made t m)));
    vacant = λ t m d k. vacant t m d (tells t id.number);
  }
    where
      p : CreateAt
      p = create.Locked (create_locked.CommitCreate id)

      B : Board
      B = create_board g b i (b.context i) c (create.Locked (create_locked.CommitCreate id)) asks.Won

      o : b.table ≡ Some i
      o = f.0

      was : (test : At → ℕ → Bool) (t : ℕ) → test (b.context i).at t ≡ false → by_owner test b.table b.context t ≡ false
      was test t e = ap (λ (k : Option ℕ). by_owner test k b.context t) o ∙ e

      v : Seen
      v = called (b.seen i) (Some (reply.Made id)) (b.context i).position

      n_i : id.number ≢ i
      n_i = number_apart b (b.context i) id i _ f.1.1.1.1.1.1.0.1 f.1.1.1.1.0.0 f.1.1.1.1.0.1

      seen_is : (t : ℕ) → B.seen t ≡ write (upd (upd b.seen i v) id.number (opened (upd b.seen i v id.number) (g.start id c.program))) id.number (created_word id.version c.priority) t
      seen_is t = ap (λ (k : ℕ). write (upd (upd b.seen k (called (b.seen k) (Some (reply.Made id)) (b.context i).position)) id.number (opened (upd b.seen k (called (b.seen k) (Some (reply.Made id)) (b.context i).position) id.number) (g.start id c.program))) id.number (created_word id.version c.priority) t) me

      here_is : B.seen id.number ≡ with_word (opened (b.seen id.number) (g.start id c.program)) (created_word id.version c.priority)
      here_is = seen_is id.number ∙ made_it b.seen i id.number v (g.start id c.program) (created_word id.version c.priority) n_i

      other_alike : (t : ℕ) → t ≢ id.number → Alike (b.seen t) (B.seen t)
      other_alike t ne = elim (eqb_tells t i) [
        | inl e ↦ subst (λ (k : ℕ). Alike (b.seen k) (B.seen k)) (sym e.1) (subst (λ (u : Seen). Alike (b.seen i) u) (sym (seen_is i ∙ made_me b.seen i id.number v (g.start id c.program) (created_word id.version c.priority) n_i)) record { version = refl; dead = refl; spelled = λ q. refl })
        | inr e ↦ alike_eq (b.seen t) (B.seen t) (seen_is t ∙ made_other b.seen i id.number v (g.start id c.program) (created_word id.version c.priority) n_i t e.1 ne)
      ]

      new_made : (t : ℕ) → by_owner made_at B.table B.context t ≡ false → t ≢ id.number
      new_made t k = number_not id.number t (ap (λ (y : Context). made_at y.at t) (sym (upd_same (upd b.context id.number (new_context g c id (Alone (location.Between None)))) i (ctx_of p asks.Won))) ∙ ap (λ (m : Option ℕ). by_owner made_at m B.context t) (sym o) ∙ k)

      same_version : (t : ℕ) → t ≢ id.number → (B.seen t).word.version ≡ (b.seen t).word.version
      same_version t ne = (other_alike t ne).version

      same_dead : (t : ℕ) → t ≢ id.number → is_dead (B.seen t).word ≡ is_dead (b.seen t).word
      same_dead t ne = (other_alike t ne).dead

      alive_here : is_dead (B.seen id.number).word ≡ false
      alive_here = ap (λ (u : Seen). is_dead u.word) here_is

      spelled : (t : ℕ) → is_dead (B.seen t).word ≡ true → (t ≡ id.number) ⊎ (t ≢ id.number) → (B.seen t).word ≡ dead_word (B.seen t).word.version
      spelled t d (inl e) = absurd (true_not d (subst (λ (k : ℕ). is_dead (B.seen k).word ≡ false) (sym e) alive_here))
      spelled t d (inr e) = let a = other_alike t e in let was_dead = sym a.dead ∙ d in a.spelled was_dead ∙ h.spelled t was_dead ∙ ap dead_word (sym a.version)

      vacant : (t : ℕ) → t < length b.numbers.versions → is_dead (B.seen t).word ≡ true → (t ≡ id.number) ⊎ (t ≢ id.number) → (B.context t).at ≡ Nowhere
      vacant t m d (inl e) = absurd (true_not d (subst (λ (k : ℕ). is_dead (B.seen k).word ≡ false) (sym e) alive_here))
      vacant t m d (inr e) =
          let was_away = h.vacant t m (sym (other_alike t e).dead ∙ d) (was there_at t (there_here p at t ∙ not_number id.number t e)) in
          ap (λ (y : Context). y.at) (upd_other (upd b.context id.number (new_context g c id (Alone (location.Between None)))) i _ t (λ q. somewhere p at (ap (λ (n : ℕ). (b.context n).at) (sym q) ∙ was_away)) ∙ upd_other b.context id.number _ t e) ∙ was_away

  -- the number is noted
  note_create : (id : ThreadId) → (b.context i).at ≡ InCreate c (create.Locked (create_locked.Release (create_release.Made id))) → AllSay g b i (b.context i) (facts_create c (create.Locked (create_locked.Release (create_release.Made id)))) → id.number < length b.numbers.versions → Created (create.Locked (create_locked.Release (create_release.Made id))) asks.Released
  note_create id at f inside = record {
    whole = length-set b.numbers.present id.number true ∙ h.whole ∙ sym (length-set b.numbers.versions id.number (version_at b.numbers id.number + 1));
    spelled = h.spelled;
    version = λ t m. version t (tells t id.number);
    present = λ t m k. present t (tells t id.number);
    vacant = λ t m d k. let was_away = h.vacant t (subst (λ (q : ℕ). t < q) (length-set b.numbers.versions id.number (version_at b.numbers id.number + 1)) m) d (was there_at t (there_here p at t)) in nowhere_stays b i (ctx_of p asks.Released) (somewhere p at) t was_away;
  }
    where
      p : CreateAt
      p = create.Locked (create_locked.Release (create_release.Made id))

      was : (test : At → ℕ → Bool) (t : ℕ) → test (b.context i).at t ≡ false → by_owner test b.table b.context t ≡ false
      was test t e = ap (λ (k : Option ℕ). by_owner test k b.context t) f.0 ∙ e

      there : is_present_in (b.seen id.number).word id ≡ true
      there = f.1.1.1.1.1.1.0.1

      version : (t : ℕ) → (t ≡ id.number) ⊎ (t ≢ id.number) → version_at (with_thread id.number b.numbers) t ≡ (b.seen t).word.version
      version t (inl e) = subst (λ (k : ℕ). version_at (with_thread id.number b.numbers) k ≡ (b.seen k).word.version) (sym e) (get_or-set_same b.numbers.versions id.number (version_at b.numbers id.number + 1) 0 inside ∙ sym f.1.1.1.1.1.1.1.0.2 ∙ sym (eqb-true (b.seen id.number).word.version id.version (and_parts _ _ there).0))
      version t (inr e) = get_or-set_other b.numbers.versions id.number t (version_at b.numbers id.number + 1) 0 e ∙ h.version t (was made_at t (made_here p at t ∙ not_number id.number t e))

      present : (t : ℕ) → (t ≡ id.number) ⊎ (t ≢ id.number) → is_present (with_thread id.number b.numbers) t ≡ not (is_dead (b.seen t).word)
      present t (inl e) = subst (λ (k : ℕ). is_present (with_thread id.number b.numbers) k ≡ not (is_dead (b.seen k).word)) (sym e) (get_or-set_same b.numbers.present id.number true false (subst (λ (k : ℕ). id.number < k) (sym h.whole) inside) ∙ sym (and_parts _ _ there).1)
      present t (inr e) = get_or-set_other b.numbers.present id.number t true false e ∙ h.present t (was made_at t (made_here p at t ∙ not_number id.number t e)) (was killed_at t (killed_here p at t))

  release_create : (e : create_release.the_data) → (b.context i).at ≡ InCreate c (create.Locked (create_locked.Release e)) → (create_board g b i (b.context i) c (create.Locked (create_locked.Release e)) asks.Released).numbers ≡ b.numbers → IsQuiet (b.context i).at → b.table ≡ Some i → Created (create.Locked (create_locked.Release e)) asks.Released
  release_create e at n q o = leaves_step b (create_board g b i (b.context i) c (create.Locked (create_locked.Release e)) asks.Released) i (ctx_of (create.Locked (create_locked.Release e)) asks.Released) (upd_same b.context i _) h n (λ t. alike_same (b.seen t)) (λ t z. nowhere_stays b i _ q.somewhere t z) o refl q

  -- the table lock is another's
  idle_create : (o : ℕ) → (b.context i).at ≡ InCreate c (create.Outside create_outside.AcquireTable) → Created (create.Outside create_outside.AcquireTable) (asks.Owned o)
  idle_create o at = numbers_step b (record b { context = upd b.context i x }) h refl (λ t. alike_same (b.seen t)) (λ t. quiet made_at t (sym (made_here p at t))) (λ t. quiet killed_at t (sym (killed_here p at t))) (λ t. quiet there_at t (sym (there_here p at t))) (λ t e. nowhere_stays b i x (somewhere p at) t e)
    where
      p : CreateAt
      p = create.Outside create_outside.AcquireTable

      x : Context
      x = record (b.context i) { at = InCreate c (create.Outside create_outside.AcquireTable) }

      quiet : (test : At → ℕ → Bool) (t : ℕ) → test x.at t ≡ test (b.context i).at t → by_owner test b.table (upd b.context i x) t ≡ by_owner test b.table b.context t
      quiet test t e = test_quiet test b.context (upd b.context i x) i (λ n ne. upd_other b.context i x n ne) b.table t (ap (λ (y : Context). test y.at t) (upd_same b.context i x) ∙ e)

  pub create_numbers : (p : CreateAt) (r : Response) → (b.context i).at ≡ InCreate c p → c.caller.number ≡ i → Answers b (create.ask_of c (b.context i).own p) r → AllSay g b i (b.context i) (facts_create c p) → Created p r
  create_numbers (create.Outside create_outside.AcquireTable) asks.Got at me an f = gets_step b (create_board g b i (b.context i) c (create.Outside create_outside.AcquireTable) asks.Got) i (ctx_of (create.Outside create_outside.AcquireTable) asks.Got) (upd_same b.context i _) h refl (λ t. alike_same (b.seen t)) (λ t e. nowhere_stays b i _ (somewhere _ at) t e) an refl record { made = λ t. refl; killed = λ t. refl; there = λ t. refl; somewhere = λ q. absurd cc }
  create_numbers (create.Outside create_outside.AcquireTable) (asks.Owned o) at me an f = idle_create o at
  create_numbers (create.Locked create_locked.LoadCaller) (asks.Word w) at me an f = load_create w at f.0 me
  create_numbers (create.Locked (create_locked.PlaceContext id)) asks.Placed at me an f = place_create id at f.0
  create_numbers (create.Locked (create_locked.CommitCreate id)) asks.Won at me an f = commit_create id at me f
  create_numbers (create.Locked (create_locked.CommitCreate id)) (asks.Lost v) at me an f = absurd (an.1 (sym an.0 ∙ f.1.1.1.1.1.1.0.1))
  create_numbers (create.Locked (create_locked.AcquireReady id)) asks.Got at me an f = still_create (create.Locked (create_locked.AcquireReady id)) asks.Got at refl refl (λ t. alike_same (b.seen t)) f.0 f.0 (λ t. refl) (λ t. refl) (λ t. refl)
  create_numbers (create.Locked (create_locked.AcquireReady id)) (asks.Owned o) at me an f = still_create (create.Locked (create_locked.AcquireReady id)) (asks.Owned o) at refl refl (λ t. alike_same (b.seen t)) f.0 f.0 (λ t. refl) (λ t. refl) (λ t. refl)
  create_numbers (create.PushCreated id) asks.Released at me an f = still_create (create.PushCreated id) asks.Released at refl refl (λ t. alike_same (b.seen t)) f.0 f.0 (λ t. refl) (λ t. refl) (λ t. refl)
  create_numbers (create.Locked (create_locked.Release (create_release.Made id))) asks.Released at me an f = note_create id at f (within_number (lowest-Some (is_free b.numbers) (length b.numbers.versions) id.number f.1.1.1.1.1.1.1.0.1).0)
    where
      within_number : {P : Type 0} → P → P
      within_number q = q
  create_numbers (create.Locked (create_locked.Release (create_release.Full alive_ worn_))) asks.Released at me an f = release_create (create_release.Full alive_ worn_) at refl (quiet_create (create.Locked (create_locked.Release (create_release.Full alive_ worn_))) at (λ t. refl) (λ t. refl)) f.0
  create_numbers (create.Locked (create_locked.Release create_release.Dead)) asks.Released at me an f = release_create create_release.Dead at refl (quiet_create (create.Locked (create_locked.Release create_release.Dead)) at (λ t. refl) (λ t. refl)) f.0
  create_numbers (create.Outside (create_outside.Ended w)) r at me an f = absurd f.0
  create_numbers p r at me an f = absurd an
