-- A thread's context on the board, and in the view.
use Rattle.std.proofs.Common.{◌≡◌, ℕ, ◌<◌, ◌==◌, Bool, true, false, refl, sym, ap, ◌∙◌, subst, Option, Some, None}
use Rattle.std.specs.Prelude.{if◌then◌else◌}
use Rattle.std.proofs.lemmas.Bool.{eqb-true}
use Rattle.k_ids.specs.declared.state_word.StateWord.{StateWord}
use Rattle.k_script.specs.Script.{Script}
use Rattle.k_caller.specs.declared.activity.Activity.{Activity}
use Rattle.k_caller.specs.declared.activity.Activity.TheVariants as activity
use Rattle.k_caller.specs.declared.thread.ThreadLocation.TheVariants as location
use Rattle.k_caller.specs.Activities as activities
use Rattle.k_caller.specs.Threads.{ThreadSeen}
use Rattle.k_context.specs.Contexts.{ContextSeen, Thread}
use Rattle.k_board.specs.Boards.{Alone, At, Board, Coming, Context}
use Rattle.k_good.specs.Ranges.{is_threads}
use Rattle.k_turns.proofs.Comes.{made_test}
use Rattle.k_places.specs.Contexts.{IsShown, ShowsContext as ShowsOnBoard, at_in, thread_at}
use Rattle.k_places.specs.Memory.{Memory}
use Rattle.k_places.specs.Shows.{Shows, context_in}
use Rattle.k_tokens.specs.World.{Threads, World}
use Rattle.k_grants.specs.Granted.{Agrees}
use Rattle.k_grants.specs.Views.{held_of, look_at, made_by}
use Rattle.k_moves.specs.Views.{ShowsThread, condition_of}

-- the context that is found is this thread's
abbrev pub IsFoundAt : Memory → ℕ → ThreadSeen → Type 0
IsFoundAt m n t = context_in m.context m.slot m.hand n ≡ Some (Thread t)

-- A thread that is to come has made no step, so that what is the same of both is the same of where it stands and of what it is
-- about.
pub stands_like : {A : Type 0} (f : At → A) (word : StateWord) (n : ℕ) (t : ThreadSeen) (x : Context) → IsShown word n t x →
    f Coming ≡ f (Alone (location.Between None)) → f x.at ≡ f (at_in t.activity)
stands_like {A} f word n t x shown same =
    ap f stands ∙ by (word.version == t.id.version) (λ q. (shown.coming (stands ∙ q)).doing)
  where
    stands : x.at ≡ thread_at word t
    stands = ap (λ (y : Context). y.at) shown.context

    by : (q : Bool) → ((if q then at_in t.activity else Coming) ≡ Coming → t.activity ≡ activity.Alone (location.Between None)) →
        f (if q then at_in t.activity else Coming) ≡ f (at_in t.activity)
    by true h = refl
    by false h = same ∙ ap (λ a. f (at_in a)) (sym (h refl))

-- what a location is about is what its thread is about
condition_looks : (a : Activity) → (look_at (at_in a)).condition ≡ condition_of a
condition_looks (activity.Alone p) = refl
condition_looks (activity.Send s) = refl
condition_looks (activity.Receive s) = refl
condition_looks (activity.Create s) = refl
condition_looks (activity.Destroy s) = refl

locks_look : (a : Activity) → (look_at (at_in a)).locks ≡ held_of (activities.locks_of a)
locks_look (activity.Alone p) = refl
locks_look (activity.Send s) = refl
locks_look (activity.Receive s) = refl
locks_look (activity.Create s) = refl
locks_look (activity.Destroy s) = refl

made_looks : (a : Activity) (v : ℕ) → made_by (look_at (at_in a)).is_coming v ≡ v
made_looks (activity.Alone p) v = refl
made_looks (activity.Send s) v = refl
made_looks (activity.Receive s) v = refl
made_looks (activity.Create s) v = refl
made_looks (activity.Destroy s) v = refl

threads_at : (a : Activity) → is_threads (at_in a) ≡ true
threads_at (activity.Alone p) = refl
threads_at (activity.Send s) = refl
threads_at (activity.Receive s) = refl
threads_at (activity.Create s) = refl
threads_at (activity.Destroy s) = refl

made_shown : (word : StateWord) (n : ℕ) (t : ThreadSeen) (x : Context) → IsShown word n t x →
    made_by (look_at x.at).is_coming word.version ≡ t.id.version
made_shown word n t x shown =
    ap (λ p. made_by (look_at p).is_coming word.version) stands ∙ by (word.version == t.id.version) refl
  where
    stands : x.at ≡ thread_at word t
    stands = ap (λ (y : Context). y.at) shown.context

    by : (q : Bool) → (word.version == t.id.version) ≡ q →
        made_by (look_at (if q then at_in t.activity else Coming)).is_coming word.version ≡ t.id.version
    by true e = made_looks t.activity word.version ∙ eqb-true word.version t.id.version e
    by false e = sym (shown.coming (stands ∙ rw e refl)).version

module _ (script : Script) (m : Memory) (b : Board) (sh : Shows script m b) (n : ℕ) (t : ThreadSeen) (found : IsFoundAt m n t) where
  pub is_shown : IsShown (b.seen n).word n t (b.context n)
  is_shown = subst (λ (o : Option ContextSeen). ShowsOnBoard (b.seen n).word n o (b.context n)) found (sh.contexts n)

  -- it stands where it is, once its thread is made
  module _ (made : (b.context n).at ≡ Coming → ⊥) where
    pub version_shown : ((b.seen n).word.version == t.id.version) ≡ true
    version_shown =
        made_test (b.seen n).word t ((b.seen n).word.version == t.id.version) refl
        (λ q. made (ap (λ (z : Context). z.at) is_shown.context ∙ q))

    pub stands : (b.context n).at ≡ at_in t.activity
    stands = ap (λ (z : Context). z.at) is_shown.context ∙ rw version_shown refl

    pub is_thread : is_threads (b.context n).at ≡ true
    is_thread = ap is_threads stands ∙ threads_at t.activity

  module _ (v : World) (agrees : Agrees b v) where
    pub condition_shown : v.threads.condition n ≡ condition_of t.activity
    condition_shown =
        ap (λ (x : Threads). x.condition n) agrees.threads
        ∙ stands_like (λ p. (look_at p).condition) (b.seen n).word n t (b.context n) is_shown refl
        ∙ condition_looks t.activity

    pub locks_shown : v.threads.locks n ≡ held_of (activities.locks_of t.activity)
    locks_shown =
        ap (λ (x : Threads). x.locks n) agrees.threads
        ∙ stands_like (λ p. (look_at p).locks) (b.seen n).word n t (b.context n) is_shown refl
        ∙ locks_look t.activity

    pub push_shown : v.threads.push n ≡ (look_at (at_in t.activity)).push
    push_shown =
        ap (λ (x : Threads). x.push n) agrees.threads
        ∙ stands_like (λ p. (look_at p).push) (b.seen n).word n t (b.context n) is_shown refl

    -- the view has it as it is
    pub thread_shown : (size : ℕ) → n < size → ShowsThread v.threads size n t
    thread_shown size inside = record {
      number = is_shown.number;
      inside = inside;
      made = ap (λ (x : Threads). x.made n) agrees.threads ∙ made_shown (b.seen n).word n t (b.context n) is_shown;
      condition = condition_shown;
      locks = locks_shown;
    }
