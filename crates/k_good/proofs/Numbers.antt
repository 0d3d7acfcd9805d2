-- The list of numbers agrees with the words after any turn.
use Rattle.std.proofs.Common.{◌≡◌, ◌≢◌, ℕ, ◌<◌, Bool, true, false, refl, sym, ap, ◌∙◌, subst, arith, Option, Some, None, inl, inr, not}
use Rattle.std.specs.Prelude.{length}
use Rattle.std.proofs.lemmas.Bool.Decides.{eqb_tells}
use Rattle.k_ids.specs.declared.threads.ThreadId.{ThreadId}
use Rattle.k_ids.specs.declared.calls.Phase.{Phase}
use Rattle.k_ids.specs.declared.calls.Phase.TheVariants as phase
use Rattle.k_ids.specs.declared.state_word.StateWord.{StateWord}
use Rattle.k_model.specs.Maps.{upd}
use Rattle.k_model.proofs.Maps.{upd_same, upd_other}
use Rattle.k_locks.specs.declared.steps.Went.{Went}
use Rattle.k_locks.specs.declared.steps.Went.TheVariants as went
use Rattle.k_locks.specs.Numbers.{ThreadNumbers, is_present, version_at}
use Rattle.k_locks.specs.Shown.{is_dead}
use Rattle.k_locks.specs.Threads.{runs}
use Rattle.k_ipc.specs.declared.send.SendCall.{SendCall}
use Rattle.k_ipc.specs.declared.send.SendOutside.TheVariants as send_outside
use Rattle.k_ipc.specs.SendTable.{SendAt}
use Rattle.k_ipc.specs.SendTable as send
use Rattle.k_ipc.specs.declared.receive.ReceiveCall.{ReceiveCall}
use Rattle.k_ipc.specs.declared.receive.ReceiveOutside.TheVariants as receive_outside
use Rattle.k_ipc.specs.ReceiveTable.{ReceiveAt}
use Rattle.k_ipc.specs.ReceiveTable as receive
use Rattle.k_threads.specs.Words.{dead_word}
use Rattle.k_board.specs.Words.{Seen}
use Rattle.k_board.specs.Boards.{At, Nowhere, Context, Board}
use Rattle.k_board.specs.Moves.{Change, same, calls, settles, passes, delivers, takes, joins, frees_sender, frees_receiver, kills, makes, leaves, posts}
use Rattle.k_board.specs.Steps.{after, begun_at, receive_at, send_at}
use Rattle.k_good.specs.Numbers.{NumbersHold, by_owner, killed_at, made_at, there_at}

-- WORDS THAT STAY AS THEY WERE, as far as numbers go

pub record Alike (v u : Seen) : Type 0 where
  pub version : u.word.version ≡ v.word.version
  pub dead : is_dead u.word ≡ is_dead v.word
  pub spelled : is_dead v.word ≡ true → u.word ≡ v.word

run_not : (w : StateWord) → runs w.state ≡ true → is_dead w ≡ false
run_not w r = grind arith

-- a step of a context that doesn't own the table lock
pub alike : (b : Board) (i : ℕ) → b.table ≢ Some i → (t : ℕ) (v : Seen) → Change b i t v → Alike (b.seen t) v
alike b i ne _ _ (same t) = record { version = refl; dead = refl; spelled = λ q. refl }
alike b i ne _ _ (calls w r p run goes) = record { version = goes.version; dead = goes.alive ∙ sym (run_not (b.seen i).word run); spelled = λ q. absurd (grind arith) }
alike b i ne _ _ (settles v o ver al al2 ns us) = record { version = ver; dead = al2 ∙ sym al; spelled = λ q. absurd (grind arith) }
alike b i ne _ _ (passes t r o op none) = record { version = refl; dead = refl; spelled = λ q. refl }
alike b i ne _ _ (delivers t from o op told) = record { version = refl; dead = grind arith; spelled = λ q. absurd (grind arith) }
alike b i ne _ _ (takes t to o nj st none) = record { version = refl; dead = grind arith; spelled = λ q. absurd (grind arith) }
alike b i ne _ _ (joins t to o nj hr st) = record { version = refl; dead = grind arith; spelled = λ q. absurd (grind arith) }
alike b i ne _ _ (frees_sender t to joined o tb dd st none) = record { version = refl; dead = grind arith; spelled = λ q. absurd (grind arith) }
alike b i ne _ _ (frees_receiver t from o tb dd st none) = record { version = refl; dead = grind arith; spelled = λ q. absurd (grind arith) }
alike b i ne _ _ (kills t o tb nk al) = absurd (ne tb)
alike b i ne _ _ (makes t w p tb d nw rn ver) = absurd (ne tb)
alike b i ne _ _ (leaves wt) = record { version = refl; dead = grind arith; spelled = λ q. absurd (grind arith) }
alike b i ne _ _ (posts t m o op) = record { version = refl; dead = refl; spelled = λ q. refl }

abbrev pub Numbered : Board → Type 0
Numbered c = NumbersHold c.seen c.numbers c.table c.context

module _ (b b' : Board) where
  -- a step that notes no number
  pub numbers_step : Numbered b → b'.numbers ≡ b.numbers → ((t : ℕ) → Alike (b.seen t) (b'.seen t)) → ((t : ℕ) → by_owner made_at b'.table b'.context t ≡ by_owner made_at b.table b.context t) → ((t : ℕ) → by_owner killed_at b'.table b'.context t ≡ by_owner killed_at b.table b.context t) → ((t : ℕ) → by_owner there_at b'.table b'.context t ≡ by_owner there_at b.table b.context t) → ((t : ℕ) → (b.context t).at ≡ Nowhere → (b'.context t).at ≡ Nowhere) → Numbered b'
  numbers_step h n w made killed there ctx = record {
    whole = ap (λ (k : ThreadNumbers). length k.present) n ∙ h.whole ∙ ap (λ (k : ThreadNumbers). length k.versions) (sym n);
    spelled = λ t d. let was = sym (w t).dead ∙ d in (w t).spelled was ∙ h.spelled t was ∙ ap dead_word (sym (w t).version);
    version = λ t m. ap (λ (k : ThreadNumbers). version_at k t) n ∙ h.version t (sym (made t) ∙ m) ∙ sym (w t).version;
    present = λ t m k. ap (λ (q : ThreadNumbers). is_present q t) n ∙ h.present t (sym (made t) ∙ m) (sym (killed t) ∙ k) ∙ ap not (sym (w t).dead);
    vacant = λ t m d k. ctx t (h.vacant t (subst (λ (q : ThreadNumbers). t < length q.versions) n m) (sym (w t).dead ∙ d) (sym (there t) ∙ k));
  }

-- tests by the owner, where only another context moves, or one of which the test says nothing
module _ (test : At → ℕ → Bool) (context context' : ℕ → Context) (i : ℕ) (same_but : (n : ℕ) → n ≢ i → context' n ≡ context n) where
  test_other : (o : Option ℕ) → o ≢ Some i → (t : ℕ) → by_owner test o context' t ≡ by_owner test o context t
  test_other None ne t = refl
  test_other (Some j) ne t = ap (λ (x : Context). test x.at t) (same_but j (λ e. ne (ap (λ (n : ℕ). Some n) e)))

  pub test_quiet : (o : Option ℕ) (t : ℕ) → test (context' i).at t ≡ test (context i).at t → by_owner test o context' t ≡ by_owner test o context t
  test_quiet None t q = refl
  test_quiet (Some j) t q = elim (eqb_tells j i) [ inl e ↦ subst (λ (n : ℕ). test (context' n).at t ≡ test (context n).at t) (sym e.1) q | inr e ↦ ap (λ (x : Context). test x.at t) (same_but j e.1) ]

-- LOCATIONS OF WHICH THE TESTS SAY NOTHING

pub record IsQuiet (p : At) : Type 0 where
  pub made : (t : ℕ) → made_at p t ≡ false
  pub killed : (t : ℕ) → killed_at p t ≡ false
  pub there : (t : ℕ) → there_at p t ≡ false
  pub somewhere : p ≢ Nowhere

pub after_quiet : (me : ThreadId) (w : Went) → IsQuiet (after me w)
after_quiet me (went.Ends r) = record { made = λ t. refl; killed = λ t. refl; there = λ t. refl; somewhere = λ q. absurd cc }
after_quiet me went.Waits = record { made = λ t. refl; killed = λ t. refl; there = λ t. refl; somewhere = λ q. absurd cc }
after_quiet me went.Picks = record { made = λ t. refl; killed = λ t. refl; there = λ t. refl; somewhere = λ q. absurd cc }
after_quiet me went.CallerDead = record { made = λ t. refl; killed = λ t. refl; there = λ t. refl; somewhere = λ q. absurd cc }
after_quiet me went.On = record { made = λ t. refl; killed = λ t. refl; there = λ t. refl; somewhere = λ q. absurd cc }
after_quiet me went.Again = record { made = λ t. refl; killed = λ t. refl; there = λ t. refl; somewhere = λ q. absurd cc }
after_quiet me (went.Pushed priority) = record { made = λ t. refl; killed = λ t. refl; there = λ t. refl; somewhere = λ q. absurd cc }

pub send_quiet : (c : SendCall) (p : SendAt) → IsQuiet (send_at c p)
send_quiet c (send.Outside (send_outside.Ended w)) = after_quiet c.caller w
send_quiet c (send.Outside send_outside.LoadCaller) = record { made = λ t. refl; killed = λ t. refl; there = λ t. refl; somewhere = λ q. absurd cc }
send_quiet c (send.Outside send_outside.AcquireReceiver) = record { made = λ t. refl; killed = λ t. refl; there = λ t. refl; somewhere = λ q. absurd cc }
send_quiet c (send.Outside (send_outside.CheckCaller r)) = record { made = λ t. refl; killed = λ t. refl; there = λ t. refl; somewhere = λ q. absurd cc }
send_quiet c (send.Locked p) = record { made = λ t. refl; killed = λ t. refl; there = λ t. refl; somewhere = λ q. absurd cc }
send_quiet c (send.Pushing p) = record { made = λ t. refl; killed = λ t. refl; there = λ t. refl; somewhere = λ q. absurd cc }

pub receive_quiet : (c : ReceiveCall) (p : ReceiveAt) → IsQuiet (receive_at c p)
receive_quiet c (receive.Outside (receive_outside.Ended w)) = after_quiet c.caller w
receive_quiet c (receive.Outside receive_outside.LoadCaller) = record { made = λ t. refl; killed = λ t. refl; there = λ t. refl; somewhere = λ q. absurd cc }
receive_quiet c (receive.Outside receive_outside.AcquireOwn) = record { made = λ t. refl; killed = λ t. refl; there = λ t. refl; somewhere = λ q. absurd cc }
receive_quiet c (receive.Locked p) = record { made = λ t. refl; killed = λ t. refl; there = λ t. refl; somewhere = λ q. absurd cc }
receive_quiet c (receive.Pushing p) = record { made = λ t. refl; killed = λ t. refl; there = λ t. refl; somewhere = λ q. absurd cc }

pub begun_quiet : (size : ℕ) (me : ThreadId) (f : Phase) → IsQuiet (begun_at size me f)
begun_quiet size me (phase.Send to message zero joined) = record { made = λ t. refl; killed = λ t. refl; there = λ t. refl; somewhere = λ q. absurd cc }
begun_quiet size me (phase.Reply to message zero) = record { made = λ t. refl; killed = λ t. refl; there = λ t. refl; somewhere = λ q. absurd cc }
begun_quiet size me (phase.Receive from zero) = record { made = λ t. refl; killed = λ t. refl; there = λ t. refl; somewhere = λ q. absurd cc }
begun_quiet size me (phase.Create program priority) = record { made = λ t. refl; killed = λ t. refl; there = λ t. refl; somewhere = λ q. absurd cc }
begun_quiet size me (phase.Destroy who) = record { made = λ t. refl; killed = λ t. refl; there = λ t. refl; somewhere = λ q. absurd cc }
begun_quiet size me phase.End = record { made = λ t. refl; killed = λ t. refl; there = λ t. refl; somewhere = λ q. absurd cc }

-- a step between two such locations, of a context that doesn't own the table lock
pub quiet_step : (b b' : Board) (i : ℕ) (x : Context) → Numbered b → b'.numbers ≡ b.numbers → b'.table ≡ b.table → b.table ≢ Some i → ((t : ℕ) → Change b i t (b'.seen t)) → ((n : ℕ) → b'.context n ≡ upd b.context i x n) → IsQuiet (b.context i).at → IsQuiet x.at → Numbered b'
quiet_step b b' i x h n tb mine ch ctx was now =
    numbers_step b b' h n (λ t. alike b i mine t (b'.seen t) (ch t)) (quiet made_at was.made now.made) (quiet killed_at was.killed now.killed) (quiet there_at was.there now.there) away
  where
    but : (n : ℕ) → n ≢ i → b'.context n ≡ b.context n
    but n ne = ctx n ∙ upd_other b.context i x n ne

    at : b'.context i ≡ x
    at = ctx i ∙ upd_same b.context i x

    quiet : (test : At → ℕ → Bool) → ((t : ℕ) → test (b.context i).at t ≡ false) → ((t : ℕ) → test x.at t ≡ false) → (t : ℕ) → by_owner test b'.table b'.context t ≡ by_owner test b.table b.context t
    quiet test q r t = ap (λ (o : Option ℕ). by_owner test o b'.context t) tb ∙ test_quiet test b.context b'.context i but b.table t (ap (λ (y : Context). test y.at t) at ∙ r t ∙ sym (q t))

    away : (t : ℕ) → (b.context t).at ≡ Nowhere → (b'.context t).at ≡ Nowhere
    away t e = ap (λ (y : Context). y.at) (but t (λ q. was.somewhere (ap (λ (n : ℕ). (b.context n).at) (sym q) ∙ e))) ∙ e
