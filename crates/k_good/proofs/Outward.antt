-- No permitted change makes a thread wait to send to its own number; so a thread that is destroyed has no entry in its own queue.
use Rattle.std.proofs.Common.{◌≡◌, ◌≢◌, ℕ, Bool, true, false, refl, sym, arith, List, [], ◌∷◌, eqb, inl, inr}
use Rattle.std.specs.Prelude.{◌==◌}
use Rattle.std.proofs.lemmas.Bool.{and_parts, eqb-true, cases_Bool}
use Rattle.k_ids.specs.declared.threads.ThreadId.{ThreadId}
use Rattle.k_ids.specs.declared.state_word.State.{State}
use Rattle.k_ids.specs.declared.state_word.State.TheVariants as state
use Rattle.k_senders.specs.declared.entries.SenderEntry.{SenderEntry}
use Rattle.k_senders.specs.Entries.{number_of, sender_of}
use Rattle.k_senders.specs.Queue.{stands}
use Rattle.k_ipc.specs.Words.{sends_to}
use Rattle.k_locks.specs.Threads.{runs}
use Rattle.k_board.specs.Words.{Programs, Seen}
use Rattle.k_board.specs.Boards.{Board}
use Rattle.k_board.specs.Facts.{AllWait}
use Rattle.k_board.specs.Moves.{Change, same, calls, settles, passes, delivers, takes, joins, frees_sender, frees_receiver, kills, makes, leaves, posts, is_sending}
use Rattle.k_board.specs.Places.{PlacesHold}
use Rattle.k_board.specs.Turns.{Supports, Turn}
use Rattle.k_board.proofs.ReceivePlaces.{sends_is}
use Rattle.k_board.proofs.Turning.{turn_changes}
use Rattle.k_good.specs.Outward.{SendsOutward}

unsent_state : (s : State) (to : ThreadId) (joined : Bool) → is_sending s ≡ false → s ≡ state.Sending to joined → ⊥
unsent_state s to joined n e = grind arith

run_state : (s : State) (to : ThreadId) (joined : Bool) → runs s ≡ true → s ≡ state.Sending to joined → ⊥
run_state s to joined n e = grind arith

outward_stays : (b : Board) (i : ℕ) → SendsOutward b.seen → (t : ℕ) (v : Seen) → Change b i t v → (to : ThreadId) (joined : Bool) → v.word.state ≡ state.Sending to joined → to.number ≢ t
outward_stays b i h _ _ (same t) to j q = h t to j q
outward_stays b i h _ _ (calls w r p run goes) to j q = (goes.sends to j q).2
outward_stays b i h _ _ (settles v o ver al al2 ns us) to j q = absurd (unsent_state v.word.state to j ns q)
outward_stays b i h _ _ (passes t r o op none) to j q = h t to j q
outward_stays b i h _ _ (delivers t from o op told) to j q = absurd cc
outward_stays b i h _ _ (takes t other o nj st none) to j q = absurd cc
outward_stays b i h _ _ (joins t other o nj hr st) to j q = absurd cc
outward_stays b i h _ _ (frees_sender t other joined o tb dd st none) to j q = absurd cc
outward_stays b i h _ _ (frees_receiver t from o tb dd st none) to j q = absurd cc
outward_stays b i h _ _ (kills t o tb nk al) to j q = absurd cc
outward_stays b i h _ _ (makes t w p tb d nw rn ver) to j q = absurd (run_state w.state to j rn q)
outward_stays b i h _ _ (leaves wt) to j q = h i to j q
outward_stays b i h _ _ (posts t m o op) to j q = h t to j q

pub outward_keep : (g : Programs) (b b' : Board) (i : ℕ) → PlacesHold g b → SendsOutward b.seen → Supports b i → Turn g b i b' → SendsOutward b'.seen
outward_keep g b b' i f h s turn t to joined q = outward_stays b i h t (b'.seen t) (turn_changes g b f i b' s turn t) to joined q

-- whoever has an entry waits, and so isn't the one that is waited for
pub none_of_its_own : (who : ThreadId) (s : ℕ → Seen) (es : List SenderEntry) → SendsOutward s → AllWait who s es → stands who.number es ≡ false
none_of_its_own who s [] h w = refl
none_of_its_own who s (e ∷ es) h w = elim (cases_Bool (number_of e == who.number)) [
  | inl y ↦ absurd (apart y)
  | inr y ↦ rw y (none_of_its_own who s es h w.1)
]
  where
    apart : (number_of e == who.number) ≡ true → ⊥
    apart y =
        let st = sends_is who (s (number_of e)).word.state (and_parts (eqb (s (number_of e)).word.version (sender_of e).version) (sends_to who (s (number_of e)).word.state) w.0).1 in
        h (number_of e) who st.joined st.is (sym (eqb-true (number_of e) who.number y))
