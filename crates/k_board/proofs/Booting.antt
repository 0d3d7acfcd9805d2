-- The facts of all contexts hold when the kernel begins.
use Rattle.std.proofs.Common.{ℕ, refl, sym, ap, subst, inl}
use Rattle.k_ids.specs.declared.state_word.Result4.TheVariants as result4
use Rattle.k_ids.specs.declared.state_word.StateWord.{StateWord}
use Rattle.k_caller.specs.Waits.{is_waiting}
use Rattle.k_board.specs.Words.{Programs, here}
use Rattle.k_board.specs.Boards.{At, Board, Context}
use Rattle.k_board.specs.Facts.{AllSay}
use Rattle.k_board.specs.Places.{PlacesHold, facts_of}
use Rattle.k_board.specs.Boots.{Booted, has_thread, has_none, has_carrier}

booted_at : (g : Programs) (b : Board) (n : ℕ) → Booted g b n → AllSay g b n (b.context n) (facts_of (b.context n).at)
booted_at g b n (has_none d e) = subst (λ (p : At). AllSay g b n (b.context n) (facts_of p)) (sym e) tt
booted_at g b n (has_carrier d e) = subst (λ (p : At). AllSay g b n (b.context n) (facts_of p)) (sym e) tt
booted_at g b n (has_thread program priority t) =
    subst (λ (x : Context). AllSay g b n x (facts_of x.at)) (sym t.context)
    (sym t.last, ((record { result = result4.Plain; state = refl; on = refl }, inl t.word), ((ap (λ (w : StateWord). is_waiting w.state) t.word, rw (t.position, t.told) here), tt)))

pub boots : (g : Programs) (b : Board) → ((n : ℕ) → Booted g b n) → PlacesHold g b
boots g b h n = booted_at g b n (h n)
