-- Replies name threads of the table.
use Rattle.std.proofs.Common.{◌≡◌, ℕ, List, [], ◌∷◌, refl, subst, arith, Option, Some, None, inl, inr}
use Rattle.std.specs.List.{AllByRecursion}
use Rattle.std.proofs.lemmas.Bool.{cases_Bool}
use Rattle.k_ids.specs.declared.threads.ThreadId.{ThreadId}
use Rattle.k_ids.specs.declared.calls.Reply.{Reply}
use Rattle.k_ids.specs.declared.calls.Reply.TheVariants as reply
use Rattle.k_ids.specs.declared.histories.ReplyLine.{ReplyLine}
use Rattle.k_model.specs.State.{KernelState}
use Rattle.k_model.specs.Answered.{reply_to, is_reply_to}
use Rattle.k_model.specs.Ranges.{IsRanged, IsKnown, TellsKnown}
use Rattle.k_script.specs.Plays.{IsInRange, TellsInRange}

-- THE REGISTERS name threads of the table, since the replies do.

known_in : (k : KernelState) (id : ThreadId) (table : ℕ) → k.size ≡ table → IsRanged k → IsKnown k id → IsInRange table id
known_in k id table size r h = record {
  number = omega (arith, h.inside, size);
  first = h.first;
  last = omega (arith, h.version, r.versions id.number);
}

-- what holds of each reply holds of the one that is found
found_holds : (P : Reply → Type 0) (lines : List ReplyLine) (id : ThreadId) (serial : ℕ) (r : Reply) →
    AllByRecursion (λ line. P line.reply) lines → reply_to lines id serial ≡ Some r → P r
found_holds P [] id serial r all e = let no : None ≡ Some r = e in absurd cc
found_holds P (line ∷ lines) id serial r all e = elim (cases_Bool (is_reply_to id serial line)) [
  | inl t ↦ let same : Some line.reply ≡ Some r = rw t at e in let is : line.reply ≡ r = cc in subst P is all.0
  | inr f ↦ found_holds P lines id serial r all.1 (rw f at e)
]

pub tells_in : (k : KernelState) (id : ThreadId) (serial table : ℕ) → k.size ≡ table → IsRanged k →
    TellsInRange table (reply_to k.replies id serial)
tells_in k id serial table size r = go (reply_to k.replies id serial) refl
  where
    told : (x : Reply) → TellsKnown k x → TellsInRange table (Some x)
    told reply.Sent h = tt
    told (reply.Got from message) h = known_in k from table size r h
    told (reply.Made made) h = known_in k made table size r h
    told reply.Killed h = tt
    told (reply.Absent found) h = tt
    told (reply.Busy found) h = tt
    told reply.Nobody h = tt
    told reply.Own h = tt
    told (reply.Full alive worn) h = tt
    told reply.Gone h = tt

    go : (o : Option Reply) → reply_to k.replies id serial ≡ o → TellsInRange table o
    go None e = tt
    go (Some x) e = told x (found_holds (TellsKnown k) k.replies id serial x r.told e)
