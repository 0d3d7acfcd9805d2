-- The replies and the final statuses of a legal, playing, finished history of a script.
use Rattle.std.specs.Prelude.{◌≡◌, List, map, IsPermutation}
use Rattle.std.specs.List.{range_with_len}
use Rattle.std.specs.List.Sorted.{IsSorted}
use Rattle.std.specs.declared.cmp.Ordering.{Ordering}
use Rattle.std.specs.Ordering.{nat_cmp, ordering_then}
use Rattle.k_ids.specs.declared.threads.Found.{Found}
use Rattle.k_ids.specs.declared.histories.Entry.{Entry}
use Rattle.k_ids.specs.declared.histories.ReplyLine.{ReplyLine}
use Rattle.k_model.specs.State.{KernelState, found_of}
use Rattle.k_script.specs.Script.{Script}
use Rattle.k_script.specs.Plays.{IsHistory}

-- what each number of the table shows
abbrev pub finals_of : KernelState → List Found
finals_of k = map (found_of k) (range_with_len 0 k.size)

-- the order of the replies: by number, then by version, then by serial
abbrev pub reply_order : ReplyLine → ReplyLine → Ordering
reply_order a b =
    ordering_then (ordering_then (nat_cmp a.id.number b.id.number) (nat_cmp a.id.version b.id.version))
    (nat_cmp a.serial b.serial)

-- These are the replies of the state, in their order.
pub record IsReplies (k : KernelState) (replies : List ReplyLine) : Type 0 where
  pub same : IsPermutation k.replies replies
  pub ordered : IsSorted reply_order replies

-- A RUN of a script: its history is legal, plays the script and is finished; these are the replies and the final statuses of
-- the state that it leaves.
pub record IsRun (script : Script) (history : List Entry) (replies : List ReplyLine) (finals : List Found) : Type 0 where
  pub end : KernelState
  pub played : IsHistory script history end
  pub replied : IsReplies end replies
  pub shown : finals ≡ finals_of end
