-- How the words of a history line are read back. That this is the inverse of their printing is a law: what is read is what
-- is spelled (`read_line`), so none of these definitions has to be believed.
use Rattle.std.specs.Prelude.{ℕ, ◌+◌, ◌==◌, nat_le, Bool, true, false, ◌&&◌, List, [], ◌∷◌, take, drop, position, codes, Option, Some, None, option_map, option_and_then, is_some, if◌then◌else◌}
use Rattle.std.specs.List.{slice_split}
use Rattle.std.specs.Str.{bytes_eq}
use Rattle.k_ids.specs.declared.threads.ThreadId.{ThreadId}
use Rattle.k_ids.specs.declared.threads.Message.{Message}
use Rattle.k_ids.specs.declared.threads.Status.{Status}
use Rattle.k_ids.specs.declared.threads.Status.TheVariants as status
use Rattle.k_ids.specs.declared.threads.Found.{Found}
use Rattle.k_ids.specs.declared.calls.Phase.{Phase}
use Rattle.k_ids.specs.declared.calls.Phase.TheVariants as phase
use Rattle.k_ids.specs.declared.calls.Act.{Act}
use Rattle.k_ids.specs.declared.calls.Act.TheVariants as act
use Rattle.k_ids.specs.declared.calls.Outcome.{Outcome}
use Rattle.k_ids.specs.declared.calls.Outcome.TheVariants as outcome
use Rattle.k_ids.specs.declared.histories.Entry.{Entry}
use Rattle.k_text.specs.Numbers.{number_of}
use Rattle.k_text.specs.Texts.{Word}

abbrev pub is_space : ℕ → Bool
is_space b = b == 32

abbrev pub is_dot : ℕ → Bool
is_dot b = b == 46

-- what stands between the spaces
abbrev pub parts_of : List ℕ → List Word
parts_of line = slice_split is_space line

-- THREADS AND NUMBERS

abbrev pub at_least : ℕ → ℕ → Option ℕ
at_least least n = if nat_le least n then Some n else None

abbrev pub id_at : ℕ → Word → Option ℕ → Option ThreadId
id_at least w None = None
id_at least w (Some at) = option_and_then (λ number. option_map (λ version. record { number = number; version = version }) (option_and_then (at_least least) (number_of 1048575 (drop (at + 1) w)))) (number_of 63 (take at w))

unfoldable pub id_of : ℕ → Word → Option ThreadId
id_of least w = id_at least w (position is_dot w)

unfoldable pub message_of : Word → Word → Option Message
message_of low high = option_and_then (λ a. option_map (λ b. record { low = a; high = b }) (number_of 4294967295 high)) (number_of 4294967295 low)

-- `now`, or nothing
unfoldable pub zero_of : List Word → Option Bool
zero_of [] = Some false
zero_of (w ∷ []) = if bytes_eq w (codes "now") then Some true else None
zero_of (w ∷ x ∷ ws) = None

-- CALLS: the words behind the first

abbrev pub told_send : Bool → ThreadId → Message → Bool → Phase
told_send joined to message zero = phase.Send to message zero joined

unfoldable pub send_of : Bool → List Word → Option Phase
send_of joined (to ∷ low ∷ high ∷ ws) = option_and_then (λ t. option_and_then (λ m. option_map (λ z. told_send joined t m z) (zero_of ws)) (message_of low high)) (id_of 1 to)
send_of joined ws = None

unfoldable pub reply_of : List Word → Option Phase
reply_of (to ∷ low ∷ high ∷ ws) = option_and_then (λ t. option_and_then (λ m. option_map (λ z. phase.Reply t m z) (zero_of ws)) (message_of low high)) (id_of 1 to)
reply_of ws = None

unfoldable pub receive_of : List Word → Option Phase
receive_of (from ∷ ws) = option_and_then (λ f. option_map (λ z. phase.Receive (Some f) z) (zero_of ws)) (id_of 1 from)
receive_of ws = None

unfoldable pub wait_of : List Word → Option Phase
wait_of ws = option_map (λ z. phase.Receive None z) (zero_of ws)

unfoldable pub create_of : List Word → Option Phase
create_of (program ∷ priority ∷ []) = option_and_then (λ p. option_map (λ q. phase.Create p q) (number_of 63 priority)) (number_of 254 program)
create_of ws = None

unfoldable pub destroy_of : List Word → Option Phase
destroy_of (who ∷ []) = option_map (λ w. phase.Destroy w) (id_of 1 who)
destroy_of ws = None

unfoldable pub end_of : List Word → Option Phase
end_of [] = Some phase.End
end_of (w ∷ ws) = None

unfoldable pub phase_of : Word → List Word → Option Phase
phase_of first ws =
    if bytes_eq first (codes "send") then send_of false ws
    else (if bytes_eq first (codes "call") then send_of true ws
    else (if bytes_eq first (codes "reply") then reply_of ws
    else (if bytes_eq first (codes "receive") then receive_of ws
    else (if bytes_eq first (codes "wait") then wait_of ws
    else (if bytes_eq first (codes "create") then create_of ws
    else (if bytes_eq first (codes "destroy") then destroy_of ws
    else (if bytes_eq first (codes "end") then end_of ws
    else None)))))))

-- the word alone
abbrev pub alone : Act → List Word → Option Act
alone a [] = Some a
alone a (w ∷ ws) = None

unfoldable pub act_of : List Word → Option Act
act_of [] = None
act_of (first ∷ ws) =
    if bytes_eq first (codes "gone") then alone act.Gone ws
    else (if bytes_eq first (codes "pick") then alone act.Pick ws
    else option_map (λ p. act.Call p) (phase_of first ws))

-- WHAT A NUMBER SHOWS

unfoldable pub sending_of : List Word → Option Status
sending_of (to ∷ []) = option_map (λ t. status.Sending t) (id_of 1 to)
sending_of ws = None

unfoldable pub receiving_of : List Word → Option Status
receiving_of (from ∷ []) = if bytes_eq from (codes "any") then Some (status.Receiving None) else option_map (λ f. status.Receiving (Some f)) (id_of 1 from)
receiving_of ws = None

abbrev pub shown : Status → List Word → Option Status
shown s [] = Some s
shown s (w ∷ ws) = None

unfoldable pub status_of : List Word → Option Status
status_of [] = None
status_of (first ∷ ws) =
    if bytes_eq first (codes "dead") then shown status.Dead ws
    else (if bytes_eq first (codes "run") then shown status.Run ws
    else (if bytes_eq first (codes "sending") then sending_of ws
    else (if bytes_eq first (codes "receiving") then receiving_of ws
    else (if bytes_eq first (codes "picking") then shown status.Picking ws
    else (if bytes_eq first (codes "ended") then shown status.Ended ws
    else None)))))

unfoldable pub found_of : List Word → Option Found
found_of [] = None
found_of (id ∷ ws) = option_and_then (λ i. option_map (λ s. record { id = i; status = s }) (status_of ws)) (id_of 0 id)

-- OUTCOMES

unfoldable pub took_of : List Word → Option Outcome
took_of (from ∷ low ∷ high ∷ []) = option_and_then (λ f. option_map (λ m. outcome.Took f m) (message_of low high)) (id_of 1 from)
took_of ws = None

unfoldable pub made_of : List Word → Option Outcome
made_of (id ∷ []) = option_map (λ i. outcome.Made i) (id_of 1 id)
made_of ws = None

unfoldable pub full_of : List Word → Option Outcome
full_of (a ∷ alive ∷ w ∷ worn ∷ []) =
    if bytes_eq a (codes "alive") && bytes_eq w (codes "worn") then option_and_then (λ m. option_map (λ n. outcome.Full m n) (number_of 64 worn)) (number_of 64 alive) else None
full_of ws = None

abbrev pub just : Outcome → List Word → Option Outcome
just o [] = Some o
just o (w ∷ ws) = None

unfoldable pub outcome_of : List Word → Option Outcome
outcome_of [] = None
outcome_of (first ∷ ws) =
    if bytes_eq first (codes "passed") then just outcome.Passed ws
    else (if bytes_eq first (codes "waits") then just outcome.Waits ws
    else (if bytes_eq first (codes "took") then took_of ws
    else (if bytes_eq first (codes "made") then made_of ws
    else (if bytes_eq first (codes "killed") then just outcome.Killed ws
    else (if bytes_eq first (codes "absent") then option_map (λ f. outcome.Absent f) (found_of ws)
    else (if bytes_eq first (codes "busy") then option_map (λ f. outcome.Busy f) (found_of ws)
    else (if bytes_eq first (codes "nobody") then just outcome.Nobody ws
    else (if bytes_eq first (codes "own") then just outcome.Own ws
    else (if bytes_eq first (codes "full") then full_of ws
    else None)))))))))

-- LINES: an end and a gone have no outcome printed, and every other event has one.

abbrev pub silent_outcome : Act → Option Outcome
silent_outcome (act.Call phase.End) = Some outcome.Ended
silent_outcome act.Gone = Some outcome.Freed
silent_outcome a = None

abbrev pub is_arrow : Word → Bool
is_arrow w = bytes_eq w (codes "->")

abbrev pub told : ThreadId → ℕ → Act → Outcome → Entry
told who serial a o = record { event = record { who = who; serial = serial; act = a }; outcome = o }

unfoldable pub silent_of : List Word → Option (Act × Outcome)
silent_of ws = option_and_then (λ a. option_map (λ o. (a, o)) (silent_outcome a)) (act_of ws)

unfoldable pub spoken_of : List Word → List Word → Option (Act × Outcome)
spoken_of front back = option_and_then (λ a. if is_some (silent_outcome a) then None else option_map (λ o. (a, o)) (outcome_of back)) (act_of front)

abbrev pub result_at : List Word → Option ℕ → Option (Act × Outcome)
result_at ws None = silent_of ws
result_at ws (Some at) = spoken_of (take at ws) (drop (at + 1) ws)

unfoldable pub result_of : List Word → Option (Act × Outcome)
result_of ws = result_at ws (position is_arrow ws)

unfoldable pub entry_of : List Word → Option Entry
entry_of (who ∷ serial ∷ ws) = option_and_then (λ w. option_and_then (λ s. option_map (λ r. told w s r.0 r.1) (result_of ws)) (number_of 4294967295 serial)) (id_of 1 who)
entry_of ws = None
