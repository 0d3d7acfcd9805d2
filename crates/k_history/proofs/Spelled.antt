-- What is spelled is read.
use Rattle.std.proofs.Common.{◌≡◌, ℕ, ◌+◌, ◌<◌, ◌≤◌, ◌^◌, Bool, true, false, not, eqb, List, [], ◌∷◌, ◌++◌, length, take, drop, length-append, refl, sym, ap, ◌∙◌, arith, Some, None, inl, inr, decimal, position, append_assoc}
use Rattle.std.proofs.Math.Seq.{take-append_seam, drop-append-add}
use Rattle.std.specs.List.{list_all, position_or_len}
use Rattle.std.specs.Str.{bytes_eq}
use Rattle.std.specs.Prelude.{codes}
use Rattle.std.proofs.lemmas.Bool.{le-leb, and_parts, cases_Bool, lt-ltb}
use Rattle.std.proofs.lemmas.List.{append-nil}
use Rattle.std.proofs.lemmas.List.Folds.{list_all-append}
use Rattle.std.proofs.lemmas.Slice.Eq.{bytes_eq-Decides}
use Rattle.k_ids.specs.declared.threads.ThreadId.{ThreadId}
use Rattle.k_ids.specs.declared.threads.Message.{Message}
use Rattle.k_ids.specs.declared.threads.Status.{Status}
use Rattle.k_ids.specs.declared.threads.Status.TheVariants as status
use Rattle.k_ids.specs.declared.threads.Found.{Found}
use Rattle.k_ids.specs.declared.calls.Phase.TheVariants as phase
use Rattle.k_ids.specs.declared.calls.Act.{Act}
use Rattle.k_ids.specs.declared.calls.Act.TheVariants as act
use Rattle.k_ids.specs.declared.calls.Outcome.{Outcome}
use Rattle.k_ids.specs.declared.calls.Outcome.TheVariants as outcome
use Rattle.k_ids.specs.declared.histories.Entry.{Entry}
use Rattle.k_text.specs.Numbers.{number_of}
use Rattle.k_text.specs.Texts.{Word, id_word, status_words, found_words, now_words, act_words, outcome_words, is_printed, result_words, entry_words, joined}
use Rattle.k_text.proofs.Digits.{number-spelled}
use Rattle.k_history.specs.Fits.{FitsId, FitsMessage, FitsStatus, FitsFound, FitsAct, FitsOutcome, FitsTogether, FitsEntry}
use Rattle.k_history.specs.Reading.{is_dot, parts_of, id_of, message_of, zero_of, send_of, reply_of, receive_of, wait_of, create_of, destroy_of, end_of, phase_of, act_of, sending_of, receiving_of, status_of, found_of, took_of, made_of, full_of, outcome_of, silent_outcome, is_arrow, silent_of, spoken_of, result_of, entry_of}
use Rattle.k_history.proofs.Parts.{not_true, lacks, are_words, decimal_lacks, place_at, parts_joined}
use Rattle.k_history.proofs.Cut.{position_none}

-- IDS

id_cut : (a b : List ℕ) → a ++ codes "." ++ b ≡ a ++ 46 ∷ b
id_cut a b = append_assoc a (46 ∷ []) b

pub id-spelled : (least : ℕ) (id : ThreadId) → FitsId least id → id_of least (id_word id) ≡ Some id
unfolding id_of
id-spelled least id h =
    let a = decimal id.number in
    let b = decimal id.version in
    let small : id.number < 2 ^ 64 = omega (arith, h.number) in
    let at : position is_dot (a ++ 46 ∷ b) ≡ Some (length a) = place_at 46 a b (decimal_lacks 46 id.number (omega arith) small) in
    let front : take (length a) (a ++ 46 ∷ b) ≡ a = take-append_seam a (46 ∷ b) in
    let back : drop (length a + 1) (a ++ 46 ∷ b) ≡ b = drop-append-add a (46 ∷ b) 1 in
    rw (id_cut a b) (rw at (rw (front, back) (rw (number-spelled 63 id.number (omega arith) h.number) (rw (number-spelled 1048575 id.version (omega arith) h.last) (rw (le-leb least id.version h.first) refl)))))

message-spelled : (m : Message) → FitsMessage m → message_of (decimal m.low) (decimal m.high) ≡ Some m
unfolding message_of
message-spelled m h = rw (number-spelled 4294967295 m.low (omega arith) h.low) (rw (number-spelled 4294967295 m.high (omega arith) h.high) refl)

zero-spelled : (z : Bool) → zero_of (now_words z) ≡ Some z
unfolding zero_of
zero-spelled true = refl
zero-spelled false = refl

-- PHASES

pub act-spelled : (a : Act) → FitsAct a → act_of (act_words a) ≡ Some a
unfolding act_of phase_of send_of reply_of receive_of wait_of create_of destroy_of end_of
act-spelled (act.Call (phase.Send to message zero true)) h = rw (id-spelled 1 to h.0) (rw (message-spelled message h.1) (rw (zero-spelled zero) refl))
act-spelled (act.Call (phase.Send to message zero false)) h = rw (id-spelled 1 to h.0) (rw (message-spelled message h.1) (rw (zero-spelled zero) refl))
act-spelled (act.Call (phase.Receive (Some from) zero)) h = rw (id-spelled 1 from h) (rw (zero-spelled zero) refl)
act-spelled (act.Call (phase.Receive None zero)) h = rw (zero-spelled zero) refl
act-spelled (act.Call (phase.Create program priority)) h = rw (number-spelled 254 program (omega arith) h.0) (rw (number-spelled 63 priority (omega arith) h.1) refl)
act-spelled (act.Call (phase.Destroy who)) h = rw (id-spelled 1 who h) refl
act-spelled (act.Call (phase.Reply to message zero)) h = rw (id-spelled 1 to h.0) (rw (message-spelled message h.1) (rw (zero-spelled zero) refl))
act-spelled (act.Call phase.End) h = refl
act-spelled act.Gone h = refl
act-spelled act.Pick h = refl

-- WHAT A NUMBER SHOWS

-- an id isn't the word `any`, which is none
not_any : (id : ThreadId) → FitsId 1 id → bytes_eq (id_word id) (codes "any") ≡ false
unfolding id_of
not_any id h = elim (cases_Bool (bytes_eq (id_word id) (codes "any"))) [
  | inl t ↦
      let same : id_word id ≡ codes "any" = (bytes_eq-Decides (id_word id) (codes "any")).0 t in
      let no : None ≡ Some id = sym (ap (id_of 1) same) ∙ id-spelled 1 id h in
      absurd cc
  | inr f ↦ f
]

status-spelled : (s : Status) → FitsStatus s → status_of (status_words s) ≡ Some s
unfolding status_of sending_of receiving_of
status-spelled status.Dead h = refl
status-spelled status.Run h = refl
status-spelled (status.Sending to) h = rw (id-spelled 1 to h) refl
status-spelled (status.Receiving (Some from)) h = rw (not_any from h) (rw (id-spelled 1 from h) refl)
status-spelled (status.Receiving None) h = refl
status-spelled status.Picking h = refl
status-spelled status.Ended h = refl

found-spelled : (f : Found) → FitsFound f → found_of (found_words f) ≡ Some f
unfolding found_of
found-spelled f h = rw (id-spelled 0 f.id h.id) (rw (status-spelled f.status h.status) refl)

-- OUTCOMES

pub outcome-spelled : (o : Outcome) → FitsOutcome o → is_printed o ≡ true → outcome_of (outcome_words o) ≡ Some o
unfolding outcome_of took_of made_of full_of
outcome-spelled outcome.Passed h p = refl
outcome-spelled outcome.Waits h p = refl
outcome-spelled (outcome.Took from message) h p = rw (id-spelled 1 from h.0) (rw (message-spelled message h.1) refl)
outcome-spelled (outcome.Made id) h p = rw (id-spelled 1 id h) refl
outcome-spelled outcome.Killed h p = refl
outcome-spelled (outcome.Absent found) h p = rw (found-spelled found h) refl
outcome-spelled (outcome.Busy found) h p = rw (found-spelled found h) refl
outcome-spelled outcome.Nobody h p = refl
outcome-spelled outcome.Own h p = refl
outcome-spelled (outcome.Full alive worn) h p = rw (number-spelled 64 alive (omega arith) h.0) (rw (number-spelled 64 worn (omega arith) h.1) refl)
outcome-spelled outcome.Ended h p = absurd cc
outcome-spelled outcome.Freed h p = absurd cc

-- NO WORD OF AN ACT IS THE ARROW

not_arrow_number : (n : ℕ) → n ≤ 4294967295 → is_arrow (decimal n) ≡ false
unfolding number_of
not_arrow_number n h = elim (cases_Bool (is_arrow (decimal n))) [
  | inl t ↦
      let same : decimal n ≡ codes "->" = (bytes_eq-Decides (decimal n) (codes "->")).0 t in
      let no : None ≡ Some n = sym (ap (number_of 4294967295) same) ∙ number-spelled 4294967295 n (omega arith) h in
      absurd cc
  | inr f ↦ f
]

not_arrow_id : (id : ThreadId) → FitsId 1 id → is_arrow (id_word id) ≡ false
unfolding id_of
not_arrow_id id h = elim (cases_Bool (is_arrow (id_word id))) [
  | inl t ↦
      let same : id_word id ≡ codes "->" = (bytes_eq-Decides (id_word id) (codes "->")).0 t in
      let no : None ≡ Some id = sym (ap (id_of 1) same) ∙ id-spelled 1 id h in
      absurd cc
  | inr f ↦ f
]

abbrev no_arrow : List Word → Bool
no_arrow ws = list_all (λ w. not (is_arrow w)) ws

now_arrowless : (z : Bool) → no_arrow (now_words z) ≡ true
now_arrowless true = refl
now_arrowless false = refl

act_arrowless : (a : Act) → FitsAct a → no_arrow (act_words a) ≡ true
act_arrowless (act.Call (phase.Send to message zero true)) h = rw (not_arrow_id to h.0) (rw (not_arrow_number message.low h.1.low) (rw (not_arrow_number message.high h.1.high) (now_arrowless zero)))
act_arrowless (act.Call (phase.Send to message zero false)) h = rw (not_arrow_id to h.0) (rw (not_arrow_number message.low h.1.low) (rw (not_arrow_number message.high h.1.high) (now_arrowless zero)))
act_arrowless (act.Call (phase.Receive (Some from) zero)) h = rw (not_arrow_id from h) (now_arrowless zero)
act_arrowless (act.Call (phase.Receive None zero)) h = now_arrowless zero
act_arrowless (act.Call (phase.Create program priority)) h = rw (not_arrow_number program (omega (arith, h.0))) (rw (not_arrow_number priority (omega (arith, h.1))) refl)
act_arrowless (act.Call (phase.Destroy who)) h = rw (not_arrow_id who h) refl
act_arrowless (act.Call (phase.Reply to message zero)) h = rw (not_arrow_id to h.0) (rw (not_arrow_number message.low h.1.low) (rw (not_arrow_number message.high h.1.high) (now_arrowless zero)))
act_arrowless (act.Call phase.End) h = refl
act_arrowless act.Gone h = refl
act_arrowless act.Pick h = refl

arrow_none : (ws : List Word) → no_arrow ws ≡ true → position is_arrow ws ≡ None
arrow_none ws h = position_none is_arrow ws h

arrow_len : (ws rest : List Word) → no_arrow ws ≡ true → position_or_len is_arrow (ws ++ codes "->" ∷ rest) ≡ length ws
arrow_len [] rest h = refl
arrow_len (w ∷ ws) rest h =
    let p = and_parts _ _ h in
    rw (not_true (is_arrow w) p.0) (rw (arrow_len ws rest p.1) (omega arith))

arrow_at : (ws rest : List Word) → no_arrow ws ≡ true → position is_arrow (ws ++ codes "->" ∷ rest) ≡ Some (length ws)
arrow_at ws rest h =
    let n = arrow_len ws rest h in
    let l : position_or_len is_arrow (ws ++ codes "->" ∷ rest) < length (ws ++ codes "->" ∷ rest) = omega (arith, length-append ws (codes "->" ∷ rest)) in
    rw (lt-ltb _ _ l) (ap Some n)

-- LINES

silent-spelled : (a : Act) (o : Outcome) → FitsAct a → silent_outcome a ≡ Some o → is_printed o ≡ false → result_of (act_words a ++ result_words o) ≡ Some (a, o)
unfolding result_of silent_of
silent-spelled a o h s p =
    let whole : act_words a ++ result_words o ≡ act_words a = rw p (append-nil (act_words a)) in
    rw whole (rw (arrow_none (act_words a) (act_arrowless a h)) (rw (act-spelled a h) (rw s refl)))

spoken-spelled : (a : Act) (o : Outcome) → FitsAct a → FitsOutcome o → silent_outcome a ≡ None → is_printed o ≡ true → result_of (act_words a ++ result_words o) ≡ Some (a, o)
unfolding result_of spoken_of
spoken-spelled a o h f s p =
    let ws = act_words a in
    let outs = outcome_words o in
    let whole : ws ++ result_words o ≡ ws ++ codes "->" ∷ outs = rw p refl in
    let front : take (length ws) (ws ++ codes "->" ∷ outs) ≡ ws = take-append_seam ws (codes "->" ∷ outs) in
    let back : drop (length ws + 1) (ws ++ codes "->" ∷ outs) ≡ outs = drop-append-add ws (codes "->" ∷ outs) 1 in
    rw whole (rw (arrow_at ws outs (act_arrowless a h)) (rw (front, back) (rw (act-spelled a h) (rw s (rw (outcome-spelled o f p) refl)))))

result-spelled : (a : Act) (o : Outcome) → FitsAct a → FitsOutcome o → FitsTogether a o → result_of (act_words a ++ result_words o) ≡ Some (a, o)
result-spelled (act.Call (phase.Send to message zero joined)) o h f t = spoken-spelled (act.Call (phase.Send to message zero joined)) o h f refl t
result-spelled (act.Call (phase.Receive from zero)) o h f t = spoken-spelled (act.Call (phase.Receive from zero)) o h f refl t
result-spelled (act.Call (phase.Create program priority)) o h f t = spoken-spelled (act.Call (phase.Create program priority)) o h f refl t
result-spelled (act.Call (phase.Destroy who)) o h f t = spoken-spelled (act.Call (phase.Destroy who)) o h f refl t
result-spelled (act.Call (phase.Reply to message zero)) o h f t = spoken-spelled (act.Call (phase.Reply to message zero)) o h f refl t
result-spelled (act.Call phase.End) o h f t = silent-spelled (act.Call phase.End) o h (ap Some (sym t)) (ap is_printed t)
result-spelled act.Gone o h f t = silent-spelled act.Gone o h (ap Some (sym t)) (ap is_printed t)
result-spelled act.Pick o h f t = spoken-spelled act.Pick o h f refl t

pub entry-spelled : (e : Entry) → FitsEntry e → entry_of (entry_words e) ≡ Some e
unfolding entry_of
entry-spelled e h = rw (id-spelled 1 e.event.who h.who) (rw (number-spelled 4294967295 e.event.serial (omega arith) h.serial) (rw (result-spelled e.event.act e.outcome h.act h.outcome h.together) refl))

-- NO WORD HAS A SPACE

id_word_whole : (least : ℕ) (id : ThreadId) → FitsId least id → lacks 32 (id_word id) ≡ true
id_word_whole least id h =
    let a = decimal id.number in
    let b = decimal id.version in
    list_all-append _ (a ++ codes ".") b ∙ rw (list_all-append (λ x. not (eqb x 32)) a (codes "."), decimal_lacks 32 id.number (omega arith) (omega (arith, h.number)), decimal_lacks 32 id.version (omega arith) (omega (arith, h.last))) refl

number_whole : (n : ℕ) → n ≤ 4294967295 → lacks 32 (decimal n) ≡ true
number_whole n h = decimal_lacks 32 n (omega arith) (omega arith)

now_whole : (z : Bool) → are_words (now_words z) ≡ true
now_whole true = refl
now_whole false = refl

act_whole : (a : Act) → FitsAct a → are_words (act_words a) ≡ true
act_whole (act.Call (phase.Send to message zero true)) h = rw (id_word_whole 1 to h.0, number_whole message.low h.1.low, number_whole message.high h.1.high) (now_whole zero)
act_whole (act.Call (phase.Send to message zero false)) h = rw (id_word_whole 1 to h.0, number_whole message.low h.1.low, number_whole message.high h.1.high) (now_whole zero)
act_whole (act.Call (phase.Receive (Some from) zero)) h = rw (id_word_whole 1 from h) (now_whole zero)
act_whole (act.Call (phase.Receive None zero)) h = now_whole zero
act_whole (act.Call (phase.Create program priority)) h = rw (number_whole program (omega (arith, h.0)), number_whole priority (omega (arith, h.1))) refl
act_whole (act.Call (phase.Destroy who)) h = rw (id_word_whole 1 who h) refl
act_whole (act.Call (phase.Reply to message zero)) h = rw (id_word_whole 1 to h.0, number_whole message.low h.1.low, number_whole message.high h.1.high) (now_whole zero)
act_whole (act.Call phase.End) h = refl
act_whole act.Gone h = refl
act_whole act.Pick h = refl

status_whole : (s : Status) → FitsStatus s → are_words (status_words s) ≡ true
status_whole status.Dead h = refl
status_whole status.Run h = refl
status_whole (status.Sending to) h = rw (id_word_whole 1 to h) refl
status_whole (status.Receiving (Some from)) h = rw (id_word_whole 1 from h) refl
status_whole (status.Receiving None) h = refl
status_whole status.Picking h = refl
status_whole status.Ended h = refl

outcome_whole : (o : Outcome) → FitsOutcome o → are_words (outcome_words o) ≡ true
outcome_whole outcome.Passed h = refl
outcome_whole outcome.Waits h = refl
outcome_whole (outcome.Took from message) h = rw (id_word_whole 1 from h.0, number_whole message.low h.1.low, number_whole message.high h.1.high) refl
outcome_whole (outcome.Made id) h = rw (id_word_whole 1 id h) refl
outcome_whole outcome.Killed h = refl
outcome_whole (outcome.Absent found) h = rw (id_word_whole 0 found.id h.id) (status_whole found.status h.status)
outcome_whole (outcome.Busy found) h = rw (id_word_whole 0 found.id h.id) (status_whole found.status h.status)
outcome_whole outcome.Nobody h = refl
outcome_whole outcome.Own h = refl
outcome_whole (outcome.Full alive worn) h = rw (number_whole alive (omega (arith, h.0)), number_whole worn (omega (arith, h.1))) refl
outcome_whole outcome.Ended h = refl
outcome_whole outcome.Freed h = refl

result_whole : (o : Outcome) → FitsOutcome o → are_words (result_words o) ≡ true
result_whole o h = elim (cases_Bool (is_printed o)) [
  | inl t ↦ rw t (outcome_whole o h)
  | inr f ↦ rw f refl
]

entry_whole : (e : Entry) → FitsEntry e → are_words (entry_words e) ≡ true
entry_whole e h =
    rw (id_word_whole 1 e.event.who h.who, number_whole e.event.serial h.serial, list_all-append (lacks 32) (act_words e.event.act) (result_words e.outcome), act_whole e.event.act h.act, result_whole e.outcome h.outcome) refl

-- the parts of a line that an entry spells
pub entry_parts : (e : Entry) → FitsEntry e → parts_of (joined (entry_words e)) ≡ entry_words e
entry_parts e h = parts_joined (id_word e.event.who) (decimal e.event.serial ∷ (act_words e.event.act ++ result_words e.outcome)) (entry_whole e h)

-- A LINE HAS AT MOST 13 WORDS

now_few : (z : Bool) → length (now_words z) ≤ 1
now_few true = omega arith
now_few false = omega arith

act_few : (a : Act) → length (act_words a) ≤ 5
act_few (act.Call (phase.Send to message zero joined)) = omega (arith, now_few zero)
act_few (act.Call (phase.Receive (Some from) zero)) = omega (arith, now_few zero)
act_few (act.Call (phase.Receive None zero)) = omega (arith, now_few zero)
act_few (act.Call (phase.Create program priority)) = omega arith
act_few (act.Call (phase.Destroy who)) = omega arith
act_few (act.Call (phase.Reply to message zero)) = omega (arith, now_few zero)
act_few (act.Call phase.End) = omega arith
act_few act.Gone = omega arith
act_few act.Pick = omega arith

status_few : (s : Status) → length (status_words s) ≤ 2
status_few status.Dead = omega arith
status_few status.Run = omega arith
status_few (status.Sending to) = omega arith
status_few (status.Receiving (Some from)) = omega arith
status_few (status.Receiving None) = omega arith
status_few status.Picking = omega arith
status_few status.Ended = omega arith

outcome_few : (o : Outcome) → length (outcome_words o) ≤ 5
outcome_few outcome.Passed = omega arith
outcome_few outcome.Waits = omega arith
outcome_few (outcome.Took from message) = omega arith
outcome_few (outcome.Made id) = omega arith
outcome_few outcome.Killed = omega arith
outcome_few (outcome.Absent found) = omega (arith, status_few found.status)
outcome_few (outcome.Busy found) = omega (arith, status_few found.status)
outcome_few outcome.Nobody = omega arith
outcome_few outcome.Own = omega arith
outcome_few (outcome.Full alive worn) = omega arith
outcome_few outcome.Ended = omega arith
outcome_few outcome.Freed = omega arith

result_few : (o : Outcome) → length (result_words o) ≤ 6
result_few o = elim (cases_Bool (is_printed o)) [
  | inl t ↦ rw t (omega (arith, outcome_few o))
  | inr f ↦ rw f (omega arith)
]

pub entry_few : (e : Entry) → length (entry_words e) ≤ 13
entry_few e = omega (arith, length-append (act_words e.event.act) (result_words e.outcome), act_few e.event.act, result_few e.outcome)
