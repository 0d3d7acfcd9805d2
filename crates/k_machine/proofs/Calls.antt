-- Each number's last call keeps the reply that the list has for it when a reply comes.
use Rattle.std.proofs.Common.{◌≡◌, ◌≢◌, ℕ, ◌<◌, ◌≤◌, List, [], ◌∷◌, ◌++◌, length, get_or, set, sym, ap, ◌∙◌, subst, cond, refl, Some, None, length-set, get_or-set_same, get_or-set_other, arith, inl, inr}
use Rattle.std.specs.Option.{option_or}
use Rattle.std.proofs.lemmas.Bool.{cases_eq, eq-eqb}
use Rattle.k_ids.specs.declared.threads.ThreadId.{ThreadId}
use Rattle.k_ids.specs.declared.histories.ReplyLine.{ReplyLine}
use Rattle.k_machine.specs.declared.last_call.LastCall.{LastCall}
use Rattle.k_machine.specs.Replies.{AreKept, is_call, no_call, noted}
use Rattle.k_model.specs.Answered.{is_reply_to, reply_to}
use Rattle.k_model.proofs.Answered.{reply_push, others_keep, other_number}

-- The number shown by the line: its last call, with the reply noted.
noted_is : (lines : List ReplyLine) (line : ReplyLine) (call : LastCall) → call.reply ≡ reply_to lines (record { number = line.id.number; version = call.version }) call.serial → (noted call line.id.version line.serial line.reply).reply ≡ reply_to (lines ++ line ∷ []) (record { number = line.id.number; version = call.version }) call.serial
noted_is lines line call h =
    let id : ThreadId = record { number = line.id.number; version = call.version } in
    let mine : is_reply_to id call.serial line ≡ is_call call line.id.version line.serial = rw (eq-eqb line.id.number line.id.number refl) refl in
    rw h (sym (reply_push id call.serial lines line ∙ ap (λ b. option_or (reply_to lines id call.serial) (cond b (Some line.reply) None)) mine))

other_is : (lines : List ReplyLine) (line : ReplyLine) (n : ℕ) (call : LastCall) → n ≢ line.id.number → call.reply ≡ reply_to lines (record { number = n; version = call.version }) call.serial → call.reply ≡ reply_to (lines ++ line ∷ []) (record { number = n; version = call.version }) call.serial
other_is lines line n call ne h =
    let id : ThreadId = record { number = n; version = call.version } in
    h ∙ sym (others_keep id call.serial lines (line ∷ []) (other_number id call.serial line (λ e. ne (sym e)), tt))

pub kept_push : (lines : List ReplyLine) (calls : List LastCall) (line : ReplyLine) → line.id.number < length calls → AreKept lines calls → AreKept (lines ++ line ∷ []) (set calls line.id.number (noted (get_or calls line.id.number no_call) line.id.version line.serial line.reply))
kept_push lines calls line inside h = λ n l.
    let number = line.id.number in
    let c : LastCall = noted (get_or calls number no_call) line.id.version line.serial line.reply in
    let Good : ℕ → LastCall → Type 0 = λ t call. call.reply ≡ reply_to (lines ++ line ∷ []) (record { number = t; version = call.version }) call.serial in
    elim (cases_eq n number) [
      | inl e ↦ subst (λ (t : ℕ). Good t (get_or (set calls number c) t no_call)) (sym e) (subst (Good number) (sym (get_or-set_same calls number c no_call inside)) (noted_is lines line (get_or calls number no_call) (h number inside)))
      | inr ne ↦ subst (Good n) (sym (get_or-set_other calls number n c no_call ne)) (other_is lines line n (get_or calls n no_call) ne (h n (omega (arith, l, length-set calls number c))))
    ]

pub kept_past : (lines : List ReplyLine) (calls : List LastCall) (line : ReplyLine) → length calls ≤ line.id.number → AreKept lines calls → AreKept (lines ++ line ∷ []) calls
kept_past lines calls line outside h = λ n l. other_is lines line n (get_or calls n no_call) (λ e. omega (arith, l, outside, e)) (h n l)
