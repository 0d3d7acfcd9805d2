use Rattle.std.proofs.lemmas.List.{get_or_read}
use Rattle.std.proofs.Common.{rules, List, length, ◌<◌, ◌≡◌, ◌++◌, [], ◌∷◌, get_or, set, sym, subst, ap, ◌∙◌}
use Rattle.k_ids.specs.declared.histories.ReplyLine.{ReplyLine}
use Rattle.k_machine.specs.declared.last_call.LastCall.{LastCall}
use Rattle.k_machine.specs.Replies.{AreKept, noted, no_call}
use Rattle.k_machine.proofs.Calls.{kept_push, kept_past}
use Rattle.k_machine.proofs.replies.Replies.push.Goals as goal

pub invariant_of-self : goal.invariant_of-self
invariant_of-self c =
    let line : ReplyLine = record { id = c.args.id; serial = c.args.serial; reply = c.args.reply } in
    let lines = c.self.inside.lines.items in
    let calls = c.self.inside.calls.items in
    let inside : c.args.id.number < length calls = search rules in
    let note : c.note.new.self ≡ noted (get_or calls c.args.id.number no_call) c.args.id.version c.args.serial c.args.reply =
    c.note.ensures ∙ ap (λ (call : LastCall). noted call c.args.id.version c.args.serial c.args.reply) (get_or_read calls c.args.id.number c.index_mut.result.now inside c.index_mut.ensures.value no_call) in
    let pushed : c.push_reserved.new.self.items ≡ lines ++ line ∷ [] = search rules in
    subst (λ (ls : List ReplyLine). AreKept ls (set calls c.args.id.number c.note.new.self)) (sym pushed)
    (subst (λ (call : LastCall). AreKept (lines ++ line ∷ []) (set calls c.args.id.number call)) (sym note) (kept_push lines calls line inside c.self.invariant))

pub invariant_of-self-else-number-len : goal.invariant_of-self-else-number-len
invariant_of-self-else-number-len c =
    let line : ReplyLine = record { id = c.args.id; serial = c.args.serial; reply = c.args.reply } in
    let lines = c.self.inside.lines.items in
    let pushed : c.push_reserved.new.self.items ≡ lines ++ line ∷ [] = search rules in
    subst (λ (ls : List ReplyLine). AreKept ls c.self.inside.calls.items) (sym pushed) (kept_past lines c.self.inside.calls.items line (search rules) c.self.invariant)
