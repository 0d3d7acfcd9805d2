-- What a carrier asks for without a hand.
use Rattle.std.proofs.Common.{◌≡◌, ℕ, true, refl, sym, ap, ◌∙◌, Option, Some, None}
use Rattle.k_ids.specs.ContextWords.{context_bits, context_word_of}
use Rattle.k_script.specs.Script.{Script}
use Rattle.k_caller.proofs.Owned.{either}
use Rattle.k_carrier.specs.Asked.{ask_at, ask_of, ask_with, move_by, out_of, taken_word}
use Rattle.k_carrier.specs.Moves.{Look, TakeContext}
use Rattle.k_carrier.specs.Rules.{begins, context_at, readied, target_of}
use Rattle.k_carrier.specs.Seen.{CarrierSeen}

pub readied_number : (c : CarrierSeen) → (readied c).number ≡ c.number
readied_number c = either (λ (x : CarrierSeen). x.number ≡ c.number) (begins c) (record c { switching = true; help = None; looked = None }) c refl refl

asks : (c r : CarrierSeen) (o : Option ℕ) → c.hand ≡ None → r ≡ readied c → r.looked ≡ o → ask_of c ≡ ask_at r o
asks c r o empty ready looked = ap (ask_with c) empty ∙ ap (λ (x : CarrierSeen). ask_at x x.looked) (sym ready) ∙ ap (ask_at r) looked

pub look_out : (script : Script) (c r : CarrierSeen) → c.hand ≡ None → r ≡ readied c → r.looked ≡ None → Look (context_at r (target_of r)) ≡ out_of script c
look_out script c r empty ready looked = ap (move_by script c) (sym (asks c r None empty ready looked))

pub take_out : (script : Script) (c r : CarrierSeen) (seen : ℕ) → c.hand ≡ None → r ≡ readied c → r.looked ≡ Some seen → TakeContext (context_at r (target_of r)) seen (context_bits (taken_word r.number (context_word_of seen))) ≡ out_of script c
take_out script c r seen empty ready looked =
    ap (λ (n : ℕ). TakeContext (context_at r (target_of r)) seen (context_bits (taken_word n (context_word_of seen)))) (ap (λ (x : CarrierSeen). x.number) ready ∙ readied_number c)
    ∙ ap (move_by script c) (sym (asks c r (Some seen) empty ready looked))
