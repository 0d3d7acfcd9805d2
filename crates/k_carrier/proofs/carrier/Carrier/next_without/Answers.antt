use Rattle.std.proofs.Common.{sym, ap, subst, Option}
use Rattle.k_carrier.specs.declared.moves.Awaits.TheVariants as awaits
use Rattle.k_carrier.specs.declared.moves.Hand.{Hand}
use Rattle.k_carrier.specs.Conditions.{IsSound}
use Rattle.k_carrier.specs.Seen.{CarrierSeen, carrier_in, hands_in}
use Rattle.k_carrier.proofs.Asking.{look_out, take_out}
use Rattle.k_carrier.proofs.Sound.{take_sound}
use Rattle.k_carrier.proofs.carrier.Carrier.next_without.Goals as goal

pub returns-in-None-clause-asked : goal.returns-in-None-clause-asked
returns-in-None-clause-asked c =
    let s = c.args.script.now in
    rw (c.context_at-context.ensures s, c.target.ensures s) (look_out s (carrier_in s c.args.self.now) (carrier_in s c.ready.new.self) (ap (λ (h : Option Hand). hands_in s h) c.requires.empty) (c.ready.ensures s) c.in-None.is)

pub returns-in-Some-clause-asked : goal.returns-in-Some-clause-asked
returns-in-Some-clause-asked c =
    let s = c.args.script.now in
    rw (c.bits-new.ensures, c.taken_word.ensures.word, c.context_word.ensures.word, c.context_at-context.ensures s, c.target.ensures s) (take_out s (carrier_in s c.args.self.now) (carrier_in s c.ready.new.self) c.in-Some.old (ap (λ (h : Option Hand). hands_in s h) c.requires.empty) (c.ready.ensures s) c.in-Some.is)

pub returns-in-Some-clause-sound : goal.returns-in-Some-clause-sound
returns-in-Some-clause-sound c =
    let s = c.args.script.now in
    subst (λ (x : CarrierSeen). IsSound s (record x { awaits = awaits.Take })) (sym (c.ready.ensures s)) (take_sound s (carrier_in s c.args.self.now) c.requires.sound (ap (λ (h : Option Hand). hands_in s h) c.requires.empty))
