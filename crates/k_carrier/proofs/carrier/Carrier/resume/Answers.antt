use Rattle.std.proofs.Common.{sym, subst}
use Rattle.k_context.specs.Contexts.{seen_in}
use Rattle.k_carrier.specs.Conditions.{IsSound}
use Rattle.k_carrier.specs.Seen.{carrier_in}
use Rattle.k_carrier.proofs.Sound.{looked_sound, section_sound, took_sound}
use Rattle.k_carrier.proofs.carrier.Carrier.resume.Goals as goal

pub returns-in-Section-clause-sound : goal.returns-in-Section-clause-sound
returns-in-Section-clause-sound c =
    let s = c.args.script.now in
    subst (IsSound s) (sym c.after_section.ensures.carrier) (section_sound s (carrier_in s c.args.self.now) c.in-Section.answer c.requires.sound (rw c.in-Section.is at c.requires.answer) c.after_section.ensures.value)

pub returns-in-Looked-clause-sound : goal.returns-in-Looked-clause-sound
returns-in-Looked-clause-sound c =
    let s = c.args.script.now in
    subst (IsSound s) (sym c.after_look.ensures.carrier) (looked_sound s (carrier_in s c.args.self.now) c.in-Looked.bits c.requires.sound (rw c.in-Looked.is at c.requires.answer))

pub returns-in-Took-clause-sound : goal.returns-in-Took-clause-sound
returns-in-Took-clause-sound c =
    let s = c.args.script.now in
    subst (IsSound s) (sym c.after_take.ensures.carrier) (took_sound s (carrier_in s c.args.self.now) (seen_in s c.in-Took.value) c.requires.sound (rw c.in-Took.is at c.requires.answer))
