use Rattle.std.proofs.Common.{◌∙◌, ap}
use Rattle.k_ipc.specs.declared.send.SendSection.{SendSection}
use Rattle.k_caller.proofs.Owned.{ends_as, send_section_goes}
use Rattle.k_caller.proofs.Resumed.{send_resumed}
use Rattle.k_caller.proofs.activity.send_resumed.Goals as goal

pub ended-requires-clause-own : goal.ended-requires-clause-own
ended-requires-clause-own c =
    ends_as c.args.me _ _ _ _ (c.own-now.ensures ∙ ap (λ (s : SendSection). s.own) (c.resume-went.ensures.section)) (c.resume-went.ensures.went) (send_section_goes c.args.me c.args.section c.args.answer c.requires.id c.requires.sound c.requires.onward)

pub ended-requires-clause-section : goal.ended-requires-clause-section
ended-requires-clause-section c = send_resumed c.args.me c.args.section _ c.args.answer c.requires.sound c.resume-went.ensures.section c.resume-went.ensures.sound
