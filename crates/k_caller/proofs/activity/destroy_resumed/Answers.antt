use Rattle.std.proofs.Common.{◌∙◌, ap}
use Rattle.k_threads.specs.declared.destroy.DestroySection.{DestroySection}
use Rattle.k_caller.proofs.Owned.{ends_as, destroy_section_goes}
use Rattle.k_caller.proofs.activity.destroy_resumed.Goals as goal

pub ended-requires-clause-own : goal.ended-requires-clause-own
ended-requires-clause-own c =
    ends_as c.args.me _ _ _ _ (c.own-now.ensures ∙ ap (λ (s : DestroySection). s.own) (c.resume-went.ensures.section c.requires.suiting)) (c.resume-went.ensures.went c.requires.suiting) (destroy_section_goes c.args.me c.args.section c.args.answer c.requires.id c.requires.sound c.requires.going c.requires.onward)
