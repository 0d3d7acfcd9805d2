use Rattle.k_store.proofs.store.Store.perform.Goals as goal

pub returns-in-Section-clause-answer : goal.returns-in-Section-clause-answer
returns-in-Section-clause-answer c = λ script w h. rw (c.in-Section.is) ((c.section_step.ensures.performed script w h).answer)

pub returns-in-Section-clause-words : goal.returns-in-Section-clause-words
returns-in-Section-clause-words c = λ script w h. rw (c.in-Section.is) ((c.section_step.ensures.performed script w h).words)

pub returns-in-Section-clause-slots : goal.returns-in-Section-clause-slots
returns-in-Section-clause-slots c = λ script w h. rw (c.in-Section.is) ((c.section_step.ensures.performed script w h).slots)

pub returns-in-TakeContext-clause-answer : goal.returns-in-TakeContext-clause-answer
returns-in-TakeContext-clause-answer c = λ script w h. rw (c.in-TakeContext.is) ((c.take.ensures.performed script w c.args.context).answer)

pub returns-in-TakeContext-clause-words : goal.returns-in-TakeContext-clause-words
returns-in-TakeContext-clause-words c = λ script w h. rw (c.in-TakeContext.is) ((c.take.ensures.performed script w c.args.context).words)

pub returns-in-TakeContext-clause-slots : goal.returns-in-TakeContext-clause-slots
returns-in-TakeContext-clause-slots c = λ script w h. rw (c.in-TakeContext.is) ((c.take.ensures.performed script w c.args.context).slots)

pub returns-in-GiveContext-clause-answer : goal.returns-in-GiveContext-clause-answer
returns-in-GiveContext-clause-answer c = λ script w h. rw (c.in-GiveContext.is) ((c.give.ensures.performed script w c.args.context).answer)

pub returns-in-GiveContext-clause-words : goal.returns-in-GiveContext-clause-words
returns-in-GiveContext-clause-words c = λ script w h. rw (c.in-GiveContext.is) ((c.give.ensures.performed script w c.args.context).words)

pub returns-in-GiveContext-clause-slots : goal.returns-in-GiveContext-clause-slots
returns-in-GiveContext-clause-slots c = λ script w h. rw (c.in-GiveContext.is) ((c.give.ensures.performed script w c.args.context).slots)

pub returns-in-GiveContext-clause-given : goal.returns-in-GiveContext-clause-given
returns-in-GiveContext-clause-given c = λ script h p. c.give.ensures.given script
