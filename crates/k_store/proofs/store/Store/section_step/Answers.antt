use Rattle.k_store.proofs.store.Store.section_step.Goals as goal

pub returns-in-Exchange-clause-performed : goal.returns-in-Exchange-clause-performed
returns-in-Exchange-clause-performed c = λ script w h. rw (c.in-Exchange.is) (c.exchanged.ensures.performed script w c.args.context)

pub returns-in-Acquire-clause-performed : goal.returns-in-Acquire-clause-performed
returns-in-Acquire-clause-performed c = λ script w h. rw (c.in-Acquire.is) (c.acquire.ensures.performed script w)

pub returns-in-Release-clause-performed : goal.returns-in-Release-clause-performed
returns-in-Release-clause-performed c = λ script w h. rw (c.in-Release.is) (c.release.ensures.performed script w c.args.context)

pub returns-in-Place-clause-performed : goal.returns-in-Place-clause-performed
returns-in-Place-clause-performed c = λ script w h. rw (c.in-Place.is) (c.place.ensures.performed script w c.args.context h)

pub returns-in-Remove-clause-performed : goal.returns-in-Remove-clause-performed
returns-in-Remove-clause-performed c = λ script w h. rw (c.in-Remove.is) (c.remove.ensures.performed script w c.args.context)
